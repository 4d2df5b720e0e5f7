-- How many events there may be: nobody serves, or a primary that is to ask, or one that a host joins.
use Rattle.std.proofs.Common.{◌≡◌, ℕ, ◌+◌, ◌*◌, List, refl, ap, ◌∙◌}
use Rattle.disk_dcdd.specs.declared.sector.Place.{Place}
use Rattle.ft_node.specs.declared.ran.Standing.{Standing}
use Rattle.guest_lockstep.specs.Machine.{Machine}
use Rattle.pair_protocol.specs.World.{World}
use Rattle.pair_shell.specs.Bound.{IsBound, IsCount, completions, events_for, nothing_held, settling, up_to_greatest}
use Rattle.pair_shell.specs.Outstanding.{AreOut}
use Rattle.pair_shell.specs.Serves.{AreAll, Serves}
use Rattle.pair_shell.specs.Shown.{shown_at}
use Rattle.pair_shell.specs.declared.serving.ServingNodes.{ServingNodes}
use Rattle.pair_shell.specs.declared.serving.ServingNodes.TheVariants as serving
use Rattle.pair_shell.proofs.Sums.{joined_sum, one_more}

module _ {B S : Type 0} (state : B → S) (writes : B → List Place) (M : Machine S) (w : World S)
    (hosts parts generation : ℕ) where
  bound : (who : ServingNodes) → Serves w generation who → AreAll w hosts generation who → (count most : ℕ) →
      IsCount state writes M w count who → most ≡ up_to_greatest (events_for w.nodes parts count who) →
      IsBound state writes M w hosts parts generation most
  bound who serves all count most counted is =
      record { who = who; serves = serves; all = all; count = count; counted = counted; most_is = is }

  pub nobody_bound : Serves w generation serving.Nobody → AreAll w hosts generation serving.Nobody →
      IsBound state writes M w hosts parts generation 0
  nobody_bound serves all = bound serving.Nobody serves all 0 0 refl refl

  pub primary_bound : (n count a most : ℕ) → Serves w generation (serving.Primary n) →
      AreAll w hosts generation (serving.Primary n) → AreOut state writes M w n count →
      a ≡ up_to_greatest (completions count) → most ≡ up_to_greatest (a + 1) →
      IsBound state writes M w hosts parts generation most
  primary_bound n count a most serves all counted is so =
      bound (serving.Primary n) serves all count most counted (one_more a count most is so)

  pub joining_bound : (n host count pair most : ℕ) (log : Standing) → Serves w generation (serving.Joining n host) →
      AreAll w hosts generation (serving.Joining n host) → AreOut state writes M w n count → log ≡ shown_at w.nodes n →
      pair ≡ up_to_greatest (settling log nothing_held count) → most ≡ up_to_greatest (2 * parts + pair) →
      IsBound state writes M w hosts parts generation most
  joining_bound n host count pair most log serves all counted is sum so =
      bound (serving.Joining n host) serves all count most counted
      (joined_sum parts (settling log nothing_held count) pair most sum so
      ∙ ap (λ l. up_to_greatest (2 * parts + settling l nothing_held count)) is)
