-- Where no event is left, nothing is due at a live node, and a pair is through with its log.
use Rattle.std.proofs.Common.{◌≡◌, ℕ, ◌≤◌, Some, None, ap, arith, subst, sym, ◌∙◌}
use Rattle.guest_lockstep.specs.Machine.{Machine}
use Rattle.pair_protocol.specs.Copying.{Copying}
use Rattle.pair_protocol.specs.World.{World}
use Rattle.ft_node.specs.declared.ran.Standing.{Standing}
use Rattle.ft_world.specs.Guests.{machine_at}
use Rattle.pair_progress.specs.CatchingUp.{IsPair}
use Rattle.pair_shell.specs.Ending.{IsStill, IsThrough}
use Rattle.pair_shell.specs.First.{IsFirst}
use Rattle.pair_shell.specs.Shown.{shown_at}
use Rattle.pair_shell.proofs.PairEvents.{backup_shows, primary_shows}

-- no machine is shown, or none of its operations is found
pub still_none : {S : Type 0} (M : Machine S) (w : World S) (n : ℕ) → None ≡ machine_at w.nodes n → IsStill M w n
still_none M w n none s is = absurd (let no = is ∙ sym none in (cc))

pub still_first : {S : Type 0} (M : Machine S) (w : World S) (n : ℕ) (t : S) → Some t ≡ machine_at w.nodes n →
    IsFirst M t None → IsStill M w n
still_first {S} M w n t shown first s is =
    let both : Some t ≡ Some s = shown ∙ sym is in
    let same : t ≡ s = (cc) in
    subst (λ (u : S). IsFirst M u None) same first

-- what both nodes show of the log
pub through : {S : Type 0} (M : Machine S) (C : Copying S) (w : World S) (n m generation : ℕ) (p : IsPair w n m generation)
    (log held : Standing) → log ≡ shown_at w.nodes n → held ≡ shown_at w.nodes m → log.entries ≤ held.entries →
    log.entries ≤ log.done → IsThrough p.x p.y
through M C w n m generation p log held is_log is_held holds covers =
    let logged = ap (λ (s : Standing). s.entries) (is_log ∙ primary_shows M C w n m generation p) in
    let covered = ap (λ (s : Standing). s.done) (is_log ∙ primary_shows M C w n m generation p) in
    let followed = ap (λ (s : Standing). s.entries) (is_held ∙ backup_shows M C w n m generation p) in
    (omega (arith, logged, followed, holds), omega (arith, logged, covered, covers))
