-- How a node drains. Its moves are those of a replay. While they leave entries the node is still draining; when they
-- leave none it is what an alone node is.
use Rattle.std.proofs.Common.{◌≡◌, ◌≢◌, ℕ, true, false, Bool, cond, is_none, Option, List, length, Ok, Err, refl, sym, subst, ap, ◌∙◌}
use Rattle.std.specs.Prelude.{◌==◌}
use Rattle.std.proofs.lemmas.Bool.{eqb-true}
use Rattle.ft_node.proofs.Words.{Draining, Fault, IsFollower, Machine, NeedsMoves, Node, Reads, Receiving, after_drain, goes_live, wanted}
use Rattle.guest_lockstep.specs.declared.replay_end.ReplayEnd.{ReplayEnd}
use Rattle.guest_lockstep.specs.declared.replay_end.ReplayEnd.TheVariants.{Turns, End, Wait, Memory}
use Rattle.replayer.specs.Replaying as replaying
use Rattle.replayer.specs.declared.replayer.Replayed.{Replayed}
use Rattle.ft_node.specs.Calls as calls
use Rattle.ft_node.specs.declared.ran.Drained.{Drained}
use Rattle.ft_node.proofs.FollowerMoves.{in_role, repeats}

abbrev pub drained_by : Replayed → Drained
drained_by r = record { moves = r.moves; why = r.why }

-- a draining node is not refused
pub allowed : {S : Type 0} (M : Machine S) (reads : Reads) (x : Node S) (s : S) (come : Option (List ℕ)) (r : Receiving) (turns : ℕ) (d : Drained)
    (Is : Node S → Type 0) → IsFollower Draining reads s come r x → calls.Makes x (calls.DrainedBy M turns d) Is
    → calls.Drains M turns x (Ok d) Is
allowed M reads x s come r turns d Is f empties =
    subst (λ refusal. calls.Unless {A = Drained} refusal (Ok d) (Is x) (calls.Makes x (calls.DrainedBy M turns d) Is))
    (sym (in_role Draining reads x s come r f refl)) empties

-- unless nothing is left, it drains on
pub stays_draining : {S : Type 0} (y : Node S) (why : ReplayEnd) → why ≢ End → y ≡ after_drain y why
stays_draining y Turns left = refl
stays_draining y End left = absurd (left refl)
stays_draining y Wait left = refl
stays_draining y Memory left = refl

-- nothing more could be replayed only if nothing is left
at_last : (all none made : Bool) → cond all End (cond none (cond made Turns Memory) Wait) ≡ End → all ≡ true
at_last true none made e = refl
at_last false false made e = absurd cc
at_last false true true e = absurd cc
at_last false true false e = absurd cc

pub not_drained : {S : Type 0} (M : Machine S) (reads : Reads) (x : Node S) (s t : S)
    (come still : Option (List ℕ)) (r new : Receiving) (turns : ℕ) (fault : Fault)
    → IsFollower Draining reads s come r x → new ≡ record r { entries = new.entries }
    → replaying.Answers M s r.entries come turns (Err fault) t new.entries still
    → calls.Drains M turns x (Err fault) (IsFollower Draining reads t still new)
not_drained M reads x s t come still r new turns fault f held answers =
    subst
    (λ refusal. calls.Unless {A = Drained} refusal (Err fault) (IsFollower Draining reads t still new x)
    (calls.Gives (Err fault) (NeedsMoves M turns x × IsFollower Draining reads t still new x)
    (λ d. calls.Makes x (calls.DrainedBy M turns d) (IsFollower Draining reads t still new))))
    (sym (in_role Draining reads x s come r f refl)) (repeats M Draining reads x s t come still r new turns (Err fault) f held answers)

pub drains_on : {S : Type 0} (M : Machine S) (reads : Reads) (x : Node S) (s t : S)
    (come still : Option (List ℕ)) (r new : Receiving) (turns : ℕ) (a : Replayed)
    → IsFollower Draining reads s come r x → new ≡ record r { entries = new.entries }
    → replaying.Answers M s r.entries come turns (Ok a) t new.entries still → a.why ≢ End
    → calls.Drains M turns x (Ok (drained_by a)) (IsFollower Draining reads t still new)
drains_on M reads x s t come still r new turns a f held answers left =
    let h = repeats M Draining reads x s t come still r new turns (Ok a) f held answers in
    allowed M reads x s come r turns (drained_by a) (IsFollower Draining reads t still new) f (record {
      y = h.y;
      done = record { z = h.y; replayed = h.done; after = stays_draining h.y a.why left };
      after = h.after;
    })

pub drained : {S : Type 0} (M : Machine S) (reads : Reads) (x : Node S) (s t : S)
    (come still : Option (List ℕ)) (r new : Receiving) (turns : ℕ) (a : Replayed)
    (Is : Node S → Type 0) → IsFollower Draining reads s come r x → new ≡ record r { entries = new.entries }
    → replaying.Answers M s r.entries come turns (Ok a) t new.entries still → a.why ≡ End
    → ((y : Node S) → y.role ≡ Draining → y.replayed ≡ length y.held → IsFollower Draining reads t still new y → Is (goes_live y))
    → calls.Drains M turns x (Ok (drained_by a)) Is
drained M reads x s t come still r new turns a Is f held answers all lives =
    let h = repeats M Draining reads x s t come still r new turns (Ok a) f held answers in
    allowed M reads x s come r turns (drained_by a) Is f (record {
      y = goes_live h.y;
      done = record { z = h.y; replayed = h.done; after = ap (after_drain h.y) (sym all) };
      after = lives h.y h.after.role_is
          (eqb-true h.y.replayed (length h.y.held)
          (at_last (h.y.replayed == length h.y.held) (is_none (wanted M h.y)) (a.moves == turns) (sym h.done.ends ∙ all)))
          h.after;
    })
