-- How a node moves by entries of which nothing is known. A replayer over any entries makes the moves of a replay of as
-- many turns as fit, so what is shown of a replay holds of it; and a node diverges where its replayer does.
use Rattle.std.proofs.Common.{◌≡◌, ◌≢◌, ℕ, ◌<◌, Bool, true, false, cond, Option, Some, None, is_none, List, length, drop, Result, Ok, Err, refl, sym, ap, subst, ◌∙◌}
use Rattle.std.specs.Prelude.{◌==◌}
use Rattle.ft_node.proofs.Words.{Backup, Draining, Fault, IsFollower, Machine, NeedsMoves, Node, Reads, Receiving, Role, goes_live}
use Rattle.guest_lockstep.specs.declared.replay_end.ReplayEnd.TheVariants.{Turns, End, Wait, Memory}
use Rattle.i8080_words.specs.declared.refusal.Fault.TheVariants.{OutOfMemory}
use Rattle.replayer.specs.Checking as checking
use Rattle.replayer.specs.Replaying as replaying
use Rattle.replayer.specs.declared.replayer.Replayed.{Replayed}
use Rattle.ft_node.specs.Calls as calls
use Rattle.ft_node.specs.Checked as checked
use Rattle.ft_node.specs.declared.ran.Drained.{Drained}
use Rattle.ft_node.proofs.FollowerMoves.{in_role, repeats}
use Rattle.ft_node.proofs.LastMoves.{allowed, drained, drained_by, stays_draining}

-- a node diverges where its replayer does
node_diverges : {S : Type 0} (M : Machine S) (role : Role) (reads : Reads) (s : S) (come : Option (List ℕ)) (r : Receiving)
    (x : Node S) → IsFollower role reads s come r x → checking.Diverges M s r.entries come → checked.Diverges M x
node_diverges M role reads s come r x f apart =
    subst (λ s. checking.Diverges M s (drop x.replayed x.held) x.fetched) (sym f.machine)
    (subst (λ es. checking.Diverges M s es x.fetched) f.left
    (subst (λ come. checking.Diverges M s r.entries come) (sym f.come) apart))

-- and only there
replayer_diverges : {S : Type 0} (M : Machine S) (role : Role) (reads : Reads) (s : S) (come : Option (List ℕ))
    (r : Receiving) (x : Node S) → IsFollower role reads s come r x → checked.Diverges M x
    → checking.Diverges M s r.entries come
replayer_diverges M role reads s come r x f apart =
    subst (λ s. checking.Diverges M s r.entries come) f.machine
    (subst (λ es. checking.Diverges M x.machine es come) (sym f.left)
    (subst (λ come. checking.Diverges M x.machine (drop x.replayed x.held) come) f.come apart))

-- the same node, after nothing was done
same_node : {S : Type 0} (role : Role) (reads : Reads) (x : Node S) (s t : S) (come still : Option (List ℕ))
    (r new : Receiving) → IsFollower role reads s come r x → new ≡ record r { entries = new.entries } → t ≡ s
    → new.entries ≡ r.entries → still ≡ come → IsFollower role reads t still new x
same_node role reads x s t come still r new f held same_state same_left same_bytes = record {
  role_is = f.role_is;
  up = f.up;
  generation = f.generation ∙ sym (ap (λ (r : Receiving). r.generation) held);
  reads_are = f.reads_are;
  machine = f.machine ∙ sym same_state;
  come = f.come ∙ sym same_bytes;
  held = f.held ∙ sym (ap (λ (r : Receiving). r.held) held);
  left = same_left ∙ f.left;
  within = f.within;
}

-- it makes as many moves as fit, and diverges then
so_far : {S : Type 0} (M : Machine S) (role : Role) (reads : Reads) (x : Node S) (s t : S)
    (come still : Option (List ℕ)) (r new : Receiving) (q : Replayed) → IsFollower role reads s come r x
    → new ≡ record r { entries = new.entries }
    → replaying.Came M s r.entries come q.moves q t new.entries still → checking.Diverges M t new.entries still
    → calls.Makes x (calls.ReplayedBy M q.moves q) (λ y. IsFollower role reads t still new y × checked.Diverges M y)
so_far M role reads x s t come still r new q f held came apart =
    let h = repeats M role reads x s t come still r new q.moves (Ok q) f held came in
    record { y = h.y; done = h.done; after = (h.after, node_diverges M role reads t still new h.y h.after apart) }

-- it makes as many moves as it can, and does not diverge then unless it made all
as_asked : {S : Type 0} (M : Machine S) (role : Role) (reads : Reads) (x : Node S) (s t : S)
    (come still : Option (List ℕ)) (r new : Receiving) (turns : ℕ) (q : Replayed) → IsFollower role reads s come r x
    → new ≡ record r { entries = new.entries }
    → replaying.Came M s r.entries come turns q t new.entries still
    → (q.moves < turns → checking.Diverges M t new.entries still → ⊥)
    → calls.Makes x (calls.ReplayedBy M turns q)
    (λ y. IsFollower role reads t still new y × (q.moves < turns → checked.Diverges M y → ⊥))
as_asked M role reads x s t come still r new turns q f held came fits =
    let h = repeats M role reads x s t come still r new turns (Ok q) f held came in record {
      y = h.y;
      done = h.done;
      after = (h.after, λ lt apart. fits lt (replayer_diverges M role reads t still new h.y h.after apart));
    }

-- it makes none, since it is out of memory, and does not diverge
without_memory : {S : Type 0} (M : Machine S) (role : Role) (reads : Reads) (x : Node S) (s t : S)
    (come still : Option (List ℕ)) (r new : Receiving) (turns : ℕ) → IsFollower role reads s come r x
    → new ≡ record r { entries = new.entries }
    → replaying.Answers M s r.entries come turns (Err OutOfMemory) t new.entries still
    → (checking.Diverges M s r.entries come → ⊥)
    → NeedsMoves M turns x × (IsFollower role reads t still new x × (checked.Diverges M x → ⊥))
without_memory M role reads x s t come still r new turns f held a fits =
    let h = repeats M role reads x s t come still r new turns (Err OutOfMemory) f held a in
    (h.1.0, (h.1.1, λ apart. fits (replayer_diverges M role reads s come r x f apart)))

-- ---- a backup

pub backup_replays_checked : {S : Type 0} (M : Machine S) (reads : Reads) (x : Node S) (s t : S)
    (come still : Option (List ℕ)) (r new : Receiving) (turns : ℕ) (result : Result Replayed Fault)
    → IsFollower Backup reads s come r x → new ≡ record r { entries = new.entries }
    → checking.AnswersUntrusted M s r.entries come turns result t new.entries still
    → checked.Replays M turns x result (IsFollower Backup reads t still new)
backup_replays_checked {S} M reads x s t come still r new turns (Ok q) f held (checking.AllFit came fits) =
    checked.AllFit
    (subst (λ refusal. calls.Unless {A = Replayed} refusal (Ok q) (Is x)
    (calls.Makes x (calls.ReplayedBy M turns q) Is))
    (sym (in_role Backup reads x s come r f refl))
    (as_asked M Backup reads x s t come still r new turns q f held came fits))
  where
    Is : Node S → Type 0
    Is y = IsFollower Backup reads t still new y × (q.moves < turns → checked.Diverges M y → ⊥)
backup_replays_checked {S} M reads x s t come still r new turns (Ok q) f held (checking.SomeFit some lt came apart) =
    checked.SomeFit q refl some lt
    (subst (λ refusal. calls.Unless {A = Replayed} refusal (Ok q) (Is x)
    (calls.Makes x (calls.ReplayedBy M q.moves q) Is))
    (sym (in_role Backup reads x s come r f refl))
    (so_far M Backup reads x s t come still r new q f held came apart))
  where
    Is : Node S → Type 0
    Is y = IsFollower Backup reads t still new y × checked.Diverges M y
backup_replays_checked {S} M reads x s t come still r new turns (Err fault) f held a = go fault a.1
  where
    Is : Node S → Type 0
    Is y = IsFollower Backup reads t still new y × (checked.Diverges M y → ⊥)

    go : (fault : Fault) → checking.Refuses M s r.entries come fault
        → checked.Replays M turns x (Err fault) (IsFollower Backup reads t still new)
    go fault (checking.NoMemory behind fits) =
        let out = without_memory M Backup reads x s t come still r new turns f held (refl, a.0, behind, a.2, a.3, a.4) fits in
        checked.AllFit
        (subst (λ refusal. calls.Unless {A = Replayed} refusal (Err OutOfMemory) (Is x)
        ((OutOfMemory ≡ OutOfMemory) × (NeedsMoves M turns x × Is x)))
        (sym (in_role Backup reads x s come r f refl)) (refl, out))
    go fault (checking.NoneFits apart) = checked.NoneFits (record {
      refused = refl;
      role_is = f.role_is;
      some = a.0;
      diverges = node_diverges M Backup reads s come r x f apart;
      stays = same_node Backup reads x s t come still r new f held a.2 a.3 a.4;
    })

-- ---- a draining node

-- it makes as many moves as fit, and drains on
pub drains_on_checked : {S : Type 0} (M : Machine S) (reads : Reads) (x : Node S) (s t : S)
    (come still : Option (List ℕ)) (r new : Receiving) (turns : ℕ) (a : Replayed)
    → IsFollower Draining reads s come r x → new ≡ record r { entries = new.entries }
    → checking.AnswersUntrusted M s r.entries come turns (Ok a) t new.entries still → a.why ≢ End
    → checked.Drains M turns x (Ok (drained_by a)) (IsFollower Draining reads t still new)
drains_on_checked M reads x s t come still r new turns a f held (checking.AllFit came fits) left =
    let h = as_asked M Draining reads x s t come still r new turns a f held came fits in
    checked.AllFit
    (allowed M reads x s come r turns (drained_by a)
    (λ y. IsFollower Draining reads t still new y × (a.moves < turns → checked.Diverges M y → ⊥)) f (record {
      y = h.y;
      done = record { z = h.y; replayed = h.done; after = stays_draining h.y a.why left };
      after = h.after;
    }))
drains_on_checked M reads x s t come still r new turns a f held (checking.SomeFit some lt came apart) left =
    let h = so_far M Draining reads x s t come still r new a f held came apart in
    checked.SomeFit (drained_by a) refl some lt
    (allowed M reads x s come r a.moves (drained_by a)
    (λ y. IsFollower Draining reads t still new y × checked.Diverges M y) f (record {
      y = h.y;
      done = record { z = h.y; replayed = h.done; after = stays_draining h.y a.why left };
      after = h.after;
    }))

-- where it diverges, something is left
not_at_end : (empty none made : Bool) → cond empty (Some End) (cond none None (Some Wait)) ≡ None
    → cond empty End (cond none (cond made Turns Memory) Wait) ≡ End → ⊥
not_at_end true none made ready end = absurd cc
not_at_end false true true ready end = absurd cc
not_at_end false true false ready end = absurd cc
not_at_end false false made ready end = absurd cc

pub drained_checked : {S : Type 0} (M : Machine S) (reads : Reads) (x : Node S) (s t : S)
    (come still : Option (List ℕ)) (r new : Receiving) (turns : ℕ) (a : Replayed)
    (Is : Node S → Type 0) → IsFollower Draining reads s come r x → new ≡ record r { entries = new.entries }
    → checking.AnswersUntrusted M s r.entries come turns (Ok a) t new.entries still → a.why ≡ End
    → ((y : Node S) → y.role ≡ Draining → y.replayed ≡ length y.held → IsFollower Draining reads t still new y → Is (goes_live y))
    → checked.Drains M turns x (Ok (drained_by a)) Is
drained_checked M reads x s t come still r new turns a Is f held (checking.AllFit came fits) all lives =
    checked.AllFit
    (drained M reads x s t come still r new turns a (λ y. Is y × (a.moves < turns → checked.Diverges M y → ⊥)) f held came all
    (λ y role none g. (
      lives y role none g,
      λ lt apart. fits lt (replayer_diverges M Draining reads t still new y g apart),
    )))
drained_checked M reads x s t come still r new turns a Is f held (checking.SomeFit some lt came apart) all lives =
    absurd (not_at_end (length new.entries == 0) (is_none (replaying.wanted M t new.entries still)) (a.moves == a.moves)
    apart.ready (sym came.why ∙ all))

pub not_drained_checked : {S : Type 0} (M : Machine S) (reads : Reads) (x : Node S) (s t : S)
    (come still : Option (List ℕ)) (r new : Receiving) (turns : ℕ) (fault : Fault)
    → IsFollower Draining reads s come r x → new ≡ record r { entries = new.entries }
    → checking.AnswersUntrusted M s r.entries come turns (Err fault) t new.entries still
    → checked.Drains M turns x (Err fault) (IsFollower Draining reads t still new)
not_drained_checked {S} M reads x s t come still r new turns fault f held a = go fault a.1
  where
    Is : Node S → Type 0
    Is y = IsFollower Draining reads t still new y × (checked.Diverges M y → ⊥)

    go : (fault : Fault) → checking.Refuses M s r.entries come fault
        → checked.Drains M turns x (Err fault) (IsFollower Draining reads t still new)
    go fault (checking.NoMemory behind fits) =
        let out = without_memory M Draining reads x s t come still r new turns f held (refl, a.0, behind, a.2, a.3, a.4) fits in
        checked.AllFit
        (subst (λ refusal. calls.Unless {A = Drained} refusal (Err OutOfMemory) (Is x)
        ((OutOfMemory ≡ OutOfMemory) × (NeedsMoves M turns x × Is x)))
        (sym (in_role Draining reads x s come r f refl)) (refl, out))
    go fault (checking.NoneFits apart) = checked.NoneFits (record {
      refused = refl;
      role_is = f.role_is;
      some = a.0;
      diverges = node_diverges M Draining reads s come r x f apart;
      stays = same_node Draining reads x s t come still r new f held a.2 a.3 a.4;
    })
