-- Steps and replayed entries of one node, one action after another.
use Rattle.std.proofs.Common.{[], ◌∙◌, ◌∷◌, ◌≡◌, Bool, List, None, Option, Some, ap, cond, eqb-true, false, inl, inr, refl, set-set, subst, suc, sym, true, zero, ℕ}
use Rattle.std.specs.Prelude.{◌==◌, slice_get, slice_set}
use Rattle.pair_protocol.proofs.Words.{Acts, Alone, AloneSteps, Backup, Change, Changes, Copying, Draining, Entry, Joining, Machine, Mark, Node, Operation, Primary, PrimarySteps, Replaying, ReplaysInput, ReplaysMark, ReplaysRead, ReplaysStep, Role, Serving, Spare, Stays, Then, World, count_of, passes_input, passes_mark, passes_read, plainly_steps, read_of, with_node}
use Rattle.pair_protocol.specs.Effects.{Advances, AtEnd, AwaitsBytes, Ends, Gives, Goes, NoMemory, NoTurns, NoneLeft, OneInput, OneMark, OneRead, OneStep, Replays, Short, Waits, read_at, stepped}
use Rattle.guest_lockstep.specs.declared.running.StopReason.{StopReason}
use Rattle.log_entry.specs.declared.entry.Entry.TheVariants as entry
use Rattle.pair_protocol.proofs.Traces.Lists.{get_set, same_some}

-- ---- one node's moves

pub set_get : {A : Type 0} (xs : List A) (n : ℕ) (x : A) → slice_get xs n ≡ Some x → slice_set xs n x ≡ xs
set_get [] n x h = (cc)
set_get {A} (z ∷ xs) zero x h = let e : x ≡ z = (cc) in ap (λ (v : A). v ∷ xs) e
set_get (z ∷ xs) (suc n) x h = ap (λ zs. z ∷ zs) (set_get xs n x h)

pub with_nodes : {S : Type 0} (w : World S) (ns ms : List (Node S)) → ns ≡ ms →
    ◌≡◌ {A = World S} (record {
      nodes = ns;
      messages = w.messages;
      terminals = w.terminals;
      winners = w.winners;
      puts = w.puts;
    }) (record {
      nodes = ms;
      messages = w.messages;
      terminals = w.terminals;
      winners = w.winners;
      puts = w.puts;
    })
with_nodes w ns ms e = λ i. record {
  nodes = e i;
  messages = w.messages;
  terminals = w.terminals;
  winners = w.winners;
  puts = w.puts;
}

pub with_same : {S : Type 0} (w : World S) (n : ℕ) (x : Node S) → slice_get w.nodes n ≡ Some x → with_node w n x ≡ w
with_same w n x h = with_nodes w (slice_set w.nodes n x) w.nodes (set_get w.nodes n x h)

pub with_twice : {S : Type 0} (w : World S) (n : ℕ) (x y : Node S) → with_node (with_node w n x) n y ≡ with_node w n y
with_twice w n x y = with_nodes w (slice_set (slice_set w.nodes n x) n y) (slice_set w.nodes n y)
    (set-set w.nodes n x y)

-- One change of a node, and then the rest.
pub on : {S : Type 0} (M : Machine S) (C : Copying S) (w : World S) (n : ℕ) (x y z : Node S) →
    Change M C (with_node w n x) (with_node (with_node w n x) n y) → Changes M C (with_node w n y) (with_node w n z) →
    Changes M C (with_node w n x) (with_node w n z)
on M C w n x y z c rest = Then (subst (λ v. Change M C (with_node w n x) v) (with_twice w n x y) c) rest

pub moving : {S : Type 0} (w : World S) (n : ℕ) (x0 x : Node S) (r : Role) → slice_get w.nodes n ≡ Some x0 →
    x.running ≡ true → x.role ≡ r → Acts (with_node w n x) n x r
moving w n x0 x r h u e = record { there = get_set w.nodes n x0 x h; up = u; role_is = e }

pub steps_once : {S : Type 0} (M : Machine S) (C : Copying S) (w : World S) (n : ℕ) (x : Node S) (r : Role) (s : S)
    (o : Option Operation) → Serving r → Acts w n x r → M.step x.machine ≡ Some (s, o) →
    Change M C w (with_node w n (stepped M x x.role s o))
steps_once M C w n x r s o (inl e) a h =
    subst (λ q. Change M C w (with_node w n (stepped M x q s o))) (sym (a.role_is ∙ e))
    (PrimarySteps n x s o (record { there = a.there; up = a.up; role_is = a.role_is ∙ e }) h)
steps_once M C w n x r s o (inr e) a h =
    subst (λ q. Change M C w (with_node w n (stepped M x q s o))) (sym (a.role_is ∙ e))
    (AloneSteps n x s o (record { there = a.there; up = a.up; role_is = a.role_is ∙ e }) h)

pub stepped_up : {S : Type 0} (M : Machine S) (x : Node S) (q : Role) (s : S) (o : Option Operation) →
    ((stepped M x q s o).running ≡ x.running) × ((stepped M x q s o).role ≡ x.role)
stepped_up M x Primary s o = (refl, refl)
stepped_up M x Alone s o = (refl, refl)
stepped_up M x Backup s o = (refl, refl)
stepped_up M x Joining s o = (refl, refl)
stepped_up M x Draining s o = (refl, refl)
stepped_up M x Spare s o = (refl, refl)

pub advance_changes : {S : Type 0} (M : Machine S) (C : Copying S) (w : World S) (n : ℕ) (x0 : Node S) (r : Role) →
    slice_get w.nodes n ≡ Some x0 → Serving r → {x y : Node S} {k made : ℕ} {why : StopReason} → Advances M x k y made why →
    x.running ≡ true → x.role ≡ r → Changes M C (with_node w n x) (with_node w n y)
advance_changes M C w n x0 r h which NoneLeft u e = Stays
advance_changes M C w n x0 r h which (Waits p q) u e = Stays
advance_changes M C w n x0 r h which (Ends q) u e = Stays
advance_changes M C w n x0 r h which (Short unspent goes) u e = Stays
advance_changes M C w n x0 r h which (Gives {x = x} s o q) u e =
    on M C w n x (stepped M x x.role s (Some o)) (stepped M x x.role s (Some o))
    (steps_once M C (with_node w n x) n x r s (Some o) which (moving w n x0 x r h u e) q) Stays
advance_changes M C w n x0 r h which (Goes {x = x} {y = y} s q rest) u e =
    let t = stepped_up M x x.role s None in
    on M C w n x (stepped M x x.role s None) y
    (steps_once M C (with_node w n x) n x r s None which (moving w n x0 x r h u e) q)
    (advance_changes M C w n x0 r h which rest (t.0 ∙ u) (t.1 ∙ e))

-- the entry that a node has come to, if that is a read
read-entry : (e : Entry) (drive sector number : ℕ) → read_of e ≡ Some (drive, sector, number) →
    e ≡ entry.Read (count_of e) drive sector number
read-entry (Mark c) drive sector number h = (cc)
read-entry (entry.Rx c port byte) drive sector number h = (cc)
read-entry (entry.Sent c port) drive sector number h = (cc)
read-entry (entry.Sector c d s n bytes) drive sector number h = (cc)
read-entry (entry.Written c n) drive sector number h = (cc)
read-entry (entry.Read c d s n) drive sector number h =
    let e = same_some (d, s, n) (drive, sector, number) (Some (d, s, n)) refl h in
    ap (λ (r : ℕ × ℕ × ℕ). entry.Read c r.0 r.1 r.2) e

pub is-at-read : (count drive sector number : ℕ) (next : Option Entry) →
    read_at count next ≡ Some (drive, sector, number) → next ≡ Some (entry.Read count drive sector number)
is-at-read count drive sector number None h = (cc)
is-at-read count drive sector number (Some e) h = go (count == count_of e) refl h
  where
    go : (here : Bool) → (count == count_of e) ≡ here →
        cond here (read_of e) None ≡ Some (drive, sector, number) → Some e ≡ Some (entry.Read count drive sector number)
    go false is h = (cc)
    go true is h = ap (λ z. Some z) (read-entry e drive sector number h
        ∙ ap (λ c. entry.Read c drive sector number) (sym (eqb-true count (count_of e) is)))

pub replay_changes : {S : Type 0} (M : Machine S) (C : Copying S) (w : World S) (n : ℕ) (x0 : Node S) (r : Role) →
    slice_get w.nodes n ≡ Some x0 → Replaying r → {x y : Node S} {k made : ℕ} → Replays M x k y made →
    x.running ≡ true → x.role ≡ r →
    Changes M C (with_node w n x) (with_node w n y) × (y.running ≡ true) × (y.role ≡ r)
replay_changes M C w n x0 r h which NoTurns u e = (Stays, u, e)
replay_changes M C w n x0 r h which (AtEnd q) u e = (Stays, u, e)
replay_changes M C w n x0 r h which (AwaitsBytes wants) u e = (Stays, u, e)
replay_changes M C w n x0 r h which (NoMemory behind) u e = (Stays, u, e)
replay_changes M C w n x0 r h which (OneStep {x = x} {y = y} en s o g c q rest) u e =
    let t = replay_changes M C w n x0 r h which rest u e in
    (on M C w n x (plainly_steps x s) y (ReplaysStep n x r en s o (moving w n x0 x r h u e) which g c q) t.0, t.1, t.2)
replay_changes M C w n x0 r h which (OneMark {x = x} {y = y} en g c q rest) u e =
    let t = replay_changes M C w n x0 r h which rest u e in
    (on M C w n x (passes_mark x) y (ReplaysMark n x r en (moving w n x0 x r h u e) which g c q) t.0, t.1, t.2)
replay_changes M C w n x0 r h which (OneInput {x = x} {y = y} en i s g c q v rest) u e =
    let t = replay_changes M C w n x0 r h which rest u e in (
      on M C w n x (passes_input x s) y
          (ReplaysInput n x r en i s (moving w n x0 x r h u e) which g c q v) t.0,
      t.1,
      t.2,
    )
replay_changes M C w n x0 r h which (OneRead {x = x} {y = y} d k number bytes s next come v rest) u e =
    let t = replay_changes M C w n x0 r h which rest u e in
    let at = is-at-read (M.count x.machine) d k number (slice_get x.held x.replayed) next in (
      on M C w n x (passes_read x s) y
          (ReplaysRead n x r d k number bytes s (moving w n x0 x r h u e) which at come v) t.0,
      t.1,
      t.2,
    )

pub from_here : {S : Type 0} (M : Machine S) (C : Copying S) (w new : World S) (n : ℕ) (x y : Node S) →
    slice_get w.nodes n ≡ Some x → new ≡ with_node w n y → Changes M C (with_node w n x) (with_node w n y) →
    Changes M C w new
from_here M C w new n x y h e c =
    subst (λ v. Changes M C w v) (sym e) (subst (λ v. Changes M C v (with_node w n y)) (with_same w n x h) c)
