-- The nodes that a world shows, and its messages.
use Rattle.std.proofs.Common.{append_assoc, ◌∙◌, ◌≤◌, arith, ◌≡◌, ℕ, zero, suc, ◌≤◌, true, List, [], ◌∷◌, ◌++◌, sym, ap, ◌∙◌, ⊎_elim, arith, subst, Some, slice_get}
use mathlib.Core.Option.{some, some-injective, some-ne-none}
use lib.ListN.{get_elem?}
use Rattle.pair_rule.proofs.Words.{Acknowledgement, Among, Copying, Do, Entry, ImagePart, IsAcknowledged, IsSentBy, Knowledge, LogEntry, Machine, Message, Move, Node, Operation, Released, Sent, Shows, Visible, World, WriteDone, among-left, backup_node, backup_role, backup_runs, get-longer, primary_node, primary_role, primary_runs, visible}
use Rattle.pair_protocol.specs.Node.{Primary, Backup}
pub use Rattle.pair_rule.proofs.Elements.{among_either}

-- a message that is among those sent has a number
pub index_of : {A : Type 0} (x : A) (xs : List A) → Among x xs → (m : ℕ) × (slice_get xs m ≡ Some x)
index_of x [] a = absurd a
index_of x (y ∷ xs) a = ⊎_elim (λ e. (0, ap Some (sym e))) (λ i. let r = index_of x xs i in (suc r.0, r.1)) a

pub more_sent : (v : Visible) (messages more : List Message) → Sent v messages → Sent v (messages ++ more)
more_sent v messages more t = record {
  logs = λ i e at. among-left (LogEntry 1 i e) messages more (t.logs i e at);
  acks = λ h at. among-left (Acknowledgement 1 h 0) messages more (t.acks h at);
  operations = λ o at. among-left (Released o) messages more (t.operations o at);
  writes = λ n at. among-left (WriteDone n) messages more (t.writes n at);
}

-- a list that is read as tables are read
pub read_slice : {A : Type 0} (l : List A) (i : ℕ) (x : A) → get_elem? l i ≡ some x → slice_get l i ≡ Some x
read_slice [] i x e = absurd (some-ne-none x (sym e))
read_slice (y ∷ l) zero x e = ap Some (some-injective y x e)
read_slice (y ∷ l) (suc i) x e = read_slice l i x e

-- one message more that the list or the values of held have; and a list or values that grow
pub only_more : (list : List Entry) (helds : List ℕ) (x : Message) (messages : List Message) → IsSentBy list helds x
    → ((m : Message) → Among m messages → IsSentBy list helds m)
    → (m : Message) → Among m (messages ++ x ∷ []) → IsSentBy list helds m
only_more list helds x messages is all m at =
    ⊎_elim (λ (old : Among m messages). all m old) (λ (e : m ≡ x). subst (IsSentBy list helds) (sym e) is)
    (among_either m x messages at)

pub only_longer : (list : List Entry) (helds : List ℕ) (e : Entry) (m : Message) → IsSentBy list helds m
    → IsSentBy (list ++ e ∷ []) helds m
only_longer list helds e (LogEntry generation i x) is = (is.0, get-longer list (e ∷ []) i x is.1)
only_longer list helds e (Acknowledgement generation held replayed) is = is
only_longer list helds e (ImagePart generation i part) is = is
only_longer list helds e _ is = tt

pub only_held : (list : List Entry) (helds : List ℕ) (n : ℕ) (m : Message) → IsSentBy list helds m
    → IsSentBy list (helds ++ n ∷ []) m
only_held list helds n (LogEntry generation i x) is = is
only_held list helds n (Acknowledgement generation held replayed) is = (is.0, is.1, among-left held helds (n ∷ []) is.2)
only_held list helds n (ImagePart generation i part) is = is
only_held list helds n _ is = tt

-- what is acknowledged stays so, where more is seen and more moves are made
pub later_covered : (moves : List Move) (seen more : ℕ) (o : Operation) → seen ≤ more → IsAcknowledged moves seen o
    → IsAcknowledged moves more o
later_covered moves seen more o le a = record {
  front = a.front;
  rest = a.rest;
  given = a.given;
  marked = (let m = a.marked in omega (arith, m, le));
}

pub longer_covered : (moves more : List Move) (seen : ℕ) (o : Operation) → IsAcknowledged moves seen o
    → IsAcknowledged (moves ++ more) seen o
longer_covered moves more seen o a = record {
  front = a.front;
  rest = a.rest ++ more;
  given = ap (λ l. l ++ more) a.given ∙ append_assoc a.front (Do (Some o) ∷ a.rest) more;
  marked = a.marked;
}

module _ {S : Type 0} (M : Machine S) (C : Copying S) (typed0 typed1 : List ℕ) (k : Knowledge) (w : World S)
    (z : Shows M typed0 typed1 k w) where
  -- the nodes, while nobody has asked
  abbrev pub serving : Node S
  serving = record (primary_node (visible k) z.moves z.s) { role = Primary; running = true }

  abbrev pub waiting : Node S
  waiting = record (backup_node M (visible k)) { role = Backup; running = true }

  pub first_node : k.primary.winner ≡ 0 → slice_get w.nodes 0 ≡ Some serving
  first_node none = ap (λ l. slice_get l 0) z.nodes ∙
      (λ i. Some (record serving { role = primary_role (none i); running = primary_runs (none i) }))

  pub second_node : k.backup.winner ≡ 0 → slice_get w.nodes 1 ≡ Some waiting
  second_node none = ap (λ l. slice_get l 1) z.nodes ∙
      (λ i. Some (record waiting { role = backup_role (none i); running = backup_runs (none i) }))
