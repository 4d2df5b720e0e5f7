-- A packet of the log arrives at a backup. Its end of the channel tells whether the entry is the next one, and a backup
-- holds as many entries as its end has ever held.
use Rattle.std.proofs.Common.{ℕ, Option, List, ◌≢◌, ◌<◌, ◌+◌, [], ◌∷◌, ◌++◌, length, Result, Ok, Err, refl, sym, ap, subst, ◌∙◌, arith, length-append, inl, inr}
use Rattle.std.proofs.lemmas.Bool.Decides.{leb_tells}
use Rattle.std.proofs.lemmas.List.{drop_all, drop-append-le}
use Rattle.ft_node.proofs.Words.{Backup, Entry, Fault, IsFollower, Node, Reads, Receiving, holding, holds}
use Rattle.log_channel.specs.Channel as channel
use Rattle.ft_node.specs.Calls as calls

-- the backup that holds one more entry
held_one : {S : Type 0} (reads : Reads) (x : Node S) (s : S) (come : Option (List ℕ)) (r : Receiving) (e : Entry) → IsFollower Backup reads s come r x
    → IsFollower Backup reads s come (holding r e) (holds x e)
held_one reads x s come r e f =
    let longer = length-append x.held (e ∷ []) in
    let within = f.within in
    record {
      role_is = f.role_is;
      up = f.up;
      generation = f.generation;
      reads_are = f.reads_are;
      machine = f.machine;
      come = f.come;
      held = longer ∙ ap (λ n. n + 1) f.held;
      left = ap (λ es. es ++ e ∷ []) f.left ∙ sym (drop-append-le x.replayed x.held (e ∷ []) f.within);
      within = omega (arith, longer, within);
    }

-- if entries are left, some are not replayed
some_left : {S : Type 0} (reads : Reads) (x : Node S) (s : S) (come : Option (List ℕ)) (r : Receiving) → IsFollower Backup reads s come r x → r.entries ≢ []
    → x.replayed < length x.held
some_left reads x s come r f some = elim (leb_tells (length x.held) x.replayed) [
  | inl all ↦ absurd (some (f.left ∙ drop_all x.replayed x.held all.1))
  | inr less ↦ less.1
]

-- what the backup's end holds, the node holds
pub holds_next : {S : Type 0} (reads : Reads) (x : Node S) (s : S) (come : Option (List ℕ)) (r new : Receiving) (e : Entry) (result : Result (Unit {0}) Fault)
    → IsFollower Backup reads s come r x → channel.Holds e r result new → calls.Holds e x result (IsFollower Backup reads s come new)
holds_next reads x s come r new e (Ok done) f a = record {
  y = holds x e;
  done = refl;
  after = subst (λ r. IsFollower Backup reads s come r (holds x e)) (sym a) (held_one reads x s come r e f);
}
holds_next reads x s come r new e (Err fault) f a =
    (a.0, (some_left reads x s come r f a.2, subst (λ r. IsFollower Backup reads s come r x) (sym a.1) f))
