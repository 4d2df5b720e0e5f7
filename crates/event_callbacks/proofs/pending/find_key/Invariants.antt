-- No operation before this key has the name.
use Rattle.std.proofs.Common.{◌≡◌, ◌≢◌, ◌<◌, ℕ, Some}
use Rattle.slab.specs.Slab.{get}
use Rattle.event_callbacks.specs.Operations.{id_of}
use Rattle.event_callbacks.proofs.pending.find_key.Given as goal

abbrev pub invariant-loop-key : goal.invariant-loop-key
invariant-loop-key l = (before : ℕ) (op : _) → before < l.key → get l.slab before ≡ Some op → id_of op ≢ l.id
