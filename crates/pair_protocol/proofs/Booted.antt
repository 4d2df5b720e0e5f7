-- A node whose machine boots elsewhere advances and replays as before: neither depends on where its machine boots. Each
-- fact is carried to the machine that boots elsewhere, and back by the same lemma.
use Rattle.std.proofs.Common.{◌≡◌, Bool, List, Option, refl, ℕ}
use Rattle.pair_protocol.proofs.Words.{Entry, Input, Machine, Move, Node, Reads, Role, SectorAddress, booted_from, keys_covered}
use Rattle.guest_lockstep.proofs.Booted.{Recorded-booted}
use Rattle.log_entry.specs.Standing.{IsOnTrace, Stands}
use Rattle.pair_protocol.specs.Effects.{Advances, AtEnd, AwaitsBytes, Drained, Ends, Gives, Goes, IsBehind, NoMemory, NoTurns, NoneLeft, OneInput, OneMark, OneRead, OneStep, Replayed, Replays, Short, Stepped, Took, Waits}
use Rattle.guest_lockstep.specs.declared.replay_end.ReplayEnd.{ReplayEnd}
use Rattle.guest_lockstep.specs.declared.running.StopReason.{StopReason}

-- ---- to the machine that boots elsewhere

module _ {S : Type 0} (M : Machine S) (start : S) (sectors : SectorAddress → List ℕ) where
  pub Stands-booted : (reads : Reads) (s : S) (held : List Entry) (fetched : Option (List ℕ)) (owes : Bool)
      (moves : List Move) (last : S) → Stands M reads s held fetched owes moves last
      → Stands (booted_from M start sectors) reads s held fetched owes moves last
  Stands-booted reads s held fetched owes moves last h = record {
    runs = Recorded-booted M start sectors s last moves h.runs;
    later = h.later;
    next_ones = h.next_ones;
    takes = h.takes;
  }

  pub IsOnTrace-booted : (s : S) (held : List Entry) (fetched : Option (List ℕ)) → IsOnTrace M s held fetched
      → IsOnTrace (booted_from M start sectors) s held fetched
  IsOnTrace-booted s held fetched h = record {
    reads = h.reads;
    owes = h.owes;
    moves = h.moves;
    last = h.last;
    stands = Stands-booted h.reads s held fetched h.owes h.moves h.last h.stands;
  }

  pub IsBehind-booted : (x : Node S) → IsBehind M x → IsBehind (booted_from M start sectors) x
  IsBehind-booted x behind = record { next = behind.next; held = behind.held; later = behind.later }

  pub Advances-booted : {x y : Node S} {turns made : ℕ} {why : StopReason} → Advances M x turns y made why
      → Advances (booted_from M start sectors) x turns y made why
  Advances-booted NoneLeft = NoneLeft
  Advances-booted (Ends spent) = Ends spent
  Advances-booted (Waits unspent idle) = Waits unspent idle
  Advances-booted (Short unspent goes) = Short unspent goes
  Advances-booted (Gives s o made) = Gives s o made
  Advances-booted (Goes s made rest) = Goes s made (Advances-booted rest)

  pub Replays-booted : {x y : Node S} {turns made : ℕ} → Replays M x turns y made
      → Replays (booted_from M start sectors) x turns y made
  Replays-booted NoTurns = NoTurns
  Replays-booted (AtEnd none) = AtEnd none
  Replays-booted (AwaitsBytes wants) = AwaitsBytes wants
  Replays-booted (NoMemory behind) = NoMemory (IsBehind-booted _ behind)
  Replays-booted (OneStep e s gives next below made rest) = OneStep e s gives next below made (Replays-booted rest)
  Replays-booted (OneMark e next at mark rest) = OneMark e next at mark (Replays-booted rest)
  Replays-booted (OneInput e i s next at input taken rest) = OneInput e i s next at input taken (Replays-booted rest)
  Replays-booted (OneRead d n k bytes s next come taken rest) = OneRead d n k bytes s next come taken (Replays-booted rest)

  pub Stepped-booted : {turns made count : ℕ} {why : StopReason} {x y : Node S} → Stepped M turns made count why x y
      → Stepped (booted_from M start sectors) turns made count why x y
  Stepped-booted h = record { advances = Advances-booted h.advances; some = h.some; counted = h.counted }

  pub Took-booted : {i : Input} {x y : Node S} → Took M i x y → Took (booted_from M start sectors) i x y
  Took-booted h = record { s = h.s; takes = h.takes; after = h.after }

  pub Replayed-booted : {turns made : ℕ} {why : ReplayEnd} {x y : Node S} → Replayed M turns made why x y
      → Replayed (booted_from M start sectors) turns made why x y
  Replayed-booted h = record { moves = Replays-booted h.moves; some = h.some; ends = h.ends }

  pub Drained-booted : {turns made : ℕ} {why : ReplayEnd} {x y : Node S} → Drained M turns made why x y
      → Drained (booted_from M start sectors) turns made why x y
  Drained-booted h = record { z = h.z; replayed = Replayed-booted h.replayed; after = h.after }

  pub keys_covered-booted : (x : Node S) (port : ℕ) (role : Role)
      → keys_covered (booted_from M start sectors) x port role ≡ keys_covered M x port role
  keys_covered-booted x port role = refl

-- ---- and back

pub IsOnTrace-back : {S : Type 0} (M : Machine S) (start : S) (sectors : SectorAddress → List ℕ) (s : S)
    (held : List Entry) (fetched : Option (List ℕ)) → IsOnTrace (booted_from M start sectors) s held fetched
    → IsOnTrace M s held fetched
IsOnTrace-back M start sectors = IsOnTrace-booted (booted_from M start sectors) M.boot M.boot_sector
