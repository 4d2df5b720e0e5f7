-- What a replayer does with the entries that are held: how far it gets, and why no further.
use Rattle.std.specs.Prelude.{◌≡◌, ℕ, suc, ◌<◌, ◌≤◌, false, not, ◌==◌, if◌then◌else◌, List, [], ◌∷◌, length, slice_get, Option, Some, None, is_none, option_map, Result, Ok, Err}
use Rattle.disk_dcdd.specs.Address.{same_address}
use Rattle.disk_dcdd.specs.declared.address.SectorAddress.{SectorAddress}
use Rattle.event_callbacks.specs.declared.operations.Operation.{Operation}
use Rattle.guest_lockstep.specs.Machine.{Machine}
use Rattle.guest_lockstep.specs.Recorded.{Accepts}
use Rattle.guest_lockstep.specs.declared.input.Input.{Input}
use Rattle.guest_lockstep.specs.declared.input.Input.TheVariants.{Rx, Sent, Sector, Written}
use Rattle.guest_lockstep.specs.declared.replay_end.ReplayEnd.{ReplayEnd}
use Rattle.guest_lockstep.specs.declared.replay_end.ReplayEnd.TheVariants.{Turns, End, Wait, Memory}
use Rattle.i8080_words.specs.declared.refusal.Fault.{Fault}
use Rattle.i8080_words.specs.declared.refusal.Fault.TheVariants.{NotDue, StaleRead, OutOfMemory}
pub use Rattle.log_entry.specs.Entries.{read_at, wanted_of}
use Rattle.log_entry.specs.Entries.{count_of, input_of, bare_of}
use Rattle.log_entry.specs.declared.entry.Entry.{Entry}
use Rattle.log_entry.specs.declared.entry.Entry.TheVariants as entry
use Rattle.replayer.specs.declared.replayer.Replayed.{Replayed}
use Rattle.shared_disk.specs.declared.disk.SectorRead.{SectorRead}

-- ---- moves

-- one move: a step below the count of the first entry that is held, or that entry at its count; a read is taken with the
-- bytes that have arrived for it, and then no bytes are kept
pub data Moves {S : Type 0} (M : Machine S) (s : S) (held : List Entry) (fetched : Option (List ℕ))
    : S → List Entry → Option (List ℕ) → Type 0 where
  Steps : {t : S} {gives : Option Operation} {e : Entry} {es : List Entry} → held ≡ e ∷ es → M.count s < count_of e
      → M.step s ≡ Some (t, gives) → Moves M s held fetched t held fetched
  Passes : {e : Entry} {es : List Entry} → held ≡ e ∷ es → M.count s ≡ count_of e → bare_of e ≡ None
      → Moves M s held fetched s es fetched
  TakesInput : {t : S} {e : Entry} {es : List Entry} {input : Input} → held ≡ e ∷ es → M.count s ≡ count_of e
      → input_of e ≡ Some input → Accepts M s input t → Moves M s held fetched t es fetched
  ReadsSector : {t : S} {count drive sector number : ℕ} {bytes : List ℕ} {es : List Entry}
      → held ≡ entry.Read count drive sector number ∷ es → M.count s ≡ count → fetched ≡ Some bytes
      → Accepts M s (Sector drive sector number bytes) t → Moves M s held fetched t es None

-- this many moves
pub data Replays {S : Type 0} (M : Machine S) (s : S) (held : List Entry) (fetched : Option (List ℕ))
    : ℕ → S → List Entry → Option (List ℕ) → Type 0 where
  NoMoves : Replays M s held fetched 0 s held fetched
  Then : {n : ℕ} {t u : S} {now left : List Entry} {come still : Option (List ℕ)}
      → Replays M s held fetched n t now come → Moves M t now come u left still
      → Replays M s held fetched (suc n) u left still

-- the next move is a step: the first entry that is held is at a later count
pub record IsBehind {S : Type 0} (M : Machine S) (s : S) (held : List Entry) : Type 0 where
  pub first : Entry
  pub rest : List Entry
  pub held_are : held ≡ first ∷ rest
  pub later : M.count s < count_of first

-- ---- reads

-- the read that it waits for: that of the first entry that is held, if it is due and its bytes have not arrived
abbrev pub wanted : {S : Type 0} → Machine S → S → List Entry → Option (List ℕ) → Option (ℕ × ℕ × ℕ)
wanted M s held fetched = wanted_of fetched (read_at (M.count s) (slice_get held 0))

-- the input of an entry; a read has the bytes that have arrived for it
abbrev pub input_with : Option (List ℕ) → Entry → Option Input
input_with fetched (entry.Mark count) = None
input_with fetched (entry.Rx count port byte) = Some (Rx port byte)
input_with fetched (entry.Sent count port) = Some (Sent port)
input_with fetched (entry.Sector count drive sector number bytes) = Some (Sector drive sector number bytes)
input_with fetched (entry.Written count number) = Some (Written number)
input_with fetched (entry.Read count drive sector number) = option_map (Sector drive sector number) fetched

-- the address of a sector that was read
abbrev pub place_of : SectorRead → SectorAddress
place_of read = record { drive = read.drive; track = read.track; sector = read.sector }

-- why it is refused: the replayer waits for no sector, for another one, or for what another write left there
abbrev pub unwanted : {S : Type 0} → Machine S → S → SectorRead → Option (ℕ × ℕ × ℕ) → Option Fault
unwanted M s read None = Some NotDue
unwanted M s read (Some next) =
    if not (same_address (M.address s next.0 next.1) (place_of read)) then Some NotDue
    else if not (next.2 == read.number) then Some StaleRead
    else None

abbrev pub bytes_refusal : {S : Type 0} → Machine S → S → List Entry → Option (List ℕ) → SectorRead → Option Fault
bytes_refusal M s held fetched read = unwanted M s read (wanted M s held fetched)

-- ---- answers

-- why no more than this many moves were made: no turns are left, no entry is held, the first entry waits for bytes, or
-- the next step runs out of memory
pub data Ends {S : Type 0} (M : Machine S) (turns : ℕ) : ℕ → S → List Entry → Option (List ℕ) → Type 0 where
  AllTurns : {t : S} {left : List Entry} {still : Option (List ℕ)} → Ends M turns turns t left still
  AtEnd : {n : ℕ} {t : S} {still : Option (List ℕ)} → n < turns → Ends M turns n t [] still
  Waits : {n : ℕ} {t : S} {left : List Entry} {still : Option (List ℕ)} → n < turns
      → is_none (wanted M t left still) ≡ false → Ends M turns n t left still
  NeedsMemory : {n : ℕ} {t : S} {left : List Entry} {still : Option (List ℕ)} → 0 < n → n < turns → IsBehind M t left
      → Ends M turns n t left still

-- the same in a word: nothing is left, it waits for bytes, all moves were made, or a step ran out of memory
abbrev pub replay_end : {S : Type 0} → Machine S → S → List Entry → Option (List ℕ) → ℕ → ℕ → ReplayEnd
replay_end M t left still turns made =
    if length left == 0 then End
    else if is_none (wanted M t left still) then (if made == turns then Turns else Memory)
    else Wait

-- why no move can be made at all, apart from memory: no entry is held, or the first waits for bytes
abbrev pub stop_at : {S : Type 0} → Machine S → S → List Entry → Option (List ℕ) → Option ReplayEnd
stop_at M s held fetched =
    if length held == 0 then Some End else if is_none (wanted M s held fetched) then None else Some Wait

-- an answer says how many moves were made, and why no more were
pub record Came {S : Type 0} (M : Machine S) (s : S) (held : List Entry) (fetched : Option (List ℕ)) (turns : ℕ)
    (r : Replayed) (t : S) (left : List Entry) (still : Option (List ℕ)) : Type 0 where
  pub replays : Replays M s held fetched r.moves t left still
  pub ends : Ends M turns r.moves t left still
  pub why : r.why ≡ replay_end M t left still turns r.moves

-- what a replay returns and leaves; it is refused if its first move is a step that runs out of memory
abbrev pub Answers : {S : Type 0} → Machine S → S → List Entry → Option (List ℕ) → ℕ → Result Replayed Fault → S
    → List Entry → Option (List ℕ) → Type 0
Answers M s held fetched turns (Ok r) t left still = Came M s held fetched turns r t left still
Answers M s held fetched turns (Err fault) t left still =
    (fault ≡ OutOfMemory) × (0 < turns) × IsBehind M s held × (t ≡ s) × (left ≡ held) × (still ≡ fetched)
