-- What a replayer does with entries of which nothing is known: the moves of a replay, as far as the entries fit.
use Rattle.std.specs.Prelude.{◌≡◌, ℕ, ◌<◌, ◌≤◌, List, Option, None, is_some, if◌then◌else◌, Result, Ok, Err}
use Rattle.guest_lockstep.specs.Machine.{Machine}
use Rattle.guest_lockstep.specs.Recorded.{Counts}
use Rattle.guest_lockstep.specs.declared.replay_end.ReplayEnd.{ReplayEnd}
use Rattle.guest_lockstep.specs.declared.replay_end.ReplayEnd.TheVariants.{Turns, Memory}
use Rattle.i8080_words.specs.declared.refusal.Fault.{Fault}
use Rattle.i8080_words.specs.declared.refusal.Fault.TheVariants.{OutOfMemory, Malformed}
use Rattle.log_entry.specs.Entries.{read_of}
use Rattle.log_entry.specs.Standing.{IsOnTrace}
use Rattle.log_entry.specs.declared.entry.Entry.{Entry}
use Rattle.replayer.specs.Replaying.{Moves, Replays, IsBehind, Came, stop_at}
use Rattle.replayer.specs.declared.replayer.Replayed.{Replayed}

-- the entries are not of this machine's run: some entry is held, and it waits for no bytes, but no move by it can be made.
-- Its count is past, or the machine makes no step toward it, or does not accept its input
pub record Diverges {S : Type 0} (M : Machine S) (s : S) (held : List Entry) (fetched : Option (List ℕ)) : Type 0 where
  pub ready : stop_at M s held fetched ≡ None
  pub no_move : (t : S) (left : List Entry) (still : Option (List ℕ)) → Moves M s held fetched t left still → ⊥

-- why no move is made: a step that could be made runs out of memory, or the entries fit at no move
pub data Refuses {S : Type 0} (M : Machine S) (s : S) (held : List Entry) (fetched : Option (List ℕ))
    : Fault → Type 0 where
  NoMemory : IsBehind M s held → (Diverges M s held fetched → ⊥) → Refuses M s held fetched OutOfMemory
  NoneFits : Diverges M s held fetched → Refuses M s held fetched Malformed

-- an answer is that of a replay of this many turns; or of as many as it made moves, at least one, since the entries fit
-- no further
pub data CameOrDiverged {S : Type 0} (M : Machine S) (s : S) (held : List Entry) (fetched : Option (List ℕ)) (turns : ℕ)
    (r : Replayed) (t : S) (left : List Entry) (still : Option (List ℕ)) : Type 0 where
  AllFit : Came M s held fetched turns r t left still → (r.moves < turns → Diverges M t left still → ⊥)
      → CameOrDiverged M s held fetched turns r t left still
  SomeFit : 0 < r.moves → r.moves < turns → Came M s held fetched r.moves r t left still → Diverges M t left still
      → CameOrDiverged M s held fetched turns r t left still

-- what a replay over any entries returns and leaves; if it is refused, nothing changes
abbrev pub AnswersUntrusted : {S : Type 0} → Machine S → S → List Entry → Option (List ℕ) → ℕ → Result Replayed Fault → S
    → List Entry → Option (List ℕ) → Type 0
AnswersUntrusted M s held fetched turns (Ok r) t left still = CameOrDiverged M s held fetched turns r t left still
AnswersUntrusted M s held fetched turns (Err fault) t left still =
    (0 < turns) × Refuses M s held fetched fault × (t ≡ s) × (left ≡ held) × (still ≡ fetched)

-- how a step that is refused is seen, and why a replay that has made moves makes no more if it is refused
abbrev pub seen : Fault → Fault
seen OutOfMemory = OutOfMemory
seen _ = Malformed

abbrev pub why_after : Fault → ReplayEnd
why_after OutOfMemory = Memory
why_after _ = Turns

-- the bytes that are kept once an entry is taken: those of a read are taken with it
abbrev pub bytes_after : Option (List ℕ) → Entry → Option (List ℕ)
bytes_after fetched e = if is_some (read_of e) then None else fetched

-- the same of a stretch of at most this many moves, which makes at least one
abbrev pub AnswersStretch : {S : Type 0} → Machine S → S → List Entry → Option (List ℕ) → ℕ → Result ℕ Fault → S
    → List Entry → Option (List ℕ) → Type 0
AnswersStretch M s held fetched turns (Ok made) t left still =
    (0 < made) × (made ≤ turns) × Replays M s held fetched made t left still
AnswersStretch M s held fetched turns (Err fault) t left still =
    Refuses M s held fetched fault × (t ≡ s) × (left ≡ held) × (still ≡ fetched)

-- ---- laws

-- those of a recorded run never diverge
abbrev pub RunsDoNotDiverge : Type 0 → Type 0
RunsDoNotDiverge S = (M : Machine S) (s : S) (held : List Entry) (fetched : Option (List ℕ)) → Counts M
    → IsOnTrace M s held fetched → Diverges M s held fetched → ⊥
