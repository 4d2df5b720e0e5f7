-- What the guest of a primary's worker has done.
use Rattle.std.specs.Prelude.{◌≡◌, ℕ, zero, suc, ◌+◌, Bool, true, List, [], ◌∷◌, ◌++◌, Option, None, Some, Contains}
use Rattle.event_callbacks.specs.declared.operations.OpId.{OpId}
use Rattle.event_callbacks.specs.declared.operations.Operation.{Operation}
use Rattle.guest_lockstep.specs.Lockstep.{step_refusal}
use Rattle.guest_lockstep.specs.Machine.{Machine, Move, Do, Take}
use Rattle.guest_lockstep.specs.Recorded.{Recorded}
use Rattle.guest_lockstep.specs.declared.input.Input.{Input}
use Rattle.guest_lockstep.specs.declared.input.Input.TheVariants as input
use Rattle.guest_lockstep.specs.declared.reads.Reads.TheVariants.{Logged}
use Rattle.guest_lockstep.specs.Reach.{accepted_at, acceptances, bare, key_at, keys, operations}
use Rattle.i8080_words.specs.declared.refusal.Fault.TheVariants.{Idle}
use Rattle.log_entry.specs.Entries.{entries, inputs_of}
use Rattle.log_entry.specs.declared.entry.Entry.{Entry}
use Rattle.pair_protocol.specs.Lawful.{Among}
use Rattle.shared_disk.specs.Arrivals.{read_address}
use Rattle.pair_rule.specs.Shown.{IsAcknowledged}
use Rattle.pair_rule.specs.declared.payload.DiskAnswer.{DiskAnswer}
use Rattle.pair_rule.specs.declared.payload.DiskAnswer.TheVariants as answer
use Rattle.pair_rule.specs.declared.view.PrimaryView.{PrimaryView}
use Rattle.pair_threads.specs.declared.recording.Recording.{Recording}
use Rattle.shared_disk.specs.declared.disk.SectorRead.{SectorRead}

-- an operation that is outstanding is among the names kept, and a step of the moves gave it
pub record IsGiven (names : List OpId) (moves : List Move) (name : OpId) (o : Operation) : Type 0 where
  pub named : Contains names name
  pub given : Among o (operations moves)

-- what an input says of the disk is one of its answers: a write is done, or a sector that was read is the one under the head
abbrev pub IsAnswer : {S : Type 0} → Machine S → List DiskAnswer → S → Input → Type 0
IsAnswer M answers s (input.Rx port byte) = Unit {0}
IsAnswer M answers s (input.Sent port) = Unit {0}
IsAnswer M answers s (input.Sector drive sector number bytes) =
    (r : SectorRead) × Among (answer.Read r) answers × (read_address r ≡ M.address s drive sector) × (r.number ≡ number)
    × (r.bytes ≡ bytes)
IsAnswer M answers s (input.Written number) = Among (answer.Written number) answers

-- so is what each input of these moves says
abbrev pub AreAnswers : {S : Type 0} → Machine S → List DiskAnswer → S → List Move → Type 0
AreAnswers M answers s [] = Unit {0}
AreAnswers {S} M answers s (Do gives ∷ moves) =
    (u : S) → M.step s ≡ Some (u, gives) → AreAnswers M answers u moves
AreAnswers {S} M answers s (Take i ∷ moves) =
    IsAnswer M answers s i × ((u : S) → M.take s i ≡ Some u → AreAnswers M answers u moves)

-- from its boot the guest has made a recorded run with these entries; all that is outstanding was given in it; the mark of
-- all that the seat released is among the entries seen; and the disk answered what the run's inputs say of it
pub record Leads {S : Type 0} (M : Machine S) (boot : S) (list : List Entry) (names : List OpId) (view : PrimaryView)
    (s : S) : Type 0 where
  pub moves : List Move
  pub runs : Recorded M boot moves s
  pub entries_are : entries Logged (M.count boot) moves ≡ list
  pub outstanding : (name : OpId) (o : Operation) → M.find s name ≡ Some o → IsGiven names moves name o
  pub covered : (o : Operation) → Among o view.released → IsAcknowledged moves view.seen o
  pub answered : AreAnswers M view.answers boot moves

-- what the inputs of a list say: the keys that were taken at each port, and how many bytes are accepted there
pub record Says (list : List Entry) (taken : ℕ → List ℕ) (accepted : ℕ → ℕ) : Type 0 where
  pub keys_are : (port : ℕ) → keys port (inputs_of list) ≡ taken port
  pub accepted_are : (port : ℕ) → acceptances port (inputs_of list) ≡ accepted port

-- what is said of the two ports, and of any other number
abbrev pub by_port : {A : Type 0} → A → A → A → ℕ → A
by_port first second none zero = first
by_port first second none (suc zero) = second
by_port first second none (suc (suc n)) = none

-- a guest that is said to idle does
abbrev pub IdlesIf : {S : Type 0} → Machine S → Bool → S → Type 0
IdlesIf M idle s = idle ≡ true → step_refusal M s ≡ Some Idle

-- a list with one entry more, or none
abbrev pub longer_by : List Entry → Option Entry → List Entry
longer_by list None = list
longer_by list (Some e) = list ++ e ∷ []

-- it is so with what a seat knows, the entry that waits, and what the inputs say
abbrev pub IsLeading : {B S : Type 0} → (B → S) → Machine S → S → PrimaryView → (ℕ → List ℕ) → (ℕ → ℕ) →
    Recording B → Type 0
IsLeading state M boot view taken accepted r =
    Leads M boot (longer_by view.list r.waiting) r.given.items view (state r.board)
    × IdlesIf M r.idle (state r.board) × Says (longer_by view.list r.waiting) taken accepted

-- and it stays so, whatever the seat knows
abbrev pub LeadsOn : {B S : Type 0} → (B → S) → Machine S → Recording B → Recording B → Type 0
LeadsOn {B} {S} state M old new =
    (boot : S) (view : PrimaryView) (taken : ℕ → List ℕ) (accepted : ℕ → ℕ) →
    IsLeading state M boot view taken accepted old → IsLeading state M boot view taken accepted new

-- and after an input that the disk's answers allow, with its key and its acceptance added
abbrev pub TakesOn : {B S : Type 0} → (B → S) → Machine S → Input → Recording B → Recording B → Type 0
TakesOn {B} {S} state M input old new =
    (boot : S) (view : PrimaryView) (taken after : ℕ → List ℕ) (accepted more : ℕ → ℕ) →
    IsAnswer M view.answers (state old.board) input →
    ((port : ℕ) → after port ≡ taken port ++ key_at port (bare input)) →
    ((port : ℕ) → more port ≡ accepted port + accepted_at port (bare input)) →
    IsLeading state M boot view taken accepted old → IsLeading state M boot view after more new

-- and after what the disk answered, if that is among the seat's answers
abbrev pub HeardOn : {B S : Type 0} → (B → S) → Machine S → DiskAnswer → Recording B → Recording B → Type 0
HeardOn {B} {S} state M a old new =
    (boot : S) (view : PrimaryView) (taken : ℕ → List ℕ) (accepted : ℕ → ℕ) → Among a view.answers →
    IsLeading state M boot view taken accepted old → IsLeading state M boot view taken accepted new
