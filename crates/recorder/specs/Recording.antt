-- What a recorder does: how far it advances, why it stops, what it takes, and what it pushes.
use Rattle.std.specs.Prelude.{◌≡◌, ℕ, zero, suc, ◌<◌, ◌⊎◌, Option, Some, None, Result, Ok, Err}
use Rattle.guest_lockstep.specs.Lockstep.{HasRoom, IsInput, IsNumbered, step_refusal}
use Rattle.guest_lockstep.specs.Machine.{Machine, refusal_of}
use Rattle.guest_lockstep.specs.Recorded.{Accepts}
use Rattle.guest_lockstep.specs.Running.{RunsOn}
use Rattle.guest_lockstep.specs.declared.input.Input.{Input}
use Rattle.guest_lockstep.specs.declared.reads.Reads.{Reads}
use Rattle.guest_lockstep.specs.declared.running.StopReason.{StopReason}
use Rattle.guest_lockstep.specs.declared.running.StopReason.TheVariants as reason
use Rattle.guest_lockstep.specs.declared.running.Stopped.{Stopped}
use Rattle.i8080_words.specs.declared.refusal.Fault.{Fault}
use Rattle.i8080_words.specs.declared.refusal.Fault.TheVariants.{OutOfMemory}
use Rattle.log_buffer.specs.Logs.{Logging, push_answer, room_answer}
use Rattle.log_entry.specs.Entries.{entry_of}
use Rattle.log_entry.specs.declared.entry.Entry.TheVariants.{Mark}

-- ---- advance

-- the log after a run to this count: the mark of the operation that it gave is pushed, right after its step
abbrev pub logged : {L : Type 0} → Logging L → L → ℕ → StopReason → L
logged K log count reason.Turns = log
logged K log count (reason.Operation name) = K.pushed log (Mark count)
logged K log count (reason.Refused fault) = log

-- an advance is a run of the guest, which leaves that log
pub record Advances {S L : Type 0} (M : Machine S) (K : Logging L) (s : S) (log : L) (turns : ℕ) (a : Stopped) (t : S)
    (new : L) : Type 0 where
  pub runs : RunsOn M s turns a t
  pub log_is : new ≡ logged K log (M.count t) a.reason

-- the refusal of the log comes before that of the guest
abbrev pub refusal_behind : Result (Unit {0}) Fault → Option Fault → Option Fault
refusal_behind (Err fault) refusal = Some fault
refusal_behind (Ok room) refusal = refusal

-- why no step is executed, other than out of memory; an advance of no turns is never refused
abbrev pub advance_refusal : {S L : Type 0} → Machine S → Logging L → S → L → ℕ → Option Fault
advance_refusal M K s log zero = None
advance_refusal M K s log (suc turns) = refusal_behind (room_answer K log) (step_refusal M s)

-- an advance that nothing refuses executes a step or runs out of memory, unless it has no turns
abbrev pub AdvancesSome : {S L : Type 0} → Machine S → Logging L → S → L → ℕ → Result Stopped Fault → S → L → Type 0
AdvancesSome M K s log turns (Ok a) t new = Advances M K s log turns a t new × ((turns ≡ 0) ⊎ (0 < a.steps))
AdvancesSome M K s log turns (Err fault) t new = (fault ≡ OutOfMemory) × (0 < turns) × (t ≡ s) × (new ≡ log)

-- what an advance returns and leaves; a refusal changes nothing
abbrev pub AdvancesUnless : {S L : Type 0} → Machine S → Logging L → S → L → ℕ → Option Fault → Result Stopped Fault → S → L
    → Type 0
AdvancesUnless M K s log turns (Some fault) answer t new = (answer ≡ Err fault) × (t ≡ s) × (new ≡ log)
AdvancesUnless M K s log turns None answer t new = AdvancesSome M K s log turns answer t new

-- ---- offer

-- a guest awaits an input: the guest does not refuse it, and has a number left for a key
pub record IsDue {S : Type 0} (M : Machine S) (s : S) (input : Input) : Type 0 where
  pub is_input : IsInput input
  pub numbered : IsNumbered input
  pub allowed : refusal_of M s input ≡ None
  pub number_left : HasRoom M s input

-- nothing refuses an input: the guest awaits it, and the log has room for its entry
pub record MayTake {S L : Type 0} (M : Machine S) (K : Logging L) (s : S) (log : L) (input : Input) : Type 0 where
  pub due : IsDue M s input
  pub room : room_answer K log ≡ Ok tt

-- the guest's refusal comes before the log's
abbrev pub check_answer : {L : Type 0} → Logging L → Option Fault → L → Result (Unit {0}) Fault
check_answer K (Some fault) log = Err fault
check_answer K None log = room_answer K log

-- the same of an offer, whose answer is the entry's index
abbrev pub offer_answer : {L : Type 0} → Logging L → Option Fault → L → Result ℕ Fault
offer_answer K (Some fault) log = Err fault
offer_answer K None log = push_answer K log

-- an input that is taken has its entry pushed, at the guest's count; a refusal changes nothing
abbrev pub Offers : {S L : Type 0} → Machine S → Logging L → Reads → S → L → Input → Result ℕ Fault → S → L → Type 0
Offers M K reads s log input (Ok index) t new =
    Accepts M s input t × (new ≡ K.pushed log (entry_of reads (M.count s) input))
Offers M K reads s log input (Err fault) t new = (t ≡ s) × (new ≡ log)
