-- A primary's worker: what it keeps from turn to turn, what it may ask of the disk, and when it is at rest.
use Rattle.std.specs.Prelude.{◌≡◌, ◌≢◌, ◌⊎◌, ◌↔◌, ◌≤◌, ◌+◌, ◌==◌, ◌||◌, ◌&&◌, not, nat_lt, cond, ℕ, Bool, true, false, if◌then◌else◌, List, [], length, take, vec_len, Option, Some, None, is_some}
use Rattle.event_callbacks.specs.declared.operations.OpId.TheVariants as id
use Rattle.event_callbacks.specs.declared.operations.Operation.TheVariants.{Byte, Write}
use Rattle.disk_dcdd.specs.declared.address.SectorAddress.{SectorAddress}
use Rattle.guest_lockstep.specs.Machine.{Machine, booted_from}
use Rattle.log_entry.specs.declared.entry.Entry.{Entry}
use Rattle.pair_rule.specs.declared.view.Core.{Core}
use Rattle.pair_rule.specs.declared.view.PrimaryCall.{PrimaryCall}
use Rattle.pair_rule.specs.Boxes.{port_box}
use Rattle.pair_rule.specs.Knowledge.{AllAre}
use Rattle.pair_rule.specs.Seats.{Fills}
use Rattle.pair_rule.specs.Threads.{CallKept}
use Rattle.pair_rule.specs.declared.payload.DiskAnswer.{DiskAnswer}
use Rattle.pair_rule.specs.declared.payload.DiskRequest.{DiskRequest}
use Rattle.pair_rule.specs.declared.payload.DiskRequest.TheVariants as ask
use Rattle.pair_rule.specs.declared.payload.Payload.TheVariants.{Out}
use Rattle.pair_threads.specs.declared.chore.Chore.{Chore}
use Rattle.pair_threads.specs.declared.chore.Chore.TheVariants.{See, Emit, Count, Accept, Key, Ask, Answer, Complete, Post, Run}
use Rattle.pair_threads.specs.declared.primary.PrimaryWorker.{PrimaryWorker}
use Rattle.pair_threads.specs.declared.port_inputs.PortInputs.{PortInputs}
use Rattle.pair_threads.specs.declared.recording.Recording.{Recording}
use Rattle.pair_threads.specs.declared.worker.Turn.{Turn}
use Rattle.pair_threads.specs.declared.worker.Turn.TheVariants.{Ends, Moved, Waits}
use Rattle.pair_threads.specs.Choosing.{accepted_of, at_other, counted_of, emitted_of, fruitless_after, may_accept, next_chore, to_append, to_emit, turn_after}
use Rattle.pair_threads.specs.Ending.{NoSectorIsDue}
use Rattle.pair_threads.specs.Leading.{IsLeading, by_port}
use Rattle.pair_threads.specs.Patience.{has_keys}
use Rattle.pair_threads.specs.Screens.{port_of}

-- the keys of a port that were taken
abbrev pub keys_taken : PortInputs → List ℕ
keys_taken p = take p.taken p.typed.items

-- the keys and the acceptances that its guest took, by port
abbrev pub keys_by : {B : Type 0} → PrimaryWorker B → ℕ → List ℕ
keys_by w = by_port (keys_taken w.port0) (keys_taken w.port1) []

abbrev pub told_by : {B : Type 0} → PrimaryWorker B → ℕ → ℕ
told_by w = by_port w.port0.accepted w.port1.accepted 0

-- its guest has made the run of its seat's list and of the entry that waits, and took in it what its ports say was taken
abbrev pub WorkerLeads : {B S : Type 0} → (B → S) → Machine S → S → PrimaryWorker B → Type 0
WorkerLeads state M boot w = IsLeading state M boot w.seat.core.known.primary (keys_by w) (told_by w) w.guest

-- all calls of a seat kept their promises, for the machine that boots there with any sectors
abbrev pub CallsKept : {S : Type 0} → Machine S → S → List ℕ → List ℕ → List PrimaryCall → Type 0
CallsKept M boot typed0 typed1 calls =
    M.count boot ≡ 0 → (sectors : SectorAddress → List ℕ) →
    AllAre calls (CallKept (booted_from M boot sectors) typed0 typed1)

abbrev pub WorkerKeeps : {B S : Type 0} → Machine S → S → PrimaryWorker B → Type 0
WorkerKeeps M boot w = CallsKept M boot w.port0.typed.items w.port1.typed.items w.seat.core.known.primary.calls

-- it still leads, with its promises kept, its table, its plan and what was typed, and has not asked to go on alone
abbrev pub Works : {B S : Type 0} → (B → S) → Machine S → PrimaryWorker B → PrimaryWorker B → Type 0
Works {B} {S} state M old new =
    (new.seat.table ≡ old.seat.table) × (new.seat.core.known.primary.winner ≡ old.seat.core.known.primary.winner)
    × (new.plan ≡ old.plan) × (new.port0.typed ≡ old.port0.typed) × (new.port1.typed ≡ old.port1.typed)
    × ((boot : S) → WorkerLeads state M boot old → WorkerLeads state M boot new)
    × ((boot : S) → WorkerLeads state M boot old → WorkerKeeps M boot old → WorkerKeeps M boot new)

-- it may ask this: a write only if it is outstanding, and all that its guest did is acknowledged
abbrev pub MayAsk : {B S : Type 0} → (B → S) → Machine S → PrimaryWorker B → DiskRequest → Type 0
MayAsk state M w (ask.Write write) =
    (M.find (state w.guest.board) (id.Write write.number) ≡ Some (Write write)) × (w.guest.waiting ≡ None)
    × (w.seen ≡ length w.list.items)
MayAsk state M w (ask.Read address) = Unit {0}

-- the keys of a port that its guest took: so many more, and what it has at the other port is as before
abbrev pub taken_of : {B : Type 0} → ℕ → PrimaryWorker B → ℕ
taken_of port w = if port == 0 then w.port0.taken else w.port1.taken

abbrev pub HasTakenKeys : {B : Type 0} → ℕ → PrimaryWorker B → PrimaryWorker B → ℕ → Type 0
HasTakenKeys port old new more = (taken_of port new ≡ taken_of port old + more) × (at_other port new ≡ at_other port old)

-- what a worker keeps of what its chores do, with what it has at a port and at the other one
pub record Kept (B : Type 0) : Type 0 where
  pub core : Core
  pub guest : Recording B
  pub taken : ℕ
  pub accepted : ℕ
  pub counted : ℕ
  pub emitted : ℕ
  pub other : PortInputs × ℕ × ℕ
  pub seen : ℕ
  pub posted : ℕ
  pub asked : Bool
  pub answer : Option DiskAnswer

abbrev pub kept_at : {B : Type 0} → ℕ → PrimaryWorker B → Kept B
kept_at port w = record {
  core = w.seat.core;
  guest = w.guest;
  taken = taken_of port w;
  accepted = accepted_of port w;
  counted = counted_of port w;
  emitted = emitted_of port w;
  other = at_other port w;
  seen = w.seen;
  posted = w.posted;
  asked = w.asked;
  answer = w.answer;
}

-- the byte that it gave at a port, with its number, and whether that was new; without one it gave nothing
abbrev pub EmitsTo : {B : Type 0} → Option (ℕ × ℕ) → ℕ → PrimaryWorker B → Kept B → Bool → Type 0
EmitsTo None port old new is_new =
    (new.core ≡ old.seat.core) × (is_new ≡ false) × (new.emitted ≡ emitted_of port old) × (new.other ≡ at_other port old)
EmitsTo (Some (number, byte)) port old new is_new =
    Fills (port_box port) (Out (Byte port number byte)) old.seat.core new.core
    × (is_new ≡ nat_lt (emitted_of port old) number) × (new.emitted ≡ number) × (new.other ≡ at_other port old)

abbrev pub Emits : {B : Type 0} → Option (ℕ × ℕ) → ℕ → PrimaryWorker B → PrimaryWorker B → Bool → Type 0
Emits due port old new is_new = EmitsTo due port old (kept_at port new) is_new

-- what a chore has done, if it is a port's at this one and nothing at the other, and whether that was a change
abbrev pub DoesTo : {B S : Type 0} → (B → S) → Machine S → Chore → ℕ → PrimaryWorker B → Kept B → Bool → Type 0
DoesTo state M See port old new moved = (moved ≡ true) ↔ (new.seen ≢ old.seen)
DoesTo state M Emit port old new moved = EmitsTo (to_emit M (state old.guest.board) port old) port old new moved
DoesTo state M Count port old new moved =
    ((moved ≡ true) ↔ (new.counted ≢ counted_of port old)) × (new.other ≡ at_other port old)
DoesTo state M Accept port old new moved =
    (moved ≡ may_accept M (state old.guest.board) port old)
    × (new.accepted ≡ accepted_of port old + cond moved 1 0) × (new.other ≡ at_other port old)
DoesTo state M Key port old new moved =
    (new.taken ≡ taken_of port old + cond moved 1 0) × (new.other ≡ at_other port old)
DoesTo state M Ask port old new moved = (moved ≡ true) ↔ (new.asked ≢ old.asked)
DoesTo state M Answer port old new moved = (moved ≡ true) ↔ (new.asked ≢ old.asked)
DoesTo state M Complete port old new moved = moved ≡ true → new.answer ≢ old.answer
DoesTo state M Post port old new moved = (moved ≡ true) ↔ (new.posted ≢ old.posted)
DoesTo state M Run port old new moved =
    moved ≡ true → (length new.guest.given.items ≤ 1) ⊎ (new.guest.waiting ≢ None)

abbrev pub Does : {B S : Type 0} → (B → S) → Machine S → Chore → ℕ → PrimaryWorker B → PrimaryWorker B → Bool → Type 0
Does state M chore port old new moved = DoesTo state M chore port old (kept_at port new) moved

-- port 1 has work if it has a key that is not taken, or a byte that is not accepted
abbrev pub has_work_at_1 : {B S : Type 0} → (B → S) → Machine S → PrimaryWorker B → Bool
has_work_at_1 state M w = has_keys w.port1 || is_some (M.due_byte (state w.guest.board) 1)

-- whether it is port 1's turn after a chore: the port changes after the last one at the disk; port 1 has every second rotation,
-- if it has work
abbrev pub second_after : Chore → Bool → Bool → Bool
second_after Complete second work = not second && work
second_after chore second work = second

-- what a turn of it was in which it did a chore: it is at its end and does none after the last one of a rotation; or it did
-- the one that was due, at the port whose turn it was, the next one is due, and how many turns changed nothing in a row is
-- counted on
abbrev pub HasDone : {B S : Type 0} → (B → S) → Machine S → PrimaryWorker B → PrimaryWorker B → Turn → Type 0
HasDone state M old new turn =
    ((turn ≡ Ends) × (old.chore ≡ Run) × (new.chore ≡ Run))
    ⊎ ((moved : Bool) × Does state M old.chore (port_of old.second) old new moved
    × (turn ≡ turn_after moved old.fruitless old.chore) × (new.chore ≡ next_chore old.chore)
    × (new.fruitless ≡ fruitless_after moved old.fruitless)
    × (new.second ≡ second_after old.chore old.second (has_work_at_1 state M old)))

-- what a turn of it was in which it appended the entry that waits, or found the log full
abbrev pub HasAppended : {B : Type 0} → PrimaryWorker B → PrimaryWorker B → Turn → Type 0
HasAppended old new turn =
    ((turn ≡ Moved) × (new.guest.waiting ≡ None)) ⊎ ((turn ≡ Waits) × (new.full ≡ true))

-- what a turn of it was that did not ask to go on alone: there was an entry to append, or it did a chore
abbrev pub DoesNext : {B S : Type 0} → (B → S) → Machine S → Option Entry → PrimaryWorker B → PrimaryWorker B → Turn →
    Type 0
DoesNext state M (Some e) old new turn = HasAppended old new turn
DoesNext state M None old new turn = HasDone state M old new turn

-- what a turn of this number was: in the turn in which it asks to go on alone it is at its end
abbrev pub HasHadTurn : {B S : Type 0} → (B → S) → Machine S → PrimaryWorker B → ℕ → PrimaryWorker B → Turn → Type 0
HasHadTurn state M old number new turn =
    ((old.plan.contests_at ≡ Some number) × (turn ≡ Ends))
    ⊎ ((old.plan.contests_at ≢ Some number) × DoesNext state M (to_append old) old new turn)

-- its guest idles with all keys taken and no sector due, nothing is outstanding, the disk is not asked, all that it answered is taken,
-- and all entries are acknowledged
pub record IsAtRest {B S : Type 0} (state : B → S) (M : Machine S) (w : PrimaryWorker B) : Type 0 where
  pub idle : w.guest.idle ≡ true
  pub none : w.guest.given.items ≡ []
  pub none_waits : w.guest.waiting ≡ None
  pub all0 : w.port0.taken ≡ vec_len w.port0.typed
  pub all1 : w.port1.taken ≡ vec_len w.port1.typed
  pub acknowledged : w.seen ≡ length w.list.items
  pub asks_nothing : w.asked ≡ false
  pub all_answers : w.answer ≡ None
  pub no_sector : NoSectorIsDue M (state w.guest.board)
