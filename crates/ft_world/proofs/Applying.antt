-- What follows from a row at a world that is shown: the world after it is reached by actions, so it is faithful, and
-- what was settled grows. So an event applies if its row holds and the fields show the world after it.
use Rattle.ft_world.proofs.Words.{Applies, Course, Event, Fault, Guest, IsFaithful, Leaves, Machine, MayNeedMemory, NeedsMemory, OutOfMemory, Reached, Record, Refuses, Reply, Row, Running, Shows, ShowsParts, ShowsSome, World, always_faithful, answer_of, changes_reach, fault_if, machine_of, refusal, row_changes, row_grows}
use Rattle.std.proofs.Common.{◌≡◌, Bool, Err, List, None, Ok, Some, ap, false, subst, sym, true}
use Rattle.std.specs.Prelude.{Result}
use Rattle.std.specs.Result.{IsErrAnd}
use Rattle.pair_protocol.specs.Reply.{Refused}

-- a world that is shown is faithful, since actions reach it
pub shown_is_faithful : {B H D S : Type 0} (state : B → S) (copied : B → Guest) (M : Machine S) (records : D → List Record)
    (v : Running B H D) (c : Course S) → Shows state copied M records v c → IsFaithful M c
shown_is_faithful state copied M records v c h =
    let N = machine_of M c in
    always_faithful N c.copying h.machine.lawful h.machine.copies c.world h.reached

-- an event applies if its row holds and the fields show the world after it
pub applies : {B H D S : Type 0} (state : B → S) (copied : B → Guest) (M : Machine S) (records : D → List Record) (old : Running B H D)
    (c : Course S) (e : Event) (answer : Result Reply Fault) (after : World S) (new : Running B H D) →
    (h : Shows state copied M records old c) →
    Row (machine_of M c) c.copying c.world e (answer_of answer) after →
    ShowsParts state M records h.drives new (record c { world = after }) →
    Applies state copied M records c e answer new
applies state copied M records old c e answer after new h row parts =
    let N = machine_of M c in
    let reached : Reached N c.copying after =
    changes_reach N c.copying c.world after h.reached (row_changes N c.copying c.world after _ _ row) in
    record {
      after = after;
      row = row;
      shows = record { drives = h.drives; machine = h.machine; copies_as = h.copies_as; reached = reached; parts = parts };
      faithful = always_faithful N c.copying h.machine.lawful h.machine.copies after reached;
      grows = row_grows N c.copying h.machine.lawful h.machine.copies c.world after _ _ h.reached row;
    }

-- An event that is refused, and leaves the world and the fields as they were.

pub unchanged : {B H D S : Type 0} (state : B → S) (copied : B → Guest) (M : Machine S) (records : D → List Record)
    (old new : Running B H D) (c : Course S) (e : Event) (fault : Fault) → (h : Shows state copied M records old c) →
    ShowsParts state M records h.drives new c →
    Row (machine_of M c) c.copying c.world e (Refused fault) c.world →
    Applies state copied M records c e (Err fault) new
unchanged state copied M records old new c e fault h parts row =
    applies state copied M records old c e (Err fault) c.world new h row parts

same_world : {B H D S : Type 0} (state : B → S) (copied : B → Guest) (M : Machine S) (records : D → List Record) (old new : Running B H D)
    (c : Course S) (e : Event) (fault : Fault) → (h : Shows state copied M records old c) → new ≡ old →
    Row (machine_of M c) c.copying c.world e (Refused fault) c.world →
    Applies state copied M records c e (Err fault) new
same_world state copied M records old new c e fault h same row =
    unchanged state copied M records old new c e fault h
    (subst (λ v. ShowsParts state M records h.drives v c) (sym same) h.parts) row

pub refuses : {B H D S : Type 0} (state : B → S) (copied : B → Guest) (M : Machine S) (records : D → List Record) (old new : Running B H D)
    (c : Course S) (e : Event) (fault : Fault) → Shows state copied M records old c → new ≡ old →
    refusal (machine_of M c) c.copying c.world e ≡ Some fault →
    Leaves c.world e fault c.world → Applies state copied M records c e (Err fault) new
refuses state copied M records old new c e fault h same because leaves =
    same_world state copied M records old new c e fault h same (Refuses because leaves)

pub needs_memory : {B H D S : Type 0} (state : B → S) (copied : B → Guest) (M : Machine S) (records : D → List Record)
    (old new : Running B H D) (c : Course S) (e : Event) (fault : Fault) → Shows state copied M records old c → new ≡ old →
    refusal (machine_of M c) c.copying c.world e ≡ None →
    MayNeedMemory (machine_of M c) c.world e → fault ≡ OutOfMemory → Applies state copied M records c e (Err fault) new
needs_memory state copied M records old new c e fault h same free takes needs =
    subst (λ f. Applies state copied M records c e (Err f) new) (sym needs)
    (same_world state copied M records old new c e OutOfMemory h same (NeedsMemory free takes))

-- a refusal that applies, and one that does not
pub stands : (b : Bool) (fault : Fault) → b ≡ true → fault_if b fault ≡ Some fault
stands b fault e = ap (λ b. fault_if b fault) e

pub stands_not : (b : Bool) (fault : Fault) → b ≡ false → fault_if b fault ≡ None
stands_not b fault e = ap (λ b. fault_if b fault) e

-- what is shown goes on from event to event
pub goes_on : {B H D S : Type 0} (state : B → S) (copied : B → Guest) (M : Machine S) (records : D → List Record) (old new : Running B H D)
    (e : Event) (answer : Result Reply Fault) → ShowsSome state copied M records old →
    ((c : Course S) → Shows state copied M records old c → Applies state copied M records c e answer new) →
    ShowsSome state copied M records new
goes_on state copied M records old new e answer some does =
    let a = does some.course some.shows in
    record { course = record some.course { world = a.after }; shows = a.shows }

-- the fault that a call hands on
pub handed_on : {T : Type 0} (r : Result T Fault) (fault : Fault) → IsErrAnd r (λ e. e ≡ fault) → r ≡ Err fault
handed_on (Ok x) fault h = absurd h
handed_on (Err e) fault h = ap Err h

-- the fault that a call hands on is the event's answer
pub hands_on : {B H D S : Type 0} {state : B → S} {copied : B → Guest} {M : Machine S} {records : D → List Record} {c : Course S}
    {e : Event} {new : Running B H D} (r : Result Reply Fault) (fault : Fault) → IsErrAnd r (λ k. k ≡ fault) →
    Applies state copied M records c e (Err fault) new → Applies state copied M records c e r new
hands_on {state = state} {copied} {M} {records} {c} {e} {new} r fault h a =
    subst (λ r. Applies state copied M records c e r new) (sym (handed_on r fault h)) a
