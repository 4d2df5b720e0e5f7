-- A running pair answers line after line, in whatever world it shows.
use Rattle.std.proofs.Common.{◌≡◌, ℕ, zero, suc, ◌+◌, ◌<◌, ◌≤◌, List, [], ◌∷◌, Option, Some, None, Result, Ok, Err, ap, get_or, length, refl, subst, sym, ◌∙◌}
use Rattle.std.specs.Prelude.{OnOk, take}
use Rattle.std.specs.Io.KnownBytes.{Keeps}
use Rattle.std.proofs.lemmas.List.{take_more}
use Rattle.std.proofs.KnownBytes.{Keeps-refl}
use Rattle.ft_node.specs.Roles.{node_count}
use Rattle.ft_world.specs.Applies.{Happens, Shows, failures_told}
use Rattle.ft_world.specs.Running.{Running}
use Rattle.ft_world.specs.Shows.{IsStatusAt}
use Rattle.ft_world.specs.Standing.{Course, machine_of}
use Rattle.ft_world.specs.declared.hosts.NodeStatus.{NodeStatus}
use Rattle.guest_parts.specs.Guest.{Guest}
use Rattle.guest_lockstep.specs.Machine.{Machine}
use Rattle.i8080_words.specs.declared.refusal.Fault.{Fault}
use Rattle.shared_disk.specs.Failing.{Disk, before_failures, disk_may_fail, failures_of, records_in}
use Rattle.shared_disk.proofs.Failures.{before-add, no_more_failures}
use Rattle.pair_events.specs.declared.event.Event.{Event}
use Rattle.pair_events.specs.declared.reply.Reply.{Reply}
use Rattle.pair_protocol.specs.Node.{Alone, Backup, Draining, Joining, Node, Primary, Role, Spare}
use Rattle.pair_protocol.specs.World.{World}
use Rattle.command_script.specs.Answering.{AddsAnswers, Answered, AnswersAll, Asks, ByRow, Happen, NoLine, Nothing, Replies, Tells}
use Rattle.command_io.specs.Reports.{AddsLine}
use Rattle.command_script.specs.Running.{HasHappened, HaveAnswers, HaveHappened, HasFailed}
use Rattle.command_io.specs.declared.failure.Failure.{Failure}
use Rattle.command_script.proofs.Answering.{adds_more, adds_none, adds_one, happen-append}
use Rattle.altair_pair.specs.Queries.{Finds}
use Rattle.script_language.specs.declared.line.Line.{Line}
use Rattle.script_language.specs.declared.line.Line.TheVariants as line
use Rattle.script_language.specs.declared.line.Query.{Query}
use Rattle.script_language.specs.declared.line.Query.TheVariants as query

-- ---- how often the device has failed

-- in memory, it fails at no more than one access
is_bound : (left : ℕ) → before_failures (failures_of left) (Some 0) ≡ Some (failures_of left)
is_bound zero = refl
is_bound (suc left) = refl

-- the device of the program's disk fails once at most, and never if no access is to fail
pub fails_within : {B H : Type 0} (old new : Running B H Disk) (failures : ℕ) → HasFailed old failures new
    → failures ≤ failures_of old.disk.left
fails_within old new failures counted =
    no_more_failures failures (failures_of old.disk.left) (disk_may_fail new.disk) (sym counted ∙ is_bound old.disk.left)

-- failures are added up
pub counts_more : {B H : Type 0} (start mid new : Running B H Disk) (failures more : ℕ) → HasFailed start failures mid
    → HasFailed mid more new → HasFailed start (failures + more) new
counts_more start mid new failures more is next =
    is ∙ ap (before_failures failures) next ∙ sym (before-add failures more (disk_may_fail new.disk))

pub counts_one : {B H : Type 0} (old new : Running B H Disk) (failures : ℕ) → HasFailed old failures new
    → HasFailed old (failures + 0) new
counts_one old new failures is = counts_more old new new failures 0 is refl

-- ---- what a query finds does not depend on where the machine boots

module _ {S : Type 0} (M : Machine S) (c : Course S) where
  count_same : (x : Node S) (r : Role) → node_count M x r ≡ node_count (machine_of M c) x r
  count_same x Primary = refl
  count_same x Backup = refl
  count_same x Joining = refl
  count_same x Draining = refl
  count_same x Alone = refl
  count_same x Spare = refl

  status_same : (x : Option (Node S)) (status : Option NodeStatus) → IsStatusAt M x status → IsStatusAt (machine_of M c) x status
  status_same (Some x) (Some status) h = record {
    role = h.role;
    generation = h.generation;
    count = subst (λ n. status.count ≡ n) (count_same x x.role) h.count;
    a_node = h.a_node;
  }
  status_same (Some x) None h = h
  status_same None (Some status) h = h
  status_same None None h = h

  finds_same : (w : World S) (q : Query) (text : List ℕ) → Finds M w q text → Finds (machine_of M c) w q text
  finds_same w (query.Show port) text h = h
  finds_same w (query.Packet number) text h = h
  finds_same w (query.Node number) text h =
      record { status = h.status; is_there = status_same _ h.status h.is_there; told = h.told }

module _ {B H S : Type 0} (state : B → S) (copied : B → Guest) (M : Machine S) where
  -- ---- one line

  pub event_answers : (old new : Running B H Disk) (happened : Event) (text : List ℕ) (result : Result (Unit {0}) Failure)
      (a b : Option (List ℕ))
      → ((c : Course S) → Shows state copied M records_in old c → HasHappened state copied M c happened text old new)
      → OnOk result (AddsLine (Some text) a b)
      → OnOk result ((c : Course S) → Shows state copied M records_in old c
      → HaveAnswers state copied M c (line.Event happened ∷ []) old new a b)
  event_answers old new happened text (Err e) a b has adds = tt
  event_answers old new happened text (Ok done) a b has adds = λ c shows.
      let h = has c shows in record {
        after = h.applies.after;
        failures = failures_told happened h.answer + 0;
        counted = counts_one old new (failures_told happened h.answer) h.counted;
        adds = adds_one (machine_of M c) c.copying c.world h.applies.after (line.Event happened) text
            (failures_told happened h.answer + 0) a b
            (subst (λ t. Answered (machine_of M c) c.copying c.world (line.Event happened ∷ []) (t ∷ [])
            (failures_told happened h.answer + 0) h.applies.after)
            (sym h.told) (Replies h.answer h.applies.row NoLine)) adds;
        shows = h.applies.shows;
      }

  pub query_answers : (v : Running B H Disk) (q : Query) (text : List ℕ) (result : Result (Unit {0}) Failure)
      (a b : Option (List ℕ))
      → ((c : Course S) → Shows state copied M records_in v c → Finds M c.world q text)
      → OnOk result (AddsLine (Some text) a b)
      → OnOk result ((c : Course S) → Shows state copied M records_in v c
      → HaveAnswers state copied M c (line.Query q ∷ []) v v a b)
  query_answers v q text (Err e) a b finds adds = tt
  query_answers v q text (Ok done) a b finds adds = λ c shows. record {
    after = c.world;
    failures = 0;
    counted = refl;
    adds = adds_one (machine_of M c) c.copying c.world c.world (line.Query q) text 0 a b
        (Tells (finds_same M c c.world q text (finds c shows)) NoLine) adds;
    shows = shows;
  }

  pub passes_event : (old new : Running B H Disk) (happened : Event) (answer : Result Reply Fault)
      → Happens state copied M records_in old happened answer new
      → HasFailed old (failures_told happened answer) new
      → (c : Course S) → Shows state copied M records_in old c → HaveHappened state copied M c (line.Event happened ∷ []) old new
  passes_event old new happened answer happens counted c shows =
      let a = happens c shows in record {
        after = a.after;
        failures = failures_told happened answer + 0;
        counted = counts_one old new (failures_told happened answer) counted;
        happen = ByRow answer a.row Nothing;
        shows = a.shows;
      }

  pub passes_query : (v : Running B H Disk) (q : Query) (c : Course S) → Shows state copied M records_in v c
      → HaveHappened state copied M c (line.Query q ∷ []) v v
  passes_query v q c shows =
      record { after = c.world; failures = 0; counted = refl; happen = Asks Nothing; shows = shows }

  -- ---- line after line

  pub answers_none : (v : Running B H Disk) (a : Option (List ℕ)) (c : Course S) → Shows state copied M records_in v c
      → HaveAnswers state copied M c [] v v a a
  answers_none v a c shows = record {
    after = c.world;
    failures = 0;
    counted = refl;
    adds = adds_none (machine_of M c) c.copying c.world a a (Keeps-refl a);
    shows = shows;
  }

  pub answers_on : (start mid new : Running B H Disk) (lines : List Line) (k : ℕ) (d : Line) (a b b' e : Option (List ℕ))
      → k < length lines
      → ((c : Course S) → Shows state copied M records_in start c → HaveAnswers state copied M c (take k lines) start mid a b)
      → Keeps b b'
      → ((c : Course S) → Shows state copied M records_in mid c
      → HaveAnswers state copied M c (get_or lines k d ∷ []) mid new b' e)
      → (c : Course S) → Shows state copied M records_in start c → HaveAnswers state copied M c (take (k + 1) lines) start new a e
  answers_on start mid new lines k d a b b' e low so_far keeps one c shows =
      let f = so_far c shows in
      let o = one (record c { world = f.after }) f.shows in
      record {
        after = o.after;
        failures = f.failures + o.failures;
        counted = counts_more start mid new f.failures o.failures f.counted o.counted;
        adds = subst (λ l. AddsAnswers (machine_of M c) c.copying c.world l (f.failures + o.failures) a e o.after)
            (sym (take_more lines k d low))
            (adds_more (machine_of M c) c.copying c.world f.after o.after (take k lines) (get_or lines k d ∷ []) f.failures
            o.failures a b b' e f.adds keeps o.adds);
        shows = o.shows;
      }

  -- all that were answered
  pub answers_all : (start v : Running B H Disk) (lines : List Line) (a b : Option (List ℕ))
      → ((c : Course S) → Shows state copied M records_in start c → HaveAnswers state copied M c lines start v a b)
      → (c : Course S) → Shows state copied M records_in start c → AnswersAll (machine_of M c) c.copying c.world lines
      (failures_of start.disk.left) a b
  answers_all start v lines a b so_far c shows =
      let h = so_far c shows in
      record { after = h.after; failures = h.failures; no_more = fails_within start v h.failures h.counted; adds = h.adds }

  pub happened_none : (v : Running B H Disk) (c : Course S) → Shows state copied M records_in v c
      → HaveHappened state copied M c [] v v
  happened_none v c shows =
      record { after = c.world; failures = 0; counted = refl; happen = Nothing; shows = shows }

  pub happened_on : (start mid new : Running B H Disk) (lines : List Line) (k : ℕ) (d : Line) → k < length lines
      → ((c : Course S) → Shows state copied M records_in start c → HaveHappened state copied M c (take k lines) start mid)
      → ((c : Course S) → Shows state copied M records_in mid c → HaveHappened state copied M c (get_or lines k d ∷ []) mid new)
      → (c : Course S) → Shows state copied M records_in start c → HaveHappened state copied M c (take (k + 1) lines) start new
  happened_on start mid new lines k d low so_far one c shows =
      let f = so_far c shows in
      let o = one (record c { world = f.after }) f.shows in
      record {
        after = o.after;
        failures = f.failures + o.failures;
        counted = counts_more start mid new f.failures o.failures f.counted o.counted;
        happen = subst (λ l. Happen (machine_of M c) c.copying c.world l (f.failures + o.failures) o.after)
            (sym (take_more lines k d low))
            (happen-append (machine_of M c) c.copying c.world f.after o.after (take k lines) (get_or lines k d ∷ []) f.failures
            o.failures f.happen o.happen);
        shows = o.shows;
      }
