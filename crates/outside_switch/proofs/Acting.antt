-- One call of the switch: what the devices did, and what was pushed, are all that it did.
use Rattle.std.proofs.Common.{ℕ, ◌≡◌, ◌<◌, Bool, true, false, Option, Some, None, Ok, Err, List, [], ◌∷◌, ◌++◌, append-nil, append_assoc, refl, sym, ap, ◌∙◌, subst, inl, inr, cond, ltb-true, ne_eqb, arith}
use Rattle.std.specs.Prelude.{◌==◌, IsTrue, Result, drop, is_none, length, slice_set, take, nat_lt, slice_get}
use Rattle.std.proofs.lemmas.Bool.{eqb-false}
use Rattle.std.proofs.lemmas.List.{set-get_or}
use Rattle.std.specs.Global.{Vec}
use Rattle.std.specs.List.{AllByRecursion}
use Rattle.arbiter_core.specs.declared.arbiter.Won as arbiter
use Rattle.disk_dcdd.specs.declared.address.SectorAddress.{SectorAddress}
use Rattle.disk_dcdd.specs.declared.sector.SectorWrite.{SectorWrite}
use Rattle.i8080_words.specs.declared.refusal.Fault as fault
use Rattle.i8080_words.specs.declared.refusal.Fault.TheVariants.{Lost, Unknown}
use Rattle.pair_protocol.specs.Lawful.{Among}
use Rattle.pair_protocol.specs.World as message
use Rattle.shared_disk.specs.Arrivals.{read_of}
use Rattle.shared_disk.specs.Records.{record_at}
use Rattle.shared_disk.specs.declared.disk.SectorRead.{SectorRead}
use Rattle.shared_disk.specs.declared.store.Record.{Record}
use Rattle.std.specs.Option.{option_map}
use Rattle.std.proofs.Math.Seq.{take-append_seam}
use Rattle.std.proofs.lemmas.Option.{same_Some}
use Rattle.host_frames.specs.Frames.{IsSpelling, Said, Transfers, Tells}
use Rattle.host_frames.specs.Meaning as meaning
use Rattle.host_frames.specs.Meaning.{IsTold, Means, address_of_read, covered_at}
use Rattle.host_frames.specs.declared.frame.Notice.{Notice}
use Rattle.host_frames.specs.declared.frame.Notice.TheVariants.{Begin, Gone, Join, Progress, Report, Stop, Suspect, Tick, Won}
use Rattle.host_frames.specs.declared.frame.Notice.TheVariants as notice
use Rattle.host_frames.specs.declared.frame.Report as host
use Rattle.host_frames.specs.declared.frame.Transfer.TheVariants.{Accepted, Byte, Failed, Get, Inspect, Key, Sector, Write, Written}
use Rattle.host_law.specs.Frame as law
use Rattle.host_law.specs.Frame.{Act, Came}
use Rattle.outside_switch.specs.DeviceCalls.{Asks, Puts, Reads, admitted_after, arrived_after, is_accepted, key_answer, terminal_at, told_after, typed_after, typed_answer}
use Rattle.event_callbacks.specs.declared.devices.TheConstants.{PORTS}
use Rattle.outside_switch.specs.Held.{Held}
use Rattle.outside_switch.specs.Terminal.{KeptTerminal, after_typing, answered, blank, next_key, typing_answer, typing_refusal, with_key}
use Rattle.outside_switch.specs.Goes.{BeginsSo}
use Rattle.outside_switch.specs.Calls as calls
use Rattle.outside_switch.specs.Calls.{Call, Called}
use Rattle.outside_switch.specs.Lines.{LinesGo, Posts, PostsAll, Pushed, number_at}
use Rattle.outside_switch.specs.Meets.{Meets, MeetsWith, Seen}
use Rattle.outside_switch.specs.Passing.{CalledWith, Passed, Shown, Typed, passed_by_call, passed_by_calls, typed_of}
use Rattle.outside_switch.specs.Says.{Brings, IsFrom, IsHost, IsPassed, IsRight, Saying}
use Rattle.outside_switch.specs.declared.line.HostLine.{HostLine}
use Rattle.outside_switch.proofs.Lines.{lines_same}
use Rattle.outside_switch.proofs.Meanings.{only}

-- ---- the devices

called_one : (a b : Held) (act : Act) (call : Call a b act) → CalledWith (passed_by_call call) a act.takes act.sends b
called_one a b act call = record { called = calls.Goes b act calls.Rests call; passes = refl }

called_two : (a b c : Held) (one two : Act) (p : Call a b one) (q : Call b c two) →
    CalledWith (passed_by_call p ++ passed_by_call q) a (one.takes ++ two.takes) (one.sends ++ two.sends) c
called_two a b c one two p q = record { called = calls.Goes c two (calls.Goes b one calls.Rests p) q; passes = refl }

called_none : (a b : Held) → b ≡ a → CalledWith [] a [] [] b
called_none a b same = subst (λ h. CalledWith [] a [] [] h) (sym same) (record { called = calls.Rests; passes = refl })

-- ---- what was pushed

-- the devices were called, and nothing was pushed
none_met : {passed : List Passed} (heard : Option Saying) (a b : Seen) (read written : List law.Frame) →
    CalledWith passed a.devices read written b.devices →
    ((drives : ℕ) (frames : List law.Frame) → Brings drives a.lines heard frames → Came read frames) →
    LinesGo [] a.lines b.lines → MeetsWith passed heard a b
none_met heard a b read written c came lines = record {
  meets = record {
    read = read;
    written = written;
    pushed = [];
    called = c.called;
    came = came;
    right = tt;
    lines = lines;
  };
  passes = c.passes;
}

-- the devices were called, and one frame was pushed or lost
one_met : {passed : List Passed} (heard : Option Saying) (a b : Seen) (read written : List law.Frame) (place : ℕ) (said : Said)
    (r : Bool) → CalledWith passed a.devices read written b.devices →
    ((drives : ℕ) (frames : List law.Frame) → Brings drives a.lines heard frames → Came read frames) →
    ((bytes : Vec ℕ) → IsFrom a.lines heard written (record { place = place; bytes = bytes }) said) →
    Posts place said r a.lines b.lines → MeetsWith passed heard a b
one_met heard a b read written place said true c came from posts = record {
  meets = record {
    read = read;
    written = written;
    pushed = record { place = place; bytes = posts.0 } ∷ [];
    called = c.called;
    came = came;
    right = (record { said = said; spelled = posts.1; from = from posts.0 }, tt);
    lines = posts.2;
  };
  passes = c.passes;
}
one_met heard a b read written place said false c came from posts = none_met heard a b read written c came posts

-- nothing was done
pub nothing_met : (heard : Option Saying) (a b : Seen) → b.devices ≡ a.devices → LinesGo [] a.lines b.lines →
    MeetsWith [] heard a b
nothing_met heard a b devices lines =
    none_met heard a b [] [] (called_none a.devices b.devices devices) (λ drives frames brings. tt) lines

pub still_met : (heard : Option Saying) (a : Seen) → MeetsWith [] heard a a
still_met heard a = nothing_met heard a a refl (lines_same a.lines)

-- the lines that were lent are put back
pub met_in : {passed : List Passed} (heard : Option Saying) (a : Seen) (devices : Held) (n : ℕ) (lines items : List HostLine) →
    n ≡ length lines → MeetsWith passed heard a (record { devices = devices; lines = lines }) →
    MeetsWith passed heard a (record { devices = devices; lines = take n (lines ++ drop (length lines) items) })
met_in {passed = passed} heard a devices n lines items same meets =
    subst (λ l. MeetsWith passed heard a (record { devices = devices; lines = l }))
    (sym (ap (λ k. take k (lines ++ drop (length lines) items)) same
    ∙ take-append_seam lines (drop (length lines) items))) meets

-- ---- what a host says

abbrev saying : ℕ → Said → Option Saying
saying place said = Some (record { place = place; said = said })

-- one thing that it means
brings_one : (place : ℕ) (said : Said) (frame : law.Frame) (a : Seen) (drives : ℕ) (frames : List law.Frame) →
    ((host : ℕ) → IsTold drives host said frames → Among frame frames) → Brings drives a.lines (saying place said) frames →
    Came (frame ∷ []) frames
brings_one place said frame a drives frames means brings = (means brings.0 brings.2, tt)

-- a byte was shown exactly if it was accepted
abbrev pub shown_so : ℕ → Option ℕ → List Passed
shown_so port None = []
shown_so port (Some byte) = Shown port byte ∷ []

shown_if : (accepts : Bool) (port byte : ℕ) (shown : Option ℕ) → shown ≡ cond accepts (Some byte) None →
    cond accepts (Shown port byte ∷ []) [] ++ [] ≡ shown_so port shown
shown_if true port byte shown is = ap (shown_so port) (sym is)
shown_if false port byte shown is = ap (shown_so port) (sym is)

pub byte_met : (place port number byte count : ℕ) (room r : Bool) (shown : Option ℕ) (a b : Seen) →
    shown ≡ cond (is_accepted a.devices.terminals port number room) (Some byte) None →
    b.devices ≡ record a.devices { terminals = arrived_after a.devices.terminals port number room } →
    count ≡ (terminal_at b.devices.terminals port).accepted →
    Posts place (Transfers (Accepted port count)) r a.lines b.lines →
    MeetsWith (shown_so port shown) (saying place (Transfers (Byte port number byte))) a b
byte_met place port number byte count room r shown a b is arrives counts posts =
    subst (λ l. MeetsWith l (saying place (Transfers (Byte port number byte))) a b)
    (shown_if (is_accepted a.devices.terminals port number room) port byte shown is)
    (one_met (saying place (Transfers (Byte port number byte))) a b _ _ place (Transfers (Accepted port count)) r
    (called_two a.devices b.devices b.devices _ _ (calls.TakesByte port number byte room arrives) (calls.SendsCount port refl))
    (λ drives frames. brings_one place (Transfers (Byte port number byte)) _ a drives frames
    (λ host told. told _ (meaning.OfByte port number byte)))
    (λ bytes. inr (λ drives host frame is means.
    inl (only drives host _ frame means ∙ ap (λ n. law.AreAccepted port n) counts)))
    posts)

pub written_met : (place : ℕ) (write : SectorWrite) (r : Bool) (a b : Seen) →
    Puts a.devices.records write (Ok tt) b.devices.records →
    b.devices ≡ record a.devices { records = b.devices.records; may_fail = b.devices.may_fail } →
    Posts place (Transfers (Written write.number)) r a.lines b.lines →
    MeetsWith [] (saying place (Transfers (Write write))) a b
written_met place write r a b puts same posts =
    one_met (saying place (Transfers (Write write))) a b _ _ place (Transfers (Written write.number)) r
    (called_one a.devices b.devices _ (calls.PutsWrite write puts same))
    (λ drives frames. brings_one place (Transfers (Write write)) _ a drives frames
    (λ host told. told _ (meaning.OfWrite write)))
    (λ bytes. inr (λ drives host frame is means. inl (only drives host _ frame means)))
    posts

pub unwritten_met : (place : ℕ) (write : SectorWrite) (why : fault.Fault) (r : Bool) (a b : Seen) →
    Puts a.devices.records write (Err why) b.devices.records →
    b.devices ≡ record a.devices { records = b.devices.records; may_fail = b.devices.may_fail } →
    Posts place (Transfers (Failed write.number)) r a.lines b.lines →
    MeetsWith [] (saying place (Transfers (Write write))) a b
unwritten_met place write why r a b puts same posts =
    one_met (saying place (Transfers (Write write))) a b _ _ place (Transfers (Failed write.number)) r
    (called_one a.devices b.devices _ (calls.RefusesWrite write why puts same))
    (λ drives frames. brings_one place (Transfers (Write write)) _ a drives frames
    (λ host told. told _ (meaning.OfWrite write)))
    (λ bytes. inr (λ drives host frame is means. absurd (only drives host _ frame means)))
    posts

read_there : (address : SectorAddress) (read : SectorRead) (o : Option Record) → option_map (read_of address) o ≡ Some read →
    address_of_read read ≡ address
read_there address read (Some r) e = ap address_of_read (sym (same_Some (read_of address r) read e))
read_there address read None e = absurd (cc)

pub sector_met : (place : ℕ) (address : SectorAddress) (read : SectorRead) (r : Bool) (a b : Seen) →
    Reads a.devices.records address (Ok read) b.devices.records →
    b.devices ≡ record a.devices { records = b.devices.records; may_fail = b.devices.may_fail } →
    Posts place (Transfers (Sector read)) r a.lines b.lines →
    MeetsWith [] (saying place (Transfers (Get address))) a b
sector_met place address read r a b reads same posts =
    let there : address_of_read read ≡ address =
    read_there address read (record_at a.devices.records address) reads.0 in
    one_met (saying place (Transfers (Get address))) a b _ _ place (Transfers (Sector read)) r
    (called_one a.devices b.devices _ (calls.ReadsSector address read reads same))
    (λ drives frames. brings_one place (Transfers (Get address)) _ a drives frames
    (λ host told. told _ (meaning.OfGet address)))
    (λ bytes. inr (λ drives host frame is means.
    inl (only drives host _ frame means
    ∙ ap (λ at. law.Carries (message.SectorRead at read.number read.bytes)) there)))
    posts

pub unread_met : (place : ℕ) (address : SectorAddress) (why : fault.Fault) (a b : Seen) →
    Reads a.devices.records address (Err why) b.devices.records →
    b.devices ≡ record a.devices { records = b.devices.records; may_fail = b.devices.may_fail } →
    b.lines ≡ a.lines → MeetsWith [] (saying place (Transfers (Get address))) a b
unread_met place address why a b reads same lines =
    none_met (saying place (Transfers (Get address))) a b _ _
    (called_one a.devices b.devices _ (calls.RefusesRead address why reads same))
    (λ drives frames. brings_one place (Transfers (Get address)) _ a drives frames
    (λ host told. told _ (meaning.OfGet address)))
    (subst (λ l. LinesGo [] a.lines l) (sym lines) (lines_same a.lines))

-- ---- the arbiter, of the host that is at the place

is_number : (o : Option ℕ) (number host : ℕ) → o ≡ Some number → IsHost o host → host ≡ number
is_number o number host is = subst (λ n. IsHost n host → host ≡ number) (sym is) (λ same. same)

brings_question : (place generation number : ℕ) (a : Seen) → number_at a.lines place ≡ Some number →
    (drives : ℕ) (frames : List law.Frame) → Brings drives a.lines (saying place (Tells (Suspect generation))) frames →
    Came (law.AsksArbiter number generation ∷ []) frames
brings_question place generation number a at drives frames brings = (
  subst (λ n. Among (law.AsksArbiter n generation) frames) (is_number (number_at a.lines place) number brings.0 at brings.1)
      (brings.2 _ (meaning.OfSuspect generation)),
  tt,
)

pub won_met : (place generation number : ℕ) (won : arbiter.Won) (r : Bool) (a b : Seen) →
    number_at a.lines place ≡ Some number → Asks a.devices.askings generation number (Ok won) b.devices.askings →
    b.devices ≡ record a.devices { askings = b.devices.askings } →
    Posts place (Tells (Won generation)) r a.lines b.lines → MeetsWith [] (saying place (Tells (Suspect generation))) a b
won_met place generation number won r a b at asks same posts =
    one_met (saying place (Tells (Suspect generation))) a b _ _ place (Tells (Won generation)) r
    (called_one a.devices b.devices _ (calls.Wins generation number won asks same))
    (brings_question place generation number a at)
    (λ bytes. inr (λ drives host frame is means.
    inl (only drives host _ frame means
    ∙ ap (λ n. law.HasWon generation n) (is_number (number_at a.lines place) number host at is))))
    posts

pub lost_met : (place generation number : ℕ) (why : fault.Fault) (r : Bool) (a b : Seen) →
    number_at a.lines place ≡ Some number → why ≡ Lost →
    Asks a.devices.askings generation number (Err why) b.devices.askings →
    b.devices ≡ record a.devices { askings = b.devices.askings } →
    Posts place (Tells (notice.Lost generation)) r a.lines b.lines → MeetsWith [] (saying place (Tells (Suspect generation))) a b
lost_met place generation number why r a b at lost asks same posts =
    one_met (saying place (Tells (Suspect generation))) a b _ _ place (Tells (notice.Lost generation)) r
    (called_one a.devices b.devices _ (calls.Loses generation number
    (subst (λ f. Asks a.devices.askings generation number (Err f) b.devices.askings) lost asks) same))
    (brings_question place generation number a at)
    (λ bytes. inr (λ drives host frame is means.
    inl (only drives host _ frame means
    ∙ ap (λ n. law.HasLost generation n) (is_number (number_at a.lines place) number host at is))))
    posts

pub forgot_met : (place generation number : ℕ) (why : fault.Fault) (a b : Seen) →
    number_at a.lines place ≡ Some number → Asks a.devices.askings generation number (Err why) b.devices.askings →
    b.devices ≡ record a.devices { askings = b.devices.askings } →
    b.lines ≡ a.lines → MeetsWith [] (saying place (Tells (Suspect generation))) a b
forgot_met place generation number why a b at asks same lines =
    none_met (saying place (Tells (Suspect generation))) a b _ _
    (called_one a.devices b.devices _ (calls.Forgets generation number why asks same))
    (brings_question place generation number a at)
    (subst (λ l. LinesGo [] a.lines l) (sym lines) (lines_same a.lines))

-- ---- what a host reports

none_both : (xs ys : List Passed) → xs ++ ys ≡ [] → (xs ≡ []) × (ys ≡ [])
none_both [] ys e = (refl, e)
none_both (x ∷ xs) ys e = absurd (cc)

calls_both : (a b c : Held) (r s w v : List law.Frame) → CalledWith [] a r w b → (called : Called b s v c) →
    passed_by_calls called ≡ [] → CalledWith [] a (r ++ s) (w ++ v) c
calls_both a b c r s w v p calls.Rests none =
    subst (λ l. CalledWith [] a l (w ++ []) b) (sym (append-nil r))
    (subst (λ l. CalledWith [] a r l b) (sym (append-nil w)) p)
calls_both a b c r s w v p (calls.Goes {held = held} {read = x} {written = y} new act before call) none =
    let n = none_both (passed_by_calls before) (passed_by_call call) none in
    let q = calls_both a b held r x w y p before n.0 in
    subst (λ l. CalledWith [] a l (w ++ (y ++ act.sends)) new) (append_assoc r x act.takes)
    (subst (λ l. CalledWith [] a ((r ++ x) ++ act.takes) l new) (append_assoc w y act.sends)
    (record {
      called = calls.Goes new act q.called call;
      passes = ap (λ l. l ++ passed_by_call call) q.passes ∙ n.1;
    }))

called_both : (a b c : Held) (r s w v : List law.Frame) → CalledWith [] a r w b → CalledWith [] b s v c →
    CalledWith [] a (r ++ s) (w ++ v) c
called_both a b c r s w v p q = calls_both a b c r s w v p q.called q.passes

-- keys are told, unless none are covered
pub told_covered : (port keys : ℕ) (a b : Held) → 0 < keys →
    b ≡ record a { terminals = told_after a.terminals port keys } → CalledWith [] a (covered_at port keys) [] b
told_covered port keys a b some tells =
    subst (λ c. CalledWith [] a (cond c [] (law.TellsKeys port keys ∷ [])) [] b)
    (sym (ne_eqb keys 0 (λ e. absurd (omega arith))))
    (called_one a b _ (calls.HearsKeys port keys tells))

pub told_none : (port keys : ℕ) (a : Held) → keys ≡ 0 → CalledWith [] a (covered_at port keys) [] a
told_none port keys a none =
    subst (λ n. CalledWith [] a (covered_at port n) [] a) (sym none) (called_none a a refl)

brings_covered : (place : ℕ) (report : host.Report) (port keys : ℕ) (a : Seen) (drives : ℕ) (frames : List law.Frame) →
    slice_get report.covered port ≡ Some keys →
    Brings drives a.lines (saying place (Tells (Report report))) frames → Came (covered_at port keys) frames
brings_covered place report port keys a drives frames is brings = go (keys == 0) refl
  where
    go : (c : Bool) → (keys == 0) ≡ c → Came (cond c [] (law.TellsKeys port keys ∷ [])) frames
    go true e = tt
    go false e =
        let some : 0 < keys = omega (arith, eqb-false keys 0 e) in
        (brings.2 _ (meaning.OfCovered report port keys is some), tt)

came_both : (xs ys frames : List law.Frame) → Came xs frames → Came ys frames → Came (xs ++ ys) frames
came_both [] ys frames p q = q
came_both (x ∷ xs) ys frames p q = (p.0, came_both xs ys frames p.1 q)

pub report_met : (place first second : ℕ) (report : host.Report) (a b : Seen) (mid : Held) →
    slice_get report.covered 0 ≡ Some first → slice_get report.covered 1 ≡ Some second →
    CalledWith [] a.devices (covered_at 0 first) [] mid → CalledWith [] mid (covered_at 1 second) [] b.devices →
    LinesGo [] a.lines b.lines → MeetsWith [] (saying place (Tells (Report report))) a b
report_met place first second report a b mid is_first is_second p q lines =
    none_met (saying place (Tells (Report report))) a b _ _
    (called_both a.devices mid b.devices (covered_at 0 first) (covered_at 1 second) [] [] p q)
    (λ drives frames brings.
    came_both (covered_at 0 first) (covered_at 1 second) frames
    (brings_covered place report 0 first a drives frames is_first brings)
    (brings_covered place report 1 second a drives frames is_second brings))
    lines

-- ---- what is passed on

pub passed_met : (place to : ℕ) (heard said : Said) (r : Bool) (a b : Seen) →
    IsPassed place to (number_at a.lines to) heard said → b.devices ≡ a.devices → Posts to said r a.lines b.lines →
    MeetsWith [] (saying place heard) a b
passed_met place to heard said r a b passed devices posts =
    one_met (saying place heard) a b [] [] to said r (called_none a.devices b.devices devices)
    (λ drives frames brings. tt) (λ bytes. inl passed) posts

-- ---- what nobody said

pub key_met : (place port index byte : ℕ) (r : Bool) (a b : Seen) → key_answer a.devices.terminals port index ≡ Ok byte →
    b.devices ≡ a.devices → Posts place (Transfers (Key port index byte)) r a.lines b.lines → MeetsWith [] None a b
key_met place port index byte r a b key devices posts =
    one_met None a b _ _ place (Transfers (Key port index byte)) r
    (called_one a.devices b.devices _ (calls.SendsKey port index byte key devices))
    (λ drives frames brings. tt) (λ bytes drives host frame is means. inl (only drives host _ frame means)) posts

-- a host was asked what its machine has, which means nothing
pub inspect_met : (place number page : ℕ) (r : Bool) (a b : Seen) → b.devices ≡ a.devices →
    Posts place (Transfers (Inspect number page)) r a.lines b.lines → MeetsWith [] None a b
inspect_met place number page r a b devices posts =
    one_met None a b [] [] place (Transfers (Inspect number page)) r (called_none a.devices b.devices devices)
    (λ drives frames brings. tt)
    (λ bytes drives host frame is means. absurd (only drives host (Transfers (Inspect number page)) frame means)) posts

pub typed_met : (port byte index : ℕ) (a b : Seen) → typed_answer a.devices.terminals port ≡ Ok index →
    b.devices ≡ record a.devices { terminals = typed_after a.devices.terminals port byte } → b.lines ≡ a.lines →
    MeetsWith (Typed port byte ∷ []) None a b
typed_met port byte index a b typed devices lines =
    none_met None a b _ _ (called_one a.devices b.devices _ (calls.TypesKey port byte index typed devices))
    (λ drives frames brings. tt) (subst (λ l. LinesGo [] a.lines l) (sym lines) (lines_same a.lines))

-- a key that is refused changes nothing
typed_same : (terminals : List KeptTerminal) (port byte : ℕ) (why : fault.Fault) → typed_answer terminals port ≡ Err why →
    typed_after terminals port byte ≡ terminals
typed_same terminals port byte why is = go (nat_lt port PORTS) is
  where
    kept : KeptTerminal
    kept = terminal_at terminals port

    at : (o : Option fault.Fault) → answered o (next_key kept) ≡ Err why →
        slice_set terminals port (cond (is_none o) (with_key kept byte) kept) ≡ terminals
    at None e = absurd (cc)
    at (Some f) e = set-get_or terminals port blank

    go : (b : Bool) → cond b (typing_answer kept) (Err Unknown) ≡ Err why →
        cond b (slice_set terminals port (after_typing kept byte)) terminals ≡ terminals
    go true e = at (typing_refusal kept) e
    go false e = refl

pub typed_so : (port byte : ℕ) (r : Result ℕ fault.Fault) (a b : Seen) → r ≡ typed_answer a.devices.terminals port →
    b.devices ≡ record a.devices { terminals = typed_after a.devices.terminals port byte } → b.lines ≡ a.lines →
    MeetsWith (typed_of r port byte) None a b
typed_so port byte (Ok index) a b is devices lines = typed_met port byte index a b (sym is) devices lines
typed_so port byte (Err why) a b is devices lines =
    nothing_met None a b
    (devices ∙ ap (λ t. record a.devices { terminals = t }) (typed_same a.devices.terminals port byte why (sym is)))
    (subst (λ l. LinesGo [] a.lines l) (sym lines) (lines_same a.lines))

-- a host is counted, and another one told to begin, or the frame is lost
pub begins_so : (place spare generation : ℕ) (r : Bool) (a b : Seen) →
    b.devices ≡ record a.devices { hosts = admitted_after a.devices.hosts generation } →
    IsTrue (nat_lt generation b.devices.hosts) → Posts place (Tells (Begin generation spare)) r a.lines b.lines →
    BeginsSo spare generation r a b
begins_so place spare generation true a b admits low posts = record {
  to = place;
  bytes = posts.0;
  spelled = posts.1;
  counted = ltb-true generation b.devices.hosts low;
  passes = (called_two a.devices b.devices b.devices _ _ (calls.Admits generation admits) (calls.Offers generation low refl)).passes;
  meets = record {
    read = [];
    written = law.MayBegin generation ∷ [];
    pushed = record { place = place; bytes = posts.0 } ∷ [];
    called = (called_two a.devices b.devices b.devices _ _ (calls.Admits generation admits) (calls.Offers generation low refl)).called;
    came = λ drives frames brings. tt;
    right = (
      record {
        said = Tells (Begin generation spare);
        spelled = posts.1;
        from = λ drives host frame is means. inl (only drives host _ frame means);
      },
      tt,
    );
    lines = posts.2;
  };
  pushed = refl;
}
begins_so place spare generation false a b admits low posts =
    none_met None a b _ _ (called_one a.devices b.devices _ (calls.Admits generation admits))
    (λ drives frames brings. tt) posts

-- a host is counted
pub admitted_met : (generation : ℕ) (a b : Seen) →
    b.devices ≡ record a.devices { hosts = admitted_after a.devices.hosts generation } → b.lines ≡ a.lines → MeetsWith [] None a b
admitted_met generation a b admits lines =
    none_met None a b _ _ (called_one a.devices b.devices _ (calls.Admits generation admits))
    (λ drives frames brings. tt) (subst (λ l. LinesGo [] a.lines l) (sym lines) (lines_same a.lines))

-- notices that mean nothing
abbrev pub IsSilent : Notice → Type 0
IsSilent said = (drives host : ℕ) (frame : law.Frame) → Means drives host (Tells said) frame → ⊥

all_right : (a : Seen) (said : Notice) (ps : List Pushed) → IsSilent said →
    AllByRecursion (λ (p : Pushed). IsSpelling (Tells said) p.bytes.items) ps →
    AllByRecursion (IsRight a.lines None []) ps
all_right a said [] silent spelled = tt
all_right a said (p ∷ ps) silent spelled = (
  record {
    said = Tells said;
    spelled = spelled.0;
    from = λ drives host frame is means. absurd (silent drives host frame means);
  },
  all_right a said ps silent spelled.1,
)

pub notice_met : (said : Notice) (a b : Seen) → IsSilent said → b.devices ≡ a.devices →
    PostsAll (Tells said) a.lines b.lines → MeetsWith [] None a b
notice_met said a b silent devices posts =
    let none = called_none a.devices b.devices devices in
    record {
      meets = record {
        read = [];
        written = [];
        pushed = posts.pushed;
        called = none.called;
        came = λ drives frames brings. tt;
        right = all_right a said posts.pushed silent posts.spelled;
        lines = posts.lines;
      };
      passes = none.passes;
    }

pub gone_met : (place : ℕ) (a b : Seen) → b.devices ≡ a.devices → PostsAll (Tells (Gone place)) a.lines b.lines →
    MeetsWith [] None a b
gone_met place a b = notice_met (Gone place) a b (λ drives host frame. only drives host (Tells (Gone place)) frame)

pub tick_met : (number speed : ℕ) (a b : Seen) → b.devices ≡ a.devices → PostsAll (Tells (Tick number speed)) a.lines b.lines →
    MeetsWith [] None a b
tick_met number speed a b =
    notice_met (Tick number speed) a b (λ drives host frame. only drives host (Tells (Tick number speed)) frame)

pub stop_met : (a b : Seen) → b.devices ≡ a.devices → PostsAll (Tells Stop) a.lines b.lines → MeetsWith [] None a b
stop_met a b = notice_met Stop a b (λ drives host frame. only drives host (Tells Stop) frame)
