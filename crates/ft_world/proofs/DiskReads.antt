-- A sector is read at the track of the selected drive's head, by a node that serves. Its machine was run from boot, so
-- it is a sector of the disk; what is read is what the writes that arrived have left there.
use Rattle.ft_world.proofs.Words.{Accepts, Alone, Applies, AreMessages, Course, DeviceFails, Does, Event, Fault, GetsSector, Guest, IsDisk, IsRead, IsUnder, Machine, MayNeedMemory, Message, NeedsMemory, Never, Node, NotDue, OfNode, Primary, Record, Reply, Row, Running, SectorAddress, SectorRead, Serving, Shows, ShowsSome, Spare, Unknown, World, WrongRole, acts_as, at_node, before_failures, fault_if, faults_in, first-passed, first_of, get_refusal, has_sector, is_disk, is_on_disk, is_role, machine_of, no_sector, node-passed, read_of, record_at, refusal, reply_of, same_some, sector_record, serves, serving, with_read}
use Rattle.std.proofs.Common.{◌≡◌, ◌<◌, ◌≤◌, [], ◌∷◌, ◌∙◌, Bool, Err, List, None, Ok, Some, ap, arith, cond, false, inl, inr, ltb-true, not, refl, subst, sym, true, ℕ}
use Rattle.std.specs.Option.{option_map}
use Rattle.std.specs.Prelude.{IsTrue, Option, Result, is_none, length, nat_le, nat_lt, slice_get}
use Rattle.std.proofs.lemmas.Bool.{and_parts, le-leb, lt-leb}
use Rattle.disk_dcdd.specs.declared.drive.TheConstants.{TRACKS}
use Rattle.disk_dcdd.specs.declared.controller.TheConstants.{DRIVES}
use Rattle.disk_dcdd.specs.declared.sector.TheConstants.{SECTORS}
use Rattle.pair_protocol.proofs.SharedDevices.{not_put}
use Rattle.pair_protocol.specs.Reply as protocol
use Rattle.pair_protocol.specs.World as sent
use Rattle.ft_world.proofs.AtHosts.{AsksNode}
use Rattle.pair_events.specs.declared.event.Event.TheVariants as event
use Rattle.ft_world.specs.declared.message.Message.TheVariants as message
use Rattle.ft_world.proofs.Applying.{applies, refuses, stands, stands_not, unchanged}
use Rattle.ft_world.proofs.AtOneNode.{asks_refused, node_asked, node_asked_not}
use Rattle.ft_world.proofs.Sending.{messages_push}
use Rattle.ft_world.proofs.Standing.{serving_runs}

-- Refusals: a sector of no track, and then those of the node.

no_sector_first : (sector : ℕ) (o : Option Fault) → SECTORS ≤ sector →
    first_of (no_sector sector ∷ o ∷ []) ≡ Some Unknown
no_sector_first sector o high =
    ap (λ p. first_of (p ∷ o ∷ [])) (stands (nat_le 32 sector) Unknown (le-leb 32 sector high))

is_sector : (sector : ℕ) (o : Option Fault) → sector < SECTORS → first_of (no_sector sector ∷ o ∷ []) ≡ o
is_sector sector None low =
    ap (λ p. first_of (p ∷ None ∷ [])) (stands_not (nat_le 32 sector) Unknown (lt-leb 32 sector low))
is_sector sector (Some fault) low =
    ap (λ p. first_of (p ∷ Some fault ∷ [])) (stands_not (nat_le 32 sector) Unknown (lt-leb 32 sector low))

pub gets_unknown : {B H D S : Type 0} (state : B → S) (copied : B → Guest) (M : Machine S) (records : D → List Record)
    (old : Running B H D) (c : Course S) (n sector : ℕ) → Shows state copied M records old c → SECTORS ≤ sector →
    Applies state copied M records c (event.Get n sector) (Err Unknown) old
gets_unknown state copied M records old c n sector h high =
    refuses state copied M records old old c (event.Get n sector) Unknown h refl
    (no_sector_first sector (at_node (slice_get c.world.nodes n) (get_refusal (machine_of M c))) high) refl

pub gets_refused : {B H D S : Type 0} (state : B → S) (copied : B → Guest) (M : Machine S) (records : D → List Record)
    (old : Running B H D) (c : Course S) (n sector : ℕ) (fault : Fault) → Shows state copied M records old c →
    sector < SECTORS →
    AsksNode c.world n (get_refusal M) Never (IsUnder M sector) (Err fault) →
    Applies state copied M records c (event.Get n sector) (Err fault) old
gets_refused state copied M records old c n sector fault h low a =
    asks_refused h (event.Get n sector) fault
    (is_sector sector (at_node (slice_get c.world.nodes n) (get_refusal M)) low) (λ never. absurd never.said) refl a

-- a node that refuses names no failure of the disk
same_fault : (here fault : Fault) → Some here ≡ Some fault → faults_in {T = Reply} (Err here) ≡ 0 →
    faults_in {T = Reply} (Err fault) ≡ 0
same_fault here fault e none =
    subst (λ f. faults_in {T = Reply} (Err f) ≡ 0) (same_some here fault (Some here) refl e) none

no_role_or_drive : (role drive : Bool) (fault : Fault) →
    first_of (fault_if role WrongRole ∷ fault_if drive NotDue ∷ []) ≡ Some fault →
    faults_in {T = Reply} (Err fault) ≡ 0
no_role_or_drive true drive fault e = same_fault WrongRole fault e refl
no_role_or_drive false true fault e = same_fault NotDue fault e refl
no_role_or_drive false false fault e = absurd (cc)

-- why a node does not ask the disk: its role, or that it has nothing to ask for
abbrev pub not_asking : {S : Type 0} → (Node S → Bool) → (Node S → Bool) → Node S → Option Fault
not_asking role due x = first_of (fault_if (role x) WrongRole ∷ fault_if (due x) NotDue ∷ [])

no_place : {S : Type 0} (role due : Node S → Bool) (here : Option (Node S)) (fault : Fault) →
    at_node here (not_asking role due) ≡ Some fault → faults_in {T = Reply} (Err fault) ≡ 0
no_place role due None fault e = same_fault Unknown fault e refl
no_place {S} role due (Some x) fault e = go (is_role x.role Spare) e
  where
    go : (b : Bool) → cond b (Some Unknown) (not_asking role due x) ≡ Some fault →
        faults_in {T = Reply} (Err fault) ≡ 0
    go true e = same_fault Unknown fault e refl
    go false e = no_role_or_drive (role x) (due x) fault e

pub asked_no_failure : {S : Type 0} (w : World S) (n : ℕ) (may : Option ℕ) (role due : Node S → Bool)
    (says : SectorAddress → Node S → Type 0) (fault : Fault) (result : Result Reply Fault) → result ≡ Err fault →
    AsksNode w n (not_asking role due) Never says (Err fault) → may ≡ before_failures (faults_in result) may
asked_no_failure w n may role due says fault result is a =
    let none : faults_in result ≡ 0 = ap faults_in is
    ∙ no_place role due (slice_get w.nodes n) fault (node_asked_not w n (not_asking role due) fault a) in
    ap (λ k. before_failures k may) (sym none)

pub gets_no_failure : {S : Type 0} (M : Machine S) (w : World S) (n sector : ℕ) (may : Option ℕ) (fault : Fault)
    (result : Result Reply Fault) → result ≡ Err fault →
    AsksNode w n (get_refusal M) Never (IsUnder M sector) (Err fault) →
    may ≡ before_failures (faults_in result) may
gets_no_failure M w n sector may fault result is a =
    asked_no_failure w n may (λ x. not (acts_as x (Primary ∷ Alone ∷ []))) (λ x. is_none (M.selected x.machine))
    (IsUnder M sector) fault result is a

-- What is read.

-- a sector of the disk has a drive and a track that are there
place_within : (drives : ℕ) (a : SectorAddress) → drives ≤ DRIVES → IsTrue (has_sector drives a) →
    (a.drive < DRIVES) × (a.sector < SECTORS)
place_within drives a few there =
    let p = and_parts (is_on_disk a) (nat_lt a.drive drives) there in
    let q = and_parts (nat_lt a.track TRACKS) (nat_lt a.sector SECTORS) p.0 in
    let d = ltb-true a.drive drives p.1 in
    (omega arith, ltb-true a.sector SECTORS q.1)

read_is : (rs : List Record) (a : SectorAddress) (met : Record) (read : SectorRead) → record_at rs a ≡ Some met →
    option_map (read_of a) (record_at rs a) ≡ Some read → read_of a met ≡ read
read_is rs a met read at e = same_some (read_of a met) read _ (ap (λ o. option_map (read_of a) o) at) e

-- the node's head is at a sector of the disk
pub record StandsAt {S : Type 0} (N : Machine S) (drives : ℕ) (w : World S) (n sector : ℕ)
    (address : SectorAddress) : Type 0 where
  pub node : OfNode w n (IsUnder N sector address)
  pub there : IsTrue (has_sector drives address)
  pub free : first_of (no_sector sector ∷ at_node (slice_get w.nodes n) (get_refusal N) ∷ []) ≡ None

pub stands_at : {B H D S : Type 0} (state : B → S) (copied : B → Guest) (M : Machine S) (records : D → List Record) (old : Running B H D)
    (c : Course S) (n sector : ℕ) (address : SectorAddress) → (h : Shows state copied M records old c) → sector < SECTORS →
    AsksNode c.world n (get_refusal M) Never (IsUnder M sector) (Ok address) →
    StandsAt (machine_of M c) h.drives c.world n sector address
stands_at state copied M records old c n sector address h low a =
    let N = machine_of M c in
    let o = at_node (slice_get c.world.nodes n) (get_refusal N) in
    let k = node_asked c.world n (get_refusal M) address a in
    let x = k.1.x in
    let at = k.1.said in
    let passed = node-passed (slice_get c.world.nodes n) x (get_refusal N) k.1.there k.0 in
    let serves_now = serving c.world n x k.1.there (first-passed (serves x) _ passed.1).0 in
    let is_serving = subst (λ role. Serving role) (sym serves_now.1.role_is) serves_now.2 in
    let r = serving_runs N c.copying c.world n x h.machine.lawful h.machine.copies h.reached k.1.there is_serving in
    record {
      node = record {
        x = x;
        there = k.1.there;
        said = record { drive = at.drive; selected = at.selected; address_is = at.address_is };
      };
      there = subst (λ a. IsTrue (has_sector h.drives a)) (sym at.address_is)
          (h.machine.on_disk.reads r.0 x.machine at.drive sector r.1 at.selected low);
      free = is_sector sector o low ∙ k.0;
    }

-- the disk answers with a sector that it has, whatever event asks for it
pub disk_answers : {B H D S : Type 0} (state : B → S) (copied : B → Guest) (M : Machine S) (records : D → List Record)
    (old : Running B H D) (c : Course S) (e : Event) (address : SectorAddress) (answer : Result Reply Fault)
    (ms : List Message) (disk : D) → (h : Shows state copied M records old c) →
    IsTrue (has_sector h.drives address) → refusal (machine_of M c) c.copying c.world e ≡ None →
    MayNeedMemory (machine_of M c) c.world e → IsTrue (is_disk e) →
    ((r : protocol.Reply) → r ≡ protocol.MessageIs (length c.world.messages) →
    Does (machine_of M c) c.copying c.world e r (with_read (machine_of M c) c.world address)) →
    GetsSector old.messages (records old.disk) address answer ms (records disk) →
    Applies state copied M records c e answer (record old { messages = ms; disk = disk })
disk_answers state copied M records old c e address (Ok r) ms disk h there free needs asks does
    (read, is_read, said, sends, after) =
    let N = machine_of M c in
    let met = h.parts.disk.there address there in
    let kept = h.parts.disk.kept address met.0 met.1 in
    let place = place_within h.drives address h.machine.drives_within there in
    let now = sector_record N c.world.puts address in
    let read_at_place : IsRead address now.number now.bytes (read_of address met.0) =
    (refl, sym kept.0, sym kept.1, place.0, place.1) in
    let message_at = subst (λ (v : SectorRead). IsRead address now.number now.bytes v)
    (read_is (records old.disk) address met.0 read.value met.1 is_read) read_at_place in
    applies state copied M records old c e (Ok r) (with_read N c.world address)
    (record old { messages = ms; disk = disk }) h
    (Accepts free (does (reply_of r) (ap reply_of said ∙ ap protocol.MessageIs h.parts.messages.count)))
    (record {
      hosts = h.parts.hosts;
      messages = subst (λ l. AreMessages l (with_read N c.world address).messages) (sym sends)
          (messages_push old.messages c.world.messages (message.Sector read)
          (sent.SectorRead address (sector_record N c.world.puts address).number
          (sector_record N c.world.puts address).bytes) h.parts.messages message_at);
      terminals = h.parts.terminals;
      winners = h.parts.winners;
      disk = subst (λ l. IsDisk N h.drives l c.world.puts) (sym after) h.parts.disk;
      generation = h.parts.generation;
      backup = h.parts.backup;
    })
disk_answers state copied M records old c e address (Err fault) ms disk h there free needs asks does (why, same, after) =
    let N = machine_of M c in
    let met = h.parts.disk.there address there in
    let refused = λ (f : Fault). Row N c.copying c.world e (protocol.Refused f) c.world in
    let row : refused fault = elim why [
      | inl is ↦ subst refused (sym is) (NeedsMemory free needs)
      | inr is ↦ subst refused (sym (not_put (records old.disk) address met.0 fault met.1 is)) (DeviceFails free asks)
    ] in
    unchanged state copied M records old (record old { messages = ms; disk = disk }) c e fault h
    (record {
      hosts = h.parts.hosts;
      messages = subst (λ l. AreMessages l c.world.messages) (sym same) h.parts.messages;
      terminals = h.parts.terminals;
      winners = h.parts.winners;
      disk = subst (λ l. IsDisk N h.drives l c.world.puts) (sym after) h.parts.disk;
      generation = h.parts.generation;
      backup = h.parts.backup;
    })
    row

pub gets_applies : {B H D S : Type 0} (state : B → S) (copied : B → Guest) (M : Machine S) (records : D → List Record)
    (old : Running B H D) (c : Course S) (n sector : ℕ) (address : SectorAddress) (answer : Result Reply Fault)
    (ms : List Message) (disk : D) → Shows state copied M records old c → sector < SECTORS →
    AsksNode c.world n (get_refusal M) Never (IsUnder M sector) (Ok address) →
    GetsSector old.messages (records old.disk) address answer ms (records disk) →
    Applies state copied M records c (event.Get n sector) answer (record old { messages = ms; disk = disk })
gets_applies state copied M records old c n sector address answer ms disk h low a gets =
    let s = stands_at state copied M records old c n sector address h low a in
    disk_answers state copied M records old c (event.Get n sector) address answer ms disk h s.there s.free tt refl
    (λ r is. record { address = address; node = s.node; reply = is; after = refl }) gets

-- A sector is only looked at: the disk has the same records, so the same worlds are shown.

pub same_shown : {B H D S : Type 0} (state : B → S) (copied : B → Guest) (M : Machine S) (records : D → List Record)
    (old new : Running B H D) → ShowsSome state copied M records old → records new.disk ≡ records old.disk →
    new ≡ record old { disk = new.disk } → ShowsSome state copied M records new
same_shown state copied M records old new some kept others =
    let h = some.shows in
    let p = h.parts in
    subst (ShowsSome state copied M records) (sym others) (record {
      course = some.course;
      shows = record {
        drives = h.drives;
        machine = h.machine;
        copies_as = h.copies_as;
        reached = h.reached;
        parts = record {
          hosts = p.hosts;
          messages = p.messages;
          terminals = p.terminals;
          winners = p.winners;
          disk = subst (λ l. IsDisk (machine_of M some.course) h.drives l some.course.world.puts) (sym kept) p.disk;
          generation = p.generation;
          backup = p.backup;
        };
      };
    })
