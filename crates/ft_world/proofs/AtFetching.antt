-- A node that replays reads the shared disk. It waits for the sector of its next entry, a read at its machine's count;
-- the run that it follows takes that sector there, so it was ready at the selected drive, and is a sector of the disk. If
-- the answer has the number of the read, its bytes are those that the run takes, as in every world that actions reach; so
-- they may be kept.
use Rattle.ft_world.proofs.Words.{Applies, Backup, Course, Do, Draining, Entry, Fault, Fetched, GetsSector, Guest, Host, Input, Machine, Message, Move, Never, Node, NotDue, OfNode, OutOfMemory, Reads, Record, Replaying, Reply, Running, SectorAddress, SectorRead, Shows, Stays, Take, Unknown, Wants, World, acts_as, at_fetched, at_node, before_failures, drop-at, entries, entry_of, faults_in, fetch_refusal, fetched_refusal, first-passed, has_sector, is-at-read, machine_of, next_read, node-passed, nodes_stand, read_address, refusal, replaying, role_refusal, sector_of, wanted, wanted_of}
use Rattle.std.proofs.Common.{◌≡◌, ◌≤◌, ◌∙◌, ◌++◌, [], ◌∷◌, Bool, Err, List, None, Ok, Option, Some, ap, arith, drop, false, inr, not, refl, subst, suc, sym, true, ℕ}
use Rattle.std.specs.Option.{option_and_then}
use Rattle.std.specs.Prelude.{IfErr, IsTrue, Result, if◌then◌else◌, is_none, slice_get}
use Rattle.guest_lockstep.specs.Recorded.{Accepts, Recorded}
use Rattle.guest_lockstep.specs.declared.input.Input.TheVariants.{Rx, Sector, Sent, Written}
use Rattle.guest_lockstep.specs.declared.reads.Reads.TheVariants.{Logged, Shared}
use Rattle.log_entry.specs.Standing.{owed}
use Rattle.log_entry.specs.declared.entry.Entry.TheVariants as entry
use Rattle.log_entry.proofs.TraceEntries.{same_first}
use Rattle.replayer.proofs.Fronts.{not_behind}
use Rattle.pair_protocol.specs.World as sent
use Rattle.pair_events.specs.declared.event.Event.TheVariants as event
use Rattle.pair_events.specs.declared.reply.Reply.TheVariants as reply
use Rattle.ft_world.proofs.Applying.{refuses}
use Rattle.ft_world.proofs.AtHosts.{AsksNode, AtHost}
use Rattle.ft_world.proofs.AtOneNode.{asks_refused, node_applies, node_asked, node_refused}
use Rattle.ft_world.proofs.DiskAnswers.{none_read, read_there}
use Rattle.ft_world.proofs.DiskReads.{asked_no_failure, disk_answers}
use Rattle.ft_world.proofs.Keeping.{fetched_kept, kept_stays}
use Rattle.ft_world.proofs.Refusing.{read_stays}

-- ---- the run takes what a node waits for

-- an entry of a read is that of a sector alone
same_read : (reads : Reads) (count drive sector number : ℕ) (i : Input) (es rest : List Entry) →
    entry.Read count drive sector number ∷ es ≡ entry_of reads count i ∷ rest →
    (bytes : List ℕ) × (i ≡ Sector drive sector number bytes)
same_read reads count drive sector number (Rx p b) es rest h =
    let e = same_first (entry.Read count drive sector number) (entry.Rx count p b) es rest h in absurd (cc)
same_read reads count drive sector number (Sent p) es rest h =
    let e = same_first (entry.Read count drive sector number) (entry.Sent count p) es rest h in absurd (cc)
same_read reads count drive sector number (Written n) es rest h =
    let e = same_first (entry.Read count drive sector number) (entry.Written count n) es rest h in absurd (cc)
same_read Logged count drive sector number (Sector d k n bytes) es rest h =
    let e = same_first (entry.Read count drive sector number) (entry.Sector count d k n bytes) es rest h in absurd (cc)
same_read Shared count drive sector number (Sector d k n bytes) es rest h =
    let e = same_first (entry.Read count drive sector number) (entry.Read count d k n) es rest h in (bytes, (cc))

-- a run whose next entry is a read at the machine's count takes that sector
record TakesRead {S : Type 0} (M : Machine S) (s : S) (drive sector number : ℕ) : Type 0 where
  pub bytes : List ℕ
  pub t : S
  pub accepts : Accepts M s (Sector drive sector number bytes) t

read_taken : {S : Type 0} (M : Machine S) (reads : Reads) (s last : S) (drive sector number : ℕ) (es : List Entry)
    (owes : Bool) (moves : List Move) → Recorded M s moves last →
    entry.Read (M.count s) drive sector number ∷ es ≡ owed (M.count s) owes ++ entries reads (M.count s) moves →
    TakesRead M s drive sector number
read_taken M reads s last drive sector number es true moves r h =
    let e = same_first (entry.Read (M.count s) drive sector number) (entry.Mark (M.count s)) es
    (entries reads (M.count s) moves) h in
    absurd (cc)
read_taken M reads s last drive sector number es false [] r h = absurd (cc)
read_taken M reads s last drive sector number es false (Do None ∷ moves) r h =
    let later : suc (M.count s) ≤ M.count s =
    not_behind reads (suc (M.count s)) (entry.Read (M.count s) drive sector number) es false moves h in
    absurd (omega arith)
read_taken M reads s last drive sector number es false (Do (Some o) ∷ moves) r h =
    let e = same_first (entry.Read (M.count s) drive sector number) (entry.Mark (suc (M.count s))) es
    (entries reads (suc (M.count s)) moves) h in
    absurd (cc)
read_taken M reads s last drive sector number es false (Take i ∷ moves) r h =
    let same = same_read reads (M.count s) drive sector number i es (entries reads (M.count s) moves) h in
    record { bytes = same.0; t = r.0; accepts = subst (λ i. Accepts M s i r.0) same.1 r.1 }

-- ---- why nothing refuses it

is_ready : (ready : Bool) (rest : Option Fault) → (if not ready then Some NotDue else rest) ≡ None → ready ≡ true
is_ready true rest e = refl
is_ready false rest e = absurd (cc)

next_of : (fetched : Option (List ℕ)) (read : Option (ℕ × ℕ × ℕ)) (r : ℕ × ℕ × ℕ) → wanted_of fetched read ≡ Some r →
    read ≡ Some r
next_of None read r e = e
next_of (Some bytes) read r e = absurd (cc)

module _ {B H D S : Type 0} (state : B → S) (copied : B → Guest) (M : Machine S) (records : D → List Record)
    (old : Running B H D) (c : Course S) (h : Shows state copied M records old c) where
  abbrev N : Machine S
  N = machine_of M c

  -- the sector that a node waits for is on the disk
  wanted_there : (n : ℕ) (x : Node S) (drive sector number : ℕ) → slice_get c.world.nodes n ≡ Some x →
      Replaying x.role → wanted M x ≡ Some (drive, sector, number) →
      IsTrue (has_sector h.drives (M.address x.machine drive sector))
  wanted_there n x drive sector number there replays waits =
      let s = x.machine in
      let stands = nodes_stand N c.copying h.machine.lawful h.machine.copies c.world h.reached n x there in
      let on = stands.on_trace replays in
      let read = entry.Read (M.count s) drive sector number in
      let next = is-at-read (M.count s) drive sector number (slice_get x.held x.replayed)
      (next_of x.fetched (next_read M x) (drive, sector, number) waits) in
      let front = drop-at x.held x.replayed read next in
      let taken = read_taken N on.reads s on.last drive sector number
      (drop (suc x.replayed) x.held ++ on.stands.later) on.owes on.moves on.stands.runs
      (ap (λ es. es ++ on.stands.later) (sym front) ∙ on.stands.next_ones) in
      let ready = is_ready (N.ready s (N.address s drive sector)) _ taken.accepts.allowed in
      let r = stands.machine (inr replays) in
      h.machine.on_disk.reads r.0 s drive sector r.1 (h.machine.ready s drive sector ready) taken.accepts.is_input.1

  -- ---- it asks the disk

  record WaitsAt (n : ℕ) (address : SectorAddress) : Type 0 where
    pub node : OfNode c.world n (Wants N address)
    pub there : IsTrue (has_sector h.drives address)
    pub free : at_node (slice_get c.world.nodes n) (fetch_refusal N) ≡ None

  waits_at : (n : ℕ) (address : SectorAddress) → AsksNode c.world n (fetch_refusal M) Never (Wants M) (Ok address) →
      WaitsAt n address
  waits_at n address a =
      let k = node_asked c.world n (fetch_refusal M) address a in
      let x = k.1.x in
      let at = k.1.said in
      let passed = node-passed (slice_get c.world.nodes n) x (fetch_refusal M) k.1.there k.0 in
      let acts = replaying c.world n x k.1.there (first-passed (role_refusal (Backup ∷ Draining ∷ []) x) _ passed.1).0 in
      let replays = subst (λ role. Replaying role) (sym acts.1.role_is) acts.2 in
      record {
        node = record {
          x = x;
          there = k.1.there;
          said = record {
            drive = at.drive;
            sector = at.sector;
            number = at.number;
            read = at.read;
            address_is = at.address_is;
          };
        };
        there = subst (λ a. IsTrue (has_sector h.drives a)) (sym at.address_is)
            (wanted_there n x at.drive at.sector at.number k.1.there replays at.read);
        free = k.0;
      }

  pub fetches_refused : (n : ℕ) (fault : Fault) → AsksNode c.world n (fetch_refusal M) Never (Wants M) (Err fault) →
      Applies state copied M records c (event.Fetch n) (Err fault) old
  fetches_refused n fault a = asks_refused h (event.Fetch n) fault refl (λ never. absurd never.said) refl a

  pub fetches_applies : (n : ℕ) (address : SectorAddress) (answer : Result Reply Fault) (ms : List Message) (disk : D) →
      AsksNode c.world n (fetch_refusal M) Never (Wants M) (Ok address) →
      GetsSector old.messages (records old.disk) address answer ms (records disk) →
      Applies state copied M records c (event.Fetch n) answer (record old { messages = ms; disk = disk })
  fetches_applies n address answer ms disk a gets =
      let s = waits_at n address a in
      disk_answers state copied M records old c (event.Fetch n) address answer ms disk h s.there s.free tt refl
      (λ r is. record { address = address; node = s.node; reply = is; after = refl }) gets

  pub fetch_stays : (n : ℕ) (address : SectorAddress) (r : Result Reply Fault) (ms : List Message) (disk : D) →
      AsksNode c.world n (fetch_refusal M) Never (Wants M) (Ok address) →
      GetsSector old.messages (records old.disk) address r ms (records disk) →
      IfErr r (λ fault. fault ≡ OutOfMemory → disk ≡ old.disk) →
      IfErr r (λ fault. Stays records (event.Fetch n) fault old (record old { messages = ms; disk = disk }))
  fetch_stays n address r ms disk a gets untouched =
      read_stays records old address r ms disk (h.parts.disk.there address (waits_at n address a).there) gets untouched

  -- ---- its answer comes

  pub fetched_unknown : (m n : ℕ) → option_and_then sector_of (slice_get old.messages m) ≡ None →
      Applies state copied M records c (event.Fetched m n) (Err Unknown) old
  fetched_unknown m n brings =
      refuses state copied M records old old c (event.Fetched m n) Unknown h refl
      (none_read N (slice_get c.world.nodes n) (slice_get old.messages m) (slice_get c.world.messages m)
      (h.parts.messages.each m) brings).1
      refl

  module _ (m n : ℕ) (read : SectorRead) (brings : option_and_then sector_of (slice_get old.messages m) ≡ Some read) where
    abbrev message : slice_get c.world.messages m ≡ Some (sent.SectorRead (read_address read) read.number read.bytes)
    message = read_there state copied M records old c m read brings h

    fetched_free : refusal N c.copying c.world (event.Fetched m n)
        ≡ at_node (slice_get c.world.nodes n) (fetched_refusal M (read_address read) read.number)
    fetched_free = ap (λ q. at_fetched N (slice_get c.world.nodes n) q) message

    pub fetched_refused : (fault : Fault) (hosts : List (Host B H)) →
        AtHost {A = Unit {0}} state M c.copying h.drives c.world n (fetched_refusal M (read_address read) read.number) Never
        (λ done. Fetched read.bytes) (Err fault) hosts →
        Applies state copied M records c (event.Fetched m n) (Err fault) (record old { hosts = hosts })
    fetched_refused fault hosts a =
        node_refused h (event.Fetched m n) fault hosts fetched_free (λ never. absurd never.said) refl a

    pub fetched_applies : (hosts : List (Host B H)) →
        AtHost {A = Unit {0}} state M c.copying h.drives c.world n (fetched_refusal M (read_address read) read.number) Never
        (λ done. Fetched read.bytes) (Ok tt) hosts →
        Applies state copied M records c (event.Fetched m n) (Ok reply.Taken) (record old { hosts = hosts })
    fetched_applies hosts a =
        node_applies h (event.Fetched m n) reply.Taken hosts fetched_free
        (λ x y free f. kept_stays (fetched_kept x y read.bytes f))
        (λ new at. record {
          address = read_address read;
          number = read.number;
          bytes = read.bytes;
          message = message;
          at = at;
          reply = refl;
        }) a

pub fetches_no_failure : {S : Type 0} (M : Machine S) (w : World S) (n : ℕ) (may : Option ℕ) (fault : Fault)
    (result : Result Reply Fault) → result ≡ Err fault → AsksNode w n (fetch_refusal M) Never (Wants M) (Err fault) →
    may ≡ before_failures (faults_in result) may
fetches_no_failure M w n may fault result is a =
    asked_no_failure w n may (λ x. not (acts_as x (Backup ∷ Draining ∷ []))) (λ x. is_none (wanted M x)) (Wants M) fault
    result is a
