-- What a refused event changes, if anything: a node that lost is halted, and a disk that failed keeps its records and may
-- fail once less.
use Rattle.ft_world.proofs.Words.{Asking, Copying, DeviceFault, DiskFails, Except, Fault, GetsSector, Guest, Host, IsAt, IsHost, IsNode, IsStation, IsUnder, Joining, Lost, Machine, Message, Never, Node, NodeHalts, NotWhole, OutOfMemory, PutsWrite, Record, Reply, Running, SectorAddress, SectorWrite, ShowsSome, Station, Stays, Suspects, SuspectsOf, Unless, WithStation, Won, WrongRole, address_of, fault_if, first_of, get_refusal, halts, is_role, machine_of, winner_of, write_of}
use Rattle.std.proofs.Common.{◌≡◌, ◌∷◌, ◌<◌, ◌∙◌, ◌≢◌, [], Bool, Err, List, None, Ok, Option, Result, Some, ap, false, inl, inr, not, refl, subst, sym, true, ℕ}
use Rattle.std.specs.Prelude.{IfErr, slice_get, slice_set, ◌⊎◌}
use Rattle.std.specs.Option.{option_and_then}
use Rattle.std.specs.Result.{IsErrAnd}
use Rattle.disk_dcdd.specs.declared.sector.TheConstants.{SECTORS}
use Rattle.ft_node.specs.declared.halted.Halted.{Halted}
use Rattle.ft_node.specs.declared.node.Node as code
use Rattle.ft_node.specs.declared.node.Node.TheVariants as node
use Rattle.pair_events.specs.declared.event.Event.TheVariants as event
use Rattle.pair_protocol.proofs.SharedDevices.{not_put}
use Rattle.ft_world.specs.declared.host.Host.TheVariants as host
use Rattle.ft_world.proofs.Agreeing.{agree-other}
use Rattle.ft_world.proofs.AtDisk.{brings_write}
use Rattle.ft_world.proofs.AtHosts.{AsksNode}
use Rattle.ft_world.proofs.DiskReads.{stands_at}
use Rattle.ft_world.proofs.Released.{writes_on_disk}

-- ---- a node asks the arbiter

-- if the node has lost, the node itself did not refuse
asked_where_lost : (down joining : Bool) (P D : Type 0)
    → Unless {A = Won} (first_of (fault_if down WrongRole ∷ fault_if joining NotWhole ∷ [])) (Err Lost) P D → D
asked_where_lost true joining P D d = let no = d.0 in (cc)
asked_where_lost false true P D d = let no = d.0 in (cc)
asked_where_lost false false P D d = d

halted_where_lost : {S : Type 0} (winner : Option ℕ) (old new : List Asking) (n : ℕ) (x : Node S)
    (Is : Node S → Type 0) → SuspectsOf winner old n x (Err Lost) new Is → Is (halts x)
halted_where_lost None old new n x Is d = let no = d.0 in (cc)
halted_where_lost (Some winner) old new n x Is d = d.3

-- a node that halts has no other role
is_halted : {B H S : Type 0} (state : B → S) (M : Machine S) (C : Copying S) (drives : ℕ) (k : code.Node B H) (x : Node S)
    → IsNode state M C drives k (halts x) → (halted : Halted) × (k ≡ node.Halted halted)
is_halted state M C drives (node.Primary p) x is = let up = is.up in (cc)
is_halted state M C drives (node.Backup b) x is = let up = is.up in (cc)
is_halted state M C drives (node.Joining j) x is = let up = is.up in (cc)
is_halted state M C drives (node.Draining d) x is = let up = is.up in (cc)
is_halted state M C drives (node.Alone a) x is = let up = is.up in (cc)
is_halted state M C drives (node.Halted halted) x is = (halted, refl)

suspect_leaves : {B H D S : Type 0} (state : B → S) (copied : B → Guest) (M : Machine S) (records : D → List Record) (old : Running B H D)
    (n : ℕ) (here s : Station B H) (hosts : List (Host B H)) (askings : List Asking) (fault : Fault)
    → ShowsSome state copied M records old → slice_get old.hosts n ≡ Some (host.Node here) → WithStation old.hosts n s hosts
    → ((C : Copying S) (drives : ℕ) (x : Node S) → IsStation state M C drives here x → Suspects old.askings n x (Err fault) askings (IsStation state M C drives s))
    → s ≡ record here { node = s.node } → (fault ≢ Lost → s ≡ here)
    → Except Lost fault (NodeHalts n old (record old { hosts = hosts })) (record old { hosts = hosts } ≡ old)
suspect_leaves state copied M records old n here s hosts askings fault some at w asks beside same = (
  (λ lost.
      let C = some.course.copying in
      let drives = some.shows.drives in
      let x = agree-other (IsHost state M C drives) (slice_get old.hosts n) (slice_get some.course.world.nodes n) (host.Node here)
      at (some.shows.parts.hosts n) in
      let asked = asked_where_lost (not x.0.running) (is_role x.0.role Joining)
      (IsStation state M C drives s x.0 × (askings ≡ old.askings))
      (SuspectsOf (winner_of old.askings x.0.generation) old.askings n x.0 (Err Lost) askings (IsStation state M C drives s))
      (subst (λ f. Suspects old.askings n x.0 (Err f) askings (IsStation state M C drives s)) lost (asks C drives x.0 x.2)) in
      let halted = is_halted state M C drives s.node x.0
      (halted_where_lost (winner_of old.askings x.0.generation) old.askings askings n x.0 (IsStation state M C drives s) asked).node
      in
      record {
        before = here;
        there = at;
        halted = halted.0;
        rest = ap (λ hs. record old { hosts = hs })
            (w.put ∙ ap (λ k. slice_set old.hosts n (host.Node k)) (beside ∙ ap (λ k. record here { node = k }) halted.1));
      }),
  (λ other. ap (λ hs. record old { hosts = hs }) (w.same (at ∙ ap (λ k. Some (host.Node k)) (sym (same other))))),
)

pub suspect_stays : {B H D S : Type 0} (state : B → S) (copied : B → Guest) (M : Machine S) (records : D → List Record)
    (old : Running B H D) (n : ℕ) (here s : Station B H) (hosts : List (Host B H)) (askings : List Asking)
    (r : Result Reply Fault) (fault : Fault) → ShowsSome state copied M records old
    → slice_get old.hosts n ≡ Some (host.Node here) → WithStation old.hosts n s hosts
    → ((C : Copying S) (drives : ℕ) (x : Node S) → IsStation state M C drives here x → Suspects old.askings n x (Err fault) askings (IsStation state M C drives s))
    → s ≡ record here { node = s.node } → (fault ≢ Lost → s ≡ here) → askings ≡ old.askings
    → IsErrAnd r (λ k. k ≡ fault)
    → IfErr r (λ k. Stays records (event.Suspect n) k old (record old { hosts = hosts; askings = askings }))
suspect_stays state copied M records old n here s hosts askings (Ok reply) fault some at w asks beside same asked is = tt
suspect_stays state copied M records old n here s hosts askings (Err k) fault some at w asks beside same asked is =
    subst (λ f. Stays records (event.Suspect n) f old (record old { hosts = hosts; askings = askings })) (sym is)
    (subst (λ l. Stays records (event.Suspect n) fault old (record old { hosts = hosts; askings = l })) (sym asked)
    (suspect_leaves state copied M records old n here s hosts askings fault some at w asks beside same))

-- ---- a disk that fails

disk_leaves : {B H D : Type 0} (records : D → List Record) (old : Running B H D) (ms : List Message) (disk : D)
    (fault : Fault) → (fault ≡ OutOfMemory) ⊎ (fault ≡ DeviceFault) → ms ≡ old.messages
    → records disk ≡ records old.disk → (fault ≡ OutOfMemory → disk ≡ old.disk)
    → Except DeviceFault fault (DiskFails records old (record old { messages = ms; disk = disk }))
    (record old { messages = ms; disk = disk } ≡ old)
disk_leaves records old ms disk fault why same kept untouched = (
  (λ is. record { kept = kept; rest = ap (λ l. record old { messages = l; disk = disk }) same }),
  (λ other. elim why [
    | inl out ↦ ap (λ l. record old { messages = l; disk = disk }) same ∙ ap (λ d. record old { disk = d }) (untouched out)
    | inr is ↦ absurd (other is)
  ]),
)

-- what is written is to a sector of the disk, so nothing but the device refuses it
pub put_stays : {B H D S : Type 0} (state : B → S) (copied : B → Guest) (M : Machine S) (records : D → List Record) (old : Running B H D)
    (m : ℕ) (write : SectorWrite) (r : Result Reply Fault) (ms : List Message) (disk : D)
    → ShowsSome state copied M records old → option_and_then write_of (slice_get old.messages m) ≡ Some write
    → PutsWrite old.messages (records old.disk) write r ms (records disk)
    → IfErr r (λ fault. fault ≡ OutOfMemory → disk ≡ old.disk)
    → IfErr r (λ fault. Stays records (event.Put m) fault old (record old { messages = ms; disk = disk }))
put_stays state copied M records old m write (Ok reply) ms disk some brings row untouched = tt
put_stays state copied M records old m write (Err fault) ms disk some brings (why, same, kept) untouched =
    let c = some.course in
    let h = some.shows in
    let N = machine_of M c in
    let met = h.parts.disk.there (address_of write)
    (writes_on_disk N c.copying h.drives m c.world write h.machine h.reached
    (brings_write (slice_get old.messages m) (slice_get c.world.messages m) write (h.parts.messages.each m) brings)) in
    disk_leaves records old ms disk fault (elim why [
      | inl is ↦ inl is
      | inr is ↦ inr (not_put (records old.disk) (address_of write) met.0 fault met.1 is)
    ]) same kept untouched

-- what is read is a sector of the disk too
pub read_stays : {B H D : Type 0} (records : D → List Record) (old : Running B H D) (address : SectorAddress)
    (r : Result Reply Fault) (ms : List Message) (disk : D) → (k : Record) × IsAt (records old.disk) address k
    → GetsSector old.messages (records old.disk) address r ms (records disk)
    → IfErr r (λ fault. fault ≡ OutOfMemory → disk ≡ old.disk)
    → IfErr r (λ fault. Except DeviceFault fault (DiskFails records old (record old { messages = ms; disk = disk }))
    (record old { messages = ms; disk = disk } ≡ old))
read_stays records old address (Ok reply) ms disk met row untouched = tt
read_stays records old address (Err fault) ms disk met (why, same, kept) untouched =
    disk_leaves records old ms disk fault (elim why [
      | inl is ↦ inl is
      | inr is ↦ inr (not_put (records old.disk) address met.0 fault met.1 is)
    ]) same kept untouched

pub get_stays : {B H D S : Type 0} (state : B → S) (copied : B → Guest) (M : Machine S) (records : D → List Record) (old : Running B H D)
    (n sector : ℕ) (address : SectorAddress) (r : Result Reply Fault) (ms : List Message) (disk : D)
    → (some : ShowsSome state copied M records old) → sector < SECTORS
    → AsksNode some.course.world n (get_refusal M) Never (IsUnder M sector) (Ok address)
    → GetsSector old.messages (records old.disk) address r ms (records disk)
    → IfErr r (λ fault. fault ≡ OutOfMemory → disk ≡ old.disk)
    → IfErr r (λ fault. Stays records (event.Get n sector) fault old (record old { messages = ms; disk = disk }))
get_stays state copied M records old n sector address r ms disk some low at row untouched =
    let h = some.shows in
    read_stays records old address r ms disk (h.parts.disk.there address
    (stands_at state copied M records old some.course n sector address h low at).there) row untouched
