-- A copy follows a disk: by nothing, by one write, and by some after others.
use Rattle.std.proofs.Common.{◌≡◌, ℕ, if◌then◌else◌, List, [], ◌∷◌, ◌++◌, Option, Some, None, Result, Ok, Err, refl, sym, ap, ◌∙◌, subst, append-nil, append_assoc, arith}
use Rattle.std.specs.Prelude.{IfErr, IfOk, OnErr, OnOk, is_some}
use Rattle.std.specs.Global.{Global, Vec}
use Rattle.std.specs.Option.{option_map_or}
use Rattle.std.proofs.lemmas.Option.{same_Some}
use Rattle.command_console.specs.Mirrors.{Follows, IsOfCopy, IsOfMoment, after_writes}
use Rattle.command_console.specs.declared.mirror.Mirror.{Mirror}
use Rattle.disk_dcdd.specs.Address.{address_of}
use Rattle.disk_dcdd.specs.declared.sector.SectorWrite.{SectorWrite}
use Rattle.i8080_words.specs.declared.refusal.Fault.{Fault}
use Rattle.rtrb.specs.Ring.{received}
use Rattle.rtrb.specs.declared.AnyItems.{AnyItems}
use Rattle.rtrb.specs.declared.consumer.Consumer.{Consumer}
use Rattle.shared_disk.specs.Arrivals.{after_meeting, after_put}
use Rattle.shared_disk.specs.Failing.{before_failures}
use Rattle.shared_disk.specs.Records.{faults_in, record_at, refusal_at}
use Rattle.shared_disk.specs.declared.store.Record.{Record}

after_both : (records : List Record) (first more : List SectorWrite)
    → after_writes records (first ++ more) ≡ after_writes (after_writes records first) more
after_both records [] more = refl
after_both records (write ∷ first) more = after_both (after_put records write) first more

pub nothing_yet : (a : Mirror) → Follows a a
nothing_yet a = record { writes = []; came = sym (append-nil (received a.writes)); disk = refl }

pub of_nothing : (a b : Mirror) → b.disk ≡ a.disk → received b.writes ≡ received a.writes → Follows a b
of_nothing a b disk came = record { writes = []; came = came ∙ sym (append-nil (received a.writes)); disk = disk }

pub of_one : (a b : Mirror) (write : SectorWrite) → b.disk ≡ after_put a.disk write
    → received b.writes ≡ received a.writes ++ write ∷ [] → Follows a b
of_one a b write disk came = record { writes = write ∷ []; came = came; disk = disk }

pub and_then : (a b c : Mirror) → Follows a b → Follows b c → Follows a c
and_then a b c p q = record {
  writes = p.writes ++ q.writes;
  came = q.came ∙ ap (λ l. l ++ q.writes) p.came ∙ append_assoc (received a.writes) p.writes q.writes;
  disk = q.disk ∙ ap (λ (d : List Record). after_writes d q.writes) p.disk ∙ sym (after_both a.disk p.writes q.writes);
}

-- a disk that never fails has given no such answer
none_failed : (fault : Fault) → Some 0 ≡ before_failures (faults_in {T = Unit {0}} (Err fault)) (Some 0)
    → fault ≡ Fault.DeviceFault → ⊥
none_failed fault never is =
    let f : Some 0 ≡ Some 1 =
    subst (λ x. Some 0 ≡ before_failures (faults_in {T = Unit {0}} (Err x)) (Some 0)) is never in
    let e : 0 ≡ 1 = same_Some 0 1 f in omega (arith, e)

-- it refuses a write only if it has no such sector, and then nothing changes
pub is_put : (old new : List Record) (write : SectorWrite) (result : Result (Unit {0}) Fault)
    → OnOk result (new ≡ after_put old write) → OnErr result (new ≡ old)
    → IfErr result (λ fault. fault ≡ refusal_at old (address_of write))
    → Some 0 ≡ before_failures (faults_in result) (Some 0) → new ≡ after_put old write
is_put old new write (Ok done) put same why never = put
is_put old new write (Err fault) put same why never = go (record_at old (address_of write)) refl
  where
    go : (found : Option Record) → record_at old (address_of write) ≡ found → new ≡ after_put old write
    go None e =
        let unmet : after_put old write ≡ old = ap (λ (r : Option Record). option_map_or (after_meeting old write) r old) e in
        same ∙ sym unmet
    go (Some r) e =
        let met : refusal_at old (address_of write) ≡ Fault.DeviceFault
        = ap (λ (r : Option Record). if is_some r then Fault.DeviceFault else Fault.Unknown) e in
        absurd (none_failed fault never (why ∙ met))

-- an image that is had under the lock of a copy
pub of_copy : {E : Type 0} (result : Result (Vec ℕ) E) (copy : Mirror) (ring : Consumer SectorWrite Global AnyItems) (drive : ℕ)
    → IfOk result (λ image. IsOfMoment copy ring drive image.items) → IfOk result (λ image. IsOfCopy drive image.items)
of_copy (Ok image) copy ring drive is = record { copy = copy; ring = ring; of_moment = is }
of_copy (Err e) copy ring drive is = tt
