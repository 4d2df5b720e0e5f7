-- What holds of an Altair after any moves, besides its writes: if each sector that came under a head had all its bytes,
-- so has the one under the head; and no completed write has a greater number than the number of writes issued.
use Rattle.std.proofs.Common.{◌≡◌, ℕ, ◌+◌, ◌*◌, ◌≤◌, List, [], ◌∷◌, ◌++◌, length, Option, Some, None, ◌⊎◌, inl, inr, refl, sym, ap, ◌∙◌, subst, arith}
use Rattle.std.specs.Prelude.{IfSome, slice_index, slice_set, ◌==◌}
use Rattle.std.specs.Option.{option_map_or}
use Rattle.std.proofs.lemmas.Bool.{eqb-true}
use Rattle.std.proofs.lemmas.Option.{cond_some}
use Rattle.altair_laws.proofs.Words.{AltairStands, Among, AreWhole, AreWholeWrites, DRIVE_SECTORS, Do, Drives, Guest, Input, IsWhole, Move, Operation, Place, Processor, Reaches, Rx, SECTOR_BYTES, Sector, SectorAddress, SectorWrite, Setup, Take, Wired, Write, Written, address_of, after_sector, after_written, altair, guest_at_boot, index_of, is_outstanding, operation_at, operations, take_from, wired, with_completed}
use Rattle.event_callbacks.specs.declared.operations.OpId.TheVariants as id
use Rattle.guest_memory.proofs.NewMemory.{only_zeros}
use Rattle.altair_laws.proofs.Moves.{from_boot}
use Rattle.altair_laws.proofs.Drives.{IsWholeSector}
use Rattle.altair_laws.proofs.Sectors.{Issues, issues, after_data-issue, drives-stand}
use Rattle.altair_laws.proofs.Steps.{Gave, GaveNothing, GaveByte, GaveWrite, Steps, steps_from, after_step}
use Rattle.altair_laws.proofs.Bytes.{bytes_after, unaccepted_sent}
use Rattle.altair_laws.proofs.Windows.{bytes_pending}
use Rattle.altair_laws.proofs.Images.{Apart, with_number, any-find}
use Rattle.altair_laws.proofs.Writes.{writes-boot, Has, WasIssued, operations_none, operations_some, operations_take, not_byte, one_more, Writes, given}
use Rattle.altair_laws.proofs.Completions.{writes-take}
use Rattle.altair_laws.proofs.Issues.{same_operations, writes-step}
use Rattle.altair_laws.proofs.Counts.{counts_after}
use Rattle.altair_laws.proofs.Limits.{top_is, set-within, within_after}

-- what holds besides what is known of the writes
record Standing (drives : ℕ) (start : SectorAddress → List ℕ) (moves : List Move) (g : Guest) : Type 0 where
  attached : g.devices.disk.attached ≡ drives
  writes : Writes start moves g
  whole : AreWhole moves → IsWholeSector g.devices.disk
  few : (index : ℕ) → slice_index g.completed index ≤ g.devices.disk.issued
  all : AreWhole moves → AreWholeWrites moves

whole-before : (moves : List Move) (m : Move) → AreWhole (moves ++ m ∷ []) → AreWhole moves
whole-before [] m h = tt
whole-before (Do gives ∷ moves) m h = whole-before moves m h
whole-before (Take i ∷ moves) m h = (h.0, whole-before moves m h.1)

whole-last : (moves : List Move) (i : Input) → AreWhole (moves ++ Take i ∷ []) → IsWhole i
whole-last [] i h = h.0
whole-last (Do gives ∷ moves) i h = whole-last moves i h
whole-last (Take j ∷ moves) i h = whole-last moves i h.1

standing-boot : (setup : Setup) (start : SectorAddress → List ℕ) → Standing setup.drives start [] (guest_at_boot setup)
standing-boot setup start = record {
  attached = refl;
  writes = writes-boot setup start;
  whole = λ h. tt;
  few = λ index. (let z = only_zeros (setup.drives * DRIVE_SECTORS) index in (omega arith));
  all = λ h write a. absurd a;
}

-- ---- steps

whole-gave : (drives : ℕ) (start : SectorAddress → List ℕ)
    (moves : List Move) (g : Guest) (processor : Processor) (w : Wired)
    → Standing drives start moves g → Gave (wired g) w
    → AreWhole (moves ++ Do w.given ∷ []) → IsWholeSector w.devices.disk
whole-gave drives start moves g processor w d (GaveNothing _ e q) h =
    q.disk.whole d.writes.stands (d.whole (whole-before moves _ h))
whole-gave drives start moves g processor w d (GaveByte port byte inside l room) h = d.whole (whole-before moves _ h)
whole-gave drives start moves g processor w d (GaveWrite byte write e l) h =
    subst IsWholeSector (sym (after_data-issue g.devices.disk byte write e)) tt

few-gave : (drives : ℕ) (start : SectorAddress → List ℕ) (moves : List Move) (g : Guest) (w : Wired)
    → Standing drives start moves g
    → Gave (wired g) w
    → (index : ℕ) → slice_index g.completed index ≤ w.devices.disk.issued
few-gave drives start moves g w d (GaveNothing _ e q) index =
    subst (λ n. slice_index g.completed index ≤ n) (sym q.disk.issued) (d.few index)
few-gave drives start moves g w d (GaveByte port byte inside l room) index = d.few index
few-gave drives start moves g w d (GaveWrite byte write e l) index =
    let i = issues g.devices.disk byte write e in
    let n = ap (λ (k : Drives). k.issued) (after_data-issue g.devices.disk byte write e) in
    let m = i.number in let f = d.few index in omega arith

attached-gave : (drives : ℕ) (start : SectorAddress → List ℕ) (moves : List Move) (g : Guest) (w : Wired)
    → Standing drives start moves g
    → Gave (wired g) w → w.devices.disk.attached ≡ drives
attached-gave drives start moves g w d (GaveNothing _ e q) = q.disk.attached ∙ d.attached
attached-gave drives start moves g w d (GaveByte port byte inside l room) = d.attached
attached-gave drives start moves g w d (GaveWrite byte write e l) =
    ap (λ (k : Drives). k.attached) (after_data-issue g.devices.disk byte write e) ∙ d.attached

all-gave : (drives : ℕ) (start : SectorAddress → List ℕ) (moves : List Move) (g : Guest) (w : Wired)
    → Standing drives start moves g
    → Gave (wired g) w → AreWhole (moves ++ Do w.given ∷ []) → AreWholeWrites (moves ++ Do w.given ∷ [])
all-gave drives start moves g w d (GaveNothing _ e q) h v a =
    d.all (whole-before moves _ h) v
    (same_operations v _ _ (operations_none moves)
    (subst (λ o. Among (Write v) (operations (moves ++ Do o ∷ []))) e a))
all-gave drives start moves g w d (GaveByte port byte inside l room) h v a =
    d.all (whole-before moves _ h) v
    (not_byte v port (slice_index g.issued port + 1) byte (operations moves)
    (same_operations v _ _ (operations_some moves _) a))
all-gave drives start moves g w d (GaveWrite byte write e l) h v a =
    go (one_more v write (operations moves) (same_operations v _ _ (operations_some moves (Write write)) a))
  where
    i : Issues g.devices.disk write
    i = issues g.devices.disk byte write e

    go : WasIssued v moves ⊎ (v ≡ write) → length v.bytes ≡ SECTOR_BYTES
    go (inl b) = d.all (whole-before moves _ h) v b
    go (inr q) =
        ap (λ (x : SectorWrite). length x.bytes) q ∙ i.bytes
        ∙ subst (λ o. IfSome o (λ s. length s.bytes ≡ SECTOR_BYTES)) i.current (d.whole (whole-before moves _ h))

standing-step : (drives : ℕ) (start : SectorAddress → List ℕ)
    (moves : List Move) (g u : Guest) (gives : Option Operation)
    → Standing drives start moves g → Steps g u gives → Standing drives start (moves ++ Do gives ∷ []) u
standing-step drives start moves g u gives d k = record {
  attached = after_step (λ moves g. g.devices.disk.attached ≡ drives) moves g u gives k
      (attached-gave drives start moves g k.behind d k.gave);
  all = after_step (λ moves g. AreWhole moves
      → AreWholeWrites moves) moves g u gives k (all-gave drives start moves g k.behind d k.gave);
  writes = writes-step start moves g u gives d.writes k;
  whole = after_step (λ moves g. AreWhole moves
      → IsWholeSector g.devices.disk) moves g u gives k (whole-gave drives start moves g k.processor k.behind d k.gave);
  few = after_step (λ moves g. (index : ℕ)
      → slice_index g.completed index ≤ g.devices.disk.issued) moves g u gives k
      (few-gave drives start moves g k.behind d k.gave);
}

-- ---- inputs

whole-take : (drives : ℕ) (start : SectorAddress → List ℕ) (moves : List Move) (g u : Guest) (i : Input)
    → Standing drives start moves g
    → take_from g i ≡ Some u → AreWhole (moves ++ Take i ∷ []) → IsWholeSector u.devices.disk
whole-take drives start moves g u (Sector drive sector number bytes) d h a =
    subst (λ (x : Guest). IsWholeSector x.devices.disk) (cond_some _ (after_sector g sector bytes) u h).1
    (whole-last moves (Sector drive sector number bytes) a)
whole-take drives start moves g u i d h a =
    subst (λ (x : Guest). IsWholeSector x.devices.disk) (cond_some _ _ u h).1 (d.whole (whole-before moves _ a))

few-set : (drives : ℕ) (start : SectorAddress → List ℕ) (moves : List Move) (g : Guest) (w : SectorWrite)
    → Standing drives start moves g
    → Has g.operations w
    → (index : ℕ) → slice_index (with_number g.completed w) index ≤ g.devices.disk.issued
few-set drives start moves g w d h = go (index_of (address_of w))
  where
    go : (o : Option ℕ) → (index : ℕ)
        → slice_index (option_map_or (λ i. slice_set g.completed i w.number) o g.completed) index
        ≤ g.devices.disk.issued
    go None = d.few
    go (Some i) =
        set-within g.completed i w.number g.devices.disk.issued d.few
        (d.writes.known w (given start moves g d.writes w h)).1

few-take : (drives : ℕ) (start : SectorAddress → List ℕ) (moves : List Move) (g u : Guest) (i : Input)
    → Standing drives start moves g
    → take_from g i ≡ Some u
    → (index : ℕ) → slice_index u.completed index ≤ u.devices.disk.issued
few-take drives start moves g u (Written number) d h =
    let t = cond_some (is_outstanding g.devices.disk number) (after_written g number) u h in
    let f = any-find (λ (p : Place). p.number == number) g.devices.disk.outstanding t.0 in
    let r = d.writes.from f.0 f.1 in
    let n : r.0.number ≡ number = ap (λ (p : Place). p.number) r.2 ∙ eqb-true f.0.number number f.2 in
    subst (λ (x : Guest). (index : ℕ) → slice_index x.completed index ≤ x.devices.disk.issued) t.1
    (subst (λ o. (index : ℕ) → slice_index (with_completed g.completed o) index ≤ g.devices.disk.issued)
    (sym (subst (λ m. operation_at g.operations (id.Write m) ≡ Some (Write r.0)) n r.1))
    (few-set drives start moves g r.0 d r.1))
few-take drives start moves g u i d h =
    subst (λ (x : Guest). (index : ℕ)
    → slice_index x.completed index ≤ x.devices.disk.issued) (cond_some _ _ u h).1 d.few

attached-take : (g u : Guest) (i : Input) → take_from g i ≡ Some u → u.devices.disk.attached ≡ g.devices.disk.attached
attached-take g u (Rx port byte) h = ap (λ (x : Guest). x.devices.disk.attached) (sym (cond_some _ _ u h).1)
attached-take g u i h = ap (λ (x : Guest). x.devices.disk.attached) (sym (cond_some _ _ u h).1)

standing-take : Apart → (drives : ℕ) (start : SectorAddress → List ℕ) (moves : List Move) (g u : Guest) (i : Input)
    → Standing drives start moves g → take_from g i ≡ Some u → Standing drives start (moves ++ Take i ∷ []) u
standing-take apart drives start moves g u i d h = record {
  attached = attached-take g u i h ∙ d.attached;
  all = λ a v b. d.all (whole-before moves _ a) v (same_operations v _ _ (operations_take moves i) b);
  writes = writes-take apart start moves g u i d.writes h;
  whole = whole-take drives start moves g u i d h;
  few = few-take drives start moves g u i d h;
}

standing_after : Apart → (setup : Setup) (sectors : SectorAddress → List ℕ) (moves : List Move) (g : Guest)
    → Reaches (altair setup sectors) moves g → Standing setup.drives sectors moves g
standing_after apart setup sectors =
    from_boot (altair setup sectors) (Standing setup.drives sectors) (standing-boot setup sectors) (record {
      steps = λ moves g u gives d h. standing-step setup.drives sectors moves g u gives d (steps_from g u gives h);
      takes = λ moves g u i d h. standing-take apart setup.drives sectors moves g u i d h;
    })

pub stands : Apart → (setup : Setup) (sectors : SectorAddress → List ℕ) (moves : List Move) (g : Guest)
    → Reaches (altair setup sectors) moves g → AltairStands setup moves g
stands apart setup sectors moves g r =
    let d = standing_after apart setup sectors moves g r in
    let b = bytes_after setup sectors moves g r in
    let w = within_after setup sectors moves g r in
    record {
      sizes = record {
        ports = b.two;
        issued = b.counts;
        keys = (counts_after setup sectors moves g r).two;
        attached = d.attached;
        completed = d.writes.table ∙ ap (λ n. n * DRIVE_SECTORS) d.attached;
      };
      within = w;
      unaccepted = λ port. record { sent = unaccepted_sent moves g port b; few = b.few port };
      bytes = bytes_pending setup sectors moves g r;
      drives = λ h. drives-stand g.devices.disk d.writes.stands (d.whole h)
          (subst (λ n. g.devices.disk.issued ≤ n) top_is w.writes);
      whole = d.all;
      completed = d.few;
      writes = record { placed = d.writes.placed; pending = d.writes.from };
    }
