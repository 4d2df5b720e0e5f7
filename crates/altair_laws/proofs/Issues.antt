-- The writes of a trace after a step. A step issues at most one write, which has the next number and a sector to which
-- no outstanding write goes; all that is known of the other writes stays.
use Rattle.std.proofs.Common.{◌≡◌, ℕ, ◌+◌, ◌*◌, ◌≤◌, ◌<◌, List, [], ◌∷◌, ◌++◌, Option, Some, None, ◌⊎◌, inl, inr, refl, sym, ap, ◌∙◌, subst, arith}
use Rattle.std.specs.Prelude.{slice_index}
use Rattle.altair_laws.proofs.Words.{Among, Byte, DRIVE_SECTORS, Do, Guest, Move, Operation, Place, Processor, SectorAddress, SectorWrite, Wired, Write, address_of, after_byte, among-left, among-right, among-split, operation_at-with, operation_at-with_other, operations, place_of, stepped, wired, with_given, with_operation}
use Rattle.disk_dcdd.specs.Drive as drives
use Rattle.event_callbacks.specs.declared.operations.OpId.TheVariants as id
use Rattle.altair_laws.proofs.Moves.{operations-left}
use Rattle.altair_laws.proofs.Operations.{given-step}
use Rattle.altair_laws.proofs.Drives.{Stands}
use Rattle.altair_laws.proofs.Sectors.{Issues, issues, after_data-issue, stands-issue}
use Rattle.altair_laws.proofs.Steps.{Gave, GaveNothing, GaveByte, GaveWrite, Steps, after_step, after_write}
use Rattle.altair_laws.proofs.Images.{number_of, image-do, done-left}
use Rattle.altair_laws.proofs.Writes.{Has, WasIssued, IsSettled, Writes, given, number-few, alike, own-alike, operations_none, operations_some, not_byte, one_more, grown, name_number, byte-had, byte-has}

pub same_operations : (w : SectorWrite) (xs ys : List Operation) → xs ≡ ys → Among (Write w) xs → Among (Write w) ys
same_operations w xs ys e h = subst (Among (Write w)) e h

writes-issue : (start : SectorAddress → List ℕ)
    (moves : List Move) (g : Guest) (processor : Processor) (byte : ℕ) (v : SectorWrite)
    → Writes start moves g
    → drives.issued_by g.devices.disk byte ≡ Some v
    → Writes start (moves ++ Do (Some (Write v)) ∷ []) (stepped g processor (after_write (wired g) byte v))
writes-issue start moves g processor byte v d h = record {
  are_given = given-step moves g.operations (Some (Write v)) d.are_given;
  stands = subst Stands (sym after) (stands-issue g.devices.disk v i d.stands);
  table = d.table ∙ ap (λ (k : drives.Drives). k.attached * DRIVE_SECTORS) (sym after);
  known = λ w a. known_at w (split w a);
  once = λ x y a b e. once_at x y (split x a) (split y b) e;
  placed = λ w a. subst (Among (place_of w)) (sym outstanding_is) (placed_at w (grown w v g.operations a));
  from = λ x a. from_at x
      (among-split x g.devices.disk.outstanding (place_of v ∷ []) (subst (Among x) outstanding_is a));
  settled = λ w a. settled_at w (split w a);
  later = λ w a. later_at w (grown w v g.operations a);
  own = λ q. own-alike (start q) moves (moves ++ Do (Some (Write v)) ∷ []) g.completed q (λ w a. left w a)
      (image-do [] q (start q) moves (Some (Write v))) (λ b a. done-left b moves (Do (Some (Write v)) ∷ []) a)
      (d.own q);
}
  where
    i : Issues g.devices.disk v
    i = issues g.devices.disk byte v h

    after : drives.after_data g.devices.disk byte ≡ drives.after_issue g.devices.disk v
    after = after_data-issue g.devices.disk byte v h

    issued_is : (drives.after_data g.devices.disk byte).issued ≡ v.number
    issued_is = ap (λ (k : drives.Drives). k.issued) after

    outstanding_is : (drives.after_data g.devices.disk byte).outstanding ≡ g.devices.disk.outstanding ++ place_of v ∷ []
    outstanding_is = ap (λ (k : drives.Drives). k.outstanding) after

    left : (w : SectorWrite) → WasIssued w moves → WasIssued w (moves ++ Do (Some (Write v)) ∷ [])
    left w a = operations-left (Write w) moves (Do (Some (Write v)) ∷ []) a

    split : (w : SectorWrite) → WasIssued w (moves ++ Do (Some (Write v)) ∷ []) → WasIssued w moves ⊎ (w ≡ v)
    split w a = one_more w v (operations moves) (subst (Among (Write w)) (operations_some moves (Write v)) a)

    new : (w : SectorWrite) → w ≡ v → Has (with_operation g.operations (Write v)) w
    new w e = subst (Has (with_operation g.operations (Write v))) (sym e) (operation_at-with g.operations (Write v))

    stay : (w : SectorWrite) → Has g.operations w → Has (with_operation g.operations (Write v)) w
    stay w a =
        operation_at-with_other g.operations (Write v) (id.Write w.number)
        (λ e. (let k = (d.known w (given start moves g d w a)).1 in let n = i.number in
        let z = name_number w.number v.number e in (omega arith)))
        ∙ a

    known_at : (w : SectorWrite) → WasIssued w moves ⊎ (w ≡ v)
        → (1 ≤ w.number) × (w.number ≤ (drives.after_data g.devices.disk byte).issued)
    known_at w (inl a) = let k = d.known w a in let z = k.1 in let n = i.number in let q = issued_is in
        (k.0, omega arith)
    known_at w (inr e) = let n = i.number in let q = issued_is in let z = ap (λ (x : SectorWrite). x.number) e in
        (omega arith, omega arith)

    once_at : (x y : SectorWrite) → WasIssued x moves ⊎ (x ≡ v) → WasIssued y moves ⊎ (y ≡ v) → x.number ≡ y.number
        → x ≡ y
    once_at x y (inl a) (inl b) e = d.once x y a b e
    once_at x y (inl a) (inr b) e = let z = ap (λ (w : SectorWrite). w.number) b in let k = (d.known x a).1 in
        let n = i.number in absurd (omega arith)
    once_at x y (inr a) (inl b) e = let z = ap (λ (w : SectorWrite). w.number) a in let k = (d.known y b).1 in
        let n = i.number in absurd (omega arith)
    once_at x y (inr a) (inr b) e = a ∙ sym b

    placed_at : (w : SectorWrite) → Has g.operations w ⊎ (w ≡ v)
        → Among (place_of w) (g.devices.disk.outstanding ++ place_of v ∷ [])
    placed_at w (inl a) = among-left (place_of w) g.devices.disk.outstanding (place_of v ∷ []) (d.placed w a)
    placed_at w (inr e) = among-right (place_of w) g.devices.disk.outstanding (place_of v ∷ []) (inl (ap place_of e))

    from_at : (x : Place) → Among x g.devices.disk.outstanding ⊎ Among x (place_of v ∷ [])
        → (w : SectorWrite) × Has (with_operation g.operations (Write v)) w × (place_of w ≡ x)
    from_at x (inl a) = let r = d.from x a in (r.0, stay r.0 r.1, r.2)
    from_at x (inr (inl e)) = (v, new v refl, sym e)
    from_at x (inr (inr a)) = absurd a

    settled_at : (w : SectorWrite) → WasIssued w moves ⊎ (w ≡ v)
        → IsSettled g.completed (with_operation g.operations (Write v)) w
    settled_at w (inl a) = more (d.settled w a)
      where
        more : IsSettled g.completed g.operations w → IsSettled g.completed (with_operation g.operations (Write v)) w
        more (inl k) = inl k
        more (inr k) = inr (stay w k)
    settled_at w (inr e) = inr (new w e)

    later_at : (w : SectorWrite) → Has g.operations w ⊎ (w ≡ v) → number_of g.completed (address_of w) < w.number
    later_at w (inl a) = d.later w a
    later_at w (inr e) = let z = ap (λ (x : SectorWrite). x.number) e in let n = i.number in
        let k = number-few start moves g (address_of w) d in omega arith

pub writes-step : (start : SectorAddress → List ℕ) (moves : List Move) (g u : Guest) (gives : Option Operation)
    → Writes start moves g → Steps g u gives → Writes start (moves ++ Do gives ∷ []) u
writes-step start moves g u gives d k = after_step (Writes start) moves g u gives k (at k.behind k.gave)
  where
    at : (w : Wired) → Gave (wired g) w → Writes start (moves ++ Do w.given ∷ []) (stepped g k.processor w)
    at w (GaveNothing _ e q) =
        subst (λ o. Writes start (moves ++ Do o ∷ []) (record (stepped g k.processor w) {
          operations =
              with_given g.operations o;
        })) (sym e)
        (alike start moves (moves ++ Do None ∷ []) g (record (stepped g k.processor w) { operations = g.operations }) d
        (record {
          are_given = given-step moves g.operations None d.are_given;
          stands = q.disk.stands d.stands;
          attached_is = q.disk.attached;
          issued = q.disk.issued;
          outstanding = q.disk.outstanding;
          completed = refl;
          there = λ w h. same_operations w (operations moves) (operations (moves ++ Do None ∷ []))
              (sym (operations_none moves)) h;
          back = λ w h. same_operations w (operations (moves ++ Do None ∷ [])) (operations moves)
              (operations_none moves) h;
          has = λ w h. h;
          had = λ w h. h;
          image = λ p. image-do [] p (start p) moves None;
          done = λ b h. done-left b moves (Do None ∷ []) h;
        }))
    at w (GaveByte port byte inside l room) =
        let x = Byte port (slice_index g.issued port + 1) byte in
        alike start moves (moves ++ Do (Some x) ∷ []) g (stepped g k.processor (after_byte (wired g) port byte)) d
        (record {
          are_given = given-step moves g.operations (Some x) d.are_given;
          stands = d.stands;
          attached_is = refl;
          issued = refl;
          outstanding = refl;
          completed = refl;
          there = λ w h. operations-left (Write w) moves (Do (Some x) ∷ []) h;
          back = λ w h. not_byte w port (slice_index g.issued port + 1) byte (operations moves)
              (same_operations w (operations (moves ++ Do (Some x) ∷ [])) (operations moves ++ x ∷ [])
              (operations_some moves x) h);
          has = λ w h. byte-has g.operations port (slice_index g.issued port + 1) byte w h;
          had = λ w h. byte-had g.operations port (slice_index g.issued port + 1) byte w h;
          image = λ p. image-do [] p (start p) moves (Some x);
          done = λ b h. done-left b moves (Do (Some x) ∷ []) h;
        })
    at w (GaveWrite byte write e l) = writes-issue start moves g k.processor byte write d e
