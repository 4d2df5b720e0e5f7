-- What is copied of a board is the checkpoint of its guest.
use Rattle.std.proofs.Common.{◌≡◌, ℕ, ◌+◌, ◌-◌, ◌*◌, List, [], ◌∷◌, ◌++◌, map, take, drop, Some, refl, sym, ap, ◌∙◌, arith}
use Rattle.std.specs.Prelude.{slice_range}
use Rattle.std.proofs.Math.Seq.{take-add}
use Rattle.std.proofs.lemmas.List.Elements.{All-head, All-tail}
use Rattle.disk_dcdd.specs.Sector.{place_of}
use Rattle.disk_dcdd.specs.declared.sector.SectorWrite.{SectorWrite}
use Rattle.event_callbacks.specs.Operations.{Operations, operation_at}
use Rattle.event_callbacks.specs.declared.operations.OpId.TheVariants as id
use Rattle.event_callbacks.specs.declared.operations.Operation.TheVariants as operation
use Rattle.guest_parts.specs.Board.{IsBoard}
use Rattle.guest_parts.specs.Guest.{Guest}
use Rattle.guest_parts.specs.Parts.{HaveWrites, Shows}
use Rattle.guest_parts.specs.declared.parts.BoardParts.{BoardParts}
use Rattle.clone_state.specs.Checkpoint.{padded, window_of, write_at, writes_at}
use Rattle.clone_state.specs.Image.{IsCopyOf}

-- ---- memory, page after page

pub next_page : (memory : List ℕ) (page : ℕ)
    → take (page * 256) memory ++ slice_range memory (page * 256) (page * 256 + 256) ≡ take ((page + 1) * 256) memory
next_page memory page =
    let n : page * 256 + 256 - page * 256 ≡ 256 = omega arith in
    let e : page * 256 + 256 ≡ (page + 1) * 256 = omega arith in
    ap (λ k. take (page * 256) memory ++ take k (drop (page * 256) memory)) n
    ∙ sym (take-add (page * 256) 256 memory) ∙ ap (λ k. take k memory) e

-- ---- the outstanding writes

-- the writes that are outstanding at these places are those that were copied
pub writes_are : (m : Operations) (writes : List SectorWrite) → HaveWrites m writes
    → writes_at m (map place_of writes) ≡ writes
writes_are m [] have = refl
writes_are m (w ∷ ws) have =
    let there : operation_at m (id.Write w.number) ≡ Some (operation.Write w) =
    All-head (λ (x : SectorWrite). operation_at m (id.Write x.number) ≡ Some (operation.Write x)) w ws have in
    ap (λ o. write_at (place_of w) o ∷ writes_at m (map place_of ws)) there
    ∙ ap (λ (xs : List SectorWrite). w ∷ xs)
    (writes_are m ws (All-tail (λ (x : SectorWrite). operation_at m (id.Write x.number) ≡ Some (operation.Write x)) w ws have))

-- ---- all of it

pub shown_writes : (g : Guest) (p : BoardParts) → Shows g p
    → p.writes.items ≡ writes_at g.operations g.devices.disk.outstanding
shown_writes g p s =
    sym (writes_are g.operations p.writes.items s.writes)
    ∙ ap (writes_at g.operations) (s.places ∙ ap (λ d. d.disk.outstanding) s.devices)

pub copy_is : (g : Guest) (p : BoardParts) (versions : List ℕ) → IsBoard g versions → Shows g p
    → p.unaccepted ≡ padded (window_of g 0) ∷ padded (window_of g 1) ∷ [] → IsCopyOf g p
copy_is g p versions board s windows =
    let writes = shown_writes g p s in
    record {
      shown = rw (s.processor, s.devices, windows, s.issued, writes, s.count, s.keys, s.levels, s.sense, s.memory, s.completed) refl;
      sectors = rw (s.completed, s.devices) board.completed.sectors;
    }
