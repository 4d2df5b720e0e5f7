-- The lines of a sector, one after another.
use Rattle.std.proofs.Common.{◌≡◌, ◌∙◌, ℕ, ◌+◌, ◌<◌, ◌≤◌, List, take, drop, length, get_or, ap, subst, sym, arith}
use Rattle.std.specs.List.{flat_map}
use Rattle.std.proofs.lemmas.List.{take_all}
use Rattle.disk_dcdd.specs.declared.address.SectorAddress.{SectorAddress}
use Rattle.shared_disk.specs.declared.disk.SectorRead.{SectorRead}
use Rattle.shell_language.specs.Texts.{AddsLine, Prints}
use Rattle.shell_language.specs.declared.printing.Printed.{Printed}
use Rattle.shell_language.proofs.Adding.{adds_text, prints_text}
use Rattle.shell_picture.proofs.Telling.{tells_some_more}
use Rattle.shell_picture.specs.Sectors.{dump_row, dump_text, sector_text, read_rows, sector_places}

-- one line more
pub tells_line_more : (bytes all : List ℕ) (i d : ℕ) (rest line : List ℕ) (old mid new : Printed) → all ≡ sector_places
    → i < length all → rest ≡ drop (get_or all i d) bytes → line ≡ take 16 rest
    → Prints (flat_map (dump_row bytes) (take i sector_places)) old mid → AddsLine (dump_text (get_or all i d) line) mid new
    → Prints (flat_map (dump_row bytes) (take (i + 1) sector_places)) old new
tells_line_more bytes all i d rest line old mid new is less is_rest is_line h more =
    subst (λ (l : List ℕ). Prints (flat_map (dump_row bytes) (take (i + 1) l)) old new) is
    (tells_some_more (dump_row bytes) all i d old mid new less
    (subst (λ (l : List ℕ). Prints (flat_map (dump_row bytes) (take i l)) old mid) (sym is) h)
    (prints_text (dump_text (get_or all i d) (take 16 (drop (get_or all i d) bytes))) mid new
    (subst (λ (l : List ℕ). AddsLine (dump_text (get_or all i d) l) mid new) (is_line ∙ ap (take 16) is_rest) more)))

-- all lines
pub tells_lines : (bytes all : List ℕ) (i : ℕ) (old new : Printed) → all ≡ sector_places → length all ≤ i
    → Prints (flat_map (dump_row bytes) (take i sector_places)) old new → Prints (flat_map (dump_row bytes) sector_places) old new
tells_lines bytes all i old new is past h =
    let long : length sector_places ≡ length all = ap (λ (l : List ℕ). length l) (sym is) in
    subst (λ (l : List ℕ). Prints (flat_map (dump_row bytes) l) old new) (take_all i sector_places (omega (arith, long, past))) h

-- the head, and the lines after it
pub tells_read : (address : SectorAddress) (read : SectorRead) (old mid new : Printed) → AddsLine (sector_text address read.number) old mid
    → Prints (flat_map (dump_row read.bytes) sector_places) mid new → Prints (read_rows address read) old new
tells_read address read old mid new head lines = (mid, (adds_text (sector_text address read.number) old mid head, lines))
