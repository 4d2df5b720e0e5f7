-- Sectors, one after another: those of images, place by place, and those that lines say.
use Rattle.std.proofs.Common.{◌≡◌, ℕ, ◌+◌, ◌<◌, List, [], ◌∷◌, ◌++◌, append_assoc, length, take, get_or, map, arith, sym, ap, ◌∙◌}
use Rattle.std.specs.List.{range_with_len}
use Rattle.std.proofs.lemmas.List.{map-append, take_more}
use Rattle.std.proofs.lemmas.List.FromFn.{map-range_with_len_more}
use Rattle.command_io.specs.Images.{sector_at}
use Rattle.disk_dcdd.specs.declared.sector.SectorWrite.{SectorWrite}
use Rattle.script_language.specs.Scripts.{boot_write}
use Rattle.script_language.specs.declared.setup.BootSector.{BootSector}

-- the sector at the next place
pub place_more : (drives images : List ℕ) (place : ℕ) (before now : List SectorWrite) (sector : SectorWrite)
    → now ≡ before ++ sector ∷ [] → sector ≡ sector_at drives images place
    → before ≡ map (sector_at drives images) (range_with_len 0 place)
    → now ≡ map (sector_at drives images) (range_with_len 0 (place + 1))
place_more drives images place before now sector more is so_far =
    more ∙ ap (λ s. before ++ s ∷ []) is ∙ ap (λ l. l ++ sector_at drives images place ∷ []) so_far
    ∙ sym (map-range_with_len_more (sector_at drives images) 0 place place (omega arith))

-- the sector of the next line
pub line_more : (first before now : List SectorWrite) (lines : List BootSector) (i : ℕ) (d line : BootSector) (sector : SectorWrite)
    → now ≡ before ++ sector ∷ [] → sector ≡ boot_write line → line ≡ get_or lines i d → i < length lines
    → before ≡ first ++ map boot_write (take i lines)
    → now ≡ first ++ map boot_write (take (i + 1) lines)
line_more first before now lines i d line sector more is at within so_far =
    more ∙ ap (λ s. before ++ s ∷ []) (is ∙ ap boot_write at)
    ∙ ap (λ l. l ++ boot_write (get_or lines i d) ∷ []) so_far
    ∙ append_assoc first (map boot_write (take i lines)) (boot_write (get_or lines i d) ∷ [])
    ∙ ap (λ l. first ++ l) (sym (map-append boot_write (take i lines) (get_or lines i d ∷ [])))
    ∙ ap (λ l. first ++ map boot_write l) (sym (take_more lines i d within))
