-- The first entry of a journal, as it is read.
use Rattle.std.proofs.Common.{◌≡◌, ℕ, ◌+◌, ◌-◌, ◌*◌, ◌≤◌, ◌<◌, List, [], ◌∷◌, length, take, drop, slice_index_or, sym, ◌∙◌, ap, arith, length-drop}
use Rattle.std.proofs.lemmas.List.{take_rest, drop-drop}
use Rattle.disk_file.specs.Sectors.{journal_of}
use Rattle.disk_file.proofs.Blocks.{open_block}

abbrev pub behind : ℕ → List ℕ → List ℕ
behind n j = take (length j - n) (drop n j)

pub entry_read : (sectors : ℕ) (j : List ℕ) → 3 ≤ length j → slice_index_or j 0 0 ≡ 1 → 137 ≤ length (behind 3 j) → slice_index_or j 1 0 + slice_index_or j 2 0 * 256 < sectors
    → journal_of sectors j ≡ record { place = slice_index_or j 1 0 + slice_index_or j 2 0 * 256; bytes = take 137 (behind 3 j) } ∷ journal_of sectors (behind 137 (behind 3 j))
entry_read sectors [] long first enough fits = absurd (omega arith)
entry_read sectors (a ∷ []) long first enough fits = absurd (omega arith)
entry_read sectors (a ∷ b ∷ []) long first enough fits = absurd (omega arith)
entry_read sectors (gate ∷ low ∷ high ∷ rest) long first enough fits =
    let is_rest : behind 3 (gate ∷ low ∷ high ∷ rest) ≡ rest = take_rest (gate ∷ low ∷ high ∷ rest) 3 in
    let after : behind 137 (behind 3 (gate ∷ low ∷ high ∷ rest)) ≡ drop 137 rest = take_rest (behind 3 (gate ∷ low ∷ high ∷ rest)) 137 ∙ ap (λ (l : List ℕ). drop 137 l) is_rest in
    ap (λ (g : ℕ). journal_of sectors (g ∷ low ∷ high ∷ rest)) first
    ∙ open_block sectors low high rest (omega (arith, enough, ap length is_rest)) fits
    ∙ ap (λ (l : List ℕ). record { place = low + high * 256; bytes = take 137 l } ∷ journal_of sectors (drop 137 rest)) (sym is_rest)
    ∙ ap (λ (l : List ℕ). record { place = low + high * 256; bytes = take 137 (behind 3 (gate ∷ low ∷ high ∷ rest)) } ∷ journal_of sectors l) (sym after)

-- what is behind the three bytes and the sector of a block
pub behind_block : (j : List ℕ) → behind 137 (behind 3 j) ≡ drop 140 j
behind_block j = take_rest (behind 3 j) 137 ∙ ap (λ (l : List ℕ). drop 137 l) (take_rest j 3) ∙ drop-drop 137 3 j

pub behind_shorter : (j : List ℕ) → 3 ≤ length j → 137 ≤ length (behind 3 j) → length (behind 137 (behind 3 j)) < length j
behind_shorter j long enough =
    omega (arith, ap length (take_rest (behind 3 j) 137), length-drop 137 (behind 3 j), ap length (take_rest j 3), length-drop 3 j, long)

pub begins : (j : List ℕ) → 1 ≤ length j → slice_index_or j 0 0 ≡ 1 → j ≡ 1 ∷ drop 1 j
begins [] long first = absurd (omega arith)
begins (gate ∷ rest) long first = ap (λ (g : ℕ). g ∷ rest) first
