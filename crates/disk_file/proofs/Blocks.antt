-- What the blocks of a journal stand for.
use Rattle.std.proofs.Common.{◌≡◌, ◌≢◌, inl, inr, ℕ, zero, suc, ◌+◌, ◌*◌, ◌≤◌, ◌<◌, List, [], ◌∷◌, ◌++◌, length, take, drop, if◌then◌else◌, ◌==◌, ◌&&◌, nat_lt, Bool, true, false, refl, sym, ◌∙◌, ap, arith, append_assoc, length-append, length-drop}
use Rattle.std.proofs.lemmas.Bool.{cases_eq}
use Rattle.std.proofs.lemmas.Bool.Decides.{nat_tests}
use Rattle.std.proofs.lemmas.List.{take_at, drop_at, take-append-le, drop-append-le}
use Rattle.disk_file.specs.Sectors.{Entry, entries, journal_of, with_sector, applied, contents, Front, IsBeforeOrAfter}

module _ (sectors : ℕ) where
  -- more turns than there are bytes read no more
  pub enough : (m n : ℕ) (t : List ℕ) → length t ≤ m → length t ≤ n → entries sectors m t ≡ entries sectors n t
  enough zero zero t le_m le_n = refl
  enough zero (suc n) [] le_m le_n = refl
  enough zero (suc n) (a ∷ t) le_m le_n = absurd (omega arith)
  enough (suc m) zero [] le_m le_n = refl
  enough (suc m) zero (a ∷ t) le_m le_n = absurd (omega arith)
  enough (suc m) (suc n) [] le_m le_n = refl
  enough (suc m) (suc n) (a ∷ []) le_m le_n = refl
  enough (suc m) (suc n) (a ∷ b ∷ []) le_m le_n = refl
  enough (suc m) (suc n) (gate ∷ low ∷ high ∷ rest) le_m le_n =
      let shorter = length-drop 137 rest in
      let more : entries sectors m (drop 137 rest) ≡ entries sectors n (drop 137 rest) = enough m n (drop 137 rest) (omega (arith, shorter, le_m)) (omega (arith, shorter, le_n)) in
      ap (λ (es : List Entry). if gate == 1 && (nat_lt 136 (length rest) && nat_lt (low + high * 256) sectors) then record { place = low + high * 256; bytes = take 137 rest } ∷ es else []) more

  opens : (gate low high : ℕ) (rest : List ℕ) → Bool
  opens gate low high rest = gate == 1 && (nat_lt 136 (length rest) && nat_lt (low + high * 256) sectors)

  pub open_block : (low high : ℕ) (rest : List ℕ) → 137 ≤ length rest → low + high * 256 < sectors → journal_of sectors (1 ∷ low ∷ high ∷ rest) ≡ record { place = low + high * 256; bytes = take 137 rest } ∷ journal_of sectors (drop 137 rest)
  open_block low high rest long fits =
      let test : (1 == 1 && (nat_lt 136 (length rest) && nat_lt (low + high * 256) sectors)) ≡ true = grind (arith, nat_tests) in
      let more = enough (suc (suc (length rest))) (length (drop 137 rest)) (drop 137 rest) (omega (arith, length-drop 137 rest)) (omega arith) in
      ap (λ (b : Bool). if b then record { place = low + high * 256; bytes = take 137 rest } ∷ entries sectors (suc (suc (length rest))) (drop 137 rest) else []) test
      ∙ ap (λ (es : List Entry). record { place = low + high * 256; bytes = take 137 rest } ∷ es) more

  -- a closed gate ends them
  pub shut : (gate : ℕ) (rest : List ℕ) → gate ≢ 1 → journal_of sectors (gate ∷ rest) ≡ []
  shut gate [] closed = refl
  shut gate (a ∷ []) closed = refl
  shut gate (low ∷ high ∷ rest) closed =
      let test : (gate == 1 && (nat_lt 136 (length rest) && nat_lt (low + high * 256) sectors)) ≡ false = grind (arith, nat_tests) in
      ap (λ (b : Bool). if b then record { place = low + high * 256; bytes = take 137 rest } ∷ entries sectors (suc (suc (length rest))) (drop 137 rest) else []) test

  -- a whole block, and what is after it
  pub block : (low high : ℕ) (bytes t : List ℕ) → length bytes ≡ 137 → low + high * 256 < sectors → journal_of sectors (1 ∷ low ∷ high ∷ bytes ++ t) ≡ record { place = low + high * 256; bytes = bytes } ∷ journal_of sectors t
  block low high bytes t size fits =
      open_block low high (bytes ++ t) (omega (arith, size, length-append bytes t)) fits
      ∙ ap (λ (b : List ℕ). record { place = low + high * 256; bytes = b } ∷ journal_of sectors (drop 137 (bytes ++ t))) (take_at bytes t 137 size)
      ∙ ap (λ (r : List ℕ). record { place = low + high * 256; bytes = bytes } ∷ journal_of sectors r) (drop_at bytes t 137 size)

  pub applied-append : (image : List ℕ) (es fs : List Entry) → applied image (es ++ fs) ≡ applied (applied image es) fs
  applied-append image [] fs = refl
  applied-append image (e ∷ es) fs = applied-append (with_sector image e.place e.bytes) es fs

  module _ (end : ℕ) (front : List ℕ) (blocks : Front sectors end front) where
    abbrev pub disk : List ℕ
    disk = applied (take (137 * sectors) front) blocks.entered

    -- behind a front, the journal goes on
    pub goes_on_behind : (t : List ℕ) → contents sectors (front ++ t) ≡ applied disk (journal_of sectors t)
    goes_on_behind t =
        let long : 137 * sectors ≤ length front = omega (arith, blocks.size, blocks.long) in
        ap (λ (image : List ℕ). applied image (journal_of sectors (drop (137 * sectors) (front ++ t)))) (take-append-le (137 * sectors) front t long)
        ∙ ap (λ (tail : List ℕ). applied (take (137 * sectors) front) (journal_of sectors tail)) (drop-append-le (137 * sectors) front t long)
        ∙ ap (λ (es : List Entry). applied (take (137 * sectors) front) es) (blocks.whole t)
        ∙ applied-append (take (137 * sectors) front) blocks.entered (journal_of sectors t)

    -- behind a closed gate nothing counts
    pub closed_behind : (gate : ℕ) (t : List ℕ) → gate ≢ 1 → contents sectors (front ++ gate ∷ t) ≡ disk
    closed_behind gate t closed = goes_on_behind (gate ∷ t) ∙ ap (λ (es : List Entry). applied disk es) (shut gate t closed)

    module _ (low high : ℕ) (bytes : List ℕ) (size : length bytes ≡ 137) (fits : low + high * 256 < sectors) where
      -- behind any gate the block counts or it does not
      pub gate_behind : (gate : ℕ) → IsBeforeOrAfter sectors disk (low + high * 256) bytes (front ++ (gate ∷ low ∷ high ∷ bytes ++ 0 ∷ []))
      gate_behind gate = elim (cases_eq gate 1) [
        | inl open_gate ↦ inr (
            ap (λ (g : ℕ). contents sectors (front ++ (g ∷ low ∷ high ∷ bytes ++ 0 ∷ []))) open_gate
            ∙ goes_on_behind (1 ∷ low ∷ high ∷ bytes ++ 0 ∷ [])
            ∙ ap (λ (es : List Entry). applied disk es) (block low high bytes (0 ∷ []) size fits))
        | inr closed ↦ inl (closed_behind gate (low ∷ high ∷ bytes ++ 0 ∷ []) closed)
      ]

      -- the front with the block
      pub longer : Front sectors (end + 140) (front ++ 1 ∷ low ∷ high ∷ bytes)
      longer =
          let long : 137 * sectors ≤ length front = omega (arith, blocks.size, blocks.long) in
          record {
            size = omega (arith, blocks.size, size, length-append front (1 ∷ low ∷ high ∷ bytes));
            long = omega (arith, blocks.long);
            entered = blocks.entered ++ record { place = low + high * 256; bytes = bytes } ∷ [];
            whole = λ t.
                ap (λ (l : List ℕ). journal_of sectors (l ++ t)) (drop-append-le (137 * sectors) front (1 ∷ low ∷ high ∷ bytes) long)
                ∙ ap (λ (l : List ℕ). journal_of sectors l) (append_assoc (drop (137 * sectors) front) (1 ∷ low ∷ high ∷ bytes) t)
                ∙ blocks.whole (1 ∷ low ∷ high ∷ bytes ++ t)
                ∙ ap (λ (es : List Entry). blocks.entered ++ es) (block low high bytes t size fits)
                ∙ sym (append_assoc blocks.entered (record { place = low + high * 256; bytes = bytes } ∷ []) (journal_of sectors t));
          }
