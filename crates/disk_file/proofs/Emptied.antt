-- What a crash leaves while the journal behind an image is emptied.
use Rattle.std.proofs.Common.{◌≡◌, inl, inr, ℕ, zero, suc, ◌+◌, ◌-◌, ◌*◌, ◌≤◌, List, [], ◌∷◌, ◌++◌, length, get_or, take, drop, if◌then◌else◌, ◌==◌, ◌&&◌, nat_lt, Bool, true, false, refl, sym, ◌∙◌, ap, arith, append_assoc, length-drop}
use Rattle.std.proofs.lemmas.Bool.{cases_eq}
use Rattle.std.proofs.lemmas.Bool.Decides.{nat_tests}
use Rattle.std.proofs.lemmas.List.{append-nil, take_at, drop_at, take_all, drop_all, drop_more, take-take, drop-drop, drop-take, length-take, length-take-le}
use Rattle.disk_file.specs.Device.{Holds, Torn, Cut}
use Rattle.disk_file.specs.Sectors.{Entry, entries, journal_of, applied, contents, Resting}
use Rattle.disk_file.proofs.Blocks.{shut}
use Rattle.disk_file.proofs.Lists.{over_before}

-- the front of what stands for nothing stands for nothing
pub front_nothing : (sectors n : ℕ) (t : List ℕ) → journal_of sectors t ≡ [] → journal_of sectors (take n t) ≡ []
front_nothing sectors zero t none = refl
front_nothing sectors (suc n) [] none = refl
front_nothing sectors (suc zero) (a ∷ t) none = refl
front_nothing sectors (suc (suc n)) (a ∷ []) none = refl
front_nothing sectors (suc (suc zero)) (a ∷ b ∷ t) none = refl
front_nothing sectors (suc (suc (suc n))) (a ∷ b ∷ []) none = refl
front_nothing sectors (suc (suc (suc n))) (gate ∷ low ∷ high ∷ rest) none = go (gate == 1 && (nat_lt 136 (length rest) && nat_lt (low + high * 256) sectors)) refl
  where
    made : Bool → List ℕ → List Entry
    made b r = if b then record { place = low + high * 256; bytes = take 137 r } ∷ entries sectors (suc (suc (length r))) (drop 137 r) else []

    go : (b : Bool) → (gate == 1 && (nat_lt 136 (length rest) && nat_lt (low + high * 256) sectors)) ≡ b → journal_of sectors (gate ∷ low ∷ high ∷ take n rest) ≡ []
    go true is =
        let open_here : journal_of sectors (gate ∷ low ∷ high ∷ rest) ≡ record { place = low + high * 256; bytes = take 137 rest } ∷ entries sectors (suc (suc (length rest))) (drop 137 rest) =
        ap (λ (b : Bool). if b then record { place = low + high * 256; bytes = take 137 rest } ∷ entries sectors (suc (suc (length rest))) (drop 137 rest) else []) is in
        absurd (cc (open_here, none))
    go false is =
        let short : length (take n rest) ≤ length rest = omega (arith, length-take n rest) in
        let test : (gate == 1 && (nat_lt 136 (length (take n rest)) && nat_lt (low + high * 256) sectors)) ≡ false = grind (arith, nat_tests) in
        ap (λ (b : Bool). if b then record { place = low + high * 256; bytes = take 137 (take n rest) } ∷ entries sectors (suc (suc (length (take n rest)))) (drop 137 (take n rest)) else []) test

pub short_nothing : (sectors : ℕ) (t : List ℕ) → length t ≤ 1 → journal_of sectors t ≡ []
short_nothing sectors [] le = refl
short_nothing sectors (a ∷ []) le = refl
short_nothing sectors (a ∷ b ∷ t) le = absurd (omega arith)

module _ (sectors : ℕ) where
  abbrev size : ℕ
  size = 137 * sectors

  -- an image with nothing behind it
  pub alone : (c : List ℕ) → journal_of sectors (drop size c) ≡ [] → contents sectors c ≡ take size c
  alone c none = ap (applied (take size c)) none

  -- one byte is written behind the image, at an open gate
  pub gate_torn : (d c rest : List ℕ) → drop size d ≡ 1 ∷ rest → size ≤ length d → contents sectors d ≡ take size d → Torn size 1 d c → contents sectors c ≡ take size d
  gate_torn d c rest behind long done torn =
      let gate = get_or c size 0 in
      let longer : size + 1 ≤ length d = omega (arith, ap length behind, length-drop size d) in
      let next : drop (size + 1) d ≡ rest = sym (drop-drop 1 size d) ∙ ap (λ (l : List ℕ). drop 1 l) behind in
      let tail : drop size c ≡ gate ∷ rest = drop_more c size 0 (omega (arith, torn.no_shorter, longer)) ∙ ap (λ (l : List ℕ). gate ∷ l) (torn.after ∙ next) in
      elim (cases_eq gate 1) [
        | inl open_gate ↦
            let same : drop size c ≡ drop size d = tail ∙ ap (λ (k : ℕ). k ∷ rest) open_gate ∙ sym behind in
            ap (λ (i : List ℕ). applied i (journal_of sectors (drop size c))) torn.before
            ∙ ap (λ (t : List ℕ). applied (take size d) (journal_of sectors t)) same ∙ done
        | inr closed ↦ alone c (ap (journal_of sectors) tail ∙ shut sectors gate rest closed) ∙ torn.before
      ]

  pub gate_shut : (d c : List ℕ) → size + 1 ≤ length d → Holds d size (0 ∷ []) c → journal_of sectors (drop size c) ≡ []
  gate_shut d c long holds =
      let tail : drop size c ≡ 0 ∷ drop (size + 1) d =
      ap (λ (l : List ℕ). drop size l) (holds ∙ append_assoc (take size d) (0 ∷ []) (drop (size + 1) d)) ∙ drop_at (take size d) (0 ∷ drop (size + 1) d) size (length-take-le size d (omega (arith, long))) in
      ap (journal_of sectors) tail ∙ shut sectors 0 (drop (size + 1) d) (omega arith)

  pub gate_image : (d c : List ℕ) → size + 1 ≤ length d → Holds d size (0 ∷ []) c → take size c ≡ take size d
  gate_image d c long holds = ap (λ (l : List ℕ). take size l) holds ∙ over_before size (0 ∷ []) d (omega (arith, long)) size (omega arith)

  pub gate_long : (d c : List ℕ) → size + 1 ≤ length d → Holds d size (0 ∷ []) c → size ≤ length c
  gate_long d c long holds = omega (arith, ap length (gate_image d c long holds), length-take size c, length-take size d, long)

  -- the file is cut behind the image
  pub cut_short : (d c : List ℕ) → size ≤ length d → journal_of sectors (drop size d) ≡ [] → Cut size d c → contents sectors c ≡ take size d
  cut_short d c long none cut =
      let m = length c - size in
      let is : length c ≡ size + m = omega (arith, cut.no_shorter) in
      let image : take size c ≡ take size d = ap (λ (l : List ℕ). take size l) (sym cut.front) ∙ take-take size (length c) d cut.no_shorter in
      let tail : drop size c ≡ take m (drop size d) =
      ap (λ (l : List ℕ). drop size l) (sym cut.front) ∙ ap (λ (k : ℕ). drop size (take k d)) is ∙ drop-take size m d in
      alone c (ap (journal_of sectors) tail ∙ front_nothing sectors m (drop size d) none) ∙ image

  -- one byte is written behind an image alone
  pub end_torn : (d c : List ℕ) → length d ≡ size → Torn size 1 d c → contents sectors c ≡ d
  end_torn d c is torn =
      alone c (short_nothing sectors (drop size c) (omega (arith, length-drop size c, torn.no_longer, is))) ∙ torn.before ∙ take_all size d (omega (arith, is))

  pub end_written : (d c : List ℕ) → length d ≡ size → Holds d size (0 ∷ []) c → c ≡ d ++ 0 ∷ []
  end_written d c is holds =
      holds
      ∙ ap (λ (l : List ℕ). l ++ (0 ∷ []) ++ drop (size + 1) d) (take_all size d (omega (arith, is)))
      ∙ ap (λ (l : List ℕ). d ++ (0 ∷ []) ++ l) (drop_all (size + 1) d (omega (arith, is)))
      ∙ append-nil (d ++ 0 ∷ [])

  -- an image and a closed gate: a file between two writes
  pub image_rests : (d : List ℕ) → length d ≡ size → Resting sectors size (d ++ 0 ∷ [])
  image_rests d is = record {
    front = d;
    split = refl;
    blocks = record {
      size = is;
      long = omega arith;
      entered = [];
      whole = λ t. ap (λ (l : List ℕ). journal_of sectors (l ++ t)) (drop_all size d (omega (arith, is)));
    };
  }

  pub image_stands : (d : List ℕ) → length d ≡ size → contents sectors (d ++ 0 ∷ []) ≡ d
  image_stands d is =
      let image : take size (d ++ 0 ∷ []) ≡ d = take_at d (0 ∷ []) size is in
      let tail : drop size (d ++ 0 ∷ []) ≡ 0 ∷ [] = drop_at d (0 ∷ []) size is in
      alone (d ++ 0 ∷ []) (ap (journal_of sectors) tail) ∙ image
