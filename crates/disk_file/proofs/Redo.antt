-- Writing the entries of a journal into the image, again and again.
use Rattle.std.proofs.Common.{◌≡◌, inl, inr, ℕ, zero, suc, ◌+◌, ◌-◌, ◌*◌, ◌≤◌, ◌<◌, List, [], ◌∷◌, ◌++◌, length, take, drop, if◌then◌else◌, ◌==◌, ◌&&◌, nat_lt, Bool, true, false, refl, sym, ◌∙◌, ap, subst, arith}
use Rattle.std.proofs.lemmas.Bool.{cases_eq, cases_lt}
use Rattle.std.proofs.lemmas.Bool.Decides.{nat_tests}
use Rattle.std.proofs.lemmas.List.{take-take, drop-drop, drop-take, length-take-le}
use Rattle.disk_file.specs.Device.{Holds, Torn}
use Rattle.disk_file.specs.Sectors.{Entry, entries, journal_of, with_sector, applied, contents, Redone}
use Rattle.disk_file.proofs.Lists.{Apart, over, over_size, over_before, over_after, over_up_to, below, above}

pub record Fits (sectors : ℕ) (e : Entry) : Type 0 where
  pub inside : e.place < sectors
  pub sized : length e.bytes ≡ 137

abbrev pub AllFit : ℕ → List Entry → Type 0
AllFit sectors [] = Unit {0}
AllFit sectors (e ∷ es) = Fits sectors e × AllFit sectors es

pub all_fit : (sectors n : ℕ) (t : List ℕ) → AllFit sectors (entries sectors n t)
all_fit sectors zero t = tt
all_fit sectors (suc n) [] = tt
all_fit sectors (suc n) (a ∷ []) = tt
all_fit sectors (suc n) (a ∷ b ∷ []) = tt
all_fit sectors (suc n) (gate ∷ low ∷ high ∷ rest) = go (gate == 1 && (nat_lt 136 (length rest) && nat_lt (low + high * 256) sectors)) refl (all_fit sectors n (drop 137 rest))
  where
    go : (b : Bool) → (gate == 1 && (nat_lt 136 (length rest) && nat_lt (low + high * 256) sectors)) ≡ b
        → AllFit sectors (entries sectors n (drop 137 rest)) → AllFit sectors (if b then record { place = low + high * 256; bytes = take 137 rest } ∷ entries sectors n (drop 137 rest) else [])
    go false is behind = tt
    go true is behind =
        let long : 137 ≤ length rest = grind (arith, nat_tests) in
        let inside : low + high * 256 < sectors = grind (arith, nat_tests) in
        (record { inside = inside; sized = length-take-le 137 rest long }, behind)

pub is_over : (q : ℕ) (y a : List ℕ) → length y ≡ 137 → with_sector a q y ≡ over (137 * q) y a
is_over q y a size = ap (λ (n : ℕ). take (137 * q) a ++ y ++ drop (137 * q + n) a) (sym size)

module _ (sectors : ℕ) where
  -- images that differ in one sector are the same once a list of entries is applied that has it
  pub redoing : (done : List Entry) (e : Entry) (more : List Entry) (a b : List ℕ) → AllFit sectors (done ++ e ∷ more) → Apart (137 * e.place) 137 a b → 137 * sectors ≤ length a
      → applied a (done ++ e ∷ more) ≡ applied b (done ++ e ∷ more)
  redoing [] e more a b fit apart long =
      ap (λ (i : List ℕ). applied i more) (ap (λ (l : List ℕ). l ++ e.bytes ++ drop (137 * e.place + 137) a) apart.before ∙ ap (λ (l : List ℕ). take (137 * e.place) b ++ e.bytes ++ l) apart.after)
  redoing (f ∷ done) e more a b fit apart long = elim (cases_eq f.place e.place) [
    | inl same ↦
        let at_f = subst (λ (p : ℕ). Apart (137 * p) 137 a b) (sym same) apart in
        ap (λ (i : List ℕ). applied i (done ++ e ∷ more)) (ap (λ (l : List ℕ). l ++ f.bytes ++ drop (137 * f.place + 137) a) at_f.before ∙ ap (λ (l : List ℕ). take (137 * f.place) b ++ f.bytes ++ l) at_f.after)
    | inr other ↦
        let sized = fit.0.sized in
        let e_in = inside_of done fit.1 in
        let f_in : f.place < sectors = fit.0.inside in
        let over_apart : Apart (137 * e.place) 137 (over (137 * f.place) f.bytes a) (over (137 * f.place) f.bytes b) = elim (cases_lt f.place e.place) [
          | inl lower ↦ below (137 * e.place) 137 (137 * f.place) f.bytes a b (omega (arith, sized, lower)) (omega (arith, long, e_in)) apart
          | inr higher ↦ above (137 * e.place) 137 (137 * f.place) f.bytes a b (omega (arith, higher, other)) (omega (arith, sized, long, f_in)) apart
        ] in
        let with_apart : Apart (137 * e.place) 137 (with_sector a f.place f.bytes) (with_sector b f.place f.bytes) =
        subst (λ (l : List ℕ). Apart (137 * e.place) 137 l (with_sector b f.place f.bytes)) (sym (is_over f.place f.bytes a sized))
        (subst (λ (l : List ℕ). Apart (137 * e.place) 137 (over (137 * f.place) f.bytes a) l) (sym (is_over f.place f.bytes b sized)) over_apart) in
        let still : 137 * sectors ≤ length (with_sector a f.place f.bytes) =
        omega (arith, ap length (is_over f.place f.bytes a sized), over_size (137 * f.place) f.bytes a (omega (arith, sized, long, f_in)), long) in
        redoing done e more (with_sector a f.place f.bytes) (with_sector b f.place f.bytes) fit.1 with_apart still
  ]
    where
      inside_of : (done : List Entry) → AllFit sectors (done ++ e ∷ more) → e.place < sectors
      inside_of [] fit = fit.0.inside
      inside_of (f ∷ done) fit = inside_of done fit.1

  module _ (start : List ℕ) (long : 137 * sectors ≤ length start) (p : ℕ) (inside : p < sectors) where
    -- a torn write of a sector leaves the rest of the image, and the journal
    torn_apart : (d c : List ℕ) → length d ≡ length start → Torn (137 * p) 137 d c → Apart (137 * p) 137 (take (137 * sectors) c) (take (137 * sectors) d)
    torn_apart d c size torn =
        let m = 137 * sectors - (137 * p + 137) in
        let is : 137 * sectors ≡ 137 * p + 137 + m = omega (arith, inside) in
        let same : length c ≡ length d = omega (arith, torn.no_shorter, torn.no_longer, long, size, inside) in
        record {
          size = length-take-le (137 * sectors) c (omega (arith, same, size, long)) ∙ sym (length-take-le (137 * sectors) d (omega (arith, size, long)));
          before = take-take (137 * p) (137 * sectors) c (omega (arith, inside)) ∙ torn.before ∙ sym (take-take (137 * p) (137 * sectors) d (omega (arith, inside)));
          after = ap (λ (k : ℕ). drop (137 * p + 137) (take k c)) is ∙ drop-take (137 * p + 137) m c ∙ ap (λ (l : List ℕ). take m l) torn.after
              ∙ sym (drop-take (137 * p + 137) m d) ∙ ap (λ (k : ℕ). drop (137 * p + 137) (take k d)) (sym is);
        }

    pub torn_redone : (done : List Entry) (e : Entry) (more : List Entry) → journal_of sectors (drop (137 * sectors) start) ≡ done ++ e ∷ more → e.place ≡ p
        → (d c : List ℕ) → Redone sectors start d → Torn (137 * p) 137 d c → Redone sectors start c
    torn_redone done e more journal at d c redone torn =
        let m = 137 * sectors - (137 * p + 137) in
        let is : 137 * sectors ≡ 137 * p + 137 + m = omega (arith, inside) in
        let same : length c ≡ length d = omega (arith, torn.no_shorter, torn.no_longer, long, redone.size, inside) in
        let tail : drop (137 * sectors) c ≡ drop (137 * sectors) d =
        ap (λ (k : ℕ). drop k c) is ∙ sym (drop-drop m (137 * p + 137) c) ∙ ap (λ (l : List ℕ). drop m l) torn.after ∙ drop-drop m (137 * p + 137) d ∙ ap (λ (k : ℕ). drop k d) (sym is) in
        let fit = subst (AllFit sectors) journal (all_fit sectors (length (drop (137 * sectors) start)) (drop (137 * sectors) start)) in
        let apart = subst (λ (k : ℕ). Apart (137 * k) 137 (take (137 * sectors) c) (take (137 * sectors) d)) (sym at) (torn_apart d c redone.size torn) in
        let again = redoing done e more (take (137 * sectors) c) (take (137 * sectors) d) fit apart (omega (arith, length-take-le (137 * sectors) c (omega (arith, same, redone.size, long)))) in
        record {
          size = same ∙ redone.size;
          tail = tail ∙ redone.tail;
          same = ap (applied (take (137 * sectors) c)) journal ∙ again ∙ ap (applied (take (137 * sectors) d)) (sym journal) ∙ redone.same;
        }

    -- a write that is done is one of the torn ones
    pub is_torn : (bytes d c : List ℕ) → length bytes ≡ 137 → length d ≡ length start → Holds d (137 * p) bytes c → Torn (137 * p) 137 d c
    is_torn bytes d c sized size holds =
        let le : 137 * p + length bytes ≤ length d = omega (arith, sized, size, long, inside) in
        let after : drop (137 * p + 137) c ≡ drop (137 * p + 137) d =
        ap (λ (l : List ℕ). drop (137 * p + 137) l) holds ∙ subst (λ (k : ℕ). drop k (over (137 * p) bytes d) ≡ drop k d) (omega (arith, sized)) (over_after (137 * p) bytes d le 0) in
        let same : length c ≡ length d = ap length holds ∙ over_size (137 * p) bytes d le in
        record {
          before = ap (λ (l : List ℕ). take (137 * p) l) holds ∙ over_before (137 * p) bytes d le (137 * p) (omega arith);
          after = after;
          no_shorter = omega (arith, same);
          no_longer = omega (arith, same);
        }

    -- and does what its entry says
    pub written_sector : (bytes d c : List ℕ) → length bytes ≡ 137 → length d ≡ length start → Holds d (137 * p) bytes c → take (137 * sectors) c ≡ with_sector (take (137 * sectors) d) p bytes
    written_sector bytes d c sized size holds =
        let m = 137 * sectors - (137 * p + length bytes) in
        let is : 137 * sectors ≡ 137 * p + length bytes + m = omega (arith, inside, sized) in
        let le : 137 * p + length bytes ≤ length d = omega (arith, sized, size, long, inside) in
        let left : take (137 * sectors) c ≡ (take (137 * p) d ++ bytes) ++ take m (drop (137 * p + length bytes) d) =
        ap (λ (l : List ℕ). take (137 * sectors) l) holds ∙ ap (λ (k : ℕ). take k (over (137 * p) bytes d)) is ∙ over_up_to (137 * p) bytes d le m in
        let right : drop (137 * p + length bytes) (take (137 * sectors) d) ≡ take m (drop (137 * p + length bytes) d) =
        ap (λ (k : ℕ). drop (137 * p + length bytes) (take k d)) is ∙ drop-take (137 * p + length bytes) m d in
        left
        ∙ ap (λ (l : List ℕ). (take (137 * p) d ++ bytes) ++ l) (sym right)
        ∙ ap (λ (l : List ℕ). l ++ bytes ++ drop (137 * p + length bytes) (take (137 * sectors) d)) (sym (take-take (137 * p) (137 * sectors) d (omega (arith, inside))))
        ∙ sym (is_over p bytes (take (137 * sectors) d) sized)

-- meanwhile the file stands for the same disk
pub redone_stands : (sectors : ℕ) (start c : List ℕ) → Redone sectors start c → contents sectors c ≡ contents sectors start
redone_stands sectors start c redone = ap (λ (t : List ℕ). applied (take (137 * sectors) c) (journal_of sectors t)) redone.tail ∙ redone.same
