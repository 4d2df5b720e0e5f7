-- One bit of a byte, by a mask and by arithmetic.
use Rattle.std.proofs.Common.{◌≡◌, ℕ, ◌+◌, ◌*◌, ◌/◌, ◌%◌, ◌^◌, ◌<◌, max, Bool, true, false, not, ◌||◌, ◌==◌, nat_eq, nat_le, refl, ap, ap₂, ◌∙◌, subst, arith, bit_and, bit_or}
use Rattle.std.specs.Int.{bit_at}
use Rattle.std.proofs.lemmas.Nat.Bits.{and_pow, bit_at_or, bit_at-lt}
use Rattle.std.proofs.lemmas.Bool.Decides.{nat_tests}
use Rattle.std.proofs.Common.{one-mul}
use borrow.Author.Count.{below_none, below_more}
use Rattle.i8080_words.specs.Arithmetic.{bit, flags_from}

-- both cases of a flag
pub both : (P : Bool → Type 0) → P false → P true → (b : Bool) → P b
both P at_false at_true b = elim b as (λ x. P x) [ false ↦ at_false | true ↦ at_true ]

-- the cases of a number below two
pub below_two : (P : ℕ → Type 0) → P 0 → P 1 → (n : ℕ) → n < 2 → P n
below_two P p0 p1 = below_more P 1 (below_more P 0 (below_none P) p0) p1

-- the mask of one bit; the two premises compute at each mask
pub masked : (n k m : ℕ) → 2 ^ k ≡ m → (not (nat_eq (0 * m) 0) ≡ false) → (not (nat_eq (1 * m) 0) ≡ true) → not (nat_eq (bit_and n m) 0) ≡ (n / m % 2 == 1)
masked n k m e p0 p1 =
    let same : (n / 2 ^ k % 2) ≡ (n / m % 2) = ap (λ (x : ℕ). n / x % 2) e in
    let clean : bit_and n m ≡ (n / m % 2) * m = subst (λ (x : ℕ). bit_and n x ≡ (n / x % 2) * x) e (and_pow n k) in
    let small : n / m % 2 < 2 = subst (λ (x : ℕ). x < 2) same (bit_at-lt n k) in
    ap (λ (x : ℕ). not (nat_eq x 0)) clean ∙ below_two (λ (b : ℕ). not (nat_eq (b * m) 0) ≡ (b == 1)) p0 p1 (n / m % 2) small

-- bit 3 of a low digit
third_bit : (a : ℕ) → (a / 8 % 2 == 1) ≡ nat_le 8 (a % 16)
third_bit a = grind (arith, nat_tests)

either : (x : ℕ) → x < 2 → (y : ℕ) → y < 2 → (max x y == 1) ≡ ((x == 1) || (y == 1))
either x xs y ys = below_two (λ (i : ℕ). (max i y == 1) ≡ ((i == 1) || (y == 1))) (below_two (λ (j : ℕ). (max 0 j == 1) ≡ ((0 == 1) || (j == 1))) refl refl y ys) (below_two (λ (j : ℕ). (max 1 j == 1) ≡ ((1 == 1) || (j == 1))) refl refl y ys) x xs

-- bit 3 of an or
pub third_bit_or : (a b : ℕ) → not (nat_eq (bit_and (bit_or a b) 8) 0) ≡ (nat_le 8 (a % 16) || nat_le 8 (b % 16))
third_bit_or a b =
    masked (bit_or a b) 3 8 refl refl refl
    ∙ ap (λ (x : ℕ). x == 1) (bit_at_or a b 3)
    ∙ either (bit_at a 3) (bit_at-lt a 3) (bit_at b 3) (bit_at-lt b 3)
    ∙ ap₂ (λ (x y : Bool). x || y) (third_bit a) (third_bit b)

-- the flag byte by its bits
pub flag_bits : (s z ac p cy : Bool) → bit_or (bit_or (bit_or (bit_or (bit_or (128 * bit s) (64 * bit z)) (16 * bit ac)) (4 * bit p)) 2) (bit cy) ≡ 128 * bit s + 64 * bit z + 16 * bit ac + 4 * bit p + 2 + bit cy
flag_bits true true true true true = refl
flag_bits true true true true false = refl
flag_bits true true true false true = refl
flag_bits true true true false false = refl
flag_bits true true false true true = refl
flag_bits true true false true false = refl
flag_bits true true false false true = refl
flag_bits true true false false false = refl
flag_bits true false true true true = refl
flag_bits true false true true false = refl
flag_bits true false true false true = refl
flag_bits true false true false false = refl
flag_bits true false false true true = refl
flag_bits true false false true false = refl
flag_bits true false false false true = refl
flag_bits true false false false false = refl
flag_bits false true true true true = refl
flag_bits false true true true false = refl
flag_bits false true true false true = refl
flag_bits false true true false false = refl
flag_bits false true false true true = refl
flag_bits false true false true false = refl
flag_bits false true false false true = refl
flag_bits false true false false false = refl
flag_bits false false true true true = refl
flag_bits false false true true false = refl
flag_bits false false true false true = refl
flag_bits false false true false false = refl
flag_bits false false false true true = refl
flag_bits false false false true false = refl
flag_bits false false false false true = refl
flag_bits false false false false false = refl

-- the same for the masks that make it up
pub flag_masks : (s z ac p cy : Bool) (a b d e f : ℕ) → a ≡ 128 * bit s → b ≡ 64 * bit z → d ≡ 16 * bit ac → e ≡ 4 * bit p → f ≡ 1 * bit cy → bit_or (bit_or (bit_or (bit_or (bit_or a b) d) e) 2) f ≡ 128 * bit s + 64 * bit z + 16 * bit ac + 4 * bit p + 2 + bit cy
flag_masks s z ac p cy a b d e f ea eb ed ee ef = rw (ea, eb, ed, ee, ef, one-mul) (flag_bits s z ac p cy)

-- the flags of a flag byte
pub flags_back : (s z ac p cy : Bool) → flags_from (128 * bit s + 64 * bit z + 16 * bit ac + 4 * bit p + 2 + bit cy) ≡ record { s = s; z = z; ac = ac; p = p; cy = cy }
flags_back true true true true true = refl
flags_back true true true true false = refl
flags_back true true true false true = refl
flags_back true true true false false = refl
flags_back true true false true true = refl
flags_back true true false true false = refl
flags_back true true false false true = refl
flags_back true true false false false = refl
flags_back true false true true true = refl
flags_back true false true true false = refl
flags_back true false true false true = refl
flags_back true false true false false = refl
flags_back true false false true true = refl
flags_back true false false true false = refl
flags_back true false false false true = refl
flags_back true false false false false = refl
flags_back false true true true true = refl
flags_back false true true true false = refl
flags_back false true true false true = refl
flags_back false true true false false = refl
flags_back false true false true true = refl
flags_back false true false true false = refl
flags_back false true false false true = refl
flags_back false true false false false = refl
flags_back false false true true true = refl
flags_back false false true true false = refl
flags_back false false true false true = refl
flags_back false false true false false = refl
flags_back false false false true true = refl
flags_back false false false true false = refl
flags_back false false false false true = refl
flags_back false false false false false = refl
