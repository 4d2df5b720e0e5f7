-- The small values and the processor of the first part: what is written is read again, and what is read is written just
-- so.
use Rattle.std.proofs.Common.{◌≡◌, ℕ, zero, suc, ◌+◌, ◌*◌, ◌/◌, ◌%◌, ◌<◌, ◌^◌, Bool, true, false, not, cond, Option, Some, None, refl, sym, ap, ◌∙◌, arith}
use Rattle.std.specs.Prelude.{IfSome, ◌==◌, ◌&&◌}
use Rattle.std.proofs.lemmas.Bool.{ne_eqb, eqb-true, ltb-true, and_parts}
use Rattle.i8080_words.specs.Arithmetic.{bit, has_bit, flag_byte, flags_from}
use Rattle.i8080_words.specs.declared.arithmetic.Flags.{Flags}
use Rattle.i8080_words.specs.declared.registers.Interrupts.{Interrupts}
use Rattle.i8080_words.specs.declared.registers.Interrupts.TheVariants.{Off, Soon, On}
use Rattle.i8080_words.specs.declared.registers.Processor.{Processor}
use Rattle.clone_state.proofs.Words.{Again, Codec, both, code_of_interrupts, flags, interrupts, interrupts_of, is_bit, is_flag_byte, is_interrupts, maybe, one, only, or_none, processor, registers, some_below, truth, word}
use Rattle.clone_state.proofs.Codecs.{both_again, by_again, code_again, only_again, one_again}
use Rattle.clone_state.proofs.Spellings.{Spells, one_spells, both_spells, by_spells, only_spells}

-- nothing more is known
abbrev pub Anything : {A : Type 0} → A → Type 0
Anything x = Unit {0}

-- ---- truth values, words, numbers that may be missing

pub truth_again : (b : Bool) → Again truth b
unfolding truth
truth_again true = by_again (only one is_bit) bit (λ n. n == 1) true (only_again one is_bit 1 (one_again 1) refl) refl
truth_again false = by_again (only one is_bit) bit (λ n. n == 1) false (only_again one is_bit 0 (one_again 0) refl) refl

pub truth_spells : Spells truth Anything
unfolding truth
truth_spells =
    by_spells (only one is_bit) bit (λ n. n == 1) (only_spells one is_bit one_spells)
    (λ n h. back n (ltb-true n 2 h.1)) (λ n h. tt)
  where
    back : (n : ℕ) → n < 2 → bit (n == 1) ≡ n
    back zero h = refl
    back (suc zero) h = refl
    back (suc (suc n)) h = absurd (omega (arith, h))

pub word_again : (n : ℕ) → Again word n
unfolding word
word_again n =
    by_again (both one one) (λ n. (n / 256, n % 256)) (λ p. p.0 * 256 + p.1) n
    (both_again one one (n / 256) (n % 256) (one_again (n / 256)) (one_again (n % 256))) (omega arith)

abbrev pair : ℕ → ℕ → ℕ × ℕ
pair a b = (a, b)

pub word_spells : Spells word (λ n. n < 2 ^ 16)
unfolding word
word_spells =
    by_spells (both one one) (λ n. (n / 256, n % 256)) (λ p. p.0 * 256 + p.1) (both_spells one one one_spells one_spells)
    (λ p h. back p.0 p.1 h.1) (λ p h. few p.0 p.1 h.0 h.1)
  where
    back : (high low : ℕ) → low < 256
        → ◌≡◌ {A = ℕ × ℕ} ((high * 256 + low) / 256, (high * 256 + low) % 256) (high, low)
    back high low h =
        let a : (high * 256 + low) / 256 ≡ high = omega (arith, h) in
        let b : (high * 256 + low) % 256 ≡ low = omega (arith, h) in
        ap (λ (x : ℕ). pair x ((high * 256 + low) % 256)) a ∙ ap (pair high) b

    few : (high low : ℕ) → high < 256 → low < 256 → high * 256 + low < 2 ^ 16
    few high low h l = omega (arith, h, l)

pub maybe_again : (o : Option ℕ) → IfSome o (λ n. n < 255) → Again maybe o
unfolding maybe
maybe_again o few = by_again one or_none some_below o (one_again (or_none o)) (back o few)
  where
    back : (o : Option ℕ) → IfSome o (λ n. n < 255) → some_below (or_none o) ≡ o
    back None few = refl
    back (Some n) few = let other = ne_eqb n 255 (λ e. omega (arith, few, e)) in rw other refl

pub maybe_spells : Spells maybe Anything
unfolding maybe
maybe_spells = by_spells one or_none some_below one_spells (λ n h. back n (n == 255) refl) (λ n h. tt)
  where
    back : (n : ℕ) (b : Bool) → (n == 255) ≡ b → or_none (some_below n) ≡ n
    back n true e = ap (λ t. or_none (cond t None (Some n))) e ∙ sym (eqb-true n 255 e)
    back n false e = ap (λ t. or_none (cond t None (Some n))) e

-- ---- the processor

-- a flag byte that is written
abbrev Comes : Flags → Type 0
Comes f = (is_flag_byte (flag_byte f) ≡ true) × (flags_from (flag_byte f) ≡ f)

abbrev of : Bool → Bool → Bool → Bool → Bool → Flags
of s z ac p cy = record { s = s; z = z; ac = ac; p = p; cy = cy }

pub flags_again : (f : Flags) → Again flags f
unfolding flags
flags_again f =
    by_again (only one is_flag_byte) flag_byte flags_from f
    (only_again one is_flag_byte (flag_byte f) (one_again (flag_byte f)) (go f.s f.z f.ac f.p f.cy).0)
    (go f.s f.z f.ac f.p f.cy).1
  where
    low : (s z ac : Bool) → Comes (of s z ac true true) → Comes (of s z ac true false) → Comes (of s z ac false true)
        → Comes (of s z ac false false) → (p cy : Bool) → Comes (of s z ac p cy)
    low s z ac a b c d true true = a
    low s z ac a b c d true false = b
    low s z ac a b c d false true = c
    low s z ac a b c d false false = d

    go : (s z ac p cy : Bool) → Comes (of s z ac p cy)
    go true true true = low true true true (refl, refl) (refl, refl) (refl, refl) (refl, refl)
    go true true false = low true true false (refl, refl) (refl, refl) (refl, refl) (refl, refl)
    go true false true = low true false true (refl, refl) (refl, refl) (refl, refl) (refl, refl)
    go true false false = low true false false (refl, refl) (refl, refl) (refl, refl) (refl, refl)
    go false true true = low false true true (refl, refl) (refl, refl) (refl, refl) (refl, refl)
    go false true false = low false true false (refl, refl) (refl, refl) (refl, refl) (refl, refl)
    go false false true = low false false true (refl, refl) (refl, refl) (refl, refl) (refl, refl)
    go false false false = low false false false (refl, refl) (refl, refl) (refl, refl) (refl, refl)

bit_of : (n : ℕ) → n < 2 → bit (n == 1) ≡ n
bit_of zero h = refl
bit_of (suc zero) h = refl
bit_of (suc (suc n)) h = absurd (omega (arith, h))

-- the bits of a byte
bits_of : (n : ℕ) → n < 256
    → 128 * (n / 128 % 2) + 64 * (n / 64 % 2) + 32 * (n / 32 % 2) + 16 * (n / 16 % 2) + 8 * (n / 8 % 2)
    + 4 * (n / 4 % 2) + 2 * (n / 2 % 2) + n / 1 % 2 ≡ n
bits_of n h = omega (arith, h)

pub flags_spells : Spells flags Anything
unfolding flags
flags_spells =
    by_spells (only one is_flag_byte) flag_byte flags_from (only_spells one is_flag_byte one_spells)
    (λ n h. back n h.0 h.1) (λ n h. tt)
  where
    low : (n : ℕ) → n % 2 < 2
    low n = omega arith

    zero_bit : (n : ℕ) → n < 2 → not (n == 1) ≡ true → n ≡ 0
    zero_bit zero h e = refl
    zero_bit (suc zero) h e = absurd cc
    zero_bit (suc (suc n)) h e = absurd (omega (arith, h))

    back : (n : ℕ) → n < 256 → is_flag_byte n ≡ true → flag_byte (flags_from n) ≡ n
    back n h e =
        let two = and_parts (not (has_bit n 32) && not (has_bit n 8)) (has_bit n 2) e in
        let both = and_parts (not (has_bit n 32)) (not (has_bit n 8)) two.0 in
        let five : n / 32 % 2 ≡ 0 = zero_bit (n / 32 % 2) (low (n / 32)) both.0 in
        let three : n / 8 % 2 ≡ 0 = zero_bit (n / 8 % 2) (low (n / 8)) both.1 in
        let one : n / 2 % 2 ≡ 1 = eqb-true (n / 2 % 2) 1 two.1 in
        let s = bit_of (n / 128 % 2) (low (n / 128)) in
        let z = bit_of (n / 64 % 2) (low (n / 64)) in
        let ac = bit_of (n / 16 % 2) (low (n / 16)) in
        let p = bit_of (n / 4 % 2) (low (n / 4)) in
        let cy = bit_of (n / 1 % 2) (low (n / 1)) in
        let all = bits_of n h in
        omega (arith, s, z, ac, p, cy, five, three, one, all)

pub interrupts_again : (i : Interrupts) → Again interrupts i
unfolding interrupts
interrupts_again i =
    code_again is_interrupts code_of_interrupts interrupts_of back i
  where
    back : (i : Interrupts) → (is_interrupts (code_of_interrupts i) ≡ true) × (interrupts_of (code_of_interrupts i) ≡ i)
    back Off = (refl, refl)
    back Soon = (refl, refl)
    back On = (refl, refl)

pub interrupts_spells : Spells interrupts Anything
unfolding interrupts
interrupts_spells =
    by_spells (only one is_interrupts) code_of_interrupts interrupts_of (only_spells one is_interrupts one_spells)
    (λ n h. back n (ltb-true n 3 h.1)) (λ n h. tt)
  where
    back : (n : ℕ) → n < 3 → code_of_interrupts (interrupts_of n) ≡ n
    back zero h = refl
    back (suc zero) h = refl
    back (suc (suc zero)) h = refl
    back (suc (suc (suc n))) h = absurd (omega (arith, h))

pub processor_again : (p : Processor) → Again processor p
unfolding processor registers
processor_again p =
    by_again _ _ _ p
    (both_again _ _ _ _
    (both_again one _ _ _ (one_again _) (both_again flags _ _ _ (flags_again _) (both_again one _ _ _ (one_again _)
    (both_again one _ _ _ (one_again _) (both_again one _ _ _ (one_again _) (both_again one _ _ _ (one_again _)
    (both_again one one _ _ (one_again _) (one_again _))))))))
    (both_again word _ _ _ (word_again p.regs.sp) (both_again word _ _ _ (word_again p.regs.pc)
    (both_again interrupts truth _ _ (interrupts_again p.interrupts) (truth_again p.halted))))) refl

registers_spells : Spells registers Anything
unfolding registers
registers_spells =
    loose _ (both_spells one _ one_spells (both_spells flags _ flags_spells (both_spells one _ one_spells
    (both_spells one _ one_spells (both_spells one _ one_spells (both_spells one _ one_spells
    (both_spells one one one_spells one_spells)))))))
  where
    loose : {A : Type 0} {P : A → Type 0} (c : Codec A) → Spells c P → Spells c Anything
    loose c h = record { written = h.written; holds = λ bytes r all e. tt }

pub processor_spells : Spells processor Anything
unfolding processor
processor_spells =
    by_spells _ _ _
    (both_spells registers _ registers_spells (both_spells word _ word_spells (both_spells word _ word_spells
    (both_spells interrupts truth interrupts_spells truth_spells))))
    (λ r h. refl) (λ r h. tt)
