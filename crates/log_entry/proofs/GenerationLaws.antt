-- A generation that is written is read back, and one that is read is the four bytes in front of the rest.
use Rattle.std.proofs.Common.{◌≡◌, ℕ, ◌^◌, ◌<◌, ◌≤◌, false, eqb, ltb, List, ◌++◌, length, take, drop, Some, refl, sym, ap, subst, ◌∙◌, arith}
use Rattle.std.specs.Int.{w32, from_be_bytes}
use Rattle.std.proofs.lemmas.Bool.{eqb-false, ne_eqb, ltb-false, le-ltb}
use Rattle.std.proofs.lemmas.List.{take-append-drop, length-take}
use Rattle.std.proofs.lemmas.Nat.{be_bytes_4, from_be_bytes-to_be_bytes_4}
use Rattle.std.proofs.lemmas.Option.{same_Some}
use Rattle.byteorder.specs.Endian.{big_bytes}
use Rattle.log_entry.specs.Numbers.{IsBytes, generation_from, nonzero}
use Rattle.log_entry.proofs.ReadingLaws.{IsBytes-drop, IsBytes-take, not_refused}

-- what was read from the front
pub record TakesGeneration (bytes : List ℕ) (generation : ℕ) (rest : List ℕ) : Type 0 where
  pub parts : bytes ≡ big_bytes 4 generation ++ rest
  pub are_bytes : IsBytes rest
  pub above : 0 < generation
  pub below : generation < 2 ^ 32

pub generation_takes : (bytes : List ℕ) (x : ℕ × List ℕ) → IsBytes bytes → generation_from bytes ≡ Some x
    → TakesGeneration bytes x.0 x.1
unfolding generation_from
generation_takes bytes x are_bytes read =
    let front = take 4 bytes in
    let rest = drop 4 bytes in
    let word = from_be_bytes w32 front in
    let length_test = not_refused (ltb (length bytes) 4) (nonzero word rest) x read in
    let zero_test = not_refused (eqb word 0) (Some (word, rest)) x length_test.1 in
    let long : 4 ≤ length bytes = ltb-false _ _ length_test.0 in
    let same = same_Some _ _ zero_test.1 in
    let same_word : x.0 ≡ word = ap (λ (p : ℕ × List ℕ). p.0) (sym same) in
    let same_rest : x.1 ≡ rest = ap (λ (p : ℕ × List ℕ). p.1) (sym same) in
    let front_bytes = IsBytes-take 4 bytes are_bytes in
    let four : length front ≡ 4 = omega (arith, length-take 4 bytes) in
    let spelled : big_bytes 4 x.0 ≡ front = be_bytes_4 front x.0 four front_bytes same_word in
    let split : bytes ≡ big_bytes 4 x.0 ++ rest =
    sym (take-append-drop 4 bytes) ∙ ap (λ (bs : List ℕ). bs ++ rest) (sym spelled)
    in
    let not_zero = eqb-false _ _ zero_test.0 in
    let below : word < 2 ^ 32 = omega (arith, front_bytes 0, front_bytes 1, front_bytes 2, front_bytes 3) in
    record {
      parts = split ∙ ap (λ (bs : List ℕ). big_bytes 4 x.0 ++ bs) (sym same_rest);
      are_bytes = subst IsBytes (sym same_rest) (IsBytes-drop 4 bytes are_bytes);
      above = subst (λ (n : ℕ). 0 < n) (sym same_word) (omega (arith, not_zero));
      below = subst (λ (n : ℕ). n < 2 ^ 32) (sym same_word) below;
    }

-- what is written is read back
pub generation_again : (generation : ℕ) (rest : List ℕ) → 0 < generation → generation < 2 ^ 32
    → generation_from (big_bytes 4 generation ++ rest) ≡ Some (generation, rest)
unfolding generation_from
generation_again generation rest above below =
    let again : from_be_bytes w32 (big_bytes 4 generation) ≡ generation =
    from_be_bytes-to_be_bytes_4 generation below
    in
    let long : ltb (length (big_bytes 4 generation ++ rest)) 4 ≡ false = le-ltb _ _ (omega arith) in
    let not_zero : eqb generation 0 ≡ false = ne_eqb generation 0 (λ z. omega (arith, above)) in
    rw (long, again, not_zero) refl
