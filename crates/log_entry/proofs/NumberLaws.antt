-- A number that is written is read back, and a number that is read is the bytes in front of the rest. Both follow from
-- the same law of the library on numbers of eight bytes.
use Rattle.std.proofs.Common.{◌≡◌, ℕ, ◌^◌, ◌<◌, ◌≤◌, true, false, ltb, List, ◌++◌, length, take, drop, Some, refl, sym, ap, subst, ◌∙◌, arith}
use Rattle.std.specs.Int.{w64, from_be_bytes}
use Rattle.std.proofs.lemmas.Bool.{ltb-true, ltb-false, le-ltb, lt-ltb}
use Rattle.std.proofs.lemmas.List.{take-append-drop, length-take}
use Rattle.std.proofs.lemmas.Nat.{be_bytes_8, from_be_bytes-to_be_bytes_8}
use Rattle.byteorder.specs.Endian.{big_bytes}
use Rattle.log_entry.specs.Numbers.{IsBytes, limited, number_from}
use Rattle.log_entry.proofs.ReadingLaws.{IsBytes-drop, IsBytes-take, not_refused, admitted}

-- what is written is read back
pub number_again : (n : ℕ) (rest : List ℕ) → n < 2 ^ 62 → number_from (big_bytes 8 n ++ rest) ≡ Some (n, rest)
unfolding number_from
number_again n rest lt =
    let again : from_be_bytes w64 (big_bytes 8 n) ≡ n = from_be_bytes-to_be_bytes_8 n (omega arith) in
    let small : ltb n (2 ^ 62) ≡ true = lt-ltb _ _ lt in
    let long : ltb (length (big_bytes 8 n ++ rest)) 8 ≡ false = le-ltb _ _ (omega arith) in
    rw (long, again, small) refl

-- what was read from the front
pub record Takes (bytes : List ℕ) (n : ℕ) (rest : List ℕ) : Type 0 where
  pub parts : bytes ≡ big_bytes 8 n ++ rest
  pub are_bytes : IsBytes rest
  pub below : n < 2 ^ 62

-- a number within the limit is the one that was tested
limited_is : (n : ℕ) (rest : List ℕ) (x : ℕ × List ℕ) → limited n rest ≡ Some x
    → (x.0 < 2 ^ 62) × (x.0 ≡ n) × (x.1 ≡ rest)
limited_is n rest x read =
    let test = admitted (ltb n (2 ^ 62)) (n, rest) x read in
    let same : n ≡ x.0 = ap (λ (p : ℕ × List ℕ). p.0) test.1 in
    (subst (λ (m : ℕ). m < 2 ^ 62) same (ltb-true _ _ test.0), sym same, ap (λ (p : ℕ × List ℕ). p.1) (sym test.1))

pub number_takes : (bytes : List ℕ) (x : ℕ × List ℕ) → IsBytes bytes → number_from bytes ≡ Some x
    → Takes bytes x.0 x.1
unfolding number_from
number_takes bytes x are_bytes read =
    let front = take 8 bytes in
    let rest = drop 8 bytes in
    let test = not_refused (ltb (length bytes) 8) (limited (from_be_bytes w64 front) rest) x read in
    let long : 8 ≤ length bytes = ltb-false _ _ test.0 in
    let is = limited_is (from_be_bytes w64 front) rest x test.1 in
    let eight : length front ≡ 8 = omega (arith, length-take 8 bytes) in
    let same : big_bytes 8 x.0 ≡ front = be_bytes_8 front x.0 eight (IsBytes-take 8 bytes are_bytes) is.1 in
    let spelled : bytes ≡ big_bytes 8 x.0 ++ rest =
    sym (take-append-drop 8 bytes) ∙ ap (λ (bs : List ℕ). bs ++ rest) (sym same)
    in
    record {
      parts = spelled ∙ ap (λ (bs : List ℕ). big_bytes 8 x.0 ++ bs) (sym is.2);
      are_bytes = subst IsBytes (sym is.2) (IsBytes-drop 8 bytes are_bytes);
      below = is.0;
    }
