-- Digits that are decoded into a place for as many bytes.
use Rattle.std.proofs.Common.{◌≡◌, ℕ, ◌/◌, ◌%◌, Bool, true, false, List, length, Some, None, Result, Ok, Err, refl, ap, sym, ◌∙◌}
use Rattle.std.specs.Prelude.{◌==◌, if◌then◌else◌, MatchResult}
use Rattle.std.specs.Result.{is_ok, result_ok}
use Rattle.hex.specs.Hex.{decode_of, decode_pairs, decode_sized}
use Rattle.hex.specs.declared.error.FromHexError.{FromHexError}
use Rattle.hex.specs.declared.error.FromHexError.TheVariants.{OddLength, InvalidStringLength}

-- the place is of the right size
fitting : (odd same : Bool) (pairs : Result (List ℕ) FromHexError) → same ≡ true
    → (if odd then Err OddLength else (if same then pairs else Err InvalidStringLength)) ≡ (if odd then Err OddLength else pairs)
fitting true same pairs e = refl
fitting false true pairs e = refl
fitting false false pairs e = absurd (cc)

pub sized : (text : List ℕ) (n : ℕ) → (length text / 2 == n) ≡ true → decode_sized text n ≡ decode_of text
sized text n e = fitting (length text % 2 == 1) (length text / 2 == n) (decode_pairs 0 text) e

by_answer : (text : List ℕ) (given : Result (List ℕ) FromHexError) (out : List ℕ) (done : Result (Unit {0}) FromHexError)
    → MatchResult given (λ bytes. (done ≡ Ok tt) × (out ≡ bytes)) (λ e. done ≡ Err e)
    → result_ok given ≡ (if is_ok done then Some out else None)
by_answer text (Ok bytes) out done h = rw h.0 (ap Some (sym h.1))
by_answer text (Err e) out done h = rw h refl

-- what was decoded, by how it ended
pub decoded : (text : List ℕ) (n : ℕ) (out : List ℕ) (done : Result (Unit {0}) FromHexError)
    → (length text / 2 == n) ≡ true
    → MatchResult (decode_sized text n) (λ bytes. (done ≡ Ok tt) × (out ≡ bytes)) (λ e. done ≡ Err e)
    → result_ok (decode_of text) ≡ (if is_ok done then Some out else None)
decoded text n out done e h = ap result_ok (sym (sized text n e)) ∙ by_answer text (decode_sized text n) out done h
