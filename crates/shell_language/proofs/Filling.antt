-- Whether the words that are left fill a sector, after some bytes.
use Rattle.std.proofs.Common.{◌≡◌, ℕ, ◌+◌, ◌<◌, ◌≤◌, Bool, true, false, List, [], ◌∷◌, length, Option, Some, None, refl, ap, arith, zero-add}
use Rattle.std.specs.Prelude.{◌&&◌, is_none, nat_lt, nat_le}
use Rattle.std.proofs.lemmas.Bool.Decides.{nat_tests}
use Rattle.script_language.specs.Words.{bytes_of, hexadecimal_of}
use Rattle.shell_language.specs.Saying.{fill_sector}

unfoldable pub fit_after : ℕ → Option (List ℕ) → Bool
fit_after count None = false
fit_after count (Some bytes) = nat_lt 0 (count + length bytes) && nat_le (count + length bytes) 137

unfoldable pub fit_words : ℕ → List (List ℕ) → Bool
fit_words count words = fit_after count (bytes_of words)

counted : (count byte : ℕ) (bytes : List ℕ) → count + length (byte ∷ bytes) ≡ count + 1 + length bytes
counted count byte bytes = grind arith

later : (count : ℕ) (word : List ℕ) (words : List (List ℕ)) (first : Option ℕ) (others : Option (List ℕ))
    → bytes_of words ≡ others → hexadecimal_of 2 word ≡ first → is_none first ≡ false
    → fit_after count (bytes_of (word ∷ words)) ≡ fit_after (count + 1) others
unfolding fit_after
later count word words None others e h some = absurd (cc)
later count word words (Some byte) None e h some = rw h (rw e refl)
later count word words (Some byte) (Some bytes) e h some =
    rw h (rw e (ap (λ n. nat_lt 0 n && nat_le n 137) (counted count byte bytes)))

-- one more byte
pub fit-byte : (count : ℕ) (word : List ℕ) (words : List (List ℕ)) → is_none (hexadecimal_of 2 word) ≡ false
    → fit_words count (word ∷ words) ≡ fit_words (count + 1) words
unfolding fit_words
fit-byte count word words some = later count word words (hexadecimal_of 2 word) (bytes_of words) refl refl some

no_byte : (count : ℕ) (word : List ℕ) (words : List (List ℕ)) (first : Option ℕ) → hexadecimal_of 2 word ≡ first
    → is_none first ≡ true → fit_after count (bytes_of (word ∷ words)) ≡ false
unfolding fit_after
no_byte count word words None h none = rw h refl
no_byte count word words (Some byte) h none = absurd (cc)

-- a word that is no byte
pub fit-no_byte : (count : ℕ) (word : List ℕ) (words : List (List ℕ)) → is_none (hexadecimal_of 2 word) ≡ true
    → fit_words count (word ∷ words) ≡ false
unfolding fit_words
fit-no_byte count word words none = no_byte count word words (hexadecimal_of 2 word) refl none

over : (n : ℕ) → 137 < n → (nat_lt 0 n && nat_le n 137) ≡ false
over n more = grind (arith, nat_tests)

longer : (byte : ℕ) (bytes : List ℕ) → 137 < 137 + length (byte ∷ bytes)
longer byte bytes = grind arith

full : (word : List ℕ) (words : List (List ℕ)) (first : Option ℕ) (others : Option (List ℕ))
    → bytes_of words ≡ others → hexadecimal_of 2 word ≡ first → fit_after 137 (bytes_of (word ∷ words)) ≡ false
unfolding fit_after
full word words None others e h = rw h refl
full word words (Some byte) None e h = rw h (rw e refl)
full word words (Some byte) (Some bytes) e h =
    rw h (rw e (over (137 + length (byte ∷ bytes)) (longer byte bytes)))

-- a word more than a sector has bytes
pub fit-full : (count : ℕ) (word : List ℕ) (words : List (List ℕ)) → count ≡ 137 → fit_words count (word ∷ words) ≡ false
unfolding fit_words
fit-full count word words e = rw e (full word words (hexadecimal_of 2 word) (bytes_of words) refl refl)

within : (count : ℕ) → count ≤ 137 → (nat_lt 0 (count + 0) && nat_le (count + 0) 137) ≡ nat_lt 0 count
within count few = grind (arith, nat_tests)

-- no word is left
pub fit-end : (count : ℕ) → count ≤ 137 → fit_words count [] ≡ nat_lt 0 count
unfolding fit_words fit_after
fit-end count few = within count few

none_yet : (bytes : Option (List ℕ)) → fit_after 0 bytes ≡ fill_sector bytes
unfolding fit_after
none_yet None = refl
none_yet (Some bytes) = rw zero-add refl

-- no word was taken yet
pub fit-start : (words : List (List ℕ)) → fit_words 0 words ≡ fill_sector (bytes_of words)
unfolding fit_words
fit-start words = none_yet (bytes_of words)

pub ruleset fitting = (fit-byte, fit-no_byte, fit-full, fit-end, fit-start)
