-- The bytes that words spell, read one after another.
use Rattle.std.proofs.Common.{◌≡◌, ℕ, List, [], ◌∷◌, ◌++◌, Option, Some, None, refl, sym, ap, ◌∙◌, append_assoc}
use Rattle.std.specs.Option.{option_map}
use Rattle.script_language.specs.Words.{bytes_of, hexadecimal_of}

abbrev pub with_front : List ℕ → Option (List ℕ) → Option (List ℕ)
with_front front others = option_map (λ (others : List ℕ). front ++ others) others

regroup : (front : List ℕ) (byte : ℕ) (others : Option (List ℕ)) → with_front (front ++ byte ∷ []) others ≡ with_front front (option_map (λ (others : List ℕ). byte ∷ others) others)
regroup front byte None = refl
regroup front byte (Some others) = ap (λ (all : List ℕ). Some all) (append_assoc front (byte ∷ []) others)

consed : (byte : ℕ) (words : List (List ℕ)) (word : List ℕ) (others : Option (List ℕ)) → bytes_of words ≡ others → hexadecimal_of 2 word ≡ Some byte
    → bytes_of (word ∷ words) ≡ option_map (λ (others : List ℕ). byte ∷ others) others
consed byte words word None e h = rw h (rw e refl)
consed byte words word (Some others) e h = rw h (rw e refl)

-- one more byte was read
pub one_more : (front : List ℕ) (byte : ℕ) (word : List ℕ) (words : List (List ℕ)) → hexadecimal_of 2 word ≡ Some byte
    → with_front (front ++ byte ∷ []) (bytes_of words) ≡ with_front front (bytes_of (word ∷ words))
one_more front byte word words h =
    regroup front byte (bytes_of words) ∙ ap (with_front front) (sym (consed byte words word (bytes_of words) refl h))

-- a word is no byte
pub no_byte : (word : List ℕ) (words : List (List ℕ)) → hexadecimal_of 2 word ≡ None → bytes_of (word ∷ words) ≡ None
no_byte word words h = rw h refl

pub none_after : (front : List ℕ) (others : Option (List ℕ)) → with_front front others ≡ None → others ≡ None
none_after front None e = refl
none_after front (Some others) e = cc
