-- Lines that end among bytes, and among those that come after others.
use Rattle.std.proofs.Common.{◌≡◌, ℕ, ◌++◌, ◌∷◌, ◌||◌, ◌∙◌, Bool, true, false, List, [], refl, sym, ap, length, append-nil, append_assoc, arith}
use Rattle.std.proofs.lemmas.Bool.{or_parts}
use Rattle.std.specs.Prelude.{if◌then◌else◌}
use Rattle.pair_shell.specs.Lines.{after_byte, byte_ends, ends_in, heard, heard_at, heard_in, kept_in, last_line}

-- the next byte ends a line that is `quit`
pub ends_here : (line bytes rest : List ℕ) (byte : ℕ) → bytes ≡ byte ∷ rest → byte_ends line byte ≡ true → ends_in line bytes ≡ true
ends_here line bytes rest byte is ends = ap (ends_in line) is ∙ ap (λ b. b || ends_in (after_byte line byte) rest) ends

-- or it does not
pub ends_later : (line kept bytes rest : List ℕ) (byte : ℕ) → bytes ≡ byte ∷ rest → byte_ends line byte ≡ false
    → kept ≡ after_byte line byte → ends_in kept rest ≡ ends_in line bytes
ends_later line kept bytes rest byte is not keeps = ap (λ k. ends_in k rest) keeps
    ∙ sym (ap (λ b. b || ends_in (after_byte line byte) rest) not) ∙ sym (ap (ends_in line) is)

pub keeps_later : (line kept bytes rest : List ℕ) (byte : ℕ) → bytes ≡ byte ∷ rest → kept ≡ after_byte line byte
    → kept_in kept rest ≡ kept_in line bytes
keeps_later line kept bytes rest byte is keeps = ap (λ k. kept_in k rest) keeps ∙ sym (ap (kept_in line) is)

-- the next byte ends the session, or the others go on
pub heard_here : (line bytes rest : List ℕ) (byte : ℕ) → bytes ≡ byte ∷ rest → byte_ends line byte ≡ true
    → heard_in line bytes ≡ heard_at line byte ++ []
heard_here line bytes rest byte is ends = ap (heard_in line) is
    ∙ ap (λ b. heard_at line byte ++ (if b then [] else heard_in (after_byte line byte) rest)) ends

pub heard_later : (line kept bytes rest : List ℕ) (byte : ℕ) → bytes ≡ byte ∷ rest → byte_ends line byte ≡ false
    → kept ≡ after_byte line byte → heard_in line bytes ≡ heard_at line byte ++ heard_in kept rest
heard_later line kept bytes rest byte is not keeps = ap (heard_in line) is
    ∙ ap (λ b. heard_at line byte ++ (if b then [] else heard_in (after_byte line byte) rest)) not
    ∙ ap (λ k. heard_at line byte ++ heard_in k rest) (sym keeps)

-- no byte is left, or no line
pub heard_none : (line rest : List ℕ) → length rest ≡ 0 → heard_in line rest ≡ []
heard_none line [] none = refl
heard_none line (byte ∷ bytes) none = absurd (omega (arith, none))

pub last_none : (line : List ℕ) → length line ≡ 0 → last_line line ≡ []
last_none [] none = refl
last_none (byte ∷ line) none = absurd (omega (arith, none))

-- ---- bytes after others

-- what is kept of them
pub kept_on : (line bytes more : List ℕ) → kept_in line (bytes ++ more) ≡ kept_in (kept_in line bytes) more
kept_on line [] more = refl
kept_on line (byte ∷ bytes) more = kept_on (after_byte line byte) bytes more

-- if the first end no session, the others do or do not
pub ends_on : (line bytes more : List ℕ) → ends_in line bytes ≡ false → ends_in line (bytes ++ more) ≡ ends_in (kept_in line bytes) more
ends_on line [] more not = refl
ends_on line (byte ∷ bytes) more not =
    ap (λ b. b || ends_in (after_byte line byte) (bytes ++ more)) (or_parts (byte_ends line byte) (ends_in (after_byte line byte) bytes) not).0
    ∙ ends_on (after_byte line byte) bytes more (or_parts (byte_ends line byte) (ends_in (after_byte line byte) bytes) not).1

-- and their lines come after those of the first
pub heard_on : (line bytes more : List ℕ) → ends_in line bytes ≡ false
    → heard_in line (bytes ++ more) ≡ heard_in line bytes ++ heard_in (kept_in line bytes) more
heard_on line [] more not = refl
heard_on line (byte ∷ bytes) more not =
    let after = after_byte line byte in
    let e = or_parts (byte_ends line byte) (ends_in after bytes) not in
    ap (λ b. heard_at line byte ++ (if b then [] else heard_in after (bytes ++ more))) e.0
    ∙ ap (λ l. heard_at line byte ++ l) (heard_on after bytes more e.1)
    ∙ sym (append_assoc (heard_at line byte) (heard_in after bytes) (heard_in (kept_in after bytes) more))
    ∙ ap (λ b. (heard_at line byte ++ (if b then [] else heard_in after bytes)) ++ heard_in (kept_in after bytes) more) (sym e.0)

-- if the first end it, nothing after them is heard
ended-at : (line bytes more : List ℕ) (byte : ℕ) (test : Bool) → byte_ends line byte ≡ test
    → (ends_in (after_byte line byte) bytes ≡ true
    → (ends_in (after_byte line byte) (bytes ++ more) ≡ true)
    × (heard_in (after_byte line byte) (bytes ++ more) ≡ heard_in (after_byte line byte) bytes))
    → (byte_ends line byte || ends_in (after_byte line byte) bytes) ≡ true
    → (ends_in line (byte ∷ (bytes ++ more)) ≡ true) × (heard_in line (byte ∷ (bytes ++ more)) ≡ heard_in line (byte ∷ bytes))
ended-at line bytes more byte true e rest ends =
    let after = after_byte line byte in (
      ap (λ b. b || ends_in after (bytes ++ more)) e,
      ap (λ b. heard_at line byte ++ (if b then [] else heard_in after (bytes ++ more))) e
          ∙ ap (λ b. heard_at line byte ++ (if b then [] else heard_in after bytes)) (sym e),
    )
ended-at line bytes more byte false e rest ends =
    let after = after_byte line byte in
    let later = rest (ap (λ b. b || ends_in after bytes) (sym e) ∙ ends) in (
      ap (λ b. b || ends_in after (bytes ++ more)) e ∙ later.0,
      ap (λ b. heard_at line byte ++ (if b then [] else heard_in after (bytes ++ more))) e
          ∙ ap (λ l. heard_at line byte ++ l) later.1
          ∙ ap (λ b. heard_at line byte ++ (if b then [] else heard_in after bytes)) (sym e),
    )

ended : (line bytes more : List ℕ) → ends_in line bytes ≡ true
    → (ends_in line (bytes ++ more) ≡ true) × (heard_in line (bytes ++ more) ≡ heard_in line bytes)
ended line [] more ends = absurd (cc)
ended line (byte ∷ bytes) more ends =
    ended-at line bytes more byte (byte_ends line byte) refl (ended (after_byte line byte) bytes more) ends

-- if one of the first is `quit`, all that is heard of an input is heard of them
pub quits_at : (bytes rest : List ℕ) → ends_in [] bytes ≡ true → heard (bytes ++ rest) ≡ heard_in [] bytes
quits_at bytes rest ends =
    let h = ended [] bytes rest ends in
    ap (λ b. heard_in [] (bytes ++ rest) ++ (if b then [] else last_line (kept_in [] (bytes ++ rest)))) h.0
    ∙ append-nil (heard_in [] (bytes ++ rest)) ∙ h.1
