-- The first line that a pair on threads does not take, line by line.
use Rattle.std.proofs.Common.{◌≡◌, ℕ, ◌+◌, List, [], ◌∷◌, true, false, Some, None, refl}
use Rattle.script_language.specs.Live.{first_unfit, fits}
use Rattle.script_language.specs.Text.{text_of}

pub none_left : (number : ℕ) (lines : List (List ℕ)) → lines ≡ [] → first_unfit number lines ≡ None
unfolding first_unfit
none_left number [] e = refl
none_left number (line ∷ lines) e = cc

pub line_fits : (number : ℕ) (all : List (List ℕ)) (line : List ℕ) (lines : List (List ℕ)) → all ≡ line ∷ lines
    → fits (text_of line) ≡ true → first_unfit number all ≡ first_unfit (number + 1) lines
unfolding first_unfit
line_fits number all line lines e h = rw e (rw h refl)

pub line_unfit : (number : ℕ) (all : List (List ℕ)) (line : List ℕ) (lines : List (List ℕ)) → all ≡ line ∷ lines
    → fits (text_of line) ≡ false → first_unfit number all ≡ Some number
unfolding first_unfit
line_unfit number all line lines e h = rw e (rw h refl)
