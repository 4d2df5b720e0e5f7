-- What a session says after an answer: that keys may get lost, or that no more events are kept for pictures.
use Rattle.std.specs.Prelude.{ℕ, nat_le, nat_lt, Bool, true, false, not, ◌&&◌, List, [], ◌∷◌, ◌++◌, codes}
use Rattle.std.specs.Fmt.{decimal}
use Rattle.shell_language.specs.Texts.{Row, Text}

-- a guest that has not run yet has not set up its two ports
abbrev pub is_early : ℕ → Bool → Bool
is_early port has_run = nat_lt port 2 && not has_run

abbrev pub early_row : Bool → ℕ → List Row
early_row true port =
    Text (codes "  the guest has not run yet: keys that it takes before it resets port " ++ (decimal port ++ codes " are lost")) ∷ []
early_row false port = []

-- the first 200,000 events are kept
abbrev pub is_full : ℕ → Bool
is_full count = nat_le 200000 count

abbrev pub full_row : Bool → List Row
full_row true =
    Text (codes "  the first " ++ (decimal 200000 ++ codes " events are kept for pictures; later ones are in none")) ∷ []
full_row false = []
