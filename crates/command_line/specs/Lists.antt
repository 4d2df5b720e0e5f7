-- The lists that options are given: their pieces, and what each piece may be.
use Rattle.std.specs.Prelude.{◌==◌, ◌&&◌, Bool, true, List, [], ◌∷◌, bytes_eq, codes}
use Rattle.std.specs.List.{list_all, list_any, slice_split}
use Rattle.std.specs.Option.{option_map_or}
use Rattle.clap.specs.Walk.{Row, Text, first_of}

-- the pieces of a text, which stand between its commas (44), also the empty ones
abbrev pub pieces_of : Text → List Text
pieces_of text = slice_split (λ byte. byte == 44) text

-- the pieces of the list that an option was given, in their order; none if it was not given
abbrev pub pieces_in : List Row → Text → List Text
pieces_in rows option = option_map_or pieces_of (first_of option rows) []

-- the fates of a packet, what a host is at boot, and the drives, by their names
abbrev pub fates : List Text
fates = codes "pass" ∷ codes "drop" ∷ codes "twice" ∷ []

abbrev pub roles : List Text
roles = codes "primary" ∷ codes "backup" ∷ codes "spare" ∷ []

abbrev pub drives : List Text
drives = codes "0" ∷ codes "1" ∷ codes "2" ∷ codes "3" ∷ []

-- each piece is one of these names
abbrev pub are_among : List Text → List Text → Bool
are_among names pieces = list_all (λ piece. list_any (λ name. bytes_eq name piece) names) pieces

-- the text that an option was given is one of these names, if it was given
abbrev pub is_among : List Text → List Row → Text → Bool
is_among names rows option = option_map_or (λ text. list_any (λ name. bytes_eq name text) names) (first_of option rows) true

-- each option that is given names is given such as it has: each list has fates or drives alone
abbrev pub lists_hold : List Row → Bool
lists_hold rows = are_among fates (pieces_in rows (codes "link"))
    && (are_among drives (pieces_in rows (codes "images"))
    && (are_among drives (pieces_in rows (codes "saved"))
    && is_among roles rows (codes "role")))
