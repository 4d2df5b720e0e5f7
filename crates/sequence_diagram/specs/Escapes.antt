-- Words as they are written between two tags of a picture.
use Rattle.std.specs.Prelude.{ℕ, ◌==◌, if◌then◌else◌, List, codes}
use Rattle.std.specs.Char.{encode_utf8}
use Rattle.std.specs.List.{flat_map}
use Rattle.std.specs.Str.{chars}

-- a letter: 38 is the ampersand, 60 and 62 are the brackets of a tag
abbrev pub escaped : ℕ → List ℕ
escaped letter =
    if letter == 38 then codes "&amp;" else
    (if letter == 60 then codes "&lt;" else
    (if letter == 62 then codes "&gt;" else encode_utf8 letter))

-- all letters of some words
abbrev pub escaped_all : List ℕ → List ℕ
escaped_all words = flat_map escaped (chars words)
