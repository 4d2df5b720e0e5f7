-- What a terminal has accepted, as text: each line begins with its port and stands between two bars.
use Rattle.std.specs.Prelude.{ℕ, ◌==◌, ◌&&◌, nat_le, Bool, if◌then◌else◌, List, [], ◌∷◌, ◌++◌, codes}
use Rattle.std.specs.Fmt.{decimal}
use Rattle.std.specs.List.{flat_map}
use Rattle.pair_events.specs.Printed as printed

abbrev pub is_printable : ℕ → Bool
is_printable byte = nat_le 0x20 byte && nat_le byte 0x7e

-- LF (10) ends a line; CR (13), a tab (9), a backslash (92) and other bytes that are not printable are escaped
abbrev pub byte_text : ℕ → ℕ → List ℕ
byte_text port byte =
    if byte == 10 then codes "|" ++ (10 ∷ (codes "port " ++ (decimal port ++ codes ": |")))
    else if byte == 13 then codes "\\r"
    else if byte == 9 then codes "\\t"
    else if byte == 92 then codes "\\\\"
    else if is_printable byte then byte ∷ []
    else codes "\\x" ++ printed.byte_text byte

abbrev pub escaped_text : ℕ → List ℕ → List ℕ
escaped_text port bytes = flat_map (byte_text port) bytes

abbrev pub terminal_text : ℕ → List ℕ → List ℕ
terminal_text port bytes = codes "port " ++ (decimal port ++ (codes ": |" ++ (escaped_text port bytes ++ codes "|")))
