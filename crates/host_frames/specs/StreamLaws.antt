-- What is left out at one end of a stream is there again at the other.
use Rattle.std.specs.Prelude.{◌≡◌, ◌⊎◌, ℕ, List, [], ◌∷◌, map, Some}
use Rattle.std.specs.List.{AllByRecursion}
use Rattle.host_frames.specs.Frames.{framed}
use Rattle.host_frames.specs.Blocks.{Blocks, Expands, Shortens, body_in, expanded, shortened}

-- what the end that writes keeps, the end that reads keeps too
abbrev pub Knows : Blocks → Blocks → Type 0
Knows reader writer = (place : ℕ) → (writer place ≡ []) ⊎ (reader place ≡ writer place)

-- a body without the tag of short ones
abbrev pub IsPlain : List ℕ → Type 0
IsPlain body = (head : List ℕ) → body ≡ 0x72 ∷ head → ⊥

-- a body comes out as it was
abbrev pub ComesBack : Type 0
ComesBack = (reader writer : Blocks) (body : List ℕ) → Knows reader writer → IsPlain body →
    expanded reader (body_in (shortened writer (framed body))) ≡ Some body

-- and so do bodies one after another, and the end that reads still keeps what the other one does
abbrev pub AllComeBack : Type 0
AllComeBack = (reader writer new : Blocks) (bodies wires : List (List ℕ)) → Knows reader writer →
    AllByRecursion IsPlain bodies → Shortens writer (map framed bodies) wires new →
    (last : Blocks) × Expands reader (map body_in wires) bodies last × Knows last new
