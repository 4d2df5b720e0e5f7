-- How a stream names a block that it has carried before, and does not carry it again. A body of 265 or 266 bytes, as that of a
-- part of an image, is a head and a block. Each end of a stream keeps the last block that crossed for each of 512 places, and
-- a frame whose block is the one kept crosses as its head alone, after the tag `r`.
use Rattle.std.specs.Prelude.{◌≡◌, ◌⊎◌, ℕ, ◌+◌, ◌*◌, ◌-◌, ◌%◌, ◌==◌, ◌&&◌, ◌||◌, Bool, if◌then◌else◌, List, [], ◌∷◌, ◌++◌, length, take, drop, slice_index, Option, Some, None}
use Rattle.std.specs.Str.{bytes_eq}
use Rattle.host_frames.specs.Frames.{framed}

-- the block that is kept for each place; it has no bytes if none is
abbrev pub Blocks : Type 0
Blocks = ℕ → List ℕ

abbrev pub no_blocks : Blocks
no_blocks place = []

-- ---- the block of a body

abbrev pub has_block : List ℕ → Bool
has_block body = length body == 265 || length body == 266

abbrev pub block_of : List ℕ → List ℕ
block_of body = drop (length body - 256) body

-- what comes before its block
abbrev pub head_of : List ℕ → List ℕ
head_of body = take (length body - 256) body

-- the low nine bits of the last two bytes of a head, which have the index of a part
abbrev pub place_of : List ℕ → ℕ
place_of head = slice_index head (length head - 2) % 2 * 256 + slice_index head (length head - 1)

-- ---- what an end keeps

abbrev pub with_block : Blocks → ℕ → List ℕ → Blocks
with_block blocks place block other = if other == place then block else blocks other

-- the block of a body that crosses is kept for its place
abbrev pub kept : Blocks → List ℕ → Blocks
kept blocks body = if has_block body then with_block blocks (place_of (head_of body)) (block_of body) else blocks

-- for want of memory none is, nor the one before
abbrev pub forgotten : Blocks → List ℕ → Blocks
forgotten blocks body = if has_block body then with_block blocks (place_of (head_of body)) [] else blocks

-- whether the block of a body is the one that is kept for its place
abbrev pub is_kept : Blocks → List ℕ → Bool
is_kept blocks body = has_block body && bytes_eq (blocks (place_of (head_of body))) (block_of body)

-- ---- writing

-- the body of a frame
abbrev pub body_in : List ℕ → List ℕ
body_in frame = drop 4 frame

-- a body whose block is kept, without it
abbrev pub short_body : List ℕ → List ℕ
short_body body = 0x72 ∷ head_of body

-- a frame as it crosses the stream
abbrev pub shortened : Blocks → List ℕ → List ℕ
shortened blocks frame = if is_kept blocks (body_in frame) then framed (short_body (body_in frame)) else frame

-- what crosses for these frames, one after another, with the blocks that are kept before and after
abbrev pub Shortens : Blocks → List (List ℕ) → List (List ℕ) → Blocks → Type 0
Shortens old [] [] new = new ≡ old
Shortens old (frame ∷ frames) (wire ∷ wires) new =
    (wire ≡ shortened old frame)
    × ((next : Blocks) × ((next ≡ kept old (body_in wire)) ⊎ (next ≡ forgotten old (body_in wire)))
    × Shortens next frames wires new)
Shortens old _ _ new = ⊥

-- ---- reading

-- a head, with a block of its place
abbrev pub is_known : Blocks → List ℕ → Bool
is_known blocks head = (length head == 9 || length head == 10) && length (blocks (place_of head)) == 256

-- the body that is handed on when this one has crossed; none if it names a block that is not kept
abbrev pub expanded : Blocks → List ℕ → Option (List ℕ)
expanded blocks [] = Some []
expanded blocks (tag ∷ head) =
    if tag == 0x72
    then (if is_known blocks head then Some (head ++ blocks (place_of head)) else None)
    else Some (tag ∷ head)

-- what is handed on of these bodies that cross, one after another, with the blocks that are kept before and after
abbrev pub Expands : Blocks → List (List ℕ) → List (List ℕ) → Blocks → Type 0
Expands old [] [] new = new ≡ old
Expands old (wire ∷ wires) (body ∷ bodies) new =
    (expanded old wire ≡ Some body) × Expands (kept old wire) wires bodies new
Expands old _ _ new = ⊥
