-- The pieces so far, and those of the rest, are all of the text; the rest gets shorter.
use Rattle.std.proofs.Common.{◌≡◌, ◌++◌, length, map}
use denote.Shadow.{shadow}
use denote.Text.{Utf8}
use Rattle.command_line.specs.Lists.{pieces_of}
use Rattle.command_line.proofs.lists.pieces_of.Given as goal

abbrev pub invariant-cuts : goal.invariant-cuts
invariant-cuts l = shadow (Utf8 l.rest) × (pieces_of l.text ≡ map (λ piece. piece.now) l.pieces.items ++ pieces_of l.rest)

abbrev pub decreases-cuts : goal.decreases-cuts
decreases-cuts l = length l.rest
