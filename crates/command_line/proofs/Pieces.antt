-- Pieces of a text: one more before a comma, and the last.
use Rattle.std.proofs.Common.{◌≡◌, ◌∙◌, ◌||◌, Bool, List, [], ◌∷◌, ◌++◌, map, ap, refl, sym}
use Rattle.std.specs.Borrow.{Bor}
use Rattle.std.specs.List.{list_any}
use Rattle.clap.proofs.CutLemmas.{Lacks, slice_split-Lacks, slice_split-at}
use Rattle.clap.specs.Walk.{Text}
use Rattle.command_line.specs.Lists.{pieces_of}

moved : (before : List (Bor Text)) (piece : Bor Text) (rest : List Text)
    → map (λ p. p.now) before ++ (piece.now ∷ rest) ≡ map (λ p. p.now) (before ++ piece ∷ []) ++ rest
moved [] piece rest = refl
moved (first ∷ before) piece rest = ap (λ ps. first.now ∷ ps) (moved before piece rest)

ended : (before : List (Bor Text)) (piece : Bor Text)
    → map (λ p. p.now) before ++ (piece.now ∷ []) ≡ map (λ p. p.now) (before ++ piece ∷ [])
ended [] piece = refl
ended (first ∷ before) piece = ap (λ ps. first.now ∷ ps) (ended before piece)

-- what stands before a comma is one more piece
pub one_more_piece : (text rest more : Text) (piece : Bor Text) (before after : List (Bor Text))
    → pieces_of text ≡ map (λ p. p.now) before ++ pieces_of rest → after ≡ before ++ piece ∷ []
    → rest ≡ piece.now ++ 44 ∷ more → Lacks 44 piece.now → pieces_of text ≡ map (λ p. p.now) after ++ pieces_of more
one_more_piece text rest more piece before after old is cut lacks =
    old ∙ ap (λ ps. map (λ p. p.now) before ++ ps) (ap pieces_of cut ∙ slice_split-at 44 piece.now more lacks)
    ∙ moved before piece (pieces_of more) ∙ ap (λ ps. map (λ p. p.now) ps ++ pieces_of more) (sym is)

-- what has no comma is the last piece
pub last_piece : (text : Text) (piece : Bor Text) (before after : List (Bor Text))
    → pieces_of text ≡ map (λ p. p.now) before ++ pieces_of piece.now → after ≡ before ++ piece ∷ [] → Lacks 44 piece.now
    → map (λ p. p.now) after ≡ pieces_of text
last_piece text piece before after old is lacks =
    ap (map (λ p. p.now)) is ∙ sym (ended before piece)
    ∙ ap (λ ps. map (λ p. p.now) before ++ ps) (sym (slice_split-Lacks 44 piece.now lacks)) ∙ sym old

-- a test of each element of a list that was made of another
pub any_of_map : {X Y : Type 0} (p : Y → Bool) (h : X → Y) (xs : List X) → list_any p (map h xs) ≡ list_any (λ x. p (h x)) xs
any_of_map p h [] = refl
any_of_map p h (x ∷ xs) = ap (λ b. p (h x) || b) (any_of_map p h xs)
