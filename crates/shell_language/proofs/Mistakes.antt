-- What is wrong with a line, from what is found of it.
use Rattle.std.proofs.Common.{◌≡◌, ℕ, ◌-◌, ◌∙◌, List, ◌∷◌, Option, Some, length, ap, sym}
use Rattle.std.specs.Prelude.{map, slice_get}
use Rattle.std.specs.Option.{option_map}
use Rattle.std.proofs.lemmas.List.{length-map}
use Rattle.std.proofs.lemmas.Option.{slice_get-map}
use Rattle.shell_language.specs.Forms.{Shape, shapes, word_of}
use Rattle.shell_language.specs.Mistakes.{Flaw, flaw_among, flaw_in}
use Rattle.shell_language.specs.declared.kind.Kind.{Kind}

-- all forms
pub among_all : (all words : List (List ℕ)) (first : List ℕ) (among : List Shape) (flaw : Flaw) → all ≡ first ∷ words → among ≡ shapes
    → flaw ≡ flaw_among among first words → flaw ≡ flaw_in all
among_all all words first among flaw are is h =
    h ∙ ap (λ (s : List Shape). flaw_among s first words) is ∙ sym (ap flaw_in are)

-- the last of some kinds
pub last_word_is : (kinds : List Kind) (last : Option Kind) → last ≡ slice_get kinds (length kinds - 1)
    → option_map word_of last ≡ slice_get (map word_of kinds) (length (map word_of kinds) - 1)
last_word_is kinds last is =
    ap (option_map word_of) is ∙ sym (slice_get-map word_of kinds (length kinds - 1))
    ∙ ap (λ n. slice_get (map word_of kinds) (n - 1)) (sym (length-map kinds word_of))
