-- The letters are those of the words.
use Rattle.std.proofs.Common.{◌++◌, ◌∙◌, ℕ, ap, sym, string_bytes}
use Rattle.std.specs.List.{flat_map}
use Rattle.std.proofs.lemmas.Iterator.{YieldsList-from_chars}
use Rattle.std.proofs.lemmas.Iterator.Consumers.{YieldsList-end}
use Rattle.std.proofs.lemmas.List.Folds.{flat_map-map}
use Rattle.sequence_diagram.specs.Escapes.{escaped}
use Rattle.sequence_diagram.proofs.drawing.escape_all.Goals as goal

pub returns : goal.returns
returns c =
    let t = YieldsList-end (YieldsList-from_chars c.args.words.now c.utf8.words cc) c.loop-letter.yielded _ c.loop-letter.yielded_by _ _ c.in-None.is c.next.ensures.steps in
    c.loop-letter.invariant
    ∙ ap (λ l. string_bytes c.args.text.now ++ l) (sym (flat_map-map escaped (λ (x : ℕ). x) c.loop-letter.yielded) ∙ ap (flat_map escaped) t.0)
