-- One piece that is no name is enough.
use Rattle.std.proofs.Common.{◌∙◌, map, sym}
use Rattle.std.proofs.lemmas.List.Folds.{list_all-map, list_all_at}
use Rattle.std.specs.List.{list_any}
use Rattle.std.specs.Prelude.{bytes_eq}
use Rattle.command_line.proofs.lists.are_among.Goals as goal

pub returns-then-not-is_one_of : goal.returns-then-not-is_one_of
returns-then-not-is_one_of c =
    let names = map (λ name. name.now) c.args.names.now in
    sym (list_all-map (λ piece. list_any (λ name. bytes_eq name piece) names) (λ piece. piece.now) c.args.pieces.now
    ∙ list_all_at (λ piece. list_any (λ name. bytes_eq name piece.now) names) c.args.pieces.now c.loop-piece.piece-index _
    c.loop-piece-test.true (sym c.is_one_of.ensures ∙ c.if-not-is_one_of.true))
