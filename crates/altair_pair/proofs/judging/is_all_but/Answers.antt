-- If the accepted bytes are the first ones, what is left after them is the only rest.
use Rattle.std.proofs.Common.{Some, None, true≢false, sym}
use Rattle.std.proofs.lemmas.Bool.Decides.{Decides-eqb}
use Rattle.std.proofs.lemmas.Slice.Eq.{strip_prefix_is}
use Rattle.altair_pair.proofs.Fronts.{all_but_few, rest_is_few}
use Rattle.altair_pair.proofs.judging.is_all_but.Goals as goal

pub returns-in-Some : goal.returns-in-Some
returns-in-Some c =
    let all = strip_prefix_is Decides-eqb c.args.output.now c.args.accepted.now (Some c.in-Some.missing)
    c.in-Some.ensures.cases in
    (all_but_few c.args.window _ _ _ all, rest_is_few c.args.window _ _ _ all)

pub returns-in-None : goal.returns-in-None
returns-in-None c =
    let none = strip_prefix_is Decides-eqb c.args.output.now c.args.accepted.now None c.in-None.ensures.cases in
    ((λ no. absurd (true≢false (sym no))), λ but. absurd (none but.0 (sym but.1)))
