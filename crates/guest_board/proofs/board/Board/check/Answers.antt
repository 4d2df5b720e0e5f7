-- The write that is found is one that the controller waits for.
use Rattle.std.proofs.Common.{◌≡◌, Bor, Option, Some, None, refl, ap, ◌∙◌}
use Rattle.std.specs.Prelude.{is_some}
use Rattle.std.specs.Option.{option_copied}
use Rattle.guest_board.proofs.Numbered.{written-numbered}
use Rattle.guest_board.proofs.board.Board.check.Goals as goal

is_some-copied : {A : Type 0} (o : Option (Bor A)) → is_some o ≡ is_some (option_copied o)
is_some-copied None = refl
is_some-copied (Some a) = refl

pub returns-in-Written-clause-numbers : goal.returns-in-Written-clause-numbers
returns-in-Written-clause-numbers g c =
    let b = c.self.inside in
    rw c.in-Written.is
    (written-numbered b.wiring.devices b.pending.operations b.wiring.issued c.in-Written.number c.is_some.result
    c.due-in-Written.result c.self.invariant.board.awaited c.stands.ensures
    (c.is_some.ensures ∙ is_some-copied c.find.result ∙ ap is_some c.find.ensures.value) c.due-in-Written.ensures)
