-- The script was typed, and then keys were heard.
use Rattle.std.proofs.Common.{subst}
use Rattle.command_console.specs.Hearing.{LinesType}
use Rattle.command_console.proofs.hearing.hear.Goals as goal

pub returns : goal.returns
returns g c = record {
  first = c.type_lines-is_typed.new.first;
  second = c.type_lines-is_typed.new.second;
  typed = subst (λ l. LinesType l c.args.hearing.listener.first c.args.hearing.listener.second
      c.type_lines-is_typed.new.first c.type_lines-is_typed.new.second) c.deref.ensures.value
      (c.type_lines-is_typed.ensures c.if-not-is_typed.false);
  listens = c.listen-listener.ensures;
}
