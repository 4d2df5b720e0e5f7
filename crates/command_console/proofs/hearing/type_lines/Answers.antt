-- Line by line.
use Rattle.std.proofs.Common.{subst}
use Rattle.command_console.proofs.Typing.{first_and_others, none_left, types_more, types_none}
use Rattle.command_console.specs.Hearing.{LinesType}
use Rattle.command_console.proofs.hearing.type_lines.Goals as goal

pub lines-preserved : goal.lines-preserved
lines-preserved g c = λ first second later.
    c.lines.invariant first second (subst (λ l. LinesType l c.lines.first c.lines.second first second)
    (first_and_others c.lines.rest.now _ c.in-len1-up.len_at_least)
    (types_more _ _ c.lines.first c.lines.second c.type_line.new.first c.type_line.new.second first second
    (c.type_line.ensures c.if-not-type_line.false) later))

pub returns : goal.returns
returns g c = λ is_true. c.lines.invariant c.lines.first c.lines.second
    (subst (λ l. LinesType l c.lines.first c.lines.second c.lines.first c.lines.second)
    (none_left c.lines.rest.now c.in_default.len_below) (types_none c.lines.first c.lines.second))
