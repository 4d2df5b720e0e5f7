use Rattle.std.proofs.Common.{◌≡◌, map, length}
use Rattle.console_terminal.specs.Commands.{keyword_among}
use Rattle.console_terminal.proofs.command.keyword_among.Given as goal

abbrev pub invariant-rows : goal.invariant-rows
invariant-rows l =
    keyword_among (map (λ row. (row.0.now, row.1)) l.rest) l.word
    ≡ keyword_among (map (λ row. (row.0.now, row.1)) l.fn.rows) l.word

abbrev pub decreases-rows : goal.decreases-rows
decreases-rows l = length l.rest
