use Rattle.std.proofs.Common.{◌≡◌, map, length}
use Rattle.shell_language.specs.Lines.{own_among}
use Rattle.shell_language.proofs.own.OwnWord.among.Given as goal

abbrev pub invariant-rows : goal.invariant-rows
invariant-rows l =
    own_among (map (λ row. (row.0.now, row.1)) l.rest) l.word
    ≡ own_among (map (λ row. (row.0.now, row.1)) l.fn.rows) l.word

abbrev pub decreases-rows : goal.decreases-rows
decreases-rows l = length l.rest
