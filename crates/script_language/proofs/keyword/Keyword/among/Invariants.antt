use Rattle.std.proofs.Common.{◌≡◌, map, length}
use Rattle.script_language.specs.Grammar.{keyword_among}
use Rattle.script_language.proofs.keyword.Keyword.among.Given as goal

abbrev pub invariant-rows : goal.invariant-rows
invariant-rows l =
    keyword_among (map (λ row. (row.0.now, row.1)) l.rest) l.word
    ≡ keyword_among (map (λ row. (row.0.now, row.1)) l.fn.rows) l.word

abbrev pub decreases-rows : goal.decreases-rows
decreases-rows l = length l.rest
