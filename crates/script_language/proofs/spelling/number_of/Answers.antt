use Rattle.std.proofs.Common.{rules}
use Rattle.script_language.proofs.Numerals.{decimal_is, is_text, no_sign}
use Rattle.script_language.proofs.spelling.number_of.Goals as goal

pub returns-in_err-text : goal.returns-in_err-text
returns-in_err-text c = decimal_is c.args.word.now c.from_residual.result (search (rules, no_sign, is_text))

pub returns : goal.returns
returns c = decimal_is c.args.word.now c.ok-2.result (search (rules, no_sign, is_text))
