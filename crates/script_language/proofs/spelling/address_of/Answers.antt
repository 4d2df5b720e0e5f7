use Rattle.std.proofs.Common.{rules}
use Rattle.script_language.proofs.Numerals.{hexadecimal_is, last_digits}
use Rattle.script_language.proofs.spelling.address_of.Goals as goal

pub returns-in_err-low : goal.returns-in_err-low
returns-in_err-low c = hexadecimal_is 4 c.args.word.now c.from_residual-in_err-low.result (search (rules, last_digits))
