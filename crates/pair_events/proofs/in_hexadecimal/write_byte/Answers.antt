use Rattle.std.proofs.Common.{rules, true}
use Rattle.std.proofs.lemmas.Fmt.{hex_byte}
use Rattle.std.proofs.Output.{has_written_of_eq}
use Rattle.pair_events.proofs.in_hexadecimal.write_byte.Goals as goal

pub returns : goal.returns
returns g c plain ok = has_written_of_eq _ _ _ _ _ (hex_byte true c.args.byte (search rules)) (search rules)
