-- clap reads the words by the table of the program.
use Rattle.std.proofs.Common.{map, refl, string_bytes}
use Rattle.command_line.proofs.Orders.{fault_by, faultless_by, found_by}
use Rattle.command_line.proofs.options.request_of.Goals as goal

pub request_in-requires-clause-found : goal.request_in-requires-clause-found
request_in-requires-clause-found c = found_by c.in_ok-pair_command.field-0 (map (λ word. string_bytes word) c.args.arguments.now)
    c.in-Ok.matches (c.in_ok-pair_command.ensures refl) c.in-Ok.ensures.matches

pub request_in-requires-clause-faultless : goal.request_in-requires-clause-faultless
request_in-requires-clause-faultless c =
    faultless_by c.in_ok-pair_command.field-0 (map (λ word. string_bytes word) c.args.arguments.now)
    (c.in_ok-pair_command.ensures refl) c.try_get_matches_from.result c.try_get_matches_from.ensures.kinds c.in-Ok.matches c.in-Ok.is

pub help_in-requires : goal.help_in-requires
help_in-requires c =
    fault_by c.in_ok-pair_command.field-0 (map (λ word. string_bytes word) c.args.arguments.now)
    (c.in_ok-pair_command.ensures refl) c.try_get_matches_from.result c.try_get_matches_from.ensures.kinds c.in-Err.error c.in-Err.is
