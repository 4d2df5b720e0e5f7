use Rattle.std.proofs.Common.{sym, ap, ◌∙◌, eqb, cond, ℕ, ◌+◌, Some}
use Rattle.event_callbacks.specs.declared.operations.Operation.{Operation}
use Rattle.pair_rule.specs.Knowledge.{accepted_after, arrives}
use Rattle.pair_rule.proofs.ListsThatGrow.{more_accepted}
use Rattle.pair_rule.proofs.terminal.accepted_with_one.Goals as goal

pub returns-in-Byte : goal.returns-in-Byte
returns-in-Byte c arrivals e = c.accepted_then.ensures ∙ ap (λ (n : ℕ). cond (eqb c.in-Byte.number (n + 1)) (n + 1) n) e ∙ sym
    (more_accepted 0 arrivals record { number = c.in-Byte.number; byte = c.in-Byte.byte })
    ∙ ap (λ (o : Operation). accepted_after 0 (arrives (Some o) arrivals)) (sym c.in-Byte.is)
