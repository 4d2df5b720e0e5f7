use Rattle.std.proofs.Common.{ℕ, List, ◌++◌, Ok, ap, ◌∙◌, arith}
use Rattle.log_channel.specs.Packet.{packet_bytes}
use Rattle.log_channel.specs.declared.packet.Packet.TheVariants.{Log}
use Rattle.crate_tests.proofs.Held.{held_next}
use Rattle.crate_tests.proofs.replays.hold.Goals as goal

pub returns : goal.returns
returns g c =
    held_next c.args.receiver.now c.on_log.new.self c.args.entry c.args.generation c.held-index.result
    c.deref.result.now c.on_log.result c.packets_spell_one_way.ensures.again c.requires.first (omega arith)
    (omega arith) c.requires.entry c.requires.generation c.held-index.ensures.held
    (c.deref.ensures.value ∙ c.in-Ok.ensures.ok
    ∙ ap (λ (front : List ℕ). front ++ packet_bytes (Log c.args.generation c.held-index.result c.args.entry))
    c.new-bytes.ensures.items)
    (c.in-Ok-true.is ∙ ap Ok c.in-Ok-true.field-0-test) c.on_log.ensures
