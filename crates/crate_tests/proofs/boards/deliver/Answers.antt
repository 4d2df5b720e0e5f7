use Rattle.std.proofs.Common.{sym, ap, ◌∙◌}
use Rattle.log_channel.specs.Packet.{packet_at}
use Rattle.crate_tests.proofs.LoggedRun.{holds_next}
use Rattle.crate_tests.proofs.boards.deliver.Goals as goal

pub returns-clause-holds : goal.returns-clause-holds
returns-clause-holds g c =
    holds_next c.args.log.now c.args.receiver.now c.on_log.new.self c.args.index c.in-Some.entry c.deref-2.result.now
    c.on_log.result c.requires.first c.requires.generation c.requires.holds
    (sym c.get.ensures ∙ sym c.copied.ensures ∙ c.in-Some.is)
    (ap packet_at (c.deref-2.ensures.value ∙ sym c.deref.ensures.value) ∙ c.expect_read.ensures) c.on_log.ensures
