use Rattle.std.proofs.Common.{refl}
use Rattle.guest_lockstep.specs.declared.reads.Reads.TheVariants.{Logged}
use Rattle.guest_board.specs.Inputs.{some_altair}
use Rattle.crate_tests.proofs.LoggedRun.{repeats, when_ok}
use Rattle.crate_tests.proofs.boards.record_all.Goals as goal

pub returns : goal.returns
returns g c =
    when_ok c.show.result
    (repeats some_altair Logged c.args.recorder.now.board.guest c.args.recorder.now.board.guest
    c.make_all.new.recorder.board.guest c.args.recorder.now.log c.make_all.new.recorder.log c.log.result.now
    c.deliver_all.new.receiver refl c.requires.log c.make_all.ensures.records c.log.ensures c.deliver_all.ensures.holds)
