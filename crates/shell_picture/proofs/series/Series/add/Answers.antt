-- The event of one more number comes after those before it.
use Rattle.std.proofs.Common.{arith}
use Rattle.shell_picture.specs.Series.{event_of}
use Rattle.shell_picture.proofs.Counting.{added}
use Rattle.shell_picture.proofs.series.Series.add.Goals as goal

pub loop-number-preserved : goal.loop-number-preserved
loop-number-preserved c = record {
  events = added (event_of c.args.self c.args.book.now) c.args.first c.args.agenda.now.items c.loop-number.agenda.items
      c.add_some.new.agenda.items c.loop-number.number c.event.result (omega arith) c.loop-number.invariant.events
      c.event.ensures c.in_ok-add_some.ensures;
  within = omega arith;
}
