-- What has arrived is the first entries that are logged.
use Rattle.std.proofs.Common.{◌≡◌, []}
use Rattle.log_channel.specs.Laws.{HoldsFirst}
use Rattle.crate_tests.proofs.boards.deliver_all.Given as goal

abbrev pub invariant-loop-index : goal.invariant-loop-index
invariant-loop-index g l = record {
  generation : l.receiver.generation ≡ 1;
  holds : HoldsFirst l.log.entries [] l.receiver;
}
