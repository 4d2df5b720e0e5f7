-- What the steps that are left do, all of them do.
use Rattle.std.proofs.Common.{◌-◌}
use Rattle.board_image.specs.Polling.{ComesBack, Polls, seen_by}
use Rattle.board_image.proofs.polling.is_polling.Given as goal

abbrev pub invariant-loop-step : goal.invariant-loop-step
invariant-loop-step g l = record {
  on : ComesBack l.first (64 - l.step) l.cpu (seen_by l.sight.board.now.guest l.sight.looks l.sight.acts) → Polls l.board.guest;
  off : Polls l.board.guest → ComesBack l.first (64 - l.step) l.cpu (seen_by l.sight.board.now.guest l.sight.looks l.sight.acts);
}
