-- Each event of a run adds one reply.
use Rattle.pair_protocol.proofs.Promises.Runs.{run_replies}
use Rattle.pair_protocol.proofs.laws.every_event_is_answered.Goals as goal

pub returns : goal.returns
returns g c = record { replies = run_replies }
