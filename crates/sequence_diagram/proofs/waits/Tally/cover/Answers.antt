-- `retain` keeps what waits still, since no call of the closure changes anything.
use Rattle.std.proofs.Common.{rules}
use Rattle.std.proofs.lemmas.Fn.{filter_same}
use Rattle.sequence_diagram.specs.Waits.{standing_of, still_waits}
use Rattle.sequence_diagram.proofs.Waiting.{covers}
use Rattle.sequence_diagram.proofs.waits.Tally.cover.Goals as goal

pub returns : goal.returns
returns c = covers (standing_of c.args.self.now) c.args.held c.args.replayed c.retain.new.self.items
    (filter_same _ (still_waits c.args.held c.args.replayed) _ (λ x b f' called. search rules) _ _ c.retain.ensures.filtered)
