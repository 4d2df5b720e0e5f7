use Rattle.pair_rule.proofs.Threads.{runs_shown}
use Rattle.pair_rule.proofs.laws.threads_are_faithful.Goals as goal

pub returns : goal.returns
returns g c = record {
  faithful = runs_shown c.events_are_actions.ensures.actions c.events_are_actions.ensures.reach
      c.actions_are_faithful.ensures.faithful c.events_grow.ensures.reached;
}
