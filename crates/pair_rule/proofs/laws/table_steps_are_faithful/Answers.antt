use Rattle.pair_rule.proofs.Threads.{kinds_lead}
use Rattle.pair_rule.proofs.laws.table_steps_are_faithful.Goals as goal

pub returns : goal.returns
returns g c = record {
  faithful = kinds_lead c.events_are_actions.ensures.actions c.events_are_actions.ensures.reach
      c.actions_are_faithful.ensures.faithful c.events_grow.ensures.reached;
}
