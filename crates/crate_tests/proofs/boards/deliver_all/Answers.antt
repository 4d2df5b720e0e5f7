use Rattle.crate_tests.proofs.boards.deliver_all.Goals as goal

pub loop-index-init : goal.loop-index-init
loop-index-init g c = record { generation = c.requires.generation; holds = c.requires.holds }

pub deliver-requires-clause-generation : goal.deliver-requires-clause-generation
deliver-requires-clause-generation g c = c.loop-index.invariant.generation

pub deliver-requires-clause-holds : goal.deliver-requires-clause-holds
deliver-requires-clause-holds g c = c.loop-index.invariant.holds

pub loop-index-preserved : goal.loop-index-preserved
loop-index-preserved g c = record { generation = c.deliver.ensures.generation; holds = c.deliver.ensures.holds }

pub returns : goal.returns
returns g c = record { holds = c.loop-index.invariant.holds }
