-- Nothing refuses such a node, so it has won, or is out of memory.
use Rattle.pair_protocol.proofs.Survival.{nothing_refuses, wins}
use Rattle.pair_protocol.proofs.laws.whole_nodes_win.Goals as goal

pub returns-clause-refused : goal.returns-clause-refused
returns-clause-refused g c = nothing_refuses

pub returns-clause-wins : goal.returns-clause-wins
returns-clause-wins g c = wins
