-- The two ports have the keys that are asked for, and no clause of a node that is alone reads its list.
use Rattle.host_calls.proofs.Straying.{has-list, no-list}
use Rattle.host_calls.proofs.laws.alone_nodes_have_lists.Goals as goal

pub returns-clause-lists : goal.returns-clause-lists
returns-clause-lists g c M x y follows alone = has-list M x y follows alone

pub returns-clause-free : goal.returns-clause-free
returns-clause-free g c = λ state M C drives node y list alone is. no-list state M C drives node y list alone is

pub returns-clause-keys : goal.returns-clause-keys
returns-clause-keys g c = λ M x. (λ has. has, λ has. has)
