-- The winners are the arbiter's own.
use Rattle.host_law.proofs.Survival.{loser-has-winner, one-wins, whole-wins}
use Rattle.host_law.proofs.laws.hosts_survive.Goals as goal

pub returns-clause-wins : goal.returns-clause-wins
returns-clause-wins g c = whole-wins

pub returns-clause-loses : goal.returns-clause-loses
returns-clause-loses g c = loser-has-winner

pub returns-clause-one : goal.returns-clause-one
returns-clause-one g c = one-wins
