-- The law about all arrivals gives it.
use Rattle.ft_world.proofs.Choices.{terminals_accept}
use Rattle.ft_world.proofs.laws.terminals_accept_the_longest_list.Goals as goal

pub returns : goal.returns
returns g c = terminals_accept
