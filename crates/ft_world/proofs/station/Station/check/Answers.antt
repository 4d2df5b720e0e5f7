-- The node's check of each input says it.
use Rattle.ft_node.proofs.FetchedBytes.{when_ok}
use Rattle.ft_world.proofs.station.Station.check.Goals as goal

pub returns-in-Key-clause-answer : goal.returns-in-Key-clause-answer
returns-in-Key-clause-answer g c = rw c.in-Key.is c.check_key.ensures.answer

pub returns-in-Key-clause-may : goal.returns-in-Key-clause-may
returns-in-Key-clause-may g c = rw c.in-Key.is (when_ok c.check_key.result (λ may. may _) c.check_key.ensures.may)

pub returns-in-Sent-clause-answer : goal.returns-in-Sent-clause-answer
returns-in-Sent-clause-answer g c = rw c.in-Sent.is c.check_sent.ensures.answer

pub returns-in-Sent-clause-may : goal.returns-in-Sent-clause-may
returns-in-Sent-clause-may g c = rw c.in-Sent.is c.check_sent.ensures.may

pub returns-in-Written-clause-answer : goal.returns-in-Written-clause-answer
returns-in-Written-clause-answer g c = rw c.in-Written.is c.check_done.ensures.answer

pub returns-in-Written-clause-may : goal.returns-in-Written-clause-may
returns-in-Written-clause-may g c = rw c.in-Written.is c.check_done.ensures.may

pub returns-in-Sector-clause-answer : goal.returns-in-Sector-clause-answer
returns-in-Sector-clause-answer g c = rw c.in-Sector.is c.check_under.ensures.answer

pub returns-in-Sector-clause-may : goal.returns-in-Sector-clause-may
returns-in-Sector-clause-may g c = rw c.in-Sector.is c.check_under.ensures.may
