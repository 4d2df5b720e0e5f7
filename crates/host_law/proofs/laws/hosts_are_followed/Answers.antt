-- Each law is about one step of a fleet, or about its beginning.
use Rattle.host_law.proofs.Booting.{boot-shown}
use Rattle.host_law.proofs.Interleaving.{followed}
use Rattle.host_law.proofs.laws.hosts_are_followed.Goals as goal

pub returns-clause-boot : goal.returns-clause-boot
returns-clause-boot g c = boot-shown

pub returns-clause-steps : goal.returns-clause-steps
returns-clause-steps g c = followed
