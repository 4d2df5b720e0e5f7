-- A board that has booted is the machine of its setup.
use Rattle.shared_disk.specs.Records.{bytes_in}
use Rattle.crate_tests.proofs.generations.pairs.run_with.Goals as goal

pub run_generation-requires-clause-lawful : goal.run_generation-requires-clause-lawful
run_generation-requires-clause-lawful g c κs within =
    rw c.in_ok-workers.ensures.guests.0 (c.altairs_are_lawful.ensures c.args.setup.now
    (bytes_in c.in_ok-workers.workers.disk.store))
