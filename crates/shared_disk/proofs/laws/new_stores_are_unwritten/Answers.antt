-- The sectors of a new store, and their bytes.
use Rattle.shared_disk.proofs.Booting.{new_is_whole}
use Rattle.shared_disk.proofs.RecordsBySector.{unwritten_record}
use Rattle.shared_disk.proofs.laws.new_stores_are_unwritten.Goals as goal

pub returns-clause-records : goal.returns-clause-records
returns-clause-records c = unwritten_record

pub returns-clause-whole : goal.returns-clause-whole
returns-clause-whole c = new_is_whole
