use Rattle.host_frames.proofs.StreamLaws.{comes_out, loses_nothing, never_malformed}
use Rattle.host_frames.proofs.laws.streams_come_out.Goals as goal

pub returns-clause-lost : goal.returns-clause-lost
returns-clause-lost c = loses_nothing

pub returns-clause-out : goal.returns-clause-out
returns-clause-out c = comes_out

pub returns-clause-never : goal.returns-clause-never
returns-clause-never c = never_malformed
