use Rattle.host_frames.proofs.StreamLaws.{is_short, stand_apart, stays_malformed}
use Rattle.host_frames.proofs.laws.streams_stand_apart.Goals as goal

pub returns-clause-apart : goal.returns-clause-apart
returns-clause-apart c = stand_apart

pub returns-clause-stays : goal.returns-clause-stays
returns-clause-stays c = stays_malformed

pub returns-clause-short : goal.returns-clause-short
returns-clause-short c = is_short
