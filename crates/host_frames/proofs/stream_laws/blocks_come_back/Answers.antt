-- One body, and all.
use Rattle.host_frames.proofs.Blocks.{all_come_back, comes_back}
use Rattle.host_frames.proofs.stream_laws.blocks_come_back.Goals as goal

pub returns-clause-one : goal.returns-clause-one
returns-clause-one c = comes_back

pub returns-clause-all : goal.returns-clause-all
returns-clause-all c = all_come_back
