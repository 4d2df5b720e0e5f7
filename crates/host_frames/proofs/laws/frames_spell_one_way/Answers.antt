use Rattle.host_frames.proofs.StreamLaws.{one_front}
use Rattle.host_frames.proofs.laws.frames_spell_one_way.Goals as goal

pub returns : goal.returns
returns c = one_front
