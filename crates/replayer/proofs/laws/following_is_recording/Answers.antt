use Rattle.replayer.proofs.FollowedEntries.{following_is_recording}
use Rattle.replayer.proofs.laws.following_is_recording.Goals as goal

pub returns : goal.returns
returns g c = following_is_recording
