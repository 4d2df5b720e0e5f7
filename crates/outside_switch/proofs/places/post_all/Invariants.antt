-- The frame went to the places before.
use Rattle.host_frames.specs.Frames.{said_by}
use Rattle.outside_switch.specs.Lines.{PostsAll}
use Rattle.outside_switch.proofs.places.post_all.Given as goal

abbrev pub invariant-loop-place : goal.invariant-loop-place
invariant-loop-place l = PostsAll (said_by l.frame) l.fn.lines l.lines
