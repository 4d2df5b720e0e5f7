-- What waits after one event more comes after the others.
use Rattle.std.proofs.Common.{◌≡◌, ◌∷◌, ◌++◌, [], rules}
use Rattle.sequence_diagram.specs.Waits.{standing_of, wait_of}
use Rattle.sequence_diagram.proofs.Waiting.{waits_then}
use Rattle.sequence_diagram.proofs.waits.Tally.note_all.Goals as goal

pub loop-place-preserved : goal.loop-place-preserved
loop-place-preserved c =
    let more : c.push.new.self.items ≡ c.loop-place.waits.items ++ wait_of (standing_of c.note_at.new.self) ∷ [] = search rules in
    waits_then c.args.moments.now c.loop-place.place (standing_of c.loop-place.self) (standing_of c.note_at.new.self)
    c.loop-place.waits.items c.push.new.self.items c.in_ok-note_at.ensures more c.loop-place.invariant
