use Rattle.std.proofs.Common.{◌≡◌, ◌-◌, ◌≤◌}
use Rattle.replayer.specs.Replaying.{Replays}
use Rattle.replayer.proofs.replay.run.Given as goal

abbrev pub invariant-loop-moves : goal.invariant-loop-moves
invariant-loop-moves g l = record {
  replays : Replays g.B.Lockstep.machine (g.B.Lockstep.state l.initial.board) l.initial.receiver.entries
      l.initial.fetched
      l.moves (g.B.Lockstep.state l.board) l.receiver.entries l.fetched;
  within : l.moves ≤ l.turns;
  held : l.receiver ≡ record l.initial.receiver { entries = l.receiver.entries };
  unchanged : l.moves ≡ 0 → (l.board ≡ l.initial.board) × (l.fetched ≡ l.initial.fetched)
      × (l.receiver ≡ l.initial.receiver);
}

abbrev pub decreases-loop-moves : goal.decreases-loop-moves
decreases-loop-moves g l = l.turns - l.moves
