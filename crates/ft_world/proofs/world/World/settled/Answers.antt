-- The winner settles, or the backup if nobody has won.
use Rattle.std.proofs.Common.{◌≡◌}
use Rattle.std.specs.Prelude.{unwrap_or}
use Rattle.arbiter_core.specs.Winners.{winner_of}
use Rattle.ft_world.specs.Pairs.{running_of}
use Rattle.ft_world.proofs.Settling.{settled_is}
use Rattle.ft_world.proofs.world.World.settled.Goals as goal

pub returns : goal.returns
returns g c =
    let p = c.self.inside.pair in
    let found : c.unwrap_or-node.result ≡ unwrap_or (winner_of p.arbiter p.generation) p.backup = (cc) in
    rw (← c.self.view_is)
    (λ course h.
    settled_is g.B.Lockstep.state g.B.Copies.copied g.B.Lockstep.machine g.D.SectorStore.records (running_of p) course
    c.unwrap_or-node.result c.settled.result.0.now c.settled.result.1 h found c.settled.ensures)
