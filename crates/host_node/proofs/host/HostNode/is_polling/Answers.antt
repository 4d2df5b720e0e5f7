use Rattle.std.proofs.Common.{rules, Some}
use Rattle.host_node.specs.Looks.{HasGuest}
use Rattle.host_node.proofs.Looking.{polls}
use Rattle.host_node.proofs.host.HostNode.is_polling.Goals as goal

-- src/moves.rt:113:5
pub returns-in-Some : goal.returns-in-Some
returns-in-Some g c =
    let state = g.B.Lockstep.state in
    let M = g.B.Lockstep.machine in
    let node = c.args.self.now.node in
    let guest = c.in-Some.guest.now in
    let has : HasGuest state M node (Some (state guest)) = search rules in
    polls state M g.B.KeyRoom.polls node c.is_polling.result guest has c.is_polling.ensures.yes c.is_polling.ensures.no
