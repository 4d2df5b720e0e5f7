use Rattle.host_node.proofs.EarlyParts.{is_part}
use Rattle.host_node.proofs.early.Early.packet.Goals as goal

pub returns : goal.returns
returns c =
    is_part c.args.index c.args.self.now c.in-Some.image c.in-Ok.part c.in_ok-bytes.bytes.items c.deref.result.now c.in-Some.is
    c.in-Ok.ensures c.deref.ensures.value c.in_ok-bytes.ensures.ok
