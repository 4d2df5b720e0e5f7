-- A packet is passed on.
use Rattle.std.proofs.Common.{Some, subst, sym}
use Rattle.host_frames.specs.Frames.{Packet, said_by}
use Rattle.outside_switch.specs.Meets.{MeetsWith, seen}
use Rattle.outside_switch.specs.Passing.{passed_of}
use Rattle.outside_switch.specs.Says.{OfPacket}
use Rattle.outside_switch.proofs.switch.Switch.meet.Goals as goal

pub returns-in-Packet-clause-meets : goal.returns-in-Packet-clause-meets
returns-in-Packet-clause-meets g c =
    subst (λ f. MeetsWith (passed_of c.pass.result) (Some (record { place = c.args.place; said = said_by f })) (seen c.args.self.now) (seen c.pass.new.self))
    (sym c.in-Packet.is)
    (c.pass.ensures.meets c.args.place (Packet c.in-Packet.host c.in-Packet.bytes.now) (OfPacket c.in-Packet.bytes.now))
