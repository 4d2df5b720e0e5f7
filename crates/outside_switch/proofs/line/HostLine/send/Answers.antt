-- Only the ring took the frame.
use Rattle.std.proofs.Common.{refl}
use Rattle.outside_switch.proofs.Lines.{sends_of}
use Rattle.outside_switch.proofs.line.HostLine.send.Goals as goal

pub returns : goal.returns
returns c = sends_of _ c.push-is_sent.result c.args.self.now _ refl c.push-is_sent.ensures
