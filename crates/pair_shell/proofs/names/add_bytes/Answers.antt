-- One byte more, up to the sixteenth.
use Rattle.std.proofs.Common.{refl}
use Rattle.pair_shell.specs.Outstanding.{byte_out}
use Rattle.pair_shell.proofs.Listing.{byte_more}
use Rattle.pair_shell.proofs.names.add_bytes.Goals as goal

pub loop-place-preserved : goal.loop-place-preserved
loop-place-preserved g c =
    byte_more g.B.Lockstep.machine (g.B.Lockstep.state c.args.guest.now) c.args.port c.in-Some.due c.loop-place.place
    c.saturating_add.result c.args.names.now.items c.loop-place.names.items c.add_byte.new.names.items
    (byte_out g.B.Lockstep.machine (g.B.Lockstep.state c.args.guest.now) c.args.port c.saturating_add.result)
    c.saturating_add.ensures c.loop-place.invariant c.in_ok-add_byte.ensures refl
