-- The places that `remove_write` leaves are those of the controller after the completion.
use Rattle.disk_dcdd.proofs.Outstanding.{IsDrives-written}
use Rattle.disk_dcdd.specs.Controller.{drives_of}
use Rattle.disk_dcdd.proofs.controller.Controller.written.Goals as goal

pub invariant_of-self : goal.invariant_of-self
invariant_of-self c =
    rw c.remove_write.ensures (IsDrives-written (drives_of c.self.inside) c.args.number c.self.invariant)
