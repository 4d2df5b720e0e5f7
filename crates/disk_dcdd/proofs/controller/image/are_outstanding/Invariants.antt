use Rattle.std.proofs.Common.{take}
use Rattle.disk_dcdd.specs.Controller.{AreOutstanding}
use Rattle.disk_dcdd.proofs.controller.image.are_outstanding.Given as goal

abbrev pub invariant-loop-index : goal.invariant-loop-index
invariant-loop-index l = AreOutstanding l.attached l.issued (take l.index l.places)
