-- The frame is of the body that came, and what is done with it comes after that.
use Rattle.std.proofs.Common.{refl, subst}
use Rattle.host_frames.specs.Frames.{IsBodyOf, said_by}
use Rattle.host_node.proofs.Ending.{errs_since}
use Rattle.host_node.proofs.Going.{and_then, from_last, heard_one}
use Rattle.host_node.proofs.host.HostNode.hear.Goals as goal

pub hear_frame-requires : goal.hear_frame-requires
hear_frame-requires g c =
    from_last c.next.new.self.came c.args.self.now.mail.came c.in-Some.body.items (said_by c.in-Ok.frame) c.in-Some.ensures.came
    (subst (λ l. IsBodyOf (said_by c.in-Ok.frame) l) c.deref.ensures.value c.in-Ok.ensures.found)

pub returns-in-Ok-clause-goes : goal.returns-in-Ok-clause-goes
returns-in-Ok-clause-goes g c =
    and_then g.B.Lockstep.state g.B.Lockstep.machine g.B.Copies.copied c.args.self.now _ c.hear_frame.new.self
    (heard_one g.B.Lockstep.state g.B.Lockstep.machine g.B.Copies.copied c.args.self.now _ c.in-Some.body.items refl
    (record { number = refl; drives = refl; rings = c.in-Some.ensures.rings }) c.in-Some.ensures.came c.in-Some.ensures.gone)
    c.hear_frame.ensures.goes

pub returns-in-Ok-clause-why : goal.returns-in-Ok-clause-why
returns-in-Ok-clause-why g c =
    errs_since g.B.Lockstep.state g.B.Lockstep.machine g.B.Copies.copied c.args.self.now _ c.hear_frame.new.self _
    (heard_one g.B.Lockstep.state g.B.Lockstep.machine g.B.Copies.copied c.args.self.now _ c.in-Some.body.items refl
    (record { number = refl; drives = refl; rings = c.in-Some.ensures.rings }) c.in-Some.ensures.came c.in-Some.ensures.gone)
    c.hear_frame.ensures.why
