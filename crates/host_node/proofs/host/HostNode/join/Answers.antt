use Rattle.std.proofs.Common.{◌≡◌, refl, sym, ap, subst, ◌∙◌}
use Rattle.clone_state.specs.Parts.{part_count}
use Rattle.ft_node.specs.AnyNode.{IsNode}
use Rattle.ft_node.specs.Calls as calls
use Rattle.guest_lockstep.specs.declared.reads.Reads.TheVariants.{Shared}
use Rattle.host_frames.specs.Frames.{Tells}
use Rattle.host_frames.specs.declared.frame.Notice.TheVariants as notice
use Rattle.host_node.proofs.Begun.{joins_it}
use Rattle.host_node.specs.Mail.{IsFrom}
use Rattle.host_node.proofs.host.HostNode.join.Goals as goal

pub returns-in-Spare : goal.returns-in-Spare
returns-in-Spare g c =
    joins_it g.B.Lockstep.state g.B.Lockstep.machine g.B.Copies.copied _ _ c.in-Spare.callbacks c.joining-node.result
    c.args.generation c.args.host c.args.count (sym c.replace.ensures.value ∙ c.in-Spare.is) refl refl refl refl
    (subst (λ d. IsFrom c.args.self.now.mail.came (Tells (notice.Join c.args.generation c.args.host d c.args.count)))
    c.if-drives-self.false c.requires)
    (λ C x. subst (λ d. C.part_count ≡ part_count d → calls.Joins C c.args.generation c.args.count Shared x
    → IsNode g.B.Lockstep.state g.B.Lockstep.machine C d c.joining-node.result x)
    (ap (λ a. a.drives) c.in_ok-assembly.ensures.ok ∙ c.if-drives-self.false) (c.joining-node.ensures.node C x))
