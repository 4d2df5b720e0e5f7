-- Progress is passed on.
use Rattle.std.proofs.Common.{Some, subst, sym}
use Rattle.host_frames.specs.Frames.{Tells}
use Rattle.host_frames.specs.declared.frame.Notice.TheVariants.{Progress}
use Rattle.outside_switch.specs.Meets.{MeetsWith, seen}
use Rattle.outside_switch.specs.Passing.{passed_of}
use Rattle.outside_switch.specs.Says.{OfProgress}
use Rattle.outside_switch.proofs.switch.Switch.meet_notice.Goals as goal

pub returns-in-Progress-clause-meets : goal.returns-in-Progress-clause-meets
returns-in-Progress-clause-meets g c =
    subst (λ n. MeetsWith (passed_of c.pass.result) (Some (record { place = c.args.place; said = Tells n })) (seen c.args.self.now) (seen c.pass.new.self))
    (sym c.in-Progress.is)
    (c.pass.ensures.meets c.args.place (Tells (Progress c.in-Progress.host c.in-Progress.entries c.in-Progress.count))
    (OfProgress c.in-Progress.entries c.in-Progress.count))
