-- The frame was met, and the host is not cut off; or it is, since the frame means nothing.
use Rattle.std.proofs.Common.{inl, inr}
use Rattle.host_frames.specs.Frames.{said_by}
use Rattle.outside_switch.specs.Meets.{seen}
use Rattle.outside_switch.proofs.Causing.{failed_cause, met_open}
use Rattle.outside_switch.proofs.Going.{still}
use Rattle.outside_switch.proofs.switch.Switch.hear_frame.Goals as goal

pub gone-requires : goal.gone-requires
gone-requires g c =
    failed_cause (said_by c.args.frame) _ c.args.rooms c.args.place (seen c.args.self.now) (seen c.meet.new.self) c.requires.0
    c.meet.result c.requires.1 c.requires.2 c.meet.ensures.heeds c.in-Failed.is c.meet.ensures.meets

pub returns-in_default : goal.returns-in_default
returns-in_default g c = record {
  goes = record {
    met = seen c.meet.new.self;
    meets = c.meet.ensures.meets;
    goes = still (seen c.meet.new.self);
  };
  heeds = c.meet.ensures.heeds;
  cut = λ cut. elim cut [
    | inl failed ↦ absurd (c.in_default.not-Failed failed)
    | inr ended ↦ absurd (met_open c.args.rooms c.args.place (said_by c.args.frame) (seen c.args.self.now) (seen c.meet.new.self)
        c.meet.result c.meet.ensures.heeds ended)
  ];
}
