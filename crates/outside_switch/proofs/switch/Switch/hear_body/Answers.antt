-- The body is dropped, or its frame was met, or its host is cut off for it.
use Rattle.std.proofs.Common.{◌∙◌, ap, inl, inr, subst, sym}
use Rattle.host_frames.specs.Frames.{said_by}
use Rattle.outside_switch.specs.Causes as causes
use Rattle.outside_switch.specs.Goes.{GoesWith}
use Rattle.outside_switch.specs.Meets.{seen}
use Rattle.outside_switch.specs.Passing.{passed_of}
use Rattle.outside_switch.proofs.Causing.{dropped_shows, ended_cause}
use Rattle.outside_switch.proofs.Going.{still}
use Rattle.outside_switch.proofs.switch.Switch.hear_body.Goals as goal

pub returns-then-not-is_open-clause-goes : goal.returns-then-not-is_open-clause-goes
returns-then-not-is_open-clause-goes g c =
    inl (subst (λ l. GoesWith l (seen c.args.self.now) (seen c.args.self.now))
    (sym (ap passed_of c.dropped_as.ensures ∙ dropped_shows c.args.body.now)) (still (seen c.args.self.now)))

pub gone-requires : goal.gone-requires
gone-requires g c =
    ended_cause c.args.self.now.lines.items c.args.place c.args.body.now c.requires (sym c.is_empty.ensures ∙ c.if-is_empty.true)

pub returns-then-is_empty-clause-goes : goal.returns-then-is_empty-clause-goes
returns-then-is_empty-clause-goes g c = inl c.gone.ensures.goes

pub hear_frame-requires : goal.hear_frame-requires
hear_frame-requires g c = (c.args.body.now, c.requires, c.in-Ok.ensures.found)

pub returns-in-Ok-clause-goes : goal.returns-in-Ok-clause-goes
returns-in-Ok-clause-goes g c = inr (said_by c.in-Ok.frame, c.in-Ok.ensures.found, c.hear_frame.ensures.goes)

pub gone-requires-in-Err : goal.gone-requires-in-Err
gone-requires-in-Err g c = causes.IsNoFrame c.args.body.now c.requires c.in-Err.ensures.none.1

pub returns-in-Err-clause-goes : goal.returns-in-Err-clause-goes
returns-in-Err-clause-goes g c = inl c.gone-in-Err.ensures.goes
