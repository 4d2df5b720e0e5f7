-- A run of the recorder is a run of the protocol's node, and what it gives is noted, for which there is room.
use Rattle.std.proofs.Common.{ap, refl, subst, ◌∙◌}
use Rattle.std.proofs.lemmas.Result.{err_from_is_err_and}
use Rattle.log_buffer.specs.Log.{IsWithinLimits, next_of}
use Rattle.ft_node.specs.Checked.{StepsAll, StepsNone}
use Rattle.ft_node.specs.Noting.{noted}
use Rattle.ft_node.proofs.PrimaryInputs.{keeps_log}
use Rattle.ft_node.proofs.PrimaryPlaces.{all_steps, lacks_room, place_if_room}
use Rattle.ft_node.proofs.PrimarySteps.{steps_made, steps_not_made}
use Rattle.ft_node.proofs.SamePrimary.{alike, whatever}
use Rattle.ft_node.proofs.primary.Primary.step.Goals as goal

pub returns-then-not-has_room-clause-answer : goal.returns-then-not-has_room-clause-answer
returns-then-not-has_room-clause-answer g c = λ C x p.
    StepsNone (record {
      refused = refl;
      role_is = p.role;
      not_frugal = lacks_room g.B.Lockstep.machine x c.args.self.now.coverage p.covers c.stands-2.ensures
          (λ room. let yes = c.has_room.ensures.1 room in let no = c.if-not-has_room.true in cc);
      stays = p;
    })

pub returns-in_err-steps-clause-answer : goal.returns-in_err-steps-clause-answer
returns-in_err-steps-clause-answer g c = λ C x p.
    let M = g.B.Lockstep.machine in
    let s = g.B.Lockstep.state c.args.self.now.recorder.board in
    let t = g.B.Lockstep.state c.advance.new.self.board in
    let l = c.args.self.now.recorder.log in
    let e = err_from_is_err_and c.from_residual.result c.from_residual.ensures.1 in
    rw (e.1, e.2, c.in_err-steps.ensures.reads)
    (StepsAll (steps_not_made M s t l c.advance.new.self.log c.args.self.now.sender c.args.self.now.coverage x c.args.turns
    c.in_err-steps.field-0.0 p
    (keeps_log M s l c.args.self.now.sender c.args.self.now.coverage x p
    (subst IsWithinLimits c.log.ensures c.stands.ensures))
    c.in_err-steps.ensures.answer))

pub note-requires : goal.note-requires
note-requires g c = record {
  place = place_if_room c.args.self.now.coverage c.in_ok-steps.field-0.reason (c.has_room.ensures.0 c.if-not-has_room.false);
}

pub returns-clause-answer : goal.returns-clause-answer
returns-clause-answer g c = λ C x p.
    let M = g.B.Lockstep.machine in
    let s = g.B.Lockstep.state c.args.self.now.recorder.board in
    let t = g.B.Lockstep.state c.advance.new.self.board in
    let l = c.args.self.now.recorder.log in
    rw c.in_ok-steps.ensures.reads
    (StepsAll (steps_made M s t l c.advance.new.self.log c.args.self.now.sender c.args.self.now.coverage c.note.new.coverage x
    c.args.turns c.count.result c.in_ok-steps.field-0 g.met.B.Lockstep.operations p
    (keeps_log M s l c.args.self.now.sender c.args.self.now.coverage x p
    (subst IsWithinLimits c.log.ensures c.stands.ensures))
    c.in_ok-steps.ensures.answer
    (c.count.ensures.value ∙ ap (λ board. M.count (g.B.Lockstep.state board)) c.board.ensures) c.count.ensures.within
    (c.note.ensures
    ∙ ap (noted c.args.self.now.coverage c.in_ok-steps.field-0.reason) (c.next-mark.ensures ∙ ap next_of c.log-2.ensures))))

pub returns-in_err-steps-clause-unchanged : goal.returns-in_err-steps-clause-unchanged
returns-in_err-steps-clause-unchanged g c =
    whatever c.from_residual.result (alike c.in_err-steps.ensures.unchanged refl refl refl)

-- ---- few operations are outstanding

pub returns-then-not-has_room-clause-exactly : goal.returns-then-not-has_room-clause-exactly
returns-then-not-has_room-clause-exactly g c = λ frugal C x p.
    all_steps p.machine frugal (returns-then-not-has_room-clause-answer g c C x p)

pub returns-in_err-steps-clause-exactly : goal.returns-in_err-steps-clause-exactly
returns-in_err-steps-clause-exactly g c = λ frugal C x p.
    all_steps p.machine frugal (returns-in_err-steps-clause-answer g c C x p)

pub returns-clause-exactly : goal.returns-clause-exactly
returns-clause-exactly g c = λ frugal C x p.
    all_steps p.machine frugal (returns-clause-answer g c C x p)
