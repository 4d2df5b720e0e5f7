-- Steps towards the next entry, and its own move.
use Rattle.std.proofs.Common.{◌<◌, Ok, length, refl, subst, ap, ◌∙◌, arith}
use Rattle.std.proofs.lemmas.Option.{slice_get_read}
use Rattle.replayer.specs.Following.{Follows}
use Rattle.replayer.specs.declared.following.Followed.TheVariants.{Done, Stepped}
use Rattle.pair_threads.proofs.Repeating.{follows_on, reaches, steps_on}
use Rattle.pair_threads.proofs.repeater.Repeater.replay.Goals as goal

pub returns-in-Ok-Stepped-clause-goes_on : goal.returns-in-Ok-Stepped-clause-goes_on
returns-in-Ok-Stepped-clause-goes_on g c = λ boot at.
    let within : c.args.self.now.replayed < length c.args.self.now.list.items =
    (let a = c.if-self-len.false in let b = c.len.ensures in omega (arith, a, b)) in
    steps_on g.B.Lockstep.machine boot (g.B.Lockstep.state c.args.self.now.board) c.args.self.now.list.items
    c.args.self.now.replayed at g.met.B.Lockstep.counts c.in-Ok-Stepped.field-0-0 c.args.steps c.index.result.now
    (g.B.Lockstep.state c.follow.new.board) within
    (subst (λ r. Follows g.B.Lockstep.machine (g.B.Lockstep.state c.args.self.now.board) c.index.result.now c.args.steps r
    (g.B.Lockstep.state c.follow.new.board)) (c.in-Ok-Stepped.is ∙ ap Ok c.in-Ok-Stepped.field-0-is)
    c.follow.ensures.answer)

pub returns-in-Ok-Done-clause-goes_on : goal.returns-in-Ok-Done-clause-goes_on
returns-in-Ok-Done-clause-goes_on g c = λ boot at.
    let within : c.args.self.now.replayed < length c.args.self.now.list.items =
    (let a = c.if-self-len.false in let b = c.len.ensures in omega (arith, a, b)) in
    let read = slice_get_read c.args.self.now.list.items _ c.args.self.now.replayed c.index.result.now refl within
    c.index.ensures in
    reaches g.B.Lockstep.machine boot (g.B.Lockstep.state c.args.self.now.board) c.args.self.now.list.items
    c.args.self.now.replayed at g.met.B.Lockstep.counts c.index.result.now (g.B.Lockstep.state c.follow.new.board) read
    (subst (λ r. Follows g.B.Lockstep.machine (g.B.Lockstep.state c.args.self.now.board) c.index.result.now c.args.steps r
    (g.B.Lockstep.state c.follow.new.board)) (c.in-Ok-Done.is ∙ ap Ok c.in-Ok-Done.field-0-is) c.follow.ensures.answer)

pub returns-in-Ok-Stepped-clause-steps : goal.returns-in-Ok-Stepped-clause-steps
returns-in-Ok-Stepped-clause-steps g c =
    let within : c.args.self.now.replayed < length c.args.self.now.list.items =
    (let a = c.if-self-len.false in let b = c.len.ensures in omega (arith, a, b)) in
    let read = slice_get_read c.args.self.now.list.items _ c.args.self.now.replayed c.index.result.now refl within
    c.index.ensures in
    follows_on g.B.Lockstep.state g.B.Lockstep.machine c.args.steps c.args.self.now _ c.index.result.now
    (Stepped c.in-Ok-Stepped.field-0-0) read
    (subst (λ r. Follows g.B.Lockstep.machine (g.B.Lockstep.state c.args.self.now.board) c.index.result.now c.args.steps r
    (g.B.Lockstep.state c.follow.new.board)) (c.in-Ok-Stepped.is ∙ ap Ok c.in-Ok-Stepped.field-0-is)
    c.follow.ensures.answer)

pub returns-in-Ok-Done-clause-steps : goal.returns-in-Ok-Done-clause-steps
returns-in-Ok-Done-clause-steps g c =
    let within : c.args.self.now.replayed < length c.args.self.now.list.items =
    (let a = c.if-self-len.false in let b = c.len.ensures in omega (arith, a, b)) in
    let read = slice_get_read c.args.self.now.list.items _ c.args.self.now.replayed c.index.result.now refl within
    c.index.ensures in
    follows_on g.B.Lockstep.state g.B.Lockstep.machine c.args.steps c.args.self.now _ c.index.result.now Done
    read
    (subst (λ r. Follows g.B.Lockstep.machine (g.B.Lockstep.state c.args.self.now.board) c.index.result.now c.args.steps r
    (g.B.Lockstep.state c.follow.new.board)) (c.in-Ok-Done.is ∙ ap Ok c.in-Ok-Done.field-0-is) c.follow.ensures.answer)
