-- What holds at each exit from the steps, by the lemmas of `Runs`.
use Rattle.std.proofs.Common.{sym, ap, ◌∙◌, arith}
use Rattle.log_entry.specs.declared.entry.Entry.TheVariants.{Mark}
use Rattle.recorder.proofs.Runs.{some_steps, last_step, ended, refused}
use Rattle.recorder.specs.Recording.{logged}
use Rattle.recorder.proofs.run.run.Goals as goal

pub returns-in-Turns-clause-answer : goal.returns-in-Turns-clause-answer
returns-in-Turns-clause-answer g c =
    let M = g.B.Lockstep.machine in
    let K = g.L.EntryLog.logging in
    let s = g.B.Lockstep.state c.args.board.now in
    let t = g.B.Lockstep.state c.run-stopped.new.guest in
    let r = c.run-stopped.result in
    let l = c.args.log.now in
    ended M K s t c.args.turns l l r c.run-stopped.ensures.runs
    (some_steps M K s t c.args.turns r c.requires.some c.run-stopped.ensures.runs c.in-Turns.is)
    (sym (ap (logged K l (M.count t)) c.in-Turns.is))

pub returns-in-Operation-clause-answer : goal.returns-in-Operation-clause-answer
returns-in-Operation-clause-answer g c =
    let M = g.B.Lockstep.machine in
    let K = g.L.EntryLog.logging in
    let s = g.B.Lockstep.state c.args.board.now in
    let t = g.B.Lockstep.state c.run-stopped.new.guest in
    let r = c.run-stopped.result in
    let l = c.args.log.now in
    ended M K s t c.args.turns l c.push_mark.new.log r c.run-stopped.ensures.runs
    (last_step M K s t c.args.turns r c.in-Operation.field-0 c.run-stopped.ensures.runs c.in-Operation.is)
    (c.push_mark.ensures.log ∙ ap (λ count. K.pushed l (Mark count)) c.count.ensures.value
    ∙ sym (ap (logged K l (M.count t)) c.in-Operation.is))

pub returns-in-Refused-clause-answer : goal.returns-in-Refused-clause-answer
returns-in-Refused-clause-answer g c =
    refused g.B.Lockstep.machine g.L.EntryLog.logging (g.B.Lockstep.state c.args.board.now) (g.B.Lockstep.state c.run-stopped.new.guest)
    c.args.turns c.args.log.now c.run-stopped.result c.in-Refused.fault c.requires.some c.run-stopped.ensures.runs
    c.in-Refused.is c.if-stopped-eq0.true

pub returns-in-Refused-2-clause-answer : goal.returns-in-Refused-2-clause-answer
returns-in-Refused-2-clause-answer g c =
    let M = g.B.Lockstep.machine in
    let K = g.L.EntryLog.logging in
    let t = g.B.Lockstep.state c.run-stopped.new.guest in
    let l = c.args.log.now in
    ended M K (g.B.Lockstep.state c.args.board.now) t c.args.turns l l c.run-stopped.result c.run-stopped.ensures.runs
    (omega arith) (sym (ap (logged K l (M.count t)) c.in-Refused-2.is))
