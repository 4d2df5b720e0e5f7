-- Each end of a run of steps toward a later entry.
use Rattle.std.proofs.Common.{◌≡◌, ◌-◌, true, false, is_some, not, inl, inr, sym, ap, ◌∙◌, arith}
use Rattle.std.proofs.lemmas.Bool.Decides.{leb_tells}
use Rattle.log_entry.specs.Entries.{timed_of}
use Rattle.replayer.proofs.FollowedEntries.{all_made, mark_made, none_allowed, none_there, some_made, strays}
use Rattle.replayer.proofs.following.step_toward.Goals as goal

pub returns-in-Turns-clause-answer : goal.returns-in-Turns-clause-answer
returns-in-Turns-clause-answer g c =
    let first = c.count.ensures in
    let at = c.count-2.ensures.value in
    let later = c.requires.later in
    let most = c.min.ensures in
    all_made g.B.Lockstep.machine g.met.B.Lockstep.counts (g.B.Lockstep.state c.args.board.now)
    (g.B.Lockstep.state c.run-steps.new.guest) c.args.entry.now c.args.turns c.min.result
    (c.count.result - c.count-2.result) (omega arith) (omega arith) (omega arith) c.run-steps.result
    c.run-steps.ensures.runs
    c.in-Turns.is (elim (leb_tells c.args.turns 0) [
      | inl p ↦ inr (let none = p.1 in omega arith)
      | inr p ↦ inl (let some = p.1 in omega arith)
    ])

pub returns-in-Operation-clause-answer : goal.returns-in-Operation-clause-answer
returns-in-Operation-clause-answer g c =
    let first = c.count.ensures in
    let at = c.count-2.ensures.value in
    let later = c.requires.later in
    let most = c.min.ensures in
    mark_made g.B.Lockstep.machine g.met.B.Lockstep.counts (g.B.Lockstep.state c.args.board.now)
    (g.B.Lockstep.state c.run-steps.new.guest) c.args.entry.now c.args.turns c.min.result
    (c.count.result - c.count-2.result) (omega arith) (omega arith) (omega arith) c.run-steps.result
    c.in-Operation.field-0
    c.run-steps.ensures.runs c.in-Operation.is c.if-steps-ahead.true
    (none_there (timed_of c.args.entry.now) (ap is_some (sym c.timed.ensures) ∙ c.is_none.ensures
    ∙ ap not c.if-is_none.true))

pub returns-in-Operation-2-clause-answer : goal.returns-in-Operation-2-clause-answer
returns-in-Operation-2-clause-answer g c =
    let first = c.count.ensures in
    let at = c.count-2.ensures.value in
    let later = c.requires.later in
    let most = c.min.ensures in
    strays g.B.Lockstep.machine g.met.B.Lockstep.counts (g.B.Lockstep.state c.args.board.now)
    (g.B.Lockstep.state c.run-steps.new.guest) c.args.entry.now c.args.turns c.min.result
    (c.count.result - c.count-2.result) (omega arith) (omega arith) (omega arith) c.run-steps.result
    c.in-Operation-2.field-0
    c.run-steps.ensures.runs c.in-Operation-2.is
    (λ none at. let no : false ≡ true = sym (ap is_some (c.timed.ensures ∙ none)) ∙ c.is_none.ensures
    ∙ ap not c.if-is_none.false in cc)

pub returns-in-Operation-2-2-clause-answer : goal.returns-in-Operation-2-2-clause-answer
returns-in-Operation-2-2-clause-answer g c =
    let first = c.count.ensures in
    let at = c.count-2.ensures.value in
    let later = c.requires.later in
    let most = c.min.ensures in
    strays g.B.Lockstep.machine g.met.B.Lockstep.counts (g.B.Lockstep.state c.args.board.now)
    (g.B.Lockstep.state c.run-steps.new.guest) c.args.entry.now c.args.turns c.min.result
    (c.count.result - c.count-2.result) (omega arith) (omega arith) (omega arith) c.run-steps.result
    c.in-Operation-2.field-0
    c.run-steps.ensures.runs c.in-Operation-2.is (λ none at. c.if-steps-ahead.false at)

pub returns-in-Refused-clause-answer : goal.returns-in-Refused-clause-answer
returns-in-Refused-clause-answer g c =
    let first = c.count.ensures in
    let at = c.count-2.ensures.value in
    let later = c.requires.later in
    let most = c.min.ensures in
    none_allowed g.B.Lockstep.machine g.met.B.Lockstep.counts (g.B.Lockstep.state c.args.board.now)
    (g.B.Lockstep.state c.run-steps.new.guest) c.args.entry.now c.args.turns c.min.result
    (c.count.result - c.count-2.result) (omega arith) (omega arith) (omega arith) c.run-steps.result c.in-Refused.fault
    c.run-steps.ensures.runs c.in-Refused.is c.if-steps-eq0.true (omega arith)

pub returns-in-Refused-2-clause-answer : goal.returns-in-Refused-2-clause-answer
returns-in-Refused-2-clause-answer g c =
    let first = c.count.ensures in
    let at = c.count-2.ensures.value in
    let later = c.requires.later in
    let most = c.min.ensures in
    some_made g.B.Lockstep.machine g.met.B.Lockstep.counts (g.B.Lockstep.state c.args.board.now)
    (g.B.Lockstep.state c.run-steps.new.guest) c.args.entry.now c.args.turns c.min.result
    (c.count.result - c.count-2.result) (omega arith) (omega arith) (omega arith) c.run-steps.result
    c.in-Refused-2.field-0
    c.run-steps.ensures.runs c.in-Refused-2.is (let some = c.if-steps-eq0.false in omega arith)
