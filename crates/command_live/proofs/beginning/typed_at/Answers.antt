-- The line that is read comes after those before it.
use Rattle.std.proofs.Common.{ℕ, [], ◌∷◌, ◌++◌, Vec, Global, ap, ◌∙◌}
use Rattle.pair_events.specs.declared.event.Event.TheVariants.{Step}
use Rattle.script_language.specs.declared.line.Line.TheVariants.{Event}
use Rattle.command_live.proofs.Living.{as_many, byte_more}
use Rattle.command_live.proofs.beginning.typed_at.Goals as goal
use Rattle.command_live.proofs.beginning.typed_at.Goals.{in-Some+in_ok-reserve-in-Some, in-None}

pub loop-line-preserved : goal.loop-line-preserved
loop-line-preserved c = elim c.match-typed_by.branch [
  | in-Some+in_ok-reserve-in-Some w ↦ ap (λ (v : Vec ℕ Global). v.items) w.typed-is ∙ w.push_reserved.ensures.items
      ∙ ap (λ l. l ++ w.in-Some.byte ∷ []) w.reserve.ensures.items
      ∙ byte_more c.args.port c.args.lines.now c.loop-line.line-index (Event (Step 0 0)) c.typed_by.result
      c.loop-line-test.true c.typed_by.ensures w.in-Some.byte c.loop-line.typed.items w.in-Some.is c.loop-line.invariant
  | in-None w ↦ ap (λ (v : Vec ℕ Global). v.items) w.typed-is
      ∙ as_many c.args.port c.args.lines.now c.loop-line.line-index (Event (Step 0 0)) c.typed_by.result
      c.loop-line-test.true c.typed_by.ensures c.loop-line.typed.items w.in-None.is c.loop-line.invariant
]
