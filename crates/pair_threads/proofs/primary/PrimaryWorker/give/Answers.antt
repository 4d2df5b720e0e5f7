-- A byte that is outstanding is released once all is acknowledged.
use Rattle.std.proofs.Common.{ap, refl, sym, length, ◌∙◌}
use Rattle.event_callbacks.specs.declared.operations.OpId.TheVariants as id
use Rattle.event_callbacks.specs.declared.operations.Operation.TheVariants.{Byte}
use Rattle.pair_threads.proofs.Views.{emitted, release_promised, releases, with_release, works_on}
use Rattle.pair_threads.proofs.primary.PrimaryWorker.give.Goals as goal

pub returns-clause-works : goal.returns-clause-works
returns-clause-works g c =
    let M = g.B.Lockstep.machine in
    let old = c.args.self.now in
    let view = old.seat.core.known.primary in
    let byte = Byte c.args.port c.args.number c.args.byte in
    works_on g.B.Lockstep.state M old c.emit.new.self (with_release view byte)
    c.emit.ensures.same (emitted old.seat.core c.emit.new.self.core c.args.port byte c.emit.ensures.emitted) refl
    (λ boot taken accepted leads. releases g.B.Lockstep.state M boot view taken accepted old.guest leads
    g.met.B.Lockstep.counts g.met.B.Lockstep.operations (id.Byte c.args.port c.args.number) byte c.requires.due
    c.requires.covered.0 (sym old.saw ∙ c.requires.covered.1 ∙ ap length old.same))
    (λ boot leads kept. release_promised g.B.Lockstep.state M g.met.B.Lockstep.counts old boot leads kept byte c.requires.due
    c.requires.covered.0 c.requires.covered.1)
