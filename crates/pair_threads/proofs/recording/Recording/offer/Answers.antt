-- The input is one more move, and its entry waits.
use Rattle.std.proofs.Common.{refl, ap, ◌∙◌, Some, false}
use Rattle.guest_lockstep.specs.declared.reads.Reads.TheVariants.{Logged}
use Rattle.log_entry.specs.Entries.{entry_of}
use Rattle.pair_threads.proofs.Offering.{offers}
use Rattle.pair_threads.proofs.recording.Recording.offer.Goals as goal

pub returns-in-Ok-clause-onward : goal.returns-in-Ok-clause-onward
returns-in-Ok-clause-onward g c = λ done.
    offers g.B.Lockstep.state g.B.Lockstep.machine g.met.B.Lockstep.counts g.met.B.Lockstep.operations c.args.self.now
    (record c.args.self.now { board = c.take.new.self; waiting = Some c.of_input-entry.result; idle = false }) c.args.input
    c.requires.input c.requires.room c.requires.free c.in-Ok.ensures.answer.0 c.in-Ok.ensures.answer.1
    (ap Some (c.of_input-entry.ensures.value ∙ ap (λ n. entry_of Logged n c.args.input) c.count.ensures.value)) refl refl
