-- The completion is taken, as the disk answered it, and then the write is no longer named.
use Rattle.std.proofs.Common.{refl}
use Rattle.guest_lockstep.specs.declared.input.Input.TheVariants as input
use Rattle.pair_threads.proofs.Telling.{hears_written, takes_then}
use Rattle.pair_threads.proofs.recording.Recording.written.Goals as goal

pub returns-clause-onward : goal.returns-clause-onward
returns-clause-onward g c = λ done.
    hears_written g.B.Lockstep.state g.B.Lockstep.machine c.args.self.now c.forget.new.self c.args.number
    (takes_then g.B.Lockstep.state g.B.Lockstep.machine c.args.self.now c.offer.new.self c.forget.new.self
    (input.Written c.args.number) (c.if-not-offer.ensures.onward refl) c.forget.ensures.onward)
