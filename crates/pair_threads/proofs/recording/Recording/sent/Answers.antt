-- The acceptance is taken, and then the byte is no longer named.
use Rattle.std.proofs.Common.{refl}
use Rattle.guest_lockstep.specs.declared.input.Input.TheVariants as input
use Rattle.pair_threads.proofs.Telling.{takes_then}
use Rattle.pair_threads.proofs.recording.Recording.sent.Goals as goal

pub returns-clause-onward : goal.returns-clause-onward
returns-clause-onward g c = λ done.
    takes_then g.B.Lockstep.state g.B.Lockstep.machine c.args.self.now c.offer.new.self c.forget.new.self
    (input.Sent c.args.port) (c.if-not-offer.ensures.onward refl) c.forget.ensures.onward
