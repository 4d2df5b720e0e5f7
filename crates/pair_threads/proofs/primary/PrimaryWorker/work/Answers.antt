-- A turn did the chore that was due at the port whose turn it was, and notes what is next.
use Rattle.std.proofs.Common.{inr, subst}
use Rattle.pair_threads.specs.Primary.{Does}
use Rattle.pair_threads.proofs.primary.PrimaryWorker.work.Goals as goal

pub returns-clause-turn : goal.returns-clause-turn
returns-clause-turn g c =
    let old = c.args.self.now in inr (
      c.in_ok-moved.moved,
      subst (λ port. Does g.B.Lockstep.state g.B.Lockstep.machine old.chore port old c.attempt.new.self c.in_ok-moved.moved)
          c.port-port.ensures.is c.in_ok-moved.ensures.does,
      c.turn_after.ensures,
      c.next-self.ensures,
      c.fruitless_after-self.ensures,
      c.is_second_after-second.ensures,
    )
