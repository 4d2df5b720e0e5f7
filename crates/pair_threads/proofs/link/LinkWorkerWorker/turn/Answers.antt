-- The link has a fate exactly for the packet in its hand.
use Rattle.std.proofs.Common.{ap, sym, ◌∙◌}
use Rattle.std.specs.Prelude.{is_some}
use Rattle.pair_threads.proofs.Carrying.{dealt-agrees}
use Rattle.pair_threads.proofs.link.LinkWorkerWorker.turn.Goals as goal

pub returns-in-Some-clause-leaves : goal.returns-in-Some-clause-leaves
returns-in-Some-clause-leaves c =
    dealt-agrees c.in-Some.fate c.args.self.now.seat c.deal.new.self.seat c.deal.new.self.fate c.deal.ensures.dealt
    (sym c.requires.ready ∙ ap is_some c.in-Some.is)
