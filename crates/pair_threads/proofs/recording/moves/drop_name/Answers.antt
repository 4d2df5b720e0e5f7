-- `retain` keeps each other name, since no call of the closure changes it.
use Rattle.std.proofs.Common.{rules}
use Rattle.pair_threads.proofs.Offering.{is_kept}
use Rattle.pair_threads.proofs.recording.moves.drop_name.Goals as goal

pub returns : goal.returns
returns c = λ name other at. is_kept _ name _ (λ x b f' called. search rules) _ _ c.retain.ensures.filtered at
