-- A completion is among the events of a pair.
use Rattle.std.proofs.Common.{ℕ, Option, Some, None}
use Rattle.std.specs.Prelude.{IfSome}
use Rattle.pair_events.specs.declared.event.Event.{Event}
use Rattle.pair_events.specs.declared.event.Event.TheVariants.{Release, Arrive, TellSent, Put, PutReply}
use Rattle.pair_progress.specs.Completion.{IsCompletion}
use Rattle.pair_progress.specs.Settling.{IsPairing}

pairing : (n m : ℕ) (e : Event) → IsCompletion n e → IsPairing n m e
pairing n m (Release a name) is = is
pairing n m (Arrive message) is = tt
pairing n m (TellSent a port number) is = is
pairing n m (Put message) is = tt
pairing n m (PutReply message a) is = is
pairing n m e is = absurd is

pub pairing_some : (n m : ℕ) (e : Option Event) → IfSome e (IsCompletion n) → IfSome e (IsPairing n m)
pairing_some n m None is = tt
pairing_some n m (Some e) is = pairing n m e is
