use Rattle.std.proofs.Common.{sym, refl}
use Rattle.log_channel.proofs.HeldEntries.{no_first}
use Rattle.log_channel.proofs.receiver.Receiver.is_empty.Goals as goal

pub returns-in-None : goal.returns-in-None
returns-in-None c = (λ yes. no_first c.args.self.now.entries (sym c.in-None.ensures.entry), λ nothing. refl)
