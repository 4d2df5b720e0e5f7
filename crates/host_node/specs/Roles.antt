-- Which nodes may ask the arbiter.
use Rattle.pair_events.specs.declared.reply.Role.{Role}
use Rattle.pair_events.specs.declared.reply.Role.TheVariants.{Primary, Backup, Joining, Draining, Alone, Halted}

-- those whose peer may fail them
abbrev pub MayAsk : Role → Type 0
MayAsk Primary = Unit {0}
MayAsk Backup = Unit {0}
MayAsk Joining = ⊥
MayAsk Draining = ⊥
MayAsk Alone = ⊥
MayAsk Halted = ⊥
