use Rattle.std.proofs.Common.{[], ◌∷◌, ◌++◌, ap, ◌∙◌}
use Rattle.log_channel.specs.Channel.{Receiving, holding}
use Rattle.log_entry.specs.declared.entry.Entry.TheVariants.{Mark, Rx}
use Rattle.crate_tests.proofs.replays.held.Goals as goal

pub returns : goal.returns
returns g c =
    ap (λ (r : Receiving). r.entries) c.hold-2.ensures
    ∙ ap (λ (r : Receiving). r.entries ++ Mark 2 ∷ [])
    (c.hold.ensures ∙ ap (λ (r : Receiving). holding r (Rx 0 0 0x48)) c.new-receiver.ensures)
