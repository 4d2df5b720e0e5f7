use Rattle.std.proofs.Common.{◌∙◌, sym}
use Rattle.log_channel.proofs.HeldEntries.{first_held, first_valid}
use Rattle.log_channel.proofs.receiver.Receiver.front.Goals as goal

pub returns-clause-entry : goal.returns-clause-entry
returns-clause-entry c =
    let first = first_held c.self.inside.front c.self.inside.block c.self.invariant.block in
    rw (← c.self.view_is) (c.as_ref.ensures.value ∙ sym first)

pub returns-clause-valid : goal.returns-clause-valid
returns-clause-valid c =
    rw (← c.self.view_is) (first_valid c.self.inside.front c.self.inside.block c.self.invariant.block)
