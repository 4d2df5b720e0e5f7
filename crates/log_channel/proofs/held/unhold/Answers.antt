use Rattle.std.proofs.Common.{◌∙◌, sym}
use Rattle.log_channel.proofs.HeldEntries.{first_held, unheld}
use Rattle.log_channel.proofs.held.unhold.Goals as goal

pub returns-in_err-first-clause-entry : goal.returns-in_err-first-clause-entry
returns-in_err-first-clause-entry c =
    let first = first_held c.args.front.now c.args.block.now c.requires in
    c.from_residual.ensures ∙ sym (c.in_err-first.was) ∙ c.take.ensures.value ∙ sym first

pub returns-clause-after : goal.returns-clause-after
returns-clause-after c =
    let old = c.args.block.now in
    let new = c.take_first.new.block in
    let is = sym c.take.ensures.value ∙ c.in_ok-first.was in
    (unheld c.args.front.now c.in_ok-first.first old c.take_first.result new is c.requires c.take_first.ensures).1

pub returns-clause-block : goal.returns-clause-block
returns-clause-block c =
    let old = c.args.block.now in
    let new = c.take_first.new.block in
    let is = sym c.take.ensures.value ∙ c.in_ok-first.was in
    (unheld c.args.front.now c.in_ok-first.first old c.take_first.result new is c.requires c.take_first.ensures).0
