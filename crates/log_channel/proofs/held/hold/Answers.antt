use Rattle.log_channel.proofs.HeldEntries.{held_first, held_push}
use Rattle.log_channel.proofs.held.hold.Goals as goal

pub returns-in-None-clause-ok : goal.returns-in-None-clause-ok
returns-in-None-clause-ok c =
    held_first c.args.front.now c.args.block.now c.args.entry c.in-None.is c.requires.block

pub returns-in-Some-clause-ok : goal.returns-in-Some-clause-ok
returns-in-Some-clause-ok c =
    let is = c.in-Some.is in
    let new = c.write.new.self in
    let written = c.write.ensures in
    let held = held_push c.write.result c.args.front.now _ c.args.entry c.args.block.now new is in
    (held c.requires.block c.requires.valid written.ok written.err).0

pub returns-in-Some-clause-block : goal.returns-in-Some-clause-block
returns-in-Some-clause-block c =
    let is = c.in-Some.is in
    let new = c.write.new.self in
    let written = c.write.ensures in
    let held = held_push c.write.result c.args.front.now _ c.args.entry c.args.block.now new is in
    (held c.requires.block c.requires.valid written.ok written.err).1
