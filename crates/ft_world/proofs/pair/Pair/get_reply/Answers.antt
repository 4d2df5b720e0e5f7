-- The message is of another kind, or the sector is offered to the node.
use Rattle.std.proofs.Common.{◌≡◌, None, Some, sym}
use Rattle.std.specs.Option.{option_and_then}
use Rattle.std.specs.Prelude.{slice_get}
use Rattle.pair_events.specs.declared.event.Event.TheVariants as event
use Rattle.ft_world.specs.Messages.{sector_of}
use Rattle.ft_world.specs.Pairs.{running_of}
use Rattle.ft_world.proofs.DiskAnswers.{read_offered, read_unknown}
use Rattle.ft_world.proofs.pair.Pair.get_reply.Goals as goal

pub returns-in_default-clause-row : goal.returns-in_default-clause-row
returns-in_default-clause-row g c = λ course h.
    let brings : option_and_then sector_of (slice_get c.args.self.now.messages.items c.args.message) ≡ None = sym c.in_default.ensures in
    read_unknown g.B.Lockstep.state g.B.Copies.copied g.B.Lockstep.machine g.D.SectorStore.records (running_of c.args.self.now) course
    c.args.message c.args.node brings h

pub returns-clause-row : goal.returns-clause-row
returns-clause-row g c = λ course h.
    let brings : option_and_then sector_of (slice_get c.args.self.now.messages.items c.args.message) ≡ Some c.in-Some.read = sym c.in-Some.ensures in
    c.take.ensures.row course (event.GetReply c.args.message c.args.node)
    (read_offered g.B.Lockstep.state g.B.Copies.copied g.B.Lockstep.machine g.D.SectorStore.records (running_of c.args.self.now) course
    c.args.message c.args.node c.in-Some.read brings h) h
