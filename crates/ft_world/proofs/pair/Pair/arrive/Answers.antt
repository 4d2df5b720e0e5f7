-- The message brings a byte, or none.
use Rattle.std.proofs.Common.{◌≡◌, None, Some}
use Rattle.std.specs.Option.{option_and_then}
use Rattle.std.specs.Prelude.{slice_get}
use Rattle.ft_world.specs.Messages.{byte_of}
use Rattle.ft_world.specs.Pairs.{running_of}
use Rattle.ft_world.proofs.AtTerminals.{arrives_applies, arrives_unknown}
use Rattle.ft_world.proofs.pair.Pair.arrive.Goals as goal

pub returns-in_default-clause-row : goal.returns-in_default-clause-row
returns-in_default-clause-row g c = λ course h.
    let e : option_and_then byte_of (slice_get c.args.self.now.messages.items c.args.message) ≡ None = (cc) in
    arrives_unknown g.B.Lockstep.state g.B.Copies.copied g.B.Lockstep.machine g.D.SectorStore.records (running_of c.args.self.now) course
    c.args.message e h

pub returns-clause-row : goal.returns-clause-row
returns-clause-row g c = λ course h.
    let e : option_and_then byte_of (slice_get c.args.self.now.messages.items c.args.message)
    ≡ Some (c.in-Some.port, c.in-Some.number, c.in-Some.byte) = (cc) in
    arrives_applies g.B.Lockstep.state g.B.Copies.copied g.B.Lockstep.machine g.D.SectorStore.records (running_of c.args.self.now) course
    c.args.message c.in-Some.port c.in-Some.number c.in-Some.byte c.arrive.result c.arrive.new.terminals e h
    c.arrive.ensures
