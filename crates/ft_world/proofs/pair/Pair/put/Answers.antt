-- The message brings a write, or none.
use Rattle.std.proofs.Common.{◌≡◌, None, Some, sym}
use Rattle.std.specs.Option.{option_and_then}
use Rattle.std.specs.Prelude.{slice_get}
use Rattle.ft_world.specs.Messages.{write_of}
use Rattle.ft_world.specs.Pairs.{running_of}
use Rattle.ft_world.proofs.AtDisk.{puts_applies, puts_unknown}
use Rattle.ft_world.proofs.Refusing.{put_stays}
use Rattle.ft_world.proofs.pair.Pair.put.Goals as goal

pub returns-in_default-clause-row : goal.returns-in_default-clause-row
returns-in_default-clause-row g c = λ course h.
    let e : option_and_then write_of (slice_get c.args.self.now.messages.items c.args.message) ≡ None = sym c.in_default.ensures in
    puts_unknown g.B.Lockstep.state g.B.Copies.copied g.B.Lockstep.machine g.D.SectorStore.records (running_of c.args.self.now) course
    c.args.message e h

pub returns-clause-row : goal.returns-clause-row
returns-clause-row g c = λ course h.
    let e : option_and_then write_of (slice_get c.args.self.now.messages.items c.args.message)
    ≡ Some c.in-Some.write = sym c.in-Some.ensures in
    puts_applies g.B.Lockstep.state g.B.Copies.copied g.B.Lockstep.machine g.D.SectorStore.records (running_of c.args.self.now) course
    c.args.message c.in-Some.write c.put.result c.put.new.messages.items c.put.new.disk e h c.put.ensures.row

pub returns-clause-unchanged : goal.returns-clause-unchanged
returns-clause-unchanged g c =
    let e : option_and_then write_of (slice_get c.args.self.now.messages.items c.args.message)
    ≡ Some c.in-Some.write = sym c.in-Some.ensures in
    put_stays g.B.Lockstep.state g.B.Copies.copied g.B.Lockstep.machine g.D.SectorStore.records (running_of c.args.self.now)
    c.args.message c.in-Some.write c.put.result c.put.new.messages.items c.put.new.disk c.requires.shown e
    c.put.ensures.row c.put.ensures.untouched
