-- The key was typed, or refused.
use Rattle.std.proofs.Common.{refl}
use Rattle.outside_switch.specs.Passing.{typed_of}
use Rattle.outside_switch.specs.Meets.{Seen, seen}
use Rattle.outside_switch.proofs.Acting.{typed_so}
use Rattle.outside_switch.proofs.Going.{acts}
use Rattle.outside_switch.proofs.switch.Switch.type_key.Goals as goal

pub returns-clause-goes : goal.returns-clause-goes
returns-clause-goes g c =
    let b : Seen = (record { devices = c.type_key.new.self; lines = c.args.self.now.lines.items }) in
    acts (seen c.args.self.now) b (typed_of c.type_key.result c.args.port c.args.byte)
    (typed_so c.args.port c.args.byte c.type_key.result (seen c.args.self.now) b c.type_key.ensures.answer
    c.type_key.ensures.after refl)
