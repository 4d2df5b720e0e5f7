-- The body came from the line of the place.
use Rattle.std.proofs.Common.{arith, refl, subst, sym}
use Rattle.outside_switch.specs.Goes.{NextSo}
use Rattle.outside_switch.specs.Meets.{seen}
use Rattle.outside_switch.proofs.Going.{heard_from, next_so, put_back}
use Rattle.outside_switch.proofs.switch.Switch.next.Goals as goal

pub returns : goal.returns
returns g c =
    subst (λ l. NextSo c.args.place c.next.result (seen c.args.self.now)
    (record { devices = c.args.self.now.devices; lines = l }))
    (sym (put_back c.args.self.now.lines.len c.next.new.lines c.args.self.now.lines.items (omega arith)))
    (next_so c.args.place c.next.result (seen c.args.self.now) (record { devices = c.args.self.now.devices; lines = c.next.new.lines })
    (heard_from c.args.place c.next.result c.deref_mut.result.now c.args.self.now.lines.items c.next.new.lines
    c.deref_mut.ensures.value c.next.ensures) refl)
