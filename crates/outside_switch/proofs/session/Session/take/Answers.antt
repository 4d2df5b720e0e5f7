-- A body was counted that is not one too many, or has come as one too many.
use Rattle.std.proofs.Common.{◌≡◌, false, true, refl, sym, ◌∙◌}
use Rattle.outside_switch.proofs.Going.{still}
use Rattle.outside_switch.specs.Meets.{seen}
use Rattle.outside_switch.proofs.Counting.{flood_cause}
use Rattle.outside_switch.proofs.Cutting.{few, many}
use Rattle.outside_switch.proofs.TurnsGoing.{takes}
use Rattle.outside_switch.specs.Floods.{has_flooded, sent_one}
use Rattle.outside_switch.proofs.session.Session.take.Goals as goal

pub returns-else-take-clause-went : goal.returns-else-take-clause-went
returns-else-take-clause-went g c =
    let old = c.args.self.now in
    let new = record old { flood = c.take.new.self } in
    let too_many = has_flooded (sent_one c.args.place old.flood) c.args.place in
    let is : too_many ≡ c.take.result = sym c.take.ensures.many in
    let none : c.take.result ≡ false = c.if-take.false in
    takes old new c.args.place
    (few too_many c.args.place old new (is ∙ none)
    (record { flood_is = c.take.ensures.after; switch = refl }))
    (still (seen old.switch)) c.requires refl refl refl

pub returns-then-take-clause-went : goal.returns-then-take-clause-went
returns-then-take-clause-went g c =
    let old = c.args.self.now in
    let counted = record old { flood = c.take.new.self } in
    let too_many = has_flooded (sent_one c.args.place old.flood) c.args.place in
    let is : too_many ≡ true = sym c.take.ensures.many ∙ c.if-take.true in
    takes old c.cut_off.new.self c.args.place
    (many too_many c.args.place old counted c.cut_off.new.self is c.take.ensures.after refl c.cut_off.ensures.cut)
    c.cut_off.ensures.goes c.requires c.cut_off.ensures.ports.0 c.cut_off.ensures.ports.1 c.cut_off.ensures.screen

pub cut_off-requires : goal.cut_off-requires
cut_off-requires g c =
    let old = c.args.self.now in
    flood_cause old (record old { flood = c.take.new.self }) c.args.place c.requires refl
    (sym c.take.ensures.many ∙ c.if-take.true)
