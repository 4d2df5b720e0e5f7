-- The next body was heard, and counted.
use Rattle.std.proofs.Common.{◌∙◌, subst, sym}
use Rattle.outside_switch.proofs.Counting.{one_came}
use Rattle.outside_switch.specs.Floods.{came_of}
use Rattle.outside_switch.specs.Judging.{Judges}
use Rattle.outside_switch.proofs.session.Session.hear_next.Goals as goal

pub judge-requires : goal.judge-requires
judge-requires g c = λ taken.
    one_came c.args.self.now c.hear_one-heard.new.self c.args.place c.hear_one-heard.result c.is_open-is_open.result
    c.hear_one-heard.ensures.hears c.requires (sym c.came_of.ensures ∙ taken)

pub returns-clause-hears : goal.returns-clause-hears
returns-clause-hears g c =
    let old = c.args.self.now in
    let heard = c.hear_one-heard.result in
    record {
      heard = heard;
      met = c.hear_one-heard.new.self;
      hears = c.hear_one-heard.ensures.hears;
      judges = subst (λ o. Judges (came_of heard o) c.args.place c.hear_one-heard.new.self c.judge.new.self)
          c.is_open-is_open.ensures
          (subst (λ came. Judges came c.args.place c.hear_one-heard.new.self c.judge.new.self) c.came_of.ensures
          c.judge.ensures.judges);
    }
