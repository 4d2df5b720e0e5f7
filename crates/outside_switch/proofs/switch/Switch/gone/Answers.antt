-- The host is cut off, and the others are told.
use Rattle.outside_switch.specs.Meets.{seen}
use Rattle.outside_switch.proofs.Acting.{gone_met}
use Rattle.outside_switch.proofs.Going.{acts, closes, then_with}
use Rattle.std.proofs.Common.{[], ◌∙◌}
use Rattle.outside_switch.proofs.Lines.{closed_now, others_open, still_open}
use Rattle.outside_switch.proofs.switch.Switch.gone.Goals as goal

pub returns-clause-goes : goal.returns-clause-goes
returns-clause-goes g c =
    let mid = seen c.close.new.self in
    let new = seen c.post_all.new.self in
    then_with (seen c.args.self.now) mid new [] [] (closes (seen c.args.self.now) mid c.args.place c.requires c.close.ensures)
    (acts mid new [] (gone_met c.args.place mid new c.post_all.ensures.devices c.post_all.ensures.posts))

pub returns-clause-cut : goal.returns-clause-cut
returns-clause-cut g c =
    let posts = c.post_all.ensures.posts in
    still_open posts.pushed c.close.new.self.lines.items c.post_all.new.self.lines.items c.args.place posts.lines
    ∙ closed_now c.args.self.now.lines.items c.close.new.self.lines.items c.args.place c.close.ensures.lines

pub returns-clause-others : goal.returns-clause-others
returns-clause-others g c = λ other differs.
    let posts = c.post_all.ensures.posts in
    still_open posts.pushed c.close.new.self.lines.items c.post_all.new.self.lines.items other posts.lines
    ∙ others_open c.args.self.now.lines.items c.close.new.self.lines.items c.args.place other c.close.ensures.lines differs
