-- The pieces of the line come one after another.
use Rattle.shell_language.proofs.Adding.{adds_words}
use Rattle.shell_language.proofs.printing.Printed.around.Goals as goal

pub returns-clause-shown : goal.returns-clause-shown
returns-clause-shown g c =
    adds_words (g.D.Display.output c.args.front.now) c.args.fault (g.E.Display.output c.args.back.now) c.args.self.now c.begin.new.self
    c.add.new.self c.add-2.new.self c.add-3.new.self c.end.new.self c.in_ok-begin.ensures c.in_ok-add.ensures.shown
    c.in_ok-add-2.ensures.shown c.in_ok-add-3.ensures.shown c.in_ok-end.ensures
