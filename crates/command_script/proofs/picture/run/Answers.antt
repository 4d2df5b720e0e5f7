-- What is told is of the pair that the script's setup boots.
use Rattle.command_script.proofs.Starting.{told_of}
use Rattle.command_script.proofs.picture.run.Goals as goal

pub returns-clause-told : goal.returns-clause-told
returns-clause-told g c =
    told_of (λ d. d.board.guest) c.args.input.now.script.setup c.args.input.now.script.lines.items c.deref-2.result.now
    c.deref-2.ensures.value c.args.input.now.sectors.items c.deref.result.now c.deref.ensures.value c.in_ok-world.world
    c.in_ok-world.ensures.booted c.in_ok-moments.moments.items c.tell_each.new.world c.in_ok-moments.ensures
