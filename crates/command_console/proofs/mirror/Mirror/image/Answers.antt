-- The image of this copy is one of some copy.
use Rattle.command_console.proofs.Mirrors.{of_copy}
use Rattle.command_console.proofs.mirror.Mirror.image.Goals as goal

pub returns : goal.returns
returns c = of_copy c.image_now.result c.args.self.now c.image_now.new.self.writes c.args.drive c.image_now.ensures
