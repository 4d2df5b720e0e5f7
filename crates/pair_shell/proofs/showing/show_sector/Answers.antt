-- What is printed is what was read of the sector.
use Rattle.pair_shell.proofs.Finding.{reads}
use Rattle.pair_shell.proofs.showing.show_sector.Goals as goal

pub returns-clause-found : goal.returns-clause-found
returns-clause-found g c =
    reads g.B.Lockstep.state g.B.Copies.copied g.B.Lockstep.machine c.args.printed.now c.print_sector.new.printed c.args.address
    c.args.world.now c.sector_of.new.world c.sector_of.result c.print_sector.result c.sector_of.ensures.unchanged
    c.sector_of.ensures.ok c.sector_of.ensures.missing c.sector_of.ensures.unknown c.print_sector.ensures
