-- Each move that cuts a host off has one.
use Rattle.outside_switch.proofs.Causing.{cuts_have_causes}
use Rattle.outside_switch.proofs.laws.cuts_have_causes.Goals as goal

pub returns : goal.returns
returns c = record { causes = cuts_have_causes }
