use Rattle.altair_laws.proofs.MayBeCopied.{copyable}
use Rattle.altair_laws.proofs.copies.altairs_may_be_copied.Goals as goal

pub returns : goal.returns
returns c setup sectors is moves g whole r =
    copyable setup sectors is (c.altairs_are_lawful.ensures setup sectors) moves g
    (c.altairs_stay_within.ensures setup sectors moves g r) whole r
