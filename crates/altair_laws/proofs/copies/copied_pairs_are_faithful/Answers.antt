-- The laws of a pair that makes any copies, for the image.
use Rattle.altair_laws.specs.Copies.{image_copy}
use Rattle.altair_laws.proofs.copies.copied_pairs_are_faithful.Goals as goal

pub returns-clause-faithful : goal.returns-clause-faithful
returns-clause-faithful c setup sectors is =
    c.altair_pairs_are_faithful.ensures.faithful setup sectors (image_copy setup.drives)
    (c.the_image_copies.ensures setup sectors is).0

pub returns-clause-grows : goal.returns-clause-grows
returns-clause-grows c setup sectors is =
    c.altair_pairs_are_faithful.ensures.grows setup sectors (image_copy setup.drives)
    (c.the_image_copies.ensures setup sectors is).0
