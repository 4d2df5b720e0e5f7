-- The bytes are copied, as many as a sector has, and the zeros after them stay.
use Rattle.shell_language.proofs.Sectors.{padded_is}
use Rattle.shell_language.proofs.opening.padded.Goals as goal

pub returns : goal.returns
returns c =
    padded_is c.min-count.result c.args.given.now c.copy_from_slice.new.self c.min-count.ensures c.copy_from_slice.ensures.after
