-- The image of a drive on which nothing is written is zeros.
use Rattle.std.proofs.Common.{◌≡◌, refl}
use Rattle.std.specs.Prelude.{replicate}
use Rattle.disk_file.specs.FileBytes.{blank_image}

pub blank_is : replicate 337568 0 ≡ blank_image
unfolding blank_image
blank_is = refl
