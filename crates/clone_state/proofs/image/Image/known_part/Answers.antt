use Rattle.std.proofs.Common.{refl, arith}
use Rattle.clone_state.specs.Checkpoint.{checkpoint_in_parts}
use Rattle.clone_state.proofs.PartLaws.{parts_counted}
use Rattle.clone_state.proofs.image.Image.known_part.Goals as goal

pub write_payload-requires-clause-known : goal.write_payload-requires-clause-known
write_payload-requires-clause-known c =
    let counted = parts_counted (checkpoint_in_parts c.args.self.now.copied) c.args.self.now.copied.devices.disk.attached refl in omega arith
