use Rattle.std.proofs.Common.{sym, ap, ◌∙◌}
use Rattle.clone_state.specs.Checkpoint.{FirstPart}
use Rattle.clone_state.specs.FirstPart.{first_of_image}
use Rattle.clone_state.specs.Possible.{is_controller}
use Rattle.clone_state.specs.Reading.{controller_of, controller_with, fields_of, first_of, if_possible}
use Rattle.clone_state.proofs.Decided.{no_controller, none_is, one_is, passed, refused}
use Rattle.clone_state.proofs.reading.first_part.possible_part.Goals as goal

pub returns-in_default : goal.returns-in_default
returns-in_default c =
    let d = controller_with c.args.fields.attached (controller_of c.args.fields.devices.controller) in
    sym (no_controller (first_of_image (fields_of c.args.fields)) (none_is d (is_controller d) c.in_default.ensures))

pub is_possible-requires : goal.is_possible-requires
is_possible-requires c =
    let d = controller_with c.args.fields.attached (controller_of c.args.fields.devices.controller) in
    ap (λ (f : FirstPart). is_controller f.devices.disk) c.part_with-part.ensures
    ∙ (one_is d c.in-Some.disk (is_controller d) c.in-Some.ensures).0

pub returns-then-not-is_possible : goal.returns-then-not-is_possible
returns-then-not-is_possible c =
    sym (ap if_possible (sym c.part_with-part.ensures)
    ∙ refused (first_of c.part_with-part.result) c.is_possible.result c.is_possible.ensures c.if-not-is_possible.true)

pub returns : goal.returns
returns c =
    sym (ap if_possible (sym c.part_with-part.ensures)
    ∙ passed (first_of c.part_with-part.result) c.is_possible.result c.is_possible.ensures c.if-not-is_possible.false)
