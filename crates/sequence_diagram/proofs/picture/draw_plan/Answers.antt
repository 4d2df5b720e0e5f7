-- The picture has the size of its plan.
use Rattle.std.proofs.Common.{rules, ◌≡◌, string_bytes}
use Rattle.sequence_diagram.specs.Geometry.{width_of}
use Rattle.sequence_diagram.specs.Plans.{height_over, width_in}
use Rattle.sequence_diagram.proofs.Sizing.{has_size}
use Rattle.sequence_diagram.proofs.picture.draw_plan.Goals as goal

pub returns : goal.returns
returns c =
    let plan = c.args.plan.now in
    let wide : c.picture_width-width.result ≡ width_of (width_in plan.columns.places.items) = search rules in
    let high : c.saturating_add-height.result ≡ height_over plan.bottom = search rules in
    has_size string_bytes c.finish.result c.picture_width-width.result c.saturating_add-height.result
    (width_of (width_in plan.columns.places.items)) (height_over plan.bottom) c.args.style.now
    (string_bytes c.draw_run.new.drawing.text) wide high c.finish.ensures
