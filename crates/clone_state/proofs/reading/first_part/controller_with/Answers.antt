use Rattle.std.proofs.Common.{ap, ◌∙◌, List, map}
use Rattle.disk_dcdd.specs.Sector.{place_of}
use Rattle.clone_state.specs.Reading.{controller_of, controller_with, writes_in}
use Rattle.clone_state.specs.declared.reading.controller.Outstanding.{Outstanding}
use Rattle.clone_state.proofs.Decided.{rebuilt_with}
use Rattle.clone_state.proofs.reading.first_part.controller_with.Goals as goal

pub returns : goal.returns
returns c =
    c.ok.ensures.value
    ∙ rebuilt_with (controller_with c.args.attached (controller_of c.args.fields.now)) c.deref-2.result.now c.rebuild.result
    (c.deref-2.ensures.0 ∙ c.places_of-outstanding.ensures
    ∙ ap (λ (ws : List Outstanding). map place_of (writes_in ws)) c.deref.ensures.0)
    (record { drives = c.has_all.ensures; current = c.is_whole.ensures }) c.rebuild.ensures.stands c.rebuild.ensures.as_imaged
