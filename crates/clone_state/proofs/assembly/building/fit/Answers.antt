-- The tables are all the payloads after the pages.
use Rattle.std.proofs.Common.{List, Option, ℕ, ap, ◌∙◌}
use Rattle.std.specs.List.{list_all}
use Rattle.clone_state.specs.Slots.{fit_slots}
use Rattle.clone_state.proofs.Made.{all_after}
use Rattle.clone_state.proofs.assembly.building.fit.Goals as goal

pub returns : goal.returns
returns c =
    c.all_fit.ensures
    ∙ ap (λ (ss : List (Option (List ℕ))). list_all (fit_slots c.args.disk.now) ss) (all_after 256 c.args.later.now)
