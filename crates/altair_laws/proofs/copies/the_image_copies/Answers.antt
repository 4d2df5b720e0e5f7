use Rattle.std.proofs.Common.{◌≡◌, Some, sym, ap, subst, ◌∙◌}
use Rattle.std.proofs.lemmas.Option.{same_Some}
use Rattle.guest_board.specs.Guest.{altair}
use Rattle.clone_state.specs.Checkpoint.{checkpoint_of}
use Rattle.clone_state.specs.Parts.{guest_in, part_count, parts_of}
use Rattle.pair_protocol.specs.Copying.{Makes}
use Rattle.altair_laws.specs.Copies.{image_copy}
use Rattle.altair_laws.proofs.Owned.{owned_whole}
use Rattle.altair_laws.proofs.copies.the_image_copies.Goals as goal

pub returns : goal.returns
unfolding image_copy
returns c setup sectors is =
    let stands = c.altairs_stay_within.ensures in
    let law = c.parts_make_their_machines.ensures in
    let whole = owned_whole setup sectors is.disk (c.altairs_stay_on_their_disks.ensures setup sectors)
    (stands setup sectors) in
    let makes : Makes (altair setup sectors) (image_copy setup.drives) = λ moves s r own. subst (λ n. guest_in n (parts_of (checkpoint_of s)) ≡ Some s)
    (stands setup sectors moves s r).sizes.attached
    (law.makes s (c.altairs_may_be_copied.ensures setup sectors is moves s (whole moves s r own) r)) in (
      record {
        counted = λ moves s r. law.counted (checkpoint_of s)
            ∙ ap part_count (stands setup sectors moves s r).sizes.attached;
        again = λ moves s t r own made. same_Some t s (sym made ∙ makes moves s r own);
      },
      makes,
    )
