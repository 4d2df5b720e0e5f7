-- Both guests are as the setup has them, and the Altair of a setup, copied by its image, is a machine that a pair may run.
use Rattle.std.proofs.Common.{◌∙◌, ap, subst, sym}
use Rattle.altair_laws.specs.Copies.{image_copy}
use Rattle.board_image.specs.DraftedBoard.{WithDraft}
use Rattle.guest_parts.specs.Board.{OnBoard}
use Rattle.guest_board.specs.Inputs.{some_altair}
use Rattle.ft_world.specs.Applies.{IsFaithful, Shows}
use Rattle.ft_world.specs.Beginning.{beginning}
use Rattle.altair_pair.proofs.Beginnings.{altairs_may_begin, boards_as_guests, setup_is}
use Rattle.altair_pair.proofs.beginning.boot_pair.Goals as goal

pub begin_in-requires : goal.begin_in-requires
begin_in-requires g c =
    let may = altairs_may_begin (λ (d : WithDraft). d.board.guest) g.D.SectorStore.records c.args.setup.now c.of-primary.result
    c.of-backup.result c.args.store c.altairs_are_lawful.ensures c.altairs_stay_on_their_disks.ensures
    c.the_image_copies.ensures (boards_as_guests c.boards_are_copied_as_guests.ensures)
    (setup_is (g.D.SectorStore.records c.args.store) c.args.setup.now c.sizes.ensures.levels
    (sym c.args.setup.now.memory.ok.0 ∙ c.args.setup.now.whole) c.sizes.ensures.sense c.requires.drives c.has_whole_sectors.ensures)
    c.args.setup.now.few (ap (λ (d : WithDraft). d.board.guest) c.of-primary.ensures ∙ ap (λ (board : OnBoard). board.guest) c.boot_in.ensures)
    (ap (λ (d : WithDraft). d.board.guest) c.of-backup.ensures ∙ ap (λ (board : OnBoard). board.guest) c.boot_in-2.ensures) c.requires.drives c.requires.unwritten in
    record { may = (image_copy c.args.setup.now.drives, may) }

pub returns-clause-ok : goal.returns-clause-ok
returns-clause-ok g c =
    let records = g.D.SectorStore.records c.args.store in
    let C = image_copy c.args.setup.now.drives in
    let may = altairs_may_begin (λ (d : WithDraft). d.board.guest) g.D.SectorStore.records c.args.setup.now c.of-primary.result
    c.of-backup.result c.args.store c.altairs_are_lawful.ensures c.altairs_stay_on_their_disks.ensures
    c.the_image_copies.ensures (boards_as_guests c.boards_are_copied_as_guests.ensures)
    (setup_is (g.D.SectorStore.records c.args.store) c.args.setup.now c.sizes.ensures.levels
    (sym c.args.setup.now.memory.ok.0 ∙ c.args.setup.now.whole) c.sizes.ensures.sense c.requires.drives c.has_whole_sectors.ensures)
    c.args.setup.now.few (ap (λ (d : WithDraft). d.board.guest) c.of-primary.ensures ∙ ap (λ (board : OnBoard). board.guest) c.boot_in.ensures)
    (ap (λ (d : WithDraft). d.board.guest) c.of-backup.ensures ∙ ap (λ (board : OnBoard). board.guest) c.boot_in-2.ensures) c.requires.drives c.requires.unwritten in
    subst
    (λ s. Shows (λ (d : WithDraft). d.board.guest) (λ (d : WithDraft). d.board.guest) some_altair g.D.SectorStore.records
    c.begin_in.result (beginning some_altair C c.args.setup.now.reads s records))
    (ap (λ (d : WithDraft). d.board.guest) c.of-primary.ensures ∙ ap (λ (board : OnBoard). board.guest) c.boot_in.ensures) (c.begin_in.ensures.shows C may)

pub returns-clause-faithful : goal.returns-clause-faithful
returns-clause-faithful g c =
    let records = g.D.SectorStore.records c.args.store in
    let C = image_copy c.args.setup.now.drives in
    let may = altairs_may_begin (λ (d : WithDraft). d.board.guest) g.D.SectorStore.records c.args.setup.now c.of-primary.result
    c.of-backup.result c.args.store c.altairs_are_lawful.ensures c.altairs_stay_on_their_disks.ensures
    c.the_image_copies.ensures (boards_as_guests c.boards_are_copied_as_guests.ensures)
    (setup_is (g.D.SectorStore.records c.args.store) c.args.setup.now c.sizes.ensures.levels
    (sym c.args.setup.now.memory.ok.0 ∙ c.args.setup.now.whole) c.sizes.ensures.sense c.requires.drives c.has_whole_sectors.ensures)
    c.args.setup.now.few (ap (λ (d : WithDraft). d.board.guest) c.of-primary.ensures ∙ ap (λ (board : OnBoard). board.guest) c.boot_in.ensures)
    (ap (λ (d : WithDraft). d.board.guest) c.of-backup.ensures ∙ ap (λ (board : OnBoard). board.guest) c.boot_in-2.ensures) c.requires.drives c.requires.unwritten in
    subst (λ s. IsFaithful some_altair (beginning some_altair C c.args.setup.now.reads s records))
    (ap (λ (d : WithDraft). d.board.guest) c.of-primary.ensures ∙ ap (λ (board : OnBoard). board.guest) c.boot_in.ensures) (c.begin_in.ensures.faithful C may)
