-- The Altair of a setup is a machine that a pair may run, and two boards of it may begin.
use Rattle.std.proofs.Common.{◌≡◌, ◌∙◌, [], ◌<◌, ◌^◌, ◌≤◌, List, ap, refl, subst, sym, ℕ}
use Rattle.std.specs.Prelude.{IsTrue, length}
use Rattle.std.specs.Option.{option_map_or}
use Rattle.std.proofs.lemmas.Bool.{and_parts}
use Rattle.altair_laws.proofs.Drives.{selected_is}
use Rattle.altair_laws.specs.Copies.{IsSetup, TheImageCopies, image_copy}
use Rattle.disk_dcdd.specs.Address.{has_sector}
use Rattle.disk_dcdd.specs.Completion.{is_sector_due, is_selected}
use Rattle.disk_dcdd.specs.declared.address.SectorAddress.{SectorAddress}
use Rattle.disk_dcdd.specs.declared.controller.TheConstants.{DRIVES}
use Rattle.disk_dcdd.specs.declared.sector.TheConstants.{SECTOR_BYTES}
use Rattle.guest_parts.specs.Guest.{Guest}
use Rattle.guest_board.specs.Guest.{altair, guest_at_boot}
use Rattle.guest_memory.specs.declared.memory.TheConstants.{BYTES}
use Rattle.guest_board.specs.Inputs.{some_altair}
use Rattle.board_image.specs.DraftedBoard.{BoardsAreCopiedAsGuests, WithDraft}
use Rattle.clone_state.specs.Copies.{CopiesAs}
use Rattle.guest_lockstep.specs.Machine.{Machine, booted_from}
use Rattle.guest_lockstep.specs.Outstanding.{ComesAndGoes, completed_by}
use Rattle.guest_lockstep.specs.declared.input.Input.{Input}
use Rattle.guest_lockstep.specs.declared.input.Input.TheVariants.{Rx, Sector, Sent, Written}
use Rattle.guest_board.specs.declared.setup.Setup.{Setup}
use Rattle.guest_board.specs.MoveLaws.{guests_issue_and_complete}
use Rattle.shared_disk.specs.Records.{HasDrives, HasWholeSectors, IsUnwritten, record_at, bytes_in}
use Rattle.shared_disk.specs.declared.store.Record.{Record}
use Rattle.pair_protocol.specs.Copying.{IsCopying, Makes}
use Rattle.pair_protocol.specs.Lawful.{Lawful}
use Rattle.pair_protocol.specs.OnDisk.{StaysOnDisk, ReadyIsSelected}
use Rattle.ft_world.specs.Beginning.{MayBegin, beginning}
use Rattle.ft_world.specs.Standing.{Course, IsMachine, machine_of}
use Rattle.ft_world.proofs.Beginnings.{some_of}

-- what completes an operation does so wherever the machine boots
completed_there : {S : Type 0} (M : Machine S) (c : Course S) (s : S) (input : Input) →
    completed_by (machine_of M c) s input ≡ completed_by M s input
completed_there M c s (Rx port byte) = refl
completed_there M c s (Sent port) = refl
completed_there M c s (Sector drive sector number bytes) = refl
completed_there M c s (Written number) = refl

-- a machine whose operations come and go has operations that do so wherever it boots
is_machine : {S : Type 0} (M : Machine S) (c : Course S) (drives : ℕ) → Lawful (machine_of M c) → ComesAndGoes M →
    ReadyIsSelected M → drives ≤ DRIVES → StaysOnDisk (machine_of M c) drives → IsCopying (machine_of M c) c.copying →
    Makes (machine_of M c) c.copying → IsMachine (machine_of M c) c.copying drives
is_machine M c drives lawful operations ready within on_disk copies makes = record {
  lawful = lawful;
  operations = record {
    comes = operations.comes;
    quiet = operations.quiet;
    goes = λ s t input name takes is. operations.goes s t input name takes (sym (completed_there M c s input) ∙ is);
    stays = λ s t input takes is. operations.stays s t input takes (sym (completed_there M c s input) ∙ is);
  };
  drives_within = within;
  on_disk = on_disk;
  ready = λ s drive sector is. ready s drive sector is;
  copies = copies;
  makes = makes;
}

-- an Altair's sector is ready at the selected drive alone
ready_is_selected : ReadyIsSelected some_altair
ready_is_selected g drive sector ready =
    selected_is g.devices.disk drive (and_parts (is_selected g.devices.disk drive) (is_sector_due g.devices.disk sector) ready).0

-- a disk that has these drives, and only whole sectors, has all bytes of each of their sectors
pub whole_at_boot : (drives : ℕ) (records : List Record) → HasDrives records drives → HasWholeSectors records →
    (address : SectorAddress) → IsTrue (has_sector drives address) → length (bytes_in records address) ≡ SECTOR_BYTES
whole_at_boot drives records there whole address has =
    let r = some_of (record_at records address) (there address has) in
    ap (λ o. length (option_map_or (λ (u : Record). u.bytes) o [])) r.1 ∙ whole address r.0 r.1

-- the fields of a setup have their sizes, and so has each sector of a disk that has its drives
pub setup_is : (records : List Record) (setup : Setup) → length setup.levels ≡ 3 → length setup.memory.items ≡ BYTES →
    setup.sense < 2 ^ 8 → HasDrives records setup.drives → HasWholeSectors records → IsSetup setup (bytes_in records)
setup_is records setup levels memory sense there whole = record {
  levels = levels;
  memory = memory;
  sense = sense;
  disk = whole_at_boot setup.drives records there whole;
}

-- boards are copied by their images as guests are
pub boards_as_guests : BoardsAreCopiedAsGuests → (drives : ℕ) → CopiesAs (λ (d : WithDraft). d.board.guest)
    (λ (d : WithDraft). d.board.guest) drives (image_copy drives).parts (image_copy drives).part_count
    (image_copy drives).assemble
unfolding image_copy
boards_as_guests law drives = law drives

-- two guests of one setup may begin over a disk that has its drives, and on which nothing is written; they are copied by
-- their images
pub altairs_may_begin : {B D : Type 0} (state : B → Guest) (records : D → List Record) (setup : Setup)
    (primary backup : B) (store : D) →
    ((setup : Setup) (sectors : SectorAddress → List ℕ) → Lawful (altair setup sectors)) →
    ((setup : Setup) (sectors : SectorAddress → List ℕ) → StaysOnDisk (altair setup sectors) setup.drives) →
    TheImageCopies → ((drives : ℕ) → CopiesAs state state drives (image_copy drives).parts (image_copy drives).part_count
    (image_copy drives).assemble) → IsSetup setup (bytes_in (records store)) → setup.drives ≤ DRIVES →
    state primary ≡ guest_at_boot setup → state backup ≡ guest_at_boot setup →
    HasDrives (records store) setup.drives → IsUnwritten (records store) →
    MayBegin state state some_altair (image_copy setup.drives) records primary backup store
altairs_may_begin state records setup primary backup store lawful on_disk copies as_guests is within first second there unwritten =
    let sectors = bytes_in (records store) in
    let copied = copies setup sectors is in record {
      drives = setup.drives;
      machine = subst
          (λ s. IsMachine (booted_from some_altair s (bytes_in (records store)))
          (image_copy setup.drives) setup.drives)
          (sym first)
          (is_machine some_altair
          (beginning some_altair (image_copy setup.drives) setup.reads (guest_at_boot setup) (records store)) setup.drives
          (lawful setup sectors) guests_issue_and_complete ready_is_selected within (on_disk setup sectors) copied.0 copied.1);
      copies_as = as_guests setup.drives;
      alike = second ∙ sym first;
      there = there;
      unwritten = unwritten;
    }
