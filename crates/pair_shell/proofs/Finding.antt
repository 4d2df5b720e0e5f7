-- What is printed of a query or of a sector is what the world has that is shown.
use Rattle.std.proofs.Common.{◌≡◌, ◌∙◌, ℕ, arith, List, Result, Ok, Err, IfOk, refl, subst, sym}
use Rattle.std.specs.Prelude.{IfErr, IsSome, IsTrue, OnErr}
use Rattle.clone_state.specs.Parts.{part_count}
use Rattle.disk_dcdd.specs.Address.{has_sector}
use Rattle.disk_dcdd.specs.declared.address.SectorAddress.{SectorAddress}
use Rattle.ft_world.specs.Applies.{IsSectorOf, Shows}
use Rattle.ft_world.specs.Running.{Running}
use Rattle.ft_world.specs.Standing.{Course, machine_of}
use Rattle.guest_lockstep.specs.Machine.{Machine}
use Rattle.guest_parts.specs.Guest.{Guest}
use Rattle.i8080_words.specs.declared.refusal.Fault.{Fault}
use Rattle.i8080_words.specs.declared.refusal.Fault.TheVariants.{Unknown}
use Rattle.altair_pair.proofs.Disks.{shows_records}
use Rattle.altair_pair.specs.Disks.{over_records}
use Rattle.altair_pair.specs.Queries.{Finds}
use Rattle.pair_shell.specs.Looking.{Asks, IsSectorFound, Reads}
use Rattle.script_language.specs.declared.line.Query.{Query}
use Rattle.shared_disk.specs.Failing.{Disk, records_in}
use Rattle.shared_disk.specs.Records.{IsThere}
use Rattle.shared_disk.specs.declared.disk.SectorRead.{SectorRead}
use Rattle.shared_disk.specs.declared.store.Record.{Record}
use Rattle.shell_language.specs.Texts.{AddsLine, Prints}
use Rattle.shell_language.specs.declared.printing.Printed.{Printed}
use Rattle.shell_picture.specs.Sectors.{sector_rows}

-- images with as many parts are of machines with as many drives
same_drives : (drives other : ℕ) → part_count drives ≡ part_count other → drives ≡ other
same_drives drives other same = omega (arith, same)

module _ {B H S : Type 0} (state : B → S) (copied : B → Guest) (M : Machine S) (old new : Printed) where
  -- the line that answers a query
  pub asks : {X E : Type 0} (query : Query) (world : Running B H Disk) (text : List ℕ) (result : Result X E)
      → ((c : Course S) → Shows state copied M records_in world c → Finds M c.world query text)
      → IfOk result (λ done. AddsLine text old new) → IfOk result (λ done. Asks state copied M query world old new)
  asks query world text (Ok done) finds adds = λ c shows. (text, (finds c shows, adds))
  asks query world text (Err refused) finds adds = tt

  -- the disk has each sector of the drives
  not_had : (address : SectorAddress) (records : Running B H (List Record)) (c : Course S)
      → Shows state copied M (λ records. records) records c → (IsThere records.disk address → ⊥)
      → (drives : ℕ) → c.copying.part_count ≡ part_count drives → IsTrue (has_sector drives address) → ⊥
  not_had address records c shows missing drives parts has =
      let same = same_drives drives shows.drives (sym parts ∙ shows.copies_as.counted) in
      let r = shows.parts.disk.there address (subst (λ d. IsTrue (has_sector d address)) same has) in
      missing (subst IsSome (sym r.1) refl)

  sector_found : (address : SectorAddress) (before world : Running B H Disk) (read : Result SectorRead Fault)
      → over_records world ≡ over_records before
      → IfOk read (λ found. (c : Course S) → Shows state copied M (λ records. records) (over_records before) c
      → IsSectorOf (machine_of M c) c.world address found)
      → OnErr read (IsThere (over_records before).disk address → ⊥) → IfErr read (λ fault. fault ≡ Unknown)
      → (c : Course S) → Shows state copied M records_in world c → IsSectorFound M c address read
  sector_found address before world (Ok found) same is missing unknown c shows =
      is c (subst (λ v. Shows state copied M (λ records. records) v c) same (shows_records state copied M world c shows))
  sector_found address before world (Err fault) same is missing unknown c shows = (
    unknown,
    not_had address (over_records before) c
        (subst (λ v. Shows state copied M (λ records. records) v c) same (shows_records state copied M world c shows)) missing,
  )

  -- what was read of a sector is printed
  pub reads : {X E : Type 0} (address : SectorAddress) (before world : Running B H Disk) (read : Result SectorRead Fault)
      (result : Result X E) → over_records world ≡ over_records before
      → IfOk read (λ found. (c : Course S) → Shows state copied M (λ records. records) (over_records before) c
      → IsSectorOf (machine_of M c) c.world address found)
      → OnErr read (IsThere (over_records before).disk address → ⊥) → IfErr read (λ fault. fault ≡ Unknown)
      → IfOk result (λ done. Prints (sector_rows address read) old new)
      → IfOk result (λ done. Reads state copied M address world old new)
  reads address before world read (Ok done) same is missing unknown prints = λ c shows.
      (read, (sector_found address before world read same is missing unknown c shows, prints))
  reads address before world read (Err refused) same is missing unknown prints = tt
