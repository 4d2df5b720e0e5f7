-- The world that a script begins in: what a pair that has booted shows; there is one for each setup.
use Rattle.std.proofs.Common.{◌≡◌, ◌≤◌, ℕ, zero, suc, ◌+◌, ◌-◌, List, [], Option, Some, ap, arith, refl, subst, sym, ◌∙◌}
use Rattle.std.specs.Prelude.{replicate, if◌then◌else◌, None}
use Rattle.std.specs.Option.{option_map_or}
use Rattle.altair_laws.specs.Copies.{image_copy}
use Rattle.disk_dcdd.specs.Address.{bytes_with_all}
use Rattle.disk_dcdd.specs.declared.sector.SectorWrite.{SectorWrite}
use Rattle.disk_dcdd.specs.declared.sector.TheConstants.{SECTOR_BYTES}
use Rattle.std.specs.Prelude.{Result}
use Rattle.ft_world.specs.Applies.{Shows}
use Rattle.ft_world.specs.Beginning.{beginning}
use Rattle.ft_world.specs.Standing.{Course, machine_of}
use Rattle.altair_pair.specs.Alike.{ShownIsSame}
use Rattle.altair_pair.specs.Comparing.{IsVerdictOn}
use Rattle.command_script.specs.Answering.{Happen}
use Rattle.command_script.specs.Printing.{AnswersLines, IsSameAfter, Prints, PrintsVerdict}
use Rattle.command_script.specs.Running.{HasFailed, HaveHappened}
use Rattle.command_script.specs.Telling.{HaveTold, IsToldOf, Told, failures_in_all}
use Rattle.command_io.specs.declared.failure.Failure.{Failure}
use Rattle.command_script.specs.declared.order.ScriptTask.TheVariants.{Script, Check}
use Rattle.command_script.proofs.Answering.{says_more}
use Rattle.command_script.proofs.Lines.{fails_within}
use Rattle.script_language.specs.declared.line.Line.{Line}
use Rattle.ft_world.specs.Running.{Running}
use Rattle.guest_parts.specs.Guest.{Guest}
use Rattle.guest_board.specs.Guest.{altair, guest_at_boot}
use Rattle.guest_board.specs.Inputs.{some_altair}
use Rattle.guest_lockstep.specs.Machine.{Machine}
use Rattle.altair_pair.specs.Alike.{BeginAlike}
use Rattle.shared_disk.specs.Failing.{Disk, failures_of, records_in}
use Rattle.pair_protocol.specs.World.{World, opening, with_host}
use Rattle.command_script.specs.Answering.{Booted}
use Rattle.altair_pair.specs.Booting.{HostsCome, IsBooted, Pair, Spare}
use Rattle.plain_single.specs.Image.{boot_sectors, zero_sector}
use Rattle.script_language.specs.declared.setup.ScriptSetup.{ScriptSetup}
use Rattle.shared_disk.specs.Records.{IsAtBoot, boot_record, bytes_in}
use Rattle.shared_disk.specs.declared.store.Record.{Record}
use Rattle.sequence_diagram.specs.declared.moment.Moment.{Moment}

zeros_are : zero_sector ≡ replicate SECTOR_BYTES 0
unfolding zero_sector
zeros_are = refl

-- a disk at boot begins as its sectors say
begins : (store : List Record) (drives : ℕ) (sectors : List SectorWrite) → IsAtBoot store drives sectors
    → BeginAlike drives (bytes_in store) (boot_sectors sectors)
begins store drives sectors at_boot address on =
    ap (λ o. option_map_or (λ (r : Record). r.bytes) o [])
    (at_boot address
    ∙ ap (λ b. if b then Some (boot_record (bytes_with_all sectors address (replicate SECTOR_BYTES 0))) else None) on)
    ∙ ap (λ bytes. bytes_with_all sectors address bytes) (sym zeros_are)

-- a pair that has booted
pub booted_as : {B H : Type 0} (state : B → Guest) (setup : ScriptSetup) (wanted sectors : List SectorWrite)
    (v : Running B H Disk) → sectors ≡ wanted
    → IsBooted state state some_altair (image_copy setup.guest.drives) setup.guest.reads (guest_at_boot setup.guest)
    setup.guest.drives setup.failing_access setup.hosts sectors v → Booted setup wanted
booted_as state setup wanted sectors v are b = record {
  start = bytes_in b.store;
  has_sectors = subst (λ l. BeginAlike setup.guest.drives (bytes_in b.store) (boot_sectors l)) are
      (begins b.store setup.guest.drives sectors b.at_boot);
  world = b.world;
  come = b.come;
}

-- any number of spare hosts may come
come : {S : Type 0} (M : Machine S) (w : World S) (more : ℕ) → (v : World S) × HostsCome M w (more + 2) v
come M w zero = (w, Pair)
come M w (suc more) = let r = come M w more in (with_host M r.0, subst (λ n. HostsCome M w n (with_host M r.0)) (omega arith) (Spare r.1))

pub some_booted : (setup : ScriptSetup) (sectors : List SectorWrite) → Booted setup sectors
some_booted setup sectors =
    let start = boot_sectors sectors in
    let w = opening (altair setup.guest start) setup.guest.reads in
    let r = come (altair setup.guest start) w (setup.hosts - 2) in
    record {
      start = start;
      has_sectors = λ address on. refl;
      world = r.0;
      come = subst (λ n. HostsCome (altair setup.guest start) w n r.0) (let two = setup.pair in omega arith) r.1;
    }

-- ---- what a pair that has booted prints

module _ {B H : Type 0} (state : B → Guest) (setup : ScriptSetup) (lines given : List Line) (same : given ≡ lines)
    (wanted sectors : List SectorWrite) (are : sectors ≡ wanted) (v : Running B H Disk)
    (b : IsBooted state state some_altair (image_copy setup.guest.drives) setup.guest.reads (guest_at_boot setup.guest)
    setup.guest.drives setup.failing_access setup.hosts sectors v) where
  first : Course Guest
  first = record (beginning some_altair (image_copy setup.guest.drives) setup.guest.reads (guest_at_boot setup.guest) b.store) {
    world = b.world;
  }

  booted : Booted setup wanted
  booted = booted_as state setup wanted sectors v are b

  -- its device fails no more often than the setup says
  within : (after : Running B H Disk) (failures : ℕ) → HasFailed v failures after → failures ≤ failures_of setup.failing_access
  within after failures counted =
      subst (λ n. failures ≤ failures_of n) b.fails_at (fails_within v after failures counted)

  -- by a script
  pub prints_answers : (result : Result (Unit {0}) Failure) (old new : Option (List ℕ))
      → ((c : Course Guest) → Shows state state some_altair records_in v c
      → AnswersLines (machine_of some_altair c) c.copying c.world given (failures_of v.disk.left) result old new)
      → Prints Script setup wanted lines result old new
  unfolding first booted booted_as
  prints_answers result old new answers = (
    booted,
    subst (λ l. AnswersLines (altair setup.guest (bytes_in b.store)) (image_copy setup.guest.drives) b.world l
        (failures_of setup.failing_access) result old new) same
        (subst (λ n. AnswersLines (altair setup.guest (bytes_in b.store)) (image_copy setup.guest.drives) b.world given
        (failures_of n) result old new) b.fails_at (answers first b.shows)),
  )

  -- by a check
  pub prints_verdict : ShownIsSame B H → (checked : List SectorWrite) → checked ≡ wanted
      → (after : Running B H Disk) (result : Result (Unit {0}) Failure) (old new : Option (List ℕ))
      → ((c : Course Guest) → Shows state state some_altair records_in v c
      → HaveHappened state state some_altair c given v after)
      → ((c : Course Guest) → Shows state state some_altair records_in after c
      → PrintsVerdict (IsVerdictOn (altair setup.guest (boot_sectors checked)) setup.guest.drives (machine_of some_altair c)
      c.world after.disk.store) result old new)
      → Prints Check setup wanted lines result old new
  unfolding first booted booted_as
  prints_verdict law checked checked_are after result old new happened verdict =
      let h = happened first b.shows in (
        booted,
        says_more
            (IsVerdictOn (altair setup.guest (boot_sectors checked)) setup.guest.drives (altair setup.guest (bytes_in b.store))
            h.after after.disk.store)
            (IsSameAfter setup wanted booted lines)
            (λ found on. record {
              after = h.after;
              failures = h.failures;
              no_more = within after h.failures h.counted;
              happen = subst (λ l. Happen (altair setup.guest (bytes_in b.store)) (image_copy setup.guest.drives) b.world l h.failures h.after)
                  same h.happen;
              same = law state state setup.guest checked (bytes_in b.store) h.after after found
                  (subst (λ l. BeginAlike setup.guest.drives (bytes_in b.store) (boot_sectors l)) (sym checked_are) booted.has_sectors)
                  h.shows on;
            })
            result old new (verdict (record first { world = h.after }) h.shows),
      )

  -- by a picture
  pub told_of : (moments : List Moment) (after : Running B H Disk)
      → ((c : Course Guest) → Shows state state some_altair records_in v c
      → HaveTold state state some_altair c given moments v after)
      → IsToldOf setup wanted lines moments
  unfolding first booted booted_as
  told_of moments after told =
      let t = told first b.shows in record {
        booted = booted;
        after = t.after;
        told = subst (λ l. Told (altair setup.guest (bytes_in b.store)) (image_copy setup.guest.drives) b.world l moments t.after)
            same t.told;
        no_more = within after (failures_in_all moments) t.counted;
      }
