-- No access to the controller's ports but the last byte of a write changes which writes are outstanding, and none
-- changes how many drives there are.
use Rattle.std.proofs.Common.{◌≡◌, ℕ, ◌+◌, Bool, true, false, cond, Some, None, refl, sym, ap, ◌∙◌}
use Rattle.std.specs.Prelude.{option_and_then}
use Rattle.std.specs.Option.{option_map_or}
use Rattle.disk_dcdd.specs.Drive as drives
use Rattle.guest_board.proofs.Words.{SectorWrite, may_fill, with_byte_filled}
use Rattle.disk_dcdd.specs.declared.sector.CurrentSector.{CurrentSector}
use Rattle.guest_board.proofs.Awaited.{IsAlike}

pub itself : (d : drives.Drives) → IsAlike d d
itself d = record { outstanding = refl; issued = refl; attached = refl }

pub selects : (d : drives.Drives) (byte : ℕ) → IsAlike (drives.after_select d byte) d
selects d byte = record { outstanding = refl; issued = refl; attached = refl }

pub shows : (d : drives.Drives) → IsAlike (drives.after_position d) d
shows d = record { outstanding = refl; issued = refl; attached = refl }

pub reads : (d : drives.Drives) → IsAlike (drives.after_read d) d
reads d = record { outstanding = refl; issued = refl; attached = refl }

pub commands : (d : drives.Drives) (command : ℕ) → IsAlike (drives.after_command d command) d
commands d command =
    elim d.selected as (λ o. IsAlike (option_map_or (drives.commanded d command) o d) d) [
      | None ↦ itself d
      | Some drive ↦ record { outstanding = refl; issued = refl; attached = refl }
    ]

kept : (b : Bool) (d : drives.Drives) (s : CurrentSector)
    → IsAlike (cond b (record d { current = Some s }) d) d
kept true d s = record { outstanding = refl; issued = refl; attached = refl }
kept false d s = itself d

pub keeps : (d : drives.Drives) (byte : ℕ) → IsAlike (drives.after_keep d byte) d
keeps d byte =
    elim d.current as (λ o. IsAlike (option_map_or (λ (s : CurrentSector). option_map_or (drives.kept_at d byte s) s.filled d) o d) d) [
      | None ↦ itself d
      | Some s ↦ elim s.filled as (λ f. IsAlike (option_map_or (drives.kept_at d byte s) f d) d) [
        | None ↦ itself d
        | Some filled ↦ kept (may_fill (drives.has_room d) filled) d (with_byte_filled s filled byte)
      ]
    ]

numbered : (b : Bool) (x w : SectorWrite) (n : ℕ) → x.number ≡ n → cond b (Some x) None ≡ Some w → w.number ≡ n
numbered true x w n e i = let f : x ≡ w = cc in sym (ap (λ (y : SectorWrite). y.number) f) ∙ e
numbered false x w n e i = cc

pub issues_next : (d : drives.Drives) (byte : ℕ) (w : SectorWrite) → drives.issued_by d byte ≡ Some w
    → w.number ≡ d.issued + 1
issues_next d byte w =
    elim d.selected as (λ o. option_and_then (λ drive. option_and_then (λ (s : CurrentSector). option_and_then (drives.issued_at d byte drive s) s.filled) d.current) o ≡ Some w → w.number ≡ d.issued + 1) [
      | None ↦ λ e. cc
      | Some drive ↦
          elim d.current as (λ o. option_and_then (λ (s : CurrentSector). option_and_then (drives.issued_at d byte drive s) s.filled) o ≡ Some w → w.number ≡ d.issued + 1) [
            | None ↦ λ e. cc
            | Some s ↦
                elim s.filled as (λ f. option_and_then (drives.issued_at d byte drive s) f ≡ Some w → w.number ≡ d.issued + 1) [
                  | None ↦ λ e. cc
                  | Some filled ↦ λ e. numbered _
                      (drives.write_of d (with_byte_filled s filled byte) drive) w (d.issued + 1) refl e
                ]
          ]
    ]
