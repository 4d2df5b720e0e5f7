-- What a pair on threads prints.
use Rattle.std.specs.Prelude.{◌≡◌, ℕ, IsTrue, Bool, true, false, Option, Some, None, List, [], ◌∷◌, ◌++◌, Result, MatchResult, codes, replicate}
use Rattle.std.specs.Global.{Vec}
use Rattle.std.specs.Io.KnownBytes.{Appends, Keeps}
use Rattle.disk_dcdd.specs.Address.{has_sector, bytes_with_all}
use Rattle.disk_dcdd.specs.declared.address.SectorAddress.{SectorAddress}
use Rattle.disk_dcdd.specs.declared.sector.SectorWrite.{SectorWrite}
use Rattle.disk_dcdd.specs.declared.sector.TheConstants.{SECTOR_BYTES}
use Rattle.guest_parts.specs.Guest.{Guest}
use Rattle.guest_board.specs.Guest.{altair, guest_at_boot}
use Rattle.i8080_words.specs.declared.refusal.Fault.{Fault}
use Rattle.i8080_words.specs.declared.refusal.Fault.TheVariants as fault
use Rattle.log_entry.specs.declared.entry.Entry.{Entry}
use Rattle.pair_events.specs.Printed.{accepted_text}
use Rattle.command_io.specs.Reports.{AddsLine}
use Rattle.command_io.specs.declared.failure.Failure.{Failure}
use Rattle.command_io.specs.declared.failure.Failure.TheVariants.{OutOfMemory, InputOrOutput, Stalled}
use Rattle.command_io.specs.Saving.{AreWhole, are_attached, images_of}
use Rattle.command_io.specs.Typed.{typed_in}
use Rattle.command_line.specs.declared.live_order.LiveOrder.{LiveOrder}
use Rattle.command_live.specs.Text.{terminal_text}
use Rattle.pair_threads.specs.Ending.{EndsBy, WonBy}
use Rattle.pair_threads.specs.declared.gate.Who.{Who}
use Rattle.pair_threads.specs.declared.gate.Who.TheVariants.{Primary, Backup}
use Rattle.script_language.specs.declared.line.Line.{Line}
use Rattle.script_language.specs.declared.setup.ScriptSetup.{ScriptSetup}
use Rattle.shared_disk.specs.Records.{HasWholeSectors, IsAtBoot, IsUnwritten}
use Rattle.shared_disk.specs.declared.store.Record.{Record}

-- who goes on alone, on a line of its own, if anybody asked to; 10 ends a line
abbrev pub winner_text : Option Who → List ℕ
winner_text None = []
winner_text (Some Primary) = 10 ∷ codes "winner: primary"
winner_text (Some who) = 10 ∷ codes "winner: backup"

-- what each terminal has accepted, as text or in hexadecimal
abbrev pub screens_text : Bool → List ℕ → List ℕ → List ℕ
screens_text true first second = terminal_text 0 first ++ (10 ∷ terminal_text 1 second)
screens_text false first second = accepted_text 0 first ++ (10 ∷ accepted_text 1 second)

-- that, and who goes on alone
abbrev pub end_text : Bool → List ℕ → List ℕ → Option Who → List ℕ
end_text as_text first second winner = screens_text as_text first second ++ winner_text winner

-- each sector has the bytes of the last of these that goes there, or zeros
abbrev pub AreBooted : ScriptSetup → List SectorWrite → (SectorAddress → List ℕ) → Type 0
AreBooted setup given sectors = (address : SectorAddress) → IsTrue (has_sector setup.guest.drives address)
    → sectors address ≡ bytes_with_all given address (replicate SECTOR_BYTES 0)

-- how a generation of the Altair of a setup ends, if its disk had these sectors and these bytes were typed at its ports: who
-- goes on alone, what its terminals have accepted, and the whole images of the disks that are saved
pub record EndsOf (setup : ScriptSetup) (given : List SectorWrite) (typed0 typed1 saved : List ℕ) (winner : Option Who)
    (screens : List (List ℕ)) (images : List ℕ) : Type 0 where
  pub sectors : SectorAddress → List ℕ
  pub booted : AreBooted setup given sectors
  pub primary : List Entry
  pub backup : List Entry
  pub held : ℕ
  pub records : List Record
  pub s : Guest
  pub t : Guest
  pub ends : EndsBy (altair setup.guest sectors) typed0 typed1 winner primary backup held screens records s t
  pub images_are : images ≡ images_of records saved
  pub whole : AreWhole images saved

-- these bytes are what lines type at each port
abbrev pub AreTyped : List Line → List ℕ → List ℕ → Type 0
AreTyped lines typed0 typed1 = (typed0 ≡ typed_in 0 lines) × (typed1 ≡ typed_in 1 lines)

-- a generation begins as a script says: both guests at boot, the sectors of its setup on the disk, all of them whole and
-- none of them written, and what its lines type
pub record BeginsAs (setup : ScriptSetup) (given : List SectorWrite) (lines : List Line) (primary backup : Guest)
    (records : List Record) (typed0 typed1 : List ℕ) : Type 0 where
  pub primary_is : primary ≡ guest_at_boot setup.guest
  pub backup_is : backup ≡ guest_at_boot setup.guest
  pub at_boot : IsAtBoot records setup.guest.drives given
  pub unwritten : IsUnwritten records
  pub whole : HasWholeSectors records
  pub typed : AreTyped lines typed0 typed1

-- it has ended, with these records on its disk
pub record HasEnded (setup : ScriptSetup) (given : List SectorWrite) (lines : List Line) (winner : Option Who)
    (screens : List (List ℕ)) (records : List Record) : Type 0 where
  pub sectors : SectorAddress → List ℕ
  pub booted : AreBooted setup given sectors
  pub primary : List Entry
  pub backup : List Entry
  pub held : ℕ
  pub s : Guest
  pub t : Guest
  pub ends : EndsBy (altair setup.guest sectors) (typed_in 0 lines) (typed_in 1 lines) winner primary backup held
      screens records s t

-- such an end is printed
pub record TellsEnd (setup : ScriptSetup) (given : List SectorWrite) (typed0 typed1 : List ℕ) (order : LiveOrder)
    (images : List ℕ) (old new : Option (List ℕ)) : Type 0 where
  pub first : List ℕ
  pub second : List ℕ
  pub winner : Option Who
  pub won : WonBy order.primary_asks order.backup_asks winner
  pub ends : EndsOf setup given typed0 typed1 order.saved.items winner (first ∷ second ∷ []) images
  pub printed : AddsLine (Some (end_text order.text first second winner)) old new

-- why nothing is printed, by why a pair has no end: a disk that is to be saved is not there, it stalls, or memory is refused
abbrev pub failure_of : Fault → Failure
failure_of fault.Unknown = InputOrOutput
failure_of fault.Stalled = Stalled
failure_of other = OutOfMemory

-- nothing is printed of a pair that stalls, or for which memory is refused
abbrev pub PrintsNone : Failure → Option (List ℕ) → Option (List ℕ) → Type 0
PrintsNone OutOfMemory old new = Keeps old new
PrintsNone Stalled old new = Keeps old new
PrintsNone InputOrOutput old new = Unit {0}
PrintsNone failure old new = ⊥

-- an end with these screens and this disk is printed, and these are the whole images of the disks that are saved
pub record PrintsScreens (as_text : Bool) (winner : Option Who) (screens : List (List ℕ)) (records : List Record) (saved images : List ℕ)
    (old new : Option (List ℕ)) : Type 0 where
  pub first : List ℕ
  pub second : List ℕ
  pub screens_are : screens ≡ first ∷ second ∷ []
  pub images_are : images ≡ images_of records saved
  pub whole : AreWhole images saved
  pub printed : AddsLine (Some (end_text as_text first second winner)) old new

abbrev pub TellsScreens : Bool → Option Who → List (List ℕ) → List Record → List ℕ → Result (Vec ℕ) Failure
    → Option (List ℕ) → Option (List ℕ) → Type 0
TellsScreens as_text winner screens records saved result old new = MatchResult result
    (λ images. PrintsScreens as_text winner screens records saved images.items old new) (λ failure. PrintsNone failure old new)

-- the end is printed, and these are the images
abbrev pub Tells : ScriptSetup → List SectorWrite → List ℕ → List ℕ → LiveOrder → Result (Vec ℕ) Failure
    → Option (List ℕ) → Option (List ℕ) → Type 0
Tells setup given typed0 typed1 order result old new = MatchResult result
    (λ images. TellsEnd setup given typed0 typed1 order images.items old new) (λ failure. PrintsNone failure old new)

-- the end is printed, and then its images, which are of drives of the setup
pub record PrintsEnd (setup : ScriptSetup) (given : List SectorWrite) (typed0 typed1 : List ℕ) (order : LiveOrder)
    (old new : Option (List ℕ)) : Type 0 where
  pub images : List ℕ
  pub told : Option (List ℕ)
  pub tells : TellsEnd setup given typed0 typed1 order images old told
  pub printed : Appends told new images
  pub attached : IsTrue (are_attached setup.guest.drives order.saved.items)

abbrev pub PrintsLive : ScriptSetup → List SectorWrite → List ℕ → List ℕ → LiveOrder → Result (Unit {0}) Failure
    → Option (List ℕ) → Option (List ℕ) → Type 0
PrintsLive setup given typed0 typed1 order result old new = MatchResult result
    (λ done. PrintsEnd setup given typed0 typed1 order old new) (λ failure. PrintsNone failure old new)
