-- What a line does to a session.
use Rattle.std.specs.Prelude.{◌≡◌, ℕ, zero, suc, Bool, true, false, List, [], Option, Some, None, slice_set}
use Rattle.altair_laws.specs.Copies.{image_copy}
use Rattle.guest_parts.specs.Guest.{Guest}
use Rattle.guest_board.specs.Guest.{guest_at_boot}
use Rattle.guest_board.specs.Inputs.{some_altair}
use Rattle.guest_lockstep.specs.Machine.{Machine}
use Rattle.ft_world.specs.Running.{Running}
use Rattle.shared_disk.specs.Failing.{Disk}
use Rattle.shell_language.specs.declared.line.ShellLine.{ShellLine}
use Rattle.shell_language.specs.declared.line.ShellLine.TheVariants as shell
use Rattle.altair_pair.specs.Booting.{IsBooted}
use Rattle.shared_disk.specs.Records.{AreOnDrives}
use Rattle.shell_language.specs.Openings.{CannotSet, IsSame}
use Rattle.pair_shell.specs.Playing.{Plays}
use Rattle.shell_language.specs.Tapes.{IsAnswered}
use Rattle.pair_shell.specs.declared.notes.Notes.{Notes}
use Rattle.shell_language.specs.declared.opening.SessionSetup.{SessionSetup}
use Rattle.shell_language.specs.declared.tape.Played.{Played}

-- a pair has just booted as a session's setup says
abbrev pub BootsBy : {B H : Type 0} → (B → Guest) → SessionSetup → Running B H Disk → Type 0
BootsBy state opening v = IsBooted state state some_altair (image_copy opening.setup.guest.drives)
    opening.setup.guest.reads (guest_at_boot opening.setup.guest) opening.setup.guest.drives opening.setup.failing_access
    opening.setup.hosts opening.sectors.items v

-- A pair that has booted plays the tape of the line. One that boots at this line does so as its setup says, and then
-- plays the tape; if none boots, nothing is played.
abbrev pub LinePlays : {B H S : Type 0} → (B → S) → (B → Guest) → Machine S → (Running B H Disk → Type 0)
    → Option (Running B H Disk) → List Played → Option (Running B H Disk) → Type 0
LinePlays state copied M Boots (Some old) tape (Some new) = Plays state copied M old tape new
LinePlays {B = B} {H = H} state copied M Boots None tape (Some new) =
    (booted : Running B H Disk) × (Boots booted × Plays state copied M booted tape new)
LinePlays state copied M Boots (Some old) tape None = ⊥
LinePlays state copied M Boots None tape None = tape ≡ []

-- the same of a pair of Altairs, of which each board shows its guest
abbrev pub AltairsPlay : {B H : Type 0} → (B → Guest) → SessionSetup → Option (Running B H Disk) → List Played
    → Option (Running B H Disk) → Type 0
AltairsPlay guest opening old tape new = LinePlays guest guest some_altair (BootsBy guest opening) old tape new

-- What a line leaves that is an event: it alone has happened, and is answered as in a script. Of others this says nothing.
abbrev pub IsHeeded : ShellLine → List Played → Bool → List ℕ → List ℕ → Type 0
IsHeeded (shell.Event happened) tape is_traced old new = IsAnswered happened tape is_traced old new
IsHeeded _ tape is_traced old new = Unit {0}

-- the same of a text that says some line
abbrev pub HeedsSaid : Option ShellLine → List Played → Bool → List ℕ → List ℕ → Type 0
HeedsSaid (Some line) tape is_traced old new = IsHeeded line tape is_traced old new
HeedsSaid None tape is_traced old new = Unit {0}

-- whether events are traced after a line
abbrev pub trace_after : Option ShellLine → Bool → Bool
trace_after (Some (shell.Trace is_on)) is_traced = is_on
trace_after _ is_traced = is_traced

-- a line is `quit`
abbrev pub is_quit : Option ShellLine → Bool
is_quit (Some shell.Quit) = true
is_quit _ = false

-- a line is a day of the pair
abbrev pub is_run : Option ShellLine → Bool
is_run (Some (shell.Run turns)) = true
is_run _ = false

-- a line is one of the setup
abbrev pub is_setup : Option ShellLine → Bool
is_setup (Some (shell.Setup word words)) = true
is_setup (Some (shell.SetSector place bytes)) = true
is_setup (Some (shell.Load loaded)) = true
is_setup _ = false

-- no pair can boot: a sector of the setup is on a drive that is not attached
abbrev pub CannotBoot : SessionSetup → Type 0
CannotBoot opening = AreOnDrives opening.setup.guest.drives opening.sectors.items → ⊥

-- Why a line may be refused. It says nothing; or it is one of the setup and comes too late, or its words are none that may come
-- there; or it would be the first at which a pair boots, and none can.
pub data MayRefuse (opening : SessionSetup) (has_booted : Bool) : Option ShellLine → Type 0 where
  SaysNothing : MayRefuse opening has_booted None
  ComesLate : {line : ShellLine} → is_setup (Some line) ≡ true → has_booted ≡ true → MayRefuse opening has_booted (Some line)
  IsWrong : {line : ShellLine} → CannotSet line opening → MayRefuse opening has_booted (Some line)
  NoneBoots : {line : ShellLine} → has_booted ≡ false → CannotBoot opening → MayRefuse opening has_booted (Some line)

-- so many bytes of a terminal were shown
abbrev pub shown_at : List ℕ → ℕ → ℕ → List ℕ
shown_at shown zero count = slice_set shown 0 count
shown_at shown (suc zero) count = slice_set shown 1 count
shown_at shown (suc (suc n)) count = shown

-- nothing has changed but the tape, which is that of the last line: neither the setup, nor the pair, nor what was noted
pub record IsAsBefore {X : Type 0} (setup setup' : SessionSetup) (pair pair' : Option X) (noted noted' : Notes)
    (traced traced' : Bool) : Type 0 where
  pub opening : IsSame setup setup'
  pub world : pair' ≡ pair
  pub book : noted'.book ≡ noted.book
  pub past : noted'.past.items ≡ noted.past.items
  pub is_traced : traced' ≡ traced
