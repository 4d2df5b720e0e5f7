-- What a line prints that looks at what a pair has: at the machine of a node, at a terminal, at a sector, or by a query.
use Rattle.std.specs.Prelude.{◌≡◌, ℕ, ◌+◌, ◌*◌, Bool, IsTrue, if◌then◌else◌, List, [], ◌∷◌, map, Option, Some, None, Result, Ok, Err, slice_get, slice_index, string_bytes, unwrap_or}
use Rattle.std.specs.List.{range_with_len}
use Rattle.clone_state.specs.Parts.{part_count}
use Rattle.disk_dcdd.specs.Address.{has_sector}
use Rattle.disk_dcdd.specs.declared.address.SectorAddress.{SectorAddress}
use Rattle.guest_lockstep.specs.Machine.{Machine}
use Rattle.guest_parts.specs.Guest.{Guest}
use Rattle.guest_board.specs.Inputs.{some_altair}
use Rattle.i8080_words.specs.Arithmetic.{wrapped}
use Rattle.i8080_words.specs.declared.refusal.Fault.{Fault}
use Rattle.i8080_words.specs.declared.refusal.Fault.TheVariants.{Unknown, WrongRole}
use Rattle.pair_protocol.specs.Node.{Node, Role, Spare}
use Rattle.ft_node.specs.Guests.{shown_machine}
use Rattle.ft_world.specs.Applies.{IsSectorOf, Shows}
use Rattle.ft_world.specs.Running.{Running}
use Rattle.ft_world.specs.Standing.{Course, machine_of}
use Rattle.pair_protocol.specs.World as protocol
use Rattle.altair_pair.specs.Queries.{Finds}
use Rattle.script_language.specs.declared.line.Query.{Query}
use Rattle.shared_disk.specs.declared.disk.SectorRead.{SectorRead}
use Rattle.shared_disk.specs.Failing.{Disk, records_in}
use Rattle.shell_language.specs.Texts.{AddsLine, Prints, Row}
use Rattle.shell_language.specs.declared.printing.Printed.{Printed}
use Rattle.shell_language.specs.declared.tape.Played.{Played}
use Rattle.shell_language.specs.declared.line.ShellLine.{ShellLine}
use Rattle.shell_language.specs.declared.line.ShellLine.TheVariants as shell
use Rattle.shell_language.specs.declared.look.Look.{Look}
use Rattle.shell_language.specs.declared.look.View.{View}
use Rattle.shell_language.specs.declared.look.View.TheVariants as view
use Rattle.shell_picture.specs.Answers.{refused}
use Rattle.shell_picture.specs.Listings.{listing_rows}
use Rattle.shell_picture.specs.Machines.{memory_rows, register_rows}
use Rattle.shell_picture.specs.Screens.{screen_rows}
use Rattle.shell_picture.specs.Sectors.{sector_rows}

-- so many bytes of memory from an address on; after FFFF comes 0000
abbrev pub bytes_from : List ℕ → ℕ → ℕ → List ℕ
bytes_from memory from count = map (λ k. slice_index memory (wrapped (from + k))) (range_with_len 0 count)

-- what a machine has, as it is seen
abbrev pub rows_of : View → Guest → List Row
rows_of view.Registers g = register_rows g.processor g.count
rows_of (view.Memory span) g = memory_rows span.from (bytes_from g.memory span.from span.count)
rows_of (view.Listing span) g = listing_rows span.count span.from (bytes_from g.memory span.from (3 * span.count))

-- why a node shows no machine: a spare host is no node, and any other has halted, or is still given its machine
abbrev pub absence : Role → Fault
absence Spare = Unknown
absence role = WrongRole

abbrev pub rows_by : View → Fault → Option Guest → List Row
rows_by seen fault None = refused fault ∷ []
rows_by seen fault (Some g) = rows_of seen g

abbrev pub look_rows : View → Option (Node Guest) → List Row
look_rows seen None = refused Unknown ∷ []
look_rows seen (Some x) = rows_by seen (absence x.role) (shown_machine x)

-- what a query finds in a world answers it, as a line
abbrev pub PrintsFound : {S : Type 0} → Machine S → protocol.World S → Query → Printed → Printed → Type 0
PrintsFound M w query old new = (text : List ℕ) × (Finds M w query text × AddsLine text old new)

-- of what a terminal has accepted, how much is left out: what was shown before, if a line asks for what is new
abbrev pub left_out : List ℕ → ℕ → Bool → Option ℕ
left_out shown port is_new = if is_new then Some (unwrap_or (slice_get shown port) 0) else None

abbrev pub PrintsScreen : List ℕ → ℕ → Bool → Printed → Printed → Type 0
PrintsScreen accepted port is_new old new =
    (shown : List ℕ) × Prints (screen_rows port accepted (left_out shown port is_new)) old new

-- What the disk has of a sector. That there is none is said only of a sector that the drives of the machine do not have; how many
-- those are is known by the parts of its image.
abbrev pub IsSectorFound : {S : Type 0} → Machine S → Course S → SectorAddress → Result SectorRead Fault → Type 0
IsSectorFound M c address (Ok read) = IsSectorOf (machine_of M c) c.world address read
IsSectorFound M c address (Err fault) = (fault ≡ Unknown)
    × ((drives : ℕ) → c.copying.part_count ≡ part_count drives → IsTrue (has_sector drives address) → ⊥)

abbrev pub PrintsSector : {S : Type 0} → Machine S → Course S → SectorAddress → Printed → Printed → Type 0
PrintsSector M c address old new =
    (read : Result SectorRead Fault) × (IsSectorFound M c address read × Prints (sector_rows address read) old new)

-- what each of these lines prints of a world
abbrev pub Sees : Course Guest → ShellLine → Printed → Printed → Type 0
Sees c (shell.Look look) old new = Prints (look_rows look.view (slice_get c.world.nodes look.node)) old new
Sees c (shell.Query query) old new = PrintsFound some_altair c.world query old new
Sees c (shell.Screen port is_new) old new = PrintsScreen (protocol.accepted c.world port) port is_new old new
Sees c (shell.Sector address) old new = PrintsSector some_altair c address old new
Sees c _ old new = Unit {0}

-- the same of whatever world is shown, by a line that looks at a machine, by a query and by one that looks at a sector
abbrev pub Looks : {B H : Type 0} → (B → Guest) → Look → Running B H Disk → Printed → Printed → Type 0
Looks guest look world old new = (c : Course Guest) → Shows guest guest some_altair records_in world c
    → Prints (look_rows look.view (slice_get c.world.nodes look.node)) old new

abbrev pub Asks : {B H S : Type 0} → (B → S) → (B → Guest) → Machine S → Query → Running B H Disk → Printed → Printed → Type 0
Asks {S = S} state copied M query world old new =
    (c : Course S) → Shows state copied M records_in world c → PrintsFound M c.world query old new

abbrev pub Reads : {B H S : Type 0} → (B → S) → (B → Guest) → Machine S → SectorAddress → Running B H Disk → Printed → Printed
    → Type 0
Reads {S = S} state copied M address world old new =
    (c : Course S) → Shows state copied M records_in world c → PrintsSector M c address old new

-- the same of a pair that has booted
abbrev pub LooksIn : {B H : Type 0} → (B → Guest) → ShellLine → Option (Running B H Disk) → Printed → Printed → Type 0
LooksIn guest line None old new = ⊥
LooksIn guest line (Some world) old new =
    (c : Course Guest) → Shows guest guest some_altair records_in world c → Sees c line old new

-- a line that looks at what a pair has plays nothing
abbrev pub LooksAlone : {B H : Type 0} → (B → Guest) → ShellLine → List Played → Option (Running B H Disk) → Printed → Printed
    → Type 0
LooksAlone guest line tape world old new = (tape ≡ []) × LooksIn guest line world old new

-- it shows that as it is; of other lines this says nothing
abbrev pub IsLooked : {B H : Type 0} → (B → Guest) → ShellLine → List Played → Option (Running B H Disk) → Printed → Printed
    → Type 0
IsLooked guest (shell.Look look) tape world old new = LooksAlone guest (shell.Look look) tape world old new
IsLooked guest (shell.Query query) tape world old new = LooksAlone guest (shell.Query query) tape world old new
IsLooked guest (shell.Screen port is_new) tape world old new = LooksAlone guest (shell.Screen port is_new) tape world old new
IsLooked guest (shell.Sector address) tape world old new = LooksAlone guest (shell.Sector address) tape world old new
IsLooked guest _ tape world old new = Unit {0}

-- the whole text that answers such a line
pub record IsSeen {B H : Type 0} (guest : B → Guest) (line : ShellLine) (tape : List Played) (world : Option (Running B H Disk))
    (is_traced : Bool) (text : List ℕ) : Type 0 where
  pub nothing_played : tape ≡ []
  pub before : Printed
  pub after : Printed
  pub blank : string_bytes before.text ≡ []
  pub traced : before.is_traced ≡ is_traced
  pub told : string_bytes after.text ≡ text
  pub seen : LooksIn guest line world before after

abbrev pub IsSeenSaid : {B H : Type 0} → (B → Guest) → Option ShellLine → List Played → Option (Running B H Disk) → Bool
    → List ℕ → Type 0
IsSeenSaid guest (Some (shell.Look look)) tape world is_traced text = IsSeen guest (shell.Look look) tape world is_traced text
IsSeenSaid guest (Some (shell.Query query)) tape world is_traced text = IsSeen guest (shell.Query query) tape world is_traced text
IsSeenSaid guest (Some (shell.Screen port is_new)) tape world is_traced text =
    IsSeen guest (shell.Screen port is_new) tape world is_traced text
IsSeenSaid guest (Some (shell.Sector address)) tape world is_traced text =
    IsSeen guest (shell.Sector address) tape world is_traced text
IsSeenSaid guest _ tape world is_traced text = Unit {0}
