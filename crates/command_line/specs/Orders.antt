-- What a command line asks for: the command that its words name, with the options that clap finds after that name.
use Rattle.std.specs.Prelude.{◌≡◌, ◌≢◌, ◌⊎◌, ℕ, ◌^◌, ◌<◌, if◌then◌else◌, List, [], ◌∷◌, Bool, true, false, Option, Some, None, bytes_eq, codes, map, string_bytes, unwrap_or}
use Rattle.std.specs.Option.{option_map_or}
use Rattle.std.specs.Str.Parse.{IsNumeral, digits_value, without_leading_plus}
use Rattle.clap.specs.Words.{IsAmong, Row, Text, fault_of, first_of, one_of, subcommand_of}
use Rattle.clap.specs.declared.error.kind.ErrorKind.TheVariants as kind
use Rattle.command_io.specs.Statuses.{is_of_command_line}
use Rattle.command_io.specs.declared.failure.Failure.{Failure}
use Rattle.command_io.specs.declared.failure.Failure.TheVariants as failure
use Rattle.command_line.specs.Commands.{pair_app}
use Rattle.command_line.specs.Lists.{lists_hold, pieces_in}
use Rattle.command_line.specs.declared.console_order.ConsoleOrder.{ConsoleOrder}
use Rattle.command_line.specs.declared.host_order.HostOrder.{HostOrder}
use Rattle.command_line.specs.declared.host_order.HostRole.{HostRole}
use Rattle.command_line.specs.declared.host_order.HostRole.TheVariants as role
use Rattle.command_line.specs.declared.live_order.LiveOrder.{LiveOrder}
use Rattle.command_line.specs.declared.options.Request.{Request}
use Rattle.command_line.specs.declared.options.Request.TheVariants as request
use Rattle.pair_threads.specs.declared.link.Fate.{Fate}
use Rattle.pair_threads.specs.declared.link.Fate.TheVariants.{Pass, Drop, Twice}

-- the fate of a packet, by its name; `pass` is the third
abbrev pub fate_of : List ℕ → Fate
fate_of word =
    if bytes_eq word (codes "drop") then Drop else (if bytes_eq word (codes "twice") then Twice else Pass)

-- the number of this many bits that a text is, or none
abbrev pub IsNumber : ℕ → List ℕ → Option ℕ → Type 0
IsNumber bits text (Some number) = number ≡ digits_value 10 (without_leading_plus text)
IsNumber bits text None = IsNumeral 10 (without_leading_plus text) × (digits_value 10 (without_leading_plus text) < 2 ^ bits) → ⊥

-- the same of the text that an option was given, if it was
abbrev pub IsGiven : ℕ → Option (List ℕ) → Option ℕ → Type 0
IsGiven bits None given = given ≡ None
IsGiven bits (Some text) given = IsNumber bits text given

-- the same if there is a number that counts otherwise
abbrev pub IsGivenOr : ℕ → ℕ → Option (List ℕ) → ℕ → Type 0
IsGivenOr bits default text number = (given : Option ℕ) × (IsGiven bits text given × (number ≡ unwrap_or given default))

-- an option without a value is false if it was not given; clap gives it the value `true` if it was
abbrev pub IsFlag : Option (List ℕ) → Bool → Type 0
IsFlag text given = (text ≡ None → given ≡ false)
    × ((text ≡ Some (codes "true") → given ≡ true) × (text ≡ Some (codes "false") → given ≡ false))

-- a drive, by its name; 0 is the fourth
abbrev pub drive_of : List ℕ → ℕ
drive_of word =
    if bytes_eq word (codes "1") then 1 else (if bytes_eq word (codes "2") then 2 else (if bytes_eq word (codes "3") then 3 else 0))

-- the drives that an option names, in their order
abbrev pub drives_in : List Row → Text → List ℕ
drives_in rows option = map drive_of (pieces_in rows option)

-- each option of `live` sets what it says: how many turns, when somebody asks, how it is printed, these fates in this order, and the drives whose disks
-- are saved; the drives with images are given
pub record IsOrdered (rows : List Row) (images : List ℕ) (order : LiveOrder) : Type 0 where
  pub turns : IsGivenOr 64 1000000 (one_of (codes "turns") rows) order.turns
  pub primary_asks : IsGiven 64 (one_of (codes "primary-asks") rows) order.primary_asks
  pub backup_asks : IsGiven 64 (one_of (codes "backup-asks") rows) order.backup_asks
  pub text : IsFlag (one_of (codes "text") rows) order.text
  pub link : order.link.items ≡ map fate_of (pieces_in rows (codes "link"))
  pub images_are : order.images.items ≡ images
  pub saved : order.saved.items ≡ drives_in rows (codes "saved")

-- the text that an option was given; [] if it was not
abbrev pub text_given : List Row → Text → List ℕ
text_given rows option = unwrap_or (first_of option rows) []

-- what a host is at boot, by its name; `spare` is the third
abbrev pub role_of : List ℕ → HostRole
role_of word =
    if bytes_eq word (codes "primary") then role.Primary else
    (if bytes_eq word (codes "backup") then role.Backup else role.Spare)

-- each option of `host` sets what it says: what it is at boot, its patience, and how much comes before the first frame; the
-- drives with images are given
pub record IsHostOrdered (rows : List Row) (images : List ℕ) (order : HostOrder) : Type 0 where
  pub role : order.role ≡ role_of (text_given rows (codes "role"))
  pub patience : IsGivenOr 64 1000 (one_of (codes "patience") rows) order.patience
  pub before : IsGivenOr 64 0 (one_of (codes "before") rows) order.before
  pub images_are : order.images.items ≡ images

-- the texts that the options for the files of drives were given, that of drive 0 first
abbrev pub attached_in : List Row → List Text
attached_in rows = text_given rows (codes "attach0")
    ∷ text_given rows (codes "attach1")
    ∷ text_given rows (codes "attach2")
    ∷ text_given rows (codes "attach3")
    ∷ []

-- the same of `console`: its folder, how many places there are, the key that opens a command line, how much comes before the first key, the drives
-- whose disks are saved, the mark before these, the files that are disks, and how long the machine may be silent
pub record IsConsoleOrdered (rows : List Row) (images : List ℕ) (order : ConsoleOrder) : Type 0 where
  pub folder : string_bytes order.folder ≡ text_given rows (codes "folder")
  pub places : IsGivenOr 64 3 (one_of (codes "places") rows) order.places
  pub escape : IsGivenOr 8 5 (one_of (codes "escape") rows) order.escape
  pub before : IsGivenOr 64 0 (one_of (codes "before") rows) order.before
  pub images_are : order.images.items ≡ images
  pub saved : order.saved.items ≡ drives_in rows (codes "saved")
  pub mark : string_bytes order.mark ≡ text_given rows (codes "mark")
  pub apart : IsFlag (one_of (codes "apart") rows) order.apart
  pub attached : map (λ name. string_bytes name) order.attached.items ≡ attached_in rows
  pub unsynced : IsFlag (one_of (codes "unsynced") rows) order.unsynced
  pub silence : IsGivenOr 64 60 (one_of (codes "silence") rows) order.silence

-- the word that names the command: the one after the program's name; [] if there is none
abbrev pub command_word : List Text → Text
command_word (program ∷ (word ∷ words)) = word
command_word words = []

-- the images come first of the drives that this option names
abbrev pub HasImages : List Row → List ℕ → Type 0
HasImages rows images = images ≡ drives_in rows (codes "images")

-- it is `script`, which is the command of every name that is no other's
pub record IsOfScript (name : Text) : Type 0 where
  pub check : name ≢ codes "check"
  pub picture : name ≢ codes "picture"
  pub lint : name ≢ codes "lint"
  pub shell : name ≢ codes "shell"
  pub live : name ≢ codes "live"
  pub console : name ≢ codes "console"
  pub host : name ≢ codes "host"
  pub disk : name ≢ codes "disk"

-- the command of this name is asked for, with the options that clap has found after it
abbrev pub Asks : Text → List Row → Request → Type 0
Asks name rows (request.Script images) = IsOfScript name × HasImages rows images.items
Asks name rows (request.Check images) = (name ≡ codes "check") × HasImages rows images.items
Asks name rows (request.Picture images) = (name ≡ codes "picture") × HasImages rows images.items
Asks name rows request.Lint = name ≡ codes "lint"
Asks name rows (request.Live order) = (name ≡ codes "live") × IsOrdered rows (drives_in rows (codes "images")) order
Asks name rows (request.Console order) = (name ≡ codes "console") × IsConsoleOrdered rows (drives_in rows (codes "images")) order
Asks name rows (request.Host order) = (name ≡ codes "host") × IsHostOrdered rows (drives_in rows (codes "images")) order
Asks name rows (request.Recover path) = (name ≡ codes "disk") × (string_bytes path ≡ text_given rows (codes "recover"))
Asks name rows request.Shell = name ≡ codes "shell"
Asks name rows (request.Help text) = ⊥

-- clap finds a command in the words, and the lists of its options hold what they may
abbrev pub is_well_formed : List Text → Bool
is_well_formed words = option_map_or (λ found. lists_hold found.1) (subcommand_of pair_app words) false

-- clap finds no fault with the words, and the command that they name is asked for, with the options after it
pub record HasFound (words : List Text) (asked : Request) : Type 0 where
  pub faultless : fault_of pair_app words ≡ []
  pub lists : is_well_formed words ≡ true
  pub name : Text
  pub rows : List Row
  pub found : subcommand_of pair_app words ≡ Some (name, rows)
  pub asks : Asks name rows asked

-- help is asked for, by a command of its own
abbrev pub AsksHelp : List Text → Request → Type 0
AsksHelp words (request.Help text) = (command_word words ≡ codes "help") × IsAmong kind.DisplayHelp (fault_of pair_app words)
AsksHelp words asked = ⊥

-- what the words of a command line ask for
abbrev pub IsAsked : List Text → Request → Type 0
IsAsked words asked = HasFound words asked ⊎ AsksHelp words asked

-- the words ask for nothing: clap finds a fault with them, or no command, or a list does not hold what it may
abbrev pub AskForNothing : List Text → Type 0
AskForNothing words = (fault_of pair_app words ≢ []) ⊎ (is_well_formed words ≡ false)

-- such words are refused, and others only if memory is
abbrev pub IsRefused : List Text → Failure → Type 0
IsRefused words refusal = (refusal ≡ failure.OutOfMemory) ⊎ ((is_of_command_line refusal ≡ true) × AskForNothing words)
