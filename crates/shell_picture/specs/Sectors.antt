-- What is printed of a sector of the disk.
use Rattle.std.specs.Prelude.{ℕ, List, [], ◌∷◌, ◌++◌, Result, Ok, Err, take, drop, codes}
use Rattle.std.specs.Fmt.{decimal}
use Rattle.std.specs.List.{flat_map}
use Rattle.disk_dcdd.specs.declared.address.SectorAddress.{SectorAddress}
use Rattle.i8080_words.specs.declared.refusal.Fault.{Fault}
use Rattle.pair_events.specs.Printed.{byte_text, bytes_text}
use Rattle.shared_disk.specs.declared.disk.SectorRead.{SectorRead}
use Rattle.shell_language.specs.Texts.{Row, Text}
use Rattle.shell_picture.specs.Answers.{refused}
use Rattle.shell_language.specs.Shown.{shown_bytes}

-- `sector D T S: write N`
abbrev pub sector_text : SectorAddress → ℕ → List ℕ
sector_text address number =
    codes "sector " ++ (decimal address.drive ++ (codes " " ++ (decimal address.track ++ (codes " " ++ (decimal address.sector
    ++ (codes ": write " ++ decimal number))))))

-- `PP  HH HH ..  |TEXT|`: bytes of a sector from a place on
abbrev pub dump_text : ℕ → List ℕ → List ℕ
dump_text place bytes =
    byte_text place ++ (codes " " ++ (bytes_text bytes ++ (codes "  |" ++ (shown_bytes bytes ++ codes "|"))))

-- a sector has 137 bytes: sixteen on each line, and nine on the last
abbrev pub sector_places : List ℕ
sector_places = 0 ∷ 16 ∷ 32 ∷ 48 ∷ 64 ∷ 80 ∷ 96 ∷ 112 ∷ 128 ∷ []

abbrev pub dump_row : List ℕ → ℕ → List Row
dump_row bytes place = Text (dump_text place (take 16 (drop place bytes))) ∷ []

-- `sector D T S`: what was read, or why nothing was
abbrev pub read_rows : SectorAddress → SectorRead → List Row
read_rows address read = Text (sector_text address read.number) ∷ flat_map (dump_row read.bytes) sector_places

abbrev pub sector_rows : SectorAddress → Result SectorRead Fault → List Row
sector_rows address (Ok read) = read_rows address read
sector_rows address (Err fault) = refused fault ∷ []
