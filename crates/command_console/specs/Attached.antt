-- The files that are disks of drives.
use Rattle.std.specs.Prelude.{◌≡◌, true, List, ◌++◌, All, String}
use Rattle.std.specs.declared.alloc.Global.{Global}
use Rattle.command_io.specs.declared.input.ScriptInput.{ScriptInput}
use Rattle.disk_dcdd.specs.declared.sector.SectorWrite.{SectorWrite}
use Rattle.disk_file.specs.Names.{is_named}

-- an input with what is on files, each of them the disk of a drive that has a name here: their sectors come after those of the input
pub record HasAttached (names : List (String Global)) (input attached : ScriptInput) : Type 0 where
  pub script : attached.script ≡ input.script
  pub more : List SectorWrite
  pub sectors : attached.sectors.items ≡ input.sectors.items ++ more
  pub named : All (λ (s : SectorWrite). is_named names s.drive ≡ true) more
