-- A console whose hosts are processes, from the files that come first to the disks that are saved.
use Rattle.std.specs.Prelude.{◌≡◌, ◌<◌, ℕ, List, [], ◌++◌, Option, Some, None, length, string_bytes}
use Rattle.std.specs.Io.KnownBytes.{Appends, Consumes}
use Rattle.command_console.specs.declared.mirror.Mirrored.{Mirrored}
use Rattle.command_console.specs.Places.{HasFirstNumbers, NoneIsCut}
use Rattle.outside_switch.specs.Causes.{AreCutForCause}
use Rattle.outside_switch.specs.Floods.{unheard}
use Rattle.outside_switch.specs.LoopRuns.{Ended}
use Rattle.outside_switch.specs.declared.session.HostsEnd.{HostsEnd}
use Rattle.outside_switch.specs.declared.session.Session.{Session}
use Rattle.command_io.specs.Inputs.{IsInput}
use Rattle.command_io.specs.declared.input.ScriptInput.{ScriptInput}
use Rattle.command_line.specs.declared.console_order.ConsoleOrder.{ConsoleOrder}
use Rattle.command_io.specs.Saving.{images_of}
use Rattle.command_console.specs.Attached.{HasAttached}
use Rattle.command_console.specs.Sitting.{HasAppeared, WasHeard, passed_to}
use Rattle.command_console.specs.declared.console.Streams.{Streams}
use Rattle.command_console.specs.declared.teller.Teller.{Teller}
use Rattle.console_terminal.specs.Greeting.{greeting_of}
use Rattle.console_terminal.specs.Screen.{Piece, bytes_of, texts_of}
use Rattle.outside_switch.specs.Held.{at_boot}
use Rattle.script_language.specs.Live.{live_script_of}
use Rattle.shared_disk.specs.Records.{IsAtBoot}
use Rattle.shared_disk.specs.declared.store.Record.{Record}

-- an outside at whose devices nothing has happened yet, and that has heard no host, over the disk of an input
pub record OpensFor {D S : Type 0} (input : ScriptInput) (first : Session D S) : Type 0 where
  pub records : List Record
  pub may_fail : Option ℕ
  pub boots : IsAtBoot records input.script.setup.guest.drives input.sectors.items
  pub devices : first.switch.devices ≡ record (at_boot records may_fail) { hosts = 2 }
  pub numbers : HasFirstNumbers first.switch.lines.items
  pub none_cut : NoneIsCut first.switch.lines.items
  pub none_heard : first.flood ≡ unheard

-- An outside has opened for an input, and gone on to its end. Whoever was cut off by then has given a cause. What was typed and seen
-- meanwhile is what passed between its devices and the user; and the disks that are saved are as they were at the end.
pub record HasRun {R W N : Type 0} (remaining : R → Option (List ℕ)) (contents : W → Option (List ℕ))
    (notes : N → Option (List ℕ)) (order : ConsoleOrder) (input : ScriptInput) (streams : Streams R W N) (end : HostsEnd) : Type 0 where
  pub first : Session Mirrored Teller
  pub opens : OpensFor input first
  pub last : Session Mirrored Teller
  pub ended : Ended end first last
  pub causes : AreCutForCause last.switch.lines.items
  pub heard : WasHeard remaining end order.escape input.script.lines.items (passed_to ended) streams.reader
  pub pieces : List Piece
  pub appeared : HasAppeared (passed_to ended) pieces
  pub writer : W
  pub beside : N
  pub written : Appends (contents streams.writer) (contents writer)
      (bytes_of pieces ++ (string_bytes order.mark ++ images_of last.switch.devices.records order.saved.items))
  pub noted : Appends (notes streams.notes) (notes beside) (texts_of pieces)

-- Images and a script came first, as many bytes as are ordered. What was left after them are keys. The drives that have files begin with
-- what is on these.
pub record HasServed {R W N : Type 0} (remaining : R → Option (List ℕ)) (contents : W → Option (List ℕ))
    (notes : N → Option (List ℕ)) (order : ConsoleOrder) (streams : Streams R W N) (end : HostsEnd) : Type 0 where
  pub opening : List ℕ
  pub many : length opening ≡ order.before
  pub after : Streams R W N
  pub read : Consumes (remaining streams.reader) (remaining after.reader) opening
  pub writer_is : after.writer ≡ streams.writer
  pub greeted : Appends (notes streams.notes) (notes after.notes) (greeting_of order.escape)
  pub input : ScriptInput
  pub says : IsInput live_script_of order.images.items (Some opening) input
  pub attached : ScriptInput
  pub files : HasAttached order.attached.items input attached
  pub run : HasRun remaining contents notes order attached after end
