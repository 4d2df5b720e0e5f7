-- The threads beside the loop of a console: how they begin, and what is known once they have ended.
use Rattle.std.specs.Prelude.{◌≡◌, ℕ, List, [], Option, Some, None}
use Rattle.command_console.specs.Rings.{ComesOutOf, GoesInto}
use Rattle.command_console.specs.declared.mirror.Mirrored.{Mirrored}
use Rattle.outside_switch.specs.declared.session.HostsEnd.{HostsEnd}
use Rattle.outside_switch.specs.declared.session.HostsEnd.TheVariants.{NoHosts, Settled, Silent, Stopped, UserQuit}
use Rattle.outside_switch.specs.declared.session.SessionParts.{SessionParts}
use Rattle.command_console.specs.Hearing.{HasHeard}
use Rattle.command_console.specs.declared.console.Streams.{Streams}
use Rattle.command_console.specs.declared.hearing.Hearing.{Hearing}
use Rattle.command_console.specs.declared.session.Beside.{Beside}
use Rattle.command_console.specs.declared.session.Desktop.{Desktop}
use Rattle.command_console.specs.declared.session.Ends.{Ends}
use Rattle.command_console.specs.declared.session.Left.{Left}
use Rattle.command_console.specs.declared.waking.WakingKeys.{WakingKeys}
use Rattle.command_console.specs.declared.supervisor.Supervisor.{Supervisor}
use Rattle.console_terminal.specs.Screen.{Wrote}
use Rattle.console_terminal.specs.Typing.{line_of}
use Rattle.console_terminal.specs.declared.command.Command.{Command}
use Rattle.console_terminal.specs.declared.display.Display.{Display}
use Rattle.console_terminal.specs.declared.keys.TerminalKeys.{TerminalKeys}
use Rattle.console_terminal.specs.declared.listener.Ending.{Ending}
use Rattle.console_terminal.specs.declared.port.Port.{Port}
use Rattle.console_terminal.specs.Lines.{came_by, gone_by}
use Rattle.console_terminal.specs.declared.keyboard.Keyboard.{Keyboard}
use Rattle.pair_protocol.specs.Faithful.{IsPrefix}
use Rattle.rtrb.specs.Ring.{received, sent}

-- one sits at port 0 with no command line open, and none before it, over these streams and rings
pub record Hears {R : Type 0} (ends : Ends) (desktop : Desktop) (reader : R)
    (h : Hearing (WakingKeys (TerminalKeys R)) Supervisor) : Type 0 where
  pub reader_is : h.listener.source.source.reader ≡ reader
  pub port : h.listener.desk.port ≡ Port.Zero
  pub escape : h.listener.desk.escape ≡ desktop.escape
  pub closed : line_of h.listener.desk ≡ None
  pub none_before : h.listener.desk.past.items ≡ []
  pub first : h.listener.first ≡ ends.first
  pub second : h.listener.second ≡ ends.second
  pub lines : h.lines ≡ desktop.lines

pub record Shows {W N : Type 0} (ends : Ends) (writer : W) (notes : N) (d : Display W N) : Type 0 where
  pub writer_is : d.screen ≡ writer
  pub notes_are : d.notes ≡ notes
  pub shown : d.shown ≡ ends.shown
  pub look : d.look ≡ Some Port.Zero
  pub kept : d.kept.items ≡ []

pub record HaveBegun {R W N : Type 0} (ends : Ends) (desktop : Desktop) (streams : Streams R W N)
    (b : Beside (WakingKeys (TerminalKeys R)) Supervisor W N) : Type 0 where
  pub hears : Hears ends desktop streams.reader b.hearing.promise.0.value
  pub shows : Shows ends streams.writer streams.notes b.showing.promise.0.value

-- ---- the end

-- the keyboards are at the other ends of what hears
pub record MayHear {S I : Type 0} (h : Hearing S I) (keyboards : Keyboard × Keyboard) : Type 0 where
  pub first : ComesOutOf h.listener.first keyboards.0.ring
  pub second : ComesOutOf h.listener.second keyboards.1.ring

-- it was heard until this ending, and what came from the keyboards is the first of what was sent to them
pub record WasHeard {S I : Type 0} (left : S → Option (List ℕ)) (given : I → Option (List Command)) (ending : Ending)
    (old : Hearing S I) (keyboards : Keyboard × Keyboard) : Type 0 where
  pub new : Hearing S I
  pub heard : HasHeard left given ending old new
  pub came0 : IsPrefix (came_by keyboards.0.ring) (sent new.listener.first)
  pub came1 : IsPrefix (came_by keyboards.1.ring) (sent new.listener.second)

abbrev pub WasHeardIf : {S I : Type 0} → HostsEnd → (S → Option (List ℕ)) → (I → Option (List Command)) → Hearing S I →
    Keyboard × Keyboard → Type 0
WasHeardIf NoHosts left given old keyboards = Unit {0}
WasHeardIf Stopped left given old keyboards = ⊥
WasHeardIf UserQuit left given old keyboards = WasHeard left given Ending.Quit old keyboards
WasHeardIf Settled left given old keyboards = (ending : Ending) × WasHeard left given ending old keyboards
WasHeardIf Silent left given old keyboards = (ending : Ending) × WasHeard left given ending old keyboards

pub record MayLeave {D S K I W N : Type 0} (parts : SessionParts D S) (b : Beside K I W N) : Type 0 where
  pub hears : MayHear b.hearing.promise.0.value parts.keyboards
  pub shows : GoesInto parts.screen.ring b.showing.promise.0.value.shown

-- and all that went to the screen came out, and was written or kept
pub record HasLeft {S K I W N : Type 0} (left : K → Option (List ℕ)) (given : I → Option (List Command))
    (contents : W → Option (List ℕ)) (notes : N → Option (List ℕ)) (end : HostsEnd)
    (parts : SessionParts Mirrored S) (b : Beside K I W N) (l : Left W N) : Type 0 where
  pub end_is : l.end ≡ end
  pub disk_is : l.disk ≡ parts.disk
  pub heard : WasHeardIf end left given b.hearing.promise.0.value parts.keyboards
  pub display : Display W N
  pub wrote : Wrote contents notes b.showing.promise.0.value display
  pub all : received display.shown ≡ gone_by parts.screen.ring
  pub writer_is : l.writer ≡ display.screen
  pub notes_are : l.notes ≡ display.notes
