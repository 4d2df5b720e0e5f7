-- What one has typed and seen at a console while an outside went from its first state to its end.
use Rattle.std.specs.Prelude.{◌≡◌, ◌≤◌, ℕ, flat_map, true, List, [], ◌++◌, Option, Some, None}
use Rattle.std.specs.Io.KnownBytes.{Appends, Consumes}
use Rattle.std.specs.List.{list_any}
use Rattle.command_console.specs.Rings.{IsKeyboardOf, IsScreenOf}
use Rattle.command_console.specs.Keys.{at_first, keys_typed}
use Rattle.outside_switch.specs.LoopRuns.{Ended}
use Rattle.outside_switch.specs.declared.session.HostsEnd.{HostsEnd}
use Rattle.outside_switch.specs.declared.session.HostsEnd.TheVariants.{NoHosts, Settled, Silent, Stopped, UserQuit}
use Rattle.outside_switch.specs.declared.session.Session.{Session}
use Rattle.command_io.specs.Typed.{typed_in}
use Rattle.command_console.specs.declared.console.Streams.{Streams}
use Rattle.command_console.specs.declared.session.Ends.{Ends}
use Rattle.command_console.specs.declared.session.Left.{Left}
use Rattle.console_terminal.specs.Keys.{heard_bytes}
use Rattle.console_terminal.specs.Listening.{is_quit}
use Rattle.console_terminal.specs.Screen.{AreSeen, Piece, bytes_of, guest_in, texts_of}
use Rattle.console_terminal.specs.Typing.{commands_at}
use Rattle.console_terminal.specs.declared.keys.Heard.{Heard}
use Rattle.console_terminal.specs.declared.port.Port.{Port}
use Rattle.outside_switch.specs.Passing as passing
use Rattle.outside_switch.specs.Passing.{Passed, typed_at}
use Rattle.console_terminal.specs.Lines.{shown_at}
use Rattle.console_terminal.specs.declared.screen.Shown.{Shown}
use Rattle.pair_protocol.specs.Faithful.{IsPrefix}
use Rattle.rtrb.specs.Ring.{known_free}
use Rattle.script_language.specs.declared.line.Line.{Line}
use Rattle.shared_disk.specs.declared.store.Record.{Record}

-- these are the other ends of a session's rings, and nothing has come through them
pub record AreOpen {D S : Type 0} (session : Session D S) (ends : Ends) : Type 0 where
  pub keyboard0 : IsKeyboardOf ends.first session.first.keyboard
  pub keyboard1 : IsKeyboardOf ends.second session.second.keyboard
  pub none_waits : (session.first.waiting ≡ None) × (session.second.waiting ≡ None)
  pub screen : IsScreenOf ends.shown session.screen
  pub notes : 3 ≤ known_free ends.notes.0

-- what passed between the devices and the user on the way to the end
abbrev pub passed_to : {D S : Type 0} {end : HostsEnd} {old new : Session D S} → Ended end old new → List Passed
passed_to ended = ended.went.passed ++ ended.stopped.passed

-- These bytes were typed at a console, with these pauses. The keys that were typed at the terminals are those of the script and then those
-- among the bytes, or the first of them.
pub record HasTyped (escape : ℕ) (lines : List Line) (passed : List Passed) (heard : List Heard) : Type 0 where
  pub first : IsPrefix (typed_at 0 passed) (typed_in 0 lines ++ keys_typed Port.Zero escape heard)
  pub second : IsPrefix (typed_at 1 passed) (typed_in 1 lines ++ keys_typed Port.One escape heard)

-- if it has ended since the user wanted it, a command to quit was among the bytes
abbrev pub WantsEnd : HostsEnd → ℕ → List Heard → Type 0
WantsEnd UserQuit escape heard = list_any is_quit (commands_at escape at_first heard) ≡ true
WantsEnd end escape heard = Unit {0}

pub record WasTyped {R : Type 0} (remaining : R → Option (List ℕ)) (end : HostsEnd) (escape : ℕ) (lines : List Line)
    (passed : List Passed) (reader : R) : Type 0 where
  pub left : R
  pub heard : List Heard
  pub read : Consumes (remaining reader) (remaining left) (flat_map heard_bytes heard)
  pub typed : HasTyped escape lines passed heard
  pub wanted : WantsEnd end escape heard

-- If no host is left, nobody waits for what is typed: what was read then is not known. Nobody has stopped it from elsewhere.
abbrev pub WasHeard : {R : Type 0} → (R → Option (List ℕ)) → HostsEnd → ℕ → List Line → List Passed → R → Type 0
WasHeard remaining NoHosts escape lines passed reader = Unit {0}
WasHeard remaining Stopped escape lines passed reader = ⊥
WasHeard remaining UserQuit escape lines passed reader = WasTyped remaining UserQuit escape lines passed reader
WasHeard remaining Settled escape lines passed reader = WasTyped remaining Settled escape lines passed reader
WasHeard remaining Silent escape lines passed reader = WasTyped remaining Silent escape lines passed reader

-- These pieces appeared, each byte of a terminal while one looked at it. With what is kept for terminals at which nobody has looked since,
-- they have all that the terminals accepted, in order and each byte once.
pub record HasAppeared (passed : List Passed) (pieces : List Piece) : Type 0 where
  pub kept : List Shown
  pub shown : (port : ℕ) → shown_at port (guest_in pieces) ++ shown_at port kept ≡ passing.shown_at port passed
  pub seen : AreSeen (Some Port.Zero) pieces

-- all of it, over the streams of a console
pub record HasSat {R W N D S : Type 0} (remaining : R → Option (List ℕ)) (contents : W → Option (List ℕ))
    (notes : N → Option (List ℕ)) (escape : ℕ) (lines : List Line) (first : Session D S) (streams : Streams R W N)
    (records : List Record) (end : HostsEnd) (writer : W) (beside : N) : Type 0 where
  pub last : Session D S
  pub ended : Ended end first last
  pub heard : WasHeard remaining end escape lines (passed_to ended) streams.reader
  pub pieces : List Piece
  pub appeared : HasAppeared (passed_to ended) pieces
  pub records_are : records ≡ last.switch.devices.records
  pub written : Appends (contents streams.writer) (contents writer) (bytes_of pieces)
  pub noted : Appends (notes streams.notes) (notes beside) (texts_of pieces)
