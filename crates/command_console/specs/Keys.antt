-- The keys that one types at a console.
use Rattle.std.specs.Prelude.{ℕ, List, [], None}
use Rattle.console_terminal.specs.Typing.{Place, strokes_at}
use Rattle.console_terminal.specs.declared.keys.Heard.{Heard}
use Rattle.console_terminal.specs.declared.port.Port.{Port}
use Rattle.console_terminal.specs.Lines.{keys_in}

-- one begins at the terminal of port 0, with no command line open, and none before it
abbrev pub at_first : Place
at_first = record { port = Port.Zero; line = None; past = [] }

-- the keys for a port among what is heard; the other bytes are those of commands, and of the other port
abbrev pub keys_typed : Port → ℕ → List Heard → List ℕ
keys_typed port escape heard = keys_in (strokes_at port escape at_first heard)
