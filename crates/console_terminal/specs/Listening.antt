-- What the thread that hears has taken from its source, and handed on.
use Rattle.std.specs.Prelude.{◌≡◌, ℕ, ◌<◌, flat_map, Bool, true, false, List, [], ◌∷◌, ◌++◌, Option, None, Some}
use Rattle.std.specs.Io.KnownBytes.{Consumes, IsAtEnd}
use Rattle.std.specs.List.{list_any}
use Rattle.console_terminal.specs.declared.keyboard.Stroke.{Stroke}
use Rattle.rtrb.specs.Ring.{SameProducer, known_free, sent}
use Rattle.console_terminal.specs.Commands.{Grows}
use Rattle.console_terminal.specs.Keys.{heard_bytes}
use Rattle.console_terminal.specs.Telling.{Tells, closing}
use Rattle.console_terminal.specs.Typing.{Place, after_all, commands_at, place_of, strokes_at}
use Rattle.console_terminal.specs.declared.command.Command.{Command}
use Rattle.console_terminal.specs.declared.command.Order.{Order}
use Rattle.console_terminal.specs.declared.desk.Act.{Act}
use Rattle.console_terminal.specs.declared.keys.Heard.{Heard}
use Rattle.console_terminal.specs.declared.listener.Ending.{Ending}
use Rattle.console_terminal.specs.declared.listener.Listener.{Listener}
use Rattle.console_terminal.specs.declared.note.DisplayNote.{DisplayNote}
use Rattle.console_terminal.specs.declared.port.Port.{Port}

-- ---- the end

-- what both keyboards are told at the end; if it was stopped, nobody hears it
abbrev pub last_strokes : Ending → List Stroke
last_strokes Ending.Stopped = []
last_strokes Ending.Quit = Stroke.End ∷ []
last_strokes Ending.EndOfInput = Stroke.End ∷ []
last_strokes Ending.Failed = Stroke.End ∷ []

abbrev pub strokes_after : Option Ending → List Stroke
strokes_after None = []
strokes_after (Some ending) = last_strokes ending

-- a command line that is open at the end is closed, and this is said
abbrev pub closed : Place → Place
closed p = record { port = p.port; line = None; past = p.past }

abbrev pub place_after : Option Ending → Place → Place
place_after None p = p
place_after (Some ending) p = closed p

abbrev pub notes_after : Option Ending → Place → List DisplayNote
notes_after None p = []
notes_after (Some ending) p = closing p

-- how the console ends by a byte that does this and gives this order
abbrev pub ending_of : Act → Order → Option Ending
ending_of (Act.Key byte) order = None
ending_of act (Order.Command Command.Quit) = Some Ending.Quit
ending_of act order = None

abbrev pub is_quit : Command → Bool
is_quit Command.Quit = true
is_quit _ = false

abbrev pub was_quit : Option Ending → Bool
was_quit (Some Ending.Quit) = true
was_quit _ = false

-- at the end of the input no key is left, if it is known which there were
abbrev pub EndsWith : Option Ending → Option (List ℕ) → Type 0
EndsWith (Some Ending.EndOfInput) left = IsAtEnd left
EndsWith _ left = Unit {0}

-- ---- a listener

module _ {S I : Type 0} where
  -- each ring takes what one byte may send, and that of notes one more
  abbrev pub HasRoom : Listener S I → Type 0
  HasRoom l = (0 < known_free l.first) × (0 < known_free l.second) × (2 < known_free l.notes)

  -- Some bytes were heard, and pauses between them: the keys among them went to the terminals, each once and in order, the commands to the interpreter, and to
  -- the display what becomes of the command line. If it has ended so, both keyboards were told after that, and a command line that was
  -- open is closed; it has ended by a command to quit if there is one, and at the end of the input only if no key is left.
  pub record Listens (left : S → Option (List ℕ)) (given : I → Option (List Command)) (ending : Option Ending) (old new : Listener S I) : Type 0 where
    pub heard : List Heard
    pub said : List DisplayNote
    pub taken : Consumes (left old.source) (left new.source) (flat_map heard_bytes heard)
    pub escape : new.desk.escape ≡ old.desk.escape
    pub place : place_of new.desk ≡ place_after ending (after_all old.desk.escape (place_of old.desk) heard)
    pub first : sent new.first ≡ (sent old.first ++ strokes_at Port.Zero old.desk.escape (place_of old.desk) heard) ++ strokes_after ending
    pub second : sent new.second ≡ (sent old.second ++ strokes_at Port.One old.desk.escape (place_of old.desk) heard) ++ strokes_after ending
    pub commands : Grows (given old.interpreter) (given new.interpreter) (commands_at old.desk.escape (place_of old.desk) heard)
    pub quit : was_quit ending ≡ list_any is_quit (commands_at old.desk.escape (place_of old.desk) heard)
    pub notes : sent new.notes ≡ (sent old.notes ++ said) ++ notes_after ending (after_all old.desk.escape (place_of old.desk) heard)
    pub tells : Tells old.desk.escape (place_of old.desk) heard said
    pub over : EndsWith ending (left new.source)
    pub same_first : SameProducer old.first new.first
    pub same_second : SameProducer old.second new.second
    pub same_notes : SameProducer old.notes new.notes
