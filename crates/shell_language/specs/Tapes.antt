-- How a tape is printed.
use Rattle.std.specs.Prelude.{◌≡◌, ℕ, List, [], ◌∷◌, ◌++◌, Bool, true, false, if◌then◌else◌, Result, codes}
use Rattle.std.specs.List.{flat_map}
use Rattle.i8080_words.specs.declared.refusal.Fault.{Fault}
use Rattle.pair_events.specs.Printed.{answer_line}
use Rattle.pair_events.specs.declared.event.Event.{Event}
use Rattle.pair_events.specs.declared.reply.Reply.{Reply}
use Rattle.shell_language.specs.Spelling.{event_text}
use Rattle.shell_language.specs.declared.tape.Played.{Played}

-- an event with its answer
abbrev pub played : Event → Result Reply Fault → Played
played happened answer = record { event = happened; answer = answer }

-- an event as a line of a script, and its answer as a comment after it
abbrev pub event_lines : Played → List ℕ
event_lines p = event_text p.event ++ (10 ∷ codes "# ") ++ answer_line p.answer ++ (10 ∷ [])

-- a tape as a script
abbrev pub trace_text : List Played → List ℕ
trace_text tape = flat_map event_lines tape

-- the tape was printed, if it was to be
abbrev pub Traces : Bool → List Played → List ℕ → List ℕ → Type 0
Traces is_traced tape old new = new ≡ (if is_traced then old ++ trace_text tape else old)

-- an event and its answer, as a script or as a session prints them
abbrev pub told_text : Bool → Played → List ℕ
told_text true p = event_lines p
told_text false p = answer_line p.answer ++ (10 ∷ [])

-- this event alone has happened, and it was answered as a script answers it
pub record IsAnswered (happened : Event) (tape : List Played) (is_traced : Bool) (old new : List ℕ) : Type 0 where
  pub answer : Result Reply Fault
  pub alone : tape ≡ played happened answer ∷ []
  pub told : new ≡ old ++ told_text is_traced (played happened answer)

-- a text begins with these bytes
abbrev pub Begins : List ℕ → List ℕ → Type 0
Begins front text = (rest : List ℕ) × (text ≡ front ++ rest)
