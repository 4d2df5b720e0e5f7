-- Like events that follow one another, parts of a copy or keys of a terminal, and how many of them share a line.
use Rattle.std.specs.Prelude.{ℕ, ◌+◌, ◌==◌, ◌&&◌, nat_lt, Bool, true, false, if◌then◌else◌, List, [], ◌∷◌, Option, Some, None, Result, Ok}
use Rattle.std.specs.List.{prefix_len}
use Rattle.std.specs.Option.{option_or}
use Rattle.i8080_words.specs.declared.refusal.Fault.{Fault}
use Rattle.pair_events.specs.declared.event.Event.{Event}
use Rattle.pair_events.specs.declared.event.Event.TheVariants as event
use Rattle.pair_events.specs.declared.reply.Reply.{Reply}
use Rattle.sequence_diagram.specs.Columns.{is_port}
use Rattle.sequence_diagram.specs.declared.moment.Moment.{Moment}
use Rattle.sequence_diagram.specs.declared.runs.RunKind.{RunKind}
use Rattle.sequence_diagram.specs.declared.runs.RunKind.TheVariants.{Parts, Keys}

-- ---- one event

-- it has sent or brought a part of a copy
abbrev pub is_part_by : Event → Result Reply Fault → Bool
is_part_by (event.SendPart node index) (Ok answer) = true
is_part_by (event.PartComes message node) (Ok answer) = true
is_part_by happened answer = false

abbrev pub is_part : Moment → Bool
is_part moment = is_part_by moment.event moment.answer

-- the port at which it has typed a key or taken one
abbrev pub key_by : Event → Result Reply Fault → Option ℕ
key_by (event.TypeByte port byte) (Ok answer) = Some port
key_by (event.TakeKey node port index) (Ok answer) = Some port
key_by happened answer = None

abbrev pub key_of : Moment → Option ℕ
key_of moment = key_by moment.event moment.answer

-- the node that takes a key by it
abbrev pub taker_of : Event → Option ℕ
taker_of (event.TakeKey node port index) = Some node
taker_of other = None

-- ---- many

-- of the keys of one terminal that come first, the node that takes one first
abbrev pub taker_in : ℕ → List Moment → Option ℕ
taker_in port [] = None
taker_in port (moment ∷ moments) =
    if is_port port (key_of moment) then option_or (taker_of moment.event) (taker_in port moments) else None

-- what an event is like with which these events begin
abbrev keys_of : Option ℕ → List Moment → Option RunKind
keys_of None moments = None
keys_of (Some port) moments = Some (Keys port (taker_in port moments))

abbrev pub kind_of : Moment → List Moment → Option RunKind
kind_of moment moments = if is_part moment then Some Parts else keys_of (key_of moment) moments

-- keys of one terminal are alike if none of them is taken by another node
abbrev pub is_taken_by : Event → Option ℕ → Bool
is_taken_by (event.TakeKey taker port index) (Some node) = taker == node
is_taken_by (event.TakeKey taker port index) None = false
is_taken_by other by = true

abbrev pub is_of_kind : RunKind → Moment → Bool
is_of_kind Parts moment = is_part moment
is_of_kind (Keys port by) moment = is_port port (key_of moment) && is_taken_by moment.event by

-- all parts in a row share one line, and keys in a row if they are more than eight
abbrev pub shared : RunKind → ℕ → ℕ
shared Parts count = count
shared (Keys port by) count = if nat_lt 8 count then count else 1

abbrev run_by : Option RunKind → List Moment → ℕ
run_by None after = 1
run_by (Some kind) after = shared kind (1 + prefix_len (is_of_kind kind) after)

-- how many of some events share the line which the first of them begins, since they are alike
abbrev pub run_length : List Moment → ℕ
run_length [] = 0
run_length (moment ∷ after) = run_by (kind_of moment (moment ∷ after)) after
