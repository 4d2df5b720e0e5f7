-- What lines answer that are not events.
use Rattle.std.specs.Prelude.{ℕ, zero, suc, ◌-◌, ◌==◌, nat_lt, if◌then◌else◌, List, [], ◌∷◌, ◌++◌, Option, Some, None, Result, Ok, Err, codes, length, replicate}
use Rattle.std.specs.List.{flat_map}
use Rattle.std.specs.Fmt.{decimal}
use Rattle.i8080_words.specs.Refusals.{number_of}
use Rattle.i8080_words.specs.declared.refusal.Fault.{Fault}
use Rattle.pair_events.specs.Printed.{reply_text}
use Rattle.pair_events.specs.declared.reply.Reply.{Reply}
use Rattle.pair_events.specs.declared.reply.Reply.TheVariants.{Message}
use Rattle.shell_language.specs.Forms.{Shape, shapes}
use Rattle.shell_language.specs.Refusals.{refusal_words, refusals}
use Rattle.shell_language.specs.Notes.{next}
use Rattle.shell_language.specs.Texts.{Row, Text, Words}
use Rattle.shell_language.specs.declared.tape.Played.{Played}
use Rattle.shell_picture.specs.declared.answers.Sum.{Sum}

-- a refusal that only the shell tells: its number, before its words
abbrev pub refused_text : Fault → List ℕ
refused_text fault = codes "refused " ++ (decimal (number_of fault) ++ codes ", ")

abbrev pub refused : Fault → Row
refused fault = Words (refused_text fault) fault []

-- `last`, by how many messages there are: they are numbered from 0
abbrev pub message_text : ℕ → List ℕ
message_text count = if count == 0 then codes "no message" else reply_text (Message (count - 1))

-- how many events of a tape happened, how many were refused, and the last answer
abbrev pub counted : Result Reply Fault → Sum → Sum
counted (Ok reply) sum = record { happened = next sum.happened; refused = sum.refused; last = Some (Ok reply) }
counted (Err fault) sum = record { happened = sum.happened; refused = next sum.refused; last = Some (Err fault) }

abbrev pub sum_from : Sum → List Played → Sum
sum_from sum [] = sum
sum_from sum (played ∷ tape) = sum_from (counted played.answer sum) tape

abbrev pub sum_of : List Played → Sum
sum_of tape = sum_from (record { happened = 0; refused = 0; last = None }) tape

-- how many were refused, if any
abbrev pub others_text : ℕ → List ℕ
others_text zero = []
others_text (suc before) = codes "; " ++ decimal (suc before) ++ codes " refused"

-- `K done, the last: ANSWER; J refused`
abbrev pub done_text : ℕ → List ℕ → List ℕ
done_text happened answer = decimal happened ++ (codes " done, the last: " ++ answer)

abbrev pub sum_by : Option (Result Reply Fault) → ℕ → ℕ → Row
sum_by None happened others = Text (codes "nothing to do")
sum_by (Some (Ok reply)) happened others = Text (done_text happened (reply_text reply ++ others_text others))
sum_by (Some (Err fault)) happened others = Words (done_text happened (refused_text fault)) fault (others_text others)

abbrev pub sum_row : List Played → Row
sum_row tape = sum_by (sum_of tape).last (sum_of tape).happened (sum_of tape).refused

-- a form of lines, and what it does in a column after that; 32 is a space
abbrev pub help_text : Shape → List ℕ
help_text shape = shape.usage ++ (replicate (24 - length shape.usage) 32 ++ shape.meaning)

-- `help`: all forms
abbrev pub help_row : Shape → List Row
help_row shape = Text (help_text shape) ∷ []

abbrev pub help_rows : List Row
help_rows = flat_map help_row shapes

-- a refusal, by its number and in words
abbrev pub listed_text : Fault → List ℕ
listed_text fault = decimal (number_of fault) ++ (replicate (if nat_lt (number_of fault) 10 then 3 else 2) 32 ++ refusal_words fault)

-- `help refusals`: all of them
abbrev pub refusal_row : Fault → List Row
refusal_row fault = Text (listed_text fault) ∷ []

abbrev pub refusal_rows : List Row
refusal_rows = flat_map refusal_row refusals
