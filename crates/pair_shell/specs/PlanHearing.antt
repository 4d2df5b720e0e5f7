-- What a plan hears of the event that came next.
use Rattle.std.specs.Prelude.{ℕ, ◌+◌, ◌-◌, ◌^◌, min, Bool, true, false, Option, Some, None, Result, Ok}
use Rattle.i8080_words.specs.declared.refusal.Fault.{Fault}
use Rattle.pair_events.specs.declared.reply.Reply.{Reply}
use Rattle.pair_events.specs.declared.reply.Reply.TheVariants as reply

-- the message that it sent; any other answer tells of none
abbrev pub sent_by : Result Reply Fault → Option ℕ
sent_by (Ok (reply.Message m)) = Some m
sent_by answer = None

-- whether a part, or an entry, has come, new or again
abbrev pub has_come : Result Reply Fault → Bool
has_come (Ok reply.New) = true
has_come (Ok reply.Old) = true
has_come answer = false

-- how many have come: one more, up to the greatest number, or as many as before
abbrev pub one_more : Bool → ℕ → ℕ
one_more true arrived = min (arrived + 1) (2 ^ 64 - 1)
one_more false arrived = arrived

abbrev pub arrived_after : ℕ → Result Reply Fault → ℕ
arrived_after arrived answer = one_more (has_come answer) arrived
