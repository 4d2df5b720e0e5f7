-- The messages of a run: which an event has sent, and which it has brought to someone.
use Rattle.std.specs.Prelude.{ℕ, List, Option, Some, None, Result, Ok, Err, slice_get}
use Rattle.i8080_words.specs.declared.refusal.Fault.{Fault}
use Rattle.i8080_words.specs.declared.refusal.Fault.TheVariants.{Unknown}
use Rattle.pair_events.specs.declared.event.Event.{Event}
use Rattle.pair_events.specs.declared.event.Event.TheVariants as event
use Rattle.pair_events.specs.declared.reply.Reply.{Reply}
use Rattle.pair_events.specs.declared.reply.Reply.TheVariants as reply
use Rattle.sequence_diagram.specs.declared.moment.Moment.{Moment}

-- the message of an answer
abbrev pub message_of : Result Reply Fault → Option ℕ
message_of (Ok (reply.Message message)) = Some message
message_of _ = None

-- the message that an event delivers
abbrev pub delivered_by : Event → Option ℕ
delivered_by (event.DeliverLog message node) = Some message
delivered_by (event.DeliverAcknowledgement message node) = Some message
delivered_by (event.Arrive message) = Some message
delivered_by (event.Put message) = Some message
delivered_by (event.PutReply message node) = Some message
delivered_by (event.GetReply message node) = Some message
delivered_by (event.Fetched message node) = Some message
delivered_by (event.PartComes message node) = Some message
delivered_by _ = None

-- no message is brought if it does not exist, or nobody to whom it could be brought does
abbrev pub unless_unknown : Result Reply Fault → Option ℕ → Option ℕ
unless_unknown (Err Unknown) message = None
unless_unknown _ message = message

abbrev pub sent_by : Moment → Option ℕ
sent_by moment = message_of moment.answer

abbrev pub brought_by : Moment → Option ℕ
brought_by moment = unless_unknown moment.answer (delivered_by moment.event)

-- the message that an event was to bring, if it is unknown
abbrev unknown_by : Event → Result Reply Fault → Option ℕ
unknown_by happened (Err Unknown) = delivered_by happened
unknown_by happened answer = None

abbrev unknown_of : Option Moment → Option ℕ
unknown_of (Some moment) = unknown_by moment.event moment.answer
unknown_of None = None

abbrev pub unknown_at : List Moment → ℕ → Option ℕ
unknown_at moments place = unknown_of (slice_get moments place)

-- which was sent, or brought, at a place of a run
abbrev pub sent_of : Option Moment → Option ℕ
sent_of (Some moment) = sent_by moment
sent_of None = None

abbrev pub brought_of : Option Moment → Option ℕ
brought_of (Some moment) = brought_by moment
brought_of None = None

abbrev pub sent_at : List Moment → ℕ → Option ℕ
sent_at moments place = sent_of (slice_get moments place)

abbrev pub brought_at : List Moment → ℕ → Option ℕ
brought_at moments place = brought_of (slice_get moments place)
