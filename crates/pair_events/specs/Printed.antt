-- What a script prints: a line for each reply, each refusal and each query, as docs/SCRIPTS.md has them.
use Rattle.std.specs.Prelude.{ℕ, ◌/◌, ◌%◌, true, List, [], ◌∷◌, ◌++◌, Result, Ok, Err, codes}
use Rattle.std.specs.List.{flat_map}
use Rattle.std.specs.Fmt.{decimal, digit_glyph}
use Rattle.event_callbacks.specs.declared.operations.OpId.TheVariants as id
use Rattle.guest_lockstep.specs.declared.replay_end.ReplayEnd.{ReplayEnd}
use Rattle.guest_lockstep.specs.declared.replay_end.ReplayEnd.TheVariants as ended
use Rattle.guest_lockstep.specs.declared.running.StopReason.{StopReason}
use Rattle.guest_lockstep.specs.declared.running.StopReason.TheVariants as stopped
use Rattle.i8080_words.specs.declared.refusal.Fault.{Fault}
use Rattle.i8080_words.specs.declared.refusal.Fault.TheVariants.{Idle, Spent}
use Rattle.i8080_words.specs.Refusals.{number_of}
use Rattle.pair_events.specs.declared.reply.Reply.{Reply}
use Rattle.pair_events.specs.declared.reply.Reply.TheVariants as reply
use Rattle.pair_events.specs.declared.reply.Role.{Role}
use Rattle.pair_events.specs.declared.reply.Role.TheVariants as role
use Rattle.pair_events.specs.declared.answer.Answer.{Answer}
use Rattle.pair_events.specs.declared.answer.Answer.TheVariants as answer

-- one text, a space, and another
infixr 10 ◌␣◌
abbrev pub ◌␣◌ : List ℕ → List ℕ → List ℕ
first ␣ second = first ++ (32 ∷ second)

-- W: why no more steps were executed
abbrev pub why_text : StopReason → List ℕ
why_text stopped.Turns = codes "turns"
why_text (stopped.Operation (id.Byte port x)) = codes "byte" ␣ decimal port ␣ decimal x
why_text (stopped.Operation (id.Write x)) = codes "write" ␣ decimal x
why_text (stopped.Refused Idle) = codes "idle"
why_text (stopped.Refused Spent) = codes "spent"
why_text (stopped.Refused _) = codes "memory"

-- moves that were made, and why no more were
abbrev pub moved_text : ℕ → ReplayEnd → List ℕ
moved_text moves ended.Turns = codes "moved" ␣ decimal moves
moved_text moves ended.End = codes "moved" ␣ decimal moves ␣ codes "end"
moved_text moves ended.Wait = codes "moved" ␣ decimal moves ␣ codes "wait"
moved_text moves ended.Memory = codes "moved" ␣ decimal moves

-- The replies to events.
abbrev pub reply_text : Reply → List ℕ
reply_text (reply.Ran steps count reason) = codes "ran" ␣ decimal steps ␣ codes "count" ␣ decimal count ␣ why_text reason
reply_text (reply.Typed index) = codes "typed" ␣ decimal index
reply_text reply.Taken = codes "taken"
reply_text (reply.Message message) = codes "message" ␣ decimal message
reply_text reply.New = codes "new"
reply_text reply.Old = codes "old"
reply_text (reply.Held held) = codes "held" ␣ decimal held
reply_text (reply.Moved moves reason) = moved_text moves reason
reply_text (reply.MovedAlone moves) = codes "moved" ␣ decimal moves ␣ codes "alone"
reply_text reply.Accepted = codes "accepted"
reply_text reply.Dropped = codes "dropped"
reply_text (reply.Told keys) = codes "told" ␣ decimal keys
reply_text reply.Won = codes "won"
reply_text (reply.Generation generation) = codes "generation" ␣ decimal generation
reply_text (reply.Stale pages) = codes "stale" ␣ decimal pages
reply_text reply.Whole = codes "whole"
reply_text reply.Stopped = codes "stopped"

-- A refusal: its number.
abbrev pub refusal_text : Fault → List ℕ
refusal_text fault = codes "refused" ␣ decimal (number_of fault)

-- The answer to an event: its reply, or its refusal.
abbrev pub answer_line : Result Reply Fault → List ℕ
answer_line (Ok happened) = reply_text happened
answer_line (Err fault) = refusal_text fault

-- HH: a byte as two hexadecimal digits, in upper case
abbrev pub byte_text : ℕ → List ℕ
byte_text byte = digit_glyph true (byte / 16) ∷ digit_glyph true (byte % 16) ∷ []

-- each byte after a space
abbrev pub bytes_text : List ℕ → List ℕ
bytes_text bytes = flat_map (λ (byte : ℕ). 32 ∷ byte_text byte) bytes

-- `show P`: the bytes that a terminal has accepted
abbrev pub accepted_text : ℕ → List ℕ → List ℕ
accepted_text port bytes = codes "port" ␣ (decimal port ++ (codes ":" ++ bytes_text bytes))

-- `packet M`: the bytes of a message
abbrev pub packet_text : List ℕ → List ℕ
packet_text [] = []
packet_text (byte ∷ bytes) = byte_text byte ++ bytes_text bytes

-- a role
abbrev pub role_text : Role → List ℕ
role_text role.Primary = codes "primary"
role_text role.Backup = codes "backup"
role_text role.Joining = codes "joining"
role_text role.Draining = codes "draining"
role_text role.Alone = codes "alone"
role_text role.Halted = codes "halted"

-- `node N`: its role, generation and count; of a halted node its role alone, of a joining one no count
abbrev pub node_text : Role → ℕ → ℕ → List ℕ
node_text role.Halted generation count = role_text role.Halted
node_text role.Joining generation count = role_text role.Joining ␣ decimal generation
node_text other generation count = role_text other ␣ decimal generation ␣ codes "count" ␣ decimal count

-- What is printed for a line.
abbrev pub answer_text : Answer → List ℕ
answer_text (answer.Reply happened) = reply_text happened
answer_text (answer.Refused fault) = refusal_text fault
answer_text (answer.Accepted port bytes) = accepted_text port bytes.now
answer_text (answer.Packet bytes) = packet_text bytes.now
answer_text (answer.Node what generation count) = node_text what generation count
