-- What marks the line of a node: its role, the count of its machine, and how much of its output waits.
use Rattle.std.specs.Prelude.{ℕ, ◌-◌, ◌==◌, ◌&&◌, not, Bool, true, false, if◌then◌else◌, List, slice_get, Option, Some, None, Result, Ok, codes}
use Rattle.i8080_words.specs.declared.refusal.Fault.{Fault}
use Rattle.pair_events.specs.declared.reply.Reply.{Reply}
use Rattle.pair_events.specs.declared.reply.Reply.TheVariants as reply
use Rattle.pair_events.specs.declared.reply.Role.{Role}
use Rattle.pair_events.specs.declared.reply.Role.TheVariants as role
use Rattle.sequence_diagram.specs.declared.moment.NodeLook.{NodeLook}
use Rattle.sequence_diagram.specs.declared.moment.Moment.{Moment}
use Rattle.sequence_diagram.specs.declared.waits.OutputWait.{OutputWait}

-- the class of a bar, by the role of its node
abbrev pub class_of : Role → List ℕ
class_of role.Primary = codes "primary"
class_of role.Backup = codes "backup"
class_of role.Joining = codes "joining"
class_of role.Draining = codes "draining"
class_of other = codes "alone"

-- the count is shown of a machine that has run
abbrev shown_by : Result Reply Fault → Option NodeLook → Option NodeLook
shown_by (Ok (reply.Ran steps count why)) look = look
shown_by (Ok (reply.Moved moves why)) look = look
shown_by (Ok (reply.MovedAlone moves)) look = look
shown_by answer look = None

abbrev pub look_after : Moment → Option NodeLook
look_after moment = shown_by moment.answer moment.look

-- an event may give an operation, or may cover some
abbrev pub is_news : Result Reply Fault → Bool
is_news (Ok (reply.Ran steps count why)) = true
is_news (Ok (reply.Held held)) = true
is_news answer = false

-- how many operations wait after an event, and before one
abbrev operations_of : Option OutputWait → ℕ
operations_of (Some wait) = wait.operations
operations_of None = 0

abbrev pub operations_at : List OutputWait → ℕ → ℕ
operations_at waits place = operations_of (slice_get waits place)

abbrev pub operations_before : List OutputWait → ℕ → ℕ
operations_before waits place = if place == 0 then 0 else operations_at waits (place - 1)

-- what waits is told after such an event, if it is not as many operations as before it
abbrev told_if : Bool → ℕ → Option OutputWait → Option OutputWait
told_if news before (Some wait) = if news && not (before == wait.operations) then Some wait else None
told_if news before None = None

abbrev pub told_wait : List OutputWait → Moment → ℕ → Option OutputWait
told_wait waits moment place = told_if (is_news moment.answer) (operations_before waits place) (slice_get waits place)
