-- What is printed of what is outstanding in a pair.
use Rattle.std.specs.Prelude.{ℕ, nat_le, if◌then◌else◌, List, [], ◌∷◌, ◌++◌, Option, Some, None, codes}
use Rattle.std.specs.Fmt.{decimal}
use Rattle.event_callbacks.specs.declared.operations.OpId.{OpId}
use Rattle.event_callbacks.specs.declared.operations.OpId.TheVariants as id
use Rattle.ft_node.specs.declared.ran.Standing.{Standing}
use Rattle.pair_events.specs.declared.event.Event.{Event}
use Rattle.pair_shell.specs.declared.serving.ServingNodes.{ServingNodes}
use Rattle.pair_shell.specs.declared.serving.ServingNodes.TheVariants as serving
use Rattle.shell_language.specs.Texts.{Row, Text}
use Rattle.shell_language.specs.Spelling as spelling
use Rattle.pair_shell.specs.declared.why.Wait.{Wait}
use Rattle.pair_shell.specs.declared.why.Wait.TheVariants as wait
use Rattle.pair_shell.specs.declared.why.Waiting.{Waiting}

-- which nodes may serve
abbrev pub node_text : ℕ → List ℕ → List ℕ
node_text node rest = codes "node " ++ (decimal node ++ rest)

abbrev pub serving_text : ServingNodes → List ℕ
serving_text serving.Nobody = codes "no node may serve"
serving_text (serving.Primary node) = node_text node (codes " is a primary without a backup")
serving_text (serving.Backup node) = node_text node (codes " is a backup without a primary")
serving_text (serving.Draining node) = node_text node (codes " has won, and repeats what it holds")
serving_text (serving.Alone node) = node_text node (codes " is alone")
serving_text (serving.Joining node host) =
    node_text node (codes " is a primary, and host " ++ (decimal host ++ codes " joins it"))
serving_text (serving.Pair node backup) =
    node_text node (codes " is a primary, and node " ++ (decimal backup ++ codes " its backup"))

-- how many entries of a log are acknowledged, or of those that a node holds are replayed
abbrev pub standing_rows : Option Standing → List Row
standing_rows None = []
standing_rows (Some standing) =
    Text (codes "  " ++ (decimal standing.done ++ (codes " of " ++ (decimal standing.entries ++ codes " entries are through")))) ∷ []

-- an operation, as a script names it
abbrev pub name_text : OpId → List ℕ
name_text (id.Byte port number) = codes "  byte " ++ (decimal port ++ (codes " " ++ (decimal number ++ codes " ")))
name_text (id.Write number) = codes "  write " ++ (decimal number ++ codes " ")

-- what it waits for
abbrev pub words_of : Wait → List ℕ
words_of wait.Acknowledgement = codes "waits for an acknowledgement of its mark"
words_of wait.Report = codes "waits until a read before it is replayed"
words_of wait.Live = codes "waits until its node is live"
words_of wait.Release = codes "waits for its release"
words_of wait.Arrival = codes "is on its way"
words_of wait.Answer = codes "waits for the disk's answer"
words_of wait.Hearing = codes "was accepted"

-- what one waits for that is held: of a pair's primary that has an acknowledgement of all that it logged, a report
abbrev pub held_by : Option Standing → Wait
held_by None = wait.Acknowledgement
held_by (Some standing) = if nat_le standing.entries standing.done then wait.Report else wait.Acknowledgement

abbrev pub held_for : ServingNodes → Option Standing → Wait
held_for (serving.Pair n backup) standing = held_by standing
held_for (serving.Joining n host) standing = held_by standing
held_for other standing = wait.Live

-- the event that brings it on, if that is an event of its own
abbrev pub event_text : Option Event → List ℕ
event_text None = []
event_text (Some happens) = codes ": `" ++ (spelling.event_text happens ++ codes "`")

abbrev pub waiting_text : Waiting → List ℕ
waiting_text waiting = name_text waiting.id ++ (words_of waiting.wait ++ event_text waiting.event)

-- the event that comes next
abbrev pub next_rows : Option Event → List Row
next_rows None = Text (codes "  nothing is outstanding") ∷ []
next_rows (Some happens) = Text (codes "  next: `" ++ (spelling.event_text happens ++ codes "`")) ∷ []
