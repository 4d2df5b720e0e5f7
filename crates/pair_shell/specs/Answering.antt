-- What a session answers to its lines, one after another, and what each of them does to its pair.
use Rattle.std.specs.Prelude.{◌≡◌, ℕ, Bool, true, false, List, [], ◌∷◌, ◌++◌, Option, Some, None, is_some, map, string_bytes}
use Rattle.std.specs.List.{concat}
use Rattle.std.specs.Io.KnownBytes.{Appends}
use Rattle.altair_laws.specs.Copies.{image_copy}
use Rattle.guest_board.specs.Guest.{guest_at_boot}
use Rattle.guest_board.specs.Inputs.{some_altair}
use Rattle.guest_parts.specs.Guest.{Guest}
use Rattle.ft_world.specs.Applies.{Rows}
use Rattle.ft_world.specs.Beginning.{beginning}
use Rattle.ft_world.specs.Standing.{Course, machine_of}
use Rattle.ft_world.specs.Words.{answer_of}
use Rattle.pair_protocol.specs.World.{World}
use Rattle.altair_pair.specs.Booting.{HostsCome}
use Rattle.pair_shell.specs.Looking.{Sees}
use Rattle.pair_shell.specs.Playing.{answers_of, events_of}
use Rattle.pair_shell.specs.Sessions.{HeedsSaid, MayRefuse, is_quit, is_run, trace_after}
use Rattle.shared_disk.specs.Records.{HasDrives, IsAtBoot, IsUnwritten}
use Rattle.shared_disk.specs.declared.store.Record.{Record}
use Rattle.shell_language.specs.Outcomes.{is_ended}
use Rattle.shell_language.specs.Tapes.{Begins, trace_text}
use Rattle.shell_language.specs.declared.outcome.LineOutcome.{LineOutcome}
use Rattle.shell_language.specs.declared.outcome.LineOutcome.TheVariants.{Done, Refused}
use Rattle.shell_language.specs.declared.printing.Printed.{Printed}
use Rattle.shell_language.specs.declared.tape.Played.{Played}
use Rattle.shell_language.specs.Saying.{said}
use Rattle.shell_language.specs.declared.line.ShellLine.{ShellLine}
use Rattle.shell_language.specs.declared.line.ShellLine.TheVariants as shell
use Rattle.shell_language.specs.Openings.{IsDefault, IsSame, SetsUpSaid}
use Rattle.shell_language.specs.declared.opening.SessionSetup.{SessionSetup}
use Rattle.pair_shell.specs.Lines.{without_cr}

-- a session between two lines: its setup, a world of the protocol if its pair has booted, and whether events are traced
pub record Sitting : Type 0 where
  pub opening : SessionSetup
  pub pair : Option (Course Guest)
  pub is_traced : Bool

-- before its first line nothing is set, no pair has booted, and nothing is traced
pub record IsNew (s : Sitting) : Type 0 where
  pub opening : IsDefault s.opening
  pub pair : s.pair ≡ None
  pub is_traced : s.is_traced ≡ false

-- the pair of a setup, with these records on its disk
abbrev pub begun : SessionSetup → List Record → Course Guest
begun opening records = beginning some_altair (image_copy opening.setup.guest.drives) opening.setup.guest.reads
    (guest_at_boot opening.setup.guest) records

-- a pair has booted as a session's setup says: the setup's sectors are on its disk, nothing is written on it, and it has as many
-- hosts
pub record Boots (opening : SessionSetup) (booted : Course Guest) : Type 0 where
  pub records : List Record
  pub has_drives : HasDrives records opening.setup.guest.drives
  pub unwritten : IsUnwritten records
  pub at_boot : IsAtBoot records opening.setup.guest.drives opening.sectors.items
  pub world : World Guest
  pub come : HostsCome (machine_of some_altair (begun opening records)) (begun opening records).world opening.setup.hosts world
  pub is : booted ≡ record (begun opening records) { world = world }

-- the events of a tape have happened in a pair, each by its row and with its answer, and nothing else has changed it
pub record Passes (old : Course Guest) (tape : List Played) (new : Course Guest) : Type 0 where
  pub after : World Guest
  pub rows : Rows (machine_of some_altair old) old.copying old.world (events_of tape) (map answer_of (answers_of tape)) after
  pub is : new ≡ record old { world = after }

-- the same in a session, whose pair boots as its setup says if it has not yet
abbrev pub PairPasses : SessionSetup → Option (Course Guest) → List Played → Option (Course Guest) → Type 0
PairPasses opening (Some old) tape (Some new) = Passes old tape new
PairPasses opening None tape (Some new) = (booted : Course Guest) × (Boots opening booted × Passes booted tape new)
PairPasses opening None tape None = tape ≡ []
PairPasses opening (Some old) tape None = ⊥

-- a line that looks at what the pair has plays nothing, and its answer is what is there
abbrev pub SeesIn : ShellLine → Option (Course Guest) → Printed → Printed → Type 0
SeesIn line None old new = ⊥
SeesIn line (Some pair) old new = Sees pair line old new

pub record HasSeen (line : ShellLine) (tape : List Played) (pair : Option (Course Guest)) (is_traced : Bool) (answer : List ℕ)
    : Type 0 where
  pub nothing_played : tape ≡ []
  pub before : Printed
  pub after : Printed
  pub blank : string_bytes before.text ≡ []
  pub traced : before.is_traced ≡ is_traced
  pub told : string_bytes after.text ≡ answer
  pub seen : SeesIn line pair before after

abbrev pub SeesSaid : Option ShellLine → List Played → Option (Course Guest) → Bool → List ℕ → Type 0
SeesSaid (Some (shell.Look look)) tape pair is_traced answer = HasSeen (shell.Look look) tape pair is_traced answer
SeesSaid (Some (shell.Query query)) tape pair is_traced answer = HasSeen (shell.Query query) tape pair is_traced answer
SeesSaid (Some (shell.Screen port is_new)) tape pair is_traced answer = HasSeen (shell.Screen port is_new) tape pair is_traced answer
SeesSaid (Some (shell.Sector address)) tape pair is_traced answer = HasSeen (shell.Sector address) tape pair is_traced answer
SeesSaid _ tape pair is_traced answer = Unit {0}

-- a line that is refused leaves the session as it was
pub record IsLeft (tape : List Played) (old new : Sitting) : Type 0 where
  pub nothing_played : tape ≡ []
  pub opening : IsSame old.opening new.opening
  pub pair : new.pair ≡ old.pair
  pub is_traced : new.is_traced ≡ old.is_traced

-- What a line is answered. A trace of the events that it made comes first, if events are traced. A line that is an event made
-- that event alone, and is answered as in a script; one that looks at what the pair has is told what is there. A line that says nothing
-- is refused, and one that says something only for one of the reasons that there are.
pub record IsAnswer (line : List ℕ) (old : Sitting) (answer : List ℕ) (new : Sitting) : Type 0 where
  pub outcome : LineOutcome
  pub tape : List Played
  pub played : PairPasses old.opening old.pair tape new.pair
  pub traced : old.is_traced ≡ true → Begins (trace_text tape) answer
  pub heeded : outcome ≡ Done → HeedsSaid (said line) tape old.is_traced [] answer
  pub seen : outcome ≡ Done → SeesSaid (said line) tape new.pair old.is_traced answer
  pub wrong : said line ≡ None → outcome ≡ Refused
  pub why : outcome ≡ Refused → MayRefuse old.opening (is_some old.pair) (said line)
  pub set : outcome ≡ Done → SetsUpSaid (said line) old.opening new.opening
  pub switched : new.is_traced ≡ trace_after (said line) old.is_traced
  pub left : outcome ≡ Refused → IsLeft tape old new
  pub ended : is_ended outcome ≡ is_quit (said line)

-- more events have happened, as the tape says, and nothing else has changed; a trace of them comes first
pub record GoesOn (old : Sitting) (answer : List ℕ) (new : Sitting) : Type 0 where
  pub tape : List Played
  pub played : PairPasses old.opening old.pair tape new.pair
  pub traced : old.is_traced ≡ true → Begins (trace_text tape) answer
  pub opening : new.opening ≡ old.opening
  pub is_traced : new.is_traced ≡ old.is_traced

-- the whole answer to a line: a day may go on after a pause, any number of times
pub data IsWholeAnswer (line : List ℕ) (old : Sitting) : List ℕ → Sitting → Type 0 where
  Once : {answer : List ℕ} {new : Sitting} → IsAnswer line old answer new → IsWholeAnswer line old answer new
  Further : {answer more : List ℕ} {mid new : Sitting} → IsWholeAnswer line old answer mid → is_run (said line) ≡ true
      → GoesOn mid more new → IsWholeAnswer line old (answer ++ more) new

-- each line has its answer, by the session as the lines before it have left it
pub data AreAnswers : Sitting → List (List ℕ) → List (List ℕ) → Sitting → Type 0 where
  NoLine : {s : Sitting} → AreAnswers s [] [] s
  Next : {s mid new : Sitting} {line answer : List ℕ} {lines answers : List (List ℕ)} → IsWholeAnswer line s answer mid
      → AreAnswers mid lines answers new → AreAnswers s (line ∷ lines) (answer ∷ answers) new

-- these lines were answered from here on, each by its answer and in order, and nothing else was written
pub record HaveAnswers (first : Sitting) (lines : List (List ℕ)) (old new : Option (List ℕ)) : Type 0 where
  pub last : Sitting
  pub answers : List (List ℕ)
  pub answered : AreAnswers first (map without_cr lines) answers last
  pub written : Appends old new (concat answers)
