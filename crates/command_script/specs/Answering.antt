-- What the lines of a script do, one after another, in a world of the protocol; and the world that they begin in.
use Rattle.std.specs.Prelude.{ℕ, ◌+◌, ◌≤◌, List, [], ◌∷◌, ◌++◌, Option, Result}
use Rattle.std.specs.Io.KnownBytes.{Appends}
use Rattle.disk_dcdd.specs.declared.address.SectorAddress.{SectorAddress}
use Rattle.disk_dcdd.specs.declared.sector.SectorWrite.{SectorWrite}
use Rattle.ft_world.specs.Applies.{failures_told}
use Rattle.ft_world.specs.Words.{answer_of}
use Rattle.guest_parts.specs.Guest.{Guest}
use Rattle.guest_board.specs.Guest.{altair}
use Rattle.guest_lockstep.specs.Machine.{Machine}
use Rattle.i8080_words.specs.declared.refusal.Fault.{Fault}
use Rattle.altair_pair.specs.Alike.{BeginAlike}
use Rattle.pair_events.specs.Printed.{answer_line}
use Rattle.pair_events.specs.declared.event.Event.{Event}
use Rattle.pair_events.specs.declared.reply.Reply.{Reply}
use Rattle.pair_protocol.specs.Copying.{Copying}
use Rattle.pair_protocol.specs.Row.{Row}
use Rattle.pair_protocol.specs.World.{World, opening}
use Rattle.altair_pair.specs.Booting.{HostsCome}
use Rattle.altair_pair.specs.Queries.{Finds}
use Rattle.plain_single.specs.Image.{boot_sectors}
use Rattle.script_language.specs.declared.line.Line.{Line}
use Rattle.script_language.specs.declared.line.Line.TheVariants as line
use Rattle.script_language.specs.declared.line.Query.{Query}
use Rattle.script_language.specs.declared.setup.ScriptSetup.{ScriptSetup}

-- the world that a script begins in: the pair of Altairs of its setup, a disk with these sectors, and as many hosts
pub record Booted (setup : ScriptSetup) (sectors : List SectorWrite) : Type 0 where
  pub start : SectorAddress → List ℕ
  pub has_sectors : BeginAlike setup.guest.drives start (boot_sectors sectors)
  pub world : World Guest
  pub come : HostsCome (altair setup.guest start) (opening (altair setup.guest start) setup.guest.reads) setup.hosts world

-- each event of the lines happens, by its row, in the world that those before it have left; a query changes nothing; so many
-- events were refused because the device had failed
pub data Happen {S : Type 0} (M : Machine S) (C : Copying S) : World S → List Line → ℕ → World S → Type 0 where
  Nothing : {w : World S} → Happen M C w [] 0 w
  ByRow : {w mid new : World S} {e : Event} {lines : List Line} {failures : ℕ} (answer : Result Reply Fault)
      → Row M C w e (answer_of answer) mid → Happen M C mid lines failures new
      → Happen M C w (line.Event e ∷ lines) (failures_told e answer + failures) new
  Asks : {w new : World S} {q : Query} {lines : List Line} {failures : ℕ}
      → Happen M C w lines failures new → Happen M C w (line.Query q ∷ lines) failures new

-- each line is answered by a text: an event by the reply or the refusal of its row, and a query by what it finds in the
-- world that the events before it have left; so many answers say that the device failed
pub data Answered {S : Type 0} (M : Machine S) (C : Copying S) : World S → List Line → List (List ℕ) → ℕ → World S → Type 0 where
  NoLine : {w : World S} → Answered M C w [] [] 0 w
  Replies : {w mid new : World S} {e : Event} {lines : List Line} {texts : List (List ℕ)} {failures : ℕ} (answer : Result Reply Fault)
      → Row M C w e (answer_of answer) mid → Answered M C mid lines texts failures new
      → Answered M C w (line.Event e ∷ lines) (answer_line answer ∷ texts) (failures_told e answer + failures) new
  Tells : {w new : World S} {q : Query} {text : List ℕ} {lines : List Line} {texts : List (List ℕ)} {failures : ℕ}
      → Finds M w q text → Answered M C w lines texts failures new
      → Answered M C w (line.Query q ∷ lines) (text ∷ texts) failures new

-- texts as lines, each ended by 10
abbrev pub text_of : List (List ℕ) → List ℕ
text_of [] = []
text_of (text ∷ texts) = (text ++ (10 ∷ [])) ++ text_of texts

-- these lines were answered in a world, and exactly their answers were handed in, in order; so many of them say that the
-- device failed
pub record AddsAnswers {S : Type 0} (M : Machine S) (C : Copying S) (w : World S) (lines : List Line) (failures : ℕ)
    (old new : Option (List ℕ)) (after : World S) : Type 0 where
  pub texts : List (List ℕ)
  pub answered : Answered M C w lines texts failures after
  pub added : Appends old new (text_of texts)

-- the same over a disk whose device may fail this often
pub record AnswersAll {S : Type 0} (M : Machine S) (C : Copying S) (w : World S) (lines : List Line) (most : ℕ)
    (old new : Option (List ℕ)) : Type 0 where
  pub after : World S
  pub failures : ℕ
  pub no_more : failures ≤ most
  pub adds : AddsAnswers M C w lines failures old new after
