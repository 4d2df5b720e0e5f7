-- A trace comes first in what is printed, and what is printed after it leaves it there.
use Rattle.std.proofs.Common.{◌≡◌, ℕ, ◌++◌, ◌∷◌, ◌∙◌, [], List, Option, Some, None, Bool, true, false, ap, refl, subst, sym, append_assoc, append-nil}
use Rattle.std.specs.Prelude.{IfOk, Result, Ok, Err, if◌then◌else◌, string_bytes}
use Rattle.i8080_words.specs.declared.refusal.Fault.{Fault}
use Rattle.pair_events.specs.Printed.{answer_line}
use Rattle.pair_events.specs.declared.event.Event.{Event}
use Rattle.pair_events.specs.declared.reply.Reply.{Reply}
use Rattle.shell_language.specs.declared.line.ShellLine.{ShellLine}
use Rattle.shell_language.specs.Openings.{SetsUp, SetsUpSaid}
use Rattle.pair_shell.specs.Sessions.{HeedsSaid, IsHeeded, is_quit, is_setup, trace_after}
use Rattle.shell_language.specs.Outcomes.{is_ended}
use Rattle.shell_language.specs.declared.outcome.LineOutcome.{LineOutcome}
use Rattle.shell_language.specs.declared.outcome.LineOutcome.TheVariants as outcome
use Rattle.shell_language.specs.Tapes.{Begins, IsAnswered, Traces, event_lines, played, told_text, trace_text}
use Rattle.shell_language.specs.Texts.{AddsLine, AddsSome, mark}
use Rattle.shell_language.specs.declared.opening.SessionSetup.{SessionSetup}
use Rattle.shell_language.specs.declared.printing.Printed.{Printed}
use Rattle.shell_language.specs.declared.tape.Played.{Played}

-- nothing has happened: any text will do
pub begins_nothing : (tape : List Played) (text : List ℕ) → tape ≡ [] → Begins (trace_text tape) text
begins_nothing tape text none = subst (λ t. Begins (trace_text t) text) (sym none) (text, refl)

-- a tape that was traced
pub begins_trace : (traced : Bool) (tape : List Played) (old new : List ℕ) → Traces traced tape old new
    → traced ≡ true → old ≡ [] → Begins (trace_text tape) new
begins_trace traced tape old new h is none = (
  [],
  h ∙ ap (λ b. if b then old ++ trace_text tape else old) is ∙ ap (λ o. o ++ trace_text tape) none
      ∙ sym (append-nil (trace_text tape)),
)

-- more is printed
pub begins_more : (front : List ℕ) (old new : Printed) → Begins front (string_bytes old.text) → AddsSome old new
    → Begins front (string_bytes new.text)
begins_more front old new h more =
    (h.0 ++ more.0, more.1.0 ∙ ap (λ t. t ++ more.0) h.1 ∙ append_assoc front h.0 more.0)

-- the same if memory may have been refused
pub begins_on : {X E : Type 0} (result : Result X E) (front : List ℕ) (traced : Bool) (before : List ℕ) (old new : Printed)
    → (traced ≡ true → before ≡ [] → Begins front (string_bytes old.text)) → IfOk result (λ done. AddsSome old new)
    → IfOk result (λ done. traced ≡ true → before ≡ [] → Begins front (string_bytes new.text))
begins_on (Ok done) front traced before old new h more = λ is none. begins_more front old new (h is none) more
begins_on (Err refused) front traced before old new h more = tt

-- an event alone was traced
pub answered_traced : (happened : Event) (answer : Result Reply Fault) (tape : List Played) (traced : Bool)
    (old new : List ℕ) → tape ≡ played happened answer ∷ [] → Traces traced tape old new → traced ≡ true
    → IsAnswered happened tape traced old new
answered_traced happened answer tape traced old new alone traces is = record {
  answer = answer;
  alone = alone;
  told = traces ∙ ap (λ b. if b then old ++ trace_text tape else old) is
      ∙ ap (λ t. old ++ trace_text t) alone
      ∙ ap (λ t. old ++ t) (append-nil (event_lines (played happened answer)))
      ∙ ap (λ b. old ++ told_text b (played happened answer)) (sym is);
}

-- it was answered alone
pub answered : (happened : Event) (answer : Result Reply Fault) (tape : List Played) (old new : Printed)
    → tape ≡ played happened answer ∷ [] → old.is_traced ≡ false → AddsLine (answer_line answer) old new
    → IsAnswered happened tape old.is_traced (string_bytes old.text) (string_bytes new.text)
answered happened answer tape old new alone is adds = record {
  answer = answer;
  alone = alone;
  told = adds.0 ∙ ap (λ b. string_bytes old.text ++ (mark b ++ answer_line answer ++ (10 ∷ []))) is
      ∙ ap (λ b. string_bytes old.text ++ told_text b (played happened answer)) (sym is);
}

-- an event that was traced comes first
pub begins_answer : (happened : Event) (tape : List Played) (traced : Bool) (old new : List ℕ)
    → IsAnswered happened tape traced old new → traced ≡ true → old ≡ [] → Begins (trace_text tape) new
begins_answer happened tape traced old new a is none = (
  [],
  a.told ∙ ap (λ b. old ++ told_text b (played happened a.answer)) is
      ∙ ap (λ o. o ++ event_lines (played happened a.answer)) none
      ∙ sym (append-nil (event_lines (played happened a.answer)))
      ∙ ap trace_text (sym a.alone)
      ∙ sym (append-nil (trace_text tape)),
)

-- the same if memory may have been refused
pub traces_answer : {X E : Type 0} (result : Result X E) (happened : Event) (tape : List Played) (traced : Bool)
    (old new : List ℕ) → IfOk result (λ done. IsAnswered happened tape traced old new)
    → IfOk result (λ done. traced ≡ true → old ≡ [] → Begins (trace_text tape) new)
traces_answer (Ok done) happened tape traced old new a = begins_answer happened tape traced old new a
traces_answer (Err refused) happened tape traced old new a = tt

-- what is said of a line is said of a text that says it
pub heeds_said : (line : ShellLine) (said : Option ShellLine) (tape : List Played) (traced : Bool) (text : List ℕ)
    → Some line ≡ said → IsHeeded line tape traced [] text → HeedsSaid said tape traced [] text
heeds_said line said tape traced text is heeded = subst (λ s. HeedsSaid s tape traced [] text) is heeded

-- so is whether the session ends with it
pub ends_said : (line : ShellLine) (said : Option ShellLine) (told : LineOutcome) → Some line ≡ said
    → is_ended told ≡ is_quit (Some line) → is_ended told ≡ is_quit said
ends_said line said told is ends = ends ∙ ap is_quit is

pub ends_not : (said : Option ShellLine) (told : LineOutcome) → None ≡ said → is_ended told ≡ false → is_ended told ≡ is_quit said
ends_not said told is ends = ends ∙ ap is_quit is

-- so is what it changes in the setup
pub sets_up_said : (line : ShellLine) (said : Option ShellLine) (old new : SessionSetup) → Some line ≡ said → SetsUp line old new
    → SetsUpSaid said old new
sets_up_said line said old new is sets = subst (λ s. SetsUpSaid s old new) is sets

-- and whether events are traced after it
pub switches : (line : ShellLine) (said : Option ShellLine) (old new : Bool) → Some line ≡ said
    → new ≡ trace_after (Some line) old → new ≡ trace_after said old
switches line said old new is switched = switched ∙ ap (λ s. trace_after s old) is

pub switches_not : (said : Option ShellLine) (old new : Bool) → None ≡ said → new ≡ old → new ≡ trace_after said old
switches_not said old new is same = same ∙ ap (λ s. trace_after s old) is

-- and that it comes too late
pub late_said : (line : ShellLine) (said : Option ShellLine) (has_booted : Bool) (told : LineOutcome) → Some line ≡ said
    → (is_setup (Some line) ≡ true → has_booted ≡ true → told ≡ outcome.Refused)
    → is_setup said ≡ true → has_booted ≡ true → told ≡ outcome.Refused
late_said line said has_booted told is late =
    subst (λ s. is_setup s ≡ true → has_booted ≡ true → told ≡ outcome.Refused) is late
