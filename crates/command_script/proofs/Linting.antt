-- Lines are named one after another, and what is handed in is then written.
use Rattle.std.proofs.Common.{◌≡◌, ℕ, ◌+◌, ◌-◌, ◌<◌, ◌≤◌, ◌⊎◌, inl, inr, ◌++◌, Option, Some, None, List, [], ◌∷◌, Result, Ok, Err, length, refl, subst, sym, ap, ◌∙◌, append-nil, append_assoc, take}
use Rattle.std.specs.Prelude.{IfErr, IfSome, OnOk}
use Rattle.std.specs.List.{flat_map}
use Rattle.std.specs.Result.{IsErrAnd}
use Rattle.std.specs.Io.KnownBytes.{Appends, Keeps, append_known}
use Rattle.std.proofs.lemmas.Bool.{le-ltb, lt-ltb}
use Rattle.std.proofs.lemmas.Grind.{flat_map-append}
use Rattle.std.proofs.KnownBytes.{Appends-trans, Keeps-refl}
use Rattle.command_io.proofs.Handing.{keeps-appends, settled, settled_line}
use Rattle.command_io.specs.Reports.{AddsLine}
use Rattle.command_io.specs.Statuses.{of_input}
use Rattle.command_io.specs.declared.failure.Failure.{Failure}
use Rattle.command_io.specs.declared.failure.Failure.TheVariants as failure
use Rattle.command_script.proofs.FirstBad.{refused, taken}
use Rattle.command_script.specs.Linting.{Bad, IsFirstBad, Lints, LintsBut, LintsText, NamesBut, NamesEach, NamesSome, NamesUntil, bad_at, bad_from, bad_lines, line_after, named, named_text, row_text, told_text}
use Rattle.command_script.specs.declared.reason.Reason.TheVariants.{Size}
use Rattle.script_language.specs.Booting.{Boot}
use Rattle.script_language.specs.Meaning.{Said, nothing_said, said_in, script_of}
use Rattle.script_language.specs.Text.{lines_of, text_of}
use Rattle.script_language.specs.declared.error.InputError.{InputError}
use Rattle.script_language.specs.declared.error.InputError.TheVariants as input
use Rattle.script_language.specs.declared.line.Line.{Line}

-- ---- some lines are named

pub names_none : (old : Option (List ℕ)) → NamesEach [] old old
names_none old = keeps-appends old old (Keeps-refl old)

pub some_none : (bads : List Bad) (old : Option (List ℕ)) → NamesSome bads old old
some_none bads old = record { named = []; left = bads; are = refl; each = names_none old }

names_then : (bads more : List Bad) (old mid new : Option (List ℕ)) → NamesEach bads old mid → NamesEach more mid new
    → NamesEach (bads ++ more) old new
names_then bads more old mid new first next = subst (Appends old new) (sym (flat_map-append row_text bads more))
    (Appends-trans old mid new (flat_map row_text bads) (flat_map row_text more) first next)

-- a call that fails, and so ends this one
pub names_until : (bads : List Bad) (result : Result (Unit {0}) Failure) (e : Failure) (old new : Option (List ℕ))
    → IsErrAnd result (λ k. k ≡ e) → NamesBut bads e old new → NamesUntil bads result old new
names_until bads (Ok done) e old new is h = absurd is
names_until bads (Err k) e old new is h = subst (λ f. NamesBut bads f old new) (sym is) h

-- a line that is handed in, or is not
but_none : (bads : List Bad) (e : Failure) (old new : Option (List ℕ)) → (e ≡ failure.OutOfMemory → Keeps old new)
    → (e ≡ failure.OutOfMemory) ⊎ (e ≡ failure.InputOrOutput) → NamesBut bads e old new
but_none bads e old new kept (inl is) = subst (λ f. NamesBut bads f old new) (sym is)
    (record { named = []; left = bads; are = refl; each = keeps-appends old new (kept is) })
but_none bads e old new kept (inr is) = subst (λ f. NamesBut bads f old new) (sym is) tt

pub named_line : (bad : Bad) (result : Result (Unit {0}) Failure) (old new : Option (List ℕ))
    → OnOk result (AddsLine (Some (named_text bad)) old new) → (result ≡ Err failure.OutOfMemory → Keeps old new)
    → IfErr result (λ e. (e ≡ failure.OutOfMemory) ⊎ (e ≡ failure.InputOrOutput)) → NamesUntil (bad ∷ []) result old new
named_line bad (Ok done) old new added kept why =
    subst (Appends old new) (added.is_shown ∙ sym (append-nil (row_text bad))) added.added
named_line bad (Err e) old new added kept why = but_none (bad ∷ []) e old new (λ is. kept (ap (λ f. Err f) is)) why

-- ---- one bad line after another

-- some of them are named, and these are left
pub record NamesOn (all left : List Bad) (old new : Option (List ℕ)) : Type 0 where
  pub done : List Bad
  pub are : all ≡ done ++ left
  pub each : NamesEach done old new

pub on_none : (all left : List Bad) (old : Option (List ℕ)) → all ≡ left → NamesOn all left old old
on_none all left old is = record { done = []; are = is; each = names_none old }

pub on_more : (all left now later : List Bad) (old mid new : Option (List ℕ)) → NamesOn all left old mid → left ≡ now ++ later
    → NamesEach now mid new → NamesOn all later old new
on_more all left now later old mid new h is more = record {
  done = h.done ++ now;
  are = h.are ∙ ap (λ l. h.done ++ l) is ∙ sym (append_assoc h.done now later);
  each = names_then h.done now old mid new h.each more;
}

pub on_all : (all left : List Bad) (old new : Option (List ℕ)) → NamesOn all left old new → left ≡ [] → NamesEach all old new
on_all all left old new h none =
    subst (λ l. NamesEach l old new) (sym (h.are ∙ ap (λ l. h.done ++ l) none ∙ append-nil h.done)) h.each

-- a failure after some of them
on_but : (all left now later : List Bad) (e : Failure) (old mid new : Option (List ℕ)) → NamesOn all left old mid → left ≡ now ++ later
    → NamesBut now e mid new → NamesBut all e old new
on_but all left now later failure.OutOfMemory old mid new h is more = record {
  named = h.done ++ more.named;
  left = more.left ++ later;
  are = h.are ∙ ap (λ l. h.done ++ l) (is ∙ ap (λ l. l ++ later) more.are ∙ append_assoc more.named more.left later)
      ∙ sym (append_assoc h.done more.named (more.left ++ later));
  each = names_then h.done more.named old mid new h.each more.each;
}
on_but all left now later failure.InputOrOutput old mid new h is more = tt
on_but all left now later (failure.CommandLine text) old mid new h is more = more
on_but all left now later (failure.BadScript line) old mid new h is more = more
on_but all left now later failure.Stalled old mid new h is more = more
on_but all left now later failure.Differs old mid new h is more = more

pub on_until : (all left now later : List Bad) (result : Result (Unit {0}) Failure) (e : Failure) (old mid new : Option (List ℕ))
    → NamesOn all left old mid → left ≡ now ++ later → IsErrAnd result (λ k. k ≡ e) → NamesBut now e mid new
    → NamesUntil all result old new
on_until all left now later result e old mid new h is ends more =
    names_until all result e old new ends (on_but all left now later e old mid new h is more)

-- the last of them
pub on_last : (all left now : List Bad) (result : Result (Unit {0}) Failure) (old mid new : Option (List ℕ)) → NamesOn all left old mid
    → left ≡ now → NamesUntil now result mid new → NamesUntil all result old new
on_last all left now (Ok done) old mid new h is more =
    on_all all [] old new (on_more all left now [] old mid new h (is ∙ sym (append-nil now)) more) refl
on_last all left now (Err e) old mid new h is more = on_but all left now [] e old mid new h (is ∙ sym (append-nil now)) more

module _ (drives room number : ℕ) (all : List (List ℕ)) (said : Said) where
  -- no line is left
  pub from_none : all ≡ [] → bad_from drives room number all said ≡ []
  unfolding bad_from
  from_none e = rw e refl

  module _ (line : List ℕ) (lines : List (List ℕ)) (is : all ≡ line ∷ lines) where
    -- one has no room
    pub from_far : room < length line → bad_from drives room number all said ≡ named number Size ∷ []
    unfolding bad_from
    from_far h = rw is (rw (lt-ltb room (length line) h) refl)

    -- one has
    pub from_on : length line ≤ room → bad_from drives room number all said
        ≡ bad_at drives number (text_of line) said
        ++ bad_from drives (room - length line) (number + 1) lines (line_after number (text_of line) said)
    unfolding bad_from
    from_on h = rw is (rw (le-ltb room (length line) h) refl)

-- the bad lines of a text are those from its first line on
pub names_lines : (text : List ℕ) (drives : ℕ) (said : Said) (result : Result (Unit {0}) Failure) (old new : Option (List ℕ))
    → drives ≡ (said_in text).boot.drives → said ≡ nothing_said
    → NamesUntil (bad_from drives 1048576 1 (lines_of text) said) result old new → NamesUntil (bad_lines text) result old new
names_lines text drives said result old new is none h =
    subst (λ (d : ℕ). NamesUntil (bad_from d 1048576 1 (lines_of text) nothing_said) result old new) is
    (subst (λ (s : Said). NamesUntil (bad_from drives 1048576 1 (lines_of text) s) result old new) none h)

module _ (all : List Bad) (drives room number : ℕ) (rest : List ℕ) (said : Said) (old mid new : Option (List ℕ))
    (h : NamesOn all (bad_from drives room number (lines_of rest) said) old mid) where
  -- no line is left
  pub ends_none : lines_of rest ≡ [] → NamesEach all old mid
  ends_none none = on_all all (bad_from drives room number (lines_of rest) said) old mid h
      (from_none drives room number (lines_of rest) said none)

  module _ (line after : List ℕ) (is : lines_of rest ≡ line ∷ lines_of after) where
    -- one has no room
    pub ends_far : (result : Result (Unit {0}) Failure) → room < length line → NamesUntil (named number Size ∷ []) result mid new
        → NamesUntil all result old new
    ends_far result far more =
        on_last all (bad_from drives room number (lines_of rest) said) (named number Size ∷ []) result old mid new h
        (from_far drives room number (lines_of rest) said line (lines_of after) is far) more

    module _ (text : List ℕ) (same : text ≡ text_of line) (fits : length line ≤ room) where
      left : bad_from drives room number (lines_of rest) said ≡ bad_at drives number text said
          ++ bad_from drives (room - length line) (number + 1) (lines_of after) (line_after number text said)
      left = from_on drives room number (lines_of rest) said line (lines_of after) is fits
          ∙ ap (λ (t : List ℕ). bad_at drives number t said
          ++ bad_from drives (room - length line) (number + 1) (lines_of after) (line_after number t said)) (sym same)

      -- one is named if it is bad
      pub goes_on : (next : Said) → next ≡ line_after number text said → NamesEach (bad_at drives number text said) mid new
          → NamesOn all (bad_from drives (room - length line) (number + 1) (lines_of after) next) old new
      goes_on next is_next more = subst
          (λ (s : Said). NamesOn all (bad_from drives (room - length line) (number + 1) (lines_of after) s) old new) (sym is_next)
          (on_more all (bad_from drives room number (lines_of rest) said) (bad_at drives number text said)
          (bad_from drives (room - length line) (number + 1) (lines_of after) (line_after number text said)) old mid new h left more)

      -- or that fails
      pub fails_on : (result : Result (Unit {0}) Failure) (e : Failure) → IsErrAnd result (λ k. k ≡ e)
          → NamesBut (bad_at drives number text said) e mid new → NamesUntil all result old new
      fails_on result e ends more =
          on_until all (bad_from drives room number (lines_of rest) said) (bad_at drives number text said)
          (bad_from drives (room - length line) (number + 1) (lines_of after) (line_after number text said)) result e old mid new h left
          ends more

-- ---- a text

-- one that is a script
pub is_script : (text : List ℕ) (script : Boot × List Line) → script_of text ≡ Ok script → IsFirstBad text None
is_script text script h = (script, h)

pub none_bad : (text : List ℕ) (found : Option ℕ) → found ≡ None → IsFirstBad text found → IsFirstBad text None
none_bad text found is h = subst (IsFirstBad text) is h

fails : (text : List ℕ) (e : Failure) (old new : Option (List ℕ)) → NamesBut (bad_lines text) e old new → LintsBut text e old new
fails text failure.OutOfMemory old new h = h
fails text failure.InputOrOutput old new h = h
fails text (failure.CommandLine words) old new h = h
fails text (failure.BadScript line) old new h = absurd h
fails text failure.Stalled old new h = h
fails text failure.Differs old new h = h

pub lints_until : (text : List ℕ) (result : Result (Unit {0}) Failure) (e : Failure) (old new : Option (List ℕ))
    → IsErrAnd result (λ k. k ≡ e) → NamesBut (bad_lines text) e old new → LintsText text result old new
lints_until text (Ok done) e old new is h = absurd is
lints_until text (Err k) e old new is h = subst (λ f. LintsBut text f old new) (sym is) (fails text e old new h)

pub told : (text : List ℕ) (lines : ℕ) (result : Result (Unit {0}) Failure) (old new : Option (List ℕ)) → IsFirstBad text None
    → lines ≡ length (lines_of text) → OnOk result (AddsLine (Some (told_text lines)) old new)
    → (result ≡ Err failure.OutOfMemory → Keeps old new)
    → IfErr result (λ e. (e ≡ failure.OutOfMemory) ⊎ (e ≡ failure.InputOrOutput)) → LintsText text result old new
told text lines (Ok done) old new says counted added kept why = record {
  script = says.0;
  says = says.1;
  none = taken text says.0 says.1;
  told = subst (λ n. AddsLine (Some (told_text n)) old new) counted added;
}
told text lines (Err e) old new says counted added kept why =
    fails text e old new (but_none (bad_lines text) e old new (λ is. kept (ap (λ f. Err f) is)) why)

pub names_first : (text : List ℕ) (line : ℕ) (old new : Option (List ℕ)) → IsFirstBad text (Some line)
    → NamesEach (bad_lines text) old new → LintsText text (Err (failure.BadScript line)) old new
names_first text line old new says each = record { says = says; first = refused text line says; each = each }

-- ---- a reader

some_text : Option (List ℕ) → List ℕ
some_text None = []
some_text (Some bytes) = take 1048577 bytes

is_read : (remaining : Option (List ℕ)) → IfSome remaining (λ bytes. some_text remaining ≡ take 1048577 bytes)
unfolding some_text
is_read None = tt
is_read (Some bytes) = refl

but_lints : (text : List ℕ) (why : InputError) (old : Option (List ℕ)) → LintsText text (Err (of_input why)) old old
but_lints text input.Failed old = tt
but_lints text input.OutOfMemory old = some_none (bad_lines text) old

-- bytes that could not be read
reads_nothing : (remaining : Option (List ℕ)) (why : InputError) (old : Option (List ℕ)) → Lints remaining (Err (of_input why)) old old
reads_nothing remaining why old = record {
  text = some_text remaining;
  read = is_read remaining;
  lints = but_lints (some_text remaining) why old;
}

pub reads_failed : (remaining : Option (List ℕ)) (result : Result (Unit {0}) Failure) (why : InputError) (old : Option (List ℕ))
    → IsErrAnd result (λ k. k ≡ of_input why) → Lints remaining result old old
reads_failed remaining (Ok done) why old is = absurd is
reads_failed remaining (Err e) why old is =
    subst (λ (f : Failure). Lints remaining (Err f) old old) (sym is) (reads_nothing remaining why old)

-- output that failed
writes_nothing : (remaining : Option (List ℕ)) (old new : Option (List ℕ)) → Lints remaining (Err failure.InputOrOutput) old new
writes_nothing remaining old new = record { text = some_text remaining; read = is_read remaining; lints = tt }

pub writes_failed : (remaining : Option (List ℕ)) (result : Result (Unit {0}) Failure) (e : Failure) (old new : Option (List ℕ))
    → IsErrAnd result (λ k. k ≡ e) → e ≡ failure.InputOrOutput → Lints remaining result old new
writes_failed remaining (Ok done) e old new is why = absurd is
writes_failed remaining (Err k) e old new is why =
    subst (λ (f : Failure). Lints remaining (Err f) old new) (sym (is ∙ why)) (writes_nothing remaining old new)

module _ (a b c : Option (List ℕ)) (first rest : List ℕ) (none : first ≡ []) (q : Appends b c rest) where
  settled_each : (bads : List Bad) → NamesEach bads (append_known a first) (append_known b rest) → NamesEach bads a c
  settled_each bads h = settled a b c first rest (flat_map row_text bads) none h q

  settled_but : (bads : List Bad) (e : Failure) → NamesBut bads e (append_known a first) (append_known b rest) → NamesBut bads e a c
  settled_but bads failure.OutOfMemory h = record { named = h.named; left = h.left; are = h.are; each = settled_each h.named h.each }
  settled_but bads failure.InputOrOutput h = tt
  settled_but bads (failure.CommandLine text) h = h
  settled_but bads (failure.BadScript line) h = h
  settled_but bads failure.Stalled h = h
  settled_but bads failure.Differs h = h

  settled_bad : (text : List ℕ) (e : Failure) → LintsBut text e (append_known a first) (append_known b rest) → LintsBut text e a c
  settled_bad text failure.OutOfMemory h = settled_but (bad_lines text) failure.OutOfMemory h
  settled_bad text failure.InputOrOutput h = tt
  settled_bad text (failure.CommandLine words) h = h
  settled_bad text failure.Stalled h = h
  settled_bad text failure.Differs h = h
  settled_bad text (failure.BadScript line) h =
      record { says = h.says; first = h.first; each = settled_each (bad_lines text) h.each }

  settled_text : (text : List ℕ) (result : Result (Unit {0}) Failure)
      → LintsText text result (append_known a first) (append_known b rest) → LintsText text result a c
  settled_text text (Ok done) h = record {
    script = h.script;
    says = h.says;
    none = h.none;
    told = settled_line a b c first rest none q (Some (told_text (length (lines_of text)))) h.told;
  }
  settled_text text (Err e) h = settled_bad text e h

  -- all that was handed in is written
  pub settled_lints : (remaining : Option (List ℕ)) (bytes text : List ℕ)
      → IfSome remaining (λ all. bytes ≡ take 1048577 all) → text ≡ bytes
      → (result : Result (Unit {0}) Failure) → LintsText text result (append_known a first) (append_known b rest) → Lints remaining result a c
  settled_lints remaining bytes text are is result h = record {
    text = bytes;
    read = are;
    lints = subst (λ t. LintsText t result a c) is (settled_text text result h);
  }
