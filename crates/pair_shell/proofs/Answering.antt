-- A running session answers line after line, whatever world its pair shows.
use Rattle.std.proofs.Common.{◌≡◌, ℕ, ◌++◌, ◌∷◌, ◌∙◌, Bool, true, Option, Some, None, List, [], ap, refl, subst, sym, append-nil}
use Rattle.std.specs.Prelude.{is_some, map}
use Rattle.std.specs.List.{concat}
use Rattle.std.specs.Io.KnownBytes.{Appends}
use Rattle.std.proofs.lemmas.List.{map-append}
use Rattle.std.proofs.lemmas.List.Folds.{concat-append}
use Rattle.std.proofs.KnownBytes.{Appends-trans, Keeps-refl}
use Rattle.ft_world.specs.Applies.{Nothing, Shows}
use Rattle.ft_world.specs.Running.{Running}
use Rattle.ft_world.specs.Standing.{Course}
use Rattle.guest_board.specs.Inputs.{some_altair}
use Rattle.guest_parts.specs.Guest.{Guest}
use Rattle.altair_pair.proofs.Disks.{records_show, shows_records}
use Rattle.pair_shell.specs.Looking.{IsSeen, IsSeenSaid, LooksIn}
use Rattle.pair_shell.specs.Playing.{Plays}
use Rattle.pair_shell.specs.Sessions.{AltairsPlay, BootsBy, HeedsSaid, IsAsBefore, MayRefuse, is_quit, is_run, trace_after}
use Rattle.pair_shell.specs.declared.notes.Notes.{Notes}
use Rattle.shared_disk.specs.Failing.{Disk, records_in}
use Rattle.shell_language.specs.Outcomes.{is_ended}
use Rattle.shell_language.specs.Tapes.{Begins, trace_text}
use Rattle.shell_language.specs.declared.outcome.LineOutcome.{LineOutcome}
use Rattle.shell_language.specs.declared.outcome.LineOutcome.TheVariants as outcome
use Rattle.shell_language.specs.declared.printing.Printed.{Printed}
use Rattle.shell_language.specs.declared.tape.Played.{Played}
use Rattle.shell_language.specs.Saying.{said}
use Rattle.shell_language.specs.declared.line.ShellLine.{ShellLine}
use Rattle.shell_language.specs.declared.line.ShellLine.TheVariants as shell
use Rattle.shell_language.specs.Openings.{SetsUpSaid}
use Rattle.shell_language.specs.declared.opening.SessionSetup.{SessionSetup}
use Rattle.command_io.proofs.Handing.{keeps-appends}
use Rattle.pair_shell.specs.Answering.{AreAnswers, Boots, Further, GoesOn, HasSeen, IsAnswer, Next, NoLine, Once, PairPasses, Passes, SeesIn, SeesSaid, Sitting, begun}
use Rattle.pair_shell.specs.Lines.{is_run_line, without_cr}
use Rattle.pair_shell.specs.Running.{AnswersAll, AnswersEach, AnswersFurther, Desk, PairShows, sitting}

-- ---- lines after others

are_then : (s mid new : Sitting) (lines more answers others : List (List ℕ)) → AreAnswers s lines answers mid
    → AreAnswers mid more others new → AreAnswers s (lines ++ more) (answers ++ others) new
are_then s mid new lines more answers others NoLine next = next
are_then s mid new lines more answers others (Next {mid = v} {lines = ls} {answers = texts} one rest) next =
    Next one (are_then v mid new ls more texts others rest next)

-- a line that plays nothing
passes_none : (opening : SessionSetup) (pair : Option (Course Guest)) → PairPasses opening pair [] pair
passes_none opening None = refl
passes_none opening (Some c) = record { after = c.world; rows = Nothing; is = refl }

-- one line, whose day goes on
further : (line : List ℕ) (s mid new : Sitting) (answers : List (List ℕ)) (more : List ℕ) → is_run (said line) ≡ true
    → AreAnswers s (line ∷ []) answers mid → GoesOn mid more new
    → (answer : List ℕ) × (AreAnswers s (line ∷ []) (answer ∷ []) new × (concat answers ++ more ≡ answer))
further line s mid new answers more is (Next {answer = answer} whole NoLine) on =
    (answer ++ more, (Next (Further whole is on) NoLine, ap (λ a. a ++ more) (append-nil answer)))

module _ {B H : Type 0} (guest : B → Guest) where
  pub each_none : (d : Desk B H) (old : Option (List ℕ)) → AnswersEach guest d [] old old d
  each_none d old pair shows = record {
    answers = [];
    pair = pair;
    shows = shows;
    answered = NoLine;
    written = keeps-appends old old (Keeps-refl old);
  }

  pub each_then : (a b c : Desk B H) (lines more : List (List ℕ)) (old mid new : Option (List ℕ))
      → AnswersEach guest a lines old mid b → AnswersEach guest b more mid new c → AnswersEach guest a (lines ++ more) old new c
  each_then a b c lines more old mid new first next pair shows =
      let f = first pair shows in
      let n = next f.pair f.shows in
      record {
        answers = f.answers ++ n.answers;
        pair = n.pair;
        shows = n.shows;
        answered = subst (λ ls. AreAnswers (sitting a pair) ls (f.answers ++ n.answers) (sitting c n.pair))
            (sym (map-append without_cr lines more))
            (are_then (sitting a pair) (sitting b f.pair) (sitting c n.pair) (map without_cr lines) (map without_cr more) f.answers
            n.answers f.answered n.answered);
        written = subst (Appends old new) (sym (concat-append f.answers n.answers))
            (Appends-trans old mid new (concat f.answers) (concat n.answers) f.written n.written);
      }

  -- what the session is after them does not matter any more
  pub each_all : (a b : Desk B H) (lines : List (List ℕ)) (old new : Option (List ℕ)) → AnswersEach guest a lines old new b
      → AnswersAll guest a lines old new
  each_all a b lines old new each pair shows =
      let h = each pair shows in
      record { last = sitting b h.pair; answers = h.answers; answered = h.answered; written = h.written }

  -- ---- what a line does to the pair

  passes : (old new : Running B H Disk) (tape : List Played) → Plays guest guest some_altair old tape new → (c : Course Guest)
      → Shows guest guest some_altair records_in old c
      → (d : Course Guest) × (Passes c tape d × Shows guest guest some_altair records_in new d)
  passes old new tape plays c shows =
      let r = plays c (shows_records guest guest some_altair old c shows) in
      let d : Course Guest = record c { world = r.after } in
      (d, (record { after = r.after; rows = r.rows; is = refl }, records_show guest guest some_altair new d r.shows))

  boots : (opening : SessionSetup) (v : Running B H Disk) → BootsBy guest opening v
      → (c : Course Guest) × (Boots opening c × Shows guest guest some_altair records_in v c)
  boots opening v b = (
    record (begun opening b.store) { world = b.world },
    (
      record {
        records = b.store;
        has_drives = b.has_drives;
        unwritten = b.unwritten;
        at_boot = b.at_boot;
        world = b.world;
        come = b.come;
        is = refl;
      },
      b.shows,
    ),
  )

  pair_passes : (opening : SessionSetup) (old new : Option (Running B H Disk)) (tape : List Played) (pair : Option (Course Guest))
      → PairShows guest old pair → AltairsPlay guest opening old tape new
      → (after : Option (Course Guest)) × (PairPasses opening pair tape after × PairShows guest new after)
  pair_passes opening (Some old) (Some new) tape (Some c) shows plays =
      let r = passes old new tape plays c shows in (Some r.0, (r.1.0, r.1.1))
  pair_passes opening (Some old) (Some new) tape None shows plays = absurd shows
  pair_passes opening (Some old) None tape pair shows plays = absurd plays
  pair_passes opening None (Some new) tape None shows plays =
      let b = boots opening plays.0 plays.1.0 in
      let r = passes plays.0 new tape plays.1.1 b.0 b.1.1 in
      (Some r.0, ((b.0, (b.1.0, r.1.0)), r.1.1))
  pair_passes opening None (Some new) tape (Some c) shows plays = absurd shows
  pair_passes opening None None tape None shows plays = (None, (plays, tt))
  pair_passes opening None None tape (Some c) shows plays = absurd shows

  sees : (line : ShellLine) (world : Option (Running B H Disk)) (pair : Option (Course Guest)) (old new : Printed)
      → PairShows guest world pair → LooksIn guest line world old new → SeesIn line pair old new
  sees line None None old new shows h = h
  sees line None (Some c) old new shows h = absurd shows
  sees line (Some v) None old new shows h = absurd shows
  sees line (Some v) (Some c) old new shows h = h c shows

  has_seen : (line : ShellLine) (tape : List Played) (world : Option (Running B H Disk)) (pair : Option (Course Guest)) (is_traced : Bool)
      (answer : List ℕ) → PairShows guest world pair → IsSeen guest line tape world is_traced answer
      → HasSeen line tape pair is_traced answer
  has_seen line tape world pair is_traced answer shows h = record {
    nothing_played = h.nothing_played;
    before = h.before;
    after = h.after;
    blank = h.blank;
    traced = h.traced;
    told = h.told;
    seen = sees line world pair h.before h.after shows h.seen;
  }

  sees_said : (line : Option ShellLine) (tape : List Played) (world : Option (Running B H Disk)) (pair : Option (Course Guest))
      (is_traced : Bool) (answer : List ℕ) → PairShows guest world pair → IsSeenSaid guest line tape world is_traced answer
      → SeesSaid line tape pair is_traced answer
  sees_said (Some (shell.Look look)) tape world pair is_traced answer shows h =
      has_seen (shell.Look look) tape world pair is_traced answer shows h
  sees_said (Some (shell.Query query)) tape world pair is_traced answer shows h =
      has_seen (shell.Query query) tape world pair is_traced answer shows h
  sees_said (Some (shell.Screen port is_new)) tape world pair is_traced answer shows h =
      has_seen (shell.Screen port is_new) tape world pair is_traced answer shows h
  sees_said (Some (shell.Sector address)) tape world pair is_traced answer shows h =
      has_seen (shell.Sector address) tape world pair is_traced answer shows h
  sees_said line tape world pair is_traced answer shows h = tt

  -- a pair has booted in the one exactly if it has in the other
  both_or_none : (world : Option (Running B H Disk)) (pair : Option (Course Guest)) → PairShows guest world pair
      → is_some world ≡ is_some pair
  both_or_none (Some v) (Some c) shows = refl
  both_or_none (Some v) None shows = absurd shows
  both_or_none None (Some c) shows = absurd shows
  both_or_none None None shows = refl

  -- ---- one line

  -- what a session promises of a line
  pub record Promise (old new : Desk B H) (noted noted' : Notes) (line : List ℕ) (tape : List Played) (told : LineOutcome)
      (answer : List ℕ) : Type 0 where
    pub played : AltairsPlay guest old.opening old.world tape new.world
    pub traced : old.is_traced ≡ true → Begins (trace_text tape) answer
    pub heeded : told ≡ outcome.Done → HeedsSaid (said line) tape old.is_traced [] answer
    pub seen : told ≡ outcome.Done → IsSeenSaid guest (said line) tape new.world old.is_traced answer
    pub wrong : said line ≡ None → told ≡ outcome.Refused
    pub why : told ≡ outcome.Refused → MayRefuse old.opening (is_some old.world) (said line)
    pub set : told ≡ outcome.Done → SetsUpSaid (said line) old.opening new.opening
    pub switched : new.is_traced ≡ trace_after (said line) old.is_traced
    pub left : told ≡ outcome.Refused → IsAsBefore old.opening new.opening old.world new.world noted noted' old.is_traced new.is_traced
    pub ended : is_ended told ≡ is_quit (said line)

  -- a line that is not refused
  answer_by : (old new : Desk B H) (noted noted' : Notes) (line : List ℕ) (tape : List Played) (told : LineOutcome) (answer : List ℕ)
      → (told ≡ outcome.Refused → ⊥) → Promise old new noted noted' line tape told answer → (pair : Option (Course Guest))
      → PairShows guest old.world pair
      → (after : Option (Course Guest)) × (PairShows guest new.world after × IsAnswer line (sitting old pair) answer (sitting new after))
  answer_by old new noted noted' line tape told answer not p pair shows =
      let r = pair_passes old.opening old.world new.world tape pair shows p.played in (
        r.0,
        (
          r.1.1,
          record {
            outcome = told;
            tape = tape;
            played = r.1.0;
            traced = p.traced;
            heeded = p.heeded;
            seen = λ is. sees_said (said line) tape new.world r.0 old.is_traced answer r.1.1 (p.seen is);
            wrong = p.wrong;
            why = λ is. absurd (not is);
            set = p.set;
            switched = p.switched;
            left = λ is. absurd (not is);
            ended = p.ended;
          },
        ),
      )

  -- a line that is refused
  answer_left : (old new : Desk B H) (noted noted' : Notes) (line : List ℕ) (tape : List Played) (answer : List ℕ)
      → Promise old new noted noted' line tape outcome.Refused answer → (pair : Option (Course Guest))
      → PairShows guest old.world pair
      → (after : Option (Course Guest)) × (PairShows guest new.world after × IsAnswer line (sitting old pair) answer (sitting new after))
  answer_left old new noted noted' line tape answer p pair shows =
      let same = p.left refl in (
        pair,
        (
          subst (λ w. PairShows guest w pair) (sym same.world) shows,
          record {
            outcome = outcome.Refused;
            tape = [];
            played = passes_none old.opening pair;
            traced = λ is. (answer, refl);
            heeded = λ is. absurd (cc);
            seen = λ is. absurd (cc);
            wrong = λ is. refl;
            why = λ is. subst (λ b. MayRefuse old.opening b (said line)) (both_or_none old.world pair shows) (p.why refl);
            set = λ is. absurd (cc);
            switched = p.switched;
            left = λ is. record { nothing_played = refl; opening = same.opening; pair = refl; is_traced = same.is_traced };
            ended = p.ended;
          },
        ),
      )

  answers : (old new : Desk B H) (noted noted' : Notes) (line : List ℕ) (tape : List Played) (told : LineOutcome) (answer : List ℕ)
      → Promise old new noted noted' line tape told answer → (pair : Option (Course Guest)) → PairShows guest old.world pair
      → (after : Option (Course Guest)) × (PairShows guest new.world after × IsAnswer line (sitting old pair) answer (sitting new after))
  answers old new noted noted' line tape outcome.Refused answer p pair shows =
      answer_left old new noted noted' line tape answer p pair shows
  answers old new noted noted' line tape outcome.Done answer p pair shows =
      answer_by old new noted noted' line tape outcome.Done answer (λ is. cc) p pair shows
  answers old new noted noted' line tape outcome.Ended answer p pair shows =
      answer_by old new noted noted' line tape outcome.Ended answer (λ is. cc) p pair shows

  -- its answer was written
  pub each_one : (old new : Desk B H) (noted noted' : Notes) (line text : List ℕ) (tape : List Played) (told : LineOutcome)
      (answer : List ℕ) (before after : Option (List ℕ)) → text ≡ without_cr line
      → Promise old new noted noted' text tape told answer → Appends before after answer
      → AnswersEach guest old (line ∷ []) before after new
  each_one old new noted noted' line text tape told answer before after is p written pair shows =
      let r = answers old new noted noted' text tape told answer p pair shows in
      record {
        answers = answer ∷ [];
        pair = r.0;
        shows = r.1.0;
        answered = Next (Once (subst (λ t. IsAnswer t (sitting old pair) answer (sitting new r.0)) is r.1.1)) NoLine;
        written = subst (Appends before after) (sym (append-nil answer)) written;
      }

  -- ---- a day that goes on

  pub further_none : (here : Desk B H) (line : List ℕ) (old : Option (List ℕ)) → AnswersFurther guest line here old old here
  further_none here line old first before each = each

  pub further_then : (a b c : Desk B H) (line : List ℕ) (old mid new : Option (List ℕ)) → AnswersFurther guest line a old mid b
      → AnswersFurther guest line b mid new c → AnswersFurther guest line a old new c
  further_then a b c line old mid new one next first before each = next first before (one first before each)

  pub further_one : (here after : Desk B H) (line : List ℕ) (tape : List Played) (more : List ℕ) (old new : Option (List ℕ))
      → is_run_line line ≡ true → AltairsPlay guest here.opening here.world tape after.world
      → (here.is_traced ≡ true → Begins (trace_text tape) more) → after.opening ≡ here.opening → after.is_traced ≡ here.is_traced
      → Appends old new more → AnswersFurther guest line here old new after
  further_one here after line tape more old new is plays traced opening same written first before each pair shows =
      let h = each pair shows in
      let r = pair_passes here.opening here.world after.world tape h.pair h.shows plays in
      let on : GoesOn (sitting here h.pair) more (sitting after r.0) = record {
        tape = tape;
        played = r.1.0;
        traced = traced;
        opening = opening;
        is_traced = same;
      } in
      let f = further (without_cr line) (sitting first pair) (sitting here h.pair) (sitting after r.0) h.answers more is h.answered on in
      record {
        answers = f.0 ∷ [];
        pair = r.0;
        shows = r.1.1;
        answered = f.1.0;
        written = subst (Appends before new) (f.1.1 ∙ sym (append-nil f.0))
            (Appends-trans before old new (concat h.answers) more h.written written);
      }
