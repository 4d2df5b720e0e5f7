-- Lines that are answered, one after another, and then written.
use Rattle.std.proofs.Common.{◌≡◌, ℕ, ◌+◌, arith, Option, Some, List, [], ◌∷◌, ◌++◌, append-nil, append_assoc, Result, Ok, Err, refl, sym, ap, ◌∙◌, subst, inl, inr}
use Rattle.std.specs.Prelude.{◌⊎◌, IfErr, take}
use Rattle.std.specs.Result.{IsErrAnd}
use Rattle.std.specs.Io.KnownBytes.{Appends, Keeps, append_known}
use Rattle.std.proofs.KnownBytes.{Appends-trans}
use Rattle.altair_laws.specs.Copies.{image_copy}
use Rattle.disk_dcdd.specs.declared.sector.SectorWrite.{SectorWrite}
use Rattle.guest_board.specs.Guest.{altair}
use Rattle.ft_world.specs.Applies.{failures_told}
use Rattle.guest_lockstep.specs.Machine.{Machine}
use Rattle.pair_protocol.specs.Copying.{Copying}
use Rattle.pair_protocol.specs.World.{World}
use Rattle.command_io.proofs.Handing.{keeps-appends, settled, settled_kept, settled_line}
use Rattle.command_script.specs.Answering.{AddsAnswers, Answered, AnswersAll, Asks, Booted, ByRow, Happen, NoLine, Nothing, Replies, Tells, text_of}
use Rattle.command_script.specs.Printing.{AnswersBut, AnswersLines, HandsNone, IsSameAfter, Prints, PrintsBut, PrintsVerdict}
use Rattle.command_io.specs.Reports.{AddsLine}
use Rattle.command_io.specs.declared.failure.Failure.{Failure}
use Rattle.command_io.specs.declared.failure.Failure.TheVariants as failure
use Rattle.command_script.specs.declared.order.ScriptTask.{ScriptTask}
use Rattle.command_script.specs.declared.order.ScriptTask.TheVariants.{Script, Check}
use Rattle.altair_pair.specs.declared.verdict.Verdict.{Verdict}
use Rattle.altair_pair.specs.declared.verdict.Verdict.TheVariants as verdict
use Rattle.script_language.specs.declared.line.Line.{Line}
use Rattle.shared_disk.specs.Failing.{failures_of}
use Rattle.script_language.specs.declared.setup.ScriptSetup.{ScriptSetup}

-- the first texts, and the others
text_of-append : (first others : List (List ℕ)) → text_of (first ++ others) ≡ text_of first ++ text_of others
text_of-append [] others = refl
text_of-append (text ∷ first) others =
    ap (λ l. (text ++ (10 ∷ [])) ++ l) (text_of-append first others)
    ∙ sym (append_assoc (text ++ (10 ∷ [])) (text_of first) (text_of others))

module _ {S : Type 0} (M : Machine S) (C : Copying S) where
  -- the same number of failures in other words
  recounted : (w new : World S) (lines : List Line) (texts : List (List ℕ)) (n m : ℕ) → n ≡ m
      → Answered M C w lines texts n new → Answered M C w lines texts m new
  recounted w new lines texts n m is h = subst (λ k. Answered M C w lines texts k new) is h

  -- the first lines, and the others
  answered-append : (w mid new : World S) (lines others : List Line) (texts more : List (List ℕ)) (n m : ℕ)
      → Answered M C w lines texts n mid → Answered M C mid others more m new
      → Answered M C w (lines ++ others) (texts ++ more) (n + m) new
  answered-append w mid new lines others texts more n m NoLine next = recounted w new others more m (0 + m) (omega arith) next
  answered-append w mid new lines others texts more n m
      (Replies {mid = v} {e = e} {lines = ls} {texts = ts} {failures = k} answer row rest) next =
      recounted w new (lines ++ others) (texts ++ more) (failures_told e answer + (k + m)) ((failures_told e answer + k) + m)
      (omega arith) (Replies answer row (answered-append v mid new ls others ts more k m rest next))
  answered-append w mid new lines others texts more n m (Tells {lines = ls} {texts = ts} finds rest) next =
      Tells finds (answered-append w mid new ls others ts more n m rest next)

  happened-so_often : (w new : World S) (lines : List Line) (n m : ℕ) → n ≡ m → Happen M C w lines n new → Happen M C w lines m new
  happened-so_often w new lines n m is h = subst (λ k. Happen M C w lines k new) is h

  pub happen-append : (w mid new : World S) (lines others : List Line) (n m : ℕ) → Happen M C w lines n mid
      → Happen M C mid others m new → Happen M C w (lines ++ others) (n + m) new
  happen-append w mid new lines others n m Nothing next = happened-so_often w new others m (0 + m) (omega arith) next
  happen-append w mid new lines others n m (ByRow {mid = v} {e = e} {lines = ls} {failures = k} answer row rest) next =
      happened-so_often w new (lines ++ others) (failures_told e answer + (k + m)) ((failures_told e answer + k) + m)
      (omega arith) (ByRow answer row (happen-append v mid new ls others k m rest next))
  happen-append w mid new lines others n m (Asks {lines = ls} rest) next = Asks (happen-append w mid new ls others n m rest next)

  -- no line, and more lines
  pub adds_none : (w : World S) (old new : Option (List ℕ)) → Keeps old new → AddsAnswers M C w [] 0 old new w
  adds_none w old new k = record { texts = []; answered = NoLine; added = keeps-appends old new k }

  pub adds_kept : (w after : World S) (lines : List Line) (n : ℕ) (old mid new : Option (List ℕ))
      → AddsAnswers M C w lines n old mid after → Keeps mid new → AddsAnswers M C w lines n old new after
  adds_kept w after lines n old mid new all k = record {
    texts = all.texts;
    answered = all.answered;
    added = subst (λ bytes. Appends old new bytes) (append-nil (text_of all.texts))
        (Appends-trans old mid new (text_of all.texts) [] all.added (keeps-appends mid new k));
  }

  pub adds_more : (w v after : World S) (lines others : List Line) (n m : ℕ) (old mid next new : Option (List ℕ))
      → AddsAnswers M C w lines n old mid v → Keeps mid next → AddsAnswers M C v others m next new after
      → AddsAnswers M C w (lines ++ others) (n + m) old new after
  adds_more w v after lines others n m old mid next new all k more =
      let first = adds_kept w v lines n old mid next all k in record {
        texts = first.texts ++ more.texts;
        answered = answered-append w v after lines others first.texts more.texts n m first.answered more.answered;
        added = subst (λ bytes. Appends old new bytes) (sym (text_of-append first.texts more.texts))
            (Appends-trans old next new (text_of first.texts) (text_of more.texts) first.added more.added);
      }

  -- a line with one answer
  pub adds_one : (w after : World S) (line : Line) (text : List ℕ) (n : ℕ) (old new : Option (List ℕ))
      → Answered M C w (line ∷ []) (text ∷ []) n after → AddsLine (Some text) old new
      → AddsAnswers M C w (line ∷ []) n old new after
  adds_one w after line text n old new answers one = record {
    texts = text ∷ [];
    answered = answers;
    added = subst (λ bytes. Appends old new bytes) (one.is_shown ∙ sym (append-nil (text ++ (10 ∷ [])))) one.added;
  }

  all_kept : (w : World S) (lines : List Line) (most : ℕ) (old mid new : Option (List ℕ))
      → AnswersAll M C w lines most old mid → Keeps mid new → AnswersAll M C w lines most old new
  all_kept w lines most old mid new all k = record {
    after = all.after;
    failures = all.failures;
    no_more = all.no_more;
    adds = adds_kept w all.after lines all.failures old mid new all.adds k;
  }

  -- a failure after the first answers
  pub fails_after : (w : World S) (lines : List Line) (most n : ℕ) (e : Failure) (old mid next new : Option (List ℕ))
      → AnswersAll M C w (take n lines) most old mid → Keeps mid next → HandsNone e next new
      → AnswersBut M C w lines most e old new
  fails_after w lines most n failure.OutOfMemory old mid next new all k h =
      (n, all_kept w (take n lines) most old next new (all_kept w (take n lines) most old mid next all k) h)
  fails_after w lines most n failure.InputOrOutput old mid next new all k h = tt
  fails_after w lines most n (failure.CommandLine text) old mid next new all k h = h
  fails_after w lines most n (failure.BadScript line) old mid next new all k h = h
  fails_after w lines most n failure.Stalled old mid next new all k h = h
  fails_after w lines most n failure.Differs old mid next new all k h = h

  -- if input or output fails, nothing is claimed
  pub fails_broken : (w : World S) (lines : List Line) (most : ℕ) (e : Failure) (old new : Option (List ℕ))
      → e ≡ failure.InputOrOutput → AnswersBut M C w lines most e old new
  fails_broken w lines most e old new is = subst (λ f. AnswersBut M C w lines most f old new) (sym is) tt

-- a line that is not handed in
pub hands_none : (result : Result (Unit {0}) Failure) (old new : Option (List ℕ))
    → (result ≡ Err failure.OutOfMemory → Keeps old new)
    → IfErr result (λ e. (e ≡ failure.OutOfMemory) ⊎ (e ≡ failure.InputOrOutput)) → IfErr result (λ e. HandsNone e old new)
hands_none (Ok done) old new kept why = tt
hands_none (Err e) old new kept (inl is) =
    subst (λ f. HandsNone f old new) (sym is) (kept (ap (λ f. Err f) is))
hands_none (Err e) old new kept (inr is) = subst (λ f. HandsNone f old new) (sym is) tt

module _ (a b c : Option (List ℕ)) (first rest : List ℕ) (none : first ≡ []) (q : Appends b c rest) where
  settled_lines : {S : Type 0} (M : Machine S) (C : Copying S) (w : World S) (lines : List Line) (most : ℕ)
      → AnswersAll M C w lines most (append_known a first) (append_known b rest) → AnswersAll M C w lines most a c
  settled_lines M C w lines most all = record {
    after = all.after;
    failures = all.failures;
    no_more = all.no_more;
    adds = record {
      texts = all.adds.texts;
      answered = all.adds.answered;
      added = settled a b c first rest (text_of all.adds.texts) none all.adds.added q;
    };
  }

  settled_answers_but : {S : Type 0} (M : Machine S) (C : Copying S) (w : World S) (lines : List Line) (most : ℕ) (e : Failure)
      → AnswersBut M C w lines most e (append_known a first) (append_known b rest) → AnswersBut M C w lines most e a c
  settled_answers_but M C w lines most failure.OutOfMemory h =
      (h.0, settled_lines M C w (take h.0 lines) most h.1)
  settled_answers_but M C w lines most failure.InputOrOutput h = tt
  settled_answers_but M C w lines most (failure.CommandLine text) h = h
  settled_answers_but M C w lines most (failure.BadScript line) h = h
  settled_answers_but M C w lines most failure.Stalled h = h
  settled_answers_but M C w lines most failure.Differs h = h

  settled_but : (holds : Verdict → Type 0) (e : Failure) → PrintsBut holds e (append_known a first) (append_known b rest)
      → PrintsBut holds e a c
  settled_but holds failure.OutOfMemory h = settled_kept a b c first rest none h q
  settled_but holds failure.InputOrOutput h = tt
  settled_but holds (failure.CommandLine text) h = h
  settled_but holds (failure.BadScript line) h = h
  settled_but holds failure.Stalled h = h
  settled_but holds failure.Differs h = (h.0, settled_line a b c first rest none q _ h.1)

  pub settled_prints : (order : ScriptTask) (setup : ScriptSetup) (sectors : List SectorWrite) (lines : List Line) (result : Result (Unit {0}) Failure)
      → Prints order setup sectors lines result (append_known a first) (append_known b rest)
      → Prints order setup sectors lines result a c
  settled_prints Script setup sectors lines (Ok done) h = (
    h.0,
    settled_lines (altair setup.guest h.0.start) (image_copy setup.guest.drives) h.0.world lines
        (failures_of setup.failing_access) h.1,
  )
  settled_prints Script setup sectors lines (Err e) h = (
    h.0,
    settled_answers_but (altair setup.guest h.0.start) (image_copy setup.guest.drives) h.0.world lines
        (failures_of setup.failing_access) e h.1,
  )
  settled_prints Check setup sectors lines (Ok done) h = (h.0, (h.1.0, h.1.1, settled_line a b c first rest none q _ h.1.2))
  settled_prints Check setup sectors lines (Err e) h = (h.0, settled_but (IsSameAfter setup sectors h.0 lines) e h.1)

-- a failure of a call that also ends this one
pub answers_residual : {S : Type 0} (M : Machine S) (C : Copying S) (w : World S) (lines : List Line) (most : ℕ)
    (result : Result (Unit {0}) Failure) (e : Failure) (old new : Option (List ℕ)) → IsErrAnd result (λ k. k ≡ e)
    → AnswersBut M C w lines most e old new → AnswersLines M C w lines most result old new
answers_residual M C w lines most (Ok done) e old new is h = absurd is
answers_residual M C w lines most (Err k) e old new is h = subst (λ f. AnswersBut M C w lines most f old new) (sym is) h

-- a run that prints nothing because it is out of memory
pub prints_nothing : (order : ScriptTask) (setup : ScriptSetup) (sectors : List SectorWrite) (lines : List Line)
    (booted : Booted setup sectors)
    (result : Result (Unit {0}) Failure) (old new : Option (List ℕ)) → IsErrAnd result (λ e. e ≡ failure.OutOfMemory)
    → Keeps old new → Prints order setup sectors lines result old new
prints_nothing order setup sectors lines booted (Ok done) old new is k = absurd is
prints_nothing Script setup sectors lines booted (Err e) old new is k = (
  booted,
  subst (λ f. AnswersBut (altair setup.guest booted.start) (image_copy setup.guest.drives) booted.world lines
      (failures_of setup.failing_access) f old new)
      (sym is) (
        0,
        record {
          after = booted.world;
          failures = 0;
          no_more = omega arith;
          adds = adds_none (altair setup.guest booted.start) (image_copy setup.guest.drives) booted.world old new k;
        },
      ),
)
prints_nothing Check setup sectors lines booted (Err e) old new is k =
    (booted, subst (λ f. PrintsBut (IsSameAfter setup sectors booted lines) f old new) (sym is) k)

-- what is printed of one verdict is printed of another that says more
says-but : (P Q : Verdict → Type 0) → ((v : Verdict) → P v → Q v) → (e : Failure) (old new : Option (List ℕ))
    → PrintsBut P e old new → PrintsBut Q e old new
says-but P Q more failure.Differs old new h = (more verdict.Differs h.0, h.1)
says-but P Q more failure.OutOfMemory old new h = h
says-but P Q more failure.InputOrOutput old new h = tt
says-but P Q more (failure.CommandLine text) old new h = h
says-but P Q more (failure.BadScript line) old new h = h
says-but P Q more failure.Stalled old new h = h

pub says_more : (P Q : Verdict → Type 0) → ((v : Verdict) → P v → Q v)
    → (result : Result (Unit {0}) Failure) (old new : Option (List ℕ))
    → PrintsVerdict P result old new → PrintsVerdict Q result old new
says_more P Q more (Ok done) old new h = (h.0, more (verdict.Same h.0) h.1, h.2)
says_more P Q more (Err e) old new h = says-but P Q more e old new h
