-- Answers are written one after another, to the lines of an input that is read block by block.
use Rattle.std.proofs.Common.{◌≡◌, ℕ, ◌++◌, ◌∷◌, ◌∙◌, Bool, true, false, Option, Some, None, List, [], Result, Ok, Err, refl, subst, sym, ap, append-nil, append_assoc}
use Rattle.std.specs.Prelude.{◌==◌, IfErr, IfOk, IfSome, MatchOption, if◌then◌else◌, take}
use Rattle.std.specs.Io.KnownBytes.{Appends, Consumes, IsAtEnd}
use Rattle.std.specs.Result.{IsErrAnd}
use Rattle.std.proofs.KnownBytes.{Appends-trans, Consumes-trans, Keeps-refl, Consumes-nil}
use Rattle.guest_parts.specs.Guest.{Guest}
use Rattle.shared_disk.specs.Failing.{Disk}
use Rattle.ft_world.specs.Running.{Running}
use Rattle.shell_language.specs.Openings.{IsDefault}
use Rattle.shell_language.specs.declared.opening.SessionSetup.{SessionSetup}
use Rattle.pair_shell.specs.Lines.{ends_in, heard, heard_at, heard_in, kept_in, last_line}
use Rattle.pair_shell.specs.Running.{AnswersAll, AnswersEach, Desk, HearsAllFrom, HearsFrom, PairShows, desk, sitting}
use Rattle.pair_shell.specs.Hearing.{Answers, AnswersTo, Hears, HearsAll, Writes}
use Rattle.pair_shell.proofs.Answering.{each_all, each_none, each_then}
use Rattle.pair_shell.proofs.Lines.{ends_on, heard_on, kept_on, quits_at}
use Rattle.command_io.specs.declared.failure.Failure.{Failure}
use Rattle.command_io.specs.declared.failure.Failure.TheVariants as failure
use Rattle.command_io.proofs.Handing.{keeps-appends}

-- nothing was written yet
pub writes_none : (old : Option (List ℕ)) → Writes old old
writes_none old = ([], keeps-appends old old (Keeps-refl old))

-- more was written
pub writes_more : (old mid new : Option (List ℕ)) → Writes old mid → Writes mid new → Writes old new
writes_more old mid new first more = (first.0 ++ more.0, Appends-trans old mid new first.0 more.0 first.1 more.1)

-- a failure after the first answers
fails_then : (e : Failure) (old mid new : Option (List ℕ)) → Writes old mid → AnswersTo e mid new → AnswersTo e old new
fails_then failure.OutOfMemory old mid new first h = writes_more old mid new first h
fails_then failure.InputOrOutput old mid new first h = tt
fails_then (failure.CommandLine text) old mid new first h = h
fails_then (failure.BadScript line) old mid new first h = h
fails_then failure.Stalled old mid new first h = h
fails_then failure.Differs old mid new first h = h

-- a call that fails after the first answers, and so ends this one
pub answers_until : {A : Type 0} (result : Result A Failure) (e : Failure) (old mid new : Option (List ℕ))
    → IsErrAnd result (λ k. k ≡ e) → Writes old mid → AnswersTo e mid new → Answers result old new
answers_until (Ok done) e old mid new is first h = absurd is
answers_until (Err k) e old mid new is first h = subst (λ f. AnswersTo f old new) (sym is) (fails_then e old mid new first h)

-- a call that writes nothing, and fails only for want of memory
pub answers_kept : {A : Type 0} (result : Result A Failure) (old : Option (List ℕ)) → IfErr result (λ e. e ≡ failure.OutOfMemory)
    → Answers result old old
answers_kept (Ok done) old full = writes_none old
answers_kept (Err e) old full = subst (λ f. AnswersTo f old old) (sym full) (writes_none old)

-- an answer was written
pub wrote : (answer : List ℕ) (old new : Option (List ℕ)) → Appends old new answer → Writes old new
wrote answer old new h = (answer, h)

-- an input of which nothing was read yet, and one at its end
at_end : (after : Option (List ℕ)) (rest : List ℕ) → IsAtEnd after → after ≡ Some rest → rest ≡ []
at_end after rest end is = subst IsAtEnd is end

module _ {B H : Type 0} (guest : B → Guest) where
  -- a byte that ends no line
  pub each_kept : {A : Type 0} (result : Result A Failure) (d : Desk B H) (line : List ℕ) (byte : ℕ) (old : Option (List ℕ))
      → (byte == 10) ≡ false → IfOk result (λ done. AnswersEach guest d (heard_at line byte) old old d)
  each_kept (Ok done) d line byte old not =
      subst (λ ls. AnswersEach guest d ls old old d) (sym (ap (λ b. if b then line ∷ [] else []) not)) (each_none guest d old)
  each_kept (Err e) d line byte old not = tt

  -- ---- a block, byte by byte

  -- some of the lines were answered, and these are left
  pub record HearsOn (first d : Desk B H) (all left : List (List ℕ)) (old new : Option (List ℕ)) : Type 0 where
    pub done : List (List ℕ)
    pub are : all ≡ done ++ left
    pub heard : AnswersEach guest first done old new d

  pub hears_none : (d : Desk B H) (all : List (List ℕ)) (old : Option (List ℕ)) → HearsOn d d all all old old
  hears_none d all old = record { done = []; are = refl; heard = each_none guest d old }

  pub hears_more : (first d next : Desk B H) (all left now later : List (List ℕ)) (old mid new : Option (List ℕ))
      → HearsOn first d all left old mid → left ≡ now ++ later → AnswersEach guest d now mid new next
      → HearsOn first next all later old new
  hears_more first d next all left now later old mid new h is more = record {
    done = h.done ++ now;
    are = h.are ∙ ap (λ l. h.done ++ l) is ∙ sym (append_assoc h.done now later);
    heard = each_then guest first d next h.done now old mid new h.heard more;
  }

  pub hears_all : (first d : Desk B H) (all left : List (List ℕ)) (old new : Option (List ℕ)) → HearsOn first d all left old new
      → left ≡ [] → AnswersEach guest first all old new d
  hears_all first d all left old new h none =
      subst (λ l. AnswersEach guest first l old new d) (sym (h.are ∙ ap (λ l. h.done ++ l) none ∙ append-nil h.done)) h.heard

  -- ---- an input, block by block

  -- these bytes of it were read, and no line of them was `quit`
  pub record HasRead (begin d : Desk B H) (first now : Option (List ℕ)) (line : List ℕ) (old new : Option (List ℕ)) : Type 0 where
    pub bytes : List ℕ
    pub taken : Consumes first now bytes
    pub kept : line ≡ kept_in [] bytes
    pub goes_on : ends_in [] bytes ≡ false
    pub heard : AnswersEach guest begin (heard_in [] bytes) old new d

  pub read_none : (d : Desk B H) (first : Option (List ℕ)) (line : List ℕ) (old : Option (List ℕ)) → line ≡ []
      → HasRead d d first first line old old
  read_none d first line old none = record {
    bytes = [];
    taken = Consumes-nil first;
    kept = none;
    goes_on = refl;
    heard = each_none guest d old;
  }

  -- an input of which these bytes were taken, and which has these lines
  all_heard : (begin d : Desk B H) (first after : Option (List ℕ)) (bytes : List ℕ) (lines : List (List ℕ)) (old new : Option (List ℕ))
      → Consumes first after bytes → ((rest : List ℕ) → after ≡ Some rest → lines ≡ heard (bytes ++ rest))
      → AnswersEach guest begin lines old new d → IfSome first (λ all. AnswersAll guest begin (heard all) old new)
  all_heard begin d None after bytes lines old new taken are each = tt
  all_heard begin d (Some all) None bytes lines old new taken are each = absurd taken
  all_heard begin d (Some all) (Some rest) bytes lines old new taken are each =
      subst (λ l. AnswersAll guest begin l old new) (are rest refl ∙ ap heard (sym taken)) (each_all guest begin d lines old new each)

  module _ (begin d next : Desk B H) (first now after : Option (List ℕ)) (line : List ℕ) (old mid new : Option (List ℕ))
      (h : HasRead begin d first now line old mid) where
    -- one block more
    module _ (block : List ℕ) (more : Consumes now after block) where
      both : Consumes first after (h.bytes ++ block)
      both = Consumes-trans first now after h.bytes block h.taken more

      ends_with : ends_in [] (h.bytes ++ block) ≡ ends_in line block
      ends_with = ends_on [] h.bytes block h.goes_on ∙ ap (λ k. ends_in k block) (sym h.kept)

      heard_with : AnswersEach guest d (heard_in line block) mid new next
          → AnswersEach guest begin (heard_in [] (h.bytes ++ block)) old new next
      heard_with one = subst (λ l. AnswersEach guest begin l old new next)
          (ap (λ k. heard_in [] h.bytes ++ heard_in k block) h.kept ∙ sym (heard_on [] h.bytes block h.goes_on))
          (each_then guest begin d next (heard_in [] h.bytes) (heard_in line block) old mid new h.heard one)

      pub read_more : (kept : List ℕ) → ends_in line block ≡ false → kept ≡ kept_in line block
          → AnswersEach guest d (heard_in line block) mid new next → HasRead begin next first after kept old new
      read_more kept not keeps one = record {
        bytes = h.bytes ++ block;
        taken = both;
        kept = keeps ∙ ap (λ k. kept_in k block) h.kept ∙ sym (kept_on [] h.bytes block);
        goes_on = ends_with ∙ not;
        heard = heard_with one;
      }

      -- a line of it was `quit`
      pub hears_quit : Writes old new → ends_in line block ≡ true → AnswersEach guest d (heard_in line block) mid new next
          → HearsAllFrom guest begin first old new
      hears_quit written ends one = record {
        written = written;
        heard = all_heard begin next first after (h.bytes ++ block) (heard_in [] (h.bytes ++ block)) old new both
            (λ rest is. sym (quits_at (h.bytes ++ block) rest (ends_with ∙ ends))) (heard_with one);
      }

    -- it is at its end
    pub hears_end : Writes old new → Consumes now after [] × IsAtEnd after → AnswersEach guest d (last_line line) mid new next
        → HearsAllFrom guest begin first old new
    hears_end written end one = record {
      written = written;
      heard = all_heard begin next first after (h.bytes ++ []) (heard_in [] h.bytes ++ last_line line) old new
          (Consumes-trans first now after h.bytes [] h.taken end.0)
          (λ rest is. ap (λ k. heard_in [] h.bytes ++ last_line k) h.kept
          ∙ ap (λ b. heard_in [] h.bytes ++ (if b then [] else last_line (kept_in [] h.bytes))) (sym h.goes_on)
          ∙ ap heard (sym (ap (λ r. (h.bytes ++ []) ++ r) (at_end after rest end.1 is) ∙ append-nil (h.bytes ++ []) ∙ append-nil h.bytes)))
          (each_then guest begin d next (heard_in [] h.bytes) (last_line line) old mid new h.heard one);
    }

    -- what is left at its end was answered, or that has failed
    pub hears_last : (text : List ℕ) (result : Result (Unit {0}) Failure) → Writes old mid → Consumes now after [] × IsAtEnd after
        → text ≡ line → Answers result mid new → IfOk result (λ done. AnswersEach guest d (last_line text) mid new next)
        → HearsFrom guest begin first result old new
    hears_last text (Ok done) written end is answers one =
        hears_end (writes_more old mid new written answers) end (subst (λ t. AnswersEach guest d (last_line t) mid new next) is one)
    hears_last text (Err e) written end is answers one = fails_then e old mid new written answers

  -- a block that was not answered to its end, or was not read
  pub fails_after : (begin : Desk B H) (first : Option (List ℕ)) (result : Result (Unit {0}) Failure) (e : Failure)
      (old mid new : Option (List ℕ)) → IsErrAnd result (λ k. k ≡ e) → Writes old mid → AnswersTo e mid new
      → HearsFrom guest begin first result old new
  fails_after begin first (Ok done) e old mid new is written h = absurd is
  fails_after begin first (Err k) e old mid new is written h =
      subst (λ f. AnswersTo f old new) (sym is) (fails_then e old mid new written h)

  -- ---- a new session

  new_shows : (world : Option (Running B H Disk)) → world ≡ None → PairShows guest world None
  new_shows world none = subst (λ w. PairShows guest w None) (sym none) tt

  hears_new : (opening : SessionSetup) (world : Option (Running B H Disk)) (is_traced : Bool) (first old new : Option (List ℕ))
      → IsDefault opening → world ≡ None → is_traced ≡ false
      → HearsAllFrom guest (desk opening world is_traced) first old new → HearsAll first old new
  hears_new opening world is_traced None old new set none untraced h = (h.written, tt)
  hears_new opening world is_traced (Some all) old new set none untraced h = (
    h.written,
    record {
      first = sitting (desk opening world is_traced) None;
      is_new = record { opening = set; pair = refl; is_traced = untraced };
      answered = h.heard None (new_shows world none);
    },
  )

  pub hears_first : (opening : SessionSetup) (world : Option (Running B H Disk)) (is_traced : Bool) (first : Option (List ℕ))
      (result : Result (Unit {0}) Failure) (old new : Option (List ℕ)) → IsDefault opening → world ≡ None → is_traced ≡ false
      → HearsFrom guest (desk opening world is_traced) first result old new → Hears first result old new
  hears_first opening world is_traced first (Ok done) old new set none untraced h =
      hears_new opening world is_traced first old new set none untraced h
  hears_first opening world is_traced first (Err e) old new set none untraced h = h

-- what was read
pub some_read : (now after : Option (List ℕ)) (block : List ℕ) (count : Option ℕ) (n : ℕ) → count ≡ Some n
    → MatchOption count (Consumes now after [] × IsAtEnd after) (λ n. Consumes now after (take n block)) → Consumes now after (take n block)
some_read now after block count n is h =
    subst (λ (o : Option ℕ). MatchOption o (Consumes now after [] × IsAtEnd after) (λ n. Consumes now after (take n block))) is h

pub none_read : (now after : Option (List ℕ)) (block : List ℕ) (count : Option ℕ) → count ≡ None
    → MatchOption count (Consumes now after [] × IsAtEnd after) (λ n. Consumes now after (take n block))
    → Consumes now after [] × IsAtEnd after
none_read now after block count is h =
    subst (λ (o : Option ℕ). MatchOption o (Consumes now after [] × IsAtEnd after) (λ n. Consumes now after (take n block))) is h
