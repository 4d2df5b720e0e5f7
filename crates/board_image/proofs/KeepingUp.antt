-- A draft of a board is also one of the board later: a page that was copied at its present version was not written since.
use Rattle.std.proofs.Common.{◌≡◌, ℕ, zero, suc, ◌+◌, ◌<◌, ◌≤◌, Bool, true, false, List, length, Option, Some, None, Result, Ok, Err, IsOk, inl, inr, refl, sym, ap, subst, ◌∙◌, arith}
use Rattle.std.specs.Prelude.{replicate, slice_index_or}
use Rattle.std.proofs.lemmas.Bool.{cond-true, cond-false}
use Rattle.guest_memory.specs.Pages.{page_of}
use Rattle.guest_memory.specs.declared.memory.TheConstants.{PAGES}
use Rattle.i8080_words.specs.declared.refusal.Fault.{Fault}
use Rattle.guest_parts.specs.Board.{IsBoard, OnBoard}
use Rattle.guest_parts.specs.Guest.{Guest}
use Rattle.guest_board.specs.Stepping.{IsAnswer, by_name, guest_after, versions_after_answer}
use Rattle.guest_board.specs.declared.executed.Executed.{Executed}
use Rattle.guest_board.specs.declared.executed.Executed.TheVariants.{Ran, Accepted}
use Rattle.board_image.specs.Drafts.{Drafted, IsFreshened, KeepsUp, copied_at, is_next, is_old, is_stale, none_copied, nothing_copied, stale_below, version_of}
use Rattle.clone_state.specs.Stale.{one_if}
use Rattle.board_image.specs.DraftLaws.{IsLater, memory_of, DraftsBegin, DraftsKeepUp}
use Rattle.board_image.proofs.StalePages.{left_below, next_below, none_below}
use Rattle.board_image.proofs.Freshening.{still_agrees}
use Rattle.board_image.proofs.LaterPages.{each, inputs_later, page_low, steps_later}

-- ---- a new draft

pub none_at : (n k : ℕ) → slice_index_or (none_copied n) k None ≡ None
unfolding none_copied
none_at n k = still None n k
  where
    still : (o : Option ℕ) (n k : ℕ) → slice_index_or (replicate n o) k o ≡ o
    still o zero k = refl
    still o (suc n) zero = refl
    still o (suc n) (suc k) = still o n k

all_below : (board : OnBoard) (page : ℕ) → stale_below nothing_copied board page ≡ page
all_below board zero = none_below nothing_copied board
all_below board (suc page) =
    let before = all_below board page in
    let here : is_stale nothing_copied board page ≡ true =
    ap (λ (o : Option ℕ). is_old o (version_of board page)) (none_at PAGES page) in
    let more : stale_below nothing_copied board page + 1 ≡ suc page = omega (arith, before) in
    next_below nothing_copied board page ∙ ap (λ b. stale_below nothing_copied board page + one_if b) here ∙ more

never : (o : Option ℕ) (version : ℕ) → o ≡ None → o ≡ Some version → ⊥
never o version e f = cc

pub begins : (board : OnBoard) → KeepsUp nothing_copied board
begins board = record {
  agrees = record {
    bytes = λ address low at.
        absurd (never (copied_at nothing_copied (page_of address)) (version_of board (page_of address)) (none_at PAGES (page_of address)) at);
  };
  past = λ page version low at. absurd (never (copied_at nothing_copied page) version (none_at PAGES page) at);
}

-- ---- pages are copied

pub freshens : (k : ℕ) (board : OnBoard) (old new : Drafted) → IsFreshened k board old new → KeepsUp old board → KeepsUp new board
freshens k board old new is keeps = record {
  agrees = still_agrees k board old new is keeps.agrees;
  past = λ page version low at. past page version low (is_next k old board page) refl at;
}
  where
    same_number : (a b : ℕ) → Some a ≡ Some b → a ≡ b
    same_number a b e = cc

    past : (page version : ℕ) → page < PAGES → (b : Bool) → is_next k old board page ≡ b → copied_at new page ≡ Some version
        → version ≤ version_of board page
    past page version low true next at =
        let same : version_of board page ≡ version = same_number (version_of board page) version
        (sym (cond-true (is_next k old board page) (Some (version_of board page)) (copied_at old page) next)
        ∙ sym (is.versions page low) ∙ at) in
        omega (arith, same)
    past page version low false next at =
        keeps.past page version low
        (sym (cond-false (is_next k old board page) (Some (version_of board page)) (copied_at old page) next)
        ∙ sym (is.versions page low) ∙ at)

pub drafts_begin : DraftsBegin
drafts_begin = record {
  keeps_up = begins;
  stale = λ board. all_below board PAGES;
  freshens = freshens;
  fewer = λ k board old new is. left_below k board old new is PAGES (omega arith);
}

-- ---- the board goes on

pub later : (draft : Drafted) (old new : OnBoard) → IsLater (memory_of old) (memory_of new) → KeepsUp draft old → KeepsUp draft new
later draft old new is keeps = record {
  agrees = record {
    bytes = λ address low at.
        let before = keeps.past (page_of address) (version_of new (page_of address)) (page_low address low) at in
        let rises = is.versions (page_of address) in
        let same : version_of new (page_of address) ≡ version_of old (page_of address) = omega (arith, before, rises) in
        keeps.agrees.bytes address low (at ∙ ap (λ v. Some v) same) ∙ sym (is.bytes address low same);
  };
  past = λ page version low at.
      let before = keeps.past page version low at in
      let rises = is.versions page in
      omega (arith, before, rises);
}

-- after a step of the board
pub after_step : (draft : Drafted) (old new : OnBoard) (answer : Result Executed Fault)
    → new.guest ≡ guest_after answer old.guest → new.versions ≡ versions_after_answer answer old.guest old.versions
    → IsBoard old.guest old.versions → length old.versions ≡ PAGES → KeepsUp draft old → KeepsUp draft new
after_step draft old new answer guest versions stands long keeps =
    later draft old new
    (subst (λ (g : Guest). IsLater (memory_of old) (record { bytes = g.memory; versions = new.versions })) (sym guest)
    (subst (λ (vs : List ℕ). IsLater (memory_of old) (record { bytes = (guest_after answer old.guest).memory; versions = vs }))
    (sym versions) (steps_later old answer stands long))) keeps

-- the answer of a step, with an operation's name in place of it
pub answer_by_name : (wanted answer : Result Executed Fault) → IsAnswer wanted answer → IsAnswer (by_name wanted) (by_name answer)
answer_by_name wanted answer (inl same) = inl (ap by_name same)
answer_by_name (Ok made) answer (inr full) = inr (ap by_name full.0, named made)
  where
    named : (made : Executed) → IsOk (by_name (Ok made))
    named (Ran given) = full.1
    named Accepted = full.1
answer_by_name (Err fault) answer (inr full) = absurd (let no = full.1 in cc)

pub drafts_keep_up : DraftsKeepUp
drafts_keep_up = record { keeps_up = later; steps = steps_later; inputs = inputs_later; each = each }
