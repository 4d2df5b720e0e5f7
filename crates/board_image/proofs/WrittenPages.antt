-- A draft beside steps of its board: a page is stale after a step if it was, or if the step has written it, since each write
-- raises its page's version and nothing else does.
use Rattle.std.proofs.Common.{◌≡◌, ℕ, suc, ◌+◌, ◌*◌, ◌%◌, ◌^◌, ◌<◌, ◌≤◌, Bool, true, false, cond, List, [], ◌∷◌, length, Option, Some, None, refl, sym, ap, subst, ◌∙◌, inl, inr, arith}
use Rattle.std.specs.Prelude.{◌==◌, ◌||◌, ◌&&◌, not, slice_index}
use Rattle.std.proofs.lemmas.Bool.{cases_lt, eqb-true, eqb-false, eq-eqb, ne_eqb}
use Rattle.std.proofs.lemmas.List.{get_or_past, get_or-set_same, get_or-set_other}
use Rattle.i8080_words.specs.Effects.{Access, after_accesses}
use Rattle.i8080_words.specs.Effects.Access.{Write, Input, Output}
use Rattle.i8080_words.specs.declared.refusal.Fault.{Fault}
use Rattle.i8080_words.specs.declared.refusal.Fault.TheVariants.{Spent}
use Rattle.event_callbacks.specs.declared.operations.Operation.{Operation}
use Rattle.guest_lockstep.specs.Pages.{every_page, is_written, stale_after, state_after}
use Rattle.guest_lockstep.specs.Running.{Quiet, Begin, More}
use Rattle.guest_lockstep.proofs.WrittenPages.{leads, or_all}
use Rattle.guest_memory.specs.Pages.{page_of, raised}
use Rattle.guest_memory.specs.declared.memory.TheConstants.{PAGES}
use Rattle.guest_parts.specs.Board.{IsBoard, OnBoard}
use Rattle.guest_parts.specs.Guest.{Guest}
use Rattle.guest_board.specs.Guest.{step_of, wired_after, next, is_spent, is_idle}
use Rattle.guest_board.specs.Inputs.{some_altair}
use Rattle.guest_board.specs.Pages.{is_accessed, versions_over, writes_page}
use Rattle.guest_board.specs.Stepping.{next_versions}
use Rattle.guest_board.specs.Wiring.{versions_after}
use Rattle.guest_board.specs.declared.executed.Executed.TheVariants.{Ran}
use Rattle.guest_board.proofs.Stepping.{not_spent}
use Rattle.guest_board.proofs.Steps.{access_little, board_next}
use Rattle.std.specs.Prelude.{Ok}
use Rattle.std.proofs.Math.Bool.{and-false, and-true, or-false, or-true}
use Rattle.clone_state.specs.Stale.{AreCopied, is_lowest}
use Rattle.board_image.specs.DraftedBoard.{stale_with}
use Rattle.board_image.specs.Drafts.{Drafted, HasRoom, IsFreshened, KeepsUp, copied_at, is_next, is_old, is_stale, nothing_copied, stale_in, version_of}
use Rattle.board_image.proofs.KeepingUp.{later, none_at}
use Rattle.board_image.proofs.LaterPages.{access_long, few, steps_later, up}

-- ---- the versions after accesses

rises : (accesses : List Access) (versions : List ℕ) (bound page : ℕ) → ((q : ℕ) → slice_index versions q ≤ bound)
    → bound + length accesses < 2 ^ 64
    → slice_index versions page ≤ slice_index (after_accesses versions_after accesses versions) page
rises [] versions bound page all low = omega arith
rises (Write address byte ∷ xs) versions bound page all low =
    let here = all (page_of address) in
    let one = up versions (page_of address) (slice_index versions (page_of address)) page refl (omega (arith, here, low)) in
    let rest = rises xs (raised versions (page_of address)) (bound + 1) page (access_little (Write address byte) versions bound all)
    (omega (arith, low)) in
    omega (arith, one, rest)
rises (Input number ∷ xs) versions bound page all low = rises xs versions bound page all (omega (arith, low))
rises (Output number byte ∷ xs) versions bound page all low = rises xs versions bound page all (omega (arith, low))

one_up : (v bound w : ℕ) → v ≤ bound → bound + 1 < 2 ^ 64 → w ≡ (v + 1) % 2 ^ 64 → w ≡ v + 1
one_up v bound w here low e = omega (arith, here, low, e)

written_rises : (accesses : List Access) (versions : List ℕ) (bound page : ℕ) → length versions ≡ PAGES
    → ((q : ℕ) → slice_index versions q ≤ bound) → bound + length accesses < 2 ^ 64 → page < PAGES
    → is_accessed accesses page ≡ true
    → slice_index versions page < slice_index (after_accesses versions_after accesses versions) page
written_rises [] versions bound page long all low inside e = absurd (cc)
written_rises (Write address byte ∷ xs) versions bound page long all low inside e =
    go (λ f. written_rises xs (raised versions (page_of address)) (bound + 1) page (access_long (Write address byte) versions ∙ long)
    (access_little (Write address byte) versions bound all) (omega (arith, low)) inside f) (page_of address == page) refl e
  where
    rest : slice_index (raised versions (page_of address)) page
        ≤ slice_index (after_accesses versions_after xs (raised versions (page_of address))) page
    rest = rises xs (raised versions (page_of address)) (bound + 1) page (access_little (Write address byte) versions bound all)
        (omega (arith, low))

    go : (is_accessed xs page ≡ true → slice_index (raised versions (page_of address)) page
        < slice_index (after_accesses versions_after xs (raised versions (page_of address))) page)
        → (b : Bool) → (page_of address == page) ≡ b → (b || is_accessed xs page) ≡ true
        → slice_index versions page < slice_index (after_accesses versions_after xs (raised versions (page_of address))) page
    go more_rises true is f =
        let here : page_of address ≡ page = eqb-true (page_of address) page is in
        let v : slice_index versions (page_of address) ≤ bound = all (page_of address) in
        let new : slice_index (raised versions (page_of address)) (page_of address) ≡ (slice_index versions (page_of address) + 1) % 2 ^ 64 =
        get_or-set_same versions (page_of address) ((slice_index versions (page_of address) + 1) % 2 ^ 64) 0 (omega (arith, long, inside, here)) in
        let up_one = one_up (slice_index versions (page_of address)) bound
        (slice_index (raised versions (page_of address)) (page_of address)) v (omega (arith, low)) new in
        let at : slice_index (raised versions (page_of address)) page ≡ slice_index versions page + 1 =
        subst (λ p. slice_index (raised versions (page_of address)) p ≡ slice_index versions p + 1) here up_one in
        let r = rest in
        omega (arith, at, r)
    go more_rises false is f =
        let one = up versions (page_of address) (slice_index versions (page_of address)) page refl
        (let v = all (page_of address) in omega (arith, v, low)) in
        let more = more_rises f in
        omega (arith, one, more)
written_rises (Input number ∷ xs) versions bound page long all low inside e =
    written_rises xs versions bound page long all (omega (arith, low)) inside e
written_rises (Output number byte ∷ xs) versions bound page long all low inside e =
    written_rises xs versions bound page long all (omega (arith, low)) inside e

unwritten_stays : (accesses : List Access) (versions : List ℕ) (page : ℕ) → is_accessed accesses page ≡ false
    → slice_index (after_accesses versions_after accesses versions) page ≡ slice_index versions page
unwritten_stays [] versions page e = refl
unwritten_stays (Write address byte ∷ xs) versions page e =
    go (λ f. unwritten_stays xs (raised versions (page_of address)) page f) (page_of address == page) refl e
  where
    go : (is_accessed xs page ≡ false → slice_index (after_accesses versions_after xs (raised versions (page_of address))) page
        ≡ slice_index (raised versions (page_of address)) page)
        → (b : Bool) → (page_of address == page) ≡ b → (b || is_accessed xs page) ≡ false
        → slice_index (after_accesses versions_after xs (raised versions (page_of address))) page ≡ slice_index versions page
    go rest true is f = absurd (cc)
    go rest false is f =
        rest f
        ∙ get_or-set_other versions (page_of address) page ((slice_index versions (page_of address) + 1) % 2 ^ 64) 0
        (λ same. eqb-false (page_of address) page is (sym same))
unwritten_stays (Input number ∷ xs) versions page e = unwritten_stays xs versions page e
unwritten_stays (Output number byte ∷ xs) versions page e = unwritten_stays xs versions page e

all_long : (accesses : List Access) (versions : List ℕ)
    → length (after_accesses versions_after accesses versions) ≡ length versions
all_long [] versions = refl
all_long (x ∷ xs) versions = all_long xs (versions_after x versions) ∙ access_long x versions

-- ---- one step

-- a page that was copied at this version or never, once its version is another one or the same
is_old_after : (o : Option ℕ) (v w : ℕ) (wrote : Bool) → ((c : ℕ) → o ≡ Some c → c ≤ v) → (wrote ≡ true → v < w)
    → (wrote ≡ false → w ≡ v) → is_old o w ≡ (is_old o v || wrote)
is_old_after None v w wrote past rose same = refl
is_old_after (Some c) v w true past rose same =
    let before : c ≤ v = past c refl in
    let higher : v < w = rose refl in
    ap not (ne_eqb c w (λ e. omega (arith, before, higher, e))) ∙ sym (or-true (not (c == v)))
is_old_after (Some c) v w false past rose same =
    ap (λ n. not (c == n)) (same refl) ∙ sym (or-false (not (c == v)))

abbrev on : Guest → List ℕ → OnBoard
on g versions = record { guest = g; versions = versions }

stale_next : (draft : Drafted) (g : Guest) (versions : List ℕ) → IsBoard g versions → length versions ≡ PAGES → HasRoom draft
    → KeepsUp draft (on g versions) → (page : ℕ)
    → is_old (copied_at draft page) (slice_index (next_versions g versions) page)
    ≡ (is_stale draft (on g versions) page || writes_page g page)
stale_next draft g versions stands long room keeps page =
    elim (cases_lt page PAGES) [
      | inl inside ↦
          let two = few g in
          let count = stands.in_range.count in
          is_old_after (copied_at draft page) (slice_index versions page) (slice_index (next_versions g versions) page)
          (writes_page g page) (λ c e. keeps.past page c inside e)
          (written_rises (step_of g).accesses versions (2 * g.count) page long stands.in_range.writes (omega (arith, two, count)) inside)
          (unwritten_stays (step_of g).accesses versions page)
      | inr high ↦
          let pages = room.pages in
          let none : copied_at draft page ≡ None = get_or_past draft.copied page None (omega (arith, pages, high)) in
          ap (λ (o : Option ℕ). is_old o (slice_index (next_versions g versions) page)) none
          ∙ sym (ap (λ (o : Option ℕ). is_old o (slice_index versions page) || writes_page g page) none)
    ]

pub stale_after_step : (draft : Drafted) (old new : OnBoard) → new.versions ≡ next_versions old.guest old.versions
    → IsBoard old.guest old.versions → length old.versions ≡ PAGES → HasRoom draft → KeepsUp draft old
    → stale_in draft new ≡ stale_after some_altair writes_page (stale_in draft old) old.guest 1
stale_after_step draft old new versions stands long room keeps = λ x page. each page x
  where
    each : (page : ℕ) → is_stale draft new page ≡ (is_stale draft old page || writes_page old.guest page)
    each page =
        ap (λ (vs : List ℕ). is_old (copied_at draft page) (slice_index vs page)) versions
        ∙ stale_next draft old.guest old.versions stands long room keeps page

-- ---- steps in one go

record Beside (draft : Drafted) (g : Guest) (from : List ℕ) (n : ℕ) (b : OnBoard) : Type 0 where
  pub board : IsBoard b.guest b.versions
  pub long : length b.versions ≡ PAGES
  pub keeps : KeepsUp draft b
  pub stale : (page : ℕ) → is_stale draft b page
      ≡ (is_stale draft (on g from) page || is_written some_altair writes_page g n page)

allowed_so : (b : Bool) (rest : Option Fault) → cond b (Some Spent) rest ≡ None → b ≡ false
allowed_so true rest e = absurd (cc)
allowed_so false rest e = refl

made_so : (b : Bool) (x : Guest × Option Operation) (t : Guest) → cond b None (Some x) ≡ Some (t, None) → x.0 ≡ t
made_so true x t e = absurd (cc)
made_so false x t e = let same : x ≡ (t, None) = cc in ap (λ (p : Guest × Option Operation). p.0) same

beside : (draft : Drafted) (g : Guest) (from : List ℕ) (n : ℕ) (t : Guest) → HasRoom draft → IsBoard g from
    → length from ≡ PAGES → KeepsUp draft (on g from) → Quiet some_altair g n t
    → Beside draft g from n (on t (versions_over g from n))
beside draft g from n t room stands long keeps Begin = record {
  board = stands;
  long = long;
  keeps = keeps;
  stale = λ page. sym (or-false (is_stale draft (on g from) page));
}
beside draft g from n t room stands long keeps (More {n = m} {t = h} q allowed made) =
    let vs : List ℕ = versions_over g from m in
    let b = beside draft g from m h room stands long keeps q in
    let to = leads some_altair g h m q in
    let spent = allowed_so (is_spent h) _ allowed in
    let step : next h ≡ t = made_so (is_spent h || is_idle h) (next h, (wired_after h).given) t made in
    let there : on (next h) (next_versions h vs) ≡ on t (next_versions (state_after some_altair g m) vs) =
    ap (λ (x : Guest). on x (next_versions h vs)) step
    ∙ ap (λ (ws : List ℕ). on t ws) (ap (λ (x : Guest). next_versions x vs) (sym to)) in
    subst (Beside draft g from (suc m)) there (record {
      board = board_next h vs b.board (not_spent h spent);
      long = all_long (step_of h).accesses vs ∙ b.long;
      keeps = later draft (on h vs) (on (next h) (next_versions h vs)) (steps_later (on h vs) (Ok (Ran None)) b.board b.long) b.keeps;
      stale = λ page.
          stale_next draft h vs b.board b.long room b.keeps page
          ∙ ap (λ s. s || writes_page h page) (b.stale page)
          ∙ or_all (is_stale draft (on g from) page) (is_written some_altair writes_page g m page) (writes_page h page)
          ∙ ap (λ (x : Guest). is_stale draft (on g from) page || (is_written some_altair writes_page g m page || writes_page x page)) (sym to);
    })

-- the board after quiet steps, with its draft
pub record Stays (draft : Drafted) (old new : OnBoard) (n : ℕ) : Type 0 where
  pub keeps_up : KeepsUp draft new
  pub stale : stale_in draft new ≡ stale_after some_altair writes_page (stale_in draft old) old.guest n

pub stays : (draft : Drafted) (old new : OnBoard) (n : ℕ) → HasRoom draft → IsBoard old.guest old.versions
    → length old.versions ≡ PAGES → KeepsUp draft old → Quiet some_altair old.guest n new.guest
    → new.versions ≡ versions_over old.guest old.versions n → Stays draft old new n
stays draft old new n room stands long keeps q versions =
    let b = beside draft old.guest old.versions n new.guest room stands long keeps q in
    let here : on new.guest (versions_over old.guest old.versions n) ≡ new = ap (λ (ws : List ℕ). on new.guest ws) (sym versions) in
    subst (λ (z : OnBoard). Stays draft old z n) here (record {
      keeps_up = b.keeps;
      stale = λ x page. b.stale page x;
    })

-- ---- an input, and pages that are copied

-- whether a page is stale depends on its version alone
pub stale_kept : (draft : Option Drafted) (old new : OnBoard) → new.versions ≡ old.versions
    → stale_with new draft ≡ stale_with old draft
stale_kept None old new same = refl
stale_kept (Some draft) old new same = λ x page. (ap (λ (vs : List ℕ). is_old (copied_at draft page) (slice_index vs page)) same) x

pub copies_lowest : (k : ℕ) (board : OnBoard) (old new : Drafted) → IsFreshened k board old new
    → AreCopied k (stale_in old board) (stale_in new board)
copies_lowest k board old new is page inside = go (is_next k old board page) refl
  where
    go : (b : Bool) → is_next k old board page ≡ b
        → is_stale new board page ≡ (is_stale old board page && not (is_lowest k (stale_in old board) page))
    go true next =
        ap (λ (o : Option ℕ). is_old o (version_of board page)) (is.versions page inside)
        ∙ ap (λ b. is_old (cond b (Some (version_of board page)) (copied_at old page)) (version_of board page)) next
        ∙ ap not (eq-eqb (version_of board page) (version_of board page) refl)
        ∙ sym (ap (λ b. is_stale old board page && not b) next ∙ and-false (is_stale old board page))
    go false next =
        ap (λ (o : Option ℕ). is_old o (version_of board page)) (is.versions page inside)
        ∙ ap (λ b. is_old (cond b (Some (version_of board page)) (copied_at old page)) (version_of board page)) next
        ∙ sym (ap (λ b. is_stale old board page && not b) next ∙ and-true (is_stale old board page))

-- of a new draft every page is stale
pub nothing_is_copied : (board : OnBoard) → stale_in nothing_copied board ≡ every_page
nothing_is_copied board = λ x page. (ap (λ (o : Option ℕ). is_old o (version_of board page)) (none_at PAGES page)) x
