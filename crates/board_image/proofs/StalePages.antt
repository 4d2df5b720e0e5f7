-- How many of the first pages are stale, and how many still are after the lowest of them were copied.
use Rattle.std.proofs.Common.{◌≡◌, ℕ, zero, suc, ◌+◌, ◌-◌, ◌≤◌, Bool, true, false, cond, Option, Some, refl, sym, ap, ◌∙◌, add-one, arith}
use Rattle.std.specs.Prelude.{◌&&◌, not, nat_lt}
use Rattle.std.proofs.lemmas.Bool.{eq-eqb, ltb-false, ltb-true}
use Rattle.guest_parts.specs.Board.{OnBoard}
use Rattle.guest_memory.specs.declared.memory.TheConstants.{PAGES}
use Rattle.clone_state.specs.Stale.{count_below, one_if}
use Rattle.board_image.specs.Drafts.{Drafted, IsFreshened, copied_at, version_of, is_old, is_stale, stale_below}

-- ---- counting

pub none_below : (draft : Drafted) (board : OnBoard) → stale_below draft board 0 ≡ 0
unfolding count_below
none_below draft board = refl

pub next_below : (draft : Drafted) (board : OnBoard) (page : ℕ)
    → stale_below draft board (suc page) ≡ stale_below draft board page + one_if (is_stale draft board page)
unfolding count_below
next_below draft board page = refl

pub one_more : (draft : Drafted) (board : OnBoard) (page : ℕ) (stale : Bool) → is_stale draft board page ≡ stale
    → stale_below draft board (page + 1) ≡ stale_below draft board page + one_if stale
one_more draft board page stale e =
    ap (stale_below draft board) (add-one page) ∙ next_below draft board page
    ∙ ap (λ b. stale_below draft board page + one_if b) e

few_more : (b : Bool) (n page : ℕ) → n ≤ page → n + one_if b ≤ suc page
few_more true n page few = omega (arith, few)
few_more false n page few = omega (arith, few)

pub few_below : (draft : Drafted) (board : OnBoard) (page : ℕ) → stale_below draft board page ≤ page
few_below draft board zero = rw (none_below draft board) (omega arith)
few_below draft board (suc page) =
    rw (next_below draft board page)
    (few_more (is_stale draft board page) (stale_below draft board page) page (few_below draft board page))

-- ---- after the k lowest were copied

counted : (o : Option ℕ) (version n k : ℕ) (stale room : Bool) → is_old o version ≡ stale → nat_lt n k ≡ room
    → (n - k) + one_if (is_old (cond (stale && room) (Some version) o) version) ≡ (n + one_if stale) - k
counted o version n k true true old lt =
    let low = ltb-true n k lt in
    let sums : (n - k) + 0 ≡ (n + 1) - k = omega (arith, low) in
    ap (λ b. (n - k) + one_if (not b)) (eq-eqb version version refl) ∙ sums
counted o version n k true false old lt =
    let high = ltb-false n k lt in
    let sums : (n - k) + 1 ≡ (n + 1) - k = omega (arith, high) in
    ap (λ b. (n - k) + one_if b) old ∙ sums
counted o version n k false room old lt =
    let sums : (n - k) + 0 ≡ (n + 0) - k = omega arith in
    ap (λ b. (n - k) + one_if b) old ∙ sums

pub left_below : (k : ℕ) (board : OnBoard) (old new : Drafted) → IsFreshened k board old new → (page : ℕ) → page ≤ PAGES
    → stale_below new board page ≡ stale_below old board page - k
left_below k board old new is zero low = rw (none_below new board, none_below old board) (omega arith)
left_below k board old new is (suc page) low =
    let n = stale_below old board page in
    let version = version_of board page in
    next_below new board page
    ∙ ap (λ m. m + one_if (is_stale new board page)) (left_below k board old new is page (omega (arith, low)))
    ∙ ap (λ (o : Option ℕ). (n - k) + one_if (is_old o version)) (is.versions page (omega (arith, low)))
    ∙ counted (copied_at old page) version n k (is_stale old board page) (nat_lt n k) refl refl
    ∙ ap (λ m. m - k) (sym (next_below old board page))
