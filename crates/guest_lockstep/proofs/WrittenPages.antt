-- The pages that steps write: what steps and then others write is what all of them write.
use Rattle.std.proofs.Common.{◌≡◌, ℕ, zero, suc, ◌+◌, ◌∙◌, Bool, true, false, refl, sym, ap, arith}
use Rattle.std.specs.Prelude.{◌||◌}
use Rattle.std.proofs.Math.Bool.{or-false}
use Rattle.guest_lockstep.specs.Machine.{Machine}
use Rattle.guest_lockstep.specs.Pages.{after_step, is_written, stale_after, state_after}
use Rattle.guest_lockstep.specs.Running.{Quiet, Begin, More}

-- quiet steps lead to the state after them
pub leads : {S : Type 0} (M : Machine S) (s t : S) (n : ℕ) → Quiet M s n t → state_after M s n ≡ t
leads M s t n Begin = refl
leads M s t n (More {n = m} {t = v} q allowed made) =
    ap (λ x. after_step x (M.step x)) (leads M s v m q) ∙ ap (after_step v) made

pub or_all : (a b c : Bool) → ((a || b) || c) ≡ (a || (b || c))
or_all true b c = refl
or_all false b c = refl

-- what the last of the steps does is added
state_joined : {S : Type 0} (M : Machine S) (s : S) (n m k : ℕ) → k ≡ n + m
    → state_after M s k ≡ state_after M (state_after M s n) m
state_joined M s n zero k e = ap (state_after M s) (let f : k ≡ n = omega (arith, e) in f)
state_joined M s n (suc m) k e =
    ap (state_after M s) (let f : k ≡ suc (n + m) = omega (arith, e) in f)
    ∙ ap (λ x. after_step x (M.step x)) (state_joined M s n m (n + m) refl)

written_joined : {S : Type 0} (M : Machine S) (writes : S → ℕ → Bool) (s : S) (n m k page : ℕ) → k ≡ n + m
    → is_written M writes s k page ≡ (is_written M writes s n page || is_written M writes (state_after M s n) m page)
written_joined M writes s n zero k page e =
    ap (λ k. is_written M writes s k page) (let f : k ≡ n = omega (arith, e) in f)
    ∙ sym (or-false (is_written M writes s n page))
written_joined M writes s n (suc m) k page e =
    ap (λ k. is_written M writes s k page) (let f : k ≡ suc (n + m) = omega (arith, e) in f)
    ∙ ap (λ b. b || writes (state_after M s (n + m)) page) (written_joined M writes s n m (n + m) page refl)
    ∙ ap (λ x. (is_written M writes s n page || is_written M writes (state_after M s n) m page) || writes x page)
    (state_joined M s n m (n + m) refl)
    ∙ or_all (is_written M writes s n page) (is_written M writes (state_after M s n) m page)
    (writes (state_after M (state_after M s n) m) page)

-- what is stale after steps and then others is what is stale after all of them
pub stale_joined : {S : Type 0} (M : Machine S) (writes : S → ℕ → Bool) (stale : ℕ → Bool) (s t : S) (n m k : ℕ) → k ≡ n + m
    → state_after M s n ≡ t
    → stale_after M writes (stale_after M writes stale s n) t m ≡ stale_after M writes stale s k
stale_joined M writes stale s t n m k e to = λ x page. each page x
  where
    each : (page : ℕ) → ((stale page || is_written M writes s n page) || is_written M writes t m page)
        ≡ (stale page || is_written M writes s k page)
    each page =
        ap (λ v. (stale page || is_written M writes s n page) || is_written M writes v m page) (sym to)
        ∙ or_all (stale page) (is_written M writes s n page) (is_written M writes (state_after M s n) m page)
        ∙ ap (λ b. stale page || b) (sym (written_joined M writes s n m k page e))

-- nothing is stale that was not, after no step
pub stale_at_first : {S : Type 0} (M : Machine S) (writes : S → ℕ → Bool) (stale : ℕ → Bool) (s : S)
    → stale ≡ stale_after M writes stale s 0
stale_at_first M writes stale s = λ x page. sym (or-false (stale page)) x

-- one after another, if each is as it is after the one before
pub stale_then : {S : Type 0} (M : Machine S) (writes : S → ℕ → Bool) (first mid last : ℕ → Bool) (s t : S) (n m k : ℕ)
    → k ≡ n + m → Quiet M s n t → mid ≡ stale_after M writes first s n → last ≡ stale_after M writes mid t m
    → last ≡ stale_after M writes first s k
stale_then M writes first mid last s t n m k e q before after =
    after ∙ ap (λ (p : ℕ → Bool). stale_after M writes p t m) before
    ∙ stale_joined M writes first s t n m k e (leads M s t n q)
