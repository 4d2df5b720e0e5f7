-- A loop that only looks, step by step.
use Rattle.std.proofs.Common.{◌≡◌, ◌-◌, ◌<◌, ◌∙◌, ℕ, suc, true, false, arith, sym, subst}
use Rattle.i8080_words.specs.declared.registers.Processor.{Processor}
use Rattle.board_image.specs.Polling.{Back, ComesBack, Later, Seen, after_step, is_only_looking, processor_after}

-- no step is left
pub none_left : (first : Processor) (n : ℕ) (p : Processor) (s : Seen) → n ≡ 0 → ComesBack first n p s → ⊥
none_left first n p s none (Back only looks same) = absurd (cc)
none_left first n p s none (Later only rest) = absurd (cc)

-- the next step does more than look
acts_at : (first : Processor) (n : ℕ) (p : Processor) (s : Seen)
    → is_only_looking (processor_after p s) (after_step p s) ≡ false → ComesBack first n p s → ⊥
acts_at first n p s not (Back only looks same) = absurd (cc)
acts_at first n p s not (Later only rest) = absurd (cc)

pub acts : (first : Processor) (n : ℕ) (p q : Processor) (s t : Seen) → q ≡ processor_after p s → t ≡ after_step p s
    → is_only_looking q t ≡ false → ComesBack first n p s → ⊥
acts first n p q s t is seen not =
    acts_at first n p s (subst (λ x. is_only_looking x (after_step p s) ≡ false) is (subst (λ x. is_only_looking q x ≡ false) seen not))

-- it leads back
pub comes_back : (first : Processor) (n : ℕ) (p q : Processor) (s t : Seen) → 0 < n → q ≡ processor_after p s → t ≡ after_step p s
    → is_only_looking q t ≡ true → t.looks ≡ true → q ≡ first → ComesBack first n p s
comes_back first n p q s t some is seen only looks same =
    let more : n ≡ suc (n - 1) = omega arith in
    subst (λ k. ComesBack first k p s) (sym more)
    (Back (subst (λ x. is_only_looking x (after_step p s) ≡ true) is (subst (λ x. is_only_looking q x ≡ true) seen only))
    (subst (λ x. x.looks ≡ true) seen looks) (sym is ∙ same))

-- it leads on
pub comes_later : (first : Processor) (n : ℕ) (p q : Processor) (s t : Seen) → 0 < n → q ≡ processor_after p s → t ≡ after_step p s
    → is_only_looking q t ≡ true → ComesBack first (n - 1) q t → ComesBack first n p s
comes_later first n p q s t some is seen only rest =
    let more : n ≡ suc (n - 1) = omega arith in
    subst (λ k. ComesBack first k p s) (sym more)
    (Later (subst (λ x. is_only_looking x (after_step p s) ≡ true) is (subst (λ x. is_only_looking q x ≡ true) seen only))
    (subst (λ x. ComesBack first (n - 1) x (after_step p s)) is (subst (λ x. ComesBack first (n - 1) q x) seen rest)))

-- if it does not lead back, the steps after it do
pub came_later : (first : Processor) (n : ℕ) (p q : Processor) (s t : Seen) → q ≡ processor_after p s → t ≡ after_step p s
    → (t.looks ≡ true → q ≡ first → ⊥) → ComesBack first n p s → ComesBack first (n - 1) q t
came_later first n p q s t is seen not (Back only looks same) =
    absurd (not (subst (λ x. x.looks ≡ true) (sym seen) looks) (is ∙ same))
came_later first n p q s t is seen not (Later {n = m} only rest) =
    let one_less : m ≡ suc m - 1 = omega arith in
    subst (λ k. ComesBack first k q t) one_less
    (subst (λ x. ComesBack first m x t) (sym is) (subst (λ x. ComesBack first m (processor_after p s) x) (sym seen) rest))
