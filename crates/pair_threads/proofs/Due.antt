-- No sector is due: no drive is selected, or none of the sectors of its track may come.
use Rattle.std.proofs.Common.{◌≡◌, ℕ, ◌<◌, true, false, Option, Some, None, sym, subst, ◌∙◌}
use Rattle.pair_threads.proofs.Words.{Machine, NoSectorIsDue, same_some}

module _ {S : Type 0} (M : Machine S) (s : S) where
  pub none_selected : M.selected s ≡ None → NoSectorIsDue M s
  none_selected none drive sector is few = absurd (let e : ◌≡◌ {A = Option ℕ} None (Some drive) = sym none ∙ is in cc)

  module _ (drive : ℕ) (selected : M.selected s ≡ Some drive) where
    pub one_due : (sector : ℕ) → sector < 32 → M.ready s (M.address s drive sector) ≡ true → NoSectorIsDue M s → ⊥
    one_due sector few due none = absurd (let e : true ≡ false = sym due ∙ none drive sector selected few in cc)

    pub none_due : ((k : ℕ) → k < 32 → M.ready s (M.address s drive k) ≡ false) → NoSectorIsDue M s
    none_due none other sector is few =
        subst (λ d. M.ready s (M.address s d sector) ≡ false) (same_some drive other (M.selected s) selected is)
        (none sector few)
