-- The settled moves of a generation, when its moves get longer, or more of them are held.
use Rattle.std.proofs.Common.{◌++◌, ◌∙◌, ◌≡◌, ◌≤◌, ◌⊎◌, List, ap, inl, inr, refl, sym, ℕ}
use Rattle.pair_protocol.proofs.Words.{IsPrefix, Move, cut}
use Rattle.pair_protocol.proofs.Invariant.{BackupWon, PrimaryWon, Stage, Undecided, settled_moves}
use Rattle.pair_protocol.proofs.Traces.Cuts.{cut-more, cut-prefix}
use Rattle.pair_protocol.proofs.Traces.Lists.{prefix-append, prefix-refl, prefix-same, prefix-trans, prefix-under}

-- own gets longer: the settled moves stay, or are all that the primary did
pub settled-longer : (stage : Stage) (base own more xs : List Move) (n : ℕ) → cut n (own ++ xs) ≡ cut n own →
    (settled_moves stage base (own ++ xs) more n ≡ settled_moves stage base own more n)
    ⊎ ((stage ≡ PrimaryWon) × (settled_moves stage base (own ++ xs) more n ≡ base ++ (own ++ xs)))
settled-longer Undecided base own more xs n e = inl (ap (λ zs. base ++ zs) e)
settled-longer PrimaryWon base own more xs n e = inr (refl, refl)
settled-longer BackupWon base own more xs n e = inl (ap (λ zs. base ++ (zs ++ more)) e)

pub settled-grows : (stage : Stage) (base own more xs : List Move) (n : ℕ) → cut n (own ++ xs) ≡ cut n own →
    IsPrefix (settled_moves stage base own more n) (settled_moves stage base (own ++ xs) more n)
settled-grows Undecided base own more xs n e = prefix-same _ _ (ap (λ zs. base ++ zs) (sym e))
settled-grows PrimaryWon base own more xs n e = prefix-under base own (own ++ xs) (prefix-append own xs)
settled-grows BackupWon base own more xs n e = prefix-same _ _ (ap (λ zs. base ++ (zs ++ more)) (sym e))

pub settled-won : (stage : Stage) (base own more xs : List Move) (n : ℕ) → stage ≡ BackupWon →
    cut n (own ++ xs) ≡ cut n own → settled_moves stage base (own ++ xs) more n ≡ settled_moves stage base own more n
settled-won stage base own more xs n h e = ap (λ z. settled_moves z base (own ++ xs) more n) h
    ∙ ap (λ zs. base ++ (zs ++ more)) e ∙ ap (λ z. settled_moves z base own more n) (sym h)

pub settled-more : (stage : Stage) (base own more xs : List Move) (n : ℕ) →
    IsPrefix (settled_moves stage base own more n) (settled_moves stage base own (more ++ xs) n)
settled-more Undecided base own more xs n = prefix-refl (base ++ cut n own)
settled-more PrimaryWon base own more xs n = prefix-refl (base ++ own)
settled-more BackupWon base own more xs n =
    prefix-under base (cut n own ++ more) (cut n own ++ (more ++ xs))
    (prefix-under (cut n own) more (more ++ xs) (prefix-append more xs))

-- One more entry held.

pub settled-held : (stage : Stage) (base own more : List Move) (n m : ℕ) → n ≤ m → (stage ≡ BackupWon → ⊥) →
    IsPrefix (settled_moves stage base own more n) (settled_moves stage base own more m)
    × IsPrefix (settled_moves stage base own more m) (base ++ own)
settled-held Undecided base own more n m h k = (
  prefix-under base (cut n own) (cut m own) (cut-more n m own h),
  prefix-under base (cut m own) own
      (cut-prefix m own),
)
settled-held PrimaryWon base own more n m h k = (prefix-refl (base ++ own), prefix-refl (base ++ own))
settled-held BackupWon base own more n m h k = absurd (k refl)

pub settled-primary : (stage : Stage) (base own more : List Move) (n m : ℕ) → stage ≡ PrimaryWon →
    settled_moves stage base own more m ≡ settled_moves stage base own more n
settled-primary stage base own more n m h = ap (λ z. settled_moves z base own more m) h
    ∙ ap (λ z. settled_moves z base own more n) (sym h)

-- The settled moves begin with the front of each generation that was held.
pub covers-below : (stage : Stage) (base own more : List Move) (k n : ℕ) → k ≤ n →
    IsPrefix (base ++ cut k own) (settled_moves stage base own more n)
covers-below Undecided base own more k n h = prefix-under base (cut k own) (cut n own) (cut-more k n own h)
covers-below PrimaryWon base own more k n h = prefix-under base (cut k own) own (cut-prefix k own)
covers-below BackupWon base own more k n h =
    prefix-under base (cut k own) (cut n own ++ more)
    (prefix-trans (cut k own) (cut n own) (cut n own ++ more) (cut-more k n own h) (prefix-append (cut n own) more))
