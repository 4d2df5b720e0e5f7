-- One more of what a world has. One more arrival is accepted exactly if its number is the next one, and one more write
-- replaces the record of its sector if its number is greater.
use Rattle.std.proofs.Common.{[], ◌++◌, ◌+◌, ◌<◌, ◌∙◌, ◌∷◌, ◌≡◌, Bool, List, ap, arith, cond, false, inl, inr, length, length-append, ltb-true, refl, suc, true, zero, ℕ}
use Rattle.std.specs.Prelude.{◌==◌, nat_lt, slice_set}
use Rattle.std.proofs.lemmas.Bool.{lt-ltb}
use Rattle.pair_protocol.proofs.Words.{Arrival, Machine, SectorAddress, SectorRecord, SectorWrite, Terminal, accepted_after, latest, record_after, sector_record, terminal_in}
use Rattle.pair_protocol.proofs.Traces.Lists.{bool_cases}

-- An arrival.

-- the byte that it brings, if its number is the next after this many
abbrev pub next_byte : ℕ → Arrival → List ℕ
next_byte n a = cond (a.number == n + 1) (a.byte ∷ []) []

pub accepted_after-one : (n : ℕ) (xs : List Arrival) (a : Arrival) →
    accepted_after n (xs ++ a ∷ []) ≡ accepted_after n xs ++ next_byte (n + length (accepted_after n xs)) a
accepted_after-one n [] a = ap (λ k. next_byte k a) (let e : n ≡ n + 0 = omega arith in e)
accepted_after-one n (b ∷ xs) a = go (b.number == n + 1) (accepted_after-one (n + 1) xs a) (accepted_after-one n xs a)
  where
    go : (t : Bool) →
        accepted_after (n + 1) (xs ++ a ∷ [])
        ≡ accepted_after (n + 1) xs ++ next_byte (n + 1 + length (accepted_after (n + 1) xs)) a →
        accepted_after n (xs ++ a ∷ []) ≡ accepted_after n xs ++ next_byte (n + length (accepted_after n xs)) a →
        cond t (b.byte ∷ accepted_after (n + 1) (xs ++ a ∷ [])) (accepted_after n (xs ++ a ∷ []))
        ≡ cond t (b.byte ∷ accepted_after (n + 1) xs) (accepted_after n xs)
        ++ next_byte (n + length (cond t (b.byte ∷ accepted_after (n + 1) xs) (accepted_after n xs))) a
    go true h k =
        let l = length (accepted_after (n + 1) xs) in
        let e : n + 1 + l ≡ n + suc l = omega arith in
        ap (λ zs. b.byte ∷ zs) (h ∙ ap (λ j. accepted_after (n + 1) xs ++ next_byte j a) e)
    go false h k = k

pub accepted-one : (xs : List Arrival) (a : Arrival) →
    accepted_after 0 (xs ++ a ∷ []) ≡ accepted_after 0 xs ++ next_byte (length (accepted_after 0 xs)) a
accepted-one xs a = accepted_after-one 0 xs a
    ∙ ap (λ j. accepted_after 0 xs ++ next_byte j a) (let e : 0 + length (accepted_after 0 xs) ≡
    length (accepted_after 0 xs) = omega arith in e)

-- a terminal that changes, and the others
pub terminal-set : (ts : List Terminal) (p : ℕ) (t : Terminal) → p < length ts → terminal_in (slice_set ts p t) p ≡ t
terminal-set [] p t h = absurd (omega arith)
terminal-set (x ∷ ts) zero t h = refl
terminal-set (x ∷ ts) (suc p) t h = let k : p < length ts = omega arith in terminal-set ts p t k

pub terminal-other : (ts : List Terminal) (p q : ℕ) (t : Terminal) → (q ≡ p → ⊥) →
    terminal_in (slice_set ts p t) q ≡ terminal_in ts q
terminal-other [] p q t h = refl
terminal-other (x ∷ ts) zero zero t h = absurd (h refl)
terminal-other (x ∷ ts) zero (suc q) t h = refl
terminal-other (x ∷ ts) (suc p) zero t h = refl
terminal-other (x ∷ ts) (suc p) (suc q) t h = terminal-other ts p q t (λ e. h (ap suc e))

-- a terminal has accepted more exactly if the number was the next one
pub arrival-counts : (xs : List Arrival) (a : Arrival) →
    nat_lt (length (accepted_after 0 xs)) (length (accepted_after 0 (xs ++ a ∷ [])))
    ≡ (a.number == length (accepted_after 0 xs) + 1)
arrival-counts xs a =
    ap (λ zs. nat_lt (length (accepted_after 0 xs)) (length zs)) (accepted-one xs a)
    ∙ go (a.number == length (accepted_after 0 xs) + 1)
  where
    not_less : (m n : ℕ) → m ≡ n → nat_lt m n ≡ false
    not_less m n h = elim (bool_cases (nat_lt m n)) [
      | inl t ↦ absurd (let k = ltb-true m n t in omega arith)
      | inr f ↦ f
    ]

    go : (t : Bool) →
        nat_lt (length (accepted_after 0 xs)) (length (accepted_after 0 xs ++ cond t (a.byte ∷ []) [])) ≡ t
    go true = let e = length-append (accepted_after 0 xs) (a.byte ∷ []) in lt-ltb _ _ (omega arith)
    go false = let e = length-append (accepted_after 0 xs) [] in not_less _ _ (omega arith)

-- A write.

pub latest-one : (r : SectorRecord) (ws : List SectorWrite) (v : SectorWrite) (q : SectorAddress) →
    latest r (ws ++ v ∷ []) q ≡ record_after (latest r ws q) v q
latest-one r [] v q = refl
latest-one r (u ∷ ws) v q = latest-one (record_after r u q) ws v q

pub sector_record-one : {S : Type 0} (M : Machine S) (ws : List SectorWrite) (v : SectorWrite) (q : SectorAddress) →
    sector_record M (ws ++ v ∷ []) q ≡ record_after (sector_record M ws q) v q
sector_record-one M ws v q = latest-one (record { number = 0; bytes = M.boot_sector q }) ws v q
