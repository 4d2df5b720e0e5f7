-- Each sector that came under the head in a run carried what the machine's own disk had there, if each is an answer of a
-- disk that answers a read by the bytes at boot or by a write of the run. And each write that is done was answered.
use Rattle.std.proofs.Common.{◌≡◌, ℕ, suc, ◌≤◌, ◌⊎◌, inl, inr, List, [], ◌∷◌, ◌++◌, map, Option, None, refl, sym, ap, subst, ◌∙◌, arith, append_assoc}
use Rattle.pair_threads.proofs.Words.{Among, AreAnswers, DiskAnswer, Do, Input, IsAnswer, IsPrefix, IsUnwritten, IsWritten, Lawful, Machine, Move, Operation, Own, Owns, Recorded, Runs, SectorAddress, SectorRead, SectorWrite, Take, Write, address_of, among-prefix, bare, image, inputs, operations, operations-prefix, read_address, refusal_of, runs-append, same_some}
use Rattle.guest_lockstep.specs.declared.input.Input.TheVariants as input
use Rattle.guest_lockstep.specs.declared.timed.Bare.TheVariants.{Written}
use Rattle.guest_lockstep.specs.declared.timed.Timed.{Timed}
use Rattle.pair_protocol.proofs.Keeps.PrimaryMoves.{sector-passed}
use Rattle.pair_rule.specs.declared.payload.DiskAnswer.TheVariants as answer

-- a read found the bytes at boot under number 0, or those of a write that these moves gave
pub record IsReadOf {S : Type 0} (M : Machine S) (moves : List Move) (r : SectorRead) : Type 0 where
  pub first : r.number ≡ 0 → r.bytes ≡ M.boot_sector (read_address r)
  pub written : (r.number ≡ 0) ⊎ ((w : SectorWrite) × Among (Write w) (operations moves) × (address_of w ≡ read_address r)
      × (w.number ≡ r.number) × (w.bytes ≡ r.bytes))

not_zero : {X : Type 0} (n m k : ℕ) → 1 ≤ n → n ≡ m → m ≡ k → k ≡ 0 → X
not_zero n m k some a b none = absurd (omega (arith, some, a, b, none))

module _ {S : Type 0} (M : Machine S) (laws : Lawful M) (answers : List DiskAnswer) (all : List Move) (last : S)
    (whole : Runs M M.boot all last) (reads : (r : SectorRead) → Among (answer.Read r) answers → IsReadOf M all r) where
  module _ (before : List Move) (u : S) (runs : Runs M M.boot before u) (below : IsPrefix before all) where
    same_bytes : (q : SectorAddress) (n : ℕ) (bytes : List ℕ) (r : SectorRead) → IsReadOf M all r → M.done u q ≡ n
        → read_address r ≡ q → r.number ≡ n → r.bytes ≡ bytes → IsUnwritten M before u q ⊎ IsWritten M before u q
        → image M before q ≡ bytes
    same_bytes q n bytes r found done there number is (inl o) =
        o.bytes ∙ ap M.boot_sector (sym there) ∙ sym (found.first (number ∙ sym done ∙ o.none)) ∙ is
    same_bytes q n bytes r found done there number is (inr o) = go found.written
      where
        go : (r.number ≡ 0) ⊎ ((w : SectorWrite) × Among (Write w) (operations all) × (address_of w ≡ read_address r)
            × (w.number ≡ r.number) × (w.bytes ≡ r.bytes)) → image M before q ≡ bytes
        go (inl none) =
            not_zero o.write.number (M.done u q) r.number (laws.write_some before u o.write runs o.issued) o.last
            (done ∙ sym number) none
        go (inr w) =
            let same : o.write ≡ w.0 =
            laws.write_once all last o.write w.0 whole
            (among-prefix (Write o.write) (operations before) (operations all) (operations-prefix before all below) o.issued)
            w.1 (o.last ∙ done ∙ sym number ∙ sym w.3) in
            sym o.bytes ∙ ap (λ (x : SectorWrite). x.bytes) same ∙ w.4 ∙ is

    own : (i : Input) → refusal_of M u i ≡ None → IsAnswer M answers u i → Own M before u i
    own (input.Rx port byte) allowed it = tt
    own (input.Sent port) allowed it = tt
    own (input.Written number) allowed it = tt
    own (input.Sector drive sector number bytes) allowed (r, at, there, same, alike) =
        let done = (sector-passed M u (M.address u drive sector) number allowed).1 in (
          done,
          same_bytes (M.address u drive sector) number bytes r (reads r at) done there same alike
              (laws.own_disk before u (M.address u drive sector) runs),
        )

  -- so each input along the run did
  pub owns : (before : List Move) (u : S) (xs : List Move) → Runs M M.boot before u → before ++ xs ≡ all
      → Recorded M u xs last → AreAnswers M answers u xs → Owns M before u xs
  owns before u [] runs is made said = tt
  owns before u (Do o ∷ xs) runs is made said = λ v e.
      let same : made.0 ≡ v = ap (λ (p : S × Option Operation). p.0) (same_some (made.0, o) (v, o) (M.step u) made.1 e) in
      owns (before ++ Do o ∷ []) v xs (runs-append M M.boot u v before (Do o ∷ []) runs (v, e, refl))
      (append_assoc before (Do o ∷ []) xs ∙ is) (subst (λ z. Recorded M z xs last) same made.2) (said v e)
  owns before u (Take i ∷ xs) runs is made said = (
    own before u runs (Take i ∷ xs, is) i made.1.allowed said.0,
    λ v e.
        let same : made.0 ≡ v = same_some made.0 v (M.take u i) made.1.taken e in
        owns (before ++ Take i ∷ []) v xs (runs-append M M.boot u v before (Take i ∷ []) runs (v, e, refl))
        (append_assoc before (Take i ∷ []) xs ∙ is) (subst (λ z. Recorded M z xs last) same made.2) (said.1 v e),
  )

-- ---- writes that are done

module _ {S : Type 0} (M : Machine S) (answers : List DiskAnswer) where
  said_done : (s : S) (n : ℕ) (i : Input) → IsAnswer M answers s i → Written n ≡ bare i → Among (answer.Written n) answers
  said_done s n (input.Rx port byte) it e = absurd cc
  said_done s n (input.Sent port) it e = absurd cc
  said_done s n (input.Sector drive sector number bytes) it e = absurd cc
  said_done s n (input.Written number) it e =
      let same : n ≡ number = cc in subst (λ k. Among (answer.Written k) answers) (sym same) it

  pub answered : (s t : S) (c : ℕ) (xs : List Move) (n : ℕ) → Runs M s xs t → AreAnswers M answers s xs
      → Among (Written n) (map (λ (x : Timed). x.input) (inputs c xs)) → Among (answer.Written n) answers
  answered s t c [] n runs said at = absurd at
  answered s t c (Do o ∷ xs) n runs said at = answered runs.0 t (suc c) xs n runs.2 (said runs.0 runs.1) at
  answered s t c (Take i ∷ xs) n runs said (inl e) = said_done s n i said.0 e
  answered s t c (Take i ∷ xs) n runs said (inr at) = answered runs.0 t c xs n runs.2 (said.1 runs.0 runs.1) at

  answers_front : (s : S) (xs ys : List Move) → AreAnswers M answers s (xs ++ ys) → AreAnswers M answers s xs
  answers_front s [] ys said = tt
  answers_front s (Do o ∷ xs) ys said = λ u e. answers_front u xs ys (said u e)
  answers_front s (Take i ∷ xs) ys said = (said.0, λ u e. answers_front u xs ys (said.1 u e))

  pub answers_prefix : (s : S) (xs ys : List Move) → IsPrefix xs ys → AreAnswers M answers s ys → AreAnswers M answers s xs
  answers_prefix s xs ys p said = answers_front s xs p.0 (subst (AreAnswers M answers s) (sym p.1) said)
