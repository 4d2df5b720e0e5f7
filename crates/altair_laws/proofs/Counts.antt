-- The count of a trace is the number of its steps, and at each port it has taken the keys that its inputs have.
use Rattle.std.proofs.Common.{◌≡◌, ℕ, ◌+◌, ◌≤◌, ◌<◌, Bool, true, false, cond, List, [], ◌∷◌, ◌++◌, length, Option, Some, ◌⊎◌, inl, inr, refl, sym, ap, ◌∙◌, subst, arith}
use Rattle.std.specs.Prelude.{slice_index, slice_set, nat_lt, ◌==◌, ◌&&◌}
use Rattle.std.proofs.lemmas.Bool.{ltb-true, and_parts, cases_lt}
use Rattle.std.proofs.lemmas.Bool.Decides.{eqb_tells}
use Rattle.std.proofs.lemmas.List.{length-set, get_or-set_same, get_or-set_other, get_or_past}
use Rattle.std.proofs.lemmas.Option.{cond_some}
use Rattle.guest_board.proofs.Boot.{two_zeros}
use Rattle.altair_laws.proofs.Words.{Do, GREATEST_NUMBER, Guest, Input, Move, Operation, Reaches, Rx, SectorAddress, Setup, Take, after_rx, altair, guest_at_boot, inputs, keys, steps, steps-append, take_from}
use Rattle.altair_laws.proofs.Moves.{Tells, from_boot, length-keys}
use Rattle.altair_laws.proofs.Steps.{Steps, steps_from, after_step}

pub record Counts (moves : List Move) (g : Guest) : Type 0 where
  pub count : g.count ≡ steps moves
  pub two : length g.keys ≡ 2
  pub taken : (port : ℕ) → port < 2 → slice_index g.keys port ≡ length (keys port (inputs 0 moves))
  pub none : (port : ℕ) → 2 ≤ port → length (keys port (inputs 0 moves)) ≡ 0

counts-boot : (setup : Setup) → Counts [] (guest_at_boot setup)
counts-boot setup = record { count = refl; two = refl; taken = λ port l. two_zeros port; none = λ port l. refl }

-- no key is taken
counts-still : (moves : List Move) (m : Move) (g u : Guest) → Counts moves g → u.count ≡ g.count + steps (m ∷ [])
    → u.keys ≡ g.keys
    → ((port : ℕ) → length (keys port (inputs 0 (m ∷ []))) ≡ 0) → Counts (moves ++ m ∷ []) u
counts-still moves m g u c n k z = record {
  count = (let s = steps-append moves (m ∷ []) in let e = c.count in (omega arith));
  two = ap length k ∙ c.two;
  taken = λ port l. (let s = length-keys port moves (m ∷ []) in let e = c.taken port l in
      let i = ap (λ xs. slice_index xs port) k in let y = z port in (omega arith));
  none = λ port l. (let s = length-keys port moves (m ∷ []) in let e = c.none port l in let y = z port in
      (omega arith));
}

counts-rx : (moves : List Move) (g : Guest) (port byte : ℕ) → Counts moves g → port < 2
    → Counts (moves ++ Take (Rx port byte) ∷ []) (after_rx g port byte)
counts-rx moves g port byte c l = record {
  count = (let s = steps-append moves (Take (Rx port byte) ∷ []) in let e = c.count in (omega arith));
  two = length-set g.keys port _ ∙ c.two;
  taken = λ p h. at p h (eqb_tells p port);
  none = λ p h. none_at p h (eqb_tells p port);
}
  where
    one : (p : ℕ) (b : Bool) → (p == port) ≡ b
        → length (keys p (inputs 0 (Take (Rx port byte) ∷ []))) ≡ length {A = ℕ} (cond b (byte ∷ []) [] ++ [])
    one p b e = ap (λ t. length {A = ℕ} (cond t (byte ∷ []) [] ++ [])) e

    at : (p : ℕ) → p < 2 → Tells p port
        → slice_index (slice_set g.keys port (slice_index g.keys port + 1)) p
        ≡ length (keys p (inputs 0 (moves ++ Take (Rx port byte) ∷ [])))
    at p h (inl e) =
        let a = ap (slice_index (slice_set g.keys port (slice_index g.keys port + 1))) e.1
        ∙ get_or-set_same g.keys port (slice_index g.keys port + 1) 0 (let t = c.two in omega arith) in
        let i = ap (slice_index g.keys) e.1 in
        let s = length-keys p moves (Take (Rx port byte) ∷ []) in let o = one p true e.0 in let t = c.taken p h in
        omega arith
    at p h (inr e) =
        let a = get_or-set_other g.keys port p (slice_index g.keys port + 1) 0 e.1 in
        let s = length-keys p moves (Take (Rx port byte) ∷ []) in let o = one p false e.0 in let t = c.taken p h in
        omega arith

    none_at : (p : ℕ) → 2 ≤ p → Tells p port
        → length (keys p (inputs 0 (moves ++ Take (Rx port byte) ∷ []))) ≡ 0
    none_at p h (inl e) = let z = e.1 in absurd (omega arith)
    none_at p h (inr e) =
        let s = length-keys p moves (Take (Rx port byte) ∷ []) in let o = one p false e.0 in let t = c.none p h in
        omega arith

counts-step : (moves : List Move) (g u : Guest) (gives : Option Operation) → Counts moves g → Steps g u gives
    → Counts (moves ++ Do gives ∷ []) u
counts-step moves g u gives c k =
    after_step Counts moves g u gives k (counts-still moves (Do k.behind.given) g _ c refl refl (λ port. refl))

counts-take : (moves : List Move) (g u : Guest) (i : Input) → Counts moves g → take_from g i ≡ Some u
    → Counts (moves ++ Take i ∷ []) u
counts-take moves g u (Rx port byte) c h =
    let t = cond_some (nat_lt port 2 && nat_lt (slice_index g.keys port) GREATEST_NUMBER) (after_rx g port byte) u h in
    subst (Counts (moves ++ Take (Rx port byte) ∷ [])) t.1
    (counts-rx moves g port byte c (ltb-true port 2 (and_parts (nat_lt port 2) _ t.0).0))
counts-take moves g u i c h = subst (Counts (moves ++ Take i ∷ [])) (cond_some _ _ u h).1
    (counts-still moves (Take i) g _ c (omega arith) refl (λ p. refl))

pub counts_after : (setup : Setup) (sectors : SectorAddress → List ℕ) (moves : List Move) (g : Guest)
    → Reaches (altair setup sectors) moves g → Counts moves g
counts_after setup sectors = from_boot (altair setup sectors) Counts (counts-boot setup) (record {
  steps = λ moves g u gives c h. counts-step moves g u gives c (steps_from g u gives h);
  takes = λ moves g u i c h. counts-take moves g u i c h;
})

pub keys_taken : (moves : List Move) (g : Guest) (port : ℕ) → Counts moves g
    → slice_index g.keys port ≡ length (keys port (inputs 0 moves))
keys_taken moves g port c = go (cases_lt port 2)
  where
    go : (port < 2) ⊎ (2 ≤ port) → slice_index g.keys port ≡ length (keys port (inputs 0 moves))
    go (inl l) = c.taken port l
    go (inr l) = get_or_past g.keys port 0 (let t = c.two in omega arith) ∙ sym (c.none port l)
