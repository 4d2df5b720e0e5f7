-- Each byte that the primary's list says is accepted is acknowledged: the primary saw it counted, so it arrived, so it was
-- released, and whatever was released has its mark among the entries seen.
use Rattle.std.proofs.Common.{◌≡◌, ℕ, zero, suc, ◌+◌, ◌<◌, ◌≤◌, ◌==◌, cond, Bool, true, false, List, [], ◌∷◌, refl, subst, arith, inl, inr}
use Rattle.std.proofs.lemmas.Bool.Decides.{leb_tells}
use Rattle.pair_rule.proofs.Words.{AllAre, Arrived, Byte, ByteIsAcknowledged, IsAcknowledged, Knowledge, Machine, PrimaryIsTold, Shows, Stands, World, acceptances, accepted_after, inputs_of}

-- each number past the first n, up to those accepted, is that of a byte that arrived
arrived_at : (n : ℕ) (arrivals : List Arrived) (number : ℕ) (holds : Arrived → Type 0) → AllAre arrivals holds →
    n < number → number ≤ accepted_after n arrivals → (a : Arrived) × holds a × (a.number ≡ number)
arrived_at n [] number holds all lt le = absurd (omega arith)
arrived_at n (a ∷ arrivals) number holds all lt le =
    go (a.number == n + 1) refl le (λ more fits. arrived_at (n + 1) arrivals number holds all.1 more fits)
    (λ fits. arrived_at n arrivals number holds all.1 lt fits)
  where
    Found : Type 0
    Found = (a : Arrived) × holds a × (a.number ≡ number)

    go : (b : Bool) → (a.number == n + 1) ≡ b
        → number ≤ cond b (accepted_after (n + 1) arrivals) (accepted_after n arrivals)
        → (n + 1 < number → number ≤ accepted_after (n + 1) arrivals → Found)
        → (number ≤ accepted_after n arrivals → Found) → Found
    go true e fits after others =
        let next : a.number ≡ n + 1 = grind (arith, e) in
        elim (leb_tells number (n + 1)) [
          | inl p ↦ (a, all.0, (let up = p.1 in omega (arith, next, up, lt)))
          | inr p ↦ after p.1 fits
        ]
    go false e fits after others = others fits

pub accepted_marked : {S : Type 0} (M : Machine S) (typed0 typed1 : List ℕ) (k : Knowledge) (w : World S) → Stands k →
    PrimaryIsTold typed0 typed1 k.primary → (z : Shows M typed0 typed1 k w) → (port number : ℕ) → port < 2 → 0 < number →
    number ≤ acceptances port (inputs_of k.primary.list) → ByteIsAcknowledged z.moves k.primary.seen port number
accepted_marked M typed0 typed1 k w st told z zero number two some le =
    let few = told.port0.accepted in
    let counted = st.port0.accepted in
    let there = arrived_at 0 k.terminal.arrivals0 number _ st.port0.arrived some (omega (arith, le, few, counted)) in
    record {
      byte = there.0.byte;
      marked = subst (λ n. IsAcknowledged z.moves k.primary.seen (Byte 0 n there.0.byte)) there.2
          (z.covered (Byte 0 there.0.number there.0.byte) there.1);
    }
accepted_marked M typed0 typed1 k w st told z (suc zero) number two some le =
    let few = told.port1.accepted in
    let counted = st.port1.accepted in
    let there = arrived_at 0 k.terminal.arrivals1 number _ st.port1.arrived some (omega (arith, le, few, counted)) in
    record {
      byte = there.0.byte;
      marked = subst (λ n. IsAcknowledged z.moves k.primary.seen (Byte 1 n there.0.byte)) there.2
          (z.covered (Byte 1 there.0.number there.0.byte) there.1);
    }
accepted_marked M typed0 typed1 k w st told z (suc (suc port)) number two some le = absurd (omega arith)
