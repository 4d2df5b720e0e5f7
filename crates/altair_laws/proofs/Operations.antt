-- The outstanding operations of a trace. Each is found under its own name, and was given by a step: the step that gives
-- an operation puts it under its name, and one that is completed takes no other with it.
use Rattle.std.proofs.Common.{◌≡◌, ◌≢◌, ◌⊎◌, Option, Some, None, List, [], ◌∷◌, ◌++◌, sym, ap, subst, ◌∙◌, inl, inr}
use Rattle.std.specs.FinMap as map
use Rattle.std.proofs.lemmas.Option.{none-some, same_Some}
use Rattle.altair_laws.proofs.Words.{Among, Do, Input, Move, OpId, Operation, Operations, Take, id_of, operation_at, operation_at-empty, operation_at-with_named, operation_at-with_other, operation_at-without_named, operation_at-without_other, operations, with_given, with_operation, without_operation}
use Rattle.event_callbacks.proofs.Names.{name_cases}
use Rattle.altair_laws.proofs.Moves.{operations-left, operations-last}

-- ---- the map after one comes or goes

-- the operation is the one that came, or was there before
pub with-cases : (m : Operations) (op x : Operation) (name : OpId) → operation_at (with_operation m op) name ≡ Some x
    → ((id_of op ≡ name) × (op ≡ x)) ⊎ (operation_at m name ≡ Some x)
with-cases m op x name h = go (name_cases name (id_of op))
  where
    go : (name ≡ id_of op) ⊎ (name ≢ id_of op) → ((id_of op ≡ name) × (op ≡ x)) ⊎ (operation_at m name ≡ Some x)
    go (inl e) = inl (sym e, same_Some op x (sym (operation_at-with_named m op name e) ∙ h))
    go (inr n) = inr (sym (operation_at-with_other m op name n) ∙ h)

-- the operation was there before, and is not the one that went
pub without-cases : (m : Operations) (gone name : OpId) (x : Operation)
    → operation_at (without_operation m gone) name ≡ Some x
    → (operation_at m name ≡ Some x) × (name ≢ gone)
without-cases m gone name x h = go (name_cases name gone)
  where
    go : (name ≡ gone) ⊎ (name ≢ gone) → (operation_at m name ≡ Some x) × (name ≢ gone)
    go (inl e) = absurd (none-some x (sym (operation_at-without_named m gone name e) ∙ h))
    go (inr n) = (sym (operation_at-without_other m gone name n) ∙ h, n)

-- ---- the outstanding operations

pub record AreGiven (moves : List Move) (m : Operations) : Type 0 where
  pub named : (name : OpId) (x : Operation) → operation_at m name ≡ Some x → id_of x ≡ name
  pub given : (name : OpId) (x : Operation) → operation_at m name ≡ Some x → Among x (operations moves)

pub given-boot : AreGiven [] map.empty
given-boot = record {
  named = λ name x h. absurd (none-some x (sym (operation_at-empty name) ∙ h));
  given = λ name x h. absurd (none-some x (sym (operation_at-empty name) ∙ h));
}

pub given-step : (moves : List Move) (m : Operations) (gives : Option Operation) → AreGiven moves m
    → AreGiven (moves ++ Do gives ∷ []) (with_given m gives)
given-step moves m None g = record {
  named = g.named;
  given = λ name x h. operations-left x moves (Do None ∷ []) (g.given name x h);
}
given-step moves m (Some op) g = record {
  named = λ name x h. named_at name x (with-cases m op x name h);
  given = λ name x h. given_at name x (with-cases m op x name h);
}
  where
    named_at : (name : OpId) (x : Operation) → ((id_of op ≡ name) × (op ≡ x)) ⊎ (operation_at m name ≡ Some x)
        → id_of x ≡ name
    named_at name x (inl e) = ap id_of (sym e.1) ∙ e.0
    named_at name x (inr h) = g.named name x h

    given_at : (name : OpId) (x : Operation) → ((id_of op ≡ name) × (op ≡ x)) ⊎ (operation_at m name ≡ Some x)
        → Among x (operations (moves ++ Do (Some op) ∷ []))
    given_at name x (inl e) =
        subst (λ z. Among z (operations (moves ++ Do (Some op) ∷ []))) e.1 (operations-last op moves)
    given_at name x (inr h) = operations-left x moves (Do (Some op) ∷ []) (g.given name x h)

pub given-take : (moves : List Move) (i : Input) (m : Operations) → AreGiven moves m → AreGiven (moves ++ Take i ∷ []) m
given-take moves i m g = record {
  named = g.named;
  given = λ name x h. operations-left x moves (Take i ∷ []) (g.given name x h);
}

pub given-gone : (moves : List Move) (i : Input) (m : Operations) (gone : OpId) → AreGiven moves m
    → AreGiven (moves ++ Take i ∷ []) (without_operation m gone)
given-gone moves i m gone g = record {
  named = λ name x h. g.named name x (without-cases m gone name x h).0;
  given = λ name x h. operations-left x moves (Take i ∷ []) (g.given name x (without-cases m gone name x h).0);
}
