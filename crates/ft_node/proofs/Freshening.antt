-- An alone node whose machine's pages are copied early is the node of the protocol that it was.
use Rattle.std.proofs.Common.{◌≡◌, ℕ, None, [], ◌∷◌, Result, Ok, Err, refl, sym, subst, ◌∙◌}
use Rattle.std.specs.Prelude.{IsOkUnless}
use Rattle.ft_node.proofs.Words.{Alone, Call, Ever, Fault, Freshens, IsAlone, Node, OutOfMemory, Reads, role_refusal}

pub still_alone : {S : Type 0} (reads : Reads) (s t : S) (generation : ℕ) (x : Node S) → t ≡ s → IsAlone reads s generation x
    → IsAlone reads t generation x
still_alone reads s t generation x same a = record {
  role = a.role;
  up = a.up;
  generation_is = a.generation_is;
  reads_are = a.reads_are;
  machine = a.machine ∙ sym same;
}

-- it is refused only as out of memory
pub freshens : {S : Type 0} (reads : Reads) (s t : S) (generation : ℕ) (x : Node S) (r : Result ℕ Fault) → t ≡ s
    → IsOkUnless r OutOfMemory → IsAlone reads s generation x → Freshens x r (IsAlone reads t generation)
freshens {S} reads s t generation x r same full a =
    let role : role_refusal (Alone ∷ []) x ≡ None = rw (a.role, a.up) refl in
    subst (λ o. Call {A = ℕ} o Ever (λ left x y. y ≡ x) x r (IsAlone reads t generation)) (sym role) (go r full)
  where
    go : (r : Result ℕ Fault) → IsOkUnless r OutOfMemory
        → Call {A = ℕ} None Ever (λ left x y. y ≡ x) x r (IsAlone reads t generation)
    go (Ok left) full = record { y = x; done = refl; after = still_alone reads s t generation x same a }
    go (Err fault) full = (full, (tt, still_alone reads s t generation x same a))
