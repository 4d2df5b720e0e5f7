-- All slots are full: the first, whose payload is never empty, and each of the others.
use Rattle.std.proofs.Common.{◌≡◌, cond, List, [], ◌∷◌, length, Option, Some, None, is_some, refl, sym, ap, ◌∙◌}
use Rattle.std.specs.Prelude.{ℕ, ◌==◌, ◌&&◌, not}
use Rattle.std.specs.List.{list_all}
use Rattle.std.proofs.Math.Dec.{eqb-suc-zero}
use Rattle.log_entry.specs.Numbers.{◌>>=◌}
use Rattle.clone_state.proofs.Words.{Slots, gathered, slots_of}

next_is : (payload : List ℕ) (o : Option (List (List ℕ)))
    → is_some (o >>= λ rest. Some (payload ∷ rest)) ≡ is_some o
next_is payload None = refl
next_is payload (Some rest) = refl

all_gathered : (slots : Slots) → is_some (gathered slots) ≡ list_all is_some slots
all_gathered [] = refl
all_gathered (None ∷ slots) = refl
all_gathered (Some payload ∷ slots) = next_is payload (gathered slots) ∙ all_gathered slots

pub full_is : (first : List ℕ) (later : Slots)
    → (not (length first == 0) && list_all is_some later) ≡ is_some (gathered (slots_of first later))
full_is [] later = refl
full_is (x ∷ xs) later =
    let some = eqb-suc-zero (length xs) in
    ap (λ b. not b && list_all is_some later) some
    ∙ sym (ap (λ b. is_some (gathered (cond b None (Some (x ∷ xs)) ∷ later))) some ∙ all_gathered (Some (x ∷ xs) ∷ later))
