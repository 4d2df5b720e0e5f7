-- The guest that a step leaves, and the one that an input leaves.
use Rattle.std.proofs.Common.{◌≡◌, ◌||◌, Bool, true, false, cond, Option, Some, None, refl, ap}
use Rattle.std.proofs.lemmas.Option.{none-some, same_Some}
use Rattle.event_callbacks.specs.declared.operations.Operation.{Operation}
use Rattle.guest_parts.specs.Guest.{Guest}
use Rattle.guest_board.specs.Guest.{is_idle, is_spent, next, step_from, wired_after}

pub record IsNext (g u : Guest) : Type 0 where
  pub after : next g ≡ u
  pub unspent : is_spent g ≡ false

neither : {A : Type 0} (a b : Bool) (x y : A) → cond (a || b) None (Some x) ≡ Some y → (a ≡ false) × (x ≡ y)
neither true b x y e = absurd (none-some y e)
neither false true x y e = absurd (none-some y e)
neither false false x y e = (refl, same_Some x y e)

pub is_next : (g u : Guest) (gives : Option Operation) → step_from g ≡ Some (u, gives) → IsNext g u
is_next g u gives e =
    let k = neither (is_spent g) (is_idle g) (next g, (wired_after g).given) (u, gives) e in
    record { after = ap (λ (x : Guest × Option Operation). x.0) k.1; unspent = k.0 }
