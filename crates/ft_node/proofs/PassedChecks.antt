-- What a check says of a call: if it passed, the call does what it does if nothing refuses it; if not, it is refused.
use Rattle.std.proofs.Common.{◌≡◌, ◌∙◌, Option, Some, None, Result, Ok, Err, sym, refl, subst, ap}
use Rattle.std.specs.Result.{IsErrAnd}
use Rattle.ft_node.proofs.Words.{Call, Fault, Node, answered}

-- an option without a value
pub none_there : {A : Type 0} (o : Option A) → ((value : A) → o ≡ Some value → ⊥) → o ≡ None
none_there None other = refl
none_there (Some value) other = absurd (other value refl)

pub not_refused : (o : Option Fault) (done : Unit {0}) → Ok done ≡ answered o → o ≡ None
not_refused None done answer = refl
not_refused (Some fault) done answer = absurd (cc)

module _ {A S : Type 0} (o : Option Fault) (needs : Node S → Type 0) (does : A → Node S → Node S → Type 0) (x : Node S)
    (result : Result A Fault) (Is : Node S → Type 0) where
  pub passed : (done : Unit {0}) → Ok done ≡ answered o → Call None needs does x result Is → Call o needs does x result Is
  passed done answer call = subst (λ o. Call o needs does x result Is) (sym (not_refused o done answer)) call

  pub refused : (fault : Fault) → IsErrAnd result (λ k. k ≡ fault)
      → ◌≡◌ {A = Result (Unit {0}) Fault} (Err fault) (answered o) → Is x → Call o needs does x result Is
  refused fault is answer stays = by o result is answer
    where
      by : (o : Option Fault) (result : Result A Fault) → IsErrAnd result (λ k. k ≡ fault)
          → ◌≡◌ {A = Result (Unit {0}) Fault} (Err fault) (answered o) → Call o needs does x result Is
      by o (Ok value) is answer = absurd is
      by None (Err k) is answer = (cc)
      by (Some first) (Err k) is answer = let same : fault ≡ first = (cc) in (ap Err (is ∙ same), stays)
