-- A primary is the same if its parts are: what else its fields hold is proofs, of which there is one.
use Rattle.std.proofs.Common.{◌≡◌, ◌≤◌, Result, Ok, Err}
use Rattle.std.specs.Prelude.{OnErr}
use Rattle.std.proofs.Math.Bridge.{le_prop}
use Rattle.std.proofs.Math.Nat.{ℕ_set}
use Rattle.ft_node.proofs.Words.{Fault, next_of}
use Rattle.ft_node.specs.declared.primary.Primary.{Primary}
use mathlib.Core.HLevel.{is_prop→PathP}

pub alike : {B : Type 0} {p q : Primary B} → q.recorder ≡ p.recorder → q.sender ≡ p.sender
    → q.coverage ≡ p.coverage → q.image ≡ p.image → q ≡ p
alike {B} {p} {q} recorder sender coverage image = λ i. record {
  recorder = recorder i;
  sender = sender i;
  coverage = coverage i;
  image = image i;
  first = is_prop→PathP (λ i. (recorder i).log.first ≡ (sender i).held) (λ i. ℕ_set _ _) q.first p.first i;
  acknowledged =
      is_prop→PathP (λ i. (coverage i).acknowledged ≡ (sender i).held) (λ i. ℕ_set _ _) q.acknowledged p.acknowledged
      i;
  within = is_prop→PathP (λ i. (sender i).held ≤ next_of (recorder i).log) (λ i. le_prop) q.within p.within i;
}

-- what holds whatever a call returned
pub whatever : {A : Type 0} (r : Result A Fault) {P : Type 0} → P → OnErr r P
whatever (Ok value) holds = tt
whatever (Err fault) holds = holds
