-- A worker's guest after a key or an acceptance of a port, of which one more is said to be taken, and after an answer.
use Rattle.std.proofs.Common.{◌≡◌, ◌≢◌, ℕ, zero, suc, ◌+◌, ◌<◌, ◌==◌, if◌then◌else◌, Bool, true, false, List, [], ◌∷◌, ◌++◌, take, Some, refl, sym, ap, subst, ◌∙◌, arith}
use Rattle.std.specs.Prelude.{slice_get}
use Rattle.pair_threads.proofs.Words.{DiskAnswer, HeardOn, IsLeading, Machine, PortInputs, PrimaryView, PrimaryWorker, Recording, TakesOn, WorkerLeads, by_port, keys_by, keys_taken, told_by}
use Rattle.guest_lockstep.specs.declared.input.Input.TheVariants.{Rx, Sent}
use Rattle.pair_threads.proofs.Telling.{key_at_first, key_at_second, no_key, no_acceptance, one_at_first, one_at_second}
use Rattle.pair_threads.proofs.Views.{is_among}

one_more : (bytes : List ℕ) (n byte : ℕ) → slice_get bytes n ≡ Some byte → take (n + 1) bytes ≡ take n bytes ++ byte ∷ []
one_more [] n byte at = absurd cc
one_more (b ∷ bytes) zero byte at = let e : b ≡ byte = cc in ap (λ x. x ∷ []) e
one_more (b ∷ bytes) (suc n) byte at =
    let e : suc n + 1 ≡ suc (n + 1) = omega arith in
    ap (λ k. take k (b ∷ bytes)) e ∙ ap (λ l. b ∷ l) (one_more bytes n byte at)

-- ---- the guest of a worker, after a key or an acceptance

module _ {B S : Type 0} (state : B → S) (M : Machine S) (old : PrimaryWorker B) (guest : Recording B) (boot : S)
    (leads : WorkerLeads state M boot old) where
  abbrev view : PrimaryView
  view = old.seat.core.known.primary

  -- what its guest took, by port
  abbrev keys_of : List ℕ → List ℕ → ℕ → List ℕ
  keys_of first second = by_port first second []

  abbrev told_of : ℕ → ℕ → ℕ → ℕ
  told_of first second = by_port first second 0

  -- its guest leads on, with this said of the ports
  abbrev Leading : (ℕ → List ℕ) → (ℕ → ℕ) → Type 0
  Leading taken accepted = IsLeading state M boot view taken accepted guest

  next : (p q : PortInputs) (byte : ℕ) → p ≡ q → Some byte ≡ slice_get p.typed.items p.taken
      → take (q.taken + 1) q.typed.items ≡ keys_taken q ++ byte ∷ []
  next p q byte is at = one_more q.typed.items q.taken byte
      (subst (λ (x : PortInputs). slice_get x.typed.items x.taken ≡ Some byte) is (sym at))

  pub key_of : (port byte : ℕ) (p : PortInputs) → port < 2 → p ≡ (if port == 0 then old.port0 else old.port1)
      → Some byte ≡ slice_get p.typed.items p.taken → TakesOn state M (Rx port byte) old.guest guest
      → (port ≡ 0 → Leading (keys_of (take (old.port0.taken + 1) old.port0.typed.items) (keys_taken old.port1)) (told_by old))
      × (port ≢ 0 → Leading (keys_of (keys_taken old.port0) (take (old.port1.taken + 1) old.port1.typed.items)) (told_by old))
  key_of zero byte p few is at takes = (
    λ here. takes boot view (keys_by old)
        (keys_of (take (old.port0.taken + 1) old.port0.typed.items) (keys_taken old.port1)) (told_by old) (told_by old) tt
        (λ port. ap (λ l. keys_of l (keys_taken old.port1) port) (next p old.port0 byte is at)
        ∙ key_at_first (keys_taken old.port0) (keys_taken old.port1) byte port)
        (no_acceptance old.port0.accepted old.port1.accepted 0 byte) leads,
    λ other. absurd (other refl),
  )
  key_of (suc zero) byte p few is at takes = (
    λ here. absurd cc,
    λ other. takes boot view (keys_by old)
        (keys_of (keys_taken old.port0) (take (old.port1.taken + 1) old.port1.typed.items)) (told_by old) (told_by old) tt
        (λ port. ap (λ l. keys_of (keys_taken old.port0) l port) (next p old.port1 byte is at)
        ∙ key_at_second (keys_taken old.port0) (keys_taken old.port1) byte port)
        (no_acceptance old.port0.accepted old.port1.accepted 1 byte) leads,
  )
  key_of (suc (suc n)) byte p few is at takes = absurd (omega (arith, few))

  pub acceptance_of : (port : ℕ) → port < 2 → TakesOn state M (Sent port) old.guest guest
      → (port ≡ 0 → Leading (keys_by old) (told_of (old.port0.accepted + 1) old.port1.accepted))
      × (port ≢ 0 → Leading (keys_by old) (told_of old.port0.accepted (old.port1.accepted + 1)))
  acceptance_of zero few takes = (
    λ here. takes boot view (keys_by old) (keys_by old) (told_by old) (told_of (old.port0.accepted + 1) old.port1.accepted) tt
        (no_key (keys_taken old.port0) (keys_taken old.port1) 0 0) (one_at_first old.port0.accepted old.port1.accepted) leads,
    λ other. absurd (other refl),
  )
  acceptance_of (suc zero) few takes = (
    λ here. absurd cc,
    λ other. takes boot view (keys_by old) (keys_by old) (told_by old) (told_of old.port0.accepted (old.port1.accepted + 1)) tt
        (no_key (keys_taken old.port0) (keys_taken old.port1) 0 1) (one_at_second old.port0.accepted old.port1.accepted) leads,
  )
  acceptance_of (suc (suc n)) few takes = absurd (omega (arith, few))

  -- an answer that was taken or refused
  pub answered : (a : DiskAnswer) → old.answer ≡ Some a → (taken : Bool) → (taken ≡ false → guest ≡ old.guest)
      → (taken ≡ true → HeardOn state M a old.guest guest) → Leading (keys_by old) (told_by old)
  answered a is false same heard =
      subst (λ (r : Recording B). IsLeading state M boot view (keys_by old) (told_by old) r) (sym (same refl)) leads
  answered a is true same heard =
      heard refl boot view (keys_by old) (told_by old) (is_among view.answers a (old.answered a is)) leads
