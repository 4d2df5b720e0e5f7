-- A faithful pair of Altairs is alike; and a disk that begins alike on the drives of an Altair has the same traces.
use Rattle.std.proofs.Common.{◌≡◌, ℕ, suc, List, [], ◌∷◌, arith, inl, inr, refl, subst, sym}
use Rattle.std.specs.Prelude.{Any, not}
use Rattle.std.proofs.lemmas.List.Elements.{All-cons, All-nil}
use Rattle.disk_dcdd.specs.declared.address.SectorAddress.{SectorAddress}
use Rattle.event_callbacks.specs.declared.operations.OpId.TheVariants as id
use Rattle.event_callbacks.specs.declared.operations.Operation.TheVariants.{Write}
use Rattle.guest_board.specs.Guest.{altair}
use Rattle.guest_lockstep.specs.Machine.{Move}
use Rattle.guest_board.specs.declared.setup.Setup.{Setup}
use Rattle.guest_lockstep.specs.Reach.{Reach, image, writes}
use Rattle.guest_lockstep.specs.declared.timed.Bare.TheVariants.{Written}
use Rattle.guest_lockstep.specs.declared.timed.Timed.{Timed}
use Rattle.pair_protocol.specs.Faithful as promise
use Rattle.pair_protocol.specs.Faithful.{Faithful}
use Rattle.pair_protocol.specs.Lawful.{Among, Lawful}
use Rattle.pair_protocol.proofs.Traces.Moves.{writes-given}
use Rattle.altair_laws.proofs.Images.{Apart, bares}
use Rattle.altair_pair.proofs.Dones.{not_done}
use Rattle.altair_pair.specs.Alike.{FaithfulIsAlike}
use Rattle.altair_pair.specs.Comparing.{Brings, IsUndone, MayHave}

-- ---- lists

-- an input that is not among some is none of them
none_of : (n : ℕ) (ts : List Timed) → (Among (Written n) (bares ts) → ⊥) → IsUndone ts n
none_of n [] not = All-nil (λ (t : Timed). t.input ≡ Written n → ⊥)
none_of n (t ∷ ts) not =
    All-cons (λ (t : Timed). t.input ≡ Written n → ⊥) t ts (λ e. not (inl (sym e))) (none_of n ts (λ a. not (inr a)))

some_of : {A : Type 0} (P : A → Type 0) (x : A) (xs : List A) → Among x xs → P x → Any P xs
some_of P x [] a p = absurd a
some_of P x (y ∷ xs) (inl e) p = (0, y, omega arith, refl, subst P e p)
some_of P x (y ∷ xs) (inr a) p = next (some_of P x xs a p)
  where
    next : Any P xs → Any P (y ∷ xs)
    next (k, z, low, at, q) = (suc k, z, omega arith, at, q)

-- ---- a faithful pair

module _ (apart : Apart) (setup : Setup) (start : SectorAddress → List ℕ) (laws : Lawful (altair setup start)) where
  may_have : (list : List Timed) (count : ℕ) (trace : List Move) (r : Reach (altair setup start) list count trace)
      (address : SectorAddress) (bytes : List ℕ) → promise.MayHave (altair setup start) trace r.last address bytes
      → MayHave (image (altair setup start) trace address) (writes trace) list address bytes
  may_have list count trace r address bytes (promise.IsImage is) = inl is
  may_have list count trace r address bytes (promise.IsOutstanding w found there is) =
      inr (some_of (Brings list address bytes) w (writes trace)
      (writes-given w trace (laws.given trace r.last (id.Write w.number) (Write w) r.runs found)) (record {
        there = there;
        bytes_are = sym is;
        undone = none_of w.number list (λ a. not_done apart setup start trace r.last r.runs w found
            (subst (λ ts. Among (Written w.number) (bares ts)) (sym r.list_is) a));
      }))

pub faithful_is_alike : Apart → ((setup : Setup) (start : SectorAddress → List ℕ) → Lawful (altair setup start))
    → FaithfulIsAlike
faithful_is_alike apart laws setup start w f = record {
  outputs = λ port low. f.output port;
  disk = λ address on. may_have apart setup start (laws setup start) f.list f.count f.trace f.reach address _ (f.disk address);
}
