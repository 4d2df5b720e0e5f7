-- What a look at a host's guest gives is so of its node.
use Rattle.std.proofs.Common.{ℕ, ◌≡◌, Bool, true, false, Option, Some, None, List, refl, sym, ap, ◌∙◌}
use Rattle.std.specs.Option.{option_map, option_map_or}
use Rattle.std.specs.Prelude.{◌||◌}
use Rattle.guest_lockstep.specs.Machine.{Machine}
use Rattle.host_node.specs.Guests.{IsPolling, KeepsNoKey, OffersKey, Says, keeps_at}
use Rattle.host_node.specs.Looks.{HasDue, HasGuest, HasKeys, due_of, keys_of}
use Rattle.host_node.specs.declared.host.HostNode.{HostNode}
use Rattle.host_node.specs.declared.host.Hosted.{Hosted}
use Rattle.host_node.specs.declared.host.Hosted.TheVariants as hosted

module _ {B S : Type 0} {H : Type 0} (state : B → S) (M : Machine S) where
  pub keys_by : (h : Hosted B H) (guest : Option S) (keys : List ℕ) → HasGuest state M h guest
      → keys ≡ keys_of M guest → HasKeys state M h keys
  keys_by (hosted.Spare callbacks) guest keys has are = are ∙ ap (keys_of M) has
  keys_by (hosted.Node node) guest keys has are = λ C drives x is. are ∙ ap (keys_of M) (has C drives x is)
  keys_by hosted.Halted guest keys has are = are ∙ ap (keys_of M) has

  pub due_by : (h : Hosted B H) (port : ℕ) (guest : Option S) (number : Option ℕ) → HasGuest state M h guest
      → number ≡ due_of M guest port → HasDue state M h port number
  due_by (hosted.Spare callbacks) port guest number has is = is ∙ ap (λ g. due_of M g port) has
  due_by (hosted.Node node) port guest number has is =
      λ C drives x node. is ∙ ap (λ g. due_of M g port) (has C drives x node)
  due_by hosted.Halted port guest number has is = is ∙ ap (λ g. due_of M g port) has

  -- ---- what its guest says

  pub says : {A : Type 0} (of : B → A) (h : Hosted B H) (without given : A) (guest : B)
      → HasGuest state M h (Some (state guest)) → given ≡ of guest → Says state M of h without given
  says of h without given guest has is = record { guest = Some guest; has = has; is = is }

  pub says_nothing : {A : Type 0} (of : B → A) (h : Hosted B H) (without given : A)
      → HasGuest state M h None → given ≡ without → Says state M of h without given
  says_nothing of h without given has is = record { guest = None; has = has; is = is }

  pub polls : (of : B → Type 0) (h : Hosted B H) (given : Bool) (guest : B) → HasGuest state M h (Some (state guest))
      → (given ≡ true → of guest) → (given ≡ false → of guest → ⊥) → IsPolling state M of h given
  polls of h true guest has if_so if_not = record { guest = Some guest; has = has; is = if_so refl }
  polls of h false guest has if_so if_not = record { guest = Some guest; has = has; is = if_not refl }

  pub polls_none : (of : B → Type 0) (h : Hosted B H) (given : Bool) → HasGuest state M h None → given ≡ false
      → IsPolling state M of h given
  polls_none of h given has is = record { guest = None; has = has; is = is }

  -- if no guest would keep a key, the one that it has would not
  keeps_none : (keeps : B → ℕ → Bool) (h : Hosted B H) (port : ℕ) (guest : Option B) (kept : Bool)
      → HasGuest state M h (option_map state guest) → kept ≡ option_map_or (λ g. keeps_at (keeps g) port) guest false
      → KeepsNoKey state M keeps h port → kept ≡ false
  keeps_none keeps h port None kept has is none = is
  keeps_none keeps h port (Some guest) kept has is none = is ∙ none guest has

  -- so if a key may be offered though, the guest idles
  pub offers_none : (keeps : B → ℕ → Bool) (old new : HostNode B H) (port : ℕ) (idle given : Bool)
      → OffersKey state M keeps old.node port idle given → given ≡ true → idle ≡ false → KeepsNoKey state M keeps old.node port
      → new ≡ old
  offers_none keeps old new port idle given offers may busy none =
      (let k = keeps_none keeps old.node port offers.1.guest offers.0 offers.1.has offers.1.is none in
      let e = ap (λ i. i || offers.0) busy in
      let f = ap (λ i. false || i) k in
      let t : true ≡ false = sym may ∙ offers.2 ∙ e ∙ f in
      absurd (cc))
