-- What the inputs of a primary's list say: a mark says nothing, an input its key and its acceptance.
use Rattle.std.proofs.Common.{◌≡◌, ◌==◌, ℕ, zero, suc, ◌+◌, false, cond, List, [], ◌∷◌, ◌++◌, refl, sym, ap, ◌∙◌, arith, append-nil}
use Rattle.std.proofs.lemmas.Bool.{ne_eqb}
use Rattle.pair_threads.proofs.Words.{Among, DiskAnswer, Entry, HeardOn, Input, IsAnswer, LeadsOn, Logged, Machine, Mark, Recording, Says, SectorRead, TakesOn, acceptances, acceptances-append, accepted_at, bare, by_port, entry_of, inputs_of, inputs_of-append, key_at, keys, keys-append, read_address}
use Rattle.guest_lockstep.specs.declared.input.Input.TheVariants as input
use Rattle.guest_lockstep.specs.declared.timed.Bare.TheVariants.{Rx, Sent}
use Rattle.pair_rule.specs.declared.payload.DiskAnswer.TheVariants as answer

module _ (list : List Entry) (taken : ℕ → List ℕ) (accepted : ℕ → ℕ) (says : Says list taken accepted) where
  keys_more : (e : Entry) (port : ℕ) → keys port (inputs_of (list ++ e ∷ [])) ≡ taken port ++ keys port (inputs_of (e ∷ []))
  keys_more e port = ap (keys port) (inputs_of-append list (e ∷ []))
      ∙ keys-append port (inputs_of list) (inputs_of (e ∷ []))
      ∙ ap (λ l. l ++ keys port (inputs_of (e ∷ []))) (says.keys_are port)

  accepted_more : (e : Entry) (port : ℕ) → acceptances port (inputs_of (list ++ e ∷ []))
      ≡ accepted port + acceptances port (inputs_of (e ∷ []))
  accepted_more e port = ap (acceptances port) (inputs_of-append list (e ∷ []))
      ∙ acceptances-append port (inputs_of list) (inputs_of (e ∷ []))
      ∙ ap (λ n. n + acceptances port (inputs_of (e ∷ []))) (says.accepted_are port)

  pub says_mark : (count : ℕ) → Says (list ++ Mark count ∷ []) taken accepted
  says_mark count = record {
    keys_are = λ port. keys_more (Mark count) port ∙ append-nil (taken port);
    accepted_are = λ port. accepted_more (Mark count) port ∙ omega arith;
  }

  key_said : (count : ℕ) (i : Input) (port : ℕ) → keys port (inputs_of (entry_of Logged count i ∷ [])) ≡ key_at port (bare i)
  key_said count (input.Rx at byte) port = append-nil (key_at port (Rx at byte))
  key_said count (input.Sent at) port = refl
  key_said count (input.Sector drive sector number bytes) port = refl
  key_said count (input.Written number) port = refl

  acceptance_said : (count : ℕ) (i : Input) (port : ℕ)
      → acceptances port (inputs_of (entry_of Logged count i ∷ [])) ≡ accepted_at port (bare i)
  acceptance_said count (input.Rx at byte) port = refl
  acceptance_said count (input.Sent at) port = no_more (accepted_at port (Sent at))
    where
      no_more : (n : ℕ) → n + 0 ≡ n
      no_more n = omega arith
  acceptance_said count (input.Sector drive sector number bytes) port = refl
  acceptance_said count (input.Written number) port = refl

  pub says_input : (count : ℕ) (i : Input) (after : ℕ → List ℕ) (more : ℕ → ℕ)
      → ((port : ℕ) → after port ≡ taken port ++ key_at port (bare i))
      → ((port : ℕ) → more port ≡ accepted port + accepted_at port (bare i))
      → Says (list ++ entry_of Logged count i ∷ []) after more
  says_input count i after more keys_after more_after = record {
    keys_are = λ port. keys_more (entry_of Logged count i) port ∙ ap (λ l. taken port ++ l) (key_said count i port)
        ∙ sym (keys_after port);
    accepted_are = λ port. accepted_more (entry_of Logged count i) port
        ∙ ap (λ n. accepted port + n) (acceptance_said count i port) ∙ sym (more_after port);
  }

-- ---- what comes after an input

module _ {B S : Type 0} (state : B → S) (M : Machine S) (old mid new : Recording B) where
  pub takes_then : (i : Input) → TakesOn state M i old mid → LeadsOn state M mid new → TakesOn state M i old new
  takes_then i takes leads_on boot view taken after accepted more says keys_after more_after leads =
      leads_on boot view after more
      (takes boot view taken after accepted more says keys_after more_after leads)

-- ---- an input that says what the disk answered, but no key and no acceptance

module _ {B S : Type 0} (state : B → S) (M : Machine S) (old new : Recording B) where
  -- it leaves the keys and the acceptances as they were
  hears_as : (a : DiskAnswer) (i : Input) → ((port : ℕ) → key_at port (bare i) ≡ [])
      → ((port : ℕ) → accepted_at port (bare i) ≡ 0)
      → ((answers : List DiskAnswer) → Among a answers → IsAnswer M answers (state old.board) i)
      → TakesOn state M i old new → HeardOn state M a old new
  hears_as a i no_key no_acceptance says takes boot view taken accepted among leads =
      takes boot view taken taken accepted accepted (says view.answers among)
      (λ port. sym (ap (λ l. taken port ++ l) (no_key port) ∙ append-nil (taken port)))
      (λ port. (let none = no_acceptance port in omega (arith, none))) leads

  pub hears_written : (number : ℕ) → TakesOn state M (input.Written number) old new
      → HeardOn state M (answer.Written number) old new
  hears_written number takes =
      hears_as (answer.Written number) (input.Written number) (λ port. refl) (λ port. refl) (λ answers among. among) takes

  pub hears_read : (r : SectorRead) → M.address (state old.board) r.drive r.sector ≡ read_address r
      → TakesOn state M (input.Sector r.drive r.sector r.number r.bytes) old new → HeardOn state M (answer.Read r) old new
  hears_read r under takes =
      hears_as (answer.Read r) (input.Sector r.drive r.sector r.number r.bytes) (λ port. refl) (λ port. refl)
      (λ answers among. (r, among, sym under, refl, refl)) takes

-- ---- a key or an acceptance of one of the two ports

-- a number past both is neither
past_first : (n : ℕ) → (suc (suc n) == 0) ≡ false
past_first n = ne_eqb (suc (suc n)) 0 (λ e. omega (arith, e))

past_second : (n : ℕ) → (suc (suc n) == 1) ≡ false
past_second n = ne_eqb (suc (suc n)) 1 (λ e. omega (arith, e))

module _ (first second : List ℕ) (byte : ℕ) where
  pub key_at_first : (port : ℕ) → by_port (first ++ byte ∷ []) second [] port
      ≡ by_port first second [] port ++ key_at port (Rx 0 byte)
  key_at_first zero = refl
  key_at_first (suc zero) = sym (append-nil second)
  key_at_first (suc (suc n)) = sym (ap (λ b. cond b (byte ∷ []) []) (past_first n))

  pub key_at_second : (port : ℕ) → by_port first (second ++ byte ∷ []) [] port
      ≡ by_port first second [] port ++ key_at port (Rx 1 byte)
  key_at_second zero = sym (append-nil first)
  key_at_second (suc zero) = refl
  key_at_second (suc (suc n)) = sym (ap (λ b. cond b (byte ∷ []) []) (past_second n))

  pub no_key : (q port : ℕ) → by_port first second [] port ≡ by_port first second [] port ++ key_at port (Sent q)
  no_key q port = sym (append-nil (by_port first second [] port))

module _ (first second : ℕ) where
  pub one_at_first : (port : ℕ) → by_port (first + 1) second 0 port ≡ by_port first second 0 port + accepted_at port (Sent 0)
  one_at_first zero = refl
  one_at_first (suc zero) = omega arith
  one_at_first (suc (suc n)) = sym (ap (λ b. 0 + cond b 1 0) (past_first n))

  pub one_at_second : (port : ℕ) → by_port first (second + 1) 0 port ≡ by_port first second 0 port + accepted_at port (Sent 1)
  one_at_second zero = omega arith
  one_at_second (suc zero) = refl
  one_at_second (suc (suc n)) = sym (ap (λ b. 0 + cond b 1 0) (past_second n))

  pub no_acceptance : (q byte port : ℕ) → by_port first second 0 port
      ≡ by_port first second 0 port + accepted_at port (Rx q byte)
  no_acceptance q byte port = (let n = by_port first second 0 port in omega arith)
