-- What the primary's list says was told: each entry that is appended adds what its append asks, and no other step changes
-- the list or takes back what arrived.
use Rattle.std.proofs.Common.{◌≡◌, ℕ, zero, suc, ◌+◌, ◌≤◌, Bool, true, false, ◌==◌, if◌then◌else◌, List, [], ◌∷◌, ◌++◌, sym, ap, ◌∙◌, subst, arith, append-nil, le_refl, refl, ⊎_elim}
use Rattle.pair_rule.proofs.Words.{Among, Appends, Arrives, CountsNone, DiskAnswer, Entry, HasAnswer, IsAnswered, IsPrefix, IsTold, Knowledge, ListIsTold, Machine, Mark, PortIsTold, PrimaryIsTold, Read, Rx, SeesCount, SilentStep, ThreadStep, acceptances, acceptances-append, among-left, counted_at, inputs_of, inputs_of-append, keys, keys-append, typed_at}
use Rattle.log_entry.specs.declared.entry.Entry.TheVariants.{Sent, Sector, Written}
use Rattle.pair_rule.specs.declared.payload.DiskAnswer.TheVariants as answer
use Rattle.pair_rule.proofs.ShownNodes.{among_either}

-- an answer that came stays one when more come
still_answered : (answers : List DiskAnswer) (a : DiskAnswer) (e : Entry) → IsAnswered answers e
    → IsAnswered (answers ++ a ∷ []) e
still_answered answers a (Mark count) is = tt
still_answered answers a (Rx count port byte) is = tt
still_answered answers a (Sent count port) is = tt
still_answered answers a (Written count number) is = among-left (answer.Written number) answers (a ∷ []) is
still_answered answers a (Sector count drive sector number bytes) (r, at, same, alike) =
    (r, among-left (answer.Read r) answers (a ∷ []) at, same, alike)
still_answered answers a (Read count drive sector number) is = absurd is

module _ (list : List Entry) where
  keys_more : (q : ℕ) (e : Entry) → keys q (inputs_of (list ++ e ∷ [])) ≡ keys q (inputs_of list) ++ keys q (inputs_of (e ∷ []))
  keys_more q e = ap (keys q) (inputs_of-append list (e ∷ [])) ∙ keys-append q (inputs_of list) (inputs_of (e ∷ []))

  accepted_more : (q : ℕ) (e : Entry) → acceptances q (inputs_of (list ++ e ∷ [])) ≡ acceptances q
      (inputs_of list) + acceptances q (inputs_of (e ∷ []))
  accepted_more q e = ap (acceptances q) (inputs_of-append list (e ∷ [])) ∙ acceptances-append q (inputs_of list)
      (inputs_of (e ∷ []))

  -- an entry without a key of the port leaves its keys as they are, and one without an acceptance its acceptances
  same_keys : (q : ℕ) (e : Entry) (typed : List ℕ) → keys q (inputs_of (e ∷ [])) ≡ [] → IsPrefix (keys q (inputs_of list)) typed
      → IsPrefix (keys q (inputs_of (list ++ e ∷ []))) typed
  same_keys q e typed none is = subst (λ l. IsPrefix l typed)
      (sym (keys_more q e ∙ ap (λ l. keys q (inputs_of list) ++ l) none ∙ append-nil (keys q (inputs_of list)))) is

  same_accepted : (q : ℕ) (e : Entry) (n : ℕ) → acceptances q (inputs_of (e ∷ [])) ≡ 0 → acceptances q (inputs_of list) ≤ n
      → acceptances q (inputs_of (list ++ e ∷ [])) ≤ n
  same_accepted q e n none is = let m = accepted_more q e in omega (arith, m, none, is)

  -- a key at its own port is told by the append, and leaves the other port alone
  next_keys : (q : ℕ) (count port byte : ℕ) (typed : List ℕ)
      → (q ≡ port → IsPrefix (keys q (inputs_of (list ++ Rx count port byte ∷ []))) typed)
      → IsPrefix (keys q (inputs_of list)) typed
      → IsPrefix (keys q (inputs_of (list ++ Rx count port byte ∷ []))) typed
  next_keys q count port byte typed told is = go (q == port) refl
    where
      go : (b : Bool) → (q == port) ≡ b → IsPrefix (keys q (inputs_of (list ++ Rx count port byte ∷ []))) typed
      go true same = told (let e : q ≡ port = grind arith in e)
      go false other = same_keys q (Rx count port byte) typed (ap (λ b. (if b then byte ∷ [] else []) ++ []) other) is

  next_accepted : (q : ℕ) (count port n : ℕ) → (q ≡ port → acceptances q (inputs_of (list ++ Sent count port ∷ [])) ≤ n)
      → acceptances q (inputs_of list) ≤ n
      → acceptances q (inputs_of (list ++ Sent count port ∷ [])) ≤ n
  next_accepted q count port n told is = go (q == port) refl
    where
      go : (b : Bool) → (q == port) ≡ b → acceptances q (inputs_of (list ++ Sent count port ∷ [])) ≤ n
      go true same = told (let e : q ≡ port = grind arith in e)
      go false other = same_accepted q (Sent count port) n (ap (λ b. (if b then 1 else 0) + 0) other) is

  -- an entry without both leaves what is told of the port
  same_port : (q : ℕ) (e : Entry) (typed : List ℕ) (n : ℕ) → keys q (inputs_of (e ∷ [])) ≡ []
      → acceptances q (inputs_of (e ∷ [])) ≡ 0 → PortIsTold q typed n list → PortIsTold q typed n (list ++ e ∷ [])
  same_port q e typed n no_key none is = record {
    keys_first = same_keys q e typed no_key is.keys_first;
    accepted = same_accepted q e n none is.accepted;
  }

module _ {S : Type 0} (M : Machine S) (typed0 typed1 : List ℕ) (k : Knowledge) (t : PrimaryIsTold typed0 typed1 k.primary) where
  abbrev list : List Entry
  list = k.primary.list

  -- of the longer list: each entry is answered
  all_answered : (e x : Entry) → IsAnswered k.primary.answers e → Among x (list ++ e ∷ []) → IsAnswered k.primary.answers x
  all_answered e x is at = ⊎_elim (λ (old : Among x list). t.answered x old)
      (λ (same : x ≡ e). subst (IsAnswered k.primary.answers) (sym same) is) (among_either x e list at)

  is_answered : (s : S) (e : Entry) → IsTold M typed0 typed1 k s e → IsAnswered k.primary.answers e
  is_answered s (Mark count) told = tt
  is_answered s (Rx count port byte) told = tt
  is_answered s (Sent count port) told = tt
  is_answered s (Written count number) told = told
  is_answered s (Sector count drive sector number bytes) (r, came, place, same, alike) = (r, came, same, alike)
  is_answered s (Read count drive sector number) told = absurd told

  -- at each port
  abbrev ToldAt : ℕ → List Entry → Type 0
  ToldAt q = PortIsTold q (typed_at q typed0 typed1) (counted_at q k)

  told_at : (q : ℕ) (s : S) (e : Entry) → IsTold M typed0 typed1 k s e → ToldAt q list → ToldAt q (list ++ e ∷ [])
  told_at q s (Mark count) told is = same_port list q (Mark count) (typed_at q typed0 typed1) (counted_at q k) refl refl is
  told_at q s (Rx count port byte) told is = record {
    keys_first = next_keys list q count port byte (typed_at q typed0 typed1)
        (λ same. subst (λ p. IsPrefix (keys p (inputs_of (list ++ Rx count port byte ∷ []))) (typed_at p typed0 typed1))
        (sym same) told) is.keys_first;
    accepted = same_accepted list q (Rx count port byte) (counted_at q k) refl is.accepted;
  }
  told_at q s (Sent count port) told is = record {
    keys_first = same_keys list q (Sent count port) (typed_at q typed0 typed1) refl is.keys_first;
    accepted = next_accepted list q count port (counted_at q k)
        (λ same. subst (λ p. acceptances p (inputs_of (list ++ Sent count port ∷ [])) ≤ counted_at p k) (sym same) told)
        is.accepted;
  }
  told_at q s (Written count number) told is =
      same_port list q (Written count number) (typed_at q typed0 typed1) (counted_at q k) refl refl is
  told_at q s (Sector count drive sector number bytes) told is =
      same_port list q (Sector count drive sector number bytes) (typed_at q typed0 typed1) (counted_at q k) refl refl is
  told_at q s (Read count drive sector number) told is = absurd told

  told_more : (s : S) (e : Entry) → IsTold M typed0 typed1 k s e
      → ListIsTold typed0 typed1 (list ++ e ∷ []) k.primary.answers k.primary.counted0 k.primary.counted1
  told_more s e told = record {
    port0 = told_at 0 s e told t.port0;
    port1 = told_at 1 s e told t.port1;
    answered = λ x at. all_answered e x (is_answered s e told) at;
  }

  -- a step that is events, and one that is none
  pub thread_told : (new : Knowledge) → ThreadStep M typed0 typed1 k new → PrimaryIsTold typed0 typed1 new.primary
  thread_told new (Appends e run free told) = told_more run.before e told
  thread_told new (Arrives zero number byte two hand) = t
  thread_told new _ = t

  pub silent_told : (new : Knowledge) → SilentStep M k new → PrimaryIsTold typed0 typed1 new.primary
  silent_told new (CountsNone zero none) = t
  silent_told new (SeesCount zero n more) = record {
    port0 = record { keys_first = t.port0.keys_first; accepted = (let a = t.port0.accepted in omega (arith, a, more)) };
    port1 = t.port1;
    answered = t.answered;
  }
  silent_told new (SeesCount (suc port) n more) = record {
    port0 = t.port0;
    port1 = record { keys_first = t.port1.keys_first; accepted = (let a = t.port1.accepted in omega (arith, a, more)) };
    answered = t.answered;
  }
  silent_told new (HasAnswer a) = record {
    port0 = t.port0;
    port1 = t.port1;
    answered = λ e at. still_answered k.primary.answers a e (t.answered e at);
  }
  silent_told new _ = t

-- an empty list was told nothing
pub nothing_told : (typed0 typed1 : List ℕ) → ListIsTold typed0 typed1 [] [] 0 0
nothing_told typed0 typed1 = record {
  port0 = record { keys_first = (typed0, refl); accepted = le_refl 0 };
  port1 = record { keys_first = (typed1, refl); accepted = le_refl 0 };
  answered = λ e at. absurd at;
}
