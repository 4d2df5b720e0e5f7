-- A primary's guest that takes an input, and whose name of an operation that is no longer outstanding is taken out.
use Rattle.std.proofs.Common.{◌≡◌, ◌≢◌, inl, inr, ℕ, zero, suc, ◌<◌, Bool, true, false, List, [], ◌∷◌, ◌++◌, length, Option, Some, None, refl, sym, ap, subst, ◌∙◌, arith, get_or}
use Rattle.std.specs.Prelude.{Contains}
use Rattle.std.specs.List.{items_where_true}
use Rattle.std.specs.List.Retain.{IsFiltered, ReturnsInTurn}
use Rattle.pair_threads.proofs.Words.{ComesAndGoes, Counts, HasRoom, IdlesIf, Input, IsGiven, IsInput, Leads, LeadsOn, Logged, Machine, Move, OpId, Operation, Recorded, Recording, Says, TakesOn, entry_of, name_cases, refusal_of, step_refusal, longer_by}
use Rattle.pair_threads.proofs.Leading.{takes}
use Rattle.pair_threads.proofs.Telling.{says_input}

-- ---- an input

module _ {B S : Type 0} (state : B → S) (M : Machine S) (counts : Counts M) (laws : ComesAndGoes M) (old new : Recording B)
    (i : Input) where
  no_idling : (idle : Bool) (s : S) → idle ≡ false → IdlesIf M idle s
  no_idling true s is = absurd cc
  no_idling false s is = λ e. absurd cc

  pub offers : IsInput i → HasRoom M (state old.board) i → old.waiting ≡ None → refusal_of M (state old.board) i ≡ None
      → M.take (state old.board) i ≡ Some (state new.board)
      → new.waiting ≡ Some (entry_of Logged (M.count (state old.board)) i) → new.given.items ≡ old.given.items
      → new.idle ≡ false → TakesOn state M i old new
  offers is_input room free allowed taken waits names busy boot view keys after accepted more says keys_after more_after
      leads =
      let before : longer_by view.list old.waiting ≡ view.list = ap (longer_by view.list) free in
      let now : view.list ++ entry_of Logged (M.count (state old.board)) i ∷ [] ≡ longer_by view.list new.waiting =
      sym (ap (longer_by view.list) waits) in (
        subst (λ l. Leads M boot l new.given.items view (state new.board)) now
            (subst (λ l. Leads M boot (view.list ++ entry_of Logged (M.count (state old.board)) i ∷ []) l view (state new.board))
            (sym names)
            (takes M counts laws boot (state old.board) view.list old.given.items view
            (subst (λ l. Leads M boot l old.given.items view (state old.board)) before leads.0) (state new.board) i
            (record { is_input = is_input; room = room; allowed = allowed; taken = taken }) says)),
        no_idling new.idle (state new.board) busy,
        subst (λ l. Says l after more) now
            (says_input view.list keys accepted (subst (λ l. Says l keys accepted) before leads.2)
            (M.count (state old.board)) i after more keys_after more_after),
      )

-- ---- a name

contains_head : {X : Type 0} (x : X) (xs : List X) → Contains (x ∷ xs) x
contains_head x xs = (0, omega arith, refl)

contains_later : {X : Type 0} (x y : X) (xs : List X) → Contains xs x → Contains (y ∷ xs) x
contains_later x y xs at = (suc at.0, (let lt = at.1 in omega (arith, lt)), at.2)

module _ {X F : Type 0} (R : F → X → Bool → F → Type 0) (x : X) (f : F)
    (h : (y : X) (b : Bool) (g : F) → R f y b g → (y ≡ x → b ≡ true) × (g ≡ f)) where
  kept_at : (bs : List Bool) (xs : List X) (q : F) → length bs ≡ length xs → ReturnsInTurn R f bs xs q → (i : ℕ)
      → i < length xs → get_or xs i x ≡ x → Contains (items_where_true bs xs) x
  kept_at [] [] q long told i lt is = absurd (omega (arith, lt))
  kept_at [] (y ∷ xs) q long told i lt is = absurd (omega (arith, long))
  kept_at (b ∷ bs) [] q long told i lt is = absurd told
  kept_at (true ∷ bs) (y ∷ xs) q long told zero lt is =
      subst (Contains (y ∷ items_where_true bs xs)) is (contains_head y (items_where_true bs xs))
  kept_at (false ∷ bs) (y ∷ xs) q long told zero lt is =
      absurd (let e : ◌≡◌ {A = Bool} false true = (h y false told.0 told.1).0 is in cc)
  kept_at (true ∷ bs) (y ∷ xs) q long told (suc i) lt is =
      contains_later x y (items_where_true bs xs)
      (kept_at bs xs q (omega (arith, long)) (subst (λ g. ReturnsInTurn R g bs xs q) (h y true told.0 told.1).1 told.2) i
      (omega (arith, lt)) is)
  kept_at (false ∷ bs) (y ∷ xs) q long told (suc i) lt is =
      kept_at bs xs q (omega (arith, long)) (subst (λ g. ReturnsInTurn R g bs xs q) (h y false told.0 told.1).1 told.2) i
      (omega (arith, lt)) is

  -- what a test lets pass is kept
  pub is_kept : (xs ys : List X) → IsFiltered R f xs ys → Contains xs x → Contains ys x
  is_kept xs ys k at = subst (λ l. Contains l x) (sym k.4) (kept_at k.0 xs k.1 k.2 k.3 at.0 at.1 at.2)

-- ---- a guest without the name of an operation that is not outstanding

module _ {B S : Type 0} (state : B → S) (M : Machine S) (old new : Recording B) (id : OpId) where
  none_found : (o : Operation) (x : Option Operation) → x ≡ None → x ≡ Some o → ⊥
  none_found o x a b = let e : ◌≡◌ {A = Option Operation} None (Some o) = sym a ∙ b in cc

  -- the others are named still
  still_named : (moves : List Move) (name : OpId) (o : Operation) → M.find (state new.board) name ≡ Some o
      → M.find (state new.board) id ≡ None
      → ((name : OpId) → name ≢ id → Contains old.given.items name → Contains new.given.items name)
      → IsGiven old.given.items moves name o → IsGiven new.given.items moves name o
  still_named moves name o found gone others is = elim (name_cases name id) [
    | inl same ↦ absurd (none_found o (M.find (state new.board) id) gone (ap (M.find (state new.board)) (sym same) ∙ found))
    | inr other ↦ record { named = others name other is.named; given = is.given }
  ]

  pub forgets : M.find (state old.board) id ≡ None → new.board ≡ old.board → new.waiting ≡ old.waiting
      → new.idle ≡ old.idle
      → ((name : OpId) → name ≢ id → Contains old.given.items name → Contains new.given.items name)
      → LeadsOn state M old new
  forgets gone board waiting idle others boot view taken accepted leads = (
    subst (λ w. Leads M boot (longer_by view.list w) new.given.items view (state new.board)) (sym waiting)
        (record {
          moves = leads.0.moves;
          runs = subst (λ b. Recorded M boot leads.0.moves (state b)) (sym board) leads.0.runs;
          entries_are = leads.0.entries_are;
          outstanding = λ name o found.
              still_named leads.0.moves name o found (ap (λ b. M.find (state b) id) board ∙ gone) others
              (leads.0.outstanding name o (ap (λ b. M.find (state b) name) (sym board) ∙ found));
          covered = leads.0.covered;
          answered = leads.0.answered;
        }),
    λ is. ap (λ b. step_refusal M (state b)) board ∙ leads.1 (sym idle ∙ is),
    subst (λ w. Says (longer_by view.list w) taken accepted) (sym waiting) leads.2,
  )
