-- What is settled grows with each action, and so with each event. The list of a new winner begins with what was settled
-- before: a winner is made in the highest generation, it settles at once, and its list only gets longer.
use Rattle.std.proofs.Common.{[], ◌++◌, ◌∙◌, ◌∷◌, ◌≡◌, ◌⊎◌, Bool, List, None, Option, Some, ap, append-nil, append_assoc, cond, eqb-true, false, inl, inr, max, refl, subst, suc, sym, true, zero, ℕ}
use Rattle.std.specs.Prelude.{◌==◌, slice_get, slice_set}
use Rattle.pair_protocol.proofs.Words.{Change, Changes, Copying, IsCopying, IsPrefix, Lawful, Machine, Node, Reached, Role, Settled, Settles, Spare, Stays, Then, Timed, Winner, World, highest, inputs, list_of, steps, winner_in, wins, with_winner, won_role}
use Rattle.pair_protocol.specs.Change.{Wins}
use Rattle.pair_events.specs.declared.event.Event.{Event}
use Rattle.pair_protocol.specs.Reply.{Reply}
use Rattle.pair_protocol.specs.Grows.{Grows}
use Rattle.pair_protocol.specs.Row.{Row}
use Rattle.pair_protocol.proofs.Invariant.Acting.{Acting, BackupActs, BackupAtTop, BackupEarlier, PrimaryActs, PrimaryAtTop, PrimaryEarlier, acting}
use Rattle.pair_protocol.proofs.Invariant.{BackupWon, Inv, LineOf, Next, PrimaryWon, Stage, Undecided, settled, winner_at}
use Rattle.pair_protocol.proofs.Keeps.All.{keep}
use Rattle.pair_protocol.proofs.Keeps.Fetched.{AreFetched, fetched-keeps, reached-fetched}
use Rattle.pair_protocol.proofs.Keeps.Arbiter.{winner-longer}
use Rattle.pair_protocol.proofs.Promises.Faithful.{extends, grows_by, reached}
use Rattle.pair_protocol.proofs.Promises.Lists.{changes_longer}
use Rattle.pair_protocol.proofs.Promises.Runs.{keep_all}
use Rattle.pair_protocol.proofs.Promises.Settling.{highest_is, settled_is, settles_trace}
use Rattle.pair_protocol.proofs.RowActions.{row_changes}
use Rattle.pair_protocol.proofs.Traces.Lists.{get_set, prefix-trans, same_some}

module _ {S : Type 0} (M : Machine S) (C : Copying S) where
  -- ---- winners

  winners_more : (w new : World S) → Change M C w new → (more : List Winner) × (new.winners ≡ w.winners ++ more)
  winners_more w new (Wins n x r acts nj ns none) = (record { generation = x.generation; node = n } ∷ [], refl)
  winners_more w new c = ([], sym (append-nil w.winners))

  winners_all : (w new : World S) → Changes M C w new → (more : List Winner) × (new.winners ≡ w.winners ++ more)
  winners_all w new Stays = ([], sym (append-nil w.winners))
  winners_all w new (Then {mid = v} c cs) =
      let a = winners_more w v c in
      let b = winners_all v new cs in
      (a.0 ++ b.0, b.1 ∙ ap (λ ws. ws ++ b.0) a.1 ∙ append_assoc w.winners a.0 b.0)

-- a new winner is the one that was added
pub winner_added : (ws : List Winner) (a : Winner) (g m : ℕ) → winner_in ws g ≡ None →
    winner_in (ws ++ a ∷ []) g ≡ Some m → (g ≡ a.generation) × (a.node ≡ m)
winner_added [] a g m h k = go (g == a.generation) refl k
  where
    go : (b : Bool) → (g == a.generation) ≡ b → cond b (Some a.node) None ≡ Some m → (g ≡ a.generation) × (a.node ≡ m)
    go true e k = (eqb-true g a.generation e, same_some a.node m (Some a.node) refl k)
    go false e k = (cc)
winner_added (b ∷ ws) a g m h k = go (g == b.generation) h k (λ i j. winner_added ws a g m i j)
  where
    go : (t : Bool) → cond t (Some b.node) (winner_in ws g) ≡ None →
        cond t (Some b.node) (winner_in (ws ++ a ∷ []) g) ≡ Some m →
        (winner_in ws g ≡ None → winner_in (ws ++ a ∷ []) g ≡ Some m → (g ≡ a.generation) × (a.node ≡ m)) →
        (g ≡ a.generation) × (a.node ≡ m)
    go true h k rest = (cc)
    go false h k rest = rest h k

-- ---- a node that wins

pub highest_set : {S : Type 0} (nodes : List (Node S)) (n : ℕ) (x y : Node S) → slice_get nodes n ≡ Some x →
    y.generation ≡ x.generation → highest (slice_set nodes n y) ≡ highest nodes
highest_set [] n x y h e = refl
highest_set {S} (z ∷ nodes) zero x y h e =
    ap (λ k. max k (highest nodes)) (e ∙ ap (λ (v : Node S). v.generation) (sym (same_some z x (Some z) refl h)))
highest_set (z ∷ nodes) (suc n) x y h e = ap (max z.generation) (highest_set nodes n x y h e)

spare_won : (r : Role) → won_role r ≡ Spare → r ≡ Spare
spare_won Spare h = refl
spare_won r h = (cc)

-- it is of the highest generation
pub asks_at_top : {S : Type 0} (M : Machine S) (C : Copying S) (w : World S) (i : Inv M C w) (n : ℕ) (x : Node S) →
    slice_get w.nodes n ≡ Some x → (x.role ≡ Spare → ⊥) → winner_in w.winners x.generation ≡ None →
    x.generation ≡ i.top
asks_at_top {S} M C w i n x h ns none = go (acting M C w i n x h ns)
  where
    o : LineOf M C w i.top i.trace x.generation
    o = i.each x.generation

    nobody : (stage : Stage) → winner_at stage o.line.primary o.line.backup ≡ None →
        (stage ≡ PrimaryWon) ⊎ (stage ≡ BackupWon) → ⊥
    nobody Undecided e (inl k) = (cc)
    nobody Undecided e (inr k) = (cc)
    nobody PrimaryWon e k = (cc)
    nobody BackupWon e k = (cc)

    go : Acting M C w i n x → x.generation ≡ i.top
    go (PrimaryActs q (PrimaryAtTop g s b)) = g
    go (PrimaryActs q (PrimaryEarlier g s b)) = absurd (nobody o.line.stage (sym o.tied ∙ none) (inr s))
    go (BackupActs q (BackupAtTop g s a)) = g
    go (BackupActs q (BackupEarlier g s a)) = absurd (nobody o.line.stage (sym o.tied ∙ none) (inl s))

-- what is settled is a prefix of its list
abbrev WonList : {S : Type 0} → Machine S → World S → World S → Type 0
WonList {S} M old new = (list : List Timed) (count : ℕ) (g m : ℕ) (y : Node S) → Settled M old list count →
    winner_in old.winners g ≡ None → winner_in new.winners g ≡ Some m → slice_get new.nodes m ≡ Some y →
    IsPrefix list (list_of y y.role)

won_list : {S : Type 0} (M : Machine S) (C : Copying S) → Lawful M → IsCopying M C →
    (w : World S) (i : Inv M C w) → AreFetched M w → (n : ℕ) (x : Node S) → slice_get w.nodes n ≡ Some x → (x.role ≡ Spare → ⊥) →
    winner_in w.winners x.generation ≡ None → Change M C w (with_winner w n x) → WonList M w (with_winner w n x)
won_list {S} M C laws copies w i f n x h ns none c list count g m y settled before after there =
    let a = winner_added w.winners won g m before after in
    let at_n : slice_get (slice_set w.nodes n (wins x)) n ≡ Some y =
    subst (λ k. slice_get (slice_set w.nodes n (wins x)) k ≡ Some y) (sym a.1) there in
    let y_is : wins x ≡ y = same_some (wins x) y (slice_get (slice_set w.nodes n (wins x)) n)
    (get_set w.nodes n x (wins x) h) at_n in
    let next = keep M C laws copies w (with_winner w n x) i f c in
    let high : x.generation ≡ highest (slice_set w.nodes n (wins x)) = asks_at_top M C w i n x h ns none
    ∙ sym (highest_is M C w i) ∙ sym (highest_set w.nodes n x (wins x) h refl) in
    let winner : winner_in (w.winners ++ won ∷ []) x.generation ≡ Some n =
    subst (λ k. winner_in (w.winners ++ won ∷ []) k ≡ Some n) a.0 (after ∙ ap Some (sym a.1)) in
    let s : Settles (with_winner w n x) n (wins x) =
    record {
      there = get_set w.nodes n x (wins x) h;
      highest_is = high;
      a_node = λ k. ns (spare_won x.role k);
      who = inl winner;
    } in
    let new = settles_trace M C (with_winner w n x) next.inv n (wins x) s in
    let old = settles_trace M C w i settled.n settled.x settled.settles in
    let e = extends i.trace next.inv.trace next.grows in (
      e.added,
      ap (λ ts. ts ++ e.added) (sym settled.list_is ∙ old.0) ∙ e.goes_on ∙ sym new.0
          ∙ ap (λ (z : Node S). list_of z z.role) y_is,
    )
  where
    won : Winner
    won = record { generation = x.generation; node = n }

-- ---- any number of actions

-- an action makes a winner: its list begins with what was settled before
record Winner_is {S : Type 0} (M : Machine S) (w new : World S) (m : ℕ) : Type 0 where
  x : Node S
  there : slice_get new.nodes m ≡ Some x
  begins : (list : List Timed) (count : ℕ) → Settled M w list count → IsPrefix list (list_of x x.role)

change_wins : {S : Type 0} (M : Machine S) (C : Copying S) → Lawful M → IsCopying M C → (w new : World S) → Inv M C w →
    AreFetched M w → Change M C w new → (g m : ℕ) → winner_in w.winners g ≡ None → winner_in new.winners g ≡ Some m →
    Winner_is M w new m
change_wins {S} M C laws copies w new i f (Wins n x role acts nj ns none) g m before after =
    let a = winner_added w.winners (record { generation = x.generation; node = n }) g m before after in
    let there = subst (λ k. slice_get (slice_set w.nodes n (wins x)) k ≡ Some (wins x)) a.1
    (get_set w.nodes n x (wins x) acts.there) in
    record {
      x = wins x;
      there = there;
      begins = λ list count settled.
          won_list M C laws copies w i f n x acts.there (λ k. ns (sym acts.role_is ∙ k)) none
          (Wins n x role acts nj ns none) list count g m (wins x) settled before after there;
    }
change_wins M C laws copies w new i f c g m before after = absurd (cc)

-- one action, and more after it that make such winners
wins_later : {S : Type 0} (M : Machine S) (C : Copying S) (laws : Lawful M) (copies : IsCopying M C) (w v new : World S)
    (i : Inv M C w) (f : AreFetched M w) (c : Change M C w v) (cs : Changes M C v new) (next : Next M C i.trace v) → WonList M v new →
    WonList M w new
wins_later {S} M C laws copies w v new i f c cs next rest list count g m y settled before after there =
    go (winner_in v.winners g) refl
  where
    go : (o : Option ℕ) → winner_in v.winners g ≡ o → IsPrefix list (list_of y y.role)
    go None e =
        let T = next.inv.trace in
        let s = settled_is M C v next.inv in
        let x = grows_by M C w v i next.inv next.grows list count (inputs 0 T) (steps T) settled s in
        prefix-trans list (inputs 0 T) (list_of y y.role) (x.added, x.goes_on)
        (rest (inputs 0 T) (steps T) g m y s e after there)
    go (Some k) e =
        let more = winners_all M C v new cs in
        let still : winner_in new.winners g ≡ Some k =
        subst (λ ws. winner_in ws g ≡ Some k) (sym more.1) (winner-longer v.winners more.0 g k e) in
        let won = change_wins M C laws copies w v i f c g m before
        (e ∙ ap Some (same_some k m (winner_in new.winners g) still after)) in
        let later = changes_longer M C v new cs m won.x won.there in
        let is : later.y ≡ y = same_some later.y y (slice_get new.nodes m) later.there there in
        prefix-trans list (list_of won.x won.x.role) (list_of y y.role) (won.begins list count settled)
        (subst (λ (z : Node S). IsPrefix (list_of won.x won.x.role) (list_of z z.role)) is later.longer)

changes_win : {S : Type 0} (M : Machine S) (C : Copying S) → Lawful M → IsCopying M C → (w new : World S) → Inv M C w →
    AreFetched M w → Changes M C w new → WonList M w new
changes_win M C laws copies w new i f Stays list count g m y settled before after there = (cc)
changes_win {S} M C laws copies w new i f (Then {mid = v} c cs) list count g m y settled before after there =
    let next = keep M C laws copies w v i f c in
    wins_later M C laws copies w v new i f c cs next (changes_win M C laws copies v new next.inv (fetched-keeps M C w v f c) cs) list count g m y settled
    before after there

pub changes_grow : {S : Type 0} (M : Machine S) (C : Copying S) → Lawful M → IsCopying M C → (w new : World S) →
    Reached M C w → Changes M C w new → Grows M w new
changes_grow M C laws copies w new h c =
    let i = reached M C laws copies w h in
    let f = reached-fetched M C w h in
    let k = keep_all M C laws copies w new i f c in
    record {
      settled = grows_by M C w new i k.inv k.grows;
      winners = λ g n h. (let v = winners_all M C w new c in
          subst (λ ws. winner_in ws g ≡ Some n) (sym v.1) (winner-longer w.winners v.0 g n h));
      won = changes_win M C laws copies w new i f c;
    }

pub row_grows : {S : Type 0} (M : Machine S) (C : Copying S) → Lawful M → IsCopying M C →
    (w new : World S) (e : Event) (r : Reply) → Reached M C w → Row M C w e r new → Grows M w new
row_grows M C laws copies w new e r h row =
    changes_grow M C laws copies w new h (row_changes M C w new e r row)
