-- The list of each node only grows. Inputs that are taken and entries that are held are appended to it; a node that wins,
-- goes live, begins a generation, joins one or halts keeps it.
use Rattle.std.proofs.Common.{[], ◌++◌, ◌∙◌, ◌∷◌, ◌≡◌, ◌⊎◌, List, Some, ap, append_assoc, inl, inr, refl, subst, sym, ℕ}
use Rattle.std.specs.Prelude.{slice_get, slice_set}
use Rattle.pair_protocol.proofs.Words.{Acts, Alone, Backup, Change, Changes, Copying, Draining, Entry, IsPrefix, Joining, Machine, Node, Primary, Role, Serving, Spare, Stays, Then, Timed, World, alone_takes, begun, gets_part, goes_live, halts, hears, holds, inputs_of, joiner, joins, list_of, passes_input, passes_mark, plainly_steps, primary_steps, primary_takes, spare, wins, won_role, fetches, passes_read}
use Rattle.pair_protocol.specs.Change as change
use Rattle.pair_protocol.proofs.Traces.Lists.{get-longer, get_set, get_set_other, prefix-refl, prefix-same, prefix-trans, same_or_not, same_some}
use Rattle.pair_protocol.proofs.Traces.Moves.{inputs_of-append}

-- a node becomes one with a longer list, or with the same
abbrev pub Longer : {S : Type 0} → Node S → Node S → Type 0
Longer x y = IsPrefix (list_of x x.role) (list_of y y.role)

-- in its place among these nodes is one with a longer list, or with the same
pub record IsLonger {S : Type 0} (nodes : List (Node S)) (n : ℕ) (x : Node S) : Type 0 where
  pub y : Node S
  pub there : slice_get nodes n ≡ Some y
  pub longer : Longer x y

-- ---- one node

alike_list : {S : Type 0} (x y : Node S) (q : Role) → y.list ≡ x.list → y.copy ≡ x.copy → y.held ≡ x.held
    → list_of y q ≡ list_of x q
alike_list x y Primary l c h = l
alike_list x y Alone l c h = l
alike_list x y Backup l c h = ap (λ ts. ts ++ inputs_of y.held) c ∙ ap (λ es. x.copy ++ inputs_of es) h
alike_list x y Draining l c h = ap (λ ts. ts ++ inputs_of y.held) c ∙ ap (λ es. x.copy ++ inputs_of es) h
alike_list x y Joining l c h = ap (λ ts. ts ++ inputs_of y.held) c ∙ ap (λ es. x.copy ++ inputs_of es) h
alike_list x y Spare l c h = refl

alike : {S : Type 0} (x y : Node S) → y.role ≡ x.role → y.list ≡ x.list → y.copy ≡ x.copy → y.held ≡ x.held → Longer x y
alike x y role l c h =
    prefix-same _ _ (sym (alike_list x y x.role l c h) ∙ ap (list_of y) (sym role))

-- a node that serves takes an input
serves_longer : {S : Type 0} (x y : Node S) (more : List Timed) → Serving x.role → y.role ≡ x.role
    → y.list ≡ x.list ++ more → Longer x y
serves_longer x y more (inl is) role l =
    (more, ap (λ ts. ts ++ more) (ap (list_of x) is) ∙ sym l ∙ sym (ap (list_of y) (role ∙ is)))
serves_longer x y more (inr is) role l =
    (more, ap (λ ts. ts ++ more) (ap (list_of x) is) ∙ sym l ∙ sym (ap (list_of y) (role ∙ is)))

holds_longer : {S : Type 0} (x : Node S) (e : Entry) → x.role ≡ Backup → Longer x (holds x e)
holds_longer x e is = (
  inputs_of (e ∷ []),
  ap (λ ts. ts ++ inputs_of (e ∷ [])) (ap (list_of x) is) ∙ append_assoc x.copy (inputs_of x.held) (inputs_of (e ∷ []))
      ∙ ap (λ ts. x.copy ++ ts) (sym (inputs_of-append x.held (e ∷ []))) ∙ sym (ap (list_of (holds x e)) is),
)

pub won_list : {S : Type 0} (x : Node S) (q : Role) → list_of (wins x) (won_role q) ≡ list_of x q
won_list x Primary = refl
won_list x Alone = refl
won_list x Backup = refl
won_list x Draining = refl
won_list x Joining = refl
won_list x Spare = refl

-- ---- the nodes of a world

same_node : {S : Type 0} (nodes : List (Node S)) (n : ℕ) (x : Node S) → slice_get nodes n ≡ Some x → IsLonger nodes n x
same_node nodes n x there = record { y = x; there = there; longer = prefix-refl (list_of x x.role) }

-- one node becomes another one with a longer list
set_longer : {S : Type 0} (nodes : List (Node S)) (m : ℕ) (a b : Node S) → slice_get nodes m ≡ Some a → Longer a b
    → (n : ℕ) (x : Node S) → slice_get nodes n ≡ Some x → IsLonger (slice_set nodes m b) n x
set_longer nodes m a b at longer n x there = elim (same_or_not n m) [
  | inl e ↦ record {
    y = b;
    there = subst (λ k. slice_get (slice_set nodes m b) k ≡ Some b) (sym e) (get_set nodes m a b at);
    longer = subst (λ z. Longer z b)
        (same_some a x (slice_get nodes m) at (subst (λ k. slice_get nodes k ≡ Some x) e there)) longer;
  }
  | inr other ↦ same_node (slice_set nodes m b) n x (get_set_other nodes m n b other ∙ there)
]

longer_then : {S : Type 0} (mid new : List (Node S)) (n : ℕ) (x : Node S) (a : IsLonger mid n x)
    → IsLonger new n a.y → IsLonger new n x
longer_then mid new n x a b = record {
  y = b.y;
  there = b.there;
  longer = prefix-trans (list_of x x.role) (list_of a.y a.y.role) (list_of b.y b.y.role) a.longer b.longer;
}

-- a node begins a generation with a spare host, whose list was empty
pair_longer : {S : Type 0} (M : Machine S) (C : Copying S) (w : World S) (m host : ℕ) (a b : Node S)
    → Acts w m a Alone → slice_get w.nodes host ≡ Some b → b.role ≡ Spare → (n : ℕ) (x : Node S)
    → slice_get w.nodes n ≡ Some x → IsLonger (slice_set (slice_set w.nodes m (begun M a)) host (joiner M C a)) n x
pair_longer {S} M C w m host a b acts at is n x there =
    longer_then mid _ n x first (second (same_or_not host m))
  where
    mid : List (Node S)
    mid = slice_set w.nodes m (begun M a)

    first : IsLonger mid n x
    first = set_longer w.nodes m a (begun M a) acts.there
        (prefix-same _ _ (ap (list_of a) acts.role_is)) n x there

    second : (host ≡ m) ⊎ (host ≡ m → ⊥) → IsLonger (slice_set mid host (joiner M C a)) n first.y
    second (inl e) = absurd
        (let k = same_some a b (slice_get w.nodes m) acts.there (subst (λ k. slice_get w.nodes k ≡ Some b) e at) in
        let r = acts.role_is in (cc))
    second (inr other) =
        set_longer mid host b (joiner M C a) (get_set_other w.nodes m host (begun M a) other ∙ at)
        (list_of (joiner M C a) Joining, ap (λ ts. ts ++ list_of (joiner M C a) Joining) (ap (list_of b) is)) n first.y
        first.there

module _ {S : Type 0} (M : Machine S) (C : Copying S) where
  pub change_longer : (w new : World S) → Change M C w new → (n : ℕ) (x : Node S) → slice_get w.nodes n ≡ Some x
      → IsLonger new.nodes n x
  change_longer w new (change.PrimarySteps m a s gives acts steps) n x there =
      set_longer w.nodes m a (primary_steps M a s gives) acts.there (alike a (primary_steps M a s gives) refl refl refl refl) n x there
  change_longer w new (change.AloneSteps m a s gives acts steps) n x there =
      set_longer w.nodes m a (plainly_steps a s) acts.there (alike a (plainly_steps a s) refl refl refl refl) n x there
  change_longer w new (change.PrimaryTakes m a s i acts may free takes) n x there =
      set_longer w.nodes m a (primary_takes M a s i) acts.there (serves_longer a (primary_takes M a s i) _ (inl acts.role_is) refl refl) n x there
  change_longer w new (change.AloneTakes m a s i acts may free takes) n x there =
      set_longer w.nodes m a (alone_takes M a s i) acts.there (serves_longer a (alone_takes M a s i) _ (inr acts.role_is) refl refl) n x there
  change_longer w new (change.Holds m a k e acts brings) n x there =
      set_longer w.nodes m a (holds a e) acts.there (holds_longer a e acts.role_is) n x there
  change_longer w new (change.Hears m a k held replayed acts brings) n x there =
      set_longer w.nodes m a (hears a held replayed) acts.there (alike a (hears a held replayed) refl refl refl refl) n x there
  change_longer w new (change.ReplaysStep m a role e s gives acts q h c g) n x there =
      set_longer w.nodes m a (plainly_steps a s) acts.there (alike a (plainly_steps a s) refl refl refl refl) n x there
  change_longer w new (change.ReplaysMark m a role e acts q h c g) n x there =
      set_longer w.nodes m a (passes_mark a) acts.there (alike a (passes_mark a) refl refl refl refl) n x there
  change_longer w new (change.ReplaysInput m a role e i s acts q h c g v) n x there =
      set_longer w.nodes m a (passes_input a s) acts.there (alike a (passes_input a s) refl refl refl refl) n x there
  change_longer w new (change.Fetches m a role k d s number bytes acts q h brings) n x there =
      set_longer w.nodes m a (fetches a bytes) acts.there (alike a (fetches a bytes) refl refl refl refl) n x there
  change_longer w new (change.ReplaysRead m a role d s number bytes t acts q h come v) n x there =
      set_longer w.nodes m a (passes_read a t) acts.there (alike a (passes_read a t) refl refl refl refl) n x there
  change_longer w new (change.Stops m a at is) n x there =
      set_longer w.nodes m a (halts a) at (alike a (halts a) refl refl refl refl) n x there
  change_longer w new (change.Wins m a role acts nj ns none) n x there =
      set_longer w.nodes m a (wins a) acts.there (prefix-same _ _ (sym (won_list a a.role))) n x there
  change_longer w new (change.GoesLive m a acts all) n x there =
      set_longer w.nodes m a (goes_live a) acts.there (prefix-same _ _ (ap (list_of a) acts.role_is)) n x there
  change_longer w new (change.Begins m host a b acts at is) n x there =
      pair_longer M C w m host a b acts at is n x there
  change_longer w new (change.GetsPart m a k index part acts brings) n x there =
      set_longer w.nodes m a (gets_part a index part) acts.there (alike a (gets_part a index part) refl refl refl refl) n x there
  change_longer w new (change.Joins m a parts s acts all makes) n x there =
      set_longer w.nodes m a (joins a s) acts.there (prefix-same _ _ (ap (list_of a) acts.role_is)) n x there
  change_longer w new change.HostComes n x there =
      same_node (w.nodes ++ spare M ∷ []) n x (get-longer w.nodes (spare M ∷ []) n x there)
  change_longer w new c n x there = same_node w.nodes n x there

  pub changes_longer : (w new : World S) → Changes M C w new → (n : ℕ) (x : Node S) → slice_get w.nodes n ≡ Some x
      → IsLonger new.nodes n x
  changes_longer w new Stays n x there = same_node w.nodes n x there
  changes_longer w new (Then {mid = v} c cs) n x there =
      let a = change_longer w v c n x there in
      longer_then v.nodes new.nodes n x a (changes_longer v new cs n a.y a.there)
