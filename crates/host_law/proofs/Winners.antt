-- A node that has won a generation is draining or alone in it, or has left it for a later one.
use Rattle.std.proofs.Common.{[], ◌++◌, ◌<◌, ◌∙◌, ◌∷◌, ◌≡◌, ◌⊎◌, Bool, List, None, Option, Some, ap, arith, false, inl, inr, refl, subst, sym, true, ℕ}
use Rattle.std.specs.Prelude.{slice_get, slice_set}
use Rattle.pair_protocol.specs.Change as change
use Rattle.pair_protocol.proofs.Keeps.Arbiter.{winner-longer}
use Rattle.pair_protocol.proofs.Promises.Growth.{winner_added}
use Rattle.pair_protocol.proofs.Traces.Lists.{get-longer, get_set, get_set_other, same_or_not, same_some}
use Rattle.host_law.proofs.Later.{won-node}
use Rattle.host_law.proofs.Words.{Acts, After, Alone, AtBoot, Backup, Change, Copying, Draining, Joining, Machine, Node, Primary, Reached, Role, Spare, Winner, World, alone_takes, begun, fetches, gets_part, goes_live, halts, hears, holds, joiner, joins, passes_input, passes_mark, passes_read, plainly_steps, primary_steps, primary_takes, spare, winner_in, wins, with_winner, won_role}

abbrev pub has_won : Role → Bool
has_won Draining = true
has_won Alone = true
has_won Primary = false
has_won Backup = false
has_won Joining = false
has_won Spare = false

pub record IsPast {S : Type 0} (g : ℕ) (x : Node S) : Type 0 where
  pub a_node : x.role ≡ Spare → ⊥
  pub past : (g < x.generation) ⊎ ((g ≡ x.generation) × (has_won x.role ≡ true))

-- the node of this number is past a generation
pub record Past {S : Type 0} (nodes : List (Node S)) (g n : ℕ) : Type 0 where
  pub x : Node S
  pub there : slice_get nodes n ≡ Some x
  pub is : IsPast g x

abbrev pub ArePast : {S : Type 0} → World S → Type 0
ArePast w = (g n : ℕ) → winner_in w.winners g ≡ Some n → Past w.nodes g n

-- ---- one node changes

-- it keeps its generation, and its role or what it has won
record Keeps {S : Type 0} (a b : Node S) : Type 0 where
  generation : b.generation ≡ a.generation
  node : (a.role ≡ Spare → ⊥) → b.role ≡ Spare → ⊥
  won : has_won a.role ≡ true → has_won b.role ≡ true

keeps-past : {S : Type 0} (g : ℕ) (a b : Node S) → Keeps a b → IsPast g a → IsPast g b
keeps-past g a b k p = record {
  a_node = k.node p.a_node;
  past = elim p.past [
    | inl l ↦ inl (subst (λ j. g < j) (sym k.generation) l)
    | inr e ↦ inr (e.0 ∙ sym k.generation, k.won e.1)
  ];
}

same : {S : Type 0} (a b : Node S) → b.role ≡ a.role → b.generation ≡ a.generation → Keeps a b
same a b r g = record {
  generation = g;
  node = λ real s. real (sym r ∙ s);
  won = λ h. ap has_won r ∙ h;
}

-- in the place of one node is another
set-past : {S : Type 0} (nodes : List (Node S)) (m : ℕ) (a b : Node S) → slice_get nodes m ≡ Some a →
    (g n : ℕ) → (IsPast g a → IsPast g b) → Past nodes g n → Past (slice_set nodes m b) g n
set-past nodes m a b at g n k p = elim (same_or_not n m) [
  | inl e ↦ record {
    x = b;
    there = subst (λ j. slice_get (slice_set nodes m b) j ≡ Some b) (sym e) (get_set nodes m a b at);
    is = k (subst (IsPast g)
        (same_some p.x a (slice_get nodes m) (subst (λ j. slice_get nodes j ≡ Some p.x) e p.there) at) p.is);
  }
  | inr other ↦ record { x = p.x; there = get_set_other nodes m n b other ∙ p.there; is = p.is }
]

set : {S : Type 0} (w : World S) (m : ℕ) (a b : Node S) → slice_get w.nodes m ≡ Some a → Keeps a b → ArePast w →
    (g n : ℕ) → winner_in w.winners g ≡ Some n → Past (slice_set w.nodes m b) g n
set w m a b at k p g n won = set-past w.nodes m a b at g n (keeps-past g a b k) (p g n won)

-- a joining node has won nothing
joined : {S : Type 0} (a : Node S) (s : S) → a.role ≡ Joining → Keeps a (joins a s)
joined a s is = record {
  generation = refl;
  node = λ real e. (cc);
  won = λ h. (let k : false ≡ true = sym (ap has_won is) ∙ h in (cc));
}

live : {S : Type 0} (a : Node S) → Keeps a (goes_live a)
live a = record { generation = refl; node = λ real e. (cc); won = λ h. refl }

-- the role of a node that wins
won-role : (r : Role) → (r ≡ Joining → ⊥) → (r ≡ Spare → ⊥) → has_won (won_role r) ≡ true
won-role Primary j s = refl
won-role Backup j s = refl
won-role Joining j s = absurd (j refl)
won-role Draining j s = refl
won-role Alone j s = refl
won-role Spare j s = absurd (s refl)

wins-keeps : {S : Type 0} (a : Node S) → (a.role ≡ Joining → ⊥) → (a.role ≡ Spare → ⊥) → Keeps a (wins a)
wins-keeps a j s = record {
  generation = refl;
  node = λ real. won-node a.role real;
  won = λ h. won-role a.role j s;
}

wins-past : {S : Type 0} (w : World S) (m : ℕ) (a : Node S) → slice_get w.nodes m ≡ Some a → (a.role ≡ Joining → ⊥) →
    (a.role ≡ Spare → ⊥) → ArePast w → ArePast (with_winner w m a)
wins-past {S} w m a at j s p g n won = go (winner_in w.winners g) refl
  where
    it : Winner
    it = record { generation = a.generation; node = m }

    go : (o : Option ℕ) → winner_in w.winners g ≡ o → Past (slice_set w.nodes m (wins a)) g n
    go None e =
        let k = winner_added w.winners it g n e won in
        record {
          x = wins a;
          there = subst (λ i. slice_get (slice_set w.nodes m (wins a)) i ≡ Some (wins a)) k.1
              (get_set w.nodes m a (wins a) at);
          is = record { a_node = won-node a.role s; past = inr (k.0, won-role a.role j s) };
        }
    go (Some i) e =
        let same : i ≡ n = same_some i n (winner_in (w.winners ++ it ∷ []) g)
        (winner-longer w.winners (it ∷ []) g i e) won in
        set w m a (wins a) at (wins-keeps a j s) p g n (e ∙ ap Some same)

-- a node begins the next generation with a spare host, which has won nothing
begins-past : {S : Type 0} (M : Machine S) (C : Copying S) (w : World S) (m host : ℕ) (a b : Node S) →
    Acts w m a Alone → slice_get w.nodes host ≡ Some b → b.role ≡ Spare → ArePast w → (g n : ℕ) →
    winner_in w.winners g ≡ Some n → Past (slice_set (slice_set w.nodes m (begun M a)) host (joiner M C a)) g n
begins-past {S} M C w m host a b acts at is p g n won =
    set-past mid host b (joiner M C a) there g n (λ past. absurd (past.a_node is))
    (set-past w.nodes m a (begun M a) acts.there g n later (p g n won))
  where
    mid : List (Node S)
    mid = slice_set w.nodes m (begun M a)

    other : host ≡ m → ⊥
    other e =
        let k : a ≡ b = same_some a b (slice_get w.nodes m) acts.there
        (subst (λ j. slice_get w.nodes j ≡ Some b) e at) in
        let r : Alone ≡ Spare = sym acts.role_is ∙ ap (λ (v : Node S). v.role) k ∙ is in
        (cc)

    there : slice_get mid host ≡ Some b
    there = get_set_other w.nodes m host (begun M a) other ∙ at

    later : IsPast g a → IsPast g (begun M a)
    later past = record {
      a_node = λ e. (cc);
      past = inl (elim past.past [ inl l ↦ omega (arith, l) | inr e ↦ (let k = e.0 in omega (arith, k)) ]);
    }

module _ {S : Type 0} (M : Machine S) (C : Copying S) where
  change-past : (w v : World S) → Change M C w v → ArePast w → ArePast v
  change-past w v (change.PrimarySteps n x s gives acts is) p =
      set w n x (primary_steps M x s gives) acts.there (same x (primary_steps M x s gives) refl refl) p
  change-past w v (change.AloneSteps n x s gives acts is) p =
      set w n x (plainly_steps x s) acts.there (same x (plainly_steps x s) refl refl) p
  change-past w v (change.PrimaryTakes n x s i acts may free is) p =
      set w n x (primary_takes M x s i) acts.there (same x (primary_takes M x s i) refl refl) p
  change-past w v (change.AloneTakes n x s i acts may free is) p =
      set w n x (alone_takes M x s i) acts.there (same x (alone_takes M x s i) refl refl) p
  change-past w v (change.Holds n x m e acts is) p = set w n x (holds x e) acts.there (same x (holds x e) refl refl) p
  change-past w v (change.Hears n x m held replayed acts is) p =
      set w n x (hears x held replayed) acts.there (same x (hears x held replayed) refl refl) p
  change-past w v (change.ReplaysStep n x role e s gives acts replays is less takes) p =
      set w n x (plainly_steps x s) acts.there (same x (plainly_steps x s) refl refl) p
  change-past w v (change.ReplaysMark n x role e acts replays is at none) p =
      set w n x (passes_mark x) acts.there (same x (passes_mark x) refl refl) p
  change-past w v (change.ReplaysInput n x role e i s acts replays is at input takes) p =
      set w n x (passes_input x s) acts.there (same x (passes_input x s) refl refl) p
  change-past w v (change.Fetches n x role m drive sector number bytes acts replays at is) p =
      set w n x (fetches x bytes) acts.there (same x (fetches x bytes) refl refl) p
  change-past w v (change.ReplaysRead n x role drive sector number bytes s acts replays at is takes) p =
      set w n x (passes_read x s) acts.there (same x (passes_read x s) refl refl) p
  change-past w v (change.Stops n x there a_node) p = set w n x (halts x) there (same x (halts x) refl refl) p
  change-past w v (change.Wins n x role acts j s none) p =
      wins-past w n x acts.there (λ e. j (sym acts.role_is ∙ e)) (λ e. s (sym acts.role_is ∙ e)) p
  change-past w v (change.GoesLive n x acts is) p = set w n x (goes_live x) acts.there (live x) p
  change-past w v (change.Begins n host x y acts at is) p = begins-past M C w n host x y acts at is p
  change-past w v (change.GetsPart n x m index part acts is) p =
      set w n x (gets_part x index part) acts.there (same x (gets_part x index part) refl refl) p
  change-past w v (change.Joins n x parts s acts is makes) p = set w n x (joins x s) acts.there (joined x s acts.role_is) p
  change-past w v change.HostComes p = λ g n won. (let a = p g n won in
      record { x = a.x; there = get-longer w.nodes (spare M ∷ []) n a.x a.there; is = a.is })
  change-past w v c p = p

  pub reached-past : (w : World S) → Reached M C w → ArePast w
  reached-past w (AtBoot reads) = λ g n won. absurd (cc)
  reached-past w (After {w = v} r c) = change-past v w c (reached-past v r)
