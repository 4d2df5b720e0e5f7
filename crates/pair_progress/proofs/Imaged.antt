-- In every world that actions reach: while the host of a generation joins, nothing of that generation was acknowledged, so its
-- primary still has its image.
use Rattle.std.proofs.Common.{◌≡◌, ℕ, zero, suc, ◌⊎◌, inl, inr, false, is_none, List, Some, [], ◌∷◌, ◌++◌, length, refl, sym, ap, subst, ◌∙◌, arith}
use Rattle.std.specs.Prelude.{slice_get, slice_set}
use Rattle.pair_protocol.proofs.Words.{Acknowledgement, Acts, After, Alone, Among, AtBoot, Backup, Change, Copying, Draining, ImagePart, IsCopying, Joining, Lawful, LogEntry, Machine, Message, Node, Primary, Reached, Reads, Released, Role, SectorRead, Spare, World, WriteDone, begun, first_node, hears, joiner, opening, sector_record, spare, with_host, with_message, with_node, with_pair, with_winner, wins, won_role}
use Rattle.pair_protocol.specs.Change as change
use Rattle.pair_protocol.proofs.Invariant.{AtTop, BackupLeft, Inv, Presence, PrimaryLeft, Unseen, Unused}
use Rattle.pair_protocol.proofs.Invariant.Acting.{Acting, ActingBackup, BackupActs, PrimaryActs, acting, acting_backup}
use Rattle.pair_protocol.proofs.Keeps.Alone.{alone}
use Rattle.pair_protocol.proofs.Keeps.Link.{message-split}
use Rattle.pair_protocol.proofs.Promises.Faithful.{reached}
use Rattle.pair_protocol.proofs.Traces.Lists.{among-get, get-last, get_set_cases, same_some}

pub record Imaged {S : Type 0} (w : World S) : Type 0 where
  pub unheard : (m : ℕ) (y : Node S) → slice_get w.nodes m ≡ Some y → y.role ≡ Joining → (h r : ℕ) →
      Among (Acknowledgement y.generation h r) w.messages → ⊥
  pub image : (n m : ℕ) (x y : Node S) → slice_get w.nodes n ≡ Some x → slice_get w.nodes m ≡ Some y → x.role ≡ Primary →
      y.role ≡ Joining → x.generation ≡ y.generation → is_none x.image ≡ false

-- one node becomes another that is primary or joins only if it did, with the same generation and image
keeps_roles : {S : Type 0} (w : World S) (k : ℕ) (o z : Node S) → slice_get w.nodes k ≡ Some o →
    (z.role ≡ Primary → o.role ≡ Primary) → (z.role ≡ Joining → o.role ≡ Joining) → z.generation ≡ o.generation →
    z.image ≡ o.image → Imaged w → Imaged (with_node w k z)
keeps_roles {S} w k o z there leads joins generation same i = record {
  unheard = λ m y at role h r said. let b = before m y at in
      i.unheard m b.0 b.1 (b.3 role) h r (subst (λ g. Among (Acknowledgement g h r) w.messages) b.4 said);
  image = λ n m x y at_n at_m primary role e. let a = before n x at_n in
      let b = before m y at_m in
      ap is_none a.5 ∙ i.image n m a.0 b.0 a.1 b.1 (a.2 primary) (b.3 role) (sym a.4 ∙ e ∙ b.4);
}
  where
    -- the node that was in its place
    before : (m : ℕ) (y : Node S) → slice_get (slice_set w.nodes k z) m ≡ Some y →
        (b : Node S) × (slice_get w.nodes m ≡ Some b) × (y.role ≡ Primary → b.role ≡ Primary)
        × (y.role ≡ Joining → b.role ≡ Joining) × (y.generation ≡ b.generation) × (y.image ≡ b.image)
    before m y at = elim (get_set_cases w.nodes k m z y at) [
      | inl e ↦ (
        o,
        subst (λ j. slice_get w.nodes j ≡ Some o) (sym e.0) there,
        (λ r. leads (ap (λ (v : Node S). v.role) (sym e.1) ∙ r)),
        (λ r. joins (ap (λ (v : Node S). v.role) (sym e.1) ∙ r)),
        ap (λ (v : Node S). v.generation) e.1 ∙ generation,
        ap (λ (v : Node S). v.image) e.1 ∙ same,
      )
      | inr old ↦ (y, old, (λ r. r), (λ r. r), refl, refl)
    ]

-- it keeps its role
keeps_node : {S : Type 0} (w : World S) (k : ℕ) (o z : Node S) → slice_get w.nodes k ≡ Some o → z.role ≡ o.role →
    z.generation ≡ o.generation → z.image ≡ o.image → Imaged w → Imaged (with_node w k z)
keeps_node w k o z there role generation same i =
    keeps_roles w k o z there (λ r. sym role ∙ r) (λ r. sym role ∙ r) generation same i

-- a message that acknowledges nothing
keeps_message : {S : Type 0} (w : World S) (message : Message) → ((g h r : ℕ) → Acknowledgement g h r ≡ message → ⊥) →
    Imaged w → Imaged (with_message w message)
keeps_message w message other i = record {
  unheard = λ m y at role h r said. elim (message-split (Acknowledgement y.generation h r) message w.messages said) [
    | inl old ↦ i.unheard m y at role h r old
    | inr new ↦ other y.generation h r new
  ];
  image = i.image;
}

-- a primary hears an acknowledgement; then no host joins its generation
hears_one : {S : Type 0} (w : World S) (n : ℕ) (x : Node S) (m h r : ℕ) → Acts w n x Primary →
    slice_get w.messages m ≡ Some (Acknowledgement x.generation h r) → Imaged w → Imaged (with_node w n (hears x h r))
hears_one {S} w n x m h r acts got i = record {
  unheard = λ k y at role g s said. i.unheard k y (joining k y at role) role g s said;
  image = λ a b z y at_a at_b primary role e. elim (get_set_cases w.nodes n a (hears x h r) z at_a) [
    | inl f ↦ absurd (i.unheard b y (joining b y at_b role) role h r
        (subst (λ g. Among (Acknowledgement g h r) w.messages) (ap (λ (v : Node S). v.generation) (sym f.1) ∙ e)
        (among-get w.messages m (Acknowledgement x.generation h r) got)))
    | inr old ↦ i.image a b z y old (joining b y at_b role) primary role e
  ];
}
  where
    -- a host that joins is another one
    joining : (k : ℕ) (y : Node S) → slice_get (slice_set w.nodes n (hears x h r)) k ≡ Some y → y.role ≡ Joining →
        slice_get w.nodes k ≡ Some y
    joining k y at role = elim (get_set_cases w.nodes n k (hears x h r) y at) [
      | inl e ↦ absurd (let k : Primary ≡ Joining = sym acts.role_is ∙ ap (λ (v : Node S). v.role) (sym e.1) ∙ role in (cc))
      | inr old ↦ old
    ]

-- a host that joins is the backup of its generation
joins_as : {S : Type 0} (M : Machine S) (C : Copying S) (w : World S) (i : Inv M C w) (m : ℕ) (y : Node S) →
    slice_get w.nodes m ≡ Some y → y.role ≡ Joining → m ≡ (i.each y.generation).line.backup
joins_as {S} M C w i m y at role = go (acting M C w i m y at (λ k. (cc)))
  where
    go : Acting M C w i m y → m ≡ (i.each y.generation).line.backup
    go (PrimaryActs q p) = absurd (elim q.is_primary.role [ inl r ↦ (cc) | inr r ↦ (let k = r.0 in (cc)) ])
    go (BackupActs q p) = q.spot

-- a backup acknowledges, and no host joins its generation
acknowledges : {S : Type 0} (M : Machine S) (C : Copying S) (w : World S) → Inv M C w → (n : ℕ) (x : Node S) (h r : ℕ) →
    Acts w n x Backup → Imaged w → Imaged (with_message w (Acknowledgement x.generation h r))
acknowledges {S} M C w inv n x h r acts i = record {
  unheard = λ m y at role j s said.
      elim (message-split (Acknowledgement y.generation j s) (Acknowledgement x.generation h r) w.messages said) [
        | inl old ↦ i.unheard m y at role j s old
        | inr new ↦ other m y at role (cc)
      ];
  image = i.image;
}
  where
    other : (m : ℕ) (y : Node S) → slice_get w.nodes m ≡ Some y → y.role ≡ Joining → y.generation ≡ x.generation → ⊥
    other m y at role same =
        let b : ActingBackup M C w inv n x = acting_backup M C w inv n x Backup acts tt in
        let place : m ≡ n =
        subst (λ g. m ≡ (inv.each g).line.backup) same (joins_as M C w inv m y at role) ∙ sym b.spot in
        let e : x ≡ y =
        same_some x y (slice_get w.nodes n) acts.there (subst (λ k. slice_get w.nodes k ≡ Some y) place at) in
        let k : Backup ≡ Joining = sym acts.role_is ∙ ap (λ (v : Node S). v.role) e ∙ role in
        (cc)

-- nothing is known of the generation after that of a live node
pub unseen_next : {S : Type 0} (M : Machine S) (C : Copying S) (w : World S) (i : Inv M C w) (n : ℕ) (x : Node S) →
    Acts w n x Alone → Unseen w.nodes w.messages w.winners (suc x.generation)
unseen_next {S} M C w i n x acts = go (i.each (suc x.generation)).presence
  where
    high : x.generation ≡ i.top
    high = (alone M C w i n x acts).at_top

    go : Presence M C w.nodes w.messages w.winners i.top i.trace (suc x.generation) (i.each (suc x.generation)).line →
        Unseen w.nodes w.messages w.winners (suc x.generation)
    go (AtTop g s a b) = absurd (let h = high in omega (arith, g, h))
    go (PrimaryLeft g s a b) = absurd (let h = high in omega (arith, g, h))
    go (BackupLeft g s a b) = absurd (let h = high in omega (arith, g, h))
    go (Unused g u) = u

-- a generation begins: its primary has its image, and nothing of it was acknowledged
begins : {S : Type 0} (M : Machine S) (C : Copying S) (w : World S) (n h : ℕ) (x : Node S) →
    Unseen w.nodes w.messages w.winners (suc x.generation) → Imaged w → Imaged (with_pair M C w n h x)
begins {S} M C w n h x u i = record {
  unheard = λ m z at role j r said. elim (joining m z at role) [
    | inl e ↦ u.no_ack j r (subst (λ g. Among (Acknowledgement g j r) w.messages) e said)
    | inr old ↦ i.unheard m z old role j r said
  ];
  image = λ a b z v at_a at_b primary role e. elim (leading a z at_a primary) [
    | inl has ↦ has
    | inr old ↦ elim (joining b v at_b role) [
      | inl f ↦ absurd (u.nobody a z old (λ k. (cc)) (e ∙ f))
      | inr older ↦ i.image a b z v old older primary role e
    ]
  ];
}
  where
    nodes : List (Node S)
    nodes = slice_set w.nodes n (begun M x)

    joining : (m : ℕ) (z : Node S) → slice_get (slice_set nodes h (joiner M C x)) m ≡ Some z → z.role ≡ Joining →
        (z.generation ≡ suc x.generation) ⊎ (slice_get w.nodes m ≡ Some z)
    joining m z at role = elim (get_set_cases nodes h m (joiner M C x) z at) [
      | inl e ↦ inl (ap (λ (v : Node S). v.generation) e.1)
      | inr old ↦ elim (get_set_cases w.nodes n m (begun M x) z old) [
        | inl e ↦ absurd (let k : Primary ≡ Joining = ap (λ (v : Node S). v.role) (sym e.1) ∙ role in (cc))
        | inr older ↦ inr older
      ]
    ]

    leading : (m : ℕ) (z : Node S) → slice_get (slice_set nodes h (joiner M C x)) m ≡ Some z → z.role ≡ Primary →
        (is_none z.image ≡ false) ⊎ (slice_get w.nodes m ≡ Some z)
    leading m z at role = elim (get_set_cases nodes h m (joiner M C x) z at) [
      | inl e ↦ absurd (let k : Joining ≡ Primary = ap (λ (v : Node S). v.role) (sym e.1) ∙ role in (cc))
      | inr old ↦ elim (get_set_cases w.nodes n m (begun M x) z old) [
        | inl e ↦ inl (ap (λ (v : Node S). is_none v.image) e.1)
        | inr older ↦ inr older
      ]
    ]

-- a host is added, which has no role
comes : {S : Type 0} (M : Machine S) (w : World S) → Imaged w → Imaged (with_host M w)
comes {S} M w i = record {
  unheard = λ m y at role h r said. i.unheard m y (old m y at (λ k. (cc))) role h r said;
  image = λ n m x y at_n at_m primary role e.
      i.image n m x y (old n x at_n (λ k. (cc))) (old m y at_m (λ k. (cc))) primary role e;
}
  where
    old : (m : ℕ) (y : Node S) → slice_get (w.nodes ++ spare M ∷ []) m ≡ Some y → (y.role ≡ Spare → ⊥) →
        slice_get w.nodes m ≡ Some y
    old m y at real = elim (get-last w.nodes (spare M) y m at) [
      | inl there ↦ there
      | inr e ↦ absurd (real (ap (λ (v : Node S). v.role) e))
    ]

won_leads : (r : Role) → won_role r ≡ Primary → r ≡ Primary
won_leads Primary k = refl
won_leads Backup k = absurd (cc)
won_leads Joining k = absurd (cc)
won_leads Draining k = absurd (cc)
won_leads Alone k = absurd (cc)
won_leads Spare k = absurd (cc)

won_joins : (r : Role) → won_role r ≡ Joining → r ≡ Joining
won_joins Joining k = refl
won_joins Primary k = absurd (cc)
won_joins Backup k = absurd (cc)
won_joins Draining k = absurd (cc)
won_joins Alone k = absurd (cc)
won_joins Spare k = absurd (cc)

module _ {S : Type 0} (M : Machine S) (C : Copying S) where
  -- a node wins its generation
  wins_one : (w : World S) (n : ℕ) (x : Node S) → slice_get w.nodes n ≡ Some x → Imaged w → Imaged (with_winner w n x)
  wins_one w n x there i =
      let k = keeps_roles w n x (wins x) there (won_leads x.role) (won_joins x.role) refl refl i in
      record { unheard = k.unheard; image = k.image }

  keeps : (w new : World S) → Inv M C w → Imaged w → Change M C w new → Imaged new
  keeps w new inv i (change.PrimarySteps n x s gives acts h) = keeps_node w n x _ acts.there refl refl refl i
  keeps w new inv i (change.AloneSteps n x s gives acts h) = keeps_node w n x _ acts.there refl refl refl i
  keeps w new inv i (change.PrimaryTakes n x s j acts may ok h) = keeps_node w n x _ acts.there refl refl refl i
  keeps w new inv i (change.AloneTakes n x s j acts may ok h) = keeps_node w n x _ acts.there refl refl refl i
  keeps w new inv i (change.Sends n x index e acts h) =
      keeps_message w (LogEntry x.generation index e) (λ g h r k. (cc)) i
  keeps w new inv i (change.Holds n x m e acts h) = keeps_node w n x _ acts.there refl refl refl i
  keeps w new inv i (change.Acknowledges n x replayed acts h) =
      acknowledges M C w inv n x (length x.held) replayed acts i
  keeps w new inv i (change.Hears n x m held replayed acts h) = hears_one w n x m held replayed acts h i
  keeps w new inv i (change.ReplaysStep n x r e s gives acts which g c h) = keeps_node w n x _ acts.there refl refl refl i
  keeps w new inv i (change.ReplaysMark n x r e acts which g c h) = keeps_node w n x _ acts.there refl refl refl i
  keeps w new inv i (change.ReplaysInput n x r e j s acts which g c h k) = keeps_node w n x _ acts.there refl refl refl i
  keeps w new inv i (change.Fetches n x r m d s k bytes acts which at brings) =
      keeps_node w n x _ acts.there refl refl refl i
  keeps w new inv i (change.ReplaysRead n x r d s k bytes t acts which at come h) =
      keeps_node w n x _ acts.there refl refl refl i
  keeps w new inv i (change.PrimaryReleases n x name o acts h c) = keeps_message w (Released o) (λ g h r k. (cc)) i
  keeps w new inv i (change.AloneReleases n x name o acts h) = keeps_message w (Released o) (λ g h r k. (cc)) i
  keeps w new inv i (change.Stops n x there ns) = keeps_node w n x _ there refl refl refl i
  keeps w new inv i (change.Wins n x r acts nj ns won) = wins_one w n x acts.there i
  keeps w new inv i (change.GoesLive n x acts all) =
      keeps_roles w n x _ acts.there (λ k. absurd (cc)) (λ k. absurd (cc)) refl refl i
  keeps w new inv i (change.Begins n h x y acts there is) = begins M C w n h x (unseen_next M C w inv n x acts) i
  keeps w new inv i (change.SendsPart n x s k p acts h got) =
      keeps_message w (ImagePart x.generation k p) (λ g h r k. (cc)) i
  keeps w new inv i (change.GetsPart n x m k p acts h) = keeps_node w n x _ acts.there refl refl refl i
  keeps w new inv i (change.Joins n x ps s acts got made) =
      keeps_roles w n x _ acts.there (λ k. absurd (cc)) (λ k. absurd (cc)) refl refl i
  keeps w new inv i change.HostComes = comes M w i
  keeps w new inv i (change.Puts m write h) =
      let k = keeps_message w (WriteDone write.number) (λ g h r k. (cc)) i in
      record { unheard = k.unheard; image = k.image }
  keeps w new inv i (change.ReadsSector address) =
      keeps_message w (SectorRead address (sector_record M w.puts address).number (sector_record M w.puts address).bytes)
      (λ g h r k. (cc)) i
  keeps w new inv i c = record { unheard = i.unheard; image = i.image }

none_joins : {S : Type 0} (M : Machine S) (reads : Reads) (m : ℕ) (y : Node S) →
    slice_get (opening M reads).nodes m ≡ Some y → y.role ≡ Joining → ⊥
none_joins {S} M reads zero y at role = let k : Primary ≡ Joining = ap (λ (v : Node S). v.role)
    (same_some (first_node M reads Primary) y (Some (first_node M reads Primary)) refl at) ∙ role in
    (cc)
none_joins {S} M reads (suc zero) y at role = let k : Backup ≡ Joining = ap (λ (v : Node S). v.role)
    (same_some (first_node M reads Backup) y (Some (first_node M reads Backup)) refl at) ∙ role in
    (cc)
none_joins M reads (suc (suc m)) y at role = (cc)

pub imaged : {S : Type 0} (M : Machine S) (C : Copying S) → Lawful M → IsCopying M C → (w : World S) → Reached M C w →
    Imaged w
imaged M C laws copies w (AtBoot reads) = record {
  unheard = λ m y at role h r said. said;
  image = λ n m x y at_n at_m primary role e. absurd (none_joins M reads m y at_m role);
}
imaged M C laws copies w (After {w = v} r c) =
    keeps M C v w (reached M C laws copies v r) (imaged M C laws copies v r) c
