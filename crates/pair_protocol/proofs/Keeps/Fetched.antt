-- In every world that actions reach, the bytes that a node keeps for its next entry are an answer of the disk to that read:
-- they arrive with such an answer, and are dropped with the entry.
use Rattle.std.proofs.Common.{[], ◌++◌, ◌∙◌, ◌∷◌, ◌≡◌, List, None, Some, ap, arith, inl, inr, refl, subst, suc, sym, zero, ℕ}
use Rattle.std.proofs.lemmas.Option.{slice_get_within}
use Rattle.std.specs.Prelude.{slice_get, slice_set}
use Rattle.pair_protocol.proofs.Words.{After, Among, AtBoot, Backup, Change, Copying, Draining, Entry, Machine, Message, Node, Reached, Reads, Replaying, Role, SectorRead, World, bare_of, count_of, first_node, input_of, opening}
use Rattle.log_entry.specs.declared.entry.Entry.TheVariants as entry
use Rattle.pair_protocol.specs.Change as change
use Rattle.pair_protocol.specs.Change.{IsAtRead}
use Rattle.pair_protocol.specs.Node as node
use Rattle.pair_protocol.proofs.Traces.Lists.{among-get, among-prefix, get_set_cases, prefix-append, same_some}

-- bytes are an answer of the disk to the read that a node has come to
pub record IsAnswered {S : Type 0} (M : Machine S) (messages : List Message) (x : Node S)
    (bytes : List ℕ) : Type 0 where
  pub replays : Replaying x.role
  pub drive : ℕ
  pub sector : ℕ
  pub number : ℕ
  pub at : IsAtRead M x drive sector number
  pub answer : Among (SectorRead (M.address x.machine drive sector) number bytes) messages

abbrev pub Answered : {S : Type 0} → Machine S → List Message → Node S → Type 0
Answered M messages x = (bytes : List ℕ) → x.fetched ≡ Some bytes → IsAnswered M messages x bytes

abbrev pub AreFetched : {S : Type 0} → Machine S → World S → Type 0
AreFetched {S} M w = (n : ℕ) (x : Node S) → slice_get w.nodes n ≡ Some x → Answered M w.messages x

module _ {S : Type 0} (M : Machine S) (w : World S) (f : AreFetched M w) where
  -- more is sent
  more : (messages : List Message) (n : ℕ) (x : Node S) → slice_get w.nodes n ≡ Some x →
      Answered M (w.messages ++ messages) x
  more messages n x there bytes is =
      let a = f n x there bytes is in
      record {
        replays = a.replays;
        drive = a.drive;
        sector = a.sector;
        number = a.number;
        at = a.at;
        answer = among-prefix _ w.messages (w.messages ++ messages) (prefix-append w.messages messages) a.answer;
      }

  -- one node changes
  set : (m : ℕ) (y : Node S) → Answered M w.messages y → (n : ℕ) (x : Node S) →
      slice_get (slice_set w.nodes m y) n ≡ Some x → Answered M w.messages x
  set m y answered n x there = elim (get_set_cases w.nodes m n y x there) [
    | inl k ↦ subst (Answered M w.messages) (sym k.1) answered
    | inr k ↦ f n x k
  ]

  -- a node that does not replay keeps no bytes
  silent : (n : ℕ) (x y : Node S) → slice_get w.nodes n ≡ Some x → (Replaying x.role → ⊥) → y.fetched ≡ x.fetched →
      Answered M w.messages y
  silent n x y there serves same bytes is = absurd (serves (f n x there bytes (sym same ∙ is)).replays)

  -- nor does one that keeps none
  none : (y : Node S) → y.fetched ≡ None → Answered M w.messages y
  none y nothing bytes is = (cc)

  -- a node that replays keeps its place
  stays : (n : ℕ) (x y : Node S) → slice_get w.nodes n ≡ Some x → y.fetched ≡ x.fetched → y.machine ≡ x.machine →
      y.replayed ≡ x.replayed → (Replaying x.role → Replaying y.role) →
      ((e : Entry) → slice_get x.held x.replayed ≡ Some e → slice_get y.held x.replayed ≡ Some e) →
      Answered M w.messages y
  stays n x y there same machine replayed role held bytes is =
      let a = f n x there bytes (sym same ∙ is) in
      record {
        replays = role a.replays;
        drive = a.drive;
        sector = a.sector;
        number = a.number;
        at = ap (slice_get y.held) replayed ∙ held _ a.at
            ∙ ap (λ s. Some (entry.Read (M.count s) a.drive a.sector a.number)) (sym machine);
        answer = subst (λ s. Among (SectorRead (M.address s a.drive a.sector) a.number bytes) w.messages) (sym machine)
            a.answer;
      }

  -- the next entry is another one than the read for which bytes have come
  other : (n : ℕ) (x y : Node S) (e : Entry) → slice_get w.nodes n ≡ Some x → slice_get x.held x.replayed ≡ Some e →
      ((drive sector number : ℕ) → e ≡ entry.Read (M.count x.machine) drive sector number → ⊥) →
      y.fetched ≡ x.fetched → Answered M w.messages y
  other n x y e there next not_read same bytes is =
      let a = f n x there bytes (sym same ∙ is) in
      absurd (not_read a.drive a.sector a.number (same_some e _ (slice_get x.held x.replayed) next a.at))

not_serving : (r q : Role) → r ≡ q → (q ≡ Backup → ⊥) → (q ≡ Draining → ⊥) → Replaying r → ⊥
not_serving r q is no_backup no_draining (inl h) = no_backup (sym is ∙ h)
not_serving r q is no_backup no_draining (inr h) = no_draining (sym is ∙ h)

won_replays : (r : Role) → Replaying r → Replaying (node.won_role r)
won_replays r (inl h) = inr (ap node.won_role h)
won_replays r (inr h) = inr (ap node.won_role h)

pub fetched-keeps : {S : Type 0} (M : Machine S) (C : Copying S) (w new : World S) → AreFetched M w →
    Change M C w new → AreFetched M new
fetched-keeps M C w new f (change.PrimarySteps n x s o acts h) =
    set M w f n _ (silent M w f n x _ acts.there (not_serving x.role node.Primary acts.role_is (λ k. (cc)) (λ k. (cc))) refl)
fetched-keeps M C w new f (change.AloneSteps n x s o acts h) =
    set M w f n _ (silent M w f n x _ acts.there (not_serving x.role node.Alone acts.role_is (λ k. (cc)) (λ k. (cc))) refl)
fetched-keeps M C w new f (change.PrimaryTakes n x s i acts may ok h) =
    set M w f n _ (silent M w f n x _ acts.there (not_serving x.role node.Primary acts.role_is (λ k. (cc)) (λ k. (cc))) refl)
fetched-keeps M C w new f (change.AloneTakes n x s i acts may ok h) =
    set M w f n _ (silent M w f n x _ acts.there (not_serving x.role node.Alone acts.role_is (λ k. (cc)) (λ k. (cc))) refl)
fetched-keeps M C w new f (change.Types p b) = f
fetched-keeps M C w new f (change.Sends n x k e acts h) = more M w f _
fetched-keeps M C w new f (change.Holds n x m e acts h) =
    set M w f n _ (stays M w f n x _ acts.there refl refl refl (λ r. r)
    (λ d there. longer x.held e x.replayed d there))
  where
    longer : (held : List Entry) (e : Entry) (k : ℕ) (d : Entry) → slice_get held k ≡ Some d →
        slice_get (held ++ e ∷ []) k ≡ Some d
    longer [] e k d h = (cc)
    longer (z ∷ held) e zero d h = h
    longer (z ∷ held) e (suc k) d h = longer held e k d h
fetched-keeps M C w new f (change.Acknowledges n x replayed acts few) = more M w f _
fetched-keeps M C w new f (change.Hears n x m held replayed acts h) =
    set M w f n _ (silent M w f n x _ acts.there (not_serving x.role node.Primary acts.role_is (λ k. (cc)) (λ k. (cc))) refl)
fetched-keeps M C w new f (change.ReplaysStep n x r e s o acts which g c h) =
    set M w f n _ (other M w f n x _ e acts.there g
    (λ d k b is. (let at = ap count_of is in omega (arith, at, c))) refl)
fetched-keeps M C w new f (change.ReplaysMark n x r e acts which g c h) =
    set M w f n _ (other M w f n x _ e acts.there g (λ d k b is. (let at = ap bare_of is in (cc))) refl)
fetched-keeps M C w new f (change.ReplaysInput n x r e i s acts which g c h k) =
    set M w f n _ (other M w f n x _ e acts.there g (λ d k b is. (let at = ap input_of is in (cc))) refl)
fetched-keeps M C w new f (change.Fetches n x r m d s k bytes acts which at brings) =
    set M w f n _ (λ others is. record {
      replays = subst Replaying (sym acts.role_is) which;
      drive = d;
      sector = s;
      number = k;
      at = at;
      answer = subst (λ bs. Among (SectorRead (M.address x.machine d s) k bs) w.messages)
          (same_some bytes others (Some bytes) refl is)
          (among-get w.messages m (SectorRead (M.address x.machine d s) k bytes) brings);
    })
fetched-keeps M C w new f (change.ReplaysRead n x r d s k bytes t acts which at come h) =
    set M w f n _ (none M w f _ refl)
fetched-keeps M C w new f (change.PrimaryReleases n x name o acts h c) = more M w f _
fetched-keeps M C w new f (change.AloneReleases n x name o acts h) = more M w f _
fetched-keeps M C w new f (change.Arrives m p k b h) = f
fetched-keeps M C w new f (change.Tells n x p r acts which) = f
fetched-keeps M C w new f (change.Stops n x there ns) =
    set M w f n _ (stays M w f n x _ there refl refl refl (λ r. r) (λ e h. h))
fetched-keeps M C w new f (change.Wins n x r acts nj ns won) =
    set M w f n _ (stays M w f n x _ acts.there refl refl refl (won_replays x.role) (λ e h. h))
fetched-keeps M C w new f (change.GoesLive n x acts all) =
    set M w f n _ (λ bytes is. (let a = f n x acts.there bytes is in
    let inside = slice_get_within x.held x.replayed _ a.at in absurd (omega (arith, all, inside))))
fetched-keeps {S} M C w new f (change.Begins n h x y acts there is) = both
  where
    both : AreFetched M new
    both m z at = elim (get_set_cases (slice_set w.nodes n (node.begun M x)) h m (node.joiner M C x) z at) [
      | inl k ↦ subst (Answered M w.messages) (sym k.1) (none M w f (node.joiner M C x) refl)
      | inr k ↦ set M w f n (node.begun M x) (none M w f (node.begun M x) refl) m z k
    ]
fetched-keeps M C w new f (change.SendsPart n x s k p acts im h) = more M w f _
fetched-keeps M C w new f (change.GetsPart n x m k p acts h) =
    set M w f n _ (stays M w f n x _ acts.there refl refl refl (λ r. r) (λ e h. h))
fetched-keeps M C w new f (change.Joins n x ps s acts got made) =
    set M w f n _ (silent M w f n x _ acts.there (not_serving x.role node.Joining acts.role_is (λ k. (cc)) (λ k. (cc))) refl)
fetched-keeps {S} M C w new f change.HostComes = one
  where
    last : (nodes : List (Node S)) (n : ℕ) (x : Node S) → slice_get (nodes ++ node.spare M ∷ []) n ≡ Some x →
        ((m : ℕ) (z : Node S) → slice_get nodes m ≡ Some z → Answered M w.messages z) → Answered M w.messages x
    last [] zero x h old = subst (Answered M w.messages) (same_some (node.spare M) x (Some (node.spare M)) refl h)
        (none M w f (node.spare M) refl)
    last [] (suc n) x h old = (cc)
    last (y ∷ nodes) zero x h old = old zero x h
    last (y ∷ nodes) (suc n) x h old = last nodes n x h (λ m z t. old (suc m) z t)

    one : AreFetched M new
    one n x there = last w.nodes n x there f
fetched-keeps M C w new f (change.Puts m v h) = more M w f _
fetched-keeps M C w new f (change.ReadsSector q) = more M w f _

at_opening : {S : Type 0} (M : Machine S) (reads : Reads) → AreFetched M (opening M reads)
at_opening {S} M reads zero x there bytes is =
    let e = same_some (first_node M reads node.Primary) x (Some (first_node M reads node.Primary)) refl there in
    let nothing = ap (λ (z : Node S). z.fetched) e in (cc)
at_opening {S} M reads (suc zero) x there bytes is =
    let e = same_some (first_node M reads node.Backup) x (Some (first_node M reads node.Backup)) refl there in
    let nothing = ap (λ (z : Node S). z.fetched) e in (cc)
at_opening M reads (suc (suc n)) x there bytes is = (cc)

pub reached-fetched : {S : Type 0} (M : Machine S) (C : Copying S) (w : World S) → Reached M C w → AreFetched M w
reached-fetched M C w (AtBoot reads) = at_opening M reads
reached-fetched M C w (After {w = v} r c) = fetched-keeps M C v w (reached-fetched M C v r) c
