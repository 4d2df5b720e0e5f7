-- How a host goes on when it asks the arbiter, when it is answered, and when it joins a generation or begins one.
use Rattle.std.proofs.Common.{ℕ, ◌≡◌, None, List, [], append-nil, refl, sym, ap, ◌∙◌, subst, inl, inr}
use Rattle.std.specs.Prelude.{Ok, Err, ◌⊎◌}
use Rattle.i8080_words.specs.declared.refusal.Fault.{Fault}
use Rattle.i8080_words.specs.declared.refusal.Fault.TheVariants.{Lost}
use Rattle.arbiter_core.specs.Winners.{winner_of}
use Rattle.arbiter_core.specs.declared.arbiter.Asking.{Asking}
use Rattle.arbiter_core.specs.declared.arbiter.Won.{Won}
use Rattle.ft_node.specs.AnyNode.{IsNode, IsRole}
use Rattle.ft_node.specs.Calls as calls
use Rattle.ft_node.specs.declared.node.Node as code
use Rattle.guest_lockstep.specs.Machine.{Machine}
use Rattle.guest_parts.specs.Guest.{Guest}
use Rattle.host_calls.proofs.Stepping.{are-steps, passes}
use Rattle.host_calls.specs.Made.{Made}
use Rattle.host_frames.specs.Frames.{Tells}
use Rattle.host_frames.specs.Meaning as meaning
use Rattle.host_frames.specs.declared.frame.Notice.TheVariants as notice
use Rattle.host_law.specs.Frame as law
use Rattle.host_law.specs.Host as host
use Rattle.host_calls.proofs.Straying.{steps-follow}
use Rattle.host_node.proofs.Calling.{sending_it, taking_mine, told}
use Rattle.host_node.proofs.Going.{once, ran_as}
use Rattle.host_node.specs.Goes as goes
use Rattle.host_node.specs.Goes.{Goes}
use Rattle.host_node.specs.Hosts.{HasJoined, HasNode, SameHost}
use Rattle.host_node.specs.Mail.{HasSaid, IsFrom}
use Rattle.host_node.specs.declared.host.HostNode.{HostNode}
use Rattle.host_node.specs.declared.host.Hosted.TheVariants as hosted
use Rattle.pair_events.specs.declared.reply.Role as shown
use Rattle.pair_events.specs.declared.reply.Role.TheVariants as role
use Rattle.pair_protocol.specs.Copying.{Copying}
use Rattle.pair_protocol.specs.Node.{Node, Primary, Backup}
use Rattle.pair_protocol.specs.Refusals.{suspect_refusal}
use Rattle.host_node.specs.Roles.{MayAsk}

-- a primary or a backup that is up is not refused
may_ask : {S : Type 0} (y : Node S) (r : shown.Role) → MayAsk r → IsRole y r
    → (suspect_refusal y ≡ None) × ((y.role ≡ Primary) ⊎ (y.role ≡ Backup))
may_ask y role.Primary may is = (rw is.0 (rw is.1 refl), inl is.1)
may_ask y role.Backup may is = (rw is.0 (rw is.1 refl), inr is.1)
may_ask y role.Joining may is = absurd may
may_ask y role.Draining may is = absurd may
may_ask y role.Alone may is = absurd may
may_ask y role.Halted may is = absurd may

-- who asks an arbiter that nobody has asked does not lose
has_won : {S : Type 0} (y : Node S) (n : ℕ) (after : List Asking) (Is : Node S → Type 0) → suspect_refusal y ≡ None
    → calls.Suspects [] n y (Err Lost) after Is → ⊥
has_won y n after Is free asked =
    (let k = subst (λ o. calls.Unless {A = Won} o (Err Lost) (Is y × (after ≡ []))
    (calls.SuspectsOf None [] n y (Err Lost) after Is)) free asked in
    let e = k.0 in absurd (cc))

module _ {B S : Type 0} {H : Type 0} (state : B → S) (M : Machine S) (copied : B → Guest) where
  pub asks : (old new : HostNode B H) (n : code.Node B H) (r : shown.Role) (generation : ℕ) → MayAsk r
      → old.node ≡ hosted.Node n → new.node ≡ old.node → SameHost old new → new.mail.came ≡ old.mail.came
      → HasSaid (Tells (notice.Suspect generation)) old.mail.gone new.mail.gone
      → ((C : Copying S) (drives : ℕ) (x : Node S) → IsNode state M C drives n x → IsRole x r)
      → ((C : Copying S) (drives : ℕ) (x : Node S) → IsNode state M C drives n x → x.generation ≡ generation)
      → Goes state M copied old new
  asks old new n r generation may was same number came went role_is generation_is =
      sending_it state M copied old new n (Tells (notice.Suspect generation)) was same number came went refl
      (λ C drives me copies y other node. (
        law.AsksArbiter me generation,
        meaning.OfSuspect generation,
        subst (λ k. host.HostStep M C me y (law.sending (law.AsksArbiter me k)) y) (generation_is C drives y node)
            (host.Asks (passes M C me y other (λ z. Unit {0}) suspect_refusal (may_ask y r may (role_is C drives y node)).0)),
      ))

  -- the answer: the node asks an arbiter of its own
  pub wins : (old new : HostNode B H) (n m : code.Node B H) (r : shown.Role) (generation : ℕ) (asker : ℕ)
      (askings after : List Asking) (won : Won) → asker ≡ old.number → MayAsk r → old.node ≡ hosted.Node n → new.node ≡ hosted.Node m → SameHost old new
      → new.mail.came ≡ old.mail.came → new.mail.gone ≡ old.mail.gone
      → IsFrom old.mail.came (Tells (notice.Won generation)) → askings ≡ []
      → ((C : Copying S) (drives : ℕ) (x : Node S) → IsNode state M C drives n x → IsRole x r)
      → ((C : Copying S) (drives : ℕ) (x : Node S) → IsNode state M C drives n x → x.generation ≡ generation)
      → ((C : Copying S) (drives : ℕ) (x : Node S) → IsNode state M C drives n x
      → calls.Suspects askings asker x (Ok won) after (IsNode state M C drives m)) → Goes state M copied old new
  wins old new n m r generation asker askings after won mine_is may was is number came gone from none role_is generation_is call =
      taking_mine state M copied old new n m (Tells (notice.Won generation)) was is number came gone from
      (λ C drives me copies mine y other node frames told.
      (let e = generation_is C drives y node in (
        law.HasWon generation me,
        told (law.HasWon generation me) (meaning.OfWon generation),
        subst (λ k. Made M C me y (law.taking (law.HasWon k me)) (IsNode state M C drives m)) e
            ((are-steps M C me y other (IsNode state M C drives m)).wins askings after won
            (may_ask y r may (role_is C drives y node)).1 (ap (λ l. winner_of l y.generation) none)
            (subst (λ k. calls.Suspects askings k y (Ok won) after (IsNode state M C drives m)) (mine_is ∙ mine) (call C drives y node))),
      )))

  -- whom nobody else asks, so it has not lost
  pub never_lost : (old new : HostNode B H) (n m : code.Node B H) (r : shown.Role) (asker : ℕ) (askings after : List Asking)
      (fault : Fault) → fault ≡ Lost → MayAsk r → old.node ≡ hosted.Node n → new.node ≡ hosted.Halted → SameHost old new → new.mail ≡ old.mail → askings ≡ []
      → ((C : Copying S) (drives : ℕ) (x : Node S) → IsNode state M C drives n x → IsRole x r)
      → ((C : Copying S) (drives : ℕ) (x : Node S) → IsNode state M C drives n x
      → calls.Suspects askings asker x (Err fault) after (IsNode state M C drives m)) → Goes state M copied old new
  never_lost old new n m r asker askings after fault lost may was is number mail none role_is call = once state M copied old new (record {
    heard = [];
    said = [];
    came = ap (λ p. p.came) mail ∙ sym (append-nil old.mail.came);
    gone = ap (λ p. p.gone) mail ∙ sym (append-nil old.mail.gone);
    stays = λ joined. (subst (λ h. HasJoined h) (sym is) tt, number.number);
    joins = λ joined. inl (subst (λ h. HasJoined h) (sym was) tt);
    drives = number.drives;
    rings = number.rings;
    runs = λ C me copies numbered x hosted frames brought.
        (let drives = old.drives in
        let h = subst (λ h. HasNode state M C drives old.number me h x) was hosted in
        absurd (has_won h.1.y asker after (IsNode state M C drives m) (may_ask h.1.y r may (role_is C drives h.1.y h.1.is)).0
        (subst (λ l. calls.Suspects l asker h.1.y (Err Lost) after (IsNode state M C drives m)) none
        (subst (λ f. calls.Suspects askings asker h.1.y (Err f) after (IsNode state M C drives m)) lost
        (call C drives h.1.y h.1.is)))));
  })

  -- it has lost: the node halts, and is kept no longer
  pub loses : (old new : HostNode B H) (n m : code.Node B H) (generation : ℕ) → old.node ≡ hosted.Node n
      → new.node ≡ hosted.Halted → SameHost old new → new.mail ≡ old.mail
      → IsFrom old.mail.came (Tells (notice.Lost generation))
      → ((C : Copying S) (drives : ℕ) (x : Node S) → IsNode state M C drives n x → x.generation ≡ generation)
      → ((C : Copying S) (drives : ℕ) (x : Node S) → IsNode state M C drives n x
      → calls.Stops x (Ok tt) (IsNode state M C drives m)) → Goes state M copied old new
  loses old new n m generation was is number mail from generation_is call = once state M copied old new (record {
    heard = [];
    said = [];
    came = ap (λ p. p.came) mail ∙ sym (append-nil old.mail.came);
    gone = ap (λ p. p.gone) mail ∙ sym (append-nil old.mail.gone);
    stays = λ joined. (subst (λ h. HasJoined h) (sym is) tt, number.number);
    joins = λ joined. inl (subst (λ h. HasJoined h) (sym was) tt);
    drives = number.drives;
    rings = number.rings;
    runs = λ C me copies numbered x hosted frames brought.
        (let drives = old.drives in
        let h = subst (λ h. HasNode state M C drives old.number me h x) was hosted in
        let y = h.1.y in
        let e = generation_is C drives y h.1.is in
        let t = told drives me new.mail.came frames (Tells (notice.Lost generation))
        (subst (λ l. IsFrom l (Tells (notice.Lost generation))) (sym (ap (λ p. p.came) mail)) from) brought in
        let made = subst (λ k. Made M C me y (law.taking (law.HasLost k me)) (IsNode state M C drives m)) e
        ((are-steps M C me y h.1.other (IsNode state M C drives m)).loses (call C drives y h.1.is)) in
        let l = steps-follow M C me x y made.y (law.taking (law.HasLost generation me)) h.1.follows made.step in
        record {
          y = l.next;
          ran = ran_as M C drives me x l.next frames (law.taking (law.HasLost generation me)) [] l.ran
              (t (law.HasLost generation me) (meaning.OfLost generation), tt) goes.Nothing;
          is = subst (λ h. HasNode state M C drives new.number me h l.next) (sym is) tt;
        });
  })
