-- How a host goes on when its node begins a generation, and when it joins one.
use Rattle.std.proofs.Common.{ℕ, ◌≡◌, ◌≢◌, suc, List, [], ◌∷◌, append-nil, refl, sym, ap, ◌∙◌, subst, inl, inr}
use Rattle.std.specs.Prelude.{Ok}
use Rattle.clone_state.specs.Copies.{CopiesAs}
use Rattle.clone_state.specs.Parts.{part_count}
use Rattle.ft_node.specs.AnyNode.{IsNode, IsRole}
use Rattle.ft_node.specs.Calls as calls
use Rattle.ft_node.specs.Roles.{node_count}
use Rattle.ft_node.specs.declared.node.Node as code
use Rattle.guest_lockstep.specs.Machine.{Machine}
use Rattle.guest_lockstep.specs.declared.reads.Reads.TheVariants.{Shared}
use Rattle.guest_lockstep.specs.declared.timed.Timed.{Timed}
use Rattle.guest_parts.specs.Guest.{Guest}
use Rattle.host_calls.proofs.Stepping.{are-steps, joins}
use Rattle.host_calls.proofs.Straying.{has-list, no-list, steps-follow}
use Rattle.host_calls.specs.Follows as follows
use Rattle.host_calls.specs.Made.{Made}
use Rattle.host_frames.specs.Frames.{Tells}
use Rattle.host_frames.specs.Meaning as meaning
use Rattle.host_frames.specs.declared.frame.Notice.TheVariants as notice
use Rattle.host_law.specs.Frame as law
use Rattle.host_law.specs.Host as host
use Rattle.host_node.proofs.Calling.{told}
use Rattle.host_node.proofs.Going.{once, ran_as, ran_one}
use Rattle.host_node.proofs.Roles.{keeps_so}
use Rattle.host_node.specs.Goes as goes
use Rattle.host_node.specs.Goes.{Goes}
use Rattle.host_node.specs.Hosts.{HasJoined, HasNode, SameHost}
use Rattle.host_node.specs.Mail.{HasSaid, IsFrom}
use Rattle.host_node.specs.declared.host.HostNode.{HostNode}
use Rattle.host_node.specs.declared.host.Hosted.TheVariants as hosted
use Rattle.pair_events.specs.declared.reply.Role.TheVariants as role
use Rattle.pair_protocol.specs.Copying.{Copying}
use Rattle.pair_protocol.specs.Lawful.{Among}
use Rattle.pair_protocol.specs.Node.{Node, Alone, Spare}

module _ {B S : Type 0} {H : Type 0} (state : B → S) (M : Machine S) (copied : B → Guest) where
  -- the call with a list whose keys the machine has taken, with the frames that go with it
  begun : (C : Copying S) (drives me : ℕ) (n m : code.Node B H) (y : Node S) (generation before count began : ℕ)
      → CopiesAs state copied drives C.parts C.part_count C.assemble → y.role ≢ Spare → y.role ≡ Alone → y.reads ≡ Shared
      → y.generation ≡ before → suc before ≡ generation → node_count M y y.role ≡ count
      → (list : List Timed)
      → calls.HasTakenKeys M (record y { list = list }) → IsNode state M C drives n y
      → ((x : Node S) → calls.HasTakenKeys M x → IsNode state M C drives n x
      → calls.BeginsPair M x (Ok began) (IsNode state M C drives m))
      → Made M C me (record y { list = list })
      (law.answering (law.MayBegin generation) (law.Recruits generation count Shared list)) (IsNode state M C drives m)
  begun C drives me n m y generation before count began copies other alone reads was next counted list taken node call =
      (let made = (are-steps M C me (record y { list = list }) other (IsNode state M C drives m)).begin began
      (call (record y { list = list }) taken (no-list state M C drives n y list alone node)) in
      let g = ap suc was ∙ next in
      let c = sym (ap (node_count M y) alone) ∙ counted in
      subst (λ k. Made M C me (record y { list = list })
      (law.answering (law.MayBegin k) (law.Recruits k count Shared list)) (IsNode state M C drives m)) g
      (subst (λ k. Made M C me (record y { list = list })
      (law.answering (law.MayBegin (suc y.generation)) (law.Recruits (suc y.generation) k Shared list)) (IsNode state M C drives m)) c
      (subst (λ r. Made M C me (record y { list = list })
      (law.answering (law.MayBegin (suc y.generation)) (law.Recruits (suc y.generation) (M.count y.machine) r list))
      (IsNode state M C drives m)) reads made)))

  pub begins : (old new : HostNode B H) (n m : code.Node B H) (generation place before count began : ℕ)
      → old.node ≡ hosted.Node n → new.node ≡ hosted.Node m → SameHost old new → new.mail.came ≡ old.mail.came
      → HasSaid (Tells (notice.Join generation place old.drives count)) old.mail.gone new.mail.gone
      → IsFrom old.mail.came (Tells (notice.Begin generation place)) → suc before ≡ generation
      → ((C : Copying S) (drives : ℕ) (x : Node S) → IsNode state M C drives n x → IsRole x role.Alone)
      → ((C : Copying S) (drives : ℕ) (x : Node S) → IsNode state M C drives n x → x.generation ≡ before)
      → ((C : Copying S) (drives : ℕ) (x : Node S) → IsNode state M C drives n x → node_count M x x.role ≡ count)
      → ((C : Copying S) (drives : ℕ) (x : Node S) → CopiesAs state copied drives C.parts C.part_count C.assemble
      → calls.HasTakenKeys M x → IsNode state M C drives n x
      → calls.BeginsPair M x (Ok began) (IsNode state M C drives m)) → Goes state M copied old new
  begins old new n m generation place before count began was is same came went from next role_is generation_is count_is call =
      once state M copied old new (record {
        heard = [];
        said = went.bytes ∷ [];
        came = came ∙ sym (append-nil old.mail.came);
        gone = went.gone;
        stays = λ joined. (subst (λ h. HasJoined h) (sym is) tt, same.number);
        joins = λ joined. inl (subst (λ h. HasJoined h) (sym was) tt);
        drives = same.drives;
        rings = same.rings;
        runs = λ C me copies numbered x hosted frames brought.
            (let drives = old.drives in
            let h = subst (λ h. HasNode state M C drives old.number me h x) was hosted in
            let y = h.1.y in
            let alone = (role_is C drives y h.1.is).1 in
            let l = has-list M x y h.1.follows alone in
            let made = begun C drives me n m y generation before count began copies h.1.other alone h.1.reads
            (generation_is C drives y h.1.is) next (count_is C drives y h.1.is) l.list l.taken h.1.is
            (λ x taken node. call C drives x copies taken node) in
            let t = told drives me new.mail.came frames (Tells (notice.Begin generation place))
            (subst (λ c. IsFrom c (Tells (notice.Begin generation place))) (sym came) from) brought in
            let act = law.answering (law.MayBegin generation) (law.Recruits generation count Shared l.list) in
            let step = steps-follow M C me x (record y { list = l.list }) made.y act l.follows made.step in
            let k = keeps_so M C me (record y { list = l.list }) made.y act made.step h.1.other in
            record {
              y = step.next;
              ran = ran_as M C drives me x step.next frames act (went.bytes ∷ []) step.ran
                  (t (law.MayBegin generation) (meaning.OfBegin generation place), tt)
                  (goes.Then went.bytes (Tells (notice.Join generation place drives count))
                  (law.Recruits generation count Shared l.list ∷ []) went.spells
                  (meaning.OfOne (Tells (notice.Join generation place drives count))
                  (law.Recruits generation count Shared l.list) refl (meaning.OfJoin generation place count l.list))
                  goes.Nothing);
              is = subst (λ h. HasNode state M C drives new.number me h step.next) (sym is) (
                same.number ∙ h.0,
                record {
                  y = made.y;
                  follows = step.follows;
                  is = made.is;
                  other = k.other h.1.other;
                  reads = k.reads ∙ h.1.reads;
                },
              );
            });
      })

  pub joins_it : (old new : HostNode B H) (callbacks : H) (n : code.Node B H) (generation place count : ℕ)
      → old.node ≡ hosted.Spare callbacks → new.node ≡ hosted.Node n → new.number ≡ generation → new.drives ≡ old.drives
      → new.mail ≡ old.mail → IsFrom old.mail.came (Tells (notice.Join generation place old.drives count))
      → ((C : Copying S) (x : Node S) → C.part_count ≡ part_count old.drives → calls.Joins C generation count Shared x
      → IsNode state M C old.drives n x) → Goes state M copied old new
  joins_it old new callbacks n generation place count was is number drives mail from call = once state M copied old new (record {
    heard = [];
    said = [];
    came = ap (λ p. p.came) mail ∙ sym (append-nil old.mail.came);
    gone = ap (λ p. p.gone) mail ∙ sym (append-nil old.mail.gone);
    stays = λ joined. absurd (subst (λ h. HasJoined h) was joined);
    joins = λ joined. inr (record {
      place = place;
      drives = old.drives;
      count = count;
      from = subst (λ k. IsFrom new.mail.came (Tells (notice.Join k place old.drives count))) (sym number)
          (subst (λ c. IsFrom c (Tells (notice.Join generation place old.drives count))) (sym (ap (λ p. p.came) mail)) from);
    });
    drives = drives;
    rings = ap (λ p. p.rings) mail;
    runs = λ C me copies numbered x hosted frames brought.
        (let spare = subst (λ h. HasNode state M C old.drives old.number me h x) was hosted in
        let mine = sym number ∙ numbered (subst (λ h. HasJoined h) (sym is) tt) in
        let t = told old.drives me new.mail.came frames (Tells (notice.Join generation place old.drives count))
        (subst (λ c. IsFrom c (Tells (notice.Join generation place old.drives count))) (sym (ap (λ p. p.came) mail)) from)
        brought in
        let list = t.1.0 in
        let y = host.recruit M C me count Shared list in
        record {
          y = y;
          ran = ran_one M C old.drives me x y frames (law.taking (law.Recruits me count Shared list)) []
              (host.Joins count Shared list spare)
              (subst (λ k. Among (law.Recruits k count Shared list) frames) mine t.1.1, tt)
              goes.Nothing;
          is = subst (λ h. HasNode state M C old.drives new.number me h y) (sym is) (
            numbered (subst (λ h. HasJoined h) (sym is) tt),
            record {
              y = y;
              follows = follows.Same;
              is = call C y copies.counted
                  (subst (λ k. calls.Joins C k count Shared (host.recruit M C me count Shared list)) (sym mine)
                  (joins M C me count Shared list));
              other = λ e. cc;
              reads = refl;
            },
          );
        });
  })
