-- How a host goes on by each call of its node that no frame goes with, and when its machine runs ahead.
use Rattle.std.proofs.Common.{ℕ, ◌≡◌, [], ◌∷◌, append-nil, sym, ap, subst, ◌∙◌, inl}
use Rattle.std.specs.Prelude.{OnErr, Result, Ok, Err, min}
use Rattle.ft_node.specs.Ahead.{RanAhead, RunsAhead, steps_ahead}
use Rattle.ft_node.specs.AnyNode.{IsNode}
use Rattle.ft_node.specs.Calls as calls
use Rattle.ft_node.specs.Calls.{Never}
use Rattle.ft_node.specs.Checked as checked
use Rattle.ft_node.specs.declared.node.Node as code
use Rattle.ft_node.specs.declared.ran.Drained.{Drained}
use Rattle.ft_node.specs.declared.ran.Lead.{Lead}
use Rattle.ft_node.specs.declared.ran.Ran.{Ran}
use Rattle.guest_lockstep.specs.Machine.{Machine}
use Rattle.guest_lockstep.specs.Recorded.{Counts}
use Rattle.guest_lockstep.specs.declared.running.Stopped.{Stopped}
use Rattle.guest_parts.specs.Guest.{Guest}
use Rattle.host_calls.proofs.Lagging.{runs-ahead}
use Rattle.host_calls.proofs.Stepping.{are-steps, made}
use Rattle.host_node.proofs.Calling.{quietly}
use Rattle.host_node.proofs.Going.{once, ran_none, stays}
use Rattle.i8080_words.specs.declared.refusal.Fault.{Fault}
use Rattle.host_node.specs.Goes.{Goes}
use Rattle.host_node.specs.Hosts.{HasJoined, HasNode, SameHost}
use Rattle.host_node.specs.declared.host.HostNode.{HostNode}
use Rattle.host_node.specs.declared.host.Hosted.TheVariants as hosted
use Rattle.pair_protocol.specs.Copying.{Copying}
use Rattle.pair_protocol.specs.Node.{Node, Backup}
use Rattle.pair_protocol.specs.Refusals.{role_refusal}
use Rattle.replayer.specs.declared.replayer.Replayed.{Replayed}

module _ {B S : Type 0} {H : Type 0} (state : B → S) (M : Machine S) (copied : B → Guest) where
  pub steps : (old new : HostNode B H) (n m : code.Node B H) (turns : ℕ) (r : Result Ran Fault) → old.node ≡ hosted.Node n
      → new.node ≡ hosted.Node m → SameHost old new → new.mail ≡ old.mail → OnErr r (m ≡ n)
      → ((C : Copying S) (drives : ℕ) (x : Node S) → IsNode state M C drives n x
      → checked.Steps M turns x r (IsNode state M C drives m)) → Goes state M copied old new
  steps old new n m turns (Ok value) was is number mail same call =
      quietly state M copied old new n m was is number (ap (λ p. p.came) mail) (ap (λ p. p.gone) mail)
      (λ C drives me copies y other node.
      (are-steps M C me y other (IsNode state M C drives m)).step turns value (call C drives y node))
  steps old new n m turns (Err fault) was is number mail same call =
      stays state M copied old new (is ∙ ap (λ n. hosted.Node n) same ∙ sym was) number mail

  pub replays : (old new : HostNode B H) (n m : code.Node B H) (turns : ℕ) (r : Result Replayed Fault) → old.node ≡ hosted.Node n
      → new.node ≡ hosted.Node m → SameHost old new → new.mail ≡ old.mail → OnErr r (m ≡ n)
      → ((C : Copying S) (drives : ℕ) (x : Node S) → IsNode state M C drives n x
      → checked.Replays M turns x r (IsNode state M C drives m)) → Goes state M copied old new
  replays old new n m turns (Ok value) was is number mail same call =
      quietly state M copied old new n m was is number (ap (λ p. p.came) mail) (ap (λ p. p.gone) mail)
      (λ C drives me copies y other node.
      (are-steps M C me y other (IsNode state M C drives m)).replay turns value (call C drives y node))
  replays old new n m turns (Err fault) was is number mail same call =
      stays state M copied old new (is ∙ ap (λ n. hosted.Node n) same ∙ sym was) number mail

  pub drains : (old new : HostNode B H) (n m : code.Node B H) (turns : ℕ) (r : Result Drained Fault) → old.node ≡ hosted.Node n
      → new.node ≡ hosted.Node m → SameHost old new → new.mail ≡ old.mail → OnErr r (m ≡ n)
      → ((C : Copying S) (drives : ℕ) (x : Node S) → IsNode state M C drives n x
      → checked.Drains M turns x r (IsNode state M C drives m)) → Goes state M copied old new
  drains old new n m turns (Ok value) was is number mail same call =
      quietly state M copied old new n m was is number (ap (λ p. p.came) mail) (ap (λ p. p.gone) mail)
      (λ C drives me copies y other node.
      (are-steps M C me y other (IsNode state M C drives m)).drain turns value (call C drives y node))
  drains old new n m turns (Err fault) was is number mail same call =
      stays state M copied old new (is ∙ ap (λ n. hosted.Node n) same ∙ sym was) number mail

  pub freshens : (old new : HostNode B H) (n m : code.Node B H) (r : Result ℕ Fault) → old.node ≡ hosted.Node n
      → new.node ≡ hosted.Node m → SameHost old new → new.mail ≡ old.mail → OnErr r (m ≡ n)
      → ((C : Copying S) (drives : ℕ) (x : Node S) → IsNode state M C drives n x
      → calls.Freshens x r (IsNode state M C drives m)) → Goes state M copied old new
  freshens old new n m (Ok value) was is number mail same call =
      quietly state M copied old new n m was is number (ap (λ p. p.came) mail) (ap (λ p. p.gone) mail)
      (λ C drives me copies y other node.
      (are-steps M C me y other (IsNode state M C drives m)).freshen value (call C drives y node))
  freshens old new n m (Err fault) was is number mail same call =
      stays state M copied old new (is ∙ ap (λ n. hosted.Node n) same ∙ sym was) number mail

  -- no call of the law's node is behind this: that makes those steps later
  pub runs_ahead : (old new : HostNode B H) (n m : code.Node B H) (lead : Lead) (turns : ℕ) (r : Result Stopped Fault)
      → Counts M → old.node ≡ hosted.Node n → new.node ≡ hosted.Node m → SameHost old new → new.mail ≡ old.mail → OnErr r (m ≡ n)
      → ((C : Copying S) (drives : ℕ) (x : Node S) → IsNode state M C drives n x
      → RunsAhead M lead turns x r (IsNode state M C drives m)) → Goes state M copied old new
  runs_ahead old new n m lead turns (Ok stopped) counts was is number mail same call = once state M copied old new (record {
    heard = [];
    said = [];
    came = ap (λ p. p.came) mail ∙ sym (append-nil old.mail.came);
    gone = ap (λ p. p.gone) mail ∙ sym (append-nil old.mail.gone);
    stays = λ joined. (subst (λ h. HasJoined h) (sym is) tt, number.number);
    joins = λ joined. inl (subst (λ h. HasJoined h) (sym was) tt);
    drives = number.drives;
    rings = number.rings;
    runs = λ C me copies numbered x hosted frames brought.
        (let drives = old.drives in
        let h = subst (λ h. HasNode state M C drives old.number me h x) was hosted in
        let y = h.1.y in
        let ahead = made (role_refusal (Backup ∷ []) y) Never (RanAhead M (min turns (steps_ahead M lead y))) y stopped
        (IsNode state M C drives m) (call C drives y h.1.is) in
        let done = ahead.1.done in
        record {
          y = x;
          ran = ran_none M C drives me x frames;
          is = subst (λ h. HasNode state M C drives new.number me h x) (sym is) (
            number.number ∙ h.0,
            record {
              y = ahead.1.y;
              follows = runs-ahead M counts x y ahead.1.y _ stopped h.1.follows ahead.0 done;
              is = ahead.1.after;
              other = λ spare. h.1.other (sym (ap (λ z. z.role) done.after) ∙ spare);
              reads = ap (λ z. z.reads) done.after ∙ h.1.reads;
            },
          );
        });
  })
  runs_ahead old new n m lead turns (Err fault) counts was is number mail same call =
      stays state M copied old new (is ∙ ap (λ n. hosted.Node n) same ∙ sym was) number mail
