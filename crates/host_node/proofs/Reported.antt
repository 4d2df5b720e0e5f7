-- How a host goes on when it reports: it tells the terminals how many keys are covered.
use Rattle.std.proofs.Common.{Bool, [], ap, append-nil, arith, cond, eqb, false, refl, subst, sym, true, ℕ, ◌++◌, ◌<◌, ◌∙◌, ◌∷◌, ◌≡◌, ◌≢◌, inl}
use Rattle.std.specs.Prelude.{slice_index, Result, Ok, Err}
use Rattle.ft_node.specs.AnyNode.{IsNode}
use Rattle.ft_node.specs.Calls as calls
use Rattle.ft_node.specs.declared.node.Node as code
use Rattle.guest_lockstep.specs.Machine.{Machine}
use Rattle.guest_parts.specs.Guest.{Guest}
use Rattle.host_calls.proofs.Runs.{ran-both}
use Rattle.host_calls.proofs.Stepping.{are-steps}
use Rattle.host_calls.proofs.Straying.{steps-follow}
use Rattle.host_calls.specs.Follows.{Follows}
use Rattle.host_frames.specs.Frames.{Tells}
use Rattle.host_frames.specs.Meaning as meaning
use Rattle.host_frames.specs.Meaning.{covered_at}
use Rattle.host_frames.specs.declared.frame.Notice.TheVariants as notice
use Rattle.host_frames.specs.declared.frame.Report.{Report}
use Rattle.host_law.specs.Frame as law
use Rattle.host_law.specs.Frame.{Came}
use Rattle.host_law.specs.Host.{HostStep}
use Rattle.host_law.specs.Ran.{HostRan}
use Rattle.host_law.proofs.Running.{ran-nothing}
use Rattle.host_node.proofs.Calling.{saying}
use Rattle.host_node.proofs.Going.{once}
use Rattle.host_node.specs.Goes as goes
use Rattle.host_node.specs.Goes.{Goes}
use Rattle.host_node.specs.Hosts.{HasJoined, HasNode, SameHost}
use Rattle.host_node.specs.Mail.{HasSaid}
use Rattle.host_node.specs.Reports.{HasCovered, IsCovered, Reports, covered_by}
use Rattle.host_node.specs.declared.host.HostNode.{HostNode}
use Rattle.host_node.specs.declared.host.Hosted.{Hosted}
use Rattle.host_node.specs.declared.host.Hosted.TheVariants as hosted
use Rattle.host_node.specs.declared.reporting.Known.{Known}
use Rattle.i8080_words.specs.declared.refusal.Fault.{Fault}
use Rattle.pair_protocol.specs.Copying.{Copying}
use Rattle.pair_protocol.specs.Node.{Node, Spare}

-- what a port is told, if anything
record Told {S : Type 0} (M : Machine S) (C : Copying S) (me : ℕ) (x y : Node S) (port keys : ℕ) : Type 0 where
  pub z : Node S
  pub ran : HostRan M C me x [] (covered_at port keys) z
  pub follows : Follows M z y

told_port : {S : Type 0} (M : Machine S) (C : Copying S) (me : ℕ) (x y : Node S) (port keys : ℕ) → Follows M x y
    → (keys ≢ 0 → HostStep M C me y (law.sending (law.TellsKeys port keys)) y) → Told M C me x y port keys
told_port M C me x y port keys follows step = by_count (eqb keys 0) refl
  where
    said : (none : Bool) → eqb keys 0 ≡ none → (z : Node _)
        → HostRan M C me x [] (cond none [] (law.TellsKeys port keys ∷ [])) z → HostRan M C me x [] (covered_at port keys) z
    said none e z r = subst (λ b. HostRan M C me x [] (cond b [] (law.TellsKeys port keys ∷ [])) z) (sym e) r

    by_count : (none : Bool) → eqb keys 0 ≡ none → Told M C me x y port keys
    by_count true e = record { z = x; ran = said true e x (ran-nothing M C me x); follows = follows }
    by_count false e =
        (let s = steps-follow M C me x y y (law.sending (law.TellsKeys port keys)) follows
        (step (λ zero. (let k = ap (λ n. eqb n 0) (sym zero) ∙ e in absurd (cc)))) in
        record { z = s.next; ran = said false e s.next s.ran; follows = s.follows })

-- what a node tells, if it is told of any key
tells : {S : Type 0} (M : Machine S) (told : Result ℕ Fault) (y : Node S) (port keys : ℕ) → keys ≡ covered_by told → keys ≢ 0
    → calls.Tells M port y told → calls.Tells M port y (Ok keys)
tells M (Ok k) y port keys are some told = subst (λ n. calls.Tells M port y (Ok n)) (sym are) told
tells M (Err why) y port keys are some told = absurd (some are)

module _ {B S : Type 0} {H : Type 0} (state : B → S) (M : Machine S) (copied : B → Guest) where
  told_step : (C : Copying S) (drives me : ℕ) (n : code.Node B H) (y : Node S) (port keys : ℕ) → y.role ≢ Spare → port < 2
      → IsNode state M C drives n y → IsCovered state M n port keys → keys ≢ 0
      → HostStep M C me y (law.sending (law.TellsKeys port keys)) y
  told_step C drives me n y port keys other within node covered some =
      (are-steps M C me y other (λ z. Unit {0})).told port keys within
      (tells M covered.0 y port keys covered.2 some (covered.1 C drives y node))

  reports_node : (old new : HostNode B H) (n : code.Node B H) (report : Report) → old.node ≡ hosted.Node n
      → new.node ≡ old.node → SameHost old new → new.mail.came ≡ old.mail.came
      → HasSaid (Tells (notice.Report report)) old.mail.gone new.mail.gone
      → IsCovered state M n 0 (slice_index report.covered 0) → IsCovered state M n 1 (slice_index report.covered 1)
      → Goes state M copied old new
  reports_node old new n report was is same came went first second = once state M copied old new (record {
    heard = [];
    said = went.bytes ∷ [];
    came = came ∙ sym (append-nil old.mail.came);
    gone = went.gone;
    stays = λ joined. (subst (λ h. HasJoined h) (sym is) joined, same.number);
    joins = λ joined. inl (subst (λ h. HasJoined h) (sym was) tt);
    drives = same.drives;
    rings = same.rings;
    runs = λ C me copies numbered x hosted frames brought.
        (let h = subst (λ h. HasNode state M C old.drives old.number me h x) was hosted in
        let y = h.1.y in
        let k = slice_index report.covered 0 in
        let l = slice_index report.covered 1 in
        let a = told_port M C me x y 0 k h.1.follows
        (told_step C old.drives me n y 0 k h.1.other (omega arith) h.1.is first) in
        let b = told_port M C me a.z y 1 l a.follows
        (told_step C old.drives me n y 1 l h.1.other (omega arith) h.1.is second) in
        let both = ran-both M C me x a.z b.z [] (covered_at 0 k) [] (covered_at 1 l) a.ran b.ran in
        record {
          y = b.z;
          ran = record {
            acts = both.acts;
            run = both.run;
            came = subst (λ t. Came t frames) (sym both.took) tt;
            says = subst (λ t. goes.Says old.drives me (went.bytes ∷ []) t)
                (append-nil (covered_at 0 k ++ covered_at 1 l) ∙ sym both.gave)
                (goes.Then went.bytes (Tells (notice.Report report)) (covered_at 0 k ++ covered_at 1 l) went.spells
                (meaning.OfReport report) goes.Nothing);
          };
          is = subst (λ h. HasNode state M C old.drives new.number me h b.z) (sym (is ∙ was)) (
            same.number ∙ h.0,
            record {
              y = y;
              follows = b.follows;
              is = h.1.is;
              other = h.1.other;
              reads = h.1.reads;
            },
          );
        });
  })

  -- without a node nothing is covered
  reports_none : (old new : HostNode B H) (report : Report) → new.node ≡ old.node → SameHost old new
      → new.mail.came ≡ old.mail.came → HasSaid (Tells (notice.Report report)) old.mail.gone new.mail.gone
      → slice_index report.covered 0 ≡ 0 → slice_index report.covered 1 ≡ 0 → Goes state M copied old new
  reports_none old new report is same came went first second =
      saying state M copied old new (Tells (notice.Report report)) is same came went
      (λ drives me. subst (λ k. meaning.Speaks drives me (Tells (notice.Report report)) (covered_at 0 k ++ covered_at 1 0)) first
      (subst (λ k. meaning.Speaks drives me (Tells (notice.Report report))
      (covered_at 0 (slice_index report.covered 0) ++ covered_at 1 k)) second (meaning.OfReport report)))

  reports_of : (h : Hosted B H) (old new : HostNode B H) (report : Report) → old.node ≡ h → new.node ≡ old.node
      → SameHost old new → new.mail.came ≡ old.mail.came → HasSaid (Tells (notice.Report report)) old.mail.gone new.mail.gone
      → HasCovered state M h 0 (slice_index report.covered 0) → HasCovered state M h 1 (slice_index report.covered 1)
      → Goes state M copied old new
  reports_of (hosted.Spare callbacks) old new report was is same came went first second =
      reports_none old new report is same came went first second
  reports_of (hosted.Node n) old new report was is same came went first second =
      reports_node old new n report was is same came went first second
  reports_of hosted.Halted old new report was is same came went first second =
      reports_none old new report is same came went first second

  pub reports : (known : Known) (old new : HostNode B H) (report : Report) → new.node ≡ old.node → SameHost old new
      → new.mail.came ≡ old.mail.came → HasSaid (Tells (notice.Report report)) old.mail.gone new.mail.gone
      → Reports state M known old.number old.node report → Goes state M copied old new
  reports known old new report is same came went says =
      reports_of old.node old new report refl is same came went says.first says.second
