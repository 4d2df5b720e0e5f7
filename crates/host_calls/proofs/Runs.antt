-- One run of a host after another.
use Rattle.std.proofs.Common.{◌++◌, ◌∙◌, ◌∷◌, ◌≡◌, List, [], ap, append_assoc, refl, sym, ℕ}
use Rattle.guest_lockstep.specs.Machine.{Machine}
use Rattle.host_law.specs.Frame.{Act, Frame, sent, taken}
use Rattle.host_law.specs.Host as host
use Rattle.host_law.specs.Host.{HostRun}
use Rattle.host_law.specs.Ran.{HostRan}
use Rattle.pair_protocol.specs.Copying.{Copying}
use Rattle.pair_protocol.specs.Node.{Node}

pub taken_both : (xs ys : List Act) → taken (xs ++ ys) ≡ taken xs ++ taken ys
taken_both [] ys = refl
taken_both (x ∷ xs) ys = ap (λ l. x.takes ++ l) (taken_both xs ys) ∙ sym (append_assoc x.takes (taken xs) (taken ys))

pub sent_both : (xs ys : List Act) → sent (xs ++ ys) ≡ sent xs ++ sent ys
sent_both [] ys = refl
sent_both (x ∷ xs) ys = ap (λ l. x.sends ++ l) (sent_both xs ys) ∙ sym (append_assoc x.sends (sent xs) (sent ys))

pub run_both : {S : Type 0} (M : Machine S) (C : Copying S) (me : ℕ) (x y z : Node S) (a b : List Act) → HostRun M C me x a y →
    HostRun M C me y b z → HostRun M C me x (a ++ b) z
run_both M C me x y z a b host.Rests q = q
run_both M C me x y z a b (host.Goes {mid = mid} {act = act} {acts = acts} step p) q =
    host.Goes step (run_both M C me mid y z acts b p q)

pub ran-both : {S : Type 0} (M : Machine S) (C : Copying S) (me : ℕ) (x y z : Node S) (read written more further : List Frame) →
    HostRan M C me x read written y → HostRan M C me y more further z →
    HostRan M C me x (read ++ more) (written ++ further) z
ran-both M C me x y z read written more further a b = record {
  acts = a.acts ++ b.acts;
  run = run_both M C me x y z a.acts b.acts a.run b.run;
  took = taken_both a.acts b.acts ∙ ap (λ l. l ++ taken b.acts) a.took ∙ ap (λ l. read ++ l) b.took;
  gave = sent_both a.acts b.acts ∙ ap (λ l. l ++ sent b.acts) a.gave ∙ ap (λ l. written ++ l) b.gave;
}
