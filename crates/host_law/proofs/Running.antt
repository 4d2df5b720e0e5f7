-- One step more at the end of a run.
use Rattle.std.proofs.Common.{[], ◌++◌, ◌∙◌, ◌∷◌, ◌≡◌, List, ap, append-nil, append_assoc, refl, sym, ℕ}
use Rattle.host_law.specs.Frame.{sent, taken}
use Rattle.host_law.specs.Host as host
use Rattle.host_law.specs.Ran.{HostRan}
use Rattle.host_law.proofs.Words.{Act, Copying, Frame, HostRun, HostStep, Machine, Node}

taken-one : (acts : List Act) (act : Act) → taken (acts ++ act ∷ []) ≡ taken acts ++ act.takes
taken-one [] act = append-nil act.takes
taken-one (a ∷ acts) act =
    ap (λ l. a.takes ++ l) (taken-one acts act) ∙ sym (append_assoc a.takes (taken acts) act.takes)

sent-one : (acts : List Act) (act : Act) → sent (acts ++ act ∷ []) ≡ sent acts ++ act.sends
sent-one [] act = append-nil act.sends
sent-one (a ∷ acts) act =
    ap (λ l. a.sends ++ l) (sent-one acts act) ∙ sym (append_assoc a.sends (sent acts) act.sends)

run-one : {S : Type 0} (M : Machine S) (C : Copying S) (me : ℕ) (x y z : Node S) (acts : List Act) (act : Act) →
    HostRun M C me x acts y → HostStep M C me y act z → HostRun M C me x (acts ++ act ∷ []) z
run-one M C me x y z acts act host.Rests step = host.Goes step host.Rests
run-one M C me x y z acts act (host.Goes {mid = mid} {acts = more} first rest) step =
    host.Goes first (run-one M C me mid y z more act rest step)

pub ran-more : {S : Type 0} (M : Machine S) (C : Copying S) (me : ℕ) (x : Node S) (read written : List Frame) (y z : Node S)
    (act : Act) → HostRan M C me x read written y → HostStep M C me y act z →
    HostRan M C me x (read ++ act.takes) (written ++ act.sends) z
ran-more M C me x read written y z act r step = record {
  acts = r.acts ++ act ∷ [];
  run = run-one M C me x y z r.acts act r.run step;
  took = taken-one r.acts act ∙ ap (λ l. l ++ act.takes) r.took;
  gave = sent-one r.acts act ∙ ap (λ l. l ++ act.sends) r.gave;
}

pub ran-nothing : {S : Type 0} (M : Machine S) (C : Copying S) (me : ℕ) (x : Node S) → HostRan M C me x [] [] x
ran-nothing M C me x = record { acts = []; run = host.Rests; took = refl; gave = refl }
