-- One step more at the end of a run of the outside.
use Rattle.std.proofs.Common.{◌≡◌, ◌+◌, ◌≤◌, [], ◌∷◌, ◌++◌, ◌∙◌, Bool, List, ap, append-nil, append_assoc, arith, cond, false, refl, subst, sym, true, ℕ, Option}
use Rattle.std.specs.Prelude.{◌==◌}
use Rattle.host_law.specs.Outside as outside
use Rattle.outside_switch.proofs.Terminals.{nothing_yet}
use Rattle.outside_switch.proofs.Words.{Act, Frame, Held, IsDisk, Machine, Outside, OutsideRun, OutsideStep, Record, Shows, admitted_after, at_boot, at_first, sent, taken}
use Rattle.outside_switch.specs.Ran.{GoesOn, OutsideRan}
use Rattle.outside_switch.specs.Steps.{Makes}

taken-one : (acts : List Act) (act : Act) → taken (acts ++ act ∷ []) ≡ taken acts ++ act.takes
taken-one [] act = append-nil act.takes
taken-one (a ∷ acts) act =
    ap (λ l. a.takes ++ l) (taken-one acts act) ∙ sym (append_assoc a.takes (taken acts) act.takes)

sent-one : (acts : List Act) (act : Act) → sent (acts ++ act ∷ []) ≡ sent acts ++ act.sends
sent-one [] act = append-nil act.sends
sent-one (a ∷ acts) act =
    ap (λ l. a.sends ++ l) (sent-one acts act) ∙ sym (append_assoc a.sends (sent acts) act.sends)

run-one : {S : Type 0} (M : Machine S) (o p q : Outside) (acts : List Act) (act : Act) → OutsideRun M o acts p →
    OutsideStep M p act q → OutsideRun M o (acts ++ act ∷ []) q
run-one M o p q acts act outside.Rests step = outside.Goes step outside.Rests
run-one M o p q acts act (outside.Goes {mid = mid} {acts = more} first rest) step =
    outside.Goes first (run-one M mid p q more act rest step)

-- no step changes how many hosts the outside counts
step-hosts : {S : Type 0} (M : Machine S) (o : Outside) (act : Act) (p : Outside) → OutsideStep M o act p →
    p.hosts ≡ o.hosts
step-hosts M o act p (outside.Types port byte low) = refl
step-hosts M o act p (outside.SendsKey port index byte is) = refl
step-hosts M o act p (outside.Arrives port number byte) = refl
step-hosts M o act p (outside.SendsCount port count few) = refl
step-hosts M o act p (outside.HearsKeys port keys) = refl
step-hosts M o act p (outside.Puts write) = refl
step-hosts M o act p (outside.Reads address) = refl
step-hosts M o act p (outside.IsFirst host generation none) = refl
step-hosts M o act p (outside.IsAgain host generation won) = refl
step-hosts M o act p (outside.IsSecond host other generation won differs) = refl
step-hosts M o act p (outside.Offers generation low) = refl
step-hosts M o act p (outside.Passes frame) = refl
step-hosts M o act p (outside.Drops frame) = refl

module _ {S : Type 0} (M : Machine S) (drives : ℕ) where
  begins : (records : List Record) (may_fail : Option ℕ) (hosts : ℕ) → IsDisk M drives records [] →
      Shows M drives (at_boot records may_fail) (at_first hosts)
  begins records may_fail hosts disk =
      record { terminals = nothing_yet; winners = λ generation. refl; disk = disk; hosts = omega arith }

  rests : (held : Held) (o : Outside) → Shows M drives held o → (ran : OutsideRan M drives o [] [] held) × (ran.last ≡ o)
  rests held o shows =
      (record { acts = []; last = o; run = outside.Rests; took = refl; gave = refl; shows = shows; hosts = refl }, refl)

  goes : (first : Outside) (held new : Held) (read written : List Frame) (act : Act) →
      (ran : OutsideRan M drives first read written held) →
      (makes : (o : Outside) → Shows M drives held o → (p : Outside) × Makes M drives o act new p) →
      (more : OutsideRan M drives first (read ++ act.takes) (written ++ act.sends) new)
      × (more.last ≡ (makes ran.last ran.shows).0)
  goes first held new read written act r makes =
      let m = makes r.last r.shows in (
        record {
          acts = r.acts ++ act ∷ [];
          last = m.0;
          run = run-one M first r.last m.0 r.acts act r.run m.1.step;
          took = taken-one r.acts act ∙ ap (λ l. l ++ act.takes) r.took;
          gave = sent-one r.acts act ∙ ap (λ l. l ++ act.sends) r.gave;
          shows = m.1.shows;
          hosts = step-hosts M r.last act m.0 m.1.step ∙ r.hosts;
        },
        refl,
      )

  admits : (first : Outside) (held : Held) (host : ℕ) (read written : List Frame) →
      (ran : OutsideRan M drives first read written held) → admitted_after held.hosts host ≤ first.hosts →
      (more : OutsideRan M drives first read written (record held { hosts = admitted_after held.hosts host }))
      × (more.last ≡ ran.last)
  admits first held host read written r few = (
    record {
      acts = r.acts;
      last = r.last;
      run = r.run;
      took = r.took;
      gave = r.gave;
      shows = record {
        terminals = r.shows.terminals;
        winners = r.shows.winners;
        disk = r.shows.disk;
        hosts = subst (λ n. admitted_after held.hosts host ≤ n) (sym r.hosts) few;
      };
      hosts = r.hosts;
    },
    refl,
  )

  pub goes_on : GoesOn M drives
  goes_on = record { begins = begins; rests = rests; goes = goes; admits = admits }
