-- Runs of the processes, interleaved in any order, are steps of all of them, one after another; and each of these is
-- followed by the protocol.
use Rattle.std.proofs.Common.{[], ◌++◌, ◌∙◌, ◌∷◌, ◌≡◌, ◌≤◌, Bool, List, None, Option, Some, ap, append-nil, append_assoc, arith, cond, false, inl, inr, length, refl, subst, suc, sym, true, ℕ}
use Rattle.std.specs.Prelude.{◌==◌, slice_get, slice_set}
use Rattle.std.proofs.lemmas.Bool.{eq-eqb, ne_eqb}
use Rattle.std.proofs.lemmas.List.{length-set}
use Rattle.pair_protocol.proofs.Promises.Growth.{changes_grow}
use Rattle.pair_protocol.proofs.Promises.Runs.{always_faithful}
use Rattle.pair_protocol.proofs.Traces.Lists.{get_set, get_set_other, same_or_not, same_some}
use Rattle.host_law.specs.Host as host
use Rattle.host_law.specs.Kept.{IsKept}
use Rattle.host_law.specs.Laws as law
use Rattle.host_law.specs.Outside as outside
use Rattle.host_law.proofs.Booting.{boot-shown}
use Rattle.host_law.proofs.Following.{follows-changes}
use Rattle.host_law.proofs.HostSteps.{host-step}
use Rattle.host_law.proofs.Keeping.{devices-kept}
use Rattle.host_law.proofs.Passing.{past-end}
use Rattle.host_law.proofs.OutsideSteps.{outside-step}
use Rattle.host_law.proofs.Words.{Act, Copying, Course, Deed, Fleet, FleetStep, Followed, Happened, HostActs, HostRun, HostStep, IsCopying, IsCourse, Lawful, Machine, Node, OfHost, OfOutside, Outside, OutsideActs, OutsideRun, OutsideStep, Reads, Shows, World, acts_of, booted, opening, outside_acts, sent_by, with_spares}

pub followed : {S : Type 0} (M : Machine S) (C : Copying S) → Lawful M → IsCopying M C → (f after : Fleet S) (w : World S) (deed : Deed) →
    Shows M C f w → FleetStep M C f deed after → Followed M C w after
followed M C laws copies f after w deed h (HostActs n x y act there came step) =
    host-step M C f w h n x there laws copies act y step came
followed M C laws copies f after w deed h (OutsideActs o act came step) = outside-step M C f w h act o step came

-- ---- runs

-- no step, and one step more
host-rests : {S : Type 0} (M : Machine S) (C : Copying S) (n : ℕ) (x y : Node S) (acts : List Act) →
    HostRun M C n x acts y → acts ≡ [] → y ≡ x
host-rests M C n x y acts host.Rests e = refl
host-rests M C n x y acts (host.Goes s r) e = absurd (cc)

record HostGoes {S : Type 0} (M : Machine S) (C : Copying S) (n : ℕ) (x : Node S) (act : Act) (acts : List Act)
    (y : Node S) : Type 0 where
  mid : Node S
  step : HostStep M C n x act mid
  run : HostRun M C n mid acts y

host-goes : {S : Type 0} (M : Machine S) (C : Copying S) (n : ℕ) (x y : Node S) (all : List Act) (act : Act)
    (acts : List Act) → HostRun M C n x all y → all ≡ act ∷ acts → HostGoes M C n x act acts y
host-goes M C n x y all act acts host.Rests e = absurd (cc)
host-goes M C n x y all act acts (host.Goes {mid = mid} {act = a} {acts = others} s r) e =
    let first : a ≡ act = (cc) in
    let rest : others ≡ acts = (cc) in
    record {
      mid = mid;
      step = subst (λ z. HostStep M C n x z mid) first s;
      run = subst (λ z. HostRun M C n mid z y) rest r;
    }

pub outside-rests : {S : Type 0} (M : Machine S) (o p : Outside) (acts : List Act) → OutsideRun M o acts p → acts ≡ [] → p ≡ o
outside-rests M o p acts outside.Rests e = refl
outside-rests M o p acts (outside.Goes s r) e = absurd (cc)

pub record OutsideGoes {S : Type 0} (M : Machine S) (o : Outside) (act : Act) (acts : List Act) (p : Outside) : Type 0 where
  pub mid : Outside
  pub step : OutsideStep M o act mid
  pub run : OutsideRun M mid acts p

pub outside-goes : {S : Type 0} (M : Machine S) (o p : Outside) (all : List Act) (act : Act) (acts : List Act) →
    OutsideRun M o all p → all ≡ act ∷ acts → OutsideGoes M o act acts p
outside-goes M o p all act acts outside.Rests e = absurd (cc)
outside-goes M o p all act acts (outside.Goes {mid = mid} {act = a} {acts = others} s r) e =
    let first : a ≡ act = (cc) in
    let rest : others ≡ acts = (cc) in
    record {
      mid = mid;
      step = subst (λ z. OutsideStep M o z mid) first s;
      run = subst (λ z. OutsideRun M mid z p) rest r;
    }

-- what one host did after a step of its own, or of another
pub own-acts : (n : ℕ) (act : Act) (deeds : List Deed) → acts_of n (OfHost n act ∷ deeds) ≡ act ∷ acts_of n deeds
own-acts n act deeds = ap (λ b. cond b (act ∷ acts_of n deeds) (acts_of n deeds)) (eq-eqb n n refl)

pub other-acts : (n m : ℕ) (act : Act) (deeds : List Deed) → (m ≡ n → ⊥) →
    acts_of m (OfHost n act ∷ deeds) ≡ acts_of m deeds
other-acts n m act deeds other = ap (λ b. cond b (act ∷ acts_of m deeds) (acts_of m deeds)) (ne_eqb m n other)

pub no-acts : (b : Bool) (act : Act) (acts : List Act) → cond b (act ∷ acts) acts ≡ [] → acts ≡ []
no-acts true act acts e = absurd (cc)
no-acts false act acts e = e

-- lists of one length that agree at each place of the first
lists-same : {A : Type 0} (xs ys : List A) → length ys ≡ length xs →
    ((n : ℕ) (x : A) → slice_get xs n ≡ Some x → slice_get ys n ≡ Some x) → ys ≡ xs
lists-same [] [] e h = refl
lists-same [] (y ∷ ys) e h = absurd (omega (arith, e))
lists-same (x ∷ xs) [] e h = absurd (omega (arith, e))
lists-same {A} (x ∷ xs) (y ∷ ys) e h =
    let first : y ≡ x = same_some y x (Some y) refl (h 0 x refl) in
    let rest : ys ≡ xs = lists-same xs ys (omega (arith, e)) (λ n z t. h (suc n) z t) in
    ap (λ (z : A). z ∷ ys) first ∙ ap (λ zs. x ∷ zs) rest

module _ {S : Type 0} (M : Machine S) (C : Copying S) where
  -- nothing happened
  ended : (f last : Fleet S) → Happened M C f [] last → last ≡ f
  ended f last e = λ i. record { hosts = hosts i; outside = out i; sent = sent i }
    where
      hosts : last.hosts ≡ f.hosts
      hosts = lists-same f.hosts last.hosts e.many
          (λ n x there. (let r = e.hosts n x there in
          r.1 ∙ ap Some (host-rests M C n x r.0 [] r.2 refl)))

      out : last.outside ≡ f.outside
      out = outside-rests M f.outside last.outside [] e.outside refl

      sent : last.sent ≡ f.sent
      sent = e.sent ∙ append-nil f.sent

  -- a host acted first
  record Acted (f : Fleet S) (n : ℕ) (act : Act) (deeds : List Deed) (last : Fleet S) : Type 0 where
    mid : Fleet S
    step : FleetStep M C f (OfHost n act) mid
    rest : Happened M C mid deeds last

  acted : (f last : Fleet S) (n : ℕ) (act : Act) (deeds : List Deed) → Happened M C f (OfHost n act ∷ deeds) last →
      Acted f n act deeds last
  acted f last n act deeds e = go (slice_get f.hosts n) refl
    where
      go : (o : Option (Node S)) → slice_get f.hosts n ≡ o → Acted f n act deeds last
      go None out = absurd
          (let none = sym (own-acts n act deeds) ∙ e.others n (past-end f.hosts n out) in (cc))
      go (Some x) there =
          let run = e.hosts n x there in
          let goes = host-goes M C n x run.0 _ act (acts_of n deeds) run.2 (own-acts n act deeds) in
          let y = goes.mid in
          record {
            mid = record { hosts = slice_set f.hosts n y; outside = f.outside; sent = f.sent ++ act.sends };
            step = HostActs n x y act there e.causal.0 goes.step;
            rest = record {
              hosts = λ m z at. elim (same_or_not m n) [
                | inl same ↦ (
                  run.0,
                  ap (slice_get last.hosts) same ∙ run.1,
                  subst (λ k. HostRun M C k z (acts_of k deeds) run.0) (sym same)
                      (subst (λ v. HostRun M C n v (acts_of n deeds) run.0)
                      (same_some y z (slice_get (slice_set f.hosts n y) n) (get_set f.hosts n x y there)
                      (ap (slice_get (slice_set f.hosts n y)) (sym same) ∙ at)) goes.run),
                )
                | inr other ↦ (let r = e.hosts m z (sym (get_set_other f.hosts n m y other) ∙ at) in
                    (r.0, r.1, subst (λ acts. HostRun M C m z acts r.0) (other-acts n m act deeds other) r.2))
              ];
              many = e.many ∙ sym (length-set f.hosts n y);
              others = λ m out.
                  no-acts (m == n) act (acts_of m deeds)
                  (e.others m (subst (λ k. k ≤ m) (length-set f.hosts n y) out));
              outside = e.outside;
              causal = e.causal.1;
              sent = e.sent ∙ sym (append_assoc f.sent act.sends (sent_by deeds));
            };
          }

  record Elsewhere (f : Fleet S) (act : Act) (deeds : List Deed) (last : Fleet S) : Type 0 where
    mid : Fleet S
    step : FleetStep M C f (OfOutside act) mid
    rest : Happened M C mid deeds last

  elsewhere : (f last : Fleet S) (act : Act) (deeds : List Deed) → Happened M C f (OfOutside act ∷ deeds) last →
      Elsewhere f act deeds last
  elsewhere f last act deeds e =
      let goes = outside-goes M f.outside last.outside _ act (outside_acts deeds) e.outside refl in
      record {
        mid = record { hosts = f.hosts; outside = goes.mid; sent = f.sent ++ act.sends };
        step = OutsideActs goes.mid act e.causal.0 goes.step;
        rest = record {
          hosts = e.hosts;
          many = e.many;
          others = e.others;
          outside = goes.run;
          causal = e.causal.1;
          sent = e.sent ∙ sym (append_assoc f.sent act.sends (sent_by deeds));
        };
      }

  pub course : Lawful M → IsCopying M C → (deeds : List Deed) (f last : Fleet S) (w : World S) → Shows M C f w →
      Happened M C f deeds last → IsCourse M C f w deeds last
  course laws copies [] f last w h e =
      subst (λ l. IsCourse M C f w [] l) (sym (ended f last e))
      (record { new = w; course = law.Ends h (always_faithful M C laws copies w h.reached) })
  course laws copies (OfHost n act ∷ deeds) f last w h e =
      let a = acted f last n act deeds e in
      let t = followed M C laws copies f a.mid w (OfHost n act) h a.step in
      let rest = course laws copies deeds a.mid last t.new t.shows a.rest in
      record {
        new = rest.new;
        course = law.Goes h (always_faithful M C laws copies w h.reached) a.step t.follows
            (changes_grow M C laws copies w t.new h.reached (follows-changes M C w t.new t.follows)) rest.course;
      }
  course laws copies (OfOutside act ∷ deeds) f last w h e =
      let a = elsewhere f last act deeds e in
      let t = followed M C laws copies f a.mid w (OfOutside act) h a.step in
      let rest = course laws copies deeds a.mid last t.new t.shows a.rest in
      record {
        new = rest.new;
        course = law.Goes h (always_faithful M C laws copies w h.reached) a.step t.follows
            (changes_grow M C laws copies w t.new h.reached (follows-changes M C w t.new t.follows)) rest.course;
      }

pub runs-faithful : {S : Type 0} (M : Machine S) (C : Copying S) → Lawful M → IsCopying M C → (reads : Reads) (spares : ℕ)
    (deeds : List Deed) (last : Fleet S) → Happened M C (booted M reads spares) deeds last →
    IsCourse M C (booted M reads spares) (with_spares M spares (opening M reads)) deeds last
runs-faithful M C laws copies reads spares deeds last e =
    course M C laws copies deeds (booted M reads spares) last (with_spares M spares (opening M reads))
    (boot-shown M C reads spares) e

-- the last fleet shows a faithful world
ends : {S : Type 0} (M : Machine S) (C : Copying S) (f last : Fleet S) (w new : World S) (deeds : List Deed) →
    Course M C f w deeds last new → IsKept M last
ends M C f last w new deeds (law.Ends shows faithful) = record {
  list = faithful.list;
  count = faithful.count;
  trace = faithful.trace;
  reach = faithful.reach;
  kept = devices-kept M C last new shows faithful;
}
ends M C f last w new deeds (law.Goes {mid = mid} {v = v} {deeds = more} shows faithful step follows grows rest) =
    ends M C mid last v new more rest

pub runs-kept : {S : Type 0} (M : Machine S) (C : Copying S) → Lawful M → IsCopying M C → (reads : Reads) (spares : ℕ)
    (deeds : List Deed) (last : Fleet S) → Happened M C (booted M reads spares) deeds last → IsKept M last
runs-kept M C laws copies reads spares deeds last e =
    let c = runs-faithful M C laws copies reads spares deeds last e in
    ends M C (booted M reads spares) last (with_spares M spares (opening M reads)) c.new deeds c.course
