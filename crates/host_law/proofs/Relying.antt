-- Hosts that rely on the others make their steps: each node stands, since the world that is shown is reached.
use Rattle.std.proofs.Common.{[], ◌++◌, ◌∙◌, ◌∷◌, ◌≡◌, ◌≤◌, ◌⊎◌, List, None, Option, Some, ap, inl, inr, refl, subst, sym, ℕ}
use Rattle.std.specs.Prelude.{◌==◌, slice_get, slice_set}
use Rattle.std.proofs.lemmas.List.{length-set}
use Rattle.pair_protocol.specs.Change.{Replaying, Serving}
use Rattle.pair_protocol.specs.NodeStands.{NodeStands}
use Rattle.pair_protocol.proofs.Promises.Growth.{changes_grow}
use Rattle.pair_protocol.proofs.Promises.Runs.{always_faithful}
use Rattle.pair_protocol.proofs.Traces.Lists.{get_set, get_set_other, same_or_not, same_some}
use Rattle.host_law.specs.Laws as law
use Rattle.host_law.specs.Relying as relying
use Rattle.host_law.specs.Relying.{HappenedIf, IsReliable, RunIf}
use Rattle.host_law.proofs.Booting.{boot-shown}
use Rattle.host_law.proofs.Following.{follows-changes}
use Rattle.host_law.proofs.Passing.{past-end}
use Rattle.host_law.proofs.Interleaving.{followed, no-acts, other-acts, outside-goes, outside-rests, own-acts}
use Rattle.host_law.proofs.Keeping.{hosts-stand}
use Rattle.host_law.proofs.Words.{Act, Copying, Deed, Fleet, FleetStep, HostActs, HostStep, IsCopying, Lawful, Machine, Node, OfHost, OfOutside, Outside, OutsideActs, Reads, Role, Shows, Spare, World, acts_of, booted, opening, outside_acts, with_spares}

-- a host is spare or not; one that is stands, since nothing is asked of it
spare-or-not : (r : Role) → (r ≡ Spare) ⊎ (r ≡ Spare → ⊥)
spare-or-not Spare = inl refl
spare-or-not r = inr (λ e. (cc))

not-serving : (r : Role) → r ≡ Spare → Serving r → ⊥
not-serving r is (inl e) = let k = sym is ∙ e in (cc)
not-serving r is (inr e) = let k = sym is ∙ e in (cc)

not-replaying : (r : Role) → r ≡ Spare → Replaying r → ⊥
not-replaying r is (inl e) = let k = sym is ∙ e in (cc)
not-replaying r is (inr e) = let k = sym is ∙ e in (cc)

spare-stands : {S : Type 0} (M : Machine S) (x : Node S) → x.role ≡ Spare → NodeStands M x
spare-stands M x is = record {
  machine = λ acts. absurd (elim acts [ inl s ↦ not-serving x.role is s | inr s ↦ not-replaying x.role is s ]);
  keys = λ serves port. absurd (not-serving x.role is serves);
  covered = λ e. absurd (let k = sym is ∙ e in (cc));
  replayed = λ replays. absurd (not-replaying x.role is replays);
  on_trace = λ replays. absurd (not-replaying x.role is replays);
}

record GoesIf {S : Type 0} (M : Machine S) (C : Copying S) (n : ℕ) (x : Node S) (act : Act) (acts : List Act) : Type 0 where
  mid : Node S
  step : HostStep M C n x act mid
  run : RunIf M C n mid acts

goes-if : {S : Type 0} (M : Machine S) (C : Copying S) (n : ℕ) (x : Node S) (all : List Act) (act : Act) (acts : List Act) →
    NodeStands M x → RunIf M C n x all → all ≡ act ∷ acts → GoesIf M C n x act acts
goes-if M C n x all act acts stands relying.Rests e = absurd (cc)
goes-if M C n x all act acts stands (relying.Goes {act = a} {acts = more} y step run) e =
    let first : a ≡ act = (cc) in
    let rest : more ≡ acts = (cc) in
    record {
      mid = y stands;
      step = subst (λ z. HostStep M C n x z (y stands)) first (step stands);
      run = subst (λ z. RunIf M C n (y stands) z) rest (run stands);
    }

module _ {S : Type 0} (M : Machine S) (C : Copying S) (laws : Lawful M) (copies : IsCopying M C) where
  stand : (f : Fleet S) (w : World S) → Shows M C f w → (n : ℕ) (x : Node S) → slice_get f.hosts n ≡ Some x → NodeStands M x
  stand f w h n x there = elim (spare-or-not x.role) [
    | inl is ↦ spare-stands M x is
    | inr node ↦ hosts-stand M C laws copies f w h n x there node
  ]

  record Acted (f : Fleet S) (n : ℕ) (act : Act) (deeds : List Deed) (o : Outside) : Type 0 where
    mid : Fleet S
    step : FleetStep M C f (OfHost n act) mid
    rest : HappenedIf M C mid deeds o

  acted : (f : Fleet S) (w : World S) (o : Outside) → Shows M C f w → (n : ℕ) (act : Act) (deeds : List Deed) →
      HappenedIf M C f (OfHost n act ∷ deeds) o → Acted f n act deeds o
  acted f w o h n act deeds e = go (slice_get f.hosts n) refl
    where
      go : (here : Option (Node S)) → slice_get f.hosts n ≡ here → Acted f n act deeds o
      go None out = absurd (let none = sym (own-acts n act deeds) ∙ e.others n (past-end f.hosts n out) in (cc))
      go (Some x) there =
          let goes = goes-if M C n x _ act (acts_of n deeds) (stand f w h n x there) (e.hosts n x there)
          (own-acts n act deeds) in
          let y = goes.mid in
          record {
            mid = record { hosts = slice_set f.hosts n y; outside = f.outside; sent = f.sent ++ act.sends };
            step = HostActs n x y act there e.causal.0 goes.step;
            rest = record {
              hosts = λ m z at. elim (same_or_not m n) [
                | inl same ↦ subst (λ k. RunIf M C k z (acts_of k deeds)) (sym same)
                    (subst (λ v. RunIf M C n v (acts_of n deeds))
                    (same_some y z (slice_get (slice_set f.hosts n y) n) (get_set f.hosts n x y there)
                    (ap (slice_get (slice_set f.hosts n y)) (sym same) ∙ at)) goes.run)
                | inr other ↦ subst (λ acts. RunIf M C m z acts) (other-acts n m act deeds other)
                    (e.hosts m z (sym (get_set_other f.hosts n m y other) ∙ at))
              ];
              others = λ m out. no-acts (m == n) act (acts_of m deeds)
                  (e.others m (subst (λ k. k ≤ m) (length-set f.hosts n y) out));
              outside = e.outside;
              causal = e.causal.1;
            };
          }

  pub reliable : (deeds : List Deed) (f : Fleet S) (w : World S) (o : Outside) → Shows M C f w → HappenedIf M C f deeds o →
      IsReliable M C f w deeds o
  reliable [] f w o h e = record {
    last = f;
    course = record { new = w; course = law.Ends h (always_faithful M C laws copies w h.reached) };
    outside = sym (outside-rests M f.outside o [] e.outside refl);
  }
  reliable (OfHost n act ∷ deeds) f w o h e =
      let a = acted f w o h n act deeds e in
      let t = followed M C laws copies f a.mid w (OfHost n act) h a.step in
      let r = reliable deeds a.mid t.new o t.shows a.rest in
      record {
        last = r.last;
        course = record {
          new = r.course.new;
          course = law.Goes h (always_faithful M C laws copies w h.reached) a.step t.follows
              (changes_grow M C laws copies w t.new h.reached (follows-changes M C w t.new t.follows)) r.course.course;
        };
        outside = r.outside;
      }
  reliable (OfOutside act ∷ deeds) f w o h e =
      let goes = outside-goes M f.outside o _ act (outside_acts deeds) e.outside refl in
      let mid : Fleet S = record { hosts = f.hosts; outside = goes.mid; sent = f.sent ++ act.sends } in
      let step : FleetStep M C f (OfOutside act) mid = OutsideActs goes.mid act e.causal.0 goes.step in
      let t = followed M C laws copies f mid w (OfOutside act) h step in
      let rest : HappenedIf M C mid deeds o = record {
        hosts = e.hosts;
        others = e.others;
        outside = goes.run;
        causal = e.causal.1;
      } in
      let r = reliable deeds mid t.new o t.shows rest in
      record {
        last = r.last;
        course = record {
          new = r.course.new;
          course = law.Goes h (always_faithful M C laws copies w h.reached) step t.follows
              (changes_grow M C laws copies w t.new h.reached (follows-changes M C w t.new t.follows)) r.course.course;
        };
        outside = r.outside;
      }

pub relying-faithful : {S : Type 0} (M : Machine S) (C : Copying S) → Lawful M → IsCopying M C → (reads : Reads) (spares : ℕ)
    (deeds : List Deed) (o : Outside) → HappenedIf M C (booted M reads spares) deeds o →
    IsReliable M C (booted M reads spares) (with_spares M spares (opening M reads)) deeds o
relying-faithful M C laws copies reads spares deeds o e =
    reliable M C laws copies deeds (booted M reads spares) (with_spares M spares (opening M reads)) o
    (boot-shown M C reads spares) e
