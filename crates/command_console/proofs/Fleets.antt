-- What happens to a fleet after what has happened: one host makes a run, or the outside does.
use Rattle.std.proofs.Common.{ℕ, ◌≡◌, ◌≤◌, Bool, true, false, cond, Some, List, [], ◌∷◌, ◌++◌, append-nil, append_assoc, refl, sym, ap, ◌∙◌, subst, inl, inr}
use Rattle.std.specs.Prelude.{◌==◌, slice_get, slice_set}
use Rattle.std.proofs.lemmas.List.{length-set}
use Rattle.std.proofs.lemmas.Option.{slice_get_past}
use Rattle.guest_lockstep.specs.Machine.{Machine}
use Rattle.host_calls.proofs.Runs.{run_both}
use Rattle.host_law.proofs.Interleaving.{other-acts, own-acts}
use Rattle.host_law.specs.Fleet.{Causal, Deed, Fleet, Happened, OfHost, OfOutside, act_of, acts_of, outside_acts, sent_by}
use Rattle.host_law.specs.Frame.{Act, Came, Frame, sent, taken}
use Rattle.host_law.specs.Host as host
use Rattle.host_law.specs.Host.{HostRun}
use Rattle.host_law.specs.Outside as outside
use Rattle.host_law.specs.Outside.{Outside, OutsideRun}
use Rattle.pair_protocol.proofs.Traces.Lists.{among-left, get_set, get_set_other, same_or_not, same_some}
use Rattle.pair_protocol.specs.Copying.{Copying}
use Rattle.pair_protocol.specs.Node.{Node}

-- ---- frames

pub came_later : (xs before more : List Frame) → Came xs before → Came xs (before ++ more)
came_later [] before more p = tt
came_later (x ∷ xs) before more p = (among-left x before more p.0, came_later xs before more p.1)

pub came_first : (xs ys before : List Frame) → Came (xs ++ ys) before → Came xs before
came_first [] ys before p = tt
came_first (x ∷ xs) ys before p = (p.0, came_first xs ys before p.1)

pub came_rest : (xs ys before : List Frame) → Came (xs ++ ys) before → Came ys before
came_rest [] ys before p = p
came_rest (x ∷ xs) ys before p = came_rest xs ys before p.1

-- ---- deeds of two lists

acts_both : (n : ℕ) (xs ys : List Deed) → acts_of n (xs ++ ys) ≡ acts_of n xs ++ acts_of n ys
acts_both n [] ys = refl
acts_both n (OfHost m act ∷ xs) ys = go (n == m) (acts_both n xs ys)
  where
    go : (b : Bool) → acts_of n (xs ++ ys) ≡ acts_of n xs ++ acts_of n ys →
        cond b (act ∷ acts_of n (xs ++ ys)) (acts_of n (xs ++ ys)) ≡ cond b (act ∷ acts_of n xs) (acts_of n xs) ++ acts_of n ys
    go true e = ap (λ l. act ∷ l) e
    go false e = e
acts_both n (OfOutside act ∷ xs) ys = acts_both n xs ys

outside_both : (xs ys : List Deed) → outside_acts (xs ++ ys) ≡ outside_acts xs ++ outside_acts ys
outside_both [] ys = refl
outside_both (OfHost m act ∷ xs) ys = outside_both xs ys
outside_both (OfOutside act ∷ xs) ys = ap (λ l. act ∷ l) (outside_both xs ys)

sent_both : (xs ys : List Deed) → sent_by (xs ++ ys) ≡ sent_by xs ++ sent_by ys
sent_both [] ys = refl
sent_both (x ∷ xs) ys =
    ap (λ l. (act_of x).sends ++ l) (sent_both xs ys) ∙ sym (append_assoc (act_of x).sends (sent_by xs) (sent_by ys))

causal_both : (before : List Frame) (xs ys : List Deed) → Causal before xs → Causal (before ++ sent_by xs) ys →
    Causal before (xs ++ ys)
causal_both before [] ys p q = subst (λ l. Causal l ys) (append-nil before) q
causal_both before (x ∷ xs) ys p q = (
  p.0,
  causal_both (before ++ (act_of x).sends) xs ys p.1
      (subst (λ l. Causal l ys) (sym (append_assoc before (act_of x).sends (sent_by xs))) q),
)

-- ---- deeds of one process

abbrev pub host_deeds : ℕ → List Act → List Deed
host_deeds n [] = []
host_deeds n (act ∷ acts) = OfHost n act ∷ host_deeds n acts

abbrev pub outside_deeds : List Act → List Deed
outside_deeds [] = []
outside_deeds (act ∷ acts) = OfOutside act ∷ outside_deeds acts

own : (n : ℕ) (acts : List Act) → acts_of n (host_deeds n acts) ≡ acts
own n [] = refl
own n (act ∷ acts) = own-acts n act (host_deeds n acts) ∙ ap (λ l. act ∷ l) (own n acts)

of_another : (n m : ℕ) (acts : List Act) → (m ≡ n → ⊥) → acts_of m (host_deeds n acts) ≡ []
of_another n m [] other = refl
of_another n m (act ∷ acts) other = other-acts n m act (host_deeds n acts) other ∙ of_another n m acts other

of_outside : (n : ℕ) (acts : List Act) → acts_of n (outside_deeds acts) ≡ []
of_outside n [] = refl
of_outside n (act ∷ acts) = of_outside n acts

not_outside : (n : ℕ) (acts : List Act) → outside_acts (host_deeds n acts) ≡ []
not_outside n [] = refl
not_outside n (act ∷ acts) = not_outside n acts

own_outside : (acts : List Act) → outside_acts (outside_deeds acts) ≡ acts
own_outside [] = refl
own_outside (act ∷ acts) = ap (λ l. act ∷ l) (own_outside acts)

sent_by_host : (n : ℕ) (acts : List Act) → sent_by (host_deeds n acts) ≡ sent acts
sent_by_host n [] = refl
sent_by_host n (act ∷ acts) = ap (λ l. act.sends ++ l) (sent_by_host n acts)

sent_by_outside : (acts : List Act) → sent_by (outside_deeds acts) ≡ sent acts
sent_by_outside [] = refl
sent_by_outside (act ∷ acts) = ap (λ l. act.sends ++ l) (sent_by_outside acts)

host_causal : (n : ℕ) (before : List Frame) (acts : List Act) → Came (taken acts) before → Causal before (host_deeds n acts)
host_causal n before [] p = tt
host_causal n before (act ∷ acts) p = (
  came_first act.takes (taken acts) before p,
  host_causal n (before ++ act.sends) acts
      (came_later (taken acts) before act.sends (came_rest act.takes (taken acts) before p)),
)

outside_causal : (before : List Frame) (acts : List Act) → Came (taken acts) before → Causal before (outside_deeds acts)
outside_causal before [] p = tt
outside_causal before (act ∷ acts) p = (
  came_first act.takes (taken acts) before p,
  outside_causal (before ++ act.sends) acts
      (came_later (taken acts) before act.sends (came_rest act.takes (taken acts) before p)),
)

module _ {S : Type 0} (M : Machine S) (C : Copying S) where
  outside_run_both : (o p q : Outside) (xs ys : List Act) → OutsideRun M o xs p → OutsideRun M p ys q →
      OutsideRun M o (xs ++ ys) q
  outside_run_both o p q xs ys outside.Rests more = more
  outside_run_both o p q xs ys (outside.Goes {mid = mid} {act = act} {acts = acts} step run) more =
      outside.Goes step (outside_run_both mid p q acts ys run more)

  pub nothing_happened : (f : Fleet S) → Happened M C f [] f
  nothing_happened f = record {
    hosts = λ n x there. (x, there, host.Rests);
    many = refl;
    others = λ n out. refl;
    outside = outside.Rests;
    causal = tt;
    sent = sym (append-nil f.sent);
  }

  -- what happened, and then this
  pub then_happened : (f g h : Fleet S) (xs ys : List Deed) → Happened M C f xs g → Happened M C g ys h →
      Happened M C f (xs ++ ys) h
  then_happened f g h xs ys p q = record {
    hosts = λ n x there.
        (let a = p.hosts n x there in
        let b = q.hosts n a.0 a.1 in (
          b.0,
          b.1,
          subst (λ l. HostRun M C n x l b.0) (sym (acts_both n xs ys))
              (run_both M C n x a.0 b.0 (acts_of n xs) (acts_of n ys) a.2 b.2),
        ));
    many = q.many ∙ p.many;
    others = λ n out.
        acts_both n xs ys ∙ ap (λ l. l ++ acts_of n ys) (p.others n out)
        ∙ q.others n (subst (λ k. k ≤ n) (sym p.many) out);
    outside = subst (λ l. OutsideRun M f.outside l h.outside) (sym (outside_both xs ys))
        (outside_run_both f.outside g.outside h.outside (outside_acts xs) (outside_acts ys) p.outside q.outside);
    causal = causal_both f.sent xs ys p.causal (subst (λ l. Causal l ys) p.sent q.causal);
    sent = q.sent ∙ ap (λ l. l ++ sent_by ys) p.sent ∙ append_assoc f.sent (sent_by xs) (sent_by ys)
        ∙ ap (λ l. f.sent ++ l) (sym (sent_both xs ys));
  }

  -- a host made a run
  abbrev pub after_host : Fleet S → ℕ → Node S → List Act → Fleet S
  after_host f n y acts = record { hosts = slice_set f.hosts n y; outside = f.outside; sent = f.sent ++ sent acts }

  pub host_happened : (f : Fleet S) (n : ℕ) (x y : Node S) (acts : List Act) → slice_get f.hosts n ≡ Some x →
      HostRun M C n x acts y → Came (taken acts) f.sent → Happened M C f (host_deeds n acts) (after_host f n y acts)
  host_happened f n x y acts there run came = record {
    hosts = λ m z at. elim (same_or_not m n) [
      | inl same ↦ (
        y,
        ap (slice_get (slice_set f.hosts n y)) same ∙ get_set f.hosts n x y there,
        subst (λ k. HostRun M C k z (acts_of k (host_deeds n acts)) y) (sym same)
            (subst (λ l. HostRun M C n z l y) (sym (own n acts))
            (subst (λ v. HostRun M C n v acts y)
            (same_some x z (slice_get f.hosts n) there (ap (slice_get f.hosts) (sym same) ∙ at)) run)),
      )
      | inr other ↦ (
        z,
        get_set_other f.hosts n m y other ∙ at,
        subst (λ l. HostRun M C m z l z) (sym (of_another n m acts other)) host.Rests,
      )
    ];
    many = length-set f.hosts n y;
    others = λ m out. of_another n m acts (λ same. absurd (
        let none = slice_get_past f.hosts m out in
        let some = ap (slice_get f.hosts) same ∙ there in
        (cc)
        ));
    outside = subst (λ l. OutsideRun M f.outside l f.outside) (sym (not_outside n acts)) outside.Rests;
    causal = host_causal n f.sent acts came;
    sent = ap (λ l. f.sent ++ l) (sym (sent_by_host n acts));
  }

  -- the outside made a run
  abbrev pub after_outside : Fleet S → Outside → List Act → Fleet S
  after_outside f o acts = record { hosts = f.hosts; outside = o; sent = f.sent ++ sent acts }

  pub outside_happened : (f : Fleet S) (o : Outside) (acts : List Act) → OutsideRun M f.outside acts o →
      Came (taken acts) f.sent → Happened M C f (outside_deeds acts) (after_outside f o acts)
  outside_happened f o acts run came = record {
    hosts = λ n x there. (x, there, subst (λ l. HostRun M C n x l x) (sym (of_outside n acts)) host.Rests);
    many = refl;
    others = λ n out. of_outside n acts;
    outside = subst (λ l. OutsideRun M f.outside l o) (sym (own_outside acts)) run;
    causal = outside_causal f.sent acts came;
    sent = ap (λ l. f.sent ++ l) (sym (sent_by_outside acts));
  }
