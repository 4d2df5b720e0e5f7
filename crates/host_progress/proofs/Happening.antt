-- Steps of processes, one after another, are a run of each process.
use Rattle.std.proofs.Common.{◌≡◌, ℕ, inl, inr, Some, List, ◌∷◌, append-nil, append_assoc, refl, sym, subst, ◌∙◌, arith}
use Rattle.std.specs.Prelude.{slice_get}
use Rattle.std.proofs.lemmas.List.{length-set}
use Rattle.std.proofs.lemmas.Option.{slice_get_within}
use Rattle.pair_protocol.proofs.Traces.Lists.{get_set, get_set_other, same_or_not, same_some}
use Rattle.host_law.specs.Host as host
use Rattle.host_law.specs.Outside as outside
use Rattle.host_law.proofs.Interleaving.{other-acts, own-acts}
use Rattle.host_law.proofs.Words.{Act, Copying, Deed, Fleet, FleetStep, Happened, HostActs, HostRun, Machine, Node, OfHost, OfOutside, OutsideActs, acts_of, sent_by}
use Rattle.host_progress.specs.Exchanges.{ByHost, ByOutside, Ends, Exchanged, Streams}

module _ {S : Type 0} (M : Machine S) (C : Copying S) where
  -- where a run of a host leads
  abbrev RunOf : (last : Fleet S) (n : ℕ) (x : Node S) → List Act → Type 0
  RunOf last n x acts = (y : Node S) × (slice_get last.hosts n ≡ Some y) × HostRun M C n x acts y

  -- one step of a host, and then what happens
  host_first : (f mid last : Fleet S) (n : ℕ) (act : Act) (deeds : List Deed) → FleetStep M C f (OfHost n act) mid →
      Happened M C mid deeds last → Happened M C f (OfHost n act ∷ deeds) last
  host_first f _ last _ _ deeds (HostActs n x y act there came step) r = record {
    hosts = λ m z there_z. elim (same_or_not m n) [
      | inl e ↦
          (let same : x ≡ z = same_some x z (slice_get f.hosts n) there
          (subst (λ k. slice_get f.hosts k ≡ Some z) e there_z) in
          let k = r.hosts n y (get_set f.hosts n x y there) in
          subst (λ j. RunOf last j z (acts_of j (OfHost n act ∷ deeds))) (sym e) (
            k.0,
            k.1,
            subst (λ acts. HostRun M C n z acts k.0) (sym (own-acts n act deeds))
                (subst (λ v. HostRun M C n v (act ∷ acts_of n deeds) k.0) same (host.Goes step k.2)),
          ))
      | inr differs ↦
          (let k = r.hosts m z (get_set_other f.hosts n m y differs ∙ there_z) in
          (k.0, k.1, subst (λ acts. HostRun M C m z acts k.0) (sym (other-acts n m act deeds differs)) k.2))
    ];
    many = r.many ∙ length-set f.hosts n y;
    others = λ m low. other-acts n m act deeds
        (λ e. (let l = slice_get_within f.hosts n x there in omega (arith, l, low, e)))
        ∙ r.others m (let l = length-set f.hosts n y in omega (arith, l, low));
    outside = r.outside;
    causal = (came, r.causal);
    sent = r.sent ∙ append_assoc f.sent act.sends (sent_by deeds);
  }

  -- one step of the outside
  outside_first : (f mid last : Fleet S) (act : Act) (deeds : List Deed) → FleetStep M C f (OfOutside act) mid →
      Happened M C mid deeds last → Happened M C f (OfOutside act ∷ deeds) last
  outside_first f _ last _ deeds (OutsideActs o act came step) r = record {
    hosts = r.hosts;
    many = r.many;
    others = r.others;
    outside = outside.Goes step r.outside;
    causal = (came, r.causal);
    sent = r.sent ∙ append_assoc f.sent act.sends (sent_by deeds);
  }

  pub happens : (f last : Fleet S) (up down : Streams) (deeds : List Deed) → Exchanged M C f up down deeds last →
      Happened M C f deeds last
  happens f last up down _ Ends = record {
    hosts = λ n x there. (x, there, host.Rests);
    many = refl;
    others = λ n low. refl;
    outside = outside.Rests;
    causal = tt;
    sent = sym (append-nil f.sent);
  }
  happens f last up down _ (ByHost {mid = mid} {deeds = deeds} n act step came rest) =
      host_first f mid last n act deeds step (happens mid last _ down deeds rest)
  happens f last up down _ (ByOutside {mid = mid} {deeds = deeds} from to act step came rest) =
      outside_first f mid last act deeds step (happens mid last up _ deeds rest)
