-- Steps of processes, one after another: an answer to what was asked, and what is told or released. Each leads to a fleet that
-- shows some world, whatever went before.
use Rattle.std.proofs.Common.{◌≡◌, ℕ, suc, ◌≤◌, inl, inr, List, [], ◌∷◌, ◌++◌, length, refl, arith, Bool, true, false, cond, subst, sym, eq-eqb}
use Rattle.std.specs.Prelude.{◌==◌}
use Rattle.pair_protocol.proofs.Traces.Lists.{among-right, among-split}
use Rattle.host_law.specs.Frame.{quiet}
use Rattle.host_law.proofs.Words.{Act, Among, Came, Copying, Deed, Fleet, FleetStep, Frame, Machine, OfHost, OfOutside, Shows, World, act_of}
use Rattle.host_progress.specs.Exchanges.{AreOf, ByHost, ByOutside, Ends, Exchanged, HostsReach, Streams, none_sent, with_sent}

-- ---- frames

among-left : {A : Type 0} (x : A) (xs ys : List A) → Among x xs → Among x (xs ++ ys)
among-left x [] ys h = absurd h
among-left x (y ∷ xs) ys (inl h) = inl h
among-left x (y ∷ xs) ys (inr h) = inr (among-left x xs ys h)

abbrev Within : List Frame → List Frame → Type 0
Within few many = (x : Frame) → Among x few → Among x many

both-longer : (few many more : List Frame) → Within few many → Within (few ++ more) (many ++ more)
both-longer few many more k x h = elim (among-split x few more h) [
  | inl a ↦ among-left x many more (k x a)
  | inr b ↦ among-right x many more b
]

came-more : (frames few many : List Frame) → Within few many → Came frames few → Came frames many
came-more [] few many k h = tt
came-more (frame ∷ frames) few many k h = (k frame h.0, came-more frames few many k h.1)

none-came : (frames : List Frame) → Came frames [] → frames ≡ []
none-came [] h = refl
none-came (frame ∷ frames) h = absurd h.0

-- ---- streams

-- each has all that another has
abbrev Each : Streams → Streams → Type 0
Each few many = (k : ℕ) → Within (few k) (many k)

each-longer : (n : ℕ) (frames : List Frame) (few many : Streams) → Each few many →
    Each (with_sent n frames few) (with_sent n frames many)
each-longer n frames few many e k = go (k == n)
  where
    go : (b : Bool) → Within (cond b (few k ++ frames) (few k)) (cond b (many k ++ frames) (many k))
    go true = both-longer (few k) (many k) frames (e k)
    go false = e k

none-within : (many : Streams) → Each none_sent many
none-within many k x h = absurd h

-- what was sent last by a stream comes by it
pub sent_last : (n : ℕ) (frame : Frame) (streams : Streams) → Came (frame ∷ []) (with_sent n (frame ∷ []) streams n)
sent_last n frame streams =
    subst (λ b. Came (frame ∷ []) (cond b (streams n ++ frame ∷ []) (streams n))) (sym (eq-eqb n n refl))
    (among-right frame (streams n) (frame ∷ []) (inl refl), tt)

module _ {S : Type 0} (M : Machine S) (C : Copying S) where
  -- what may be done while less was sent may be done while more was
  pub widened : (f last : Fleet S) (up down more_up more_down : Streams) (deeds : List Deed) → Each up more_up →
      Each down more_down → Exchanged M C f up down deeds last → Exchanged M C f more_up more_down deeds last
  widened f last up down more_up more_down deeds u d Ends = Ends
  widened f last up down more_up more_down _ u d (ByHost {mid = mid} {deeds = deeds} n act step came rest) =
      ByHost n act step (came-more act.takes (down n) (more_down n) (d n) came)
      (widened mid last (with_sent n act.sends up) down (with_sent n act.sends more_up) more_down deeds
      (each-longer n act.sends up more_up u) d rest)
  widened f last up down more_up more_down _ u d (ByOutside {mid = mid} {deeds = deeds} from to act step came rest) =
      ByOutside from to act step (came-more act.takes (up from) (more_up from) (u from) came)
      (widened mid last up (with_sent to act.sends down) more_up (with_sent to act.sends more_down) deeds u
      (each-longer to act.sends down more_down d) rest)

  -- what may be done while nothing was sent
  pub from_none : (f last : Fleet S) (up down : Streams) (deeds : List Deed) →
      Exchanged M C f none_sent none_sent deeds last → Exchanged M C f up down deeds last
  from_none f last up down deeds =
      widened f last none_sent none_sent up down deeds (none-within up) (none-within down)

  -- the first step waits for nobody
  pub first_waits : (f last : Fleet S) (deed : Deed) (deeds : List Deed) →
      Exchanged M C f none_sent none_sent (deed ∷ deeds) last → (act_of deed).takes ≡ []
  first_waits f last _ _ (ByHost n act step came rest) = none-came act.takes came
  first_waits f last _ _ (ByOutside from to act step came rest) = none-came act.takes came

  module _ (Who : ℕ → Type 0) (End : World S → Type 0) where
    -- what is left of a list of steps, when these frames have gone
    pub record Left (f : Fleet S) (up down : Streams) (most : ℕ) : Type 0 where
      pub deeds : List Deed
      pub last : Fleet S
      pub done : Exchanged M C f up down deeds last
      pub who : AreOf Who deeds
      pub few : length deeds ≤ most
      pub new : World S
      pub shows : Shows M C last new
      pub end : End new

    pub left : (f : Fleet S) (up down : Streams) (most : ℕ) → HostsReach M C f Who most End → Left f up down most
    left f up down most r = record {
      deeds = r.deeds;
      last = r.last;
      done = from_none f r.last up down r.deeds r.done;
      who = r.who;
      few = r.few;
      new = r.new;
      shows = r.shows;
      end = r.end;
    }

    pub whole : (f : Fleet S) (most : ℕ) → Left f none_sent none_sent most → HostsReach M C f Who most End
    whole f most r = record {
      deeds = r.deeds;
      last = r.last;
      done = r.done;
      who = r.who;
      few = r.few;
      new = r.new;
      shows = r.shows;
      end = r.end;
    }

    pub by_host : (f mid : Fleet S) (up down : Streams) (most n : ℕ) (act : Act) → Who n →
        FleetStep M C f (OfHost n act) mid → Came act.takes (down n) → Left mid (with_sent n act.sends up) down most →
        Left f up down (suc most)
    by_host f mid up down most n act who step came r = record {
      deeds = OfHost n act ∷ r.deeds;
      last = r.last;
      done = ByHost n act step came r.done;
      who = (who, r.who);
      few = (let l = r.few in omega (arith, l));
      new = r.new;
      shows = r.shows;
      end = r.end;
    }

    pub by_outside : (f mid : Fleet S) (up down : Streams) (most from to : ℕ) (act : Act) → (act ≡ quiet → ⊥) →
        FleetStep M C f (OfOutside act) mid → Came act.takes (up from) → Left mid up (with_sent to act.sends down) most →
        Left f up down (suc most)
    by_outside f mid up down most from to act loud step came r = record {
      deeds = OfOutside act ∷ r.deeds;
      last = r.last;
      done = ByOutside from to act step came r.done;
      who = (loud, r.who);
      few = (let l = r.few in omega (arith, l));
      new = r.new;
      shows = r.shows;
      end = r.end;
    }

    -- no step is needed
    pub is_there : (f : Fleet S) (w : World S) (most : ℕ) → Shows M C f w → End w → HostsReach M C f Who most End
    is_there f w most h e = record {
      deeds = [];
      last = f;
      done = Ends;
      who = tt;
      few = omega arith;
      new = w;
      shows = h;
      end = e;
    }

    -- more are enough too
    pub at_most : (f : Fleet S) (most more : ℕ) → most ≤ more → HostsReach M C f Who most End →
        HostsReach M C f Who more End
    at_most f most more le r = record {
      deeds = r.deeds;
      last = r.last;
      done = r.done;
      who = r.who;
      few = (let l = r.few in omega (arith, l, le));
      new = r.new;
      shows = r.shows;
      end = r.end;
    }
