-- A whole host that asks first has won: its node lets it ask, and the arbiter has named nobody. What was sent of winners and
-- losers is so at the arbiter, as of every frame that was sent.
use Rattle.std.proofs.Common.{[], ◌++◌, ◌∙◌, ◌∷◌, ◌≡◌, ◌≢◌, ◌⊎◌, Bool, Option, Some, ap, cond, inl, inr, not, refl, true, ℕ}
use Rattle.std.specs.Prelude.{slice_get, slice_set}
use Rattle.pair_protocol.specs.Refusals.{suspect_refusal}
use Rattle.pair_protocol.proofs.Traces.Lists.{among-right, get_set, same_some}
use Rattle.host_law.specs.Frame.{answering, sending, taking}
use Rattle.host_law.specs.Host as host
use Rattle.host_law.specs.Host.{Passes}
use Rattle.host_law.specs.Outside as outside
use Rattle.host_law.specs.Outside.{with_first}
use Rattle.host_law.specs.Survival.{MayWin, Wins}
use Rattle.host_law.proofs.Words.{Among, AsksArbiter, Backup, Copying, Fault, Fleet, HasLost, HasWon, HostActs, Joining, Machine, Node, NotWhole, OutsideActs, Primary, Role, Shows, Spare, Unknown, World, WrongRole, fault_if, first_of, is_role, winner_in, wins}

-- a node that is up and whole may ask
asks : {S : Type 0} (x : Node S) → x.running ≡ true → (x.role ≡ Primary) ⊎ (x.role ≡ Backup) →
    Passes x suspect_refusal
asks x up whole = elim whole [
  | inl is ↦ ap (λ r. refused r x.running) is ∙ ap (refused Primary) up
  | inr is ↦ ap (λ r. refused r x.running) is ∙ ap (refused Backup) up
]
  where
    refused : Role → Bool → Option Fault
    refused r up =
        cond (is_role r Spare) (Some Unknown)
        (first_of (fault_if (not up) WrongRole ∷ fault_if (is_role r Joining) NotWhole ∷ []))

pub whole-wins : {S : Type 0} (M : Machine S) (C : Copying S) (f : Fleet S) (n : ℕ) (x : Node S) → MayWin f n x →
    Wins M C f n x
whole-wins {S} M C f n x may = record {
  asked = asked;
  answered = answered;
  won = record {
    hosts = slice_set asked.hosts n (wins x);
    outside = answered.outside;
    sent = answered.sent ++ [];
  };
  asks = HostActs n x x (sending (AsksArbiter n x.generation)) may.there tt (host.Asks passes);
  answers = OutsideActs answered.outside (answering (AsksArbiter n x.generation) (HasWon x.generation n))
      (among-right (AsksArbiter n x.generation) f.sent (AsksArbiter n x.generation ∷ []) (inl refl), tt)
      (outside.IsFirst n x.generation may.undecided);
  hears = HostActs n x (wins x) (taking (HasWon x.generation n)) there
      (among-right (HasWon x.generation n) asked.sent (HasWon x.generation n ∷ []) (inl refl), tt)
      (host.Wins passes may.whole);
  has_won = get_set asked.hosts n x (wins x) there;
}
  where
    asked : Fleet S
    asked = record {
      hosts = slice_set f.hosts n x;
      outside = f.outside;
      sent = f.sent ++ AsksArbiter n x.generation ∷ [];
    }

    answered : Fleet S
    answered = record {
      hosts = asked.hosts;
      outside = with_first f.outside x.generation n;
      sent = asked.sent ++ HasWon x.generation n ∷ [];
    }

    passes : Passes x suspect_refusal
    passes = asks x may.up may.whole

    there : slice_get asked.hosts n ≡ Some x
    there = get_set f.hosts n x x may.there

pub loser-has-winner : {S : Type 0} (M : Machine S) (C : Copying S) (f : Fleet S) (w : World S) → Shows M C f w →
    (generation host : ℕ) → Among (HasLost generation host) f.sent →
    (other : ℕ) × (winner_in f.outside.winners generation ≡ Some other) × (other ≢ host)
loser-has-winner M C f w h generation host sent = h.frames (HasLost generation host) sent

pub one-wins : {S : Type 0} (M : Machine S) (C : Copying S) (f : Fleet S) (w : World S) → Shows M C f w →
    (generation n m : ℕ) → Among (HasWon generation n) f.sent → Among (HasWon generation m) f.sent → n ≡ m
one-wins M C f w h generation n m sent also =
    same_some n m (winner_in f.outside.winners generation) (h.frames (HasWon generation n) sent)
    (h.frames (HasWon generation m) also)
