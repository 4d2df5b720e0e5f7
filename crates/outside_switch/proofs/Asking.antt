-- A host asks for a generation: the first has won it, and whoever asks later is answered by the winner that is kept.
use Rattle.std.proofs.Common.{◌≡◌, [], ◌∷◌, ◌++◌, ◌∙◌, Bool, List, None, Option, Some, Err, Ok, ap, cond, eq-eqb, eqb-true, false, is_some, refl, subst, sym, true, ℕ}
use Rattle.std.specs.Prelude.{Result, ◌==◌, ◌≢◌, is_none}
use Rattle.host_law.specs.Outside as outside
use Rattle.pair_protocol.proofs.Keeps.Arbiter.{winner-push}
use Rattle.pair_protocol.proofs.SharedDevices.{winners_after}
use Rattle.outside_switch.proofs.Words.{AreWinners, Asking, AsksArbiter, Fault, HasLost, HasWon, Held, IsAnswer, Lost, Machine, OutOfMemory, Outside, Shows, Winner, Won, after_asking, answering, winner_in, winner_of, with_first}
use Rattle.outside_switch.specs.Steps.{ArbiterMakes, Makes, Wins}

own_answer : (winner host : ℕ) (won : Won) (b : Bool) → (winner == host) ≡ b →
    ◌≡◌ {A = Result Won Fault} (Ok won) (cond b (Ok (record {})) (Err Lost)) → winner ≡ host
own_answer winner host won true e a = eqb-true winner host e
own_answer winner host won false e a = absurd (cc)

other_answer : (winner host : ℕ) (b : Bool) → (winner == host) ≡ b →
    ◌≡◌ {A = Result Won Fault} (Err Lost) (cond b (Ok (record {})) (Err Lost)) → winner ≢ host
other_answer winner host true e a = absurd (cc)
other_answer winner host false e a = λ same. let t = eq-eqb winner host same in (cc)

module _ {S : Type 0} (M : Machine S) (drives : ℕ) (held : Held) (o : Outside) (h : Shows M drives held o) where
  -- other askings are kept, and the winners are these
  with_winners : (askings : List Asking) (winners : List Winner) → AreWinners askings winners →
      Shows M drives (record held { askings = askings }) (record o { winners = winners })
  with_winners askings winners are = record { terminals = h.terminals; winners = are; disk = h.disk; hosts = h.hosts }

  -- the askings are those that were kept before
  same_winners : (askings : List Asking) → askings ≡ held.askings →
      Shows M drives (record held { askings = askings }) o
  same_winners askings same =
      with_winners askings o.winners (subst (λ l. AreWinners l o.winners) (sym same) h.winners)

  wins : (g host : ℕ) (won : Won) (askings : List Asking) (w : Option ℕ) → winner_of held.askings g ≡ w →
      IsAnswer w host (Ok won) → askings ≡ after_asking held.askings g host → Wins M drives held o g host askings
  wins g host won askings None e answer after =
      let none : winner_in o.winners g ≡ None = sym (h.winners g) ∙ e in
      let first : List Winner = o.winners ++ record { generation = g; node = host } ∷ [] in
      record {
        makes = subst
            (λ v. Makes M drives o (answering (AsksArbiter host g) (HasWon g host)) (record held { askings = askings })
            (cond (is_none v) (with_first o g host) o))
            (sym none)
            (record {
              step = outside.IsFirst host g none;
              shows = with_winners askings first
                  (subst (λ l. AreWinners l first) (sym after) (winners_after held.askings o.winners g host h.winners e));
            });
        won = subst (λ v. winner_in (cond (is_none v) (with_first o g host) o).winners g ≡ Some host) (sym none)
            (winner-push o.winners g host none);
      }
  wins g host won askings (Some winner) e answer after =
      let own : winner ≡ host = own_answer winner host won (winner == host) refl answer in
      let is : winner_in o.winners g ≡ Some host = sym (h.winners g) ∙ e ∙ ap Some own in
      let same : askings ≡ held.askings = after
      ∙ ap (λ v. cond (is_some v) held.askings (held.askings ++ record { generation = g; node = host } ∷ [])) e in
      record {
        makes = subst
            (λ v. Makes M drives o (answering (AsksArbiter host g) (HasWon g host)) (record held { askings = askings })
            (cond (is_none v) (with_first o g host) o))
            (sym is)
            (record { step = outside.IsAgain host g is; shows = same_winners askings same });
        won = subst (λ v. winner_in (cond (is_none v) (with_first o g host) o).winners g ≡ Some host) (sym is) is;
      }

  loses : (g host : ℕ) (askings : List Asking) (w : Option ℕ) → winner_of held.askings g ≡ w →
      IsAnswer w host (Err Lost) → askings ≡ held.askings →
      Makes M drives o (answering (AsksArbiter host g) (HasLost g host)) (record held { askings = askings }) o
  loses g host askings None e answer same = absurd (let never : Lost ≡ OutOfMemory = answer in cc)
  loses g host askings (Some winner) e answer same =
      record {
        step = outside.IsSecond host winner g (sym (h.winners g) ∙ e)
            (other_answer winner host (winner == host) refl answer);
        shows = same_winners askings same;
      }

  pub arbiter_makes : ArbiterMakes M drives held o
  arbiter_makes = record {
    wins = λ g host won askings asks. wins g host won askings (winner_of held.askings g) refl asks.0 asks.1;
    loses = λ g host askings asks. loses g host askings (winner_of held.askings g) refl asks.0 asks.1;
    drops = λ g host fault askings asks. record {
      step = outside.Drops (AsksArbiter host g);
      shows = same_winners askings asks.1;
    };
  }
