-- Steps that are events of the world: a seat asks the arbiter, and has won or is halted.
use Rattle.std.proofs.Common.{◌≡◌, ℕ, List, [], ◌∷◌, ◌++◌, sym, refl, ap, ◌∙◌, inl, inr, Some, slice_get, slice_set}
use Rattle.pair_rule.proofs.Words.{Accepts, Copying, First, Knowledge, Leads, Lost, Machine, Node, Nothing, Refused, Refuses, Row, Shows, ShowsVisible, Suspect, Visible, Winner, Won, World, ask_refusal, at_node, backup_asked, backup_node, fault_if, first_of, halts, is_other, primary_asked, primary_node, visible, winner_in, winner_of, winners_of, wins, with_node, with_winner}
use Rattle.pair_rule.proofs.ShownNodes.{serving, waiting, first_node, second_node}

module _ {S : Type 0} (M : Machine S) (C : Copying S) (typed0 typed1 : List ℕ) (k : Knowledge) (w : World S)
    (z : Shows M typed0 typed1 k w) where
  abbrev primary : Node S
  primary = serving M C typed0 typed1 k w z

  abbrev backup : Node S
  backup = waiting M C typed0 typed1 k w z

  at_primary : k.primary.winner ≡ 0 → slice_get w.nodes 0 ≡ Some primary
  at_primary none = first_node M C typed0 typed1 k w z none

  at_backup : k.backup.winner ≡ 0 → slice_get w.nodes 1 ≡ Some backup
  at_backup none = second_node M C typed0 typed1 k w z none

  -- who has asked shows in the nodes and in the winner alone
  abbrev asked : ℕ → ℕ → Visible
  asked primary backup = record (visible k) { winner = primary; backup = record k.backup { winner = backup } }

  asked_shows : (a b : ℕ) (nodes : List (Node S)) (winners : List Winner)
      → nodes ≡ primary_node (asked a b) z.moves z.s ∷ backup_node M (asked a b) ∷ [] → winners ≡ winners_of (winner_of a b)
      → ShowsVisible M typed0 typed1 (asked a b) (record w { nodes = nodes; winners = winners })
  asked_shows a b nodes winners nodes_are winners_are = record {
    moves = z.moves;
    s = z.s;
    recorded = z.recorded;
    entries_are = z.entries_are;
    count = z.count;
    nodes = nodes_are;
    sent = record { logs = z.sent.logs; acks = z.sent.acks; operations = z.sent.operations; writes = z.sent.writes };
    terminals = z.terminals;
    winners = winners_are;
    puts = z.puts;
    issued = z.issued;
    done = z.done;
    first_reads = z.first_reads;
    covered = z.covered;
    only = z.only;
  }

  undecided : k.primary.winner ≡ 0 → k.backup.winner ≡ 0 → w.winners ≡ []
  undecided none nobody = z.winners ∙ (λ i. winners_of (winner_of (none i) (nobody i)))

  -- a primary asks: it has won, or it is halted
  pub primary_wins : k.primary.winner ≡ 0 → k.backup.winner ≡ 0
      → Leads M C typed0 typed1 (primary_asked 0 k) w (λ events. events ≡ Suspect 0 ∷ [])
  primary_wins none nobody = let free = undecided none nobody in
      let row : Row M C w (Suspect 0) (Won) (with_winner w 0 primary) =
      Accepts (ap (λ o. at_node o (ask_refusal w 0)) (at_primary none) ∙ ap
      (λ (l : List Winner). first_of (fault_if (is_other (winner_in l 1) 0) Lost ∷ [])) free)
      record {
        x = primary;
        there = at_primary none;
        reply = refl;
        after = inl (ap (λ l. winner_in l 1) free, refl);
      } in record {
        events = Suspect 0 ∷ [];
        formed = refl;
        replies = Won ∷ [];
        new = with_winner w 0 primary;
        run = First row Nothing;
        once = inr (Suspect 0, Won, row);
        shows = asked_shows 1 k.backup.winner _ _ (ap (λ l. slice_set l 0 (wins primary)) z.nodes)
            (ap (λ l. l ++ record { generation = 1; node = 0 } ∷ []) free);
      }

  pub primary_loses : k.primary.winner ≡ 0 → k.backup.winner ≡ 2
      → Leads M C typed0 typed1 (primary_asked 2 k) w (λ events. events ≡ Suspect 0 ∷ [])
  primary_loses none other = let decided : w.winners ≡ record { generation = 1; node = 1 } ∷ [] =
      z.winners ∙ (λ i. winners_of (winner_of (none i) (other i))) in
      let row : Row M C w (Suspect 0) (Refused Lost) (with_node w 0 (halts primary)) =
      Refuses (ap (λ o. at_node o (ask_refusal w 0)) (at_primary none) ∙ ap
      (λ (l : List Winner). first_of (fault_if (is_other (winner_in l 1) 0) Lost ∷ [])) decided)
      record { x = primary; there = at_primary none; y = halts primary; done = refl; after = refl } in record {
        events = Suspect 0 ∷ [];
        formed = refl;
        replies = Refused Lost ∷ [];
        new = with_node w 0 (halts primary);
        run = First row Nothing;
        once = inr (Suspect 0, Refused Lost, row);
        shows = asked_shows 2 k.backup.winner _ _ (ap (λ l. slice_set l 0 (halts primary)) z.nodes) decided;
      }

  pub backup_wins : k.primary.winner ≡ 0 → k.backup.winner ≡ 0
      → Leads M C typed0 typed1 (backup_asked 0 k) w (λ events. events ≡ Suspect 1 ∷ [])
  backup_wins none nobody = let free = undecided none nobody in
      let row : Row M C w (Suspect 1) (Won) (with_winner w 1 backup) =
      Accepts (ap (λ o. at_node o (ask_refusal w 1)) (at_backup nobody) ∙ ap
      (λ (l : List Winner). first_of (fault_if (is_other (winner_in l 1) 1) Lost ∷ [])) free)
      record {
        x = backup;
        there = at_backup nobody;
        reply = refl;
        after = inl (ap (λ l. winner_in l 1) free, refl);
      } in record {
        events = Suspect 1 ∷ [];
        formed = refl;
        replies = Won ∷ [];
        new = with_winner w 1 backup;
        run = First row Nothing;
        once = inr (Suspect 1, Won, row);
        shows = asked_shows k.primary.winner 2 _ _ (ap (λ l. slice_set l 1 (wins backup)) z.nodes)
            (ap (λ l. l ++ record { generation = 1; node = 1 } ∷ []) free ∙ (λ i. winners_of (winner_of (sym none i) 2)));
      }

  pub backup_loses : k.primary.winner ≡ 1 → k.backup.winner ≡ 0
      → Leads M C typed0 typed1 (backup_asked 1 k) w (λ events. events ≡ Suspect 1 ∷ [])
  backup_loses other nobody = let decided : w.winners ≡ record { generation = 1; node = 0 } ∷ [] =
      z.winners ∙ (λ i. winners_of (winner_of (other i) (nobody i))) in
      let row : Row M C w (Suspect 1) (Refused Lost) (with_node w 1 (halts backup)) =
      Refuses (ap (λ o. at_node o (ask_refusal w 1)) (at_backup nobody) ∙ ap
      (λ (l : List Winner). first_of (fault_if (is_other (winner_in l 1) 1) Lost ∷ [])) decided)
      record { x = backup; there = at_backup nobody; y = halts backup; done = refl; after = refl } in record {
        events = Suspect 1 ∷ [];
        formed = refl;
        replies = Refused Lost ∷ [];
        new = with_node w 1 (halts backup);
        run = First row Nothing;
        once = inr (Suspect 1, Refused Lost, row);
        shows = asked_shows k.primary.winner 1 _ _ (ap (λ l. slice_set l 1 (halts backup)) z.nodes)
            (decided ∙ (λ i. winners_of (winner_of (sym other i) 1)));
      }
