-- Steps that are events of the world: an acknowledgement is sent and received, a packet arrives.
use Rattle.std.proofs.Common.{◌≡◌, ℕ, zero, suc, ◌≤◌, max, eqb, cond, Bool, true, false, List, [], ◌∷◌, ◌++◌, length, sym, refl, ap, ◌∙◌, subst, ◌⊎◌, inl, inr, ⊎_elim, arith, eq-eqb, Some, slice_get, slice_set}
use Rattle.std.proofs.lemmas.Bool.{le-ltb}
use Rattle.pair_rule.proofs.Words.{Accepts, Acknowledge, Acknowledgement, Among, BadAck, Copying, DeliverAcknowledgement, DeliverLog, First, HeldIs, Inbox, IsEntryOf, Knowledge, Leads, Log, LogEntry, Machine, MessageIs, New, Node, Nothing, Old, Packet, SeeEvents, Sent, Shows, Stands, World, acknowledge_refusal, after_empty, at_acknowledgement, at_log_entry, at_node, backup_node, backup_role, backup_runs, fault_if, first_of, hears, held, holds, last_or, primary_node, primary_role, primary_runs, saw, visible, with_node}
use Rattle.pair_protocol.proofs.OneNode.{with_same}
use Rattle.pair_rule.proofs.Filled.{among_last}
use Rattle.pair_rule.proofs.ListsThatGrow.{last_among}
use Rattle.pair_rule.proofs.WordChanges.{held_short}
use Rattle.pair_rule.proofs.ShownNodes.{only_more, only_held, later_covered, index_of, more_sent, among_either, read_slice, serving, waiting, first_node, second_node}

module _ {S : Type 0} (M : Machine S) (C : Copying S) (typed0 typed1 : List ℕ) (k : Knowledge) (w : World S)
    (z : Shows M typed0 typed1 k w) where
  abbrev primary : Node S
  primary = serving M C typed0 typed1 k w z

  abbrev backup : Node S
  backup = waiting M C typed0 typed1 k w z

  at_primary : k.primary.winner ≡ 0 → slice_get w.nodes 0 ≡ Some primary
  at_primary none = first_node M C typed0 typed1 k w z none

  at_backup : k.backup.winner ≡ 0 → slice_get w.nodes 1 ≡ Some backup
  at_backup none = second_node M C typed0 typed1 k w z none

  -- the backup acknowledges what it holds
  pub hold_leads : k.backup.winner ≡ 0 → Leads M C typed0 typed1 (held k) w (λ events. events ≡ Acknowledge 1 ∷ [])
  hold_leads none = record {
    events = Acknowledge 1 ∷ [];
    formed = refl;
    replies = MessageIs (length w.messages) ∷ [];
    new = record w { messages = w.messages ++ Acknowledgement 1 (length k.backup.list) 0 ∷ [] };
    run = First (Accepts (ap (λ o. at_node o acknowledge_refusal) (at_backup none)) record {
      held = length k.backup.list;
      replayed = 0;
      node = record { x = backup; there = at_backup none; said = (refl, refl) };
      says = record { reply = refl; after = refl };
    }) Nothing;
    once = inl refl;
    shows = record {
      moves = z.moves;
      s = z.s;
      recorded = z.recorded;
      entries_are = z.entries_are;
      count = z.count;
      nodes = z.nodes;
      sent = let t = more_sent (visible k) w.messages (Acknowledgement 1 (length k.backup.list) 0 ∷ []) z.sent in record {
        logs = t.logs;
        acks = λ h at. ⊎_elim (λ (i : Among h k.backup.held_values). t.acks h i)
            (λ (e : h ≡ length k.backup.list). subst
            (λ n. Among (Acknowledgement 1 n 0) (w.messages ++ Acknowledgement 1 (length k.backup.list) 0 ∷ [])) (sym e)
            (among_last (Acknowledgement 1 (length k.backup.list) 0) w.messages))
            (among_either h (length k.backup.list) k.backup.held_values at);
        operations = t.operations;
        writes = t.writes;
      };
      terminals = z.terminals;
      winners = z.winners;
      puts = z.puts;
      issued = z.issued;
      done = z.done;
      first_reads = z.first_reads;
      covered = z.covered;
      only = only_more k.primary.list (k.backup.held_values ++ length k.backup.list ∷ [])
          (Acknowledgement 1 (length k.backup.list) 0) w.messages
          (refl, refl, among_last (length k.backup.list) k.backup.held_values)
          (λ m at. only_held k.primary.list k.backup.held_values (length k.backup.list) m (z.only m at));
    };
  }

  -- the primary sees what the backup acknowledged
  saw_shows : (n : ℕ) (v : World S) → k.primary.seen ≤ n → v.nodes ≡ primary_node (visible (saw n k)) z.moves z.s ∷ backup_node M (visible k) ∷ []
      → v.messages ≡ w.messages → v.terminals ≡ w.terminals → v.winners ≡ w.winners → v.puts ≡ w.puts
      → Shows M typed0 typed1 (saw n k) v
  saw_shows n v more nodes messages terminals winners puts = record {
    moves = z.moves;
    s = z.s;
    recorded = z.recorded;
    entries_are = z.entries_are;
    count = z.count;
    nodes = nodes;
    sent = subst (Sent (visible (saw n k))) (sym messages) record {
      logs = z.sent.logs;
      acks = z.sent.acks;
      operations = z.sent.operations;
      writes = z.sent.writes;
    };
    terminals = terminals ∙ z.terminals;
    winners = winners ∙ z.winners;
    puts = puts ∙ z.puts;
    issued = z.issued;
    done = z.done;
    first_reads = z.first_reads;
    covered = λ o at. later_covered z.moves k.primary.seen n o more (z.covered o at);
    only = λ m at. z.only m (subst (λ l. Among m l) messages at);
  }

  see_none : (n : ℕ) → n ≡ k.primary.seen → Leads M C typed0 typed1 (saw n k) w (λ events. events ≡ [])
  see_none n e = record {
    events = [];
    formed = refl;
    replies = [];
    new = w;
    run = Nothing;
    once = inl refl;
    shows = saw_shows n w (omega (arith, e))
        (z.nodes ∙ (λ i. primary_node (visible (saw (sym e i) k)) z.moves z.s ∷ backup_node M (visible k) ∷ [])) refl refl refl refl;
  }

  see_one : (n : ℕ) → k.primary.winner ≡ 0 → k.primary.seen ≤ n → n ≤ length k.primary.list → Among n k.backup.held_values
      → Leads M C typed0 typed1 (saw n k) w (λ events. (m : ℕ) × (events ≡ DeliverAcknowledgement m 0 ∷ []))
  see_one n none more short at = let m = index_of (Acknowledgement 1 n 0) w.messages (z.sent.acks n at) in
      let greater : max k.primary.seen n ≡ n = omega arith in record {
        events = DeliverAcknowledgement m.0 0 ∷ [];
        formed = (m.0, refl);
        replies = HeldIs (hears primary n 0).covered ∷ [];
        new = with_node w 0 (hears primary n 0);
        run = First (Accepts ((λ i. at_acknowledgement (at_primary none i) (m.1 i)) ∙ ap (λ b. first_of (fault_if b BadAck ∷ []))
            (le-ltb (length k.primary.list) n short)) record {
              generation = 1;
              held = n;
              replayed = 0;
              message = m.1;
              covered = (hears primary n 0).covered;
              at = record { x = primary; there = at_primary none; y = hears primary n 0; done = (refl, refl); after = refl };
              reply = refl;
            }) Nothing;
        once = inl refl;
        shows = saw_shows n (with_node w 0 (hears primary n 0)) more
            (ap (λ l. slice_set l 0 (hears primary n 0)) z.nodes ∙
            (λ i. record primary {
              role = primary_role (sym none i);
              running = primary_runs (sym none i);
              covered = greater i;
            } ∷ backup_node M (visible k) ∷ []))
            refl refl refl refl;
      }

  pub see_leads : Stands k → k.primary.winner ≡ 0
      → Leads M C typed0 typed1 (saw (last_or 0 k.backup.held_values) k) w (SeeEvents (last_or 0 k.backup.held_values))
  see_leads st none = go (last_or 0 k.backup.held_values) st.log.behind (held_short k st) (last_among 0 k.backup.held_values)
    where
      go : (n : ℕ) → k.primary.seen ≤ n → n ≤ length k.primary.list → (n ≡ 0) ⊎ Among n k.backup.held_values
          → Leads M C typed0 typed1 (saw n k) w (SeeEvents n)
      go zero more short at = see_none 0 (omega (arith, more))
      go (suc n) more short (inl e) = absurd (omega (arith, e))
      go (suc n) more short (inr at) = see_one (suc n) none more short at

  -- a packet comes to the backup
  take_one : (p : Packet) → k.backup.winner ≡ 0 → (m : ℕ) → slice_get w.messages m ≡ Some (LogEntry 1 p.index p.entry)
      → (b : Bool) → eqb p.index (length k.backup.list) ≡ b
      → Leads M C typed0 typed1 (record k {
        backup =
            record k.backup { list = cond b (k.backup.list ++ p.entry ∷ []) k.backup.list };
      }) w
      (λ events. (m : ℕ) × (events ≡ DeliverLog m 1 ∷ []))
  take_one p none m there true is = let next : p.index ≡ length k.backup.list = grind arith in record {
    events = DeliverLog m 1 ∷ [];
    formed = (m, refl);
    replies = New ∷ [];
    new = with_node w 1 (holds backup p.entry);
    run = First (Accepts (λ i. at_log_entry (at_backup none i) (there i)) record {
      generation = 1;
      index = p.index;
      e = p.entry;
      message = there;
      next = true;
      at = record {
        x = backup;
        there = at_backup none;
        y = holds backup p.entry;
        done = (next, refl);
        after = refl;
      };
      reply = refl;
    }) Nothing;
    once = inl refl;
    shows = record {
      moves = z.moves;
      s = z.s;
      recorded = z.recorded;
      entries_are = z.entries_are;
      count = z.count;
      nodes = ap (λ l. slice_set l 1 (holds backup p.entry)) z.nodes ∙
          (λ i. primary_node (visible k) z.moves z.s ∷ record (holds backup p.entry) {
            role = backup_role (sym none i);
            running = backup_runs (sym none i);
          } ∷ []);
      sent = record { logs = z.sent.logs; acks = z.sent.acks; operations = z.sent.operations; writes = z.sent.writes };
      terminals = z.terminals;
      winners = z.winners;
      puts = z.puts;
      issued = z.issued;
      done = z.done;
      first_reads = z.first_reads;
      covered = z.covered;
      only = z.only;
    };
  }
  take_one p none m there false is = record {
    events = DeliverLog m 1 ∷ [];
    formed = (m, refl);
    replies = Old ∷ [];
    new = w;
    run = First (Accepts (λ i. at_log_entry (at_backup none i) (there i)) record {
      generation = 1;
      index = p.index;
      e = p.entry;
      message = there;
      next = false;
      at = record {
        x = backup;
        there = at_backup none;
        y = backup;
        done = ((λ e. let c : true ≡ false = sym (eq-eqb p.index (length k.backup.list) e) ∙ is in absurd (cc)), refl);
        after = sym (with_same w 1 backup (at_backup none));
      };
      reply = refl;
    }) Nothing;
    once = inl refl;
    shows = z;
  }

  pub take_leads : (p : Packet) → k.backup.winner ≡ 0 → IsEntryOf k.generation k.primary.list p
      → Leads M C typed0 typed1 (after_empty Inbox (Log p) k) w (λ events. (m : ℕ) × (events ≡ DeliverLog m 1 ∷ []))
  take_leads p none is = let m = index_of (LogEntry 1 p.index p.entry) w.messages
      (z.sent.logs p.index p.entry (read_slice k.primary.list p.index p.entry is.1)) in take_one p none m.0 m.1
      (eqb p.index (length k.backup.list)) refl
