-- What held still holds when a word changes: the list, what is acknowledged, who won, the counts.
use Rattle.std.proofs.Common.{◌≡◌, ℕ, zero, suc, ◌≤◌, eqb, List, [], ◌∷◌, ◌++◌, length, refl, ap, inl, inr, ⊎_elim, arith, length-append, le_refl}
use prog.Atomic.{either}
use Rattle.std.specs.Prelude.{Option}
use Rattle.pair_rule.proofs.Words.{Among, Arrived, Entry, Fits, Inbox, Knowledge, Log, Mailbox, Operation, Outbox, Payload, PortStands, Stands, TerminalView, accepted_after, accepted_at, among-left, appended, arrives, backup_asked, byte_arrived, held, last_or, primary_asked, saw, saw_count, winner_after, winner_of}
use Rattle.pair_rule.proofs.Filled.{if_map, entry_more}
use Rattle.pair_rule.proofs.ListsThatGrow.{longer_prefix, last_below, rising_more, last_more, last_among, fewer_arrived, all_arrived, decide_primary, decide_backup}

-- the byte in a terminal's hand arrives; the primary sees how many were accepted
port_arrives : (port counted : ℕ) (released : List Operation) (hand : Option Operation) (arrivals : List Arrived)
    → PortStands port released counted hand arrivals → PortStands port released counted hand (arrives hand arrivals)
port_arrives port counted released hand arrivals p = record {
  accepted = (let c = p.accepted in let more = fewer_arrived hand arrivals in omega arith);
  in_hand = p.in_hand;
  arrived = all_arrived port released hand arrivals p.in_hand p.arrived;
}

port_seen : (port counted : ℕ) (released : List Operation) (hand : Option Operation) (arrivals : List Arrived)
    → PortStands port released counted hand arrivals
    → PortStands port released (accepted_after 0 arrivals) hand arrivals
port_seen port counted released hand arrivals p =
    record { accepted = le_refl (accepted_after 0 arrivals); in_hand = p.in_hand; arrived = p.arrived }

module _ (k : Knowledge) (s : Stands k) where
  -- what stands, and what lies in the boxes
  abbrev Stays : (Knowledge → Knowledge) → Type 0
  Stays turn = Stands (turn k) × ((b : Mailbox) (x : Payload) → Fits b k x → Fits b (turn k) x)

  appended_fits : (e : Entry) (b : Mailbox) (x : Payload) → Fits b k x → Fits b (appended e k) x
  appended_fits e Outbox (Log p) f = entry_more k.generation k.primary.list e p f
  appended_fits e Inbox (Log p) f = entry_more k.generation k.primary.list e p f
  appended_fits e _ _ f = f

  pub append_stays : (e : Entry) → Stays (appended e)
  append_stays e = (
    record {
      log = record {
        prefix = longer_prefix k.primary.list k.backup.list e s.log.prefix;
        in_link = if_map k.link _ _ (entry_more k.generation k.primary.list e) s.log.in_link;
        rising = s.log.rising;
        behind = s.log.behind;
        once = s.log.once;
      };
      decided = s.decided;
      port0 = s.port0;
      port1 = s.port1;
      disk = s.disk;
    },
    appended_fits e,
  )

  pub see_stays : Stays (saw (last_or 0 k.backup.held_values))
  see_stays = (
    record {
      log = record {
        prefix = s.log.prefix;
        in_link = s.log.in_link;
        rising = s.log.rising;
        behind = le_refl (last_or 0 k.backup.held_values);
        once = last_among 0 k.backup.held_values;
      };
      decided = s.decided;
      port0 = s.port0;
      port1 = s.port1;
      disk = s.disk;
    },
    λ b x f. f,
  )

  pub held_low : last_or 0 k.backup.held_values ≤ length k.backup.list
  held_low = last_below 0 (length k.backup.list) k.backup.held_values s.log.rising

  pub held_short : last_or 0 k.backup.held_values ≤ length k.primary.list
  held_short =
      let low = held_low in let p = s.log.prefix in omega (arith, length-append k.backup.list p.0, ap length p.1)

  pub hold_stays : Stays held
  hold_stays = (
    record {
      log = record {
        prefix = s.log.prefix;
        in_link = s.log.in_link;
        rising = rising_more 0 (length k.backup.list) k.backup.held_values s.log.rising;
        behind = (let low = held_low in let b = s.log.behind in let e =
            last_more 0 (length k.backup.list) k.backup.held_values in omega arith);
        once = ⊎_elim (λ e. inl e) (λ (i : Among k.primary.seen k.backup.held_values). inr
            (among-left k.primary.seen k.backup.held_values (length k.backup.list ∷ []) i)) s.log.once;
      };
      decided = s.decided;
      port0 = s.port0;
      port1 = s.port1;
      disk = s.disk;
    },
    λ b x f. f,
  )

  pub hold_word : last_or 0 (k.backup.held_values ++ length k.backup.list ∷ []) ≡ length k.backup.list
  hold_word = last_more 0 (length k.backup.list) k.backup.held_values

  -- who won, as the word says
  abbrev won : ℕ
  won = winner_of k.primary.winner k.backup.winner

  pub primary_asks : Stays (primary_asked won) × (winner_of (winner_after 1 won) k.backup.winner ≡ either (eqb won 0) 1 won)
  primary_asks = let d = decide_primary k.primary.winner k.backup.winner _ refl s.decided in (
    (record { log = s.log; decided = d.0; port0 = s.port0; port1 = s.port1; disk = s.disk }, λ b x f. f),
    d.1,
  )

  pub backup_asks : Stays (backup_asked won) × (winner_of k.primary.winner (winner_after 2 won) ≡ either (eqb won 0) 2 won)
  backup_asks = let d = decide_backup k.primary.winner k.backup.winner _ refl s.decided in (
    (record { log = s.log; decided = d.0; port0 = s.port0; port1 = s.port1; disk = s.disk }, λ b x f. f),
    d.1,
  )

  -- the two ports change, and nothing else
  ports_stay : (counted0 counted1 : ℕ) (x : TerminalView) → PortStands 0 k.primary.released counted0 x.hand0 x.arrivals0
      → PortStands 1 k.primary.released counted1 x.hand1 x.arrivals1
      → Stays (λ k. record k { primary = record k.primary { counted0 = counted0; counted1 = counted1 }; terminal = x })
  ports_stay counted0 counted1 x port0 port1 =
      (record { log = s.log; decided = s.decided; port0 = port0; port1 = port1; disk = s.disk }, λ b x f. f)

  pub came_stays : (port : ℕ) → Stays (byte_arrived port)
  came_stays zero = ports_stay k.primary.counted0 k.primary.counted1 (byte_arrived 0 k).terminal
      (port_arrives 0 k.primary.counted0 k.primary.released k.terminal.hand0 k.terminal.arrivals0 s.port0) s.port1
  came_stays (suc p) = ports_stay k.primary.counted0 k.primary.counted1 (byte_arrived 1 k).terminal s.port0
      (port_arrives 1 k.primary.counted1 k.primary.released k.terminal.hand1 k.terminal.arrivals1 s.port1)

  pub count_stays : (port : ℕ) → Stays (saw_count port (accepted_at port k))
  count_stays zero = ports_stay (accepted_at 0 k) k.primary.counted1 k.terminal
      (port_seen 0 k.primary.counted0 k.primary.released k.terminal.hand0 k.terminal.arrivals0 s.port0) s.port1
  count_stays (suc p) = ports_stay k.primary.counted0 (accepted_at 1 k) k.terminal s.port0
      (port_seen 1 k.primary.counted1 k.primary.released k.terminal.hand1 k.terminal.arrivals1 s.port1)
