-- An append is events of the world: steps up to the entry's count, its input, and the entry is sent.
use Rattle.std.proofs.Common.{◌≡◌, ℕ, suc, ◌+◌, ◌-◌, ◌<◌, ◌≤◌, true, false, List, [], ◌∷◌, ◌++◌, length, map, sym, refl, ap, ◌∙◌, subst, inl, inr, ⊎_elim, arith, eq-eqb, ne_eqb, Option, Some, None, slice_get, slice_set, nat_lt, nat_le, is_none, not, ◌||◌, append-nil, ◌==◌}
use Rattle.std.proofs.lemmas.Bool.{false_from_ne_true}
use Rattle.pair_rule.proofs.Words.{Accepts, Among, AppendEvents, Begin, Copying, Counts, Do, Entry, Event, First, Get, GetReply, Happens, HasWrite, Idle, Input, IsAcknowledged, IsDone, IsPrefix, IsSentBy, Knowledge, Lawful, Leads, LogEntry, LogFull, Logged, Machine, Mark, Message, MessageIs, More, Move, Node, NotDue, Nothing, Operation, PutReply, Quiet, Ran, Recorded, Reply, Runs, SectorAddress, Send, Sent, Shows, Spent, Stands, Step, Take, TakeKey, Taken, TellSent, Timed, Unknown, World, WriteDone, Written, WrongNumber, accepted, among-prefix, among-split, appended, at_node, at_sector_read, at_write_done, backup_node, bare, count_entry, count_of, entries, entries-append, entry_of, fault_if, first_of, get_refusal, id_of, inputs, inputs-append, inputs_of, inputs_of-append, is_number, last_count-append, log_size, map-append, notes_after, notes_from, operations, operations-prefix, primary_node, primary_role, primary_runs, primary_takes, recorded-append, recorded-runs, refusal, same_address, sector_record, send_refusal, step_refusal, steps, take_key_refusal, tell_sent_refusal, terminal, timed_entry, top, visible, with_message, with_node, with_read}
use Rattle.disk_dcdd.proofs.Addresses.{same_address-refl}
use Rattle.guest_lockstep.specs.Recorded.{Accepts as IsAccepted}
use Rattle.guest_lockstep.specs.declared.input.Input.TheVariants as input
use Rattle.pair_protocol.specs.Node.{Primary}
use Rattle.pair_protocol.specs.World.{SectorRead}
use Rattle.guest_lockstep.specs.declared.running.StopReason.{StopReason}
use Rattle.guest_lockstep.specs.declared.running.StopReason.TheVariants as reason
use Rattle.pair_protocol.specs.Effects.{Advances, NoneLeft, Gives, Goes}
use Rattle.pair_rule.proofs.QuietSteps.{QuietMoves, quiet_moves, quiet_count, quiet_first, notes_more}
use Rattle.pair_rule.proofs.Filled.{among_last}
use Rattle.pair_rule.proofs.ListEnds.{get_last, get_end, too_low, same_number, key_room}
use Rattle.pair_rule.proofs.WordChanges.{held_short}
use Rattle.pair_rule.proofs.ShownNodes.{only_more, only_longer, longer_covered, serving, first_node, more_sent, index_of}

module _ {S : Type 0} (M : Machine S) (C : Copying S) (counts : Counts M) (laws : Lawful M) (typed0 typed1 : List ℕ)
    (k : Knowledge) (w : World S) (z : Shows M typed0 typed1 k w) (st : Stands k) (none : k.primary.winner ≡ 0)
    (few : length k.primary.list < top) (room : length k.primary.list < k.primary.seen + 256) where
  abbrev list : List Entry
  list = k.primary.list

  abbrev here : Node S
  here = serving M C typed0 typed1 k w z

  -- the run that is shown
  abbrev runs : Runs M M.boot z.moves z.s
  runs = recorded-runs M M.boot z.s z.moves z.recorded

  -- the primary, at a later state
  abbrev at : S → Node S
  at t = record here { machine = t }

  advance_one : (t u : S) (m : ℕ) (y : Node S) (made : ℕ) (why : StopReason) → M.step t ≡ Some (u, None)
      → Advances M (at u) m y made why → Advances M (at t) (suc m) y (suc made) why
  advance_one t u m y made why step rest =
      Goes u step (subst (λ l. Advances M (record (at u) { log = l }) m y made why) (sym (append-nil list)) rest)

  advance_quiet : (s : S) (n : ℕ) (t : S) → Quiet M s n t → (m : ℕ) (y : Node S) (made : ℕ) (why : StopReason)
      → Advances M (at t) m y made why → Advances M (at s) (n + m) y (n + made) why
  advance_quiet s n t Begin m y made why rest =
      subst (λ (p : ℕ × ℕ). Advances M (at s) p.0 y p.1 why)
      (λ i. (let e : m ≡ 0 + m = omega arith in e i, let e : made ≡ 0 + made = omega arith in e i)) rest
  advance_quiet s l u (More {n = n} {t = t} q free step) m y made why rest =
      subst (λ (p : ℕ × ℕ). Advances M (at s) p.0 y p.1 why)
      (λ i. (let e : n + suc m ≡ suc n + m = omega arith in e i, let e : n + suc made ≡ suc n + made = omega arith in e i))
      (advance_quiet s n t q (suc m) y (suc made) why (advance_one t u m y made why step rest))

  step_allowed : (m : ℕ) (x : S × Option Operation) → M.step z.s ≡ Some x → refusal M C w (Step 0 (suc m)) ≡ None
  step_allowed m x step = ap (λ o. at_node o (step_refusal M (suc m))) (first_node M C typed0 typed1 k w z none)
      ∙ (let a : nat_le log_size (length list - k.primary.seen) ≡ false =
      too_low (length list - k.primary.seen) log_size (let b = held_short k st in omega arith) in
      let b : nat_le top (length list) ≡ false = too_low (length list) top few in
      let c : M.is_spent z.s ≡ false = false_from_ne_true (M.is_spent z.s) (λ e. let n = counts.spent z.s e in let d : None ≡ Some x =
      sym n ∙ step in absurd (cc)) in
      λ i. first_of (fault_if (a i) LogFull ∷ fault_if (b i) Spent ∷ fault_if (c i) Spent ∷ fault_if (is_none (step i)) Idle ∷
      []))

  -- the primary with the longer list, after these moves
  abbrev then_node : Entry → List Move → S → Node S
  then_node e moves u = record (primary_node (visible (appended e k)) moves u) { role = Primary; running = true }

  run_more : (a : World S) (es : List Event) (rs : List Reply) (b c : World S) (fs : List Event) (qs : List Reply)
      → Happens M C a es rs b → Happens M C b fs qs c → Happens M C a (es ++ fs) (rs ++ qs) c
  run_more a es rs b c fs qs Nothing more = more
  run_more a es rs b c fs qs (First {mid = v} {events = es'} {replies = rs'} row rest) more =
      First row (run_more v es' rs' b c fs qs rest more)

  -- of the messages of a world: which there may be
  abbrev OnlySent : World S → Type 0
  OnlySent v = (m : Message) → Among m v.messages → IsSentBy list k.backup.held_values m

  -- where events lead to a primary with the entry, the entry is sent
  finish : (e : Entry) (moves : List Move) (u : S) (v : World S) (events : List Event) (replies : List Reply)
      → Recorded M M.boot moves u → entries Logged 0 moves ≡ list ++ e ∷ [] → M.count u ≡ count_of e
      → Happens M C w events replies v
      → v.nodes ≡ then_node e moves u ∷ backup_node M (visible k) ∷ [] → Sent (visible k) v.messages → v.terminals ≡ w.terminals
      → v.winners ≡ w.winners → v.puts ≡ w.puts → OnlySent v
      → IsPrefix z.moves moves → ((n : ℕ) → IsDone n moves → HasWrite k.disk.puts n)
      → AppendEvents (length list) e (events ++ Send 0 (length list) ∷ [])
      → Leads M C typed0 typed1 (appended e k) w (AppendEvents (length list) e)
  finish e moves u v events replies recorded entered count run nodes sent terminals winners puts only below done formed =
      let y : Node S = then_node e moves u in let message : Message = LogEntry 1 (length list) e in record {
        events = events ++ Send 0 (length list) ∷ [];
        formed = formed;
        replies = replies ++ MessageIs (length v.messages) ∷ [];
        new = with_message v message;
        run = run_more w events replies v (with_message v message) (Send 0 (length list) ∷ [])
            (MessageIs (length v.messages) ∷ []) run (First (Accepts
            (ap (λ l. at_node (slice_get l 0) (send_refusal (length list))) nodes
            ∙ (let a : nat_lt (length list) k.primary.seen ≡ false = (let b = held_short k st in let c = st.log.behind in grind arith) in
            λ i. fault_if (false || (a i || is_none (get_last list e i))) Unknown))
            record {
              e = e;
              node = record { x = y; there = ap (λ l. slice_get l 0) nodes; said = get_last list e };
              says = record { reply = refl; after = refl };
            }) Nothing);
        once = inl winners;
        shows = record {
          moves = moves;
          s = u;
          recorded = recorded;
          entries_are = entered;
          count = count ∙ sym (last_count-append 0 list e);
          nodes = nodes ∙ (λ i. record y { role = primary_role (sym none i); running = primary_runs (sym none i) } ∷ backup_node M (visible k) ∷
              []);
          sent = let t = more_sent (visible k) v.messages (message ∷ []) sent in record {
            logs = λ i x at. ⊎_elim (λ (old : slice_get list i ≡ Some x). t.logs i x old)
                (λ (new : (i ≡ length list) × (e ≡ x)). subst
                (λ (p : ℕ × Entry). Among (LogEntry 1 p.0 p.1) (v.messages ++ message ∷ [])) (λ j. (sym new.0 j, new.1 j))
                (among_last message v.messages)) (get_end list e x i at);
            acks = t.acks;
            operations = t.operations;
            writes = t.writes;
          };
          terminals = terminals ∙ z.terminals;
          winners = winners ∙ z.winners;
          puts = puts ∙ z.puts;
          issued = λ o at. among-prefix o (operations z.moves) (operations moves) (operations-prefix z.moves moves below)
              (z.issued o at);
          done = done;
          first_reads = z.first_reads;
          covered = λ o at. subst (λ l. IsAcknowledged l k.primary.seen o) below.1
              (longer_covered z.moves below.0 k.primary.seen o (z.covered o at));
          only = only_more (list ++ e ∷ []) k.backup.held_values message v.messages (refl, get_last list e)
              (λ m at. only_longer list k.backup.held_values e m (only m at));
        };
      }

  -- the entries of the moves up to here, and of one move behind quiet ones
  longer_entries : (n : ℕ) (t : S) (r : QuietMoves M z.s n t) (last : Move)
      → entries Logged 0 (z.moves ++ (r.moves ++ last ∷ [])) ≡ list ++ entries Logged (M.count z.s + n) (last ∷ [])
  longer_entries n t r last = entries-append Logged 0 z.moves (r.moves ++ last ∷ [])
      ∙ (λ i. z.entries_are i ++ entries-append Logged (0 + steps z.moves) r.moves (last ∷ []) i)
      ∙ ap (λ l. list ++ (l ++ entries Logged (0 + steps z.moves + steps r.moves) (last ∷ [])))
      (r.silent (0 + steps z.moves))
      ∙ ap (λ c. list ++ entries Logged c (last ∷ []))
      (let a = laws.counts z.moves z.s runs in let b = r.count in omega arith)

  longer_notes : (n : ℕ) (t : S) (r : QuietMoves M z.s n t) (last : Move)
      → notes_from 0 [] [] (z.moves ++ (r.moves ++ last ∷ [])) ≡ notes_from (M.count z.s + n) list (notes_from 0 [] [] z.moves)
      (last ∷ [])
  longer_notes n t r last = let c : ℕ = 0 + steps z.moves in notes_more 0 [] [] z.moves (r.moves ++ last ∷ [])
      ∙ ap (λ (es : List Entry). notes_from c es (notes_from 0 [] [] z.moves) (r.moves ++ last ∷ [])) z.entries_are
      ∙ notes_more c list (notes_from 0 [] [] z.moves) r.moves (last ∷ [])
      ∙ (λ i. notes_from (c + steps r.moves) (list ++ r.silent c i) (r.notes c list (notes_from 0 [] [] z.moves) i) (last ∷ []))
      ∙ (λ i. notes_from (let e : c + steps r.moves ≡ M.count z.s + n =
      (let a = laws.counts z.moves z.s runs in let b = r.count in omega arith) in e i) (append-nil list i)
      (notes_from 0 [] [] z.moves) (last ∷ []))

  -- a write that is done after quiet steps and one move more
  longer_done : (n : ℕ) (t : S) (r : QuietMoves M z.s n t) (last : Move)
      → ((c number : ℕ) → Among (Written number) (map (λ (x : Timed). x.input) (inputs c (last ∷ [])))
      → HasWrite k.disk.puts number)
      → (number : ℕ) → IsDone number (z.moves ++ (r.moves ++ last ∷ [])) → HasWrite k.disk.puts number
  longer_done n t r last new number d =
      let c : ℕ = 0 + steps z.moves + steps r.moves in
      let e : inputs 0 (z.moves ++ (r.moves ++ last ∷ [])) ≡ inputs 0 z.moves ++ inputs c (last ∷ []) =
      inputs-append 0 z.moves (r.moves ++ last ∷ [])
      ∙ ap (λ l. inputs 0 z.moves ++ l) (inputs-append (0 + steps z.moves) r.moves (last ∷ []) ∙ ap
      (λ l. l ++ inputs c (last ∷ [])) (r.bare (0 + steps z.moves))) in
      ⊎_elim (λ (i : IsDone number z.moves). z.done number i)
      (λ (i : Among (Written number) (map (λ (x : Timed). x.input) (inputs c (last ∷ [])))). new c number i)
      (among-split (Written number) (map (λ (x : Timed). x.input) (inputs 0 z.moves))
      (map (λ (x : Timed). x.input) (inputs c (last ∷ [])))
      (subst (λ l. Among (Written number) l)
      (ap (λ (l : List Timed). map (λ (x : Timed). x.input) l) e ∙ map-append (λ (x : Timed). x.input) (inputs 0 z.moves)
      (inputs c (last ∷ []))) d))

  -- an input tells of a write that was put, or of none
  abbrev Tells : Input → Type 0
  Tells i = (number : ℕ) → Written number ≡ bare i → HasWrite k.disk.puts number

  one_told : (i : Input) → Tells i → (c number : ℕ)
      → Among (Written number) (map (λ (x : Timed). x.input) (inputs c (Take i ∷ []))) → HasWrite k.disk.puts number
  one_told i tells c number a = ⊎_elim (λ (e : Written number ≡ bare i). tells number e) (λ m. absurd m) a

  -- a mark: the steps up to its operation
  pub mark_leads : (n : ℕ) (t u : S) (o : Operation) → Quiet M z.s n t → M.step t ≡ Some (u, Some o)
      → Leads M C typed0 typed1 (appended (Mark (M.count u)) k) w (AppendEvents (length list) (Mark (M.count u)))
  mark_leads n t u o q step =
      let r = quiet_moves M z.s n t q in let e : Entry = Mark (M.count u) in let moves : List Move =
      z.moves ++ (r.moves ++ Do (Some o) ∷ []) in
      let y : Node S = then_node e moves u in
      let counted = quiet_count M counts z.s n t q in let last = counts.by_step t u (Some o) step in
      let x = quiet_first M z.s n t (u, Some o) q step in
      let same : M.count u ≡ suc (M.count z.s + n) = omega arith in
      finish e moves u (with_node w 0 y) (Step 0 (suc n) ∷ []) (Ran (suc n) (M.count u) (reason.Operation (id_of o)) ∷ [])
      (recorded-append M M.boot z.s u z.moves (r.moves ++ Do (Some o) ∷ []) z.recorded
      (recorded-append M z.s t u r.moves (Do (Some o) ∷ []) r.recorded (u, step, refl)))
      (longer_entries n t r (Do (Some o)) ∙ ap (λ c. list ++ Mark c ∷ []) (sym same)) refl
      (First (Accepts (step_allowed n x.0 x.1) record {
        made = suc n;
        count = M.count u;
        why = reason.Operation (id_of o);
        at = record {
          x = here;
          there = first_node M C typed0 typed1 k w z none;
          y = y;
          done = record {
            advances = subst (λ (p : ℕ × Node S). Advances M here p.0 p.1 p.0 (reason.Operation (id_of o)))
                (λ i. (
                  let e : n + 1 ≡ suc n =
                      omega arith in e i,
                  record y {
                    list = sym (inputs_of-append list (e ∷ []) ∙ append-nil (inputs_of list)) i;
                    notes = sym (longer_notes n t r (Do (Some o))) i;
                  },
                ))
                (advance_quiet z.s n t q 1 (record (at u) {
                  log = list ++ e ∷ [];
                  notes = notes_after (notes_from 0 [] [] z.moves) list (Some o);
                }) 1 (reason.Operation (id_of o))
                (Gives u o step));
            some = inr (omega arith);
            counted = refl;
          };
          after = refl;
        };
        reply = refl;
      }) Nothing)
      (ap (λ l. slice_set l 0 y) z.nodes) z.sent refl refl refl z.only (r.moves ++ Do (Some o) ∷ [], refl)
      (longer_done n t r (Do (Some o)) (λ c number a. absurd a)) (suc n, refl)

  -- ---- inputs

  no_full : nat_le log_size (length list - k.primary.seen) ≡ false
  no_full = too_low (length list - k.primary.seen) log_size (let b = held_short k st in omega arith)

  no_spent : nat_le top (length list) ≡ false
  no_spent = too_low (length list) top few

  -- the steps up to an input's count
  quiet_event : (n : ℕ) (t : S) → Quiet M z.s n t → (r : Reply) × Happens M C w (Step 0 n ∷ []) (r ∷ []) (with_node w 0 (at t))
  quiet_event n t Begin = (
    Ran 0 (M.count z.s) reason.Turns,
    First (Accepts (ap (λ o. at_node o (step_refusal M 0)) (first_node M C typed0 typed1 k w z none))
        record {
          made = 0;
          count = M.count z.s;
          why = reason.Turns;
          at = record {
            x = here;
            there = first_node M C typed0 typed1 k w z none;
            y = here;
            done = record { advances = NoneLeft; some = inl refl; counted = refl };
            after = refl;
          };
          reply = refl;
        }) Nothing,
  )
  quiet_event m u (More {n = n} {t = t} q free step) = let x = quiet_first M z.s n t (u, None) q step in (
    Ran (suc n) (M.count u) reason.Turns,
    First (Accepts (step_allowed n x.0 x.1)
        record {
          made = suc n;
          count = M.count u;
          why = reason.Turns;
          at = record {
            x = here;
            there = first_node M C typed0 typed1 k w z none;
            y = at u;
            done = record {
              advances = subst (λ p. Advances M here p (at u) p reason.Turns) (let e : n + 1 ≡ suc n = omega arith in e)
                  (advance_quiet z.s n t q 1 (at u) 1 reason.Turns (advance_one t u 0 (at u) 0 reason.Turns step NoneLeft));
              some = inr (omega arith);
              counted = refl;
            };
            after = refl;
          };
          reply = refl;
        }) Nothing,
  )

  -- the primary took the input at the state t
  abbrev taken : S → S → Input → Node S
  taken t u i = primary_takes M (at t) u i

  input_leads : (n : ℕ) (t u : S) (i : Input) → Quiet M z.s n t → IsAccepted M t i u
      → (events : List Event) (replies : List Reply) (v : World S)
      → Happens M C (with_node w 0 (at t)) events replies v → v.nodes ≡ taken t u i ∷ backup_node M (visible k) ∷ [] → Sent (visible k) v.messages
      → v.terminals ≡ w.terminals → v.winners ≡ w.winners → v.puts ≡ w.puts → OnlySent v → Tells i
      → AppendEvents (length list) (entry_of Logged (M.count t) i) ((Step 0 n ∷ events) ++ Send 0 (length list) ∷ [])
      → Leads M C typed0 typed1 (appended (entry_of Logged (M.count t) i) k) w
      (AppendEvents (length list) (entry_of Logged (M.count t) i))
  input_leads n t u i q accepts events replies v run nodes sent terminals winners puts only tells formed =
      let r = quiet_moves M z.s n t q in let e : Entry = entry_of Logged (M.count t) i in let moves : List Move =
      z.moves ++ (r.moves ++ Take i ∷ []) in
      let counted = quiet_count M counts z.s n t q in let first = quiet_event n t q in
      finish e moves u v (Step 0 n ∷ events) (first.0 ∷ replies)
      (recorded-append M M.boot z.s u z.moves (r.moves ++ Take i ∷ []) z.recorded
      (recorded-append M z.s t u r.moves (Take i ∷ []) r.recorded (u, accepts, refl)))
      (longer_entries n t r (Take i) ∙ ap (λ c. list ++ entry_of Logged c i ∷ []) (sym counted))
      (counts.by_input t u i accepts.taken ∙ sym (count_entry Logged (M.count t) i))
      (run_more w (Step 0 n ∷ []) (first.0 ∷ []) (with_node w 0 (at t)) v events replies first.1 run)
      (nodes ∙ (λ j. record (taken t u i) {
        list =
            sym (inputs_of-append list (e ∷ []) ∙ ap (λ l. inputs_of list ++ (l ++ []))
            (timed_entry Logged (M.count t) i)) j;
        notes = sym (longer_notes n t r (Take i)) j;
      } ∷ backup_node M (visible k) ∷ []))
      sent terminals winners puts only (r.moves ++ Take i ∷ [], refl) (longer_done n t r (Take i) (one_told i tells)) formed

  there_at : (t : S) → slice_get (with_node w 0 (at t)).nodes 0 ≡ Some (at t)
  there_at t = ap (λ l. slice_get (slice_set l 0 (at t)) 0) z.nodes

  then_nodes : (t : S) (y : Node S) → slice_set (slice_set w.nodes 0 (at t)) 0 y ≡ y ∷ backup_node M (visible k) ∷ []
  then_nodes t y = ap (λ l. slice_set (slice_set l 0 (at t)) 0 y) z.nodes

  -- a key that was typed
  pub key_leads : (n : ℕ) (t u : S) (port byte : ℕ) → Quiet M z.s n t → IsAccepted M t (input.Rx port byte) u
      → slice_get (terminal w port).typed (M.keys t port) ≡ Some byte
      → Leads M C typed0 typed1 (appended (entry_of Logged (M.count t) (input.Rx port byte)) k) w
      (AppendEvents (length list) (entry_of Logged (M.count t) (input.Rx port byte)))
  key_leads n t u port byte q accepts typed = let short : M.keys t port < top =
      key_room M (M.keys t port) accepts.room in let w1 : World S = with_node w 0 (at t) in
      input_leads n t u (input.Rx port byte) q accepts (TakeKey 0 port (M.keys t port) ∷ []) (Taken ∷ [])
      (with_node w1 0 (taken t u (input.Rx port byte)))
      (First (Accepts ((λ i. first_of (fault_if (is_none (typed i)) Unknown ∷ at_node (there_at t i)
      (take_key_refusal M port (M.keys t port)) ∷ []))
      ∙ (λ i. first_of (first_of (fault_if (not (eq-eqb (M.keys t port) (M.keys t port) refl i)) WrongNumber ∷ fault_if
      (no_full i) LogFull ∷ fault_if (no_spent i) Spent ∷ fault_if (too_low (M.keys t port) top short i) Spent ∷ []) ∷ [])))
      record {
        byte = byte;
        typed = typed;
        input = record {
          at = record {
            x = at t;
            there = there_at t;
            y = taken t u (input.Rx port byte);
            done = record { s = u; takes = accepts.taken; after = refl };
            after = refl;
          };
          reply = refl;
        };
      }) Nothing)
      (then_nodes t (taken t u (input.Rx port byte))) z.sent refl refl refl z.only
      (λ m e. absurd (let c : Written m ≡ bare (input.Rx port byte) = e in cc)) (n, M.keys t port, refl)

  -- the acceptance of a byte that its terminal has counted
  pub sent_leads : (n : ℕ) (t u : S) (port number : ℕ) → Quiet M z.s n t → IsAccepted M t (input.Sent port) u
      → M.due_byte t port ≡ Some number → 1 ≤ number → number ≤ length (accepted w port)
      → Leads M C typed0 typed1 (appended (entry_of Logged (M.count t) (input.Sent port)) k) w
      (AppendEvents (length list) (entry_of Logged (M.count t) (input.Sent port)))
  sent_leads n t u port number q accepts due some came = let w1 : World S = with_node w 0 (at t) in
      input_leads n t u (input.Sent port) q accepts (TellSent 0 port number ∷ []) (Taken ∷ [])
      (with_node w1 0 (taken t u (input.Sent port)))
      (First (Accepts (let a : (number == 0) ≡ false =
      ne_eqb number 0 (λ e. omega arith) in let b : nat_lt (length (accepted w port)) number ≡ false = grind arith in
      (λ i. first_of (fault_if (a i || b i) Unknown ∷ at_node (there_at t i) (tell_sent_refusal M port number) ∷ []))
      ∙ (λ i. first_of (first_of (fault_if (is_none (due i)) NotDue ∷ fault_if (not (is_number (due i) number)) WrongNumber
      ∷ fault_if (no_full i) LogFull ∷ fault_if (no_spent i) Spent ∷ []) ∷ []))
      ∙ (λ i. first_of (first_of (None ∷ fault_if (not (eq-eqb number number refl i)) WrongNumber ∷ None ∷ None ∷ []) ∷ [])))
      record {
        at = record {
          x = at t;
          there = there_at t;
          y = taken t u (input.Sent port);
          done = record { s = u; takes = accepts.taken; after = refl };
          after = refl;
        };
        reply = refl;
      }) Nothing)
      (then_nodes t (taken t u (input.Sent port))) z.sent refl refl refl z.only
      (λ m e. absurd (let c : Written m ≡ bare (input.Sent port) = e in cc)) (n, number, refl)

  -- a write that the disk has answered
  pub done_leads : (n : ℕ) (t u : S) (number : ℕ) → Quiet M z.s n t → IsAccepted M t (input.Written number) u
      → Among (WriteDone number) w.messages → HasWrite k.disk.puts number
      → Leads M C typed0 typed1 (appended (entry_of Logged (M.count t) (input.Written number)) k) w
      (AppendEvents (length list) (entry_of Logged (M.count t) (input.Written number)))
  done_leads n t u number q accepts at_disk put = let w1 : World S = with_node w 0 (at t) in let m =
      index_of (WriteDone number) w.messages at_disk in
      input_leads n t u (input.Written number) q accepts (PutReply m.0 0 ∷ []) (Taken ∷ [])
      (with_node w1 0 (taken t u (input.Written number)))
      (First (Accepts ((λ i. at_write_done M (there_at t i) (m.1 i))
      ∙ (λ i. first_of (accepts.allowed i ∷ fault_if (no_full i) LogFull ∷ fault_if (no_spent i) Spent ∷ [])))
      record {
        number = number;
        message = m.1;
        input = record {
          at = record {
            x = at t;
            there = there_at t;
            y = taken t u (input.Written number);
            done = record { s = u; takes = accepts.taken; after = refl };
            after = refl;
          };
          reply = refl;
        };
      }) Nothing)
      (then_nodes t (taken t u (input.Written number))) z.sent refl refl refl z.only
      (λ m e. subst (HasWrite k.disk.puts) (sym (same_number m number e)) put) (n, m.0, refl)

  -- a sector that the disk read: its record is still the same
  pub sector_leads : (n : ℕ) (t u : S) (drive sector number : ℕ) (bytes : List ℕ) → Quiet M z.s n t
      → IsAccepted M t (input.Sector drive sector number bytes) u
      → M.selected t ≡ Some drive → M.address t drive sector ≡ record (M.address t drive sector) {
        drive = drive;
        sector = sector;
      }
      → sector_record M w.puts (M.address t drive sector) ≡ record { number = number; bytes = bytes }
      → Leads M C typed0 typed1 (appended (entry_of Logged (M.count t) (input.Sector drive sector number bytes)) k) w
      (AppendEvents (length list) (entry_of Logged (M.count t) (input.Sector drive sector number bytes)))
  sector_leads n t u drive sector number bytes q accepts selected placed still =
      let w1 : World S = with_node w 0 (at t) in let i : Input =
      input.Sector drive sector number bytes in let address : SectorAddress = M.address t drive sector in
      let w2 : World S = with_read M w1 address in
      let read : slice_get w2.messages (length w.messages) ≡ Some
      (SectorRead (record address { drive = drive; sector = sector }) number bytes) =
      get_last w.messages (SectorRead address (sector_record M w.puts address).number (sector_record M w.puts address).bytes)
      ∙ (λ j. Some (SectorRead (placed j) (still j).number (still j).bytes)) in
      let same : same_address (M.address t drive sector) (record address { drive = drive; sector = sector }) ≡ true =
      ap (λ a. same_address (M.address t drive sector) a) (sym placed) ∙ same_address-refl (M.address t drive sector) (M.address t drive sector) refl in
      input_leads n t u i q accepts (Get 0 sector ∷ GetReply (length w.messages) 0 ∷ [])
      (MessageIs (length w.messages) ∷ Taken ∷ []) (with_node w2 0 (taken t u i))
      (First (Accepts (let a : nat_le 32 sector ≡ false = too_low sector 32 accepts.is_input.1 in
      (λ j. first_of (fault_if (a j) Unknown ∷ at_node (there_at t j) (get_refusal M) ∷ []))
      ∙ (λ j. first_of (first_of (fault_if (is_none (selected j)) NotDue ∷ []) ∷ [])))
      record {
        address = address;
        node =
            record { x = at t; there = there_at t; said = record { drive = drive; selected = selected; address_is = refl } };
        reply = refl;
        after = refl;
      })
      (First (Accepts ((λ j. at_sector_read M (there_at t j) (read j))
      ∙ (λ j. first_of (fault_if (not (same j)) NotDue ∷ accepts.allowed j ∷ fault_if (no_full j) LogFull ∷ fault_if
      (no_spent j) Spent ∷ [])))
      record {
        address = record address { drive = drive; sector = sector };
        number = number;
        bytes = bytes;
        message = read;
        input = record {
          at = record {
            x = at t;
            there = there_at t;
            y = taken t u i;
            done = record { s = u; takes = accepts.taken; after = refl };
            after = refl;
          };
          reply = refl;
        };
      }) Nothing))
      (then_nodes t (taken t u i)) (more_sent (visible k) w.messages
      (SectorRead address (sector_record M w.puts address).number (sector_record M w.puts address).bytes ∷ []) z.sent) refl
      refl refl (only_more list k.backup.held_values
      (SectorRead address (sector_record M w.puts address).number (sector_record M w.puts address).bytes) w.messages tt
      z.only) (λ m e. absurd (let c : Written m ≡ bare (input.Sector drive sector number bytes) = e in cc))
      (n, length w.messages, refl)
