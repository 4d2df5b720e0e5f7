-- Steps that are events of the world: an operation is released, a byte arrives, a write is put.
use Rattle.std.proofs.Common.{◌≡◌, ℕ, zero, suc, ◌<◌, true, List, [], ◌∷◌, ◌++◌, length, map, sym, refl, ap, ◌∙◌, subst, inl, ⊎_elim, arith, Some, None, slice_get, slice_set, nat_lt, is_none, not, if◌then◌else◌}
use Rattle.std.proofs.lemmas.List.{map_push}
use Rattle.pair_rule.proofs.Words.{Accepted, Accepts, Among, Answer, Answers, Arrive, Arrived, Byte, Copying, DiskAnswer, Dropped, First, Happens, IsAcknowledged, IsAsked, Knowledge, Leads, Machine, Message, MessageIs, Node, NotCovered, NotDue, Nothing, OpId, Operation, Put, Release, Released, SectorWrite, Sent, Shows, ShowsVisible, Stands, Visible, WhereSome, World, Write, WriteDone, accepted, after_fill, arrival_of, arrives, at_node, byte_arrived, byte_refusal, covers, fault_if, first_of, hand_of, id_of, no_such, note_of, notes_from, operations, put_by, release_refusal, terminal_in, terminals_of, visible, with_arrival, with_message, with_put, with_release, write_refusal}
use Rattle.pair_protocol.specs.World.{Terminal}
use Rattle.pair_rule.specs.declared.payload.DiskRequest.TheVariants as ask
use Rattle.pair_rule.specs.declared.payload.DiskAnswer.TheVariants as answer
use Rattle.pair_rule.proofs.Filled.{among_last, put_more}
use Rattle.pair_rule.proofs.Elements.{no_read}
use Rattle.pair_rule.proofs.ShownNodes.{only_more, index_of, more_sent, among_either, serving, first_node}

module _ {S : Type 0} (M : Machine S) (C : Copying S) (typed0 typed1 : List ℕ) (k : Knowledge) (w : World S)
    (z : Shows M typed0 typed1 k w) where
  abbrev primary : Node S
  primary = serving M C typed0 typed1 k w z

  at_primary : k.primary.winner ≡ 0 → slice_get w.nodes 0 ≡ Some primary
  at_primary none = first_node M C typed0 typed1 k w z none

  -- an operation is released: it is outstanding and covered
  release_shows : (o : Operation) → Sent (record (visible k) { released = k.primary.released ++ o ∷ [] })
      (w.messages ++ Released o ∷ [])
  release_shows o = let t = more_sent (visible k) w.messages (Released o ∷ []) z.sent in record {
    logs = t.logs;
    acks = t.acks;
    operations = λ x at. ⊎_elim (λ (i : Among x k.primary.released). t.operations x i)
        (λ (e : x ≡ o). subst (λ y. Among (Released y) (w.messages ++ Released o ∷ [])) (sym e)
        (among_last (Released o) w.messages)) (among_either x o k.primary.released at);
    writes = t.writes;
  }

  release_event : (o : Operation) (name : OpId) → no_such w name ≡ None → k.primary.winner ≡ 0 → M.find z.s name ≡ Some o
      → covers k.primary.seen 0 (note_of (notes_from 0 [] [] z.moves) name) ≡ true
      → Happens M C w (Release 0 name ∷ []) (MessageIs (length w.messages) ∷ []) (with_message w (Released o))
  release_event o name there none found covered = First (Accepts
      ((λ i. first_of (there i ∷ at_node (at_primary none i) (release_refusal M name) ∷ []))
      ∙ (λ i. first_of (first_of (fault_if (is_none (found i)) NotDue ∷ fault_if (not (covered i)) NotCovered ∷ []) ∷ [])))
      record {
        o = o;
        node = record { x = primary; there = at_primary none; said = found };
        says = record { reply = refl; after = refl };
      }) Nothing

  pub release_leads : (o : Operation) → Among o (operations z.moves) → IsAcknowledged z.moves k.primary.seen o
      → no_such w (id_of o) ≡ None → k.primary.winner ≡ 0 → M.find z.s (id_of o) ≡ Some o
      → covers k.primary.seen 0 (note_of (notes_from 0 [] [] z.moves) (id_of o)) ≡ true
      → Leads M C typed0 typed1 (record k { primary = with_release o k.primary }) w
      (λ events. events ≡ Release 0 (id_of o) ∷ [])
  release_leads o given marked there none found covered = record {
    events = Release 0 (id_of o) ∷ [];
    formed = refl;
    replies = MessageIs (length w.messages) ∷ [];
    new = with_message w (Released o);
    run = release_event o (id_of o) there none found covered;
    once = inl refl;
    shows = record {
      moves = z.moves;
      s = z.s;
      recorded = z.recorded;
      entries_are = z.entries_are;
      count = z.count;
      nodes = z.nodes;
      sent = release_shows o;
      terminals = z.terminals;
      winners = z.winners;
      puts = z.puts;
      issued = λ x at. ⊎_elim (λ (i : Among x k.primary.released). z.issued x i)
          (λ (e : x ≡ o). subst (λ y. Among y (operations z.moves)) (sym e) given) (among_either x o k.primary.released at);
      done = z.done;
      first_reads = z.first_reads;
      covered = λ x at. ⊎_elim (λ (i : Among x k.primary.released). z.covered x i)
          (λ (e : x ≡ o). subst (IsAcknowledged z.moves k.primary.seen) (sym e) marked) (among_either x o k.primary.released at);
      only = only_more k.primary.list k.backup.held_values (Released o) w.messages tt z.only;
    };
  }

  -- a byte that a terminal has in hand arrives
  abbrev arrived : List Arrived → List Arrived → Visible
  arrived arrivals0 arrivals1 = record (visible k) { arrivals0 = arrivals0; arrivals1 = arrivals1 }

  arrive_shows : (a b : List Arrived) (terminals : List Terminal) → terminals ≡ terminals_of (arrived a b) typed0 typed1
      → ShowsVisible M typed0 typed1 (arrived a b) (record w { terminals = terminals })
  arrive_shows a b terminals terminals_are = record {
    moves = z.moves;
    s = z.s;
    recorded = z.recorded;
    entries_are = z.entries_are;
    count = z.count;
    nodes = z.nodes;
    sent = record { logs = z.sent.logs; acks = z.sent.acks; operations = z.sent.operations; writes = z.sent.writes };
    terminals = terminals_are;
    winners = z.winners;
    puts = z.puts;
    issued = z.issued;
    done = z.done;
    first_reads = z.first_reads;
    covered = z.covered;
    only = z.only;
  }

  arrive_event : (port number byte m : ℕ) → slice_get w.messages m ≡ Some (Released (Byte port number byte))
      → Happens M C w (Arrive m ∷ []) ((if nat_lt (length (accepted w port))
      (length (accepted (with_arrival w port (record { number = number; byte = byte })) port)) then Accepted else Dropped) ∷ [])
      (with_arrival w port (record { number = number; byte = byte }))
  arrive_event port number byte m there =
      First (Accepts (ap byte_refusal there) record {
        port = port;
        number = number;
        byte = byte;
        message = there;
        reply = refl;
        after = refl;
      }) Nothing

  pub arrive_leads : (port number byte : ℕ) → port < 2 → hand_of port k ≡ Some (Byte port number byte)
      → Among (Byte port number byte) k.primary.released
      → Leads M C typed0 typed1 (byte_arrived port k) w (λ events. (m : ℕ) × (events ≡ Arrive m ∷ []))
  arrive_leads zero number byte two hand at = let m =
      index_of (Released (Byte 0 number byte)) w.messages (z.sent.operations (Byte 0 number byte) at) in record {
        events = Arrive m.0 ∷ [];
        formed = (m.0, refl);
        replies = _;
        new = with_arrival w 0 (record { number = number; byte = byte });
        run = arrive_event 0 number byte m.0 m.1;
        once = inl refl;
        shows = arrive_shows _ k.terminal.arrivals1 _
            (ap (λ l. slice_set l 0 (record (terminal_in l 0) {
              arrivals = (terminal_in l 0).arrivals ++ record {
                number = number;
                byte = byte;
              } ∷ [];
            })) z.terminals
            ∙ (λ i. record {
              arrivals = sym (map_push arrival_of k.terminal.arrivals0 record { number = number; byte = byte }) i;
              typed = typed0;
              told = 0;
            } ∷ record { arrivals = map arrival_of k.terminal.arrivals1; typed = typed1; told = 0 } ∷ [])
            ∙ (λ i. record {
              arrivals = map arrival_of (arrives (sym hand i) k.terminal.arrivals0);
              typed = typed0;
              told = 0;
            } ∷ record { arrivals = map arrival_of k.terminal.arrivals1; typed = typed1; told = 0 } ∷ []));
      }
  arrive_leads (suc zero) number byte two hand at = let m =
      index_of (Released (Byte 1 number byte)) w.messages (z.sent.operations (Byte 1 number byte) at) in record {
        events = Arrive m.0 ∷ [];
        formed = (m.0, refl);
        replies = _;
        new = with_arrival w 1 (record { number = number; byte = byte });
        run = arrive_event 1 number byte m.0 m.1;
        once = inl refl;
        shows = arrive_shows k.terminal.arrivals0 _ _
            (ap (λ l. slice_set l 1 (record (terminal_in l 1) {
              arrivals = (terminal_in l 1).arrivals ++ record {
                number = number;
                byte = byte;
              } ∷ [];
            })) z.terminals
            ∙ (λ i. record {
              arrivals = map arrival_of k.terminal.arrivals0;
              typed = typed0;
              told = 0;
            } ∷ record {
              arrivals =
                  sym (map_push arrival_of k.terminal.arrivals1 record { number = number; byte = byte }) i;
              typed = typed1;
              told = 0;
            } ∷ [])
            ∙ (λ i. record {
              arrivals = map arrival_of k.terminal.arrivals0;
              typed = typed0;
              told = 0;
            } ∷ record {
              arrivals = map arrival_of (arrives (sym hand i) k.terminal.arrivals1);
              typed = typed1;
              told = 0;
            } ∷ []));
      }
  arrive_leads (suc (suc p)) number byte two hand at = absurd (omega arith)

  -- a write is put, and the disk answers
  pub put_leads : Stands k → (write : SectorWrite) → k.disk.taken ≡ Some (ask.Write write)
      → Leads M C typed0 typed1 (after_fill Answers (Answer (answer.Written write.number)) k) w
      (λ events. (m : ℕ) × (events ≡ Put m ∷ []))
  put_leads st write is =
      let m = index_of (Released (Write write)) w.messages
      (z.sent.operations (Write write) (subst (λ t. WhereSome t (IsAsked k.primary.released)) is st.disk.taken)) in record {
        events = Put m.0 ∷ [];
        formed = (m.0, refl);
        replies = MessageIs (length w.messages) ∷ [];
        new = with_put w write;
        run = First (Accepts (ap write_refusal m.1) record { write = write; message = m.1; reply = refl; after = refl }) Nothing;
        once = inl refl;
        shows = record {
          moves = z.moves;
          s = z.s;
          recorded = z.recorded;
          entries_are = z.entries_are;
          count = z.count;
          nodes = z.nodes;
          sent = let t = more_sent (visible k) w.messages (WriteDone write.number ∷ []) z.sent in record {
            logs = t.logs;
            acks = t.acks;
            operations = t.operations;
            writes = λ n at. ⊎_elim (λ (i : Among (answer.Written n) k.disk.given). t.writes n i)
                (λ (e : answer.Written n ≡ answer.Written write.number). subst
                (λ (a : DiskAnswer). Among (done_by a) (w.messages ++ WriteDone write.number ∷ [])) (sym e)
                (among_last (WriteDone write.number) w.messages))
                (among_either (answer.Written n) (answer.Written write.number) k.disk.given at);
          };
          terminals = z.terminals;
          winners = z.winners;
          puts = ap (λ l. l ++ write ∷ []) z.puts ∙ ap (λ t. put_by t k.disk.puts) (sym is);
          issued = z.issued;
          done = λ n d. let h = z.done n d in (h.0, put_more k.disk.taken k.disk.puts h.0 h.1, h.2);
          first_reads = λ r at. z.first_reads r (no_read r write.number k.disk.given at);
          covered = z.covered;
          only = only_more k.primary.list k.backup.held_values (WriteDone write.number) w.messages tt z.only;
        };
      }
    where
      done_by : DiskAnswer → Message
      done_by (answer.Written n) = WriteDone n
      done_by (answer.Read r) = WriteDone 0
