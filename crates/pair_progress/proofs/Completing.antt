-- A live node completes one outstanding operation: the byte that is due, or a write.
use Rattle.std.proofs.Common.{◌≡◌, ◌≢◌, ℕ, ◌+◌, ◌-◌, ◌<◌, ◌≤◌, inl, inr, Bool, true, false, cond, not, Option, Some, None, is_none, List, [], ◌∷◌, ◌++◌, length, length-append, refl, ap, ◌∙◌, arith, eq-eqb, eqb-true, ltb-true, leb-true}
use Rattle.std.specs.Prelude.{slice_get, ◌==◌, ◌&&◌, ◌||◌, nat_le, nat_lt}
use Rattle.std.specs.Option.{option_map}
use Rattle.std.proofs.lemmas.Bool.Decides.{leb_tells}
use Rattle.disk_dcdd.specs.declared.sector.SectorWrite.{SectorWrite}
use Rattle.event_callbacks.specs.declared.operations.OpId.TheVariants as id
use Rattle.guest_lockstep.specs.Machine.{refusal_of}
use Rattle.guest_lockstep.specs.Outstanding.{completed_by}
use Rattle.guest_lockstep.specs.declared.input.Input.TheVariants as input
use Rattle.i8080_words.specs.declared.refusal.Fault.TheVariants.{LogFull, NotCovered, NotDue, Spent, Unknown, WrongNumber}
use Rattle.pair_events.specs.declared.event.Event.{Event}
use Rattle.pair_events.specs.declared.event.Event.TheVariants.{Arrive, Put, PutReply, Release, TellSent}
use Rattle.pair_protocol.proofs.Words.{Alone, Byte, Copying, Input, IsCopying, Lawful, Machine, Move, Node, OpId, Operation, Primary, Reached, Released, Runs, Spare, Terminal, Winner, World, Write, WriteDone, acceptances, accepted, accepted_after, covers, id_of, inputs, is_role, note_of, terminal, with_message, with_node, with_put}
use Rattle.pair_protocol.specs.Effects.{took}
use Rattle.pair_protocol.specs.Lawful.{top}
use Rattle.pair_protocol.specs.Refusals.{at_node, at_write_done, byte_refusal, fault_if, is_number, log_full, log_size, log_spent, no_such, not_accepted, put_reply_refusal, refusal, release_refusal, serves, tell_sent_refusal, write_refusal}
use Rattle.pair_protocol.specs.Reply.{Accepted, Dropped, MessageIs, Reply, Taken}
use Rattle.pair_protocol.specs.Rows.{Arrives, Puts, Releases, Takes}
use Rattle.pair_protocol.specs.World.{with_arrival}
use Rattle.pair_protocol.proofs.Promises.OneMore.{accepted-one, next_byte, terminal-set}
use Rattle.pair_protocol.proofs.Traces.Lists.{bool_cases, get-at, get_set, get_set_other}
use Rattle.pair_progress.specs.Completion.{IsCompletion, Responds}
use Rattle.pair_progress.specs.Leads.{Fails, Leads}
use Rattle.pair_progress.proofs.Leading.{and_then, at_most, is_there, one_reaches}
use Rattle.pair_progress.proofs.Passing.{acts_first, acts_later, at_here, in_role, not_if, not_spare, passed}
use Rattle.pair_progress.proofs.TwoTerminals.{two_terminals}

pub not_less : (m n : ℕ) → n ≤ m → nat_lt m n ≡ false
not_less m n le = elim (bool_cases (nat_lt m n)) [
  | inl t ↦ absurd (let k = ltb-true m n t in omega (arith, k, le))
  | inr f ↦ f
]

pub not_up_to : (m n : ℕ) → n < m → nat_le m n ≡ false
not_up_to m n lt = elim (bool_cases (nat_le m n)) [
  | inl t ↦ absurd (let k = leb-true m n t in omega (arith, k, lt))
  | inr f ↦ f
]

not_zero : (k : ℕ) → 1 ≤ k → (k == 0) ≡ false
not_zero k le = elim (bool_cases (k == 0)) [
  | inl t ↦ absurd (let e = eqb-true k 0 t in omega (arith, e, le))
  | inr f ↦ f
]

-- an operation of a byte's name is that byte, and one of a write's name is a write of that number
is_byte : (o : Operation) (port number : ℕ) → id_of o ≡ id.Byte port number → (byte : ℕ) × (o ≡ Byte port number byte)
is_byte (Byte p k byte) port number h =
    let a : p ≡ port = (cc) in
    let b : k ≡ number = (cc) in
    (byte, λ i. Byte (a i) (b i) byte)
is_byte (Write v) port number h = absurd (cc)

is_write : (o : Operation) (number : ℕ) → id_of o ≡ id.Write number → (v : SectorWrite) × (o ≡ Write v) × (v.number ≡ number)
is_write (Byte p k byte) number h = absurd (cc)
is_write (Write v) number h = (v, refl, (cc))

found_as : (p : Option Operation) (o q : Operation) → p ≡ Some o → o ≡ q → p ≡ Some q
found_as p o q found same = found ∙ ap (λ (z : Operation). Some z) same

-- ---- what a live node refuses

module _ {S : Type 0} (M : Machine S) (x : Node S) (up : x.running ≡ true) (role : x.role ≡ Alone) where
  pub live_real : is_role x.role Spare ≡ false
  live_real = not_spare x.role Alone role refl

  pub live_serves : serves x ≡ None
  live_serves = in_role x (Primary ∷ Alone ∷ []) (acts_later x Primary (Alone ∷ []) (acts_first x Alone [] up role refl))

  pub live_not_full : log_full x ≡ None
  live_not_full = ap (λ q. fault_if (is_role q Primary && nat_le log_size (length x.log - x.covered)) LogFull) role

  pub live_not_spent : log_spent x ≡ None
  live_not_spent = ap (λ q. fault_if (is_role q Primary && nat_le top (length x.log)) Spent) role

  pub live_releases : (name : OpId) (o : Operation) → M.find x.machine name ≡ Some o → release_refusal M name x ≡ None
  live_releases name o found =
      passed (serves x) _ live_serves
      (passed (fault_if (is_none (M.find x.machine name)) NotDue) _
      (ap (λ z. fault_if (is_none z) NotDue) found)
      (passed (fault_if (is_role x.role Primary && not (covers x.covered x.reported (note_of x.notes name))) NotCovered) []
      (ap (λ q. fault_if (is_role q Primary && not (covers x.covered x.reported (note_of x.notes name))) NotCovered) role)
      refl))

-- ---- a node that serves, and refuses no completion

pub record Server {S : Type 0} (M : Machine S) (w : World S) (n : ℕ) : Type 0 where
  pub x : Node S
  pub there : slice_get w.nodes n ≡ Some x
  pub real : is_role x.role Spare ≡ false
  pub serving : serves x ≡ None
  pub not_full : log_full x ≡ None
  pub not_spent : log_spent x ≡ None
  pub releases : (name : OpId) (o : Operation) → M.find x.machine name ≡ Some o → release_refusal M name x ≡ None
  pub moves : List Move
  pub runs : Runs M M.boot moves x.machine

-- the same node in a world with the same nodes
abbrev pub same_server : {S : Type 0} (M : Machine S) (w new : World S) (n : ℕ) → new.nodes ≡ w.nodes → Server M w n →
    Server M new n
same_server M w new n same v = record {
  x = v.x;
  there = ap (λ ns. slice_get ns n) same ∙ v.there;
  real = v.real;
  serving = v.serving;
  not_full = v.not_full;
  not_spent = v.not_spent;
  releases = v.releases;
  moves = v.moves;
  runs = v.runs;
}

module _ {S : Type 0} (M : Machine S) (w : World S) (n : ℕ) (v : Server M w n) where
  server_told : (port k : ℕ) → M.due_byte v.x.machine port ≡ Some k → tell_sent_refusal M port k v.x ≡ None
  server_told port k due =
      passed (serves v.x) _ v.serving
      (passed (refusal_of M v.x.machine (input.Sent port)) _ (ap (λ o. cond (is_none o) (Some NotDue) None) due)
      (passed (fault_if (not (is_number (M.due_byte v.x.machine port) k)) WrongNumber) _
      (ap (λ o. fault_if (not (is_number o k)) WrongNumber) due
      ∙ ap (λ b. fault_if (not b) WrongNumber) (eq-eqb k k refl))
      (passed (log_full v.x) _ v.not_full (passed (log_spent v.x) [] v.not_spent refl))))

  server_written : (number : ℕ) (o : Operation) → M.find v.x.machine (id.Write number) ≡ Some o →
      put_reply_refusal M number v.x ≡ None
  server_written number o found =
      passed (serves v.x) _ v.serving
      (passed (refusal_of M v.x.machine (input.Written number)) _ (ap (λ z. cond (is_none z) (Some NotDue) None) found)
      (passed (log_full v.x) _ v.not_full (passed (log_spent v.x) [] v.not_spent refl)))

module _ {S : Type 0} (M : Machine S) (C : Copying S) (laws : Lawful M) (copies : IsCopying M C) (responds : Responds M)
    (n : ℕ) (Kind : Event → Type 0) (ok : (e : Event) → IsCompletion n e → Kind e) where
  -- one of the operations that were outstanding is no longer, and the others are as they were; no other node has changed
  pub record Fewer (nodes : List (Node S)) (won : List Winner) (x : Node S) (new : World S) : Type 0 where
    pub t : S
    pub j : Input
    pub there : slice_get new.nodes n ≡ Some (took M x x.role t j)
    pub others_are : (m : ℕ) → (m ≡ n → ⊥) → slice_get new.nodes m ≡ slice_get nodes m
    pub winners_are : new.winners ≡ won
    pub gone : OpId
    pub o : Operation
    pub was : M.find x.machine gone ≡ Some o
    pub now : M.find t gone ≡ None
    pub others : (name : OpId) → name ≢ gone → M.find t name ≡ M.find x.machine name

  module _ (w : World S) (r : Reached M C w) (live : Server M w n) where
    -- an input is taken, and it completes an operation
    taking : (t : S) (j : Input) → M.take live.x.machine j ≡ Some t →
        Takes M w n j Taken (with_node w n (took M live.x live.x.role t j))
    taking t j h = record {
      at = record {
        x = live.x;
        there = live.there;
        y = took M live.x live.x.role t j;
        done = record { s = t; takes = h; after = refl };
        after = refl;
      };
      reply = refl;
    }

    fewer : (t : S) (j : Input) (gone : OpId) (o : Operation) → M.take live.x.machine j ≡ Some t →
        completed_by M live.x.machine j ≡ Some gone → M.find live.x.machine gone ≡ Some o →
        Fewer w.nodes w.winners live.x (with_node w n (took M live.x live.x.role t j))
    fewer t j gone o h done was =
        let g = responds.operations.goes live.x.machine t j gone h done in
        record {
          t = t;
          j = j;
          there = get_set w.nodes n live.x (took M live.x live.x.role t j) live.there;
          others_are = λ m other. get_set_other w.nodes n m (took M live.x live.x.role t j) other;
          winners_are = refl;
          gone = gone;
          o = o;
          was = was;
          now = g.0;
          others = g.1;
        }

    -- the byte that is due was accepted, and the node is told
    tells : (port k : ℕ) (o : Operation) → M.due_byte live.x.machine port ≡ Some k → 1 ≤ k →
        k ≤ length (accepted w port) → M.find live.x.machine (id.Byte port k) ≡ Some o →
        Leads M C w Kind 1 (Fewer w.nodes w.winners live.x)
    tells port k o due some le found =
        let t = responds.takes_byte live.moves live.x.machine port k live.runs due in
        let new = with_node w n (took M live.x live.x.role t.0 (input.Sent port)) in
        and_then M C w Kind 0 (Fewer w.nodes w.winners live.x) new (TellSent n port k) Taken (λ f. f)
        (ok (TellSent n port k) refl)
        (passed (not_accepted w port k) (at_node (slice_get w.nodes n) (tell_sent_refusal M port k) ∷ [])
        (not_if (k == 0 || nat_lt (length (accepted w port)) k) Unknown
        (ap (λ b. b || nat_lt (length (accepted w port)) k) (not_zero k some)
        ∙ not_less (length (accepted w port)) k le))
        (passed (at_node (slice_get w.nodes n) (tell_sent_refusal M port k)) []
        (at_here (slice_get w.nodes n) live.x (tell_sent_refusal M port k) live.there live.real
        (server_told M w n live port k due)) refl))
        (taking t.0 (input.Sent port) t.1)
        (is_there M C new Kind 0 (Fewer w.nodes w.winners live.x)
        (fewer t.0 (input.Sent port) (id.Byte port k) o t.1 (ap (option_map (id.Byte port)) due) found))

    -- an outstanding operation may be released
    may_release : (name : OpId) (o : Operation) → no_such w name ≡ None → M.find live.x.machine name ≡ Some o →
        refusal M C w (Release n name) ≡ None
    may_release name o such found =
        passed (no_such w name) (at_node (slice_get w.nodes n) (release_refusal M name) ∷ []) such
        (passed (at_node (slice_get w.nodes n) (release_refusal M name)) []
        (at_here (slice_get w.nodes n) live.x (release_refusal M name) live.there live.real
        (live.releases name o found)) refl)

    releasing : (name : OpId) (o : Operation) → M.find live.x.machine name ≡ Some o →
        Releases M w n name (MessageIs (length w.messages)) (with_message w (Released o))
    releasing name o found = record {
      o = o;
      node = record { x = live.x; there = live.there; said = found };
      says = record { reply = refl; after = refl };
    }

    -- the answer of the disk arrives
    writes : (v : SectorWrite) (m : ℕ) → slice_get w.messages m ≡ Some (WriteDone v.number) →
        M.find live.x.machine (id.Write v.number) ≡ Some (Write v) →
        Leads M C w Kind 1 (Fewer w.nodes w.winners live.x)
    writes v m message found =
        let t = responds.takes_write live.moves live.x.machine v.number (Write v) live.runs found in
        let new = with_node w n (took M live.x live.x.role t.0 (input.Written v.number)) in
        and_then M C w Kind 0 (Fewer w.nodes w.winners live.x) new (PutReply m n) Taken (λ f. f)
        (ok (PutReply m n) refl)
        (ap (λ z. at_write_done M (slice_get w.nodes n) z) message
        ∙ at_here (slice_get w.nodes n) live.x (put_reply_refusal M v.number) live.there live.real
        (server_written M w n live v.number (Write v) found))
        (record { number = v.number; message = message; input = taking t.0 (input.Written v.number) t.1 })
        (is_there M C new Kind 0 (Fewer w.nodes w.winners live.x)
        (fewer t.0 (input.Written v.number) (id.Write v.number) (Write v) t.1 refl found))

  -- ---- a byte: it is released, it arrives, and the node is told; or it had arrived before

  module _ (w : World S) (r : Reached M C w) (live : Server M w n) (port k byte : ℕ) (two : port < 2)
      (due : M.due_byte live.x.machine port ≡ Some k) (found : M.find live.x.machine (id.Byte port k) ≡ Some (Byte port k byte))
      (next : k ≡ length (accepted w port) + 1) where
    inside : port < length w.terminals
    inside = let t = two_terminals M C w r in omega (arith, t, two)

    abbrev sent : World S
    sent = with_message w (Released (Byte port k byte))

    may_send : refusal M C w (Release n (id.Byte port k)) ≡ None
    may_send = may_release w r live (id.Byte port k) (Byte port k byte)
        (not_if (nat_le (length w.terminals) port) Unknown (not_up_to (length w.terminals) port inside)) found

    sends : Releases M w n (id.Byte port k) (MessageIs (length w.messages)) sent
    sends = releasing w r live (id.Byte port k) (Byte port k byte) found

    sent_reached : Reached M C sent
    sent_reached = one_reaches M C w sent (Release n (id.Byte port k)) (MessageIs (length w.messages)) r may_send sends

    message : slice_get sent.messages (length w.messages) ≡ Some (Released (Byte port k byte))
    message = get-at w.messages [] (Released (Byte port k byte))

    abbrev come : World S
    come = with_arrival sent port (record { number = k; byte = byte })

    abbrev reply : Reply
    reply = cond (nat_lt (length (accepted sent port)) (length (accepted come port))) Accepted Dropped

    may_arrive : refusal M C sent (Arrive (length w.messages)) ≡ None
    may_arrive = ap byte_refusal message

    arrives_well : Fails reply → ⊥
    arrives_well = either (nat_lt (length (accepted sent port)) (length (accepted come port)))
      where
        either : (b : Bool) → Fails (cond b Accepted Dropped) → ⊥
        either true f = f
        either false f = f

    arrives : Arrives sent (length w.messages) reply come
    arrives = record { port = port; number = k; byte = byte; message = message; reply = refl; after = refl }

    come_reached : Reached M C come
    come_reached = one_reaches M C sent come (Arrive (length w.messages)) reply sent_reached may_arrive arrives

    -- the terminal has accepted it
    is_accepted : k ≤ length (accepted come port)
    is_accepted =
        let old = accepted w port in
        let all : accepted come port ≡ old ++ next_byte (length old) (record { number = k; byte = byte }) =
        ap (λ (t : Terminal). accepted_after 0 t.arrivals) (terminal-set w.terminals port
        (record (terminal w port) { arrivals = (terminal w port).arrivals ++ record { number = k; byte = byte } ∷ [] })
        inside)
        ∙ accepted-one (terminal w port).arrivals (record { number = k; byte = byte }) in
        let one : next_byte (length old) (record { number = k; byte = byte }) ≡ byte ∷ [] =
        ap (λ b. cond b (byte ∷ []) []) (eq-eqb k (length old + 1) next) in
        let e = ap length (all ∙ ap (λ bs. old ++ bs) one) in
        let l = length-append old (byte ∷ []) in
        omega (arith, e, l, next)

    pub sends_byte : Leads M C w Kind 3 (Fewer w.nodes w.winners live.x)
    sends_byte =
        and_then M C w Kind 2 (Fewer w.nodes w.winners live.x) sent (Release n (id.Byte port k))
        (MessageIs (length w.messages)) (λ f. f) (ok (Release n (id.Byte port k)) refl) may_send sends
        (and_then M C sent Kind 1 (Fewer w.nodes w.winners live.x) come
        (Arrive (length w.messages)) reply arrives_well (ok (Arrive (length w.messages)) tt) may_arrive arrives
        (tells come come_reached (same_server M w come n refl live) port k (Byte port k byte) due (omega (arith, next))
        is_accepted
        found))

  byte : (w : World S) (r : Reached M C w) (live : Server M w n) →
      ((port : ℕ) → acceptances port (inputs 0 live.moves) ≤ length (accepted w port)) → (port number : ℕ) (o : Operation) →
      M.find live.x.machine (id.Byte port number) ≡ Some o → Leads M C w Kind 3 (Fewer w.nodes w.winners live.x)
  byte w r live accepts port number o found =
      let s = live.x.machine in
      let d = responds.due live.moves s port number o live.runs found in
      let k = d.1.0 in
      let next : k ≡ acceptances port (inputs 0 live.moves) + 1 = laws.due live.moves s port k live.runs d.1.1 in
      let b = responds.found live.moves s port k live.runs d.1.1 in
      let is = is_byte b.0 port k (laws.named live.moves s (id.Byte port k) b.0 live.runs b.1) in
      let came : acceptances port (inputs 0 live.moves) ≤ length (accepted w port) = accepts port in
      elim (leb_tells k (length (accepted w port))) [
        | inl p ↦ at_most M C w Kind 1 (Fewer w.nodes w.winners live.x) 3 (omega arith)
            (tells w r live port k b.0 d.1.1 (omega (arith, next)) p.1 b.1)
        | inr p ↦ sends_byte w r live port k is.0 d.0 d.1.1
            (found_as (M.find s (id.Byte port k)) b.0 (Byte port k is.0) b.1 is.1)
            (let l = p.1 in omega (arith, next, came, l))
      ]

  -- ---- a write: it is released, it is put, and the answer arrives

  module _ (w : World S) (r : Reached M C w) (live : Server M w n) (v : SectorWrite)
      (found : M.find live.x.machine (id.Write v.number) ≡ Some (Write v)) where
    abbrev sent_write : World S
    sent_write = with_message w (Released (Write v))

    may_send_write : refusal M C w (Release n (id.Write v.number)) ≡ None
    may_send_write = may_release w r live (id.Write v.number) (Write v) refl found

    sends_it : Releases M w n (id.Write v.number) (MessageIs (length w.messages)) sent_write
    sends_it = releasing w r live (id.Write v.number) (Write v) found

    sent_write_reached : Reached M C sent_write
    sent_write_reached =
        one_reaches M C w sent_write (Release n (id.Write v.number)) (MessageIs (length w.messages)) r may_send_write sends_it

    write_message : slice_get sent_write.messages (length w.messages) ≡ Some (Released (Write v))
    write_message = get-at w.messages [] (Released (Write v))

    abbrev put : World S
    put = with_put sent_write v

    may_put : refusal M C sent_write (Put (length w.messages)) ≡ None
    may_put = ap write_refusal write_message

    puts : Puts sent_write (length w.messages) (MessageIs (length sent_write.messages)) put
    puts = record { write = v; message = write_message; reply = refl; after = refl }

    put_reached : Reached M C put
    put_reached = one_reaches M C sent_write put (Put (length w.messages)) (MessageIs (length sent_write.messages))
        sent_write_reached may_put puts

    pub sends_write : Leads M C w Kind 3 (Fewer w.nodes w.winners live.x)
    sends_write =
        and_then M C w Kind 2 (Fewer w.nodes w.winners live.x) sent_write
        (Release n (id.Write v.number)) (MessageIs (length w.messages)) (λ f. f)
        (ok (Release n (id.Write v.number)) refl) may_send_write sends_it
        (and_then M C sent_write Kind 1 (Fewer w.nodes w.winners live.x) put
        (Put (length w.messages)) (MessageIs (length sent_write.messages)) (λ f. f)
        (ok (Put (length w.messages)) tt) may_put puts
        (writes put put_reached (same_server M w put n refl live) v (length sent_write.messages)
        (get-at sent_write.messages [] (WriteDone v.number)) found))

  -- ---- either

  pub completes : (w : World S) → Reached M C w → (live : Server M w n) →
      ((port : ℕ) → acceptances port (inputs 0 live.moves) ≤ length (accepted w port)) → (name : OpId) (o : Operation) →
      M.find live.x.machine name ≡ Some o → Leads M C w Kind 3 (Fewer w.nodes w.winners live.x)
  completes w r live accepts (id.Byte port number) o found = byte w r live accepts port number o found
  completes w r live accepts (id.Write number) o found =
      let is = is_write o number (laws.named live.moves live.x.machine (id.Write number) o live.runs found) in
      sends_write w r live is.0
      (found_as (M.find live.x.machine (id.Write is.0.number)) o (Write is.0)
      (ap (λ k. M.find live.x.machine (id.Write k)) is.2 ∙ found) is.1)
