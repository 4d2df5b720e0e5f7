-- Each step of a host is at most one event of the protocol.
use Rattle.std.proofs.Common.{[], ◌++◌, ◌<◌, ◌∙◌, ◌∷◌, ◌≡◌, ◌≤◌, ◌⊎◌, List, None, Option, Some, ap, arith, cond, false, inl, inr, length, not, refl, subst, suc, sym, true, ℕ}
use Rattle.std.specs.Prelude.{max, slice_get, slice_set}
use Rattle.std.proofs.lemmas.List.{length-set}
use Rattle.pair_protocol.proofs.Keeps.Terminals.{at_set}
use Rattle.pair_events.specs.declared.event.Event.TheVariants as event
use Rattle.pair_protocol.specs.Effects as effect
use Rattle.pair_protocol.specs.Refusals.{acknowledge_refusal, ask_refusal, at_host, at_acknowledgement, at_fetched, at_log_entry, at_part, at_sector_read, at_write_done, begin_pair_refusal, deliver_acknowledgement_refusal, deliver_log_refusal, drain_refusal, fetched_refusal, get_reply_refusal, is_other, pair_refusal, part_comes_refusal, put_reply_refusal, release_refusal, replay_refusal, role_refusal, send_part_refusal, send_refusal, step_refusal, stop_refusal, suspect_refusal, take_key_refusal, tell_sent_refusal, told_refusal}
use Rattle.pair_protocol.specs.Reply as reply
use Rattle.pair_protocol.specs.Rows.{drain_reply}
use Rattle.pair_protocol.proofs.Keeps.Arbiter.{winner-longer}
use Rattle.pair_protocol.proofs.OneNode.{set_get}
use Rattle.pair_protocol.proofs.Passed.{acts-in, first-passed, node-passed}
use Rattle.pair_protocol.proofs.Promises.Growth.{winner_added}
use Rattle.pair_protocol.proofs.Promises.OneMore.{terminal-set}
use Rattle.pair_protocol.proofs.Traces.Lists.{among-right, get_set, get_set_cases, get_set_other, same_some}
use Rattle.host_law.specs.Host as does
use Rattle.guest_lockstep.specs.declared.timed.Timed.{Timed}
use Rattle.pair_protocol.specs.Settled.{highest}
use Rattle.pair_protocol.proofs.Promises.Faithful.{alone_is_highest}
use Rattle.host_law.specs.Host.{Passes, recruit}
use Rattle.host_law.specs.Shows.{IsNumbered, IsShown, IsShownAt}
use Rattle.host_law.specs.Laws as law
use Rattle.host_law.proofs.Following.{StillWait, follow, follows-changes, message-there, no-frame, node-there, numbered-set, one-frame, other, shown-set, told-same, wait-same, wait-set}
use Rattle.host_law.proofs.Keeping.{has-taken-keys}
use Rattle.host_law.proofs.Later.{changes-later}
use Rattle.host_law.proofs.Passing.{accepted-there, at-most-highest, both-pass, name-there, passes-node, passes-too, past-end, port-there, typed-there}
use Rattle.host_law.proofs.Winners.{IsPast, has_won, reached-past}
use Rattle.host_law.proofs.Words.{Accepts, Acknowledgement, Act, Acts, Alone, Among, AreAccepted, AreTerminals, AreTold, Backup, Came, Carries, Copying, Event, Fault, Fleet, Followed, Follows, Frame, HasWon, HostStep, ImagePart, IsCopying, IsTerminal, Joining, Lawful, Key, LogEntry, Lost, Machine, MayBegin, Message, Node, PORTS, Primary, Reads, Recruits, Released, Reply, Row, SectorRead, Shows, Spare, Tells, TellsKeys, Terminal, Winner, World, WriteDone, WrongRole, at_node, begun, joiner, fault_if, is_role, terminal, terminal_in, winner_in, wins, with_message, with_node, with_pair, with_told, with_winner}

module _ {S : Type 0} (M : Machine S) (C : Copying S) (f : Fleet S) (w : World S) (h : Shows M C f w) (n : ℕ)
    (x : Node S) (there : slice_get f.hosts n ≡ Some x) where
  abbrev After : Node S → List Frame → Type 0
  After y more = Followed M C w (record { hosts = slice_set f.hosts n y; outside = f.outside; sent = f.sent ++ more })

  -- what the node does not refuse
  free : (part : Node S → Option Fault) → Passes x part → at_node (slice_get w.nodes n) part ≡ None
  free part p = ap (λ o. at_node o part) (node-there M C f w h n x there (passes-node x part p)) ∙ p

  here : (part : Node S → Option Fault) → Passes x part → slice_get w.nodes n ≡ Some x
  here part p = node-there M C f w h n x there (passes-node x part p)

  -- after an event at the node it is no spare host, and in its generation or a later one
  goes-on : (real : x.role ≡ Spare → ⊥) (y : Node S) (v : World S) → v.nodes ≡ slice_set w.nodes n y → Follows M C w v →
      (y.role ≡ Spare → ⊥) × (x.generation ≤ y.generation)
  goes-on real y v is follows =
      let at = node-there M C f w h n x there real in
      let k = (changes-later M C w v (follows-changes M C w v follows)).nodes n x at in
      let same : k.z ≡ y = same_some k.z y (slice_get (slice_set w.nodes n y) n)
      (ap (λ l. slice_get l n) (sym is) ∙ k.there) (get_set w.nodes n x y at) in
      subst (λ (z : Node S). (z.role ≡ Spare → ⊥) × (x.generation ≤ z.generation)) same (k.next real)

  -- the node becomes another one
  becomes : (part : Node S → Option Fault) → Passes x part → (y : Node S) (e : Event) (r : Reply) →
      Row M C w e r (with_node w n y) → After y []
  becomes part p y e r row =
      let real = passes-node x part p in
      let v = with_node w n y in
      let follows = law.ByEvent e r row in
      let on = goes-on real y v refl follows in
      follow M C f w h (slice_set f.hosts n y) f.outside [] v follows
      (shown-set f.hosts w.nodes n y y (inl refl) h.nodes)
      (numbered-set M C f w h n x y (here part p) real on.1)
      (wait-set M C f w h n x y there real on.0) h.terminals h.winners h.puts (told-same M C f w h) refl
      (length-set f.hosts n y) (no-frame M C f w h (slice_set f.hosts n y) v f.outside)

  -- the host stays as it is
  stays : slice_set f.hosts n x ≡ f.hosts
  stays = set_get f.hosts n x there

  hosts-stay : (more : List Frame) → Followed M C w (record { hosts = f.hosts; outside = f.outside; sent = f.sent ++ more }) →
      After x more
  hosts-stay more =
      subst (λ l. Followed M C w (record { hosts = l; outside = f.outside; sent = f.sent ++ more })) (sym stays)

  -- it sends a message
  says : (m : Message) (e : Event) (r : Reply) → Row M C w e r (with_message w m) → After x (Carries m ∷ [])
  says m e r row =
      hosts-stay (Carries m ∷ [])
      (follow M C f w h f.hosts f.outside (Carries m ∷ []) (with_message w m) (law.ByEvent e r row) h.nodes h.numbered
      (wait-same f.hosts w.nodes) h.terminals h.winners h.puts (told-same M C f w h) refl refl
      (one-frame M C f w h f.hosts (with_message w m) f.outside (Carries m)
      (among-right m w.messages (m ∷ []) (inl refl))))

  -- nothing happens in the protocol
  nothing : (more : List Frame) → ((frame : Frame) → Among frame more → Tells M C f.hosts w f.outside frame) → After x more
  nothing more tells =
      hosts-stay more
      (follow M C f w h f.hosts f.outside more w law.ByNothing h.nodes h.numbered (wait-same f.hosts w.nodes) h.terminals
      h.winners h.puts (told-same M C f w h) refl refl tells)

  none : After x []
  none = nothing [] (no-frame M C f w h f.hosts w f.outside)

  asks : (frame : Frame) → Tells M C f.hosts w f.outside frame → After x (frame ∷ [])
  asks frame t = nothing (frame ∷ []) (one-frame M C f w h f.hosts w f.outside frame t)

  -- it halts
  stops : (y : Node S) → Passes x stop_refusal → effect.Halted x y → After y []
  stops y p d =
      becomes stop_refusal p y (event.Stop n) reply.Stopped
      (Accepts (free stop_refusal p)
      (record { at = record { x = x; there = here stop_refusal p; y = y; done = d; after = refl }; reply = refl }))

  -- a terminal is told how many keys are covered
  tells : (port keys : ℕ) → port < PORTS → Passes x told_refusal → effect.HasCovered M port keys x →
      After x (TellsKeys port keys ∷ [])
  tells port keys low p is =
      hosts-stay (TellsKeys port keys ∷ [])
      (follow M C f w h f.hosts f.outside (TellsKeys port keys ∷ []) v
      (law.ByEvent (event.Told n port) (reply.ToldIs keys)
      (Accepts (both-pass _ _ (port-there w port h.terminals.count low) (free told_refusal p))
      (record {
        keys = keys;
        node = record { x = x; there = here told_refusal p; said = is };
        reply = refl;
        after = refl;
      })))
      h.nodes h.numbered (wait-same f.hosts w.nodes) terminals h.winners h.puts (told-same M C f w h)
      refl refl (one-frame M C f w h f.hosts v f.outside (TellsKeys port keys)
      (subst (λ z. keys ≤ z.told)
      (sym (terminal-set w.terminals port new (subst (λ k. port < k) (sym h.terminals.count) low))) (omega arith))))
    where
      t : Terminal
      t = terminal w port

      new : Terminal
      new = record t { told = max t.told keys }

      v : World S
      v = with_told w port keys

      ours : List Terminal
      ours = f.outside.terminals

      told : IsTerminal (terminal_in f.outside.terminals port) new
      told = let i = h.terminals.each port in let low = i.told in
          record { arrivals = i.arrivals; typed = i.typed; told = omega (arith, low) }

      terminals : AreTerminals f.outside.terminals v.terminals
      terminals = record {
        ports = h.terminals.ports;
        count = length-set w.terminals port new ∙ h.terminals.count;
        each = λ q. elim (at_set w.terminals port new q) [
          | inl e ↦ subst (IsTerminal (terminal_in f.outside.terminals q)) (sym e) (h.terminals.each q)
          | inr e ↦ subst (IsTerminal (terminal_in f.outside.terminals q)) (sym e.1)
              (subst (λ j. IsTerminal (terminal_in f.outside.terminals j) new) (sym e.0) told)
        ];
      }

  -- the arbiter's answer that the node has won: until then the world has no winner of its generation
  wins-now : Passes x suspect_refusal → (x.role ≡ Primary) ⊎ (x.role ≡ Backup) →
      winner_in f.outside.winners x.generation ≡ Some n → After (wins x) []
  wins-now p role won = go (winner_in w.winners x.generation) refl
    where
      it : Winner
      it = record { generation = x.generation; node = n }

      at : slice_get w.nodes n ≡ Some x
      at = here suspect_refusal p

      real : x.role ≡ Spare → ⊥
      real = passes-node x suspect_refusal p

      not-won : has_won x.role ≡ false
      not-won = elim role [ inl e ↦ ap has_won e | inr e ↦ ap has_won e ]

      asked : suspect_refusal x ≡ None
      asked = (node-passed (Some x) x suspect_refusal refl p).1

      told : AreTold f.outside.winners (w.winners ++ it ∷ [])
      told g m is = second (winner_in w.winners g) refl
        where
          second : (o : Option ℕ) → winner_in w.winners g ≡ o → winner_in f.outside.winners g ≡ Some m
          second None e =
              let k = winner_added w.winners it g m e is in
              ap (winner_in f.outside.winners) k.0 ∙ won ∙ ap Some k.1
          second (Some k) e =
              let same : k ≡ m = same_some k m (winner_in (w.winners ++ it ∷ []) g)
              (winner-longer w.winners (it ∷ []) g k e) is in
              h.winners g m (e ∙ ap Some same)

      go : (o : Option ℕ) → winner_in w.winners x.generation ≡ o → After (wins x) []
      go None e =
          let follows : Follows M C w (with_winner w n x) = law.ByEvent (event.Suspect n) reply.Won
          (Accepts
          (ap (λ o. at_node o (ask_refusal w n)) at
          ∙ passes-too x suspect_refusal (ask_refusal w n) p
          (both-pass (suspect_refusal x) (fault_if (is_other (winner_in w.winners x.generation) n) Lost) asked
          (ap (λ o. fault_if (is_other o n) Lost) e)))
          (record { x = x; there = at; reply = refl; after = inl (e, refl) })) in
          let on = goes-on real (wins x) (with_winner w n x) refl follows in
          follow M C f w h (slice_set f.hosts n (wins x)) f.outside [] (with_winner w n x) follows
          (shown-set f.hosts w.nodes n (wins x) (wins x) (inl refl) h.nodes)
          (numbered-set M C f w h n x (wins x) at real on.1) (wait-set M C f w h n x (wins x) there real on.0) h.terminals
          told h.puts (told-same M C f w h) refl (length-set f.hosts n (wins x))
          (no-frame M C f w h (slice_set f.hosts n (wins x)) (with_winner w n x) f.outside)
      go (Some k) e =
          let same : k ≡ n = same_some k n (winner_in f.outside.winners x.generation) (h.winners x.generation k e) won in
          let past = reached-past M C w h.reached x.generation n (e ∙ ap Some same) in
          let is = subst (IsPast x.generation) (same_some past.x x (slice_get w.nodes n) past.there at) past.is in
          absurd
          (elim is.past [
            | inl less ↦ omega (arith, less)
            | inr has ↦ (let k : false ≡ true = sym not-won ∙ has.1 in (cc))
          ])

  -- it begins a generation with the host of that number, which is spare
  begins : Lawful M → IsCopying M C → Passes x begin_pair_refusal → suc x.generation < length f.hosts →
      After (begun M x) (Recruits (suc x.generation) (M.count x.machine) x.reads x.list ∷ [])
  begins laws copies p low = go (slice_get f.hosts host) (slice_get w.nodes host) refl refl (h.nodes host)
    where
      host : ℕ
      host = suc x.generation

      hosts : List (Node S)
      hosts = slice_set f.hosts n (begun M x)

      mid : List (Node S)
      mid = slice_set w.nodes n (begun M x)

      v : World S
      v = with_pair M C w n host x

      sent : Frame
      sent = Recruits host (M.count x.machine) x.reads x.list

      at : slice_get w.nodes n ≡ Some x
      at = here begin_pair_refusal p

      real : x.role ≡ Spare → ⊥
      real = passes-node x begin_pair_refusal p

      asked : begin_pair_refusal x ≡ None
      asked = (node-passed (Some x) x begin_pair_refusal refl p).1

      acts : Acts w n x Alone
      acts = acts-in w n x Alone at (first-passed (role_refusal (Alone ∷ []) x) _ asked).0

      top : x.generation ≡ highest w.nodes
      top = alone_is_highest M C laws copies w h.reached n x at acts.role_is

      -- the node of that number in the world
      is-spare : (z : Node S) → slice_get w.nodes host ≡ Some z → z.role ≡ Spare
      is-spare z there_z = elim (h.numbered host z there_z) [
        | inl spare ↦ spare
        | inr more ↦ absurd
            (let k = at-most-highest w.nodes host z there_z in omega (arith, more, top, k))
      ]

      with-host : (y z : Node S) → slice_get f.hosts host ≡ Some y → slice_get w.nodes host ≡ Some z → IsShown y z →
          After (begun M x) (sent ∷ [])
      with-host y z there_y there_z shown =
          follow M C f w h hosts f.outside (sent ∷ []) v
          (law.ByEvent (event.BeginPair n host) (reply.GenerationIs (suc x.generation))
          (Accepts
          (ap (λ o. at_host o (slice_get w.nodes n)) there_z ∙ ap (λ o. at_node o (pair_refusal z)) at
          ∙ passes-too x begin_pair_refusal (pair_refusal z) p
          (both-pass (fault_if (not (is_role z.role Spare)) WrongRole) (begin_pair_refusal x)
          (ap (λ r. fault_if (not (is_role r Spare)) WrongRole) spare_z) asked))
          (record { x = x; there = at; y = z; spare = there_z; reply = refl; after = refl })))
          (subst (λ l. (k : ℕ) → IsShownAt (slice_get l k) (slice_get v.nodes k)) (set_get hosts host y host_there)
          (shown-set hosts mid host y (joiner M C x) (inr (spare_y, refl))
          (shown-set f.hosts w.nodes n (begun M x) (begun M x) (inl refl) h.nodes)))
          numbered wait h.terminals h.winners h.puts (told-same M C f w h) refl (length-set f.hosts n (begun M x))
          (one-frame M C f w h hosts v f.outside sent
          (λ u there_u is. get_set mid host z (joiner M C x) mid_there))
        where
          spare_z : z.role ≡ Spare
          spare_z = is-spare z there_z

          spare_y : y.role ≡ Spare
          spare_y = elim shown [ inl e ↦ ap (λ (u : Node S). u.role) e ∙ spare_z | inr q ↦ q.0 ]

          differs : host ≡ n → ⊥
          differs = other M C f w h n x there real host y there_y spare_y

          host_there : slice_get hosts host ≡ Some y
          host_there = get_set_other f.hosts n host (begun M x) differs ∙ there_y

          mid_there : slice_get mid host ≡ Some z
          mid_there = get_set_other w.nodes n host (begun M x) differs ∙ there_z

          numbered : (k : ℕ) (u : Node S) → slice_get v.nodes k ≡ Some u → IsNumbered k u
          numbered k u there_u = elim (get_set_cases mid host k (joiner M C x) u there_u) [
            | inl q ↦ inr
                (let g = ap (λ (j : Node S). j.generation) q.1 in let e = q.0 in omega (arith, g, e))
            | inr q ↦ numbered-set M C f w h n x (begun M x) at real (omega arith) k u q
          ]

          wait : StillWait f.hosts hosts w.nodes v.nodes
          wait = record {
            host = (wait-set M C f w h n x (begun M x) there real (λ e. (cc))).host;
            node = λ k s u at_s is at_u joins.
                get_set_other mid host k (joiner M C x)
                (λ e. (let same = same_some z u (slice_get w.nodes host) there_z
                (subst (λ j. slice_get w.nodes j ≡ Some u) e at_u) in
                let r : Spare ≡ Joining = sym spare_z ∙ ap (λ (j : Node S). j.role) same ∙ joins in
                (cc)))
                ∙ (wait-set M C f w h n x (begun M x) there real (λ e. (cc))).node k s u at_s is at_u joins;
          }

      go : (o q : Option (Node S)) → slice_get f.hosts host ≡ o → slice_get w.nodes host ≡ q → IsShownAt o q →
          After (begun M x) (sent ∷ [])
      go None q none e shown = absurd (let k = past-end f.hosts host none in omega (arith, k, low))
      go (Some y) None some e shown = absurd shown
      go (Some y) (Some z) some e shown = with-host y z some e shown

  -- a spare host hears of the generation that it joins
  hears-of : (count : ℕ) (reads : Reads) (list : List Timed) → x.role ≡ Spare →
      Among (Recruits n count reads list) f.sent → After (recruit M C n count reads list) []
  hears-of count reads list spare among =
      follow M C f w h (slice_set f.hosts n y) f.outside [] w law.ByNothing
      (subst (λ l. (k : ℕ) → IsShownAt (slice_get (slice_set f.hosts n y) k) (slice_get l k)) (set_get w.nodes n y at)
      (shown-set f.hosts w.nodes n y y (inl refl) h.nodes))
      h.numbered
      (record {
        host = λ k z at_z is. elim (get_set_cases f.hosts n k y z at_z) [
          | inl q ↦ absurd (let r : Joining ≡ Spare = ap (λ (v : Node S). v.role) (sym q.1) ∙ is in (cc))
          | inr q ↦ q
        ];
        node = λ k z u at_z is at_u joins. at_u;
      }) h.terminals h.winners h.puts (told-same M C f w h) refl (length-set f.hosts n y)
      (no-frame M C f w h (slice_set f.hosts n y) w f.outside)
    where
      y : Node S
      y = recruit M C n count reads list

      at : slice_get w.nodes n ≡ Some y
      at = h.frames (Recruits n count reads list) among x there spare

  pub host-step : Lawful M → IsCopying M C → (act : Act) (y : Node S) → HostStep M C n x act y → Came act.takes f.sent →
      After y act.sends
  host-step laws copies act y (does.Steps turns made count why z p d) came =
      becomes (step_refusal M turns) p z (event.Step n turns) (reply.Ran made count why)
      (Accepts (free (step_refusal M turns) p)
      (record {
        made = made;
        count = count;
        why = why;
        at = record { x = x; there = here (step_refusal M turns) p; y = z; done = d; after = refl };
        reply = refl;
      }))
  host-step laws copies act y (does.Replays turns made why z p d) came =
      becomes replay_refusal p z (event.Replay n turns) (reply.Moved made why)
      (Accepts (free replay_refusal p)
      (record {
        made = made;
        why = why;
        at = record { x = x; there = here replay_refusal p; y = z; done = d; after = refl };
        reply = refl;
      }))
  host-step laws copies act y (does.Drains turns made why z p d) came =
      becomes drain_refusal p z (event.Drain n turns) (drain_reply made why)
      (Accepts (free drain_refusal p)
      (record {
        made = made;
        why = why;
        at = record { x = x; there = here drain_refusal p; y = z; done = d; after = refl };
        reply = refl;
      }))
  host-step laws copies act y (does.Freshens p) came = none
  host-step laws copies act y (does.Stops z p d) came = stops z p d
  host-step laws copies act y (does.TakesKey port index byte z p d) came =
      let typed = h.frames (Key port index byte) came.0 in
      becomes (take_key_refusal M port index) p z (event.TakeKey n port index) reply.Taken
      (Accepts (both-pass _ _ (typed-there w port index byte typed) (free (take_key_refusal M port index) p))
      (record {
        byte = byte;
        typed = typed;
        input = record { at = record { x = x; there = here (take_key_refusal M port index) p; y = z; done = d; after = refl }; reply = refl };
      }))
  host-step laws copies act y (does.TakesAcceptance port number count z p low few d) came =
      becomes (tell_sent_refusal M port number) p z (event.TellSent n port number) reply.Taken
      (Accepts
      (both-pass _ _ (accepted-there w port number count low few (h.frames (AreAccepted port count) came.0))
      (free (tell_sent_refusal M port number) p))
      (record { at = record { x = x; there = here (tell_sent_refusal M port number) p; y = z; done = d; after = refl }; reply = refl }))
  host-step laws copies act y (does.TakesDone number z p d) came =
      let m = message-there M C f w h (WriteDone number) came.0 in
      becomes (put_reply_refusal M number) p z (event.PutReply m.0 n) reply.Taken
      (Accepts (ap (at_write_done M (slice_get w.nodes n)) m.1 ∙ free (put_reply_refusal M number) p)
      (record {
        number = number;
        message = m.1;
        input = record { at = record { x = x; there = here (put_reply_refusal M number) p; y = z; done = d; after = refl }; reply = refl };
      }))
  host-step laws copies act y (does.TakesSector address number bytes z p d) came =
      let m = message-there M C f w h (SectorRead address number bytes) came.0 in
      becomes (get_reply_refusal M address number bytes) p z (event.GetReply m.0 n) reply.Taken
      (Accepts
      (ap (at_sector_read M (slice_get w.nodes n)) m.1 ∙ free (get_reply_refusal M address number bytes) p)
      (record {
        address = address;
        number = number;
        bytes = bytes;
        message = m.1;
        input = record { at = record { x = x; there = here (get_reply_refusal M address number bytes) p; y = z; done = d; after = refl }; reply = refl };
      }))
  host-step laws copies act y (does.TakesRead address number bytes z p d) came =
      let m = message-there M C f w h (SectorRead address number bytes) came.0 in
      becomes (fetched_refusal M address number) p z (event.Fetched m.0 n) reply.Taken
      (Accepts
      (ap (at_fetched M (slice_get w.nodes n)) m.1 ∙ free (fetched_refusal M address number) p)
      (record {
        address = address;
        number = number;
        bytes = bytes;
        message = m.1;
        at = record { x = x; there = here (fetched_refusal M address number) p; y = z; done = d; after = refl };
        reply = refl;
      }))
  host-step laws copies act y (does.AsksUnder sector address p d) came = asks _ tt
  host-step laws copies act y (does.AsksWanted address p d) came = asks _ tt
  host-step laws copies act y (does.SendsEntry index e p d) came =
      says (LogEntry x.generation index e) (event.Send n index) (reply.MessageIs (length w.messages))
      (Accepts (free (send_refusal index) p)
      (record {
        e = e;
        node = record { x = x; there = here (send_refusal index) p; said = d };
        says = record { reply = refl; after = refl };
      }))
  host-step laws copies act y (does.TakesEntry generation index e next z p d) came =
      let m = message-there M C f w h (LogEntry generation index e) came.0 in
      becomes (deliver_log_refusal generation) p z (event.DeliverLog m.0 n) (cond next reply.New reply.Old)
      (Accepts
      (ap (at_log_entry (slice_get w.nodes n)) m.1 ∙ free (deliver_log_refusal generation) p)
      (record {
        generation = generation;
        index = index;
        e = e;
        message = m.1;
        next = next;
        at = record { x = x; there = here (deliver_log_refusal generation) p; y = z; done = d; after = refl };
        reply = refl;
      }))
  host-step laws copies act y (does.Acknowledges held replayed p d) came =
      says (Acknowledgement x.generation held replayed) (event.Acknowledge n) (reply.MessageIs (length w.messages))
      (Accepts (free acknowledge_refusal p)
      (record {
        held = held;
        replayed = replayed;
        node = record { x = x; there = here acknowledge_refusal p; said = d };
        says = record { reply = refl; after = refl };
      }))
  host-step laws copies act y (does.TakesAcknowledgement generation held replayed covered z p d) came =
      let m = message-there M C f w h (Acknowledgement generation held replayed) came.0 in
      becomes (deliver_acknowledgement_refusal generation held) p z (event.DeliverAcknowledgement m.0 n) (reply.HeldIs covered)
      (Accepts
      (ap (at_acknowledgement (slice_get w.nodes n)) m.1 ∙ free (deliver_acknowledgement_refusal generation held) p)
      (record {
        generation = generation;
        held = held;
        replayed = replayed;
        message = m.1;
        covered = covered;
        at = record { x = x; there = here (deliver_acknowledgement_refusal generation held) p; y = z; done = d; after = refl };
        reply = refl;
      }))
  host-step laws copies act y (does.Releases name o port p d) came =
      says (Released o) (event.Release n name) (reply.MessageIs (length w.messages))
      (Accepts
      (both-pass _ _ (name-there w name h.terminals.count port) (free (release_refusal M name) p))
      (record {
        o = o;
        node = record { x = x; there = here (release_refusal M name) p; said = d };
        says = record { reply = refl; after = refl };
      }))
  host-step laws copies act y (does.Tells port keys low p d) came = tells port keys low p d
  host-step laws copies act y (does.Asks p) came = asks _ tt
  host-step laws copies act y (does.Wins p role) came = wins-now p role (h.frames (HasWon x.generation n) came.0)
  host-step laws copies act y (does.Loses z p d) came = stops z p d
  host-step laws copies act y (does.BeginsPair p) came =
      begins laws copies p (subst (λ k. suc x.generation < k) h.hosts (h.frames (MayBegin (suc x.generation)) came.0))
  host-step laws copies act y (does.Joins count reads list spare) came = hears-of count reads list spare came.0
  host-step laws copies act y (does.SendsPart index part p d) came =
      says (ImagePart x.generation index part) (event.SendPart n index) (reply.MessageIs (length w.messages))
      (Accepts (free (send_part_refusal C index) p)
      (record {
        part = part;
        node = record { x = x; there = here (send_part_refusal C index) p; said = d };
        says = record { reply = refl; after = refl };
      }))
  host-step laws copies act y (does.TakesPart generation index part r z p d) came =
      let m = message-there M C f w h (ImagePart generation index part) came.0 in
      becomes (part_comes_refusal generation) p z (event.PartComes m.0 n) r
      (Accepts
      (ap (at_part (slice_get w.nodes n)) m.1 ∙ free (part_comes_refusal generation) p)
      (record {
        generation = generation;
        index = index;
        part = part;
        message = m.1;
        at = record { x = x; there = here (part_comes_refusal generation) p; y = z; done = d; after = refl };
      }))
  host-step laws copies act y (does.Drops frame) came = none
  host-step laws copies act y (does.Strays any alone stray) came =
      absurd (stray (has-taken-keys M C laws copies f w h n x there alone))
