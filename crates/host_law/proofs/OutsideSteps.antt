-- Each step of the outside is at most one event of the protocol, or a read of the disk.
use Rattle.std.proofs.Common.{[], ◌++◌, ◌<◌, ◌∙◌, ◌∷◌, ◌≡◌, ◌≤◌, List, None, ap, arith, cond, inl, inr, length, refl, subst, sym, ℕ}
use Rattle.std.specs.Prelude.{max, nat_lt, slice_get}
use Rattle.disk_dcdd.specs.declared.sector.SectorWrite.{SectorWrite}
use Rattle.event_callbacks.specs.declared.operations.Operation.TheVariants.{Byte, Write}
use Rattle.pair_events.specs.declared.event.Event.TheVariants as event
use Rattle.pair_protocol.specs.Refusals.{byte_refusal, write_refusal}
use Rattle.pair_protocol.specs.Reply as reply
use Rattle.std.proofs.lemmas.List.{length-set}
use Rattle.pair_protocol.proofs.Keeps.Arbiter.{winner-longer, winner-push}
use Rattle.pair_protocol.proofs.Keeps.Terminals.{at_set}
use Rattle.pair_protocol.proofs.Traces.Lists.{among-right}
use Rattle.host_law.specs.Laws as law
use Rattle.host_law.specs.Outside as outside
use Rattle.host_law.specs.Outside.{with_arrived, with_first, with_keys, with_typed}
use Rattle.host_law.proofs.Following.{follow, message-there, no-frame, one-frame, terminals-set, told-same, wait-same}
use Rattle.host_law.proofs.Passing.{port-there}
use Rattle.host_law.proofs.Words.{Accepts, Act, Among, AreAccepted, Came, Carries, Copying, Fleet, Followed, Frame, HasLost, HasWon, IsTerminal, Key, Machine, MayBegin, Outside, OutsideStep, Released, SectorAddress, SectorRead, Shows, Tells, TellsKeys, Terminal, World, WriteDone, accepted, accepted_after, sector_record, terminal, terminal_in, winner_in, with_arrival, with_key, with_put, with_read}

module _ {S : Type 0} (M : Machine S) (C : Copying S) (f : Fleet S) (w : World S) (h : Shows M C f w) where
  abbrev After : Outside → List Frame → Type 0
  After o more = Followed M C w (record { hosts = f.hosts; outside = o; sent = f.sent ++ more })

  abbrev now : Outside
  now = f.outside

  -- nothing happens in the protocol, or at the outside
  nothing : (more : List Frame) → ((frame : Frame) → Among frame more → Tells M C f.hosts w now frame) → After now more
  nothing more tells =
      follow M C f w h f.hosts now more w law.ByNothing h.nodes h.numbered (wait-same f.hosts w.nodes) h.terminals h.winners h.puts (told-same M C f w h) refl refl tells

  says : (frame : Frame) → Tells M C f.hosts w now frame → After now (frame ∷ [])
  says frame t = nothing (frame ∷ []) (one-frame M C f w h f.hosts w now frame t)

  none : After now []
  none = nothing [] (no-frame M C f w h f.hosts w now)

  -- a byte is typed
  types : (port byte : ℕ) → port < length now.terminals → After (with_typed now port byte) []
  types port byte low =
      follow M C f w h f.hosts (with_typed now port byte) [] (with_key w port byte)
      (law.ByEvent (event.TypeByte port byte) (reply.TypedAt (length (terminal w port).typed))
      (Accepts (port-there w port h.terminals.count (subst (λ k. port < k) h.terminals.ports low))
      (record { reply = refl; after = refl })))
      h.nodes h.numbered (wait-same f.hosts w.nodes)
      (terminals-set now.terminals w.terminals port _ _ h.terminals
      (record { arrivals = i.arrivals; typed = ap (λ l. l ++ byte ∷ []) i.typed; told = i.told })) h.winners h.puts
      (told-same M C f w h) refl refl (no-frame M C f w h f.hosts (with_key w port byte) (with_typed now port byte))
    where
      i : IsTerminal (terminal_in f.outside.terminals port) (terminal w port)
      i = h.terminals.each port

  -- a byte arrives
  arrives : (port number byte : ℕ) → Among (Carries (Released (Byte port number byte))) f.sent →
      After (with_arrived now port number byte) []
  arrives port number byte among =
      let m = message-there M C f w h (Released (Byte port number byte)) among in
      let v = with_arrival w port (record { number = number; byte = byte }) in
      follow M C f w h f.hosts (with_arrived now port number byte) [] v
      (law.ByEvent (event.Arrive m.0)
      (cond (nat_lt (length (accepted w port)) (length (accepted v port))) reply.Accepted reply.Dropped)
      (Accepts (ap byte_refusal m.1)
      (record { port = port; number = number; byte = byte; message = m.1; reply = refl; after = refl })))
      h.nodes h.numbered (wait-same f.hosts w.nodes)
      (terminals-set now.terminals w.terminals port _ _ h.terminals
      (record {
        arrivals = ap (λ l. l ++ record { number = number; byte = byte } ∷ []) i.arrivals;
        typed = i.typed;
        told = i.told;
      })) h.winners h.puts (told-same M C f w h) refl refl (no-frame M C f w h f.hosts v (with_arrived now port number byte))
    where
      i : IsTerminal (terminal_in f.outside.terminals port) (terminal w port)
      i = h.terminals.each port

  -- a terminal hears how many keys are covered
  hears : (port keys : ℕ) → keys ≤ (terminal w port).told → After (with_keys now port keys) []
  hears port keys few =
      follow M C f w h f.hosts (with_keys now port keys) [] w law.ByNothing h.nodes h.numbered (wait-same f.hosts w.nodes)
      (record {
        ports = length-set now.terminals port _ ∙ h.terminals.ports;
        count = h.terminals.count;
        each = λ q. elim (at_set now.terminals port new q) [
          | inl e ↦ subst (λ s. IsTerminal s (terminal_in w.terminals q)) (sym e) (h.terminals.each q)
          | inr e ↦ subst (λ s. IsTerminal s (terminal_in w.terminals q)) (sym e.1)
              (subst (λ j. IsTerminal new (terminal_in w.terminals j)) (sym e.0) told)
        ];
      }) h.winners h.puts (told-same M C f w h) refl refl (no-frame M C f w h f.hosts w (with_keys now port keys))
    where
      new : Terminal
      new = record (terminal_in f.outside.terminals port) {
        told = max (terminal_in f.outside.terminals port).told keys;
      }

      told : IsTerminal new (terminal_in w.terminals port)
      told = let i = h.terminals.each port in let low = i.told in
          record { arrivals = i.arrivals; typed = i.typed; told = omega (arith, low, few) }

  -- a write arrives at the disk
  puts : (write : SectorWrite) → Among (Carries (Released (Write write))) f.sent →
      After (record now { puts = now.puts ++ write ∷ [] }) (Carries (WriteDone write.number) ∷ [])
  puts write among =
      let m = message-there M C f w h (Released (Write write)) among in
      let o = record now { puts = now.puts ++ write ∷ [] } in
      follow M C f w h f.hosts o (Carries (WriteDone write.number) ∷ []) (with_put w write)
      (law.ByEvent (event.Put m.0) (reply.MessageIs (length w.messages))
      (Accepts (ap write_refusal m.1) (record { write = write; message = m.1; reply = refl; after = refl })))
      h.nodes h.numbered (wait-same f.hosts w.nodes) h.terminals h.winners (ap (λ l. l ++ write ∷ []) h.puts) (told-same M C f w h) refl refl
      (one-frame M C f w h f.hosts (with_put w write) o (Carries (WriteDone write.number))
      (among-right (WriteDone write.number) w.messages (WriteDone write.number ∷ []) (inl refl)))

  -- a sector is read
  reads : (address : SectorAddress) →
      After now
      (Carries (SectorRead address (sector_record M now.puts address).number (sector_record M now.puts address).bytes) ∷ [])
  reads address =
      subst
      (λ ps. After now
      (Carries (SectorRead address (sector_record M ps address).number (sector_record M ps address).bytes) ∷ []))
      (sym h.puts)
      (follow M C f w h f.hosts now
      (Carries (SectorRead address (sector_record M w.puts address).number (sector_record M w.puts address).bytes) ∷ [])
      (with_read M w address) (law.ByRead address) h.nodes h.numbered (wait-same f.hosts w.nodes) h.terminals h.winners h.puts (told-same M C f w h) refl refl
      (one-frame M C f w h f.hosts (with_read M w address) now _
      (among-right
      (SectorRead address (sector_record M w.puts address).number (sector_record M w.puts address).bytes) w.messages _
      (inl refl))))

  -- the first host of a generation asks the arbiter
  first : (host generation : ℕ) → winner_in now.winners generation ≡ None →
      After (with_first now generation host) (HasWon generation host ∷ [])
  first host generation none =
      follow M C f w h f.hosts (with_first now generation host) (HasWon generation host ∷ []) w law.ByNothing h.nodes h.numbered (wait-same f.hosts w.nodes)
      h.terminals (λ g n won. winner-longer now.winners _ g n (h.winners g n won)) h.puts
      (λ g n won. winner-longer now.winners _ g n won) refl refl
      (one-frame M C f w h f.hosts w (with_first now generation host) (HasWon generation host)
      (winner-push now.winners generation host none))

  pub outside-step : (act : Act) (o : Outside) → OutsideStep M f.outside act o → Came act.takes f.sent →
      After o act.sends
  outside-step act o (outside.Types port byte low) came = types port byte low
  outside-step act o (outside.SendsKey port index byte is) came =
      says (Key port index byte)
      (ap (λ l. slice_get l index) (sym (h.terminals.each port).typed) ∙ is)
  outside-step act o (outside.Arrives port number byte) came = arrives port number byte came.0
  outside-step act o (outside.SendsCount port count few) came =
      says (AreAccepted port count)
      (subst (λ l. count ≤ length (accepted_after 0 l)) (h.terminals.each port).arrivals few)
  outside-step act o (outside.HearsKeys port keys) came = hears port keys (h.frames (TellsKeys port keys) came.0)
  outside-step act o (outside.Puts write) came = puts write came.0
  outside-step act o (outside.Reads address) came = reads address
  outside-step act o (outside.IsFirst host generation none) came = first host generation none
  outside-step act o (outside.IsAgain host generation won) came = says (HasWon generation host) won
  outside-step act o (outside.IsSecond host other generation won differs) came =
      says (HasLost generation host) (other, won, differs)
  outside-step act o (outside.Offers generation low) came = says (MayBegin generation) low
  outside-step act o (outside.Passes frame) came = says frame (h.frames frame came.0)
  outside-step act o (outside.Drops frame) came = none
