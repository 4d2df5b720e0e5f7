-- Each call of the devices is a step of the outside of the law, or counts a host; so a move of the switch is a run.
use Rattle.std.proofs.Common.{ℕ, ◌≡◌, ◌+◌, ◌≤◌, Bool, true, false, cond, Option, Some, None, List, [], ◌∷◌, ◌++◌, append-nil, refl, sym, ap, subst, arith}
use Rattle.std.specs.Prelude.{◌==◌, ◌&&◌, nat_lt}
use Rattle.std.proofs.lemmas.Bool.{and_parts}
use Rattle.guest_lockstep.specs.Machine.{Machine}
use Rattle.event_callbacks.specs.declared.devices.TheConstants.{PORTS}
use Rattle.event_callbacks.specs.declared.operations.Operation.TheVariants.{Byte}
use Rattle.host_law.specs.Frame.{Act, AreAccepted, Carries, Frame, Key, MayBegin, quiet, sending, taking}
use Rattle.host_law.specs.Outside.{Outside, OutsideStep, with_keys, with_typed}
use Rattle.outside_switch.proofs.Calls.{calls_make}
use Rattle.outside_switch.proofs.DeviceSteps.{goes_on}
use Rattle.outside_switch.proofs.Terminals.{there, typed_there}
use Rattle.outside_switch.specs.DeviceCalls.{admitted_after, arrived_after, is_accepted, terminal_at}
use Rattle.outside_switch.specs.Held.{Held}
use Rattle.outside_switch.specs.Ran.{OutsideRan}
use Rattle.outside_switch.specs.Shown.{AreTerminals, Shows}
use Rattle.outside_switch.specs.Steps.{Makes, arrived, asked}
use Rattle.outside_switch.specs.Terminal.{comes_next}
use Rattle.pair_protocol.specs.World.{Released, accepted_in}
use Rattle.outside_switch.specs.Calls as calls
use Rattle.outside_switch.specs.Calls.{Call, Called}
use Rattle.outside_switch.specs.Goes as goes
use Rattle.outside_switch.specs.Goes.{Moves, passed_by}
use Rattle.outside_switch.specs.Meets.{Meets, Seen}
use Rattle.outside_switch.specs.Says.{Brings, Saying}
use Rattle.outside_switch.proofs.Passing.{asked_past, byte_passed, key_passed, none_passed, passed_both, told_passed}
use Rattle.outside_switch.specs.Passing.{Passed, Shown, Typed, passed_by_call, passed_by_calls}
use Rattle.outside_switch.specs.Runs.{HasPassed, MoveBrings, MoveRan, SwitchBegins, read_by, written_by}

-- ---- how many hosts are there

-- a host that comes makes them no fewer
admitted-more : (hosts host : ℕ) → hosts ≤ admitted_after hosts host
admitted-more hosts host = go (host == hosts)
  where
    go : (b : Bool) → hosts ≤ cond b (hosts + 1) hosts
    go true = omega arith
    go false = omega arith

no_fewer : (a b : Held) → b.hosts ≡ a.hosts → a.hosts ≤ b.hosts
no_fewer a b same = omega (arith, same)

more_hosts : (held new : Held) (act : Act) → Call held new act → held.hosts ≤ new.hosts
more_hosts held new act (calls.TypesKey port byte index is e) = no_fewer held new (ap (λ (h : Held). h.hosts) e)
more_hosts held new act (calls.SendsKey port index byte is e) = no_fewer held new (ap (λ (h : Held). h.hosts) e)
more_hosts held new act (calls.HearsKeys port keys e) = no_fewer held new (ap (λ (h : Held). h.hosts) e)
more_hosts held new act (calls.TakesByte port number byte room e) = no_fewer held new (ap (λ (h : Held). h.hosts) e)
more_hosts held new act (calls.SendsCount port e) = no_fewer held new (ap (λ (h : Held). h.hosts) e)
more_hosts held new act (calls.Wins generation host won asks e) = no_fewer held new (ap (λ (h : Held). h.hosts) e)
more_hosts held new act (calls.Loses generation host asks e) = no_fewer held new (ap (λ (h : Held). h.hosts) e)
more_hosts held new act (calls.Forgets generation host fault asks e) = no_fewer held new (ap (λ (h : Held). h.hosts) e)
more_hosts held new act (calls.PutsWrite write puts e) = no_fewer held new (ap (λ (h : Held). h.hosts) e)
more_hosts held new act (calls.RefusesWrite write fault puts e) = no_fewer held new (ap (λ (h : Held). h.hosts) e)
more_hosts held new act (calls.ReadsSector address read reads e) = no_fewer held new (ap (λ (h : Held). h.hosts) e)
more_hosts held new act (calls.RefusesRead address fault reads e) = no_fewer held new (ap (λ (h : Held). h.hosts) e)
more_hosts held new act (calls.Offers generation low e) = no_fewer held new (ap (λ (h : Held). h.hosts) e)
more_hosts held new act (calls.Admits host e) =
    subst (λ (h : Held). held.hosts ≤ h.hosts) (sym e) (admitted-more held.hosts host)

called_more : (first last : Held) (read written : List Frame) → Called first read written last → first.hosts ≤ last.hosts
called_more first last read written calls.Rests = omega arith
called_more first last read written (calls.Goes {held = held} {read = r} {written = w} new act before call) =
    let some = called_more first held r w before in
    let more = more_hosts held new act call in
    omega (arith, some, more)

-- a move makes them no fewer
pub moved_more : (old new : Seen) → Moves old new → old.devices.hosts ≤ new.devices.hosts
moved_more old new (goes.Acts meets) = called_more old.devices new.devices meets.read meets.written meets.called
moved_more old new (goes.Hears taken place body said takes is meets) =
    let more = called_more taken.devices new.devices meets.read meets.written meets.called in
    let same = ap (λ (h : Held). h.hosts) takes.devices in
    omega (arith, more, same)
moved_more old new (goes.Drops place body takes) = no_fewer old.devices new.devices (ap (λ (h : Held). h.hosts) takes.devices)
moved_more old new (goes.Closes place cause closes) = no_fewer old.devices new.devices (ap (λ (h : Held). h.hosts) closes.devices)
moved_more old new (goes.Names begun place generation may begins names) =
    let more = called_more old.devices begun.devices begins.meets.read begins.meets.written begins.meets.called in
    let same = ap (λ (h : Held). h.hosts) names.devices in
    omega (arith, more, same)

-- ---- runs

module _ {S : Type 0} (M : Machine S) (drives : ℕ) where
  moved : (o : Outside) (act : Act) (held new : Held) (p : Outside) → new ≡ held → Makes M drives o act held p →
      Makes M drives o act new p
  moved o act held new p same makes = subst (λ h. Makes M drives o act h p) (sym same) makes

  -- a call that leaves the devices as they were
  stays : (held new : Held) (o : Outside) → new ≡ held → Shows M drives held o → Shows M drives new o
  stays held new o same shows = subst (λ h. Shows M drives h o) (sym same) shows

  -- the call goes on with a run that counts all hosts that are there after it, and by which this passes
  abbrev Runs : Held → Held → Act → List Passed → Type 0
  Runs held new act passed = (first : Outside) (read written : List Frame) → new.hosts ≤ first.hosts →
      (ran : OutsideRan M drives first read written held) →
      (more : OutsideRan M drives first (read ++ act.takes) (written ++ act.sends) new) × HasPassed passed ran.last more.last

  -- a call that is a step
  steps : (held new : Held) (act : Act) (passed : List Passed) →
      ((o : Outside) → Shows M drives held o → (p : Outside) × Makes M drives o act new p × HasPassed passed o p) →
      Runs held new act passed
  steps held new act passed makes first read written few ran =
      let m = makes ran.last ran.shows in
      let more = (goes_on M drives).goes first held new read written act ran
      (λ o shows. (let m = makes o shows in (m.0, m.1))) in
      (more.0, subst (λ o. HasPassed passed ran.last o) (sym more.1) m.2)

  -- a call at the arbiter or the disk, by which nothing passes
  steps_past : (held new : Held) (act : Act) →
      ((o : Outside) → Shows M drives held o → (p : Outside) × Makes M drives o act new p × (p.terminals ≡ o.terminals)) →
      Runs held new act []
  steps_past held new act makes =
      steps held new act [] (λ o shows. (let m = makes o shows in (m.0, m.1, none_passed o m.0 m.2)))

  -- a call that sends one frame, and leaves the devices as they were
  sends : (held new : Held) (frame : Frame) → new ≡ held → ((o : Outside) → Shows M drives held o → OutsideStep M o (sending frame) o) →
      Runs held new (sending frame) []
  sends held new frame e step =
      steps_past held new (sending frame)
      (λ o shows. (o, record { step = step o shows; shows = stays held new o e shows }, refl))

  admits : (held new : Held) (host : ℕ) → new ≡ record held { hosts = admitted_after held.hosts host } → Runs held new quiet []
  admits held new host e first read written few ran =
      subst (λ h. (more : OutsideRan M drives first (read ++ []) (written ++ []) h) × HasPassed [] ran.last more.last) (sym e)
      (subst (λ l. (more : OutsideRan M drives first l (written ++ []) (record held { hosts = admitted_after held.hosts host }))
      × HasPassed [] ran.last more.last) (sym (append-nil read))
      (subst (λ l. (more : OutsideRan M drives first read l (record held { hosts = admitted_after held.hosts host }))
      × HasPassed [] ran.last more.last) (sym (append-nil written))
      (let a = (goes_on M drives).admits first held host read written ran (subst (λ (h : Held). h.hosts ≤ first.hosts) e few) in
      (a.0, none_passed ran.last a.0.last (ap (λ (o : Outside). o.terminals) a.1)))))

  -- a byte arrives, and passes if it is accepted
  arrives : (held new : Held) (port number byte : ℕ) (room accepts : Bool) →
      is_accepted held.terminals port number room ≡ accepts →
      new ≡ record held { terminals = arrived_after held.terminals port number room } →
      Runs held new (taking (Carries (Released (Byte port number byte)))) (cond accepts (Shown port byte ∷ []) [])
  arrives held new port number byte room accepts is e = steps held new _ (cond accepts (Shown port byte ∷ []) [])
      (λ o shows. (let t = (calls_make M drives held o shows).terminals.takes port number byte room in
      let makes = subst (λ a. Makes M drives o (taking (Carries (Released (Byte port number byte))))
      (record held { terminals = arrived_after held.terminals port number room }) (arrived a o port number byte)) is t.makes in (
        arrived accepts o port number byte,
        moved o _ _ new _ e makes,
        passes o shows.terminals accepts is (subst (λ a. accepted_in (arrived a o port number byte).terminals port
            ≡ accepted_in o.terminals port ++ cond a (byte ∷ []) []) is t.accepted),
      )))
    where
      passes : (o : Outside) → AreTerminals held.terminals o.terminals → (a : Bool) → is_accepted held.terminals port number room ≡ a →
          accepted_in (arrived a o port number byte).terminals port ≡ accepted_in o.terminals port ++ cond a (byte ∷ []) [] →
          HasPassed (cond a (Shown port byte ∷ []) []) o (arrived a o port number byte)
      passes o terminals true accepts accepted =
          let p = and_parts (nat_lt port PORTS && room) (comes_next (terminal_at held.terminals port) number) accepts in
          let q = and_parts (nat_lt port PORTS) room p.0 in
          byte_passed o port number byte (there held.terminals o.terminals terminals port q.0) accepted
      passes o terminals false refuses accepted = none_passed o o refl

  call_runs : (held new : Held) (act : Act) (call : Call held new act) → Runs held new act (passed_by_call call)
  call_runs held new act (calls.TypesKey port byte index is e) =
      steps held new quiet (Typed port byte ∷ [])
      (λ o shows. (
        with_typed o port byte,
        moved o _ _ new _ e ((calls_make M drives held o shows).terminals.types port byte index is).makes,
        key_passed o port byte (there held.terminals o.terminals shows.terminals port
            (typed_there held.terminals o.terminals shows.terminals port index is).0),
      ))
  call_runs held new act (calls.SendsKey port index byte is e) =
      sends held new (Key port index byte) e
      (λ o shows. (calls_make M drives held o shows).terminals.sends_key port index byte is)
  call_runs held new act (calls.HearsKeys port keys e) =
      steps held new _ []
      (λ o shows. (
        with_keys o port keys,
        moved o _ _ new _ e ((calls_make M drives held o shows).terminals.hears port keys),
        told_passed o port keys,
      ))
  call_runs held new act (calls.TakesByte port number byte room e) =
      arrives held new port number byte room (is_accepted held.terminals port number room) refl e
  call_runs held new act (calls.SendsCount port e) =
      sends held new (AreAccepted port (terminal_at held.terminals port).accepted) e
      (λ o shows. (calls_make M drives held o shows).terminals.sends_count port)
  call_runs held new act (calls.Wins generation host won asks e) =
      steps_past held new _
      (λ o shows. (asked o generation host, moved o _ _ new _ e ((calls_make M drives held o shows).arbiter.wins generation host won new.askings asks).makes, asked_past o generation host))
  call_runs held new act (calls.Loses generation host asks e) =
      steps_past held new _
      (λ o shows. (o, moved o _ _ new _ e ((calls_make M drives held o shows).arbiter.loses generation host new.askings asks), refl))
  call_runs held new act (calls.Forgets generation host fault asks e) =
      steps_past held new _
      (λ o shows. (o, moved o _ _ new _ e ((calls_make M drives held o shows).arbiter.drops generation host fault new.askings asks), refl))
  call_runs held new act (calls.PutsWrite write puts e) =
      steps_past held new _
      (λ o shows. (record o { puts = o.puts ++ write ∷ [] }, moved o _ _ new _ e ((calls_make M drives held o shows).disk.puts write new.records new.may_fail puts), refl))
  call_runs held new act (calls.RefusesWrite write fault puts e) =
      steps_past held new _
      (λ o shows. (o, moved o _ _ new _ e ((calls_make M drives held o shows).disk.drops_write write fault new.records new.may_fail puts).makes, refl))
  call_runs held new act (calls.ReadsSector address read reads e) =
      steps_past held new _
      (λ o shows. (o, moved o _ _ new _ e ((calls_make M drives held o shows).disk.reads address read new.records new.may_fail reads), refl))
  call_runs held new act (calls.RefusesRead address fault reads e) =
      steps_past held new _
      (λ o shows. (o, moved o _ _ new _ e ((calls_make M drives held o shows).disk.drops_read address fault new.records new.may_fail reads).makes, refl))
  call_runs held new act (calls.Offers generation low e) =
      sends held new (MayBegin generation) e (λ o shows. (calls_make M drives held o shows).hosts.offers generation low)
  call_runs held new act (calls.Admits host e) = admits held new host e

  -- calls of an outside that the devices show
  abbrev Ran : Outside → List Frame → List Frame → List Passed → Held → Type 0
  Ran o read written passed new = (ran : OutsideRan M drives o read written new) × HasPassed passed o ran.last

  -- no call
  rests : (held : Held) (o : Outside) → Shows M drives held o → Ran o [] [] [] held
  rests held o shows =
      (let r = (goes_on M drives).rests held o shows in
      (r.0, none_passed o r.0.last (ap (λ (p : Outside). p.terminals) r.1)))

  called_run : (o : Outside) (first last : Held) (read written : List Frame) (called : Called first read written last) →
      last.hosts ≤ o.hosts → Shows M drives first o → Ran o read written (passed_by_calls called) last
  called_run o first last read written calls.Rests few shows = rests first o shows
  called_run o first last read written (calls.Goes {held = held} {read = r} {written = w} new act before call) few shows =
      let more = more_hosts held new act call in
      let p = called_run o first held r w before (omega (arith, more, few)) shows in
      let q = call_runs held new act call o r w few p.0 in
      (q.0, passed_both o p.0.last q.0.last (passed_by_calls before) (passed_by_call call) p.1 q.1)

  -- what one call of the switch did
  met_runs : (frames : List Frame) (heard : Option Saying) (a b : Seen) (m : Meets heard a b) (o : Outside) →
      Shows M drives a.devices o → b.devices.hosts ≤ o.hosts → Brings drives a.lines heard frames →
      MoveRan M drives frames o m.read m.written (passed_by_calls m.called) b.devices
  met_runs frames heard a b m o shows few brings =
      (let r = called_run o a.devices b.devices m.read m.written m.called few shows in
      record { ran = r.0; came = m.came drives frames brings; passes = r.1 })

  -- a move that called nothing
  still_runs : (frames : List Frame) (o : Outside) (a b : Held) → b ≡ a → Shows M drives a o →
      MoveRan M drives frames o [] [] [] b
  still_runs frames o a b same shows =
      (let r = rests b o (stays a b o same shows) in record { ran = r.0; came = tt; passes = r.1 })

  pub move_runs : (frames : List Frame) (old new : Seen) (move : Moves old new) (o : Outside) →
      Shows M drives old.devices o → new.devices.hosts ≤ o.hosts → MoveBrings drives frames move →
      MoveRan M drives frames o (read_by move) (written_by move) (passed_by move) new.devices
  move_runs frames old new (goes.Acts meets) o shows few brings = met_runs frames None old new meets o shows few tt
  move_runs frames old new (goes.Hears taken place body said takes is meets) o shows few brings =
      met_runs frames (Some (record { place = place; said = said })) taken new meets o
      (stays old.devices taken.devices o takes.devices shows) few brings
  move_runs frames old new (goes.Drops place body takes) o shows few brings =
      still_runs frames o old.devices new.devices takes.devices shows
  move_runs frames old new (goes.Closes place cause closes) o shows few brings =
      still_runs frames o old.devices new.devices closes.devices shows
  move_runs frames old new (goes.Names begun place generation may begins names) o shows few brings =
      let m = met_runs frames None old begun begins.meets o shows
      (subst (λ (h : Held). h.hosts ≤ o.hosts) names.devices few) tt in
      subst (λ h. MoveRan M drives frames o begins.meets.read begins.meets.written (passed_by_calls begins.meets.called) h)
      (sym names.devices) m

-- the hosts of generation 1 are counted
pub begins : (S : Type 0) → SwitchBegins S
begins S M drives records may_fail hosts disk few =
    let shows = (goes_on M drives).begins records may_fail hosts disk in
    record { terminals = shows.terminals; winners = shows.winners; disk = shows.disk; hosts = few }
