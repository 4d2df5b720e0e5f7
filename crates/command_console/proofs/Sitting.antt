-- What one has typed and seen, by what the loop and the threads beside it came to.
use Rattle.std.proofs.Common.{ℕ, ◌≡◌, List, [], ◌∷◌, ◌++◌, Option, Some, None, true, append-nil, append_assoc, refl, sym, ap, ◌∙◌, subst}
use Rattle.std.specs.Global.{Global}
use Rattle.std.specs.Io.KnownBytes.{Appends, Consumes}
use Rattle.std.specs.List.{list_any}
use Rattle.command_console.proofs.Ends.{came, comes_out, goes_into, none_shown}
use Rattle.command_console.specs.Rings.{ComesOutOf, GoesInto, IsKeyboardOf, IsScreenOf}
use Rattle.command_console.specs.Keys.{at_first, keys_typed}
use Rattle.outside_switch.proofs.TurnsPassing.{shows_both}
use Rattle.outside_switch.proofs.Typing.{types_both}
use Rattle.outside_switch.specs.Ports.{Types}
use Rattle.outside_switch.specs.LoopRuns.{Ended, Shows}
use Rattle.outside_switch.specs.declared.port.PortEnd.{PortEnd}
use Rattle.outside_switch.specs.declared.session.HostsEnd.{HostsEnd}
use Rattle.outside_switch.specs.declared.session.HostsEnd.TheVariants.{NoHosts, Settled, Silent, Stopped, UserQuit}
use Rattle.outside_switch.specs.declared.session.Session.{Session}
use Rattle.outside_switch.specs.declared.session.SessionParts.{SessionParts}
use Rattle.command_io.specs.Typed.{typed_in}
use Rattle.command_console.proofs.Typing.{keys_in_presses, same_ring}
use Rattle.command_console.specs.Hearing.{LinesType, presses}
use Rattle.command_console.specs.Leaving as leaving
use Rattle.command_console.specs.Leaving.{HasLeft, HaveBegun, Hears, MayHear, MayLeave, WasHeardIf}
use Rattle.command_console.specs.Sitting.{AreOpen, HasAppeared, HasSat, HasTyped, WantsEnd, WasHeard, WasTyped, passed_to}
use Rattle.command_console.specs.declared.console.Streams.{Streams}
use Rattle.command_console.specs.declared.hearing.Hearing.{Hearing}
use Rattle.command_console.specs.declared.session.Beside.{Beside}
use Rattle.command_console.specs.declared.session.Desktop.{Desktop}
use Rattle.command_console.specs.declared.session.Ends.{Ends}
use Rattle.command_console.specs.declared.session.Left.{Left}
use Rattle.command_console.specs.declared.supervisor.Supervisor.{Supervisor}
use Rattle.command_console.specs.declared.waking.WakingKeys.{WakingKeys}
use Rattle.std.specs.Prelude.{flat_map}
use Rattle.console_terminal.specs.Keys.{heard_bytes}
use Rattle.console_terminal.specs.declared.keys.Heard.{Heard}
use Rattle.console_terminal.specs.Listening.{Listens, is_quit, last_strokes}
use Rattle.console_terminal.specs.Screen.{AreSeen, Wrote, bytes_of, guest_in, texts_of}
use Rattle.console_terminal.specs.Typing.{OpenLine, Place, commands_at, line_of, place_of, strokes_at}
use Rattle.console_terminal.specs.declared.command.Command.{Command}
use Rattle.console_terminal.specs.declared.desk.Desk.{Desk}
use Rattle.console_terminal.specs.declared.display.Display.{Display}
use Rattle.console_terminal.specs.declared.keys.TerminalKeys.{TerminalKeys}
use Rattle.console_terminal.specs.declared.listener.Ending.{Ending}
use Rattle.console_terminal.specs.declared.port.Port.{Port}
use Rattle.outside_switch.proofs.Passing.{typed_both}
use Rattle.outside_switch.specs.Passing as passing
use Rattle.outside_switch.specs.Passing.{Passed, typed_at}
use Rattle.console_terminal.specs.Lines.{HasGone, HasShown, IsSameEnd, IsSameStart, came_by, found, gone_by, heard, keys_in, shown_at}
use Rattle.console_terminal.specs.declared.keyboard.Keyboard.{Keyboard}
use Rattle.console_terminal.specs.declared.keyboard.Stroke.{Stroke}
use Rattle.console_terminal.specs.declared.screen.Screen.{Screen}
use Rattle.console_terminal.specs.declared.screen.Shown.{Shown}
use Rattle.pair_protocol.specs.Faithful.{IsPrefix}
use Rattle.rtrb.specs.Ring.{SameConsumer, received, sent}
use Rattle.rtrb.specs.declared.AnyItems.{AnyItems}
use Rattle.rtrb.specs.declared.consumer.Consumer.{Consumer}
use Rattle.rtrb.specs.declared.producer.Producer.{Producer}
use Rattle.shared_disk.specs.declared.store.Record.{Record}

-- ---- lists

prefix_on : (xs ys zs : List ℕ) → IsPrefix xs ys → IsPrefix ys zs → IsPrefix xs zs
prefix_on xs ys zs p q = (p.0 ++ q.0, sym (append_assoc xs p.0 q.0) ∙ ap (λ l. l ++ q.0) p.1 ∙ q.1)

-- ---- rings

same_end_ring : {T A P : Type 0} (a : Consumer T A P) → SameConsumer a a
same_end_ring a = ((refl, refl, refl, refl), refl)

gone_in : (ring : Option (Producer Shown Global AnyItems)) (port : ℕ) (bytes : List ℕ) (from : Consumer Shown Global AnyItems) →
    GoesInto ring from → HasGone ring port bytes → shown_at port (gone_by ring) ≡ bytes
gone_in None port bytes from into gone = absurd into
gone_in (Some to) port bytes from into gone = gone

-- ---- keys

first_place : (d : Desk) → d.port ≡ Port.Zero → line_of d ≡ None → d.past.items ≡ [] → place_of d ≡ at_first
first_place d port none before =
    ap (λ (p : Port). let at : Place = record { port = p; line = line_of d; past = d.past.items } in at) port
    ∙ ap (λ (l : Option OpenLine). let at : Place = record { port = Port.Zero; line = l; past = d.past.items } in at) none
    ∙ ap (λ l. let at : Place = record { port = Port.Zero; line = None; past = l } in at) before

-- what was typed at a terminal is the first of what came from its keyboard
typed_first : (typed : List ℕ) (a b : PortEnd) → a.waiting ≡ None → (t : Types typed a b) → IsPrefix typed t.came
typed_first typed a b none t = (found b.waiting, sym (sym (ap (λ (w : Option ℕ). found w ++ t.came) none) ∙ t.typed_are))

-- and that the first of what the script types, and then of the keys among the bytes
typed_keys : (port : Port) (escape : ℕ) (place : Place) (heard : List Heard) (scripted typed : List ℕ) (ending : Ending)
    (to mid to' : Producer Stroke Global AnyItems) (a b : PortEnd) → IsKeyboardOf to a.keyboard → a.waiting ≡ None →
    place ≡ at_first → Types typed a b → sent mid ≡ sent to ++ presses scripted →
    sent to' ≡ (sent mid ++ strokes_at port escape place heard) ++ last_strokes ending →
    IsPrefix (came_by b.keyboard.ring) (sent to') → IsPrefix typed (scripted ++ keys_typed port escape heard)
typed_keys port escape place heard scripted typed ending to mid to' a b is none at t script went first =
    let strokes : List Stroke = presses scripted ++ strokes_at port escape place heard in
    let all : sent to' ≡ (sent to ++ strokes) ++ last_strokes ending =
    went ∙ ap (λ l. (l ++ strokes_at port escape place heard) ++ last_strokes ending) script
    ∙ ap (λ l. l ++ last_strokes ending) (append_assoc (sent to) (presses scripted) (strokes_at port escape place heard)) in
    let keys : IsPrefix t.came (keys_in strokes) =
    came to to' a.keyboard b.keyboard t.came strokes ending is t.heard_are all first in
    subst (λ l. IsPrefix typed l)
    (keys_in_presses scripted (strokes_at port escape place heard)
    ∙ ap (λ p. scripted ++ keys_in (strokes_at port escape p heard)) at)
    (prefix_on typed t.came (keys_in strokes) (typed_first typed a b none t) keys)

-- ---- a session from its first state to its end

module _ {D S : Type 0} (end : HostsEnd) (first last : Session D S) (ended : Ended end first last) where
  abbrev passed : List Passed
  passed = passed_to ended

  pub types0 : Types (typed_at 0 passed) first.first last.first
  types0 = subst (λ l. Types l first.first last.first) (sym (typed_both 0 ended.went.passed ended.stopped.passed))
      (types_both first.first ended.last.first last.first (typed_at 0 ended.went.passed) (typed_at 0 ended.stopped.passed)
      ended.went.first ended.stopped.first)

  pub types1 : Types (typed_at 1 passed) first.second last.second
  types1 = subst (λ l. Types l first.second last.second) (sym (typed_both 1 ended.went.passed ended.stopped.passed))
      (types_both first.second ended.last.second last.second (typed_at 1 ended.went.passed) (typed_at 1 ended.stopped.passed)
      ended.went.second ended.stopped.second)

  pub shows_all : Shows passed first.screen last.screen
  shows_all = shows_both ended.went.passed ended.stopped.passed first.screen ended.last.screen last.screen ended.went.screen
      ended.stopped.screen

  module _ (ends : Ends) (begins : AreOpen first ends) where
    pub may_hear : {K I : Type 0} (h : Hearing K I) → h.listener.first ≡ ends.first → h.listener.second ≡ ends.second →
        MayHear h (last.first.keyboard, last.second.keyboard)
    may_hear h is0 is1 = record {
      first = subst (λ to. ComesOutOf to last.first.keyboard.ring) (sym is0)
          (comes_out ends.first ends.first first.first.keyboard last.first.keyboard begins.keyboard0 (same_ring ends.first) types0.same);
      second = subst (λ to. ComesOutOf to last.second.keyboard.ring) (sym is1)
          (comes_out ends.second ends.second first.second.keyboard last.second.keyboard begins.keyboard1 (same_ring ends.second)
          types1.same);
    }

    pub may_show : {W N : Type 0} (d : Display W N) → d.shown ≡ ends.shown → GoesInto last.screen.ring d.shown
    may_show d is = subst (λ from. GoesInto last.screen.ring from) (sym is)
        (goes_into ends.shown ends.shown first.screen last.screen begins.screen shows_all.same (same_end_ring ends.shown))

    -- what was typed
    module _ {R : Type 0} (remaining : R → Option (List ℕ)) (given : Supervisor → Option (List Command)) (desktop : Desktop)
        (reader : R) (h : Hearing (WakingKeys (TerminalKeys R)) Supervisor) (hears : Hears ends desktop reader h)
        (keyboards : Keyboard × Keyboard) (same : keyboards ≡ (last.first.keyboard, last.second.keyboard)) where
      abbrev left : WakingKeys (TerminalKeys R) → Option (List ℕ)
      left keys = remaining keys.source.reader

      typed : (ending : Ending) (w : leaving.WasHeard left given ending h keyboards) →
          HasTyped desktop.escape desktop.lines.items passed w.heard.listens.heard
      typed ending w =
          let l = w.heard.listens in
          let at = first_place h.listener.desk hears.port hears.closed hears.none_before in
          let scripted = subst (λ x. LinesType x.items h.listener.first h.listener.second w.heard.first w.heard.second) hears.lines w.heard.typed in
          record {
            first = subst (λ e. IsPrefix (typed_at 0 passed) (typed_in 0 desktop.lines.items ++ keys_typed Port.Zero e l.heard)) hears.escape
                (typed_keys Port.Zero h.listener.desk.escape (place_of h.listener.desk) l.heard (typed_in 0 desktop.lines.items)
                (typed_at 0 passed) ending ends.first w.heard.first w.new.listener.first first.first last.first begins.keyboard0
                begins.none_waits.0 at types0
                (scripted.first_is ∙ ap (λ r. sent r ++ presses (typed_in 0 desktop.lines.items)) hears.first) l.first
                (subst (λ k. IsPrefix (came_by k.0.ring) (sent w.new.listener.first)) same w.came0));
            second = subst (λ e. IsPrefix (typed_at 1 passed) (typed_in 1 desktop.lines.items ++ keys_typed Port.One e l.heard)) hears.escape
                (typed_keys Port.One h.listener.desk.escape (place_of h.listener.desk) l.heard (typed_in 1 desktop.lines.items)
                (typed_at 1 passed) ending ends.second w.heard.second w.new.listener.second first.second last.second begins.keyboard1
                begins.none_waits.1 at types1
                (scripted.second_is ∙ ap (λ r. sent r ++ presses (typed_in 1 desktop.lines.items)) hears.second) l.second
                (subst (λ k. IsPrefix (came_by k.1.ring) (sent w.new.listener.second)) same w.came1));
          }

      was_typed : (ending : Ending) (w : leaving.WasHeard left given ending h keyboards) →
          WantsEnd end desktop.escape w.heard.listens.heard →
          WasTyped remaining end desktop.escape desktop.lines.items passed reader
      was_typed ending w wants = record {
        left = w.new.listener.source.source.reader;
        heard = w.heard.listens.heard;
        read = subst (λ r. Consumes (remaining r) (remaining w.new.listener.source.source.reader) (flat_map heard_bytes w.heard.listens.heard))
            hears.reader_is w.heard.listens.taken;
        typed = typed ending w;
        wanted = wants;
      }

      -- a command to quit was among the bytes
      quits : (w : leaving.WasHeard left given Ending.Quit h keyboards) →
          list_any is_quit (commands_at desktop.escape at_first w.heard.listens.heard) ≡ true
      quits w =
          subst (λ e. list_any is_quit (commands_at e at_first w.heard.listens.heard) ≡ true) hears.escape
          (subst (λ p. list_any is_quit (commands_at h.listener.desk.escape p w.heard.listens.heard) ≡ true)
          (first_place h.listener.desk hears.port hears.closed hears.none_before) (sym w.heard.listens.quit))

  -- what has appeared
  pub appeared : {W N : Type 0} (contents : W → Option (List ℕ)) (notes : N → Option (List ℕ)) (ends : Ends) (d d' : Display W N) →
      AreOpen first ends → d.shown ≡ ends.shown → d.look ≡ Some Port.Zero → d.kept.items ≡ [] →
      (wrote : Wrote contents notes d d') → received d'.shown ≡ gone_by last.screen.ring → HasAppeared passed wrote.pieces
  appeared contents notes ends d d' begins is looks empty wrote all = record {
    kept = d'.kept.items;
    shown = λ port. wrote.guest port ∙ ap (λ l. shown_at port l ++ shown_at port wrote.accepted) empty
        ∙ ap (shown_at port) (got ∙ all) ∙ gone port;
    seen = subst (λ look. AreSeen look wrote.pieces) looks wrote.seen;
  }
    where
      got : wrote.accepted ≡ received d'.shown
      got = sym (wrote.came ∙ ap (λ l. l ++ wrote.accepted)
          (subst (λ c. received c ≡ []) (sym is) begins.screen.none_came))

      into : GoesInto last.screen.ring ends.shown
      into = goes_into ends.shown ends.shown first.screen last.screen begins.screen shows_all.same (same_end_ring ends.shown)

      gone : (port : ℕ) → shown_at port (gone_by last.screen.ring) ≡ passing.shown_at port passed
      gone port = gone_in last.screen.ring port (passing.shown_at port passed) ends.shown into
          (shows_all.shown port [] (none_shown ends.shown first.screen port begins.screen))

-- ---- all of it

abbrev left_of : {R : Type 0} → (R → Option (List ℕ)) → WakingKeys (TerminalKeys R) → Option (List ℕ)
left_of remaining keys = remaining keys.source.reader

module _ {D S R W N : Type 0} (remaining : R → Option (List ℕ)) (given : Supervisor → Option (List Command))
    (contents : W → Option (List ℕ)) (notes : N → Option (List ℕ)) (ends : Ends) (desktop : Desktop) (streams : Streams R W N) where
  was_heard : (end : HostsEnd) (first last : Session D S) (ended : Ended end first last) → AreOpen first ends →
      (h : Hearing (WakingKeys (TerminalKeys R)) Supervisor) → Hears ends desktop streams.reader h → (keyboards : Keyboard × Keyboard) →
      keyboards ≡ (last.first.keyboard, last.second.keyboard) → WasHeardIf end (left_of remaining) given h keyboards →
      WasHeard remaining end desktop.escape desktop.lines.items (passed_to ended) streams.reader
  was_heard NoHosts first last ended begins h hears keyboards same w = tt
  was_heard Stopped first last ended begins h hears keyboards same w = absurd w
  was_heard UserQuit first last ended begins h hears keyboards same w =
      was_typed UserQuit first last ended ends begins remaining given desktop streams.reader h hears keyboards same Ending.Quit w
      (quits UserQuit first last ended ends begins remaining given desktop streams.reader h hears keyboards same w)
  was_heard Settled first last ended begins h hears keyboards same w =
      was_typed Settled first last ended ends begins remaining given desktop streams.reader h hears keyboards same w.0 w.1 tt
  was_heard Silent first last ended begins h hears keyboards same w =
      was_typed Silent first last ended ends begins remaining given desktop streams.reader h hears keyboards same w.0 w.1 tt

  pub has_sat : (end : HostsEnd) (first last : Session D S) (ended : Ended end first last) → AreOpen first ends →
      (b : Beside (WakingKeys (TerminalKeys R)) Supervisor W N) → HaveBegun ends desktop streams b →
      (screen : Screen) → screen ≡ last.screen → (keyboards : Keyboard × Keyboard) →
      keyboards ≡ (last.first.keyboard, last.second.keyboard) → (records : List Record) → records ≡ last.switch.devices.records →
      WasHeardIf end (left_of remaining) given b.hearing.promise.0.value keyboards → (d : Display W N) →
      Wrote contents notes b.showing.promise.0.value d → received d.shown ≡ gone_by screen.ring → (writer : W) → writer ≡ d.screen →
      (beside : N) → beside ≡ d.notes →
      HasSat remaining contents notes desktop.escape desktop.lines.items first streams records end writer beside
  has_sat end first last ended begins b begun screen is keyboards same records records_are heard d wrote all writer writer_is beside
      beside_is = record {
        last = last;
        ended = ended;
        heard = was_heard end first last ended begins b.hearing.promise.0.value begun.hears keyboards same heard;
        pieces = wrote.pieces;
        appeared = appeared end first last ended contents notes ends b.showing.promise.0.value d begins begun.shows.shown
            begun.shows.look begun.shows.kept wrote (all ∙ ap (λ (s : Screen). gone_by s.ring) is);
        records_are = records_are;
        written = subst (λ x. Appends (contents x) (contents writer) (bytes_of wrote.pieces)) begun.shows.writer_is
            (subst (λ x. Appends (contents b.showing.promise.0.value.screen) (contents x) (bytes_of wrote.pieces)) (sym writer_is)
            wrote.bytes);
        noted = subst (λ x. Appends (notes x) (notes beside) (texts_of wrote.pieces)) begun.shows.notes_are
            (subst (λ x. Appends (notes b.showing.promise.0.value.notes) (notes x) (texts_of wrote.pieces)) (sym beside_is)
            wrote.texts);
      }

-- ---- before the end

pair_is : {A B : Type 0} (k : A × B) (a : A) (b : B) → k.0 ≡ a → k.1 ≡ b → k ≡ (a, b)
pair_is (x, y) a b p q = ap (λ z. (z, y)) p ∙ ap (λ z. (a, z)) q

pub both_keyboards : (k : Keyboard × Keyboard) (a b : Keyboard) → k.0 ≡ a → k.1 ≡ b → k ≡ (a, b)
both_keyboards k a b p q = pair_is k a b p q

pub may_leave : {D E S T R W N : Type 0} (end : HostsEnd) (first last : Session D S) (ended : Ended end first last) (ends : Ends)
    (desktop : Desktop) (streams : Streams R W N) → AreOpen first ends →
    (b : Beside (WakingKeys (TerminalKeys R)) Supervisor W N) → HaveBegun ends desktop streams b → (parts : SessionParts E T) →
    parts.screen ≡ last.screen → parts.keyboards ≡ (last.first.keyboard, last.second.keyboard) → MayLeave parts b
may_leave end first last ended ends desktop streams begins b begun parts screen keyboards = record {
  hears = subst (λ k. MayHear b.hearing.promise.0.value k) (sym keyboards)
      (may_hear end first last ended ends begins b.hearing.promise.0.value begun.hears.first begun.hears.second);
  shows = subst (λ (s : Screen). GoesInto s.ring b.showing.promise.0.value.shown) (sym screen)
      (may_show end first last ended ends begins b.showing.promise.0.value begun.shows.shown);
}
