-- The outside goes on: its switch, and what passes meanwhile at both ports and on the screen.
use Rattle.std.proofs.Common.{ℕ, ◌≡◌, Bool, true, false, List, [], ◌∷◌, ◌++◌, cond, refl, sym, ap, ◌∙◌, subst}
use Rattle.std.specs.Prelude.{◌==◌}
use Rattle.outside_switch.proofs.Going.{still, then_with}
use Rattle.outside_switch.proofs.Passing.{typed_both}
use Rattle.outside_switch.specs.Goes.{GoesWith, HearsNext}
use Rattle.outside_switch.specs.Meets.{Seen, seen}
use Rattle.outside_switch.specs.Heeds.{HasRoomFor}
use Rattle.outside_switch.specs.Passing.{Passed, Shown, passed_of, typed_at}
use Rattle.outside_switch.specs.declared.heard.BodyOutcome.{BodyOutcome}
use Rattle.outside_switch.specs.declared.heard.BodyOutcome.TheVariants as heard
use Rattle.console_terminal.specs.Lines.{HasRoom, HasShown, IsSameStart, with_byte}
use Rattle.console_terminal.specs.declared.screen.Screen.{Screen}
use Rattle.outside_switch.proofs.Counting.{counted_on, counted_paid, counted_rested, counted_taken, none_flooded, none_yet}
use Rattle.outside_switch.proofs.Cutting.{cut_on, cut_paid, cut_rested, cut_taken}
use Rattle.outside_switch.proofs.TurnsPassing.{looked, shows_both, shows_byte, shows_none, shows_typings, typed_here, typed_there}
use Rattle.outside_switch.proofs.Typing.{types_both, types_rest}
use Rattle.outside_switch.specs.Floods as floods
use Rattle.outside_switch.specs.Floods.{accepted_one, cleared, has_flooded, rested, sent_one}
use Rattle.outside_switch.specs.Judging.{AreCounted, FloodersAreCut, HasOneMore, HearsOne, TakesOne}
use Rattle.outside_switch.specs.Ports.{Rests, Types, TypesKeys, typings}
use Rattle.outside_switch.specs.LoopRuns.{IsTold, MayShow, Shows, Went}
use Rattle.outside_switch.specs.declared.flood.Flood.{Flood}
use Rattle.outside_switch.specs.declared.port.PortEnd.{PortEnd}
use Rattle.outside_switch.specs.declared.session.Session.{Session}

unchanged : (a b : PortEnd) → b ≡ a → Rests a b
unchanged a b same = record {
  keyboard = ap (λ (e : PortEnd). e.keyboard) same;
  waiting = ap (λ (e : PortEnd). e.waiting) same;
}

as_before : (a b : Screen) → b ≡ a → Shows [] a b
as_before a b same = subst (λ s. Shows [] a s) (sym same) (shows_none a)

-- keys were typed at this port, or at another one
typed_port : (port : ℕ) (a b : PortEnd) (s t : Seen) (k : TypesKeys port a b s t) → Types (typed_at port (typings port k.keys)) a b
typed_port port a b s t k = subst (λ l. Types l a b) (sym (typed_here port k.keys)) k.types

typed_elsewhere : (port other : ℕ) (keys : List ℕ) → (port == other) ≡ false → (a b : PortEnd) → b ≡ a →
    Types (typed_at other (typings port keys)) a b
typed_elsewhere port other keys differs a b same =
    subst (λ l. Types l a b) (sym (typed_there port other keys differs)) (types_rest a b (unchanged a b same))

module _ {D S : Type 0} where
  pub and_then : (a b c : Session D S) → Went a b → Went b c → Went a c
  and_then a b c p q = record {
    passed = p.passed ++ q.passed;
    goes = then_with (seen a.switch) (seen b.switch) (seen c.switch) p.passed q.passed p.goes q.goes;
    first = subst (λ l. Types l a.first c.first) (sym (typed_both 0 p.passed q.passed))
        (types_both a.first b.first c.first (typed_at 0 p.passed) (typed_at 0 q.passed) p.first q.first);
    second = subst (λ l. Types l a.second c.second) (sym (typed_both 1 p.passed q.passed))
        (types_both a.second b.second c.second (typed_at 1 p.passed) (typed_at 1 q.passed) p.second q.second);
    screen = shows_both p.passed q.passed a.screen b.screen c.screen p.screen q.screen;
    cut = λ all. q.cut (p.cut all);
    counted = λ all. q.counted (p.counted all);
  }

  -- nothing was typed and shown, and whoever has sent too much is cut off; of none is counted what has not come
  silently : (a b : Session D S) → GoesWith [] (seen a.switch) (seen b.switch) → Rests a.first b.first →
      Rests a.second b.second → b.screen ≡ a.screen → (FloodersAreCut a → FloodersAreCut b) → (AreCounted a → AreCounted b) → Went a b
  silently a b goes first second screen cut counted = record {
    passed = [];
    goes = goes;
    first = types_rest a.first b.first first;
    second = types_rest a.second b.second second;
    screen = as_before a.screen b.screen screen;
    cut = cut;
    counted = counted;
  }

  -- nothing was counted either
  quietly : (a b : Session D S) → GoesWith [] (seen a.switch) (seen b.switch) → Rests a.first b.first →
      Rests a.second b.second → b.screen ≡ a.screen → b.flood.sent ≡ a.flood.sent → Went a b
  quietly a b goes first second screen counts =
      silently a b goes first second screen (cut_on a b [] goes counts) (counted_on a b [] goes counts)

  -- the switch did something of its own, or two things
  pub switched : (a b : Session D S) → GoesWith [] (seen a.switch) (seen b.switch) → b.first ≡ a.first → b.second ≡ a.second →
      b.screen ≡ a.screen → b.flood.sent ≡ a.flood.sent → Went a b
  switched a b goes first second screen counts =
      quietly a b goes (unchanged a.first b.first first) (unchanged a.second b.second second) screen counts

  pub switched_twice : (a b : Session D S) (s : Seen) → GoesWith [] (seen a.switch) s → GoesWith [] s (seen b.switch) →
      b.first ≡ a.first → b.second ≡ a.second → b.screen ≡ a.screen → b.flood.sent ≡ a.flood.sent → Went a b
  switched_twice a b s p q first second screen counts =
      switched a b (then_with (seen a.switch) s (seen b.switch) [] [] p q) first second screen counts

  -- keys were sent from both ports
  pub sends : (a b : Session D S) (s : Seen) → GoesWith [] (seen a.switch) s → GoesWith [] s (seen b.switch) →
      Rests a.first b.first → Rests a.second b.second → b.screen ≡ a.screen → b.flood.sent ≡ a.flood.sent → Went a b
  sends a b s p q first second screen counts =
      quietly a b (then_with (seen a.switch) s (seen b.switch) [] [] p q) first second screen counts

  -- only what is remembered has changed, or what becomes of packets
  pub seen_same : (a b : Session D S) → seen b.switch ≡ seen a.switch → b.first ≡ a.first → b.second ≡ a.second →
      b.screen ≡ a.screen → b.flood.sent ≡ a.flood.sent → Went a b
  seen_same a b is first second screen counts =
      switched a b (subst (λ s. GoesWith [] (seen a.switch) s) (sym is) (still (seen a.switch))) first second screen counts

  pub same : (a b : Session D S) → b.switch ≡ a.switch → b.first ≡ a.first → b.second ≡ a.second → b.screen ≡ a.screen →
      b.flood.sent ≡ a.flood.sent → Went a b
  same a b is first second screen counts = seen_same a b (ap seen is) first second screen counts

  stood : (a b : Session D S) → b.switch ≡ a.switch → GoesWith [] (seen a.switch) (seen b.switch)
  stood a b is = subst (λ s. GoesWith [] (seen a.switch) (seen s)) (sym is) (still (seen a.switch))

  -- another host is live
  pub rests : (a b : Session D S) → b.switch ≡ a.switch → Rests a.first b.first → Rests a.second b.second →
      b.screen ≡ a.screen → b.flood.sent ≡ a.flood.sent → Went a b
  rests a b is first second screen counts = quietly a b (stood a b is) first second screen counts

  pub stays : (a : Session D S) → Went a a
  stays a = switched a a (still (seen a.switch)) refl refl refl refl

  -- ---- what is counted

  -- no body of a host waits
  pub rested_one : (a b : Session D S) (place : ℕ) → b.flood ≡ rested place a.flood → b.switch ≡ a.switch →
      b.first ≡ a.first → b.second ≡ a.second → b.screen ≡ a.screen → Went a b
  rested_one a b place flood is first second screen =
      silently a b (stood a b is) (unchanged a.first b.first first) (unchanged a.second b.second second) screen
      (cut_rested a.flood.has_ticked a b place (stood a b is) flood)
      (counted_rested a.flood.has_ticked a b place (stood a b is) flood)

  -- what one brought was accepted
  pub paid_one : (a b : Session D S) (place : ℕ) → b.flood ≡ accepted_one place a.flood → b.switch ≡ a.switch →
      b.first ≡ a.first → b.second ≡ a.second → b.screen ≡ a.screen → Went a b
  paid_one a b place flood is first second screen =
      silently a b (stood a b is) (unchanged a.first b.first first) (unchanged a.second b.second second) screen
      (cut_paid a b place (stood a b is) flood) (counted_paid a b place (stood a b is) flood)

  -- one was refused
  pub refused_one : (a b : Session D S) (place : ℕ) → b.flood ≡ floods.refused_one place a.flood → b.switch ≡ a.switch →
      b.first ≡ a.first → b.second ≡ a.second → b.screen ≡ a.screen → Went a b
  refused_one a b place flood is first second screen =
      same a b is first second screen (ap (λ (f : Flood). f.sent) flood)

  -- one was taken, and its host may be cut off
  pub takes : (a b : Session D S) (place : ℕ) → TakesOne (has_flooded (sent_one place a.flood) place) place a b →
      GoesWith [] (seen a.switch) (seen b.switch) → HasOneMore place a → b.first ≡ a.first → b.second ≡ a.second →
      b.screen ≡ a.screen → Went a b
  takes a b place taken goes room first second screen =
      silently a b goes (unchanged a.first b.first first) (unchanged a.second b.second second) screen
      (cut_taken a b place goes taken) (counted_taken a b place goes taken room)

  -- counts begin anew
  pub clears : (a b : Session D S) → b.flood ≡ cleared a.flood → b.switch ≡ a.switch → b.first ≡ a.first →
      b.second ≡ a.second → b.screen ≡ a.screen → Went a b
  clears a b flood is first second screen =
      silently a b (stood a b is) (unchanged a.first b.first first) (unchanged a.second b.second second) screen
      (λ all. none_flooded a b flood) (λ all. none_yet a b flood)

  -- keys were typed at the first port, or at the second one
  pub types_first : (a b : Session D S) → TypesKeys 0 a.first b.first (seen a.switch) (seen b.switch) → b.second ≡ a.second →
      b.screen ≡ a.screen → b.flood.sent ≡ a.flood.sent → Went a b
  types_first a b t second screen counts = record {
    passed = typings 0 t.keys;
    goes = t.goes;
    first = typed_port 0 a.first b.first (seen a.switch) (seen b.switch) t;
    second = typed_elsewhere 0 1 t.keys refl a.second b.second second;
    screen = subst (λ s. Shows (typings 0 t.keys) a.screen s) (sym screen) (shows_typings 0 t.keys a.screen);
    cut = cut_on a b (typings 0 t.keys) t.goes counts;
    counted = counted_on a b (typings 0 t.keys) t.goes counts;
  }

  pub types_second : (a b : Session D S) → TypesKeys 1 a.second b.second (seen a.switch) (seen b.switch) → b.first ≡ a.first →
      b.screen ≡ a.screen → b.flood.sent ≡ a.flood.sent → Went a b
  types_second a b t first screen counts = record {
    passed = typings 1 t.keys;
    goes = t.goes;
    first = typed_elsewhere 1 0 t.keys refl a.first b.first first;
    second = typed_port 1 a.second b.second (seen a.switch) (seen b.switch) t;
    screen = subst (λ s. Shows (typings 1 t.keys) a.screen s) (sym screen) (shows_typings 1 t.keys a.screen);
    cut = cut_on a b (typings 1 t.keys) t.goes counts;
    counted = counted_on a b (typings 1 t.keys) t.goes counts;
  }

  -- the screen was looked at, a host was heard, and what is to be shown of it was
  pub hears : (a r b c : Session D S) (passed : List Passed) → (typed_at 0 passed ≡ []) → (typed_at 1 passed ≡ []) →
      IsTold [] a r → GoesWith passed (seen r.switch) (seen b.switch) → b.first ≡ r.first → b.second ≡ r.second →
      b.screen ≡ r.screen → b.flood ≡ r.flood → IsTold passed b c → Went a c
  hears a r b c passed none0 none1 looks goes first second screen flood told = record {
    passed = passed;
    goes = gone;
    first = subst (λ l. Types l a.first c.first) (sym none0)
        (types_rest a.first c.first (unchanged a.first c.first (told.first ∙ first ∙ looks.first)));
    second = subst (λ l. Types l a.second c.second) (sym none1)
        (types_rest a.second c.second (unchanged a.second c.second (told.second ∙ second ∙ looks.second)));
    screen = shows_both [] passed a.screen b.screen c.screen
        (subst (λ s. Shows [] a.screen s) (sym screen) looks.screen) told.screen;
    cut = cut_on a c passed gone (ap (λ (f : Flood). f.sent) (told.flood ∙ flood ∙ looks.flood));
    counted = counted_on a c passed gone (ap (λ (f : Flood). f.sent) (told.flood ∙ flood ∙ looks.flood));
  }
    where
      gone : GoesWith passed (seen a.switch) (seen c.switch)
      gone = subst (λ s. GoesWith passed (seen s) (seen c.switch)) looks.switch
          (subst (λ s. GoesWith passed (seen r.switch) (seen s)) (sym told.switch) goes)

  pub hears_one : (a r b c : Session D S) (place : ℕ) (rooms : List Bool) (heard : BodyOutcome) → IsTold [] a r →
      HearsNext place rooms (seen r.switch) (seen b.switch) heard → b.flood ≡ r.flood → IsTold (passed_of heard) b c →
      HearsOne place heard a c
  hears_one a r b c place rooms heard looks hears flood told = record {
    rooms = rooms;
    hears = subst (λ s. HearsNext place rooms (seen s) (seen c.switch) heard) looks.switch
        (subst (λ s. HearsNext place rooms (seen r.switch) (seen s) heard) (sym told.switch) hears);
    flood = told.flood ∙ flood ∙ looks.flood;
  }

  -- ---- what is shown

  pub shows : (port byte : ℕ) (a b : Session D S) → b.switch ≡ a.switch → b.first ≡ a.first → b.second ≡ a.second →
      b.flood ≡ a.flood → IsSameStart a.screen.ring b.screen.ring →
      ((at : ℕ) (bytes : List ℕ) → HasShown a.screen at bytes → HasShown b.screen at (with_byte at port byte bytes)) →
      IsTold (Shown port byte ∷ []) a b
  shows port byte a b switch first second flood same shown = record {
    switch = switch;
    first = first;
    second = second;
    screen = shows_byte port byte a.screen b.screen same shown;
    flood = flood;
  }

  pub looks : (a b : Session D S) → b.switch ≡ a.switch → b.first ≡ a.first → b.second ≡ a.second →
      b.flood ≡ a.flood → IsSameStart a.screen.ring b.screen.ring →
      ((at : ℕ) (bytes : List ℕ) → HasShown a.screen at bytes → HasShown b.screen at bytes) → IsTold [] a b
  looks a b switch first second flood same shown = record {
    switch = switch;
    first = first;
    second = second;
    screen = looked a.screen b.screen same shown;
    flood = flood;
  }

  -- nothing is to be shown
  pub tells_nothing : (a b : Session D S) → b.switch ≡ a.switch → b.first ≡ a.first → b.second ≡ a.second →
      b.screen ≡ a.screen → b.flood ≡ a.flood → IsTold [] a b
  tells_nothing a b switch first second screen flood = record {
    switch = switch;
    first = first;
    second = second;
    screen = as_before a.screen b.screen screen;
    flood = flood;
  }

-- what was heard of a host types nothing
pub types_nothing : (heard : BodyOutcome) (port : ℕ) → typed_at port (passed_of heard) ≡ []
types_nothing (heard.Shown port byte) at = refl
types_nothing heard.Nothing at = refl
types_nothing heard.Met at = refl
types_nothing (heard.Read address) at = refl
types_nothing heard.Written at = refl
types_nothing heard.Unwritten at = refl
types_nothing (heard.Became role) at = refl
types_nothing (heard.Won generation) at = refl
types_nothing (heard.Lost generation) at = refl
types_nothing heard.Failed at = refl
types_nothing heard.Ended at = refl

-- a screen that has room may show
pub may_show : (room : Bool) (screen : Screen) → (room ≡ true → HasRoom screen.ring) → (heard : BodyOutcome) →
    HasRoomFor (room ∷ room ∷ []) heard → MayShow screen heard
may_show room screen has_room (heard.Shown port byte) has = has_room (go (port == 0) has.1)
  where
    go : (b : Bool) → cond b room room ≡ true → room ≡ true
    go true e = e
    go false e = e
may_show room screen has_room _ has = tt
