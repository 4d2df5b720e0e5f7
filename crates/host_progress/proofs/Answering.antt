-- What is asked and answered, told, or released: a host's step, the outside's and a host's, and then others.
use Rattle.std.proofs.Common.{◌≡◌, ℕ, suc, inl, Some, List, [], ◌∷◌, ◌++◌, refl, sym, ap, ◌∙◌}
use Rattle.std.specs.Prelude.{slice_get, slice_set}
use Rattle.pair_protocol.proofs.OneNode.{set_get}
use Rattle.pair_protocol.proofs.Traces.Lists.{among-right}
use Rattle.host_law.specs.Frame.{answering, quiet, sending, taking}
use Rattle.host_law.specs.Outside as outside
use Rattle.host_law.proofs.Interleaving.{followed}
use Rattle.host_law.proofs.Words.{Act, Came, Copying, Fleet, FleetStep, Followed, Frame, HostActs, HostStep, IsCopying, Lawful, Machine, Node, OfHost, OfOutside, Outside, OutsideActs, OutsideStep, Shows, World}
use Rattle.host_progress.specs.Exchanges.{HostsReach, none_sent, with_sent}
use Rattle.host_progress.proofs.Exchanging.{by_host, by_outside, left, sent_last, whole}

-- the frame that was sent last
pub last-sent : (frame : Frame) (before : List Frame) → Came (frame ∷ []) (before ++ frame ∷ [])
last-sent frame before = (among-right frame before (frame ∷ []) (inl refl), tt)

-- whoever takes or sends is not quiet
takes_one : (act : Act) (frame : Frame) (frames : List Frame) → act.takes ≡ frame ∷ frames → act ≡ quiet → ⊥
takes_one act frame frames is h = let e : frame ∷ frames ≡ [] = sym is ∙ ap (λ (a : Act). a.takes) h in (cc)

sends_one : (act : Act) (frame : Frame) (frames : List Frame) → act.sends ≡ frame ∷ frames → act ≡ quiet → ⊥
sends_one act frame frames is h = let e : frame ∷ frames ≡ [] = sym is ∙ ap (λ (a : Act). a.sends) h in (cc)

module _ {S : Type 0} (M : Machine S) (C : Copying S) (laws : Lawful M) (copies : IsCopying M C) (Who : ℕ → Type 0)
    (End : World S → Type 0) where
  -- whatever fleet has these hosts and this outside, and shows a world, so many steps lead on from there
  abbrev pub Then : List (Node S) → Outside → ℕ → Type 0
  Then hosts o most =
      (g : Fleet S) (v : World S) → Shows M C g v → g.hosts ≡ hosts → g.outside ≡ o → HostsReach M C g Who most End

  module _ (f : Fleet S) (w : World S) (h : Shows M C f w) (n : ℕ) (x : Node S) (there : slice_get f.hosts n ≡ Some x)
      (who : Who n) (most : ℕ) where
    -- a host does something by itself
    pub by_itself : (y : Node S) → HostStep M C n x quiet y → Then (slice_set f.hosts n y) f.outside most →
        HostsReach M C f Who (suc most) End
    by_itself y step rest =
        let after : Fleet S = record { hosts = slice_set f.hosts n y; outside = f.outside; sent = f.sent ++ [] } in
        let does : FleetStep M C f (OfHost n quiet) after = HostActs n x y quiet there tt step in
        let k = followed M C laws copies f after w (OfHost n quiet) h does in
        whole M C Who End f (suc most)
        (by_host M C Who End f after none_sent none_sent most n quiet who does tt
        (left M C Who End after (with_sent n [] none_sent) none_sent most (rest after k.new k.shows refl refl)))

    module _ (ask : Frame) (asks : HostStep M C n x (sending ask) x) where
      abbrev asked : Fleet S
      asked = record { hosts = slice_set f.hosts n x; outside = f.outside; sent = f.sent ++ ask ∷ [] }

      does_ask : FleetStep M C f (OfHost n (sending ask)) asked
      does_ask = HostActs n x x (sending ask) there tt asks

      asked_shown : Followed M C w asked
      asked_shown = followed M C laws copies f asked w (OfHost n (sending ask)) h does_ask

      same_hosts : slice_set f.hosts n x ≡ f.hosts
      same_hosts = set_get f.hosts n x there

      -- a host asks, or says, the outside answers, or passes it on, and a host takes the answer
      module _ (answer : Frame) (o : Outside) (answers : OutsideStep M f.outside (answering ask answer) o) (m : ℕ)
          (y z : Node S) (there_y : slice_get f.hosts m ≡ Some y) (who_y : Who m)
          (hears : HostStep M C m y (taking answer) z) where
        abbrev answered : Fleet S
        answered = record { hosts = slice_set f.hosts n x; outside = o; sent = (f.sent ++ ask ∷ []) ++ answer ∷ [] }

        abbrev heard : Fleet S
        heard = record {
          hosts = slice_set (slice_set f.hosts n x) m z;
          outside = o;
          sent = ((f.sent ++ ask ∷ []) ++ answer ∷ []) ++ [];
        }

        does_answer : FleetStep M C asked (OfOutside (answering ask answer)) answered
        does_answer = OutsideActs o (answering ask answer) (last-sent ask f.sent) answers

        does_hear : FleetStep M C answered (OfHost m (taking answer)) heard
        does_hear = HostActs m y z (taking answer) (ap (λ l. slice_get l m) same_hosts ∙ there_y)
            (last-sent answer (f.sent ++ ask ∷ [])) hears

        pub in_three : Then (slice_set f.hosts m z) o most → HostsReach M C f Who (suc (suc (suc most))) End
        in_three rest =
            let a = asked_shown in
            let b = followed M C laws copies asked answered a.new (OfOutside (answering ask answer)) a.shows does_answer in
            let c = followed M C laws copies answered heard b.new (OfHost m (taking answer)) b.shows does_hear in
            whole M C Who End f (suc (suc (suc most)))
            (by_host M C Who End f asked none_sent none_sent (suc (suc most)) n (sending ask) who does_ask tt
            (by_outside M C Who End asked answered (with_sent n (ask ∷ []) none_sent) none_sent (suc most) n m (answering ask answer)
            (takes_one (answering ask answer) ask [] refl) does_answer (sent_last n ask none_sent)
            (by_host M C Who End answered heard (with_sent n (ask ∷ []) none_sent) (with_sent m (answer ∷ []) none_sent) most m
            (taking answer) who_y does_hear
            (sent_last m answer none_sent)
            (left M C Who End heard (with_sent m [] (with_sent n (ask ∷ []) none_sent)) (with_sent m (answer ∷ []) none_sent) most
            (rest heard c.new c.shows (ap (λ l. slice_set l m z) same_hosts) refl)))))

      -- a host says something, and the outside takes it
      module _ (o : Outside) (hears : OutsideStep M f.outside (taking ask) o) where
        abbrev given : Fleet S
        given = record { hosts = slice_set f.hosts n x; outside = o; sent = (f.sent ++ ask ∷ []) ++ [] }

        does_give : FleetStep M C asked (OfOutside (taking ask)) given
        does_give = OutsideActs o (taking ask) (last-sent ask f.sent) hears

        pub in_two : Then f.hosts o most → HostsReach M C f Who (suc (suc most)) End
        in_two rest =
            let a = asked_shown in
            let b = followed M C laws copies asked given a.new (OfOutside (taking ask)) a.shows does_give in
            whole M C Who End f (suc (suc most))
            (by_host M C Who End f asked none_sent none_sent (suc most) n (sending ask) who does_ask tt
            (by_outside M C Who End asked given (with_sent n (ask ∷ []) none_sent) none_sent most n n (taking ask)
            (takes_one (taking ask) ask [] refl) does_give (sent_last n ask none_sent)
            (left M C Who End given (with_sent n (ask ∷ []) none_sent) (with_sent n [] none_sent) most (rest given b.new b.shows same_hosts refl))))

    -- the outside tells a host something
    module _ (say : Frame) (says : OutsideStep M f.outside (sending say) f.outside) (y : Node S)
        (hears : HostStep M C n x (taking say) y) where
      abbrev said : Fleet S
      said = record { hosts = f.hosts; outside = f.outside; sent = f.sent ++ say ∷ [] }

      abbrev told : Fleet S
      told = record { hosts = slice_set f.hosts n y; outside = f.outside; sent = (f.sent ++ say ∷ []) ++ [] }

      does_say : FleetStep M C f (OfOutside (sending say)) said
      does_say = OutsideActs f.outside (sending say) tt says

      does_take : FleetStep M C said (OfHost n (taking say)) told
      does_take = HostActs n x y (taking say) there (last-sent say f.sent) hears

      pub is_told : Then (slice_set f.hosts n y) f.outside most → HostsReach M C f Who (suc (suc most)) End
      is_told rest =
          let a = followed M C laws copies f said w (OfOutside (sending say)) h does_say in
          let b = followed M C laws copies said told a.new (OfHost n (taking say)) a.shows does_take in
          whole M C Who End f (suc (suc most))
          (by_outside M C Who End f said none_sent none_sent (suc most) n n (sending say) (sends_one (sending say) say [] refl) does_say tt
          (by_host M C Who End said told none_sent (with_sent n (say ∷ []) none_sent) most n (taking say) who does_take
          (sent_last n say none_sent)
          (left M C Who End told (with_sent n [] none_sent) (with_sent n (say ∷ []) none_sent) most (rest told b.new b.shows refl refl))))

    -- the outside offers a host something, which it answers; that is passed on, and a host takes it
    module _ (offer : Frame) (offers : OutsideStep M f.outside (sending offer) f.outside) (answer : Frame) (y : Node S)
        (answers : HostStep M C n x (answering offer answer) y) (m : ℕ) (z u : Node S)
        (there_z : slice_get (slice_set f.hosts n y) m ≡ Some z) (who_z : Who m)
        (hears : HostStep M C m z (taking answer) u) where
      abbrev offered : Fleet S
      offered = record { hosts = f.hosts; outside = f.outside; sent = f.sent ++ offer ∷ [] }

      abbrev begun : Fleet S
      begun = record {
        hosts = slice_set f.hosts n y;
        outside = f.outside;
        sent = (f.sent ++ offer ∷ []) ++ answer ∷ [];
      }

      abbrev passed_on : Fleet S
      passed_on = record {
        hosts = slice_set f.hosts n y;
        outside = f.outside;
        sent = ((f.sent ++ offer ∷ []) ++ answer ∷ []) ++ answer ∷ [];
      }

      abbrev joined : Fleet S
      joined = record {
        hosts = slice_set (slice_set f.hosts n y) m u;
        outside = f.outside;
        sent = (((f.sent ++ offer ∷ []) ++ answer ∷ []) ++ answer ∷ []) ++ [];
      }

      does_offer : FleetStep M C f (OfOutside (sending offer)) offered
      does_offer = OutsideActs f.outside (sending offer) tt offers

      does_begin : FleetStep M C offered (OfHost n (answering offer answer)) begun
      does_begin = HostActs n x y (answering offer answer) there (last-sent offer f.sent) answers

      does_pass : FleetStep M C begun (OfOutside (answering answer answer)) passed_on
      does_pass = OutsideActs f.outside (answering answer answer) (last-sent answer (f.sent ++ offer ∷ []))
          (outside.Passes answer)

      does_join : FleetStep M C passed_on (OfHost m (taking answer)) joined
      does_join = HostActs m z u (taking answer) there_z (last-sent answer ((f.sent ++ offer ∷ []) ++ answer ∷ [])) hears

      pub in_four : Then (slice_set (slice_set f.hosts n y) m u) f.outside most →
          HostsReach M C f Who (suc (suc (suc (suc most)))) End
      in_four rest =
          let a = followed M C laws copies f offered w (OfOutside (sending offer)) h does_offer in
          let b = followed M C laws copies offered begun a.new (OfHost n (answering offer answer)) a.shows does_begin in
          let c = followed M C laws copies begun passed_on b.new (OfOutside (answering answer answer)) b.shows does_pass in
          let d = followed M C laws copies passed_on joined c.new (OfHost m (taking answer)) c.shows does_join in
          whole M C Who End f (suc (suc (suc (suc most))))
          (by_outside M C Who End f offered none_sent none_sent (suc (suc (suc most))) n n (sending offer) (sends_one (sending offer) offer [] refl)
          does_offer tt
          (by_host M C Who End offered begun none_sent (with_sent n (offer ∷ []) none_sent) (suc (suc most)) n
          (answering offer answer) who does_begin (sent_last n offer none_sent)
          (by_outside M C Who End begun passed_on (with_sent n (answer ∷ []) none_sent) (with_sent n (offer ∷ []) none_sent) (suc most)
          n m (answering answer answer)
          (takes_one (answering answer answer) answer [] refl) does_pass (sent_last n answer none_sent)
          (by_host M C Who End passed_on joined (with_sent n (answer ∷ []) none_sent)
          (with_sent m (answer ∷ []) (with_sent n (offer ∷ []) none_sent)) most m (taking answer) who_z does_join
          (sent_last m answer (with_sent n (offer ∷ []) none_sent))
          (left M C Who End joined (with_sent m [] (with_sent n (answer ∷ []) none_sent))
          (with_sent m (answer ∷ []) (with_sent n (offer ∷ []) none_sent)) most (rest joined d.new d.shows refl refl))))))
