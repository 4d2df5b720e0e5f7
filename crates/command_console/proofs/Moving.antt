-- A move of the outside is what the fleet's outside does.
use Rattle.std.proofs.Common.{ℕ, ◌≤◌, Some, None, List, ◌++◌, refl, sym, ◌∙◌, subst, inl, inr}
use Rattle.guest_lockstep.specs.Machine.{Machine}
use Rattle.guest_parts.specs.Guest.{Guest}
use Rattle.host_frames.specs.Frames.{framed}
use Rattle.host_frames.specs.Meaning.{IsTold}
use Rattle.host_law.specs.Fleet.{Fleet}
use Rattle.host_law.specs.Frame.{Act, Came, Frame, sent}
use Rattle.outside_switch.proofs.Numbers.{numbers_stay, same_numbers}
use Rattle.outside_switch.proofs.Passing.{passed_both}
use Rattle.outside_switch.proofs.Running.{move_runs}
use Rattle.outside_switch.specs.Goes as goes
use Rattle.outside_switch.specs.Goes.{Moves, passed_by}
use Rattle.outside_switch.specs.Lines.{LinesGo, Pushed}
use Rattle.outside_switch.specs.Meets.{Seen}
use Rattle.outside_switch.specs.Passing.{Passed}
use Rattle.outside_switch.specs.Runs.{MoveBrings, MoveRan, pushed_by, read_by, written_by}
use Rattle.pair_protocol.proofs.Traces.Lists.{among-split}
use Rattle.pair_protocol.specs.Copying.{Copying}
use Rattle.pair_protocol.specs.Lawful.{Among}
use Rattle.command_console.proofs.Fleets.{after_outside, outside_deeds, outside_happened, then_happened}
use Rattle.command_console.proofs.Speaking.{speaks_told}
use Rattle.command_console.proofs.Standing.{Fits, Stands, WasPushed, all_right, host_later, is_host, one_spelling, pushed_later}
use Rattle.command_console.specs.Processes.{Processes}
use Rattle.command_console.specs.Runs.{TakesDelivered}

module _ (drives : ℕ) (num : ℕ → ℕ) where
  pub fits_before : (old new : Seen) → Moves old new → Fits drives num new.lines → Fits drives num old.lines
  fits_before old new move fits place n has = fits place n (numbers_stay old new move place n has)

  fits_met : (old new : Seen) (pushed : List Pushed) → LinesGo pushed old.lines new.lines → Fits drives num new.lines →
      Fits drives num old.lines
  fits_met old new pushed lines fits place n has = fits place n (same_numbers pushed old.lines new.lines lines place ∙ has)

  -- what the outside heard in a move was told it
  abbrev MoveTold : List Frame → {old new : Seen} → Moves old new → Type 0
  MoveTold frames (goes.Acts meets) = Unit {0}
  MoveTold frames (goes.Hears taken place body said takes is meets) = IsTold drives (num place) said frames
  MoveTold frames (goes.Drops place body takes) = Unit {0}
  MoveTold frames (goes.Closes place cause closes) = Unit {0}
  MoveTold frames (goes.Names begun place generation may begins names) = Unit {0}

  brings : (frames : List Frame) (old new : Seen) (move : Moves old new) → Fits drives num new.lines → MoveTold frames move →
      MoveBrings drives frames move
  brings frames old new (goes.Acts meets) fits told = tt
  brings frames old new (goes.Hears taken place body said takes is meets) fits told =
      (num place, is_host drives num taken.lines (fits_met taken new meets.pushed meets.lines fits) place, told)
  brings frames old new (goes.Drops place body takes) fits told = tt
  brings frames old new (goes.Closes place cause closes) fits told = tt
  brings frames old new (goes.Names begun place generation may begins names) fits told = tt

  -- each frame that it pushed brings what was sent by then
  pushes : (frames : List Frame) (old new : Seen) (move : Moves old new) → Fits drives num new.lines → MoveTold frames move →
      (x : Pushed) → Among x (pushed_by move) → WasPushed drives num (frames ++ written_by move) x
  pushes frames old new (goes.Acts meets) fits told =
      all_right drives num old.lines (fits_met old new meets.pushed meets.lines fits) old.devices new.devices meets.read
      meets.written frames meets.called None meets.pushed tt meets.right
  pushes frames old new (goes.Hears taken place body said takes is meets) fits told =
      all_right drives num taken.lines (fits_met taken new meets.pushed meets.lines fits) taken.devices new.devices meets.read
      meets.written frames meets.called (Some (record { place = place; said = said })) meets.pushed told meets.right
  pushes frames old new (goes.Drops place body takes) fits told = λ x among. absurd among
  pushes frames old new (goes.Closes place cause closes) fits told = λ x among. absurd among
  pushes frames old new (goes.Names begun place generation may begins names) fits told =
      all_right drives num old.lines
      (fits_before old new (goes.Names begun place generation may begins names) fits) old.devices begun.devices
      begins.meets.read begins.meets.written frames begins.meets.called None begins.meets.pushed tt begins.meets.right

  module _ {B S : Type 0} {H : Type 0} (state : B → S) (M : Machine S) (copied : B → Guest) (C : Copying S)
      (first : Fleet S) (count : ℕ) (passed : List Passed) (p : Processes B H)
      (st : Stands drives num state M copied C first count passed p) where
    heard : (new : Seen) (move : Moves p.outside new) → TakesDelivered p.hosts move → MoveTold st.fleet.sent move
    heard new (goes.Acts meets) delivered = tt
    heard new (goes.Hears taken place body said takes is meets) delivered =
        let w = (st.hosts place delivered.host delivered.there).said (framed body.items) delivered.said in
        subst (λ s. IsTold drives (num place) s st.fleet.sent)
        (sym (one_spelling said w.said body.items (framed body.items) is w.spells refl))
        (speaks_told drives (num place) w.said w.means st.fleet.sent w.spells.fits w.speaks w.sent)
    heard new (goes.Drops place body takes) delivered = tt
    heard new (goes.Closes place cause closes) delivered = tt
    heard new (goes.Names begun place generation may begins names) delivered = tt

    pub outside_moved : (new : Seen) (move : Moves p.outside new) → TakesDelivered p.hosts move →
        Fits drives num new.lines → new.devices.hosts ≤ count →
        Stands drives num state M copied C first count (passed ++ passed_by move)
        (record { hosts = p.hosts; outside = new; pushed = p.pushed ++ pushed_by move })
    outside_moved new move delivered fits few = record {
      deeds = st.deeds ++ outside_deeds acts;
      fleet = g;
      happened = then_happened M C first f g st.deeds (outside_deeds acts) st.happened
          (outside_happened M C f r.ran.last acts r.ran.run (subst (λ l. Came l f.sent) (sym r.ran.took) r.came));
      shows = r.ran.shows;
      counts = r.ran.hosts ∙ st.counts;
      passes = passed_both first.outside f.outside r.ran.last passed (passed_by move) st.passes r.passes;
      hosts = λ place h at.
          host_later drives num state M copied C f g (num place) h (sent acts) refl refl (st.hosts place h at);
      pushed = λ x among. elim (among-split x p.pushed (pushed_by move) among) [
        | inl old ↦ pushed_later drives num f.sent (sent acts) x (st.pushed x old)
        | inr one ↦ subst (λ l. WasPushed drives num (f.sent ++ l) x) (sym r.ran.gave)
            (pushes f.sent p.outside new move fits told x one)
      ];
    }
      where
        f : Fleet S
        f = st.fleet

        told : MoveTold f.sent move
        told = heard new move delivered

        r : MoveRan M drives f.sent f.outside (read_by move) (written_by move) (passed_by move) new.devices
        r = move_runs M drives f.sent p.outside new move f.outside st.shows
            (subst (λ k. new.devices.hosts ≤ k) (sym st.counts) few) (brings f.sent p.outside new move fits told)

        acts : List Act
        acts = r.ran.acts

        g : Fleet S
        g = after_outside M C f r.ran.last acts
