-- A console from its opening to its end.
use Rattle.std.proofs.Common.{ℕ, ◌≡◌, List, ◌++◌, Option, sym, ap, ◌∙◌, subst, string_bytes}
use Rattle.std.proofs.KnownBytes.{Appends-trans}
use Rattle.std.specs.Io.KnownBytes.{Appends}
use Rattle.command_console.specs.Rings.{IsKeyboardOf, IsScreenOf}
use Rattle.command_console.specs.declared.mirror.Mirrored.{Mirrored}
use Rattle.command_console.specs.Places.{AddsPlaces, NoneIsCut}
use Rattle.outside_switch.proofs.Causing.{cuts_have_causes}
use Rattle.outside_switch.specs.Causes.{AreCutForCause}
use Rattle.outside_switch.specs.LoopRuns.{Ended}
use Rattle.outside_switch.specs.Meets.{seen}
use Rattle.outside_switch.specs.declared.line.HostLine.{HostLine}
use Rattle.outside_switch.specs.declared.port.PortEnd.{PortEnd}
use Rattle.outside_switch.specs.declared.session.HostsEnd.{HostsEnd}
use Rattle.outside_switch.specs.declared.session.Session.{Session}
use Rattle.command_io.specs.declared.input.ScriptInput.{ScriptInput}
use Rattle.command_line.specs.declared.console_order.ConsoleOrder.{ConsoleOrder}
use Rattle.command_io.specs.Saving.{images_of}
use Rattle.command_console.specs.Console.{HasRun, OpensFor}
use Rattle.command_console.specs.Sitting.{AreOpen, HasSat}
use Rattle.command_console.specs.declared.console.Streams.{Streams}
use Rattle.command_console.specs.declared.session.Ends.{Ends}
use Rattle.command_console.specs.declared.teller.Teller.{Teller}
use Rattle.console_terminal.specs.Screen.{bytes_of}
use Rattle.shared_disk.specs.declared.store.Record.{Record}

-- ---- places are added

pub opens_later : {D S : Type 0} (input : ScriptInput) (a b : Session D S) → OpensFor input a → AddsPlaces a b → OpensFor input b
opens_later input a b o p = record {
  records = o.records;
  may_fail = o.may_fail;
  boots = o.boots;
  devices = p.devices ∙ o.devices;
  numbers = p.numbers o.numbers;
  none_cut = p.none_cut o.none_cut;
  none_heard = p.counts ∙ o.none_heard;
}

pub open_later : {D S : Type 0} (ends : Ends) (a b : Session D S) → AreOpen a ends → AddsPlaces a b → AreOpen b ends
open_later ends a b o p = record {
  keyboard0 = subst (λ (e : PortEnd). IsKeyboardOf ends.first e.keyboard) (sym p.first_port) o.keyboard0;
  keyboard1 = subst (λ (e : PortEnd). IsKeyboardOf ends.second e.keyboard) (sym p.second_port) o.keyboard1;
  none_waits = (
    ap (λ (e : PortEnd). e.waiting) p.first_port ∙ o.none_waits.0,
    ap (λ (e : PortEnd). e.waiting) p.second_port ∙ o.none_waits.1,
  );
  screen = subst (λ s. IsScreenOf ends.shown s) (sym p.screen) o.screen;
  notes = o.notes;
}

-- ---- whoever is cut off by then has given a cause

none_yet : (lines : List HostLine) → NoneIsCut lines → AreCutForCause lines
none_yet lines none place low shut = absurd (let both = sym (none place low) ∙ shut in (cc))

causes_to : {D S : Type 0} {end : HostsEnd} {first last : Session D S} → Ended end first last →
    NoneIsCut first.switch.lines.items → AreCutForCause last.switch.lines.items
causes_to {first = first} {last = last} ended none =
    cuts_have_causes (seen ended.last.switch) (seen last.switch) ended.stopped.goes.way
    (cuts_have_causes (seen first.switch) (seen ended.last.switch) ended.went.goes.way
    (none_yet first.switch.lines.items none))

-- ---- and disks are saved

pub has_run : {R W N : Type 0} (remaining : R → Option (List ℕ)) (contents : W → Option (List ℕ)) (notes : N → Option (List ℕ))
    (order : ConsoleOrder) (input : ScriptInput) (streams : Streams R W N) (first : Session Mirrored Teller) (records : List Record)
    (end : HostsEnd) (writer : W) (beside : N) → OpensFor input first →
    HasSat remaining contents notes order.escape input.script.lines.items first streams records end writer beside →
    (mark drives : List ℕ) → mark ≡ string_bytes order.mark → drives ≡ order.saved.items → (new : W) →
    Appends (contents writer) (contents new) (mark ++ images_of records drives) →
    HasRun remaining contents notes order input streams end
has_run remaining contents notes order input streams first records end writer beside opens sat mark drives mark_is drives_are new
    saved = record {
      first = first;
      opens = opens;
      last = sat.last;
      ended = sat.ended;
      causes = causes_to sat.ended opens.none_cut;
      heard = sat.heard;
      pieces = sat.pieces;
      appeared = sat.appeared;
      writer = new;
      beside = beside;
      written = Appends-trans (contents streams.writer) (contents writer) (contents new) (bytes_of sat.pieces)
          (string_bytes order.mark ++ images_of sat.last.switch.devices.records order.saved.items) sat.written
          (subst (λ m. Appends (contents writer) (contents new) (m ++ images_of sat.last.switch.devices.records order.saved.items))
          mark_is (subst (λ d. Appends (contents writer) (contents new) (mark ++ images_of sat.last.switch.devices.records d))
          drives_are (subst (λ r. Appends (contents writer) (contents new) (mark ++ images_of r drives)) sat.records_are saved)));
      noted = sat.noted;
    }
