-- Each call is a step of whatever outside the devices show.
use Rattle.std.proofs.Common.{◌≡◌, ◌∙◌, Bool, List, Ok, arith, false, ltb-true, refl, subst, sym, true, ℕ}
use Rattle.std.proofs.lemmas.List.{append-nil}
use Rattle.event_callbacks.specs.declared.operations.Operation.TheVariants.{Byte}
use Rattle.host_law.specs.Outside as outside
use Rattle.pair_protocol.specs.World.{Released}
use Rattle.outside_switch.proofs.Asking.{arbiter_makes}
use Rattle.outside_switch.proofs.Records.{disk_makes}
use Rattle.outside_switch.proofs.Terminals.{arrived_are, arrived_next, key_kept, key_typed, not_arrived, there, told_are, typed_are, typed_there}
use Rattle.outside_switch.proofs.Words.{AreTerminals, Carries, Held, KeptTerminal, Machine, Outside, Shows, Terminal, accepted_in, is_accepted, terminal_at, typed_answer}
use Rattle.outside_switch.specs.Steps.{CallsMake, HostsMake, TakesByte, TerminalsMake, TypesKey}

module _ {S : Type 0} (M : Machine S) (drives : ℕ) (held : Held) (o : Outside) (h : Shows M drives held o) where
  with_terminals : (ks : List KeptTerminal) (ts : List Terminal) → AreTerminals ks ts →
      Shows M drives (record held { terminals = ks }) (record o { terminals = ts })
  with_terminals ks ts are = record { terminals = are; winners = h.winners; disk = h.disk; hosts = h.hosts }

  types : (port byte index : ℕ) → typed_answer held.terminals port ≡ Ok index →
      TypesKey M drives held o port byte index
  types port byte index is =
      let t = typed_there held.terminals o.terminals h.terminals port index is in
      record {
        makes = record {
          step = outside.Types port byte (there held.terminals o.terminals h.terminals port t.0);
          shows = with_terminals _ _ (typed_are held.terminals o.terminals h.terminals port byte t.0 t.1);
        };
        index_is = sym t.2 ∙ (h.terminals.each port).typed;
      }

  takes : (port number byte : ℕ) (room b : Bool) → is_accepted held.terminals port number room ≡ b →
      TakesByte M drives held o port number byte room b
  takes port number byte room true e = record {
    makes = record {
      step = outside.Arrives port number byte;
      shows = with_terminals _ _ (arrived_are held.terminals o.terminals h.terminals port number byte room e);
    };
    accepted = arrived_next held.terminals o.terminals h.terminals port number byte room e;
  }
  takes port number byte room false e = record {
    makes = record {
      step = outside.Drops (Carries (Released (Byte port number byte)));
      shows = with_terminals _ o.terminals (subst (λ l. AreTerminals l o.terminals)
          (sym (not_arrived held.terminals o.terminals h.terminals port number room e)) h.terminals);
    };
    accepted = sym (append-nil (accepted_in o.terminals port));
  }

  terminals_make : TerminalsMake M drives held o
  terminals_make = record {
    types = types;
    sends_key = λ port index byte is.
        outside.SendsKey port index byte (key_typed held.terminals o.terminals h.terminals port index byte is);
    keeps_keys = λ port index past. key_kept held.terminals o.terminals h.terminals port index past;
    hears = λ port keys. record {
      step = outside.HearsKeys port keys;
      shows = with_terminals _ _ (told_are held.terminals o.terminals h.terminals port keys);
    };
    takes = λ port number byte room. takes port number byte room (is_accepted held.terminals port number room) refl;
    sends_count = λ port.
        let e = (h.terminals.each port).accepted in
        outside.SendsCount port (terminal_at held.terminals port).accepted (omega (arith, e));
    counts = λ port. (h.terminals.each port).accepted;
  }

  hosts_make : HostsMake M drives held o
  hosts_make = record {
    offers = λ generation low.
        let first = ltb-true generation held.hosts low in
        let all = h.hosts in
        outside.Offers generation (omega (arith, first, all));
    admits = λ host all. record { terminals = h.terminals; winners = h.winners; disk = h.disk; hosts = all };
    passes = λ frame. record { step = outside.Passes frame; shows = h };
    drops = λ frame. record { step = outside.Drops frame; shows = h };
  }

  pub calls_make : CallsMake M drives held o
  calls_make = record {
    terminals = terminals_make;
    arbiter = arbiter_makes M drives held o h;
    disk = disk_makes M drives held o h;
    hosts = hosts_make;
  }
