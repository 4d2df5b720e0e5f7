-- The host at a place, as its line shows it, and how many of its frames were refused.
use Rattle.std.specs.Prelude.{ℕ, is_none}
use Rattle.command_console.specs.declared.seats.Seat.{Seat}
use Rattle.outside_switch.specs.declared.line.HostLine.{HostLine}

abbrev pub seat_at : ℕ → HostLine → ℕ → Seat
seat_at place line refused = record { place = place; report = line.report; is_cut = is_none line.to; refused = refused }
