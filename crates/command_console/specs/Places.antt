-- The places of hosts that an outside has at first.
use Rattle.std.specs.Prelude.{◌≡◌, ◌<◌, ℕ, true, List, length, slice_get}
use Rattle.outside_switch.specs.declared.session.Session.{Session}
use Rattle.outside_switch.specs.Goes.{first_number}
use Rattle.outside_switch.specs.Heeds.{open_in}
use Rattle.outside_switch.specs.Lines.{number_at}
use Rattle.outside_switch.specs.declared.line.HostLine.{HostLine}

-- each place has the number that it has at first
abbrev pub HasFirstNumbers : List HostLine → Type 0
HasFirstNumbers lines = (place : ℕ) → place < length lines → number_at lines place ≡ first_number place

-- no host is cut off
abbrev pub NoneIsCut : List HostLine → Type 0
NoneIsCut lines = (place : ℕ) → place < length lines → open_in (slice_get lines place) ≡ true

-- more places, each with its first number and not cut off, and nothing else
pub record AddsPlaces {D S : Type 0} (old new : Session D S) : Type 0 where
  pub devices : new.switch.devices ≡ old.switch.devices
  pub numbers : HasFirstNumbers old.switch.lines.items → HasFirstNumbers new.switch.lines.items
  pub none_cut : NoneIsCut old.switch.lines.items → NoneIsCut new.switch.lines.items
  pub first_port : new.first ≡ old.first
  pub second_port : new.second ≡ old.second
  pub screen : new.screen ≡ old.screen
  pub quits : new.quits ≡ old.quits
  pub counts : new.flood ≡ old.flood
