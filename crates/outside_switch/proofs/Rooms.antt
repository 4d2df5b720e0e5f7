-- What is heard of a host: a byte that is shown has room.
use Rattle.std.proofs.Common.{ℕ, ◌≡◌, ◌<◌, Bool, true, false, Option, Some, None, Ok, Err, List, refl, sym, ap, ◌∙◌, subst, cond, inl, inr, ltb-true}
use Rattle.std.specs.Prelude.{◌&&◌, Result, length, nat_lt, slice_get}
use Rattle.std.proofs.lemmas.Bool.{and_parts}
use Rattle.disk_dcdd.specs.declared.address.SectorAddress.{SectorAddress}
use Rattle.i8080_words.specs.declared.refusal.Fault.{Fault}
use Rattle.shared_disk.specs.declared.disk.SectorRead.{SectorRead}
use Rattle.event_callbacks.specs.declared.devices.TheConstants.{PORTS}
use Rattle.host_frames.specs.Frames.{Said, Packet, Transfers, Tells}
use Rattle.host_frames.specs.declared.frame.Notice.{Notice}
use Rattle.host_frames.specs.declared.frame.Notice.TheVariants.{Join, Progress, Report, Suspect}
use Rattle.host_frames.specs.declared.frame.Transfer.{Transfer}
use Rattle.host_frames.specs.declared.frame.Transfer.TheVariants.{Byte, Get, Inspected, Write}
use Rattle.outside_switch.specs.DeviceCalls.{is_accepted, terminal_at}
use Rattle.outside_switch.specs.Held.{Held}
use Rattle.outside_switch.specs.Terminal.{comes_next}
use Rattle.outside_switch.specs.Heeds.{Asked, HasRoomFor, HeedsBody, HeedsAt, HeedsNotice, HeedsOpen, HeedsTransfer, open_in, read_if, room_of, HeedsUnless, is_end}
use Rattle.outside_switch.specs.Goes.{HeedsNext}
use Rattle.outside_switch.specs.Lines.{number_at}
use Rattle.outside_switch.specs.Meets.{Seen}
use Rattle.outside_switch.specs.declared.heard.BodyOutcome.{BodyOutcome}
use Rattle.outside_switch.specs.declared.heard.BodyOutcome.TheVariants.{Became, Failed, Lost, Met, Nothing, Read, Shown, Unwritten, Won, Written}
use Rattle.outside_switch.specs.declared.line.HostLine.{HostLine}
use Rattle.std.specs.Global.{Vec}

module _ (rooms : List Bool) (at shown : ℕ) where
  abbrev Room : Type 0
  Room = HasRoomFor rooms (Shown at shown)

  not_met : (b : Bool) → Shown at shown ≡ cond b Met Failed → Room
  not_met true e = absurd (cc)
  not_met false e = absurd (cc)

  of_byte : (old : Held) (port number byte : ℕ) (b : Bool) → is_accepted old.terminals port number (room_of rooms port) ≡ b →
      Shown at shown ≡ cond b (Shown port byte) Met → Room
  of_byte old port number byte false accepts e = absurd (cc)
  of_byte old port number byte true accepts e =
      let p = and_parts (nat_lt port PORTS && room_of rooms port) (comes_next (terminal_at old.terminals port) number) accepts in
      let q = and_parts (nat_lt port PORTS) (room_of rooms port) p.0 in
      let same : at ≡ port = cc in
      subst (λ n. (n < PORTS) × (room_of rooms n ≡ true)) (sym same) (ltb-true port PORTS q.0, q.1)

  not_read : (result : Result SectorRead Fault) (address : SectorAddress) → Shown at shown ≡ read_if result address → Room
  not_read (Ok read) address e = absurd (cc)
  not_read (Err why) address e = absurd (cc)

  of_transfer : (old new : Held) (t : Transfer) → HeedsTransfer rooms t old new (Shown at shown) → Room
  of_transfer old new (Byte port number byte) h =
      of_byte old port number byte (is_accepted old.terminals port number (room_of rooms port)) refl h.1
  of_transfer old new (Write write) h = absurd h
  of_transfer old new (Get address) h = not_read h.0 address h.1.1
  of_transfer old new (Inspected number count bytes) h = let e = h.1 in absurd (cc)
  of_transfer old new _ h = let e = h.1 in absurd (cc)

  of_question : (old new : Held) (number : Option ℕ) (generation : ℕ) → Asked number generation old new (Shown at shown) → Room
  of_question old new None generation h = let e = h.1 in absurd (cc)
  of_question old new (Some host) generation h = let e = h.0 in absurd (cc)

  of_notice : (old new : Held) (places : ℕ) (number : Option ℕ) (n : Notice) →
      HeedsNotice places number n old new (Shown at shown) → Room
  of_notice old new places number (Suspect generation) h = of_question old new number generation h
  of_notice old new places number (Report report) h = elim h.1 [
    | inl e ↦ absurd (cc)
    | inr e ↦ absurd (cc)
  ]
  of_notice old new places number (Join generation host drives count) h = not_met (nat_lt host places) h.1
  of_notice old new places number (Progress host entries count) h = not_met (nat_lt host places) h.1
  of_notice old new places number _ h = let e = h.1 in absurd (cc)

  of_said : (old new : Held) (lines : List HostLine) (place : ℕ) (said : Said) →
      HeedsAt place rooms said lines old new (Shown at shown) → Room
  of_said old new lines place (Packet host bytes) h = not_met (nat_lt host (length lines)) h.1
  of_said old new lines place (Transfers t) h = of_transfer old new t h
  of_said old new lines place (Tells n) h = of_notice old new (length lines) (number_at lines place) n h

  not_dropped : (b : Bool) → Shown at shown ≡ cond b Nothing Met → Room
  not_dropped true e = absurd (cc)
  not_dropped false e = absurd (cc)

  of_body : (old new : Held) (lines : List HostLine) (place : ℕ) (body : List ℕ) (is_end : Bool) →
      HeedsUnless is_end place rooms body lines old new (Shown at shown) → Room
  of_body old new lines place body true h = let e = h.1 in absurd (cc)
  of_body old new lines place body false h = elim h [
    | inl said ↦ of_said old new lines place said.0 said.2
    | inr none ↦ (let e = none.1.1 in absurd (cc))
  ]

  of_open : (old new : Held) (lines : List HostLine) (place : ℕ) (body : List ℕ) (is_open : Bool) →
      HeedsOpen is_open place rooms body lines old new (Shown at shown) → Room
  of_open old new lines place body false h = not_dropped (is_end body) h.1
  of_open old new lines place body true h = of_body old new lines place body (is_end body) h

  of_next : (taken new : Seen) (place : ℕ) (body : Option (Vec ℕ)) → HeedsNext place rooms body taken new (Shown at shown) → Room
  of_next taken new place None h = let e = h.1 in absurd (cc)
  of_next taken new place (Some body) h =
      of_open taken.devices new.devices taken.lines place body.items (open_in (slice_get taken.lines place)) h

pub room_for : (rooms : List Bool) (place : ℕ) (body : Option (Vec ℕ)) (taken new : Seen) (heard : BodyOutcome) →
    HeedsNext place rooms body taken new heard → HasRoomFor rooms heard
room_for rooms place body taken new (Shown port byte) h = of_next rooms port byte taken new place body h
room_for rooms place body taken new _ h = tt
