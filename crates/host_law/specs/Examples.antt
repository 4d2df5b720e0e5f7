-- A takeover by processes: the primary's host stops, the backup's host asks the arbiter, is answered that it has won,
-- drains and is alone.
use Rattle.std.specs.Prelude.{List, [], ◌∷◌}
use Rattle.guest_lockstep.specs.Machine.{Machine}
use Rattle.guest_lockstep.specs.declared.reads.Reads.{Reads}
use Rattle.pair_protocol.specs.Copying.{Copying}
use Rattle.pair_protocol.specs.Node.{Primary, Backup, first_node, goes_live, halts, wins}
use Rattle.host_law.specs.Fleet.{Deed, Fleet, Happened, OfHost, OfOutside, booted}
use Rattle.host_law.specs.Frame.{AsksArbiter, HasWon, answering, quiet, sending, taking}
use Rattle.host_law.specs.Outside.{at_first, with_first}

-- what happens, in this order
abbrev pub takeover : List Deed
takeover =
    OfHost 0 quiet ∷ OfHost 1 (sending (AsksArbiter 1 1)) ∷ OfOutside (answering (AsksArbiter 1 1) (HasWon 1 1))
    ∷ OfHost 1 (taking (HasWon 1 1)) ∷ OfHost 1 quiet ∷ []

-- how it ends
abbrev pub taken_over : {S : Type 0} → Machine S → Reads → Fleet S
taken_over M reads = record {
  hosts = halts (first_node M reads Primary) ∷ goes_live (wins (first_node M reads Backup)) ∷ [];
  outside = with_first (at_first 2) 1 1;
  sent = AsksArbiter 1 1 ∷ HasWon 1 1 ∷ [];
}

-- it may happen so, of any machine
abbrev pub HostTakesOver : (S : Type 0) → Type 0
HostTakesOver S =
    (M : Machine S) (C : Copying S) (reads : Reads) → Happened M C (booted M reads 0) takeover (taken_over M reads)
