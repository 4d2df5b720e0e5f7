-- The scripts of the small machines, event by event.
use Rattle.std.proofs.Common.{[], ◌++◌, ◌<◌, ◌∷◌, ◌≡◌, List, None, Some, arith, false, inl, inr, refl, true, ℕ}
use Rattle.std.specs.Prelude.{slice_get}
use Rattle.pair_protocol.proofs.Words.{Acknowledgement, Alone, Copying, LogEntry, Machine, Mark, Node, Primary, World, Write, accepted, first_node, opening, with_host, with_node}
use Rattle.event_callbacks.specs.declared.operations.OpId.TheVariants as id
use Rattle.guest_lockstep.specs.declared.reads.Reads.TheVariants.{Logged}
use Rattle.guest_lockstep.specs.declared.replay_end.ReplayEnd.TheVariants.{End, Wait}
use Rattle.guest_lockstep.specs.declared.running.StopReason.TheVariants as reason
use Rattle.i8080_words.specs.declared.refusal.Fault.TheVariants.{WrongRole}
use Rattle.pair_protocol.specs.Effects.{AtEnd, AwaitsBytes, Gives, Goes, NoneLeft, OneMark, OneRead, OneStep}
use Rattle.pair_events.specs.declared.event.Event.{Event}
use Rattle.pair_events.specs.declared.event.Event.TheVariants.{Acknowledge, Arrive, DeliverLog, Drain, Release, Send, Step, Stop, Suspect, TakeKey, TypeByte}
use Rattle.pair_protocol.specs.Reply.{Accepted, Dropped, MessageIs, MovedAlone, New, Ran, Refused, Reply, Stopped, TypedAt, Won}
use Rattle.pair_protocol.specs.Examples.{SharesReads, TakesOver, WritesDisk, letter, sector_write, small, small_copying}
use Rattle.pair_protocol.specs.Lawful.{top}
use Rattle.pair_protocol.specs.Row.{Accepts, First, Nothing, Refuses, Run}
use Rattle.pair_protocol.specs.Rows.{AtNode, OfNode}

-- what a row says of one node
abbrev at_node : {w new : World ℕ} {n : ℕ} {does : Node ℕ → Node ℕ → Type 0} {x : Node ℕ} (y : Node ℕ) →
    slice_get w.nodes n ≡ Some x → does x y → new ≡ with_node w n y → AtNode w n does new
at_node {x = x} y there done after = record { x = x; there = there; y = y; done = done; after = after }

abbrev of_node : {w : World ℕ} {n : ℕ} {says : Node ℕ → Type 0} {x : Node ℕ} → slice_get w.nodes n ≡ Some x → says x →
    OfNode w n says
of_node {x = x} there said = record { x = x; there = there; said = said }

-- a run may be made in two parts
run-append : {S : Type 0} (M : Machine S) (C : Copying S) (old mid new : World S) (events later : List Event)
    (replies others : List Reply) → Run M C old events replies mid → Run M C mid later others new →
    Run M C old (events ++ later) (replies ++ others) new
run-append M C old mid new events later replies others Nothing k = k
run-append M C old mid new _ later _ others (First {mid = v} {events = es} {replies = rs} row rest) k =
    First row (run-append M C v mid new es later rs others rest k)
run-append M C old mid new events later replies others (Run.HostComes rest) k =
    Run.HostComes (run-append M C (with_host M old) mid new events later replies others rest k)

-- the world once the backup has drained
abbrev stopped : Node ℕ
stopped = record (first_node small Logged Primary) {
  running = false;
  machine = 6;
  log = Mark 6 ∷ [];
  notes = record { name = id.Byte 0 1; index = 0; after = 0 } ∷ [];
}

abbrev live : Node ℕ
live = record (first_node small Logged Alone) { machine = 6; held = Mark 6 ∷ []; replayed = 1 }

abbrev drained : World ℕ
drained = record {
  nodes = stopped ∷ live ∷ [];
  messages = LogEntry 1 0 (Mark 6) ∷ Acknowledgement 1 1 0 ∷ [];
  terminals = record { arrivals = []; typed = 65 ∷ []; told = 0 } ∷ record { arrivals = []; typed = []; told = 0 } ∷ [];
  winners = record { generation = 1; node = 1 } ∷ [];
  puts = [];
}

abbrev first_events : List Event
first_events = Step 0 10 ∷ Send 0 0 ∷ DeliverLog 0 1 ∷ Acknowledge 1 ∷ Stop 0 ∷ Suspect 1 ∷ TypeByte 0 65 ∷ TakeKey 1 0 0 ∷
    Drain 1 10 ∷ []

abbrev first_replies : List Reply
first_replies = Ran 6 6 (reason.Operation (id.Byte 0 1)) ∷ MessageIs 0 ∷ New ∷ MessageIs 1 ∷ Stopped ∷ Won ∷ TypedAt 0 ∷ Refused
    WrongRole ∷ MovedAlone 7 ∷ []

until_drained : Run small small_copying (opening small Logged) first_events first_replies drained
unfolding top
until_drained =
    First (Accepts refl (record {
      made = _;
      count = _;
      why = _;
      at = at_node _ refl (record { advances = Goes 1 refl (Goes 2 refl (Goes 3 refl (Goes 4 refl (Goes 5 refl (Gives 6 letter refl))))); some = inr (omega arith); counted = refl }) refl;
      reply = refl;
    }))
    (First (Accepts refl (record { e = _; node = of_node refl refl; says = record { reply = refl; after = refl } }))
    (First (Accepts refl (record { generation = _; index = _; e = _; message = refl; next = true; at = at_node _ refl (refl, refl) refl; reply = refl }))
    (First (Accepts refl (record { held = _; replayed = _; node = of_node refl (refl, refl); says = record { reply = refl; after = refl } }))
    (First (Accepts refl (record { at = at_node _ refl refl refl; reply = refl }))
    (First (Accepts refl (record { x = _; there = refl; reply = refl; after = inl (refl, refl) }))
    (First (Accepts refl (record { reply = refl; after = refl }))
    (First (Refuses refl refl)
    (First (Accepts refl (record {
      made = _;
      why = End;
      at = record {
        x = _;
        there = refl;
        y = _;
        done = record {
          z = _;
          replayed = record {
            moves = OneStep _ 1 None refl (let l : 0 < 6 = omega arith in l) refl
                (OneStep _ 2 None refl (let l : 1 < 6 = omega arith in l) refl
                (OneStep _ 3 None refl (let l : 2 < 6 = omega arith in l) refl
                (OneStep _ 4 None refl (let l : 3 < 6 = omega arith in l) refl
                (OneStep _ 5 None refl (let l : 4 < 6 = omega arith in l) refl
                (OneStep _ 6 (Some letter) refl (let l : 5 < 6 = omega arith in l) refl (OneMark _ refl refl refl (AtEnd refl)))))));
            some = inl (omega arith);
            ends = refl;
          };
          after = refl;
        };
        after = refl;
      };
      reply = refl;
    }))
    Nothing))))))))

abbrev last_events : List Event
last_events = Release 1 (id.Byte 0 1) ∷ Arrive 2 ∷ Arrive 2 ∷ []

abbrev last_replies : List Reply
last_replies = MessageIs 2 ∷ Accepted ∷ Dropped ∷ []

after_drained : (w : World ℕ) × Run small small_copying drained last_events last_replies w × (accepted w 0 ≡ 72 ∷ [])
unfolding top
after_drained = (
  _,
  First (Accepts refl (record { o = _; node = of_node refl refl; says = record { reply = refl; after = refl } }))
      (First (Accepts refl (record { port = _; number = _; byte = _; message = refl; reply = refl; after = refl }))
      (First (Accepts refl (record { port = _; number = _; byte = _; message = refl; reply = refl; after = refl }))
      Nothing)),
  refl,
)

pub takes_over : TakesOver
takes_over = (
  after_drained.0,
  run-append small small_copying
      (opening small Logged) drained after_drained.0 first_events last_events first_replies last_replies until_drained
      after_drained.1,
  after_drained.2,
)

pub writes_disk : WritesDisk
unfolding top
writes_disk = (
  _,
  First (Accepts refl (record {
    made = _;
    count = _;
    why = _;
    at = at_node _ refl (record { advances = Goes 1 refl (Goes 2 refl NoneLeft); some = inr (omega arith); counted = refl }) refl;
    reply = refl;
  }))
      (First (Accepts refl (record { address = _; node = of_node refl (record { drive = _; selected = refl; address_is = refl }); reply = refl; after = refl }))
      (First (Accepts refl (record {
        address = _;
        number = _;
        bytes = _;
        message = refl;
        input = record {
          at = at_node _ refl (record { s = 3; takes = refl; after = refl }) refl;
          reply = refl;
        };
      }))
      (First (Accepts refl (record {
        made = _;
        count = _;
        why = _;
        at = at_node _ refl (record { advances = Gives 4 (Write sector_write) refl; some = inr (omega arith); counted = refl }) refl;
        reply = refl;
      }))
      (First (Accepts refl (record { e = _; node = of_node refl refl; says = record { reply = refl; after = refl } }))
      (First (Accepts refl (record { e = _; node = of_node refl refl; says = record { reply = refl; after = refl } }))
      (First (Accepts refl (record { generation = _; index = _; e = _; message = refl; next = true; at = at_node _ refl (refl, refl) refl; reply = refl }))
      (First (Accepts refl (record { generation = _; index = _; e = _; message = refl; next = true; at = at_node _ refl (refl, refl) refl; reply = refl }))
      (First (Accepts refl (record { held = _; replayed = _; node = of_node refl (refl, refl); says = record { reply = refl; after = refl } }))
      (First (Accepts refl (record { generation = _; held = _; replayed = _; message = refl; covered = _; at = at_node _ refl (refl, refl) refl; reply = refl }))
      (First (Accepts refl (record { o = _; node = of_node refl refl; says = record { reply = refl; after = refl } }))
      (First (Accepts refl (record { write = _; message = refl; reply = refl; after = refl }))
      (First (Accepts refl (record { number = _; message = refl; input = record { at = at_node _ refl (record { s = 5; takes = refl; after = refl }) refl; reply = refl } }))
      (First (Accepts refl (record { address = _; node = of_node refl (record { drive = _; selected = refl; address_is = refl }); reply = refl; after = refl }))
      Nothing))))))))))))),
  refl,
)

pub shares_reads : SharesReads
unfolding top
shares_reads = (
  _,
  First (Accepts refl (record {
    made = _;
    count = _;
    why = _;
    at = at_node _ refl (record { advances = Goes 1 refl (Goes 2 refl NoneLeft); some = inr (omega arith); counted = refl }) refl;
    reply = refl;
  }))
      (First (Accepts refl (record { address = _; node = of_node refl (record { drive = _; selected = refl; address_is = refl }); reply = refl; after = refl }))
      (First (Accepts refl (record {
        address = _;
        number = _;
        bytes = _;
        message = refl;
        input = record {
          at = at_node _ refl (record { s = 3; takes = refl; after = refl }) refl;
          reply = refl;
        };
      }))
      (First (Accepts refl (record {
        made = _;
        count = _;
        why = _;
        at = at_node _ refl (record { advances = Gives 4 (Write sector_write) refl; some = inr (omega arith); counted = refl }) refl;
        reply = refl;
      }))
      (First (Accepts refl (record { e = _; node = of_node refl refl; says = record { reply = refl; after = refl } }))
      (First (Accepts refl (record { e = _; node = of_node refl refl; says = record { reply = refl; after = refl } }))
      (First (Accepts refl (record { generation = _; index = _; e = _; message = refl; next = true; at = at_node _ refl (refl, refl) refl; reply = refl }))
      (First (Accepts refl (record { generation = _; index = _; e = _; message = refl; next = true; at = at_node _ refl (refl, refl) refl; reply = refl }))
      (First (Accepts refl (record { held = _; replayed = _; node = of_node refl (refl, refl); says = record { reply = refl; after = refl } }))
      (First (Accepts refl (record { generation = _; held = _; replayed = _; message = refl; covered = _; at = at_node _ refl (refl, refl) refl; reply = refl }))
      (First (Refuses refl refl)
      (First (Accepts refl (record {
        made = _;
        why = Wait;
        at = at_node _ refl (record {
          moves = OneStep _ 1 None refl (let l : 0 < 2 = omega arith in l) refl
              (OneStep _ 2 None refl (let l : 1 < 2 = omega arith in l) refl (AwaitsBytes refl));
          some = inl (omega arith);
          ends = refl;
        }) refl;
        reply = refl;
      }))
      (First (Accepts refl (record {
        address = _;
        node = of_node refl (record { drive = _; sector = _; number = _; read = refl; address_is = refl });
        reply = refl;
        after = refl;
      }))
      (First (Accepts refl (record { address = _; number = _; bytes = _; message = refl; at = at_node _ refl refl refl; reply = refl }))
      (First (Accepts refl (record {
        made = _;
        why = End;
        at = at_node _ refl (record {
          moves = OneRead _ _ _ _ 3 refl refl refl
              (OneStep _ 4 (Some (Write sector_write)) refl (let l : 2 < 3 = omega arith in l) refl
              (OneMark _ refl refl refl (AtEnd refl)));
          some = inl (omega arith);
          ends = refl;
        }) refl;
        reply = refl;
      }))
      (First (Accepts refl (record { held = _; replayed = _; node = of_node refl (refl, refl); says = record { reply = refl; after = refl } }))
      (First (Accepts refl (record { generation = _; held = _; replayed = _; message = refl; covered = _; at = at_node _ refl (refl, refl) refl; reply = refl }))
      (First (Accepts refl (record { o = _; node = of_node refl refl; says = record { reply = refl; after = refl } }))
      Nothing))))))))))))))))),
  refl,
)
