-- A whole pair comes to rest: all that is logged is held and acknowledged, nothing is outstanding, the terminals have accepted
-- the whole output, and the disk is the machine's own.
use Rattle.std.specs.Prelude.{◌≡◌, ℕ, ◌+◌, ◌*◌, ◌≤◌, None, List, drop, length}
use Rattle.event_callbacks.specs.declared.operations.OpId.{OpId}
use Rattle.guest_lockstep.specs.Machine.{Machine}
use Rattle.pair_events.specs.declared.event.Event.{Event}
use Rattle.pair_events.specs.declared.event.Event.TheVariants.{Send, DeliverLog, Replay, Fetch, Fetched, Acknowledge, DeliverAcknowledgement, Release, Arrive, TellSent, Put, PutReply}
use Rattle.pair_protocol.specs.Copying.{Copying}
use Rattle.pair_protocol.specs.Lawful.{top}
use Rattle.pair_protocol.specs.Node.{Node}
use Rattle.pair_protocol.specs.Refusals.{log_size}
use Rattle.pair_protocol.specs.World.{World}
use Rattle.pair_progress.specs.Completion.{CoverAll, IsExact}
use Rattle.pair_progress.specs.Leads.{Leads}
use Rattle.pair_progress.specs.CatchingUp.{IsCaughtUp, IsPair, lacks}
use Rattle.pair_progress.specs.Takeover.{less_fetched, reads_among}

-- the log is sent and delivered, the backup replays it, asks the shared disk for what it lacks, and acknowledges; and the
-- primary completes what is outstanding
abbrev pub IsPairing : ℕ → ℕ → Event → Type 0
IsPairing n m (Send a index) = a ≡ n
IsPairing n m (DeliverLog message b) = b ≡ m
IsPairing n m (Replay b turns) = b ≡ m
IsPairing n m (Fetch b) = b ≡ m
IsPairing n m (Fetched message b) = b ≡ m
IsPairing n m (Acknowledge b) = b ≡ m
IsPairing n m (DeliverAcknowledgement message a) = a ≡ n
IsPairing n m (Release a name) = a ≡ n
IsPairing n m (Arrive message) = Unit {0}
IsPairing n m (TellSent a port number) = a ≡ n
IsPairing n m (Put message) = Unit {0}
IsPairing n m (PutReply message a) = a ≡ n
IsPairing n m e = ⊥

pub record IsPairAtRest {S : Type 0} (M : Machine S) (w : World S) (n m generation : ℕ) : Type 0 where
  pub all : IsCaughtUp w n m generation
  pub none : (name : OpId) → M.find all.pair.x.machine name ≡ None
  pub exact : IsExact M w

-- how many sectors the backup has to fetch before it has replayed the log
abbrev pub reads_left : {S : Type 0} → Node S → Node S → ℕ
reads_left x y = less_fetched y.fetched (reads_among (drop y.replayed x.log))

-- whatever was lost before: two events for each entry that the backup lacks, three for each sector that it has to fetch, five
-- for each outstanding operation, and five more are enough, while indexes are left for the entries of the completions
abbrev pub PairsSettle : {S : Type 0} → Machine S → Copying S → World S → Type 0
PairsSettle M C w = (n m generation : ℕ) (pair : IsPair w n m generation) (names : List OpId) →
    CoverAll M pair.x.machine names → length names ≤ log_size → length pair.x.log + length names ≤ top →
    Leads M C w (IsPairing n m) (2 * lacks pair.x pair.y + 3 * reads_left pair.x pair.y + 5 * length names + 5)
    (λ new. IsPairAtRest M new n m generation)
