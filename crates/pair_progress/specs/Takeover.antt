-- Takeover: a node that may still serve goes live by itself.
use Rattle.std.specs.Prelude.{◌≡◌, ℕ, suc, ◌+◌, ◌-◌, ◌*◌, ◌⊎◌, Bool, true, false, Option, Some, None, List, [], ◌∷◌, drop, slice_get}
use Rattle.guest_lockstep.specs.Machine.{Machine}
use Rattle.log_entry.specs.Entries.{is_read}
use Rattle.log_entry.specs.declared.entry.Entry.{Entry}
use Rattle.pair_events.specs.declared.event.Event.{Event}
use Rattle.pair_events.specs.declared.event.Event.TheVariants.{Suspect, Drain, Fetch, Fetched}
use Rattle.pair_protocol.specs.Copying.{Copying}
use Rattle.pair_protocol.specs.Node.{Node, Role, Primary, Backup, Joining, Draining, Alone, Spare}
use Rattle.pair_protocol.specs.World.{World, winner_in}
use Rattle.pair_progress.specs.Leads.{Leads}

-- what a node does by itself to go live: it asks the arbiter, drains, and asks the shared disk for what it lacks
abbrev pub IsItsOwn : ℕ → Event → Type 0
IsItsOwn n (Suspect m) = m ≡ n
IsItsOwn n (Drain m turns) = m ≡ n
IsItsOwn n (Fetch m) = m ≡ n
IsItsOwn n (Fetched message m) = m ≡ n
IsItsOwn n e = ⊥

-- a node that may still serve: it is up and whole, and nobody has won its generation, or it has
pub record MayServe {S : Type 0} (w : World S) (n : ℕ) (x : Node S) : Type 0 where
  pub there : slice_get w.nodes n ≡ Some x
  pub up : x.running ≡ true
  pub who :
      (((x.role ≡ Primary) ⊎ (x.role ≡ Backup)) × (winner_in w.winners x.generation ≡ None))
      ⊎ ((x.role ≡ Draining) ⊎ (x.role ≡ Alone))

-- it is live
pub record IsLive {S : Type 0} (w : World S) (n generation : ℕ) : Type 0 where
  pub x : Node S
  pub there : slice_get w.nodes n ≡ Some x
  pub up : x.running ≡ true
  pub alone : x.role ≡ Alone
  pub generation_is : x.generation ≡ generation

-- how many entries of a list are reads
abbrev pub read_and : Bool → ℕ → ℕ
read_and true k = suc k
read_and false k = k

abbrev pub reads_among : List Entry → ℕ
reads_among [] = 0
reads_among (e ∷ es) = read_and (is_read e) (reads_among es)

-- how many sectors a node that replays has still to fetch
abbrev pub less_fetched : Option (List ℕ) → ℕ → ℕ
less_fetched None k = k
less_fetched (Some bytes) k = k - 1

abbrev pub to_fetch : {S : Type 0} → Node S → ℕ
to_fetch x = less_fetched x.fetched (reads_among (drop x.replayed x.held))

-- how many events it needs: a primary asks; a backup also drains, and for each sector that it has to fetch it asks the disk,
-- is answered, and drains again
abbrev pub takeover_events : {S : Type 0} → Node S → Role → ℕ
takeover_events x Primary = 1
takeover_events x Backup = 2 + 3 * to_fetch x
takeover_events x Draining = 1 + 3 * to_fetch x
takeover_events x Alone = 0
takeover_events x Joining = 0
takeover_events x Spare = 0

-- whatever happened before, a node that may still serve goes live by so few events of its own
abbrev pub TakesOver : {S : Type 0} → Machine S → Copying S → World S → Type 0
TakesOver {S} M C w = (n : ℕ) (x : Node S) → MayServe w n x →
    Leads M C w (IsItsOwn n) (takeover_events x x.role) (λ new. IsLive new n x.generation)
