-- The laws of `pair_progress`, of processes: whatever was lost before, a bounded list of their own steps brings the service back.
use Rattle.std.specs.Prelude.{◌≡◌, ℕ, suc, ◌+◌, ◌*◌, ◌<◌, ◌≤◌, ◌⊎◌, true, false, Option, Some, None, List, length, slice_get}
use Rattle.event_callbacks.specs.declared.operations.OpId.{OpId}
use Rattle.event_callbacks.specs.declared.operations.Operation.{Operation}
use Rattle.guest_lockstep.specs.Machine.{Machine}
use Rattle.guest_lockstep.specs.declared.input.Input.TheVariants.{Rx}
use Rattle.pair_protocol.specs.Copying.{Copying, IsCopying}
use Rattle.pair_protocol.specs.Lawful.{Lawful, top}
use Rattle.pair_protocol.specs.Node.{Node, Role, Primary, Backup, Joining, Draining, Alone, Spare}
use Rattle.pair_protocol.specs.Refusals.{last_generation, log_size}
use Rattle.pair_protocol.specs.World.{World, terminal, winner_in}
use Rattle.pair_progress.specs.CatchingUp.{IsCaughtUp, IsPair, lacks}
use Rattle.pair_progress.specs.Completion.{CoverAll, IsAtRest}
use Rattle.pair_progress.specs.Reading.{HasTaken, IsDue}
use Rattle.pair_progress.specs.Renewal.{HasBegun, missing}
use Rattle.pair_progress.specs.Settling.{IsPairAtRest, reads_left}
use Rattle.pair_progress.specs.Takeover.{IsLive, to_fetch}
use Rattle.host_law.specs.Fleet.{Fleet}
use Rattle.host_law.specs.Shows.{Shows}
use Rattle.host_progress.specs.Exchanges.{HostsReach}

-- for each lawful machine and each copy of it of which more is asked, the law holds of every fleet and the world that it shows
abbrev pub OfFleets : (S : Type 0) → (Machine S → Copying S → Type 0) →
    (Machine S → Copying S → Fleet S → World S → Type 0) → Type 0
OfFleets S Asks Law =
    (M : Machine S) (C : Copying S) → Lawful M → IsCopying M C → Asks M C → (f : Fleet S) (w : World S) → Shows M C f w →
    Law M C f w

-- this host, or one of these two
abbrev pub Only : ℕ → ℕ → Type 0
Only n k = k ≡ n

abbrev pub Either : ℕ → ℕ → ℕ → Type 0
Either n m k = (k ≡ n) ⊎ (k ≡ m)

-- a host that may still serve: it is up and whole, and the arbiter has given its generation to nobody, or to this host, which may
-- have lost the answer
pub record HostMayServe {S : Type 0} (f : Fleet S) (n : ℕ) (x : Node S) : Type 0 where
  pub there : slice_get f.hosts n ≡ Some x
  pub up : x.running ≡ true
  pub who :
      (((x.role ≡ Primary) ⊎ (x.role ≡ Backup))
      × ((winner_in f.outside.winners x.generation ≡ None) ⊎ (winner_in f.outside.winners x.generation ≡ Some n)))
      ⊎ ((x.role ≡ Draining) ⊎ (x.role ≡ Alone))

-- how many steps it needs: it asks, the arbiter answers, and it hears that; a backup then drains, and for each sector that it has
-- to fetch it asks, the disk answers, it hears that, and drains again
abbrev pub takeover_steps : {S : Type 0} → Node S → Role → ℕ
takeover_steps x Primary = 3
takeover_steps x Backup = 4 + 4 * to_fetch x
takeover_steps x Draining = 1 + 4 * to_fetch x
takeover_steps x Alone = 0
takeover_steps x Joining = 0
takeover_steps x Spare = 0

-- it goes live, whatever the other hosts do or do not do
abbrev pub HostsTakeOver : {S : Type 0} → Machine S → Copying S → Fleet S → World S → Type 0
HostsTakeOver {S} M C f w = (n : ℕ) (x : Node S) → HostMayServe f n x →
    HostsReach M C f (Only n) (takeover_steps x x.role) (λ new. IsLive new n x.generation)

-- four steps for each outstanding operation: it is released, its device takes it and answers, and the host hears the answer
abbrev pub HostsComplete : {S : Type 0} → Machine S → Copying S → Fleet S → World S → Type 0
HostsComplete M C f w = (n generation : ℕ) (live : IsLive w n generation) (names : List OpId) →
    CoverAll M live.x.machine names →
    HostsReach M C f (Only n) (4 * length names) (λ new. IsAtRest M new n generation)

abbrev pub HostsCompleteSoon : {S : Type 0} → Machine S → Copying S → Fleet S → World S → Type 0
HostsCompleteSoon M C f w = (n generation : ℕ) → IsLive w n generation →
    HostsReach M C f (Only n) 160 (λ new. IsAtRest M new n generation)

abbrev pub HostsRecover : {S : Type 0} → Machine S → Copying S → Fleet S → World S → Type 0
HostsRecover {S} M C f w = (n : ℕ) (x : Node S) → HostMayServe f n x →
    HostsReach M C f (Only n) (takeover_steps x x.role + 160) (λ new. IsAtRest M new n x.generation)

-- three steps for each entry that the backup lacks, and three for the acknowledgement: each frame goes by the outside
abbrev pub HostsCatchUp : {S : Type 0} → Machine S → Copying S → Fleet S → World S → Type 0
HostsCatchUp M C f w = (n m generation : ℕ) (pair : IsPair w n m generation) →
    HostsReach M C f (Either n m) (3 * lacks pair.x pair.y + 3) (λ new. IsCaughtUp new n m generation)

-- the same; and for each sector that the backup has to fetch four, for each outstanding operation seven, and seven more are enough
-- for all to be replayed and completed, while indexes are left for the entries of the completions
abbrev pub HostsSettle : {S : Type 0} → Machine S → Copying S → Fleet S → World S → Type 0
HostsSettle M C f w = (n m generation : ℕ) (pair : IsPair w n m generation) (names : List OpId) →
    CoverAll M pair.x.machine names → length names ≤ log_size → length pair.x.log + length names ≤ top →
    HostsReach M C f (Either n m)
    (3 * lacks pair.x pair.y + 4 * reads_left pair.x pair.y + 7 * length names + 7)
    (λ new. IsPairAtRest M new n m generation)

-- three steps for each part that has not come, if the host has heard that it joins
abbrev pub HostsGetParts : {S : Type 0} → Machine S → Copying S → Fleet S → World S → Type 0
HostsGetParts M C f w = (n host generation : ℕ) (pair : HasBegun w n host generation) → slice_get f.hosts host ≡ Some pair.y →
    HostsReach M C f (Either n host) (3 * missing pair.y.parts) (λ new. IsPair new n host generation)

-- a live host and the spare one of the next generation's number: it is offered, the generation begins, and its image is sent
abbrev pub HostsRenew : {S : Type 0} → Machine S → Copying S → Fleet S → World S → Type 0
HostsRenew {S} M C f w = (n generation : ℕ) → IsLive w n generation → generation < last_generation → (y : Node S) →
    slice_get f.hosts (suc generation) ≡ Some y → y.role ≡ Spare →
    HostsReach M C f (Either n (suc generation)) (3 * C.part_count + 4) (λ new. IsPair new n (suc generation) (suc generation))

-- a live host has taken a key, and has made a step
pub record HasKey {S : Type 0} (M : Machine S) (w : World S) (n generation : ℕ) (s : S) (port byte : ℕ) : Type 0 where
  pub live : IsLive w n generation
  pub taken : M.take s (Rx port byte) ≡ Some live.x.machine

pub record HasStepped {S : Type 0} (M : Machine S) (w : World S) (n generation : ℕ) (s : S) : Type 0 where
  pub live : IsLive w n generation
  pub gives : Option Operation
  pub made : M.step s ≡ Some (live.x.machine, gives)

-- it takes the next key that was typed, if a number is left for it
abbrev pub HostsTakeKeys : {S : Type 0} → Machine S → Copying S → Fleet S → World S → Type 0
HostsTakeKeys M C f w = (n generation : ℕ) (live : IsLive w n generation) (port byte : ℕ) → port < 2 →
    M.keys live.x.machine port < top → slice_get (terminal w port).typed (M.keys live.x.machine port) ≡ Some byte →
    HostsReach M C f (Only n) 2 (λ new. HasKey M new n generation live.x.machine port byte)

-- it makes a step whenever its guest does
abbrev pub HostsGoOn : {S : Type 0} → Machine S → Copying S → Fleet S → World S → Type 0
HostsGoOn {S} M C f w = (n generation : ℕ) (live : IsLive w n generation) (t : S) (gives : Option Operation) →
    M.is_spent live.x.machine ≡ false → M.step live.x.machine ≡ Some (t, gives) →
    HostsReach M C f (Only n) 1 (λ new. HasStepped M new n generation live.x.machine)

-- where nothing is outstanding, a sector that is due comes: the disk is asked, and the answer is taken
abbrev pub HostsRead : {S : Type 0} → Machine S → Copying S → Fleet S → World S → Type 0
HostsRead M C f w = (n generation : ℕ) (rest : IsAtRest M w n generation) (drive sector : ℕ) →
    IsDue M rest.live.x.machine drive sector →
    HostsReach M C f (Only n) 3 (λ new. HasTaken M new n generation rest.live.x.machine drive sector)
