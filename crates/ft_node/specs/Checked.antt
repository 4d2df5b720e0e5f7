-- What the calls of a node return and leave that require nothing of it: its part of the event's row, of as many turns as
-- what it holds fits, or a refusal that is no event's, with the node as it was.
use Rattle.std.specs.Prelude.{◌≡◌, ℕ, ◌<◌, drop, Result, Ok, Err}
use Rattle.guest_lockstep.specs.Machine.{Machine}
use Rattle.guest_lockstep.specs.Outstanding.{IsFrugal}
use Rattle.i8080_words.specs.declared.refusal.Fault.{Fault}
use Rattle.i8080_words.specs.declared.refusal.Fault.TheVariants.{LogFull, Malformed, OutOfMemory}
use Rattle.pair_protocol.specs.Node.{Node, Role, Primary, Backup, Draining}
use Rattle.replayer.specs.Checking as checking
use Rattle.replayer.specs.declared.replayer.Replayed as replayer
use Rattle.ft_node.specs.Calls as calls
use Rattle.ft_node.specs.declared.ran.Drained as ran
use Rattle.ft_node.specs.declared.ran.Ran.{Ran}

-- what a replaying node holds is not of its machine's run: it waits for no bytes, and no move can be made
abbrev pub Diverges : {S : Type 0} → Machine S → Node S → Type 0
Diverges M x = checking.Diverges M x.machine (drop x.replayed x.held) x.fetched

-- a node in this role cannot move, is refused and stays
pub record Refuses {A S : Type 0} (M : Machine S) (role : Role) (turns : ℕ) (x : Node S) (result : Result A Fault)
    (Is : Node S → Type 0) : Type 0 where
  pub refused : result ≡ Err Malformed
  pub role_is : x.role ≡ role
  pub some : 0 < turns
  pub diverges : Diverges M x
  pub stays : Is x

-- a node that made fewer moves, or none, and does not diverge: it lacked an entry, bytes, or memory
abbrev pub Fits : {A S : Type 0} → Machine S → ℕ → (A → ℕ) → Result A Fault → Node S → Type 0
Fits M turns moves (Ok a) y = moves a < turns → Diverges M y → ⊥
Fits M turns moves (Err OutOfMemory) y = Diverges M y → ⊥
Fits M turns moves (Err _) y = Unit {0}

-- moves of a node in this role by the entries that it holds: the row's, of this many turns; the row's, of as many as it
-- moved, at least one, and then it diverges; or none, since it diverges
pub data MovesBy {A S : Type 0} (M : Machine S) (role : Role) (turns : ℕ) (x : Node S) (result : Result A Fault)
    (moves : A → ℕ) (Row : ℕ → (Node S → Type 0) → Type 0) (Is : Node S → Type 0) : Type 0 where
  AllFit : Row turns (λ y. Is y × Fits M turns moves result y) → MovesBy M role turns x result moves Row Is
  SomeFit : (a : A) → result ≡ Ok a → 0 < moves a → moves a < turns → Row (moves a) (λ y. Is y × Diverges M y)
      → MovesBy M role turns x result moves Row Is
  NoneFits : Refuses M role turns x result Is → MovesBy M role turns x result moves Row Is

-- those of a backup, and those of a draining node
abbrev pub Replays : {S : Type 0} → Machine S → ℕ → Node S → Result replayer.Replayed Fault → (Node S → Type 0) → Type 0
Replays M turns x result Is = MovesBy M Backup turns x result (λ r. r.moves) (λ n. calls.Replays M n x result) Is

abbrev pub Drains : {S : Type 0} → Machine S → ℕ → Node S → Result ran.Drained Fault → (Node S → Type 0) → Type 0
Drains M turns x result Is = MovesBy M Draining turns x result (λ d. d.moves) (λ n. calls.Drains M n x result) Is

-- steps: the row's; or none, since a primary has no room to note one more operation, and stays
pub record LacksRoom {S : Type 0} (M : Machine S) (x : Node S) (result : Result Ran Fault)
    (Is : Node S → Type 0) : Type 0 where
  pub refused : result ≡ Err LogFull
  pub role_is : x.role ≡ Primary
  pub not_frugal : IsFrugal M x.machine → ⊥
  pub stays : Is x

pub data Steps {S : Type 0} (M : Machine S) (turns : ℕ) (x : Node S) (result : Result Ran Fault)
    (Is : Node S → Type 0) : Type 0 where
  StepsAll : calls.Steps M turns x result Is → Steps M turns x result Is
  StepsNone : LacksRoom M x result Is → Steps M turns x result Is
