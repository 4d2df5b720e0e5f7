-- What the loop of a host promises of its reader and its writer: its node made a run that took in just the frames that were
-- read, and sent just those that were written.
use Rattle.std.specs.Prelude.{◌≡◌, ℕ, List, [], ◌++◌}
use Rattle.guest_lockstep.specs.Machine.{Machine}
use Rattle.pair_protocol.specs.Copying.{Copying}
use Rattle.pair_protocol.specs.Node.{Node}
use Rattle.host_law.specs.Frame.{Act, Frame, sent, taken}
use Rattle.host_law.specs.Host.{HostRun, HostStep}

-- a run of a host read these frames and wrote those
pub record HostRan {S : Type 0} (M : Machine S) (C : Copying S) (me : ℕ) (x : Node S) (read written : List Frame) (y : Node S)
    : Type 0 where
  pub acts : List Act
  pub run : HostRun M C me x acts y
  pub took : taken acts ≡ read
  pub gave : sent acts ≡ written

-- it begins with nothing, and each call of the node adds the frames that go with it
abbrev pub RunsGoOn : (S : Type 0) → Type 0
RunsGoOn S =
    (M : Machine S) (C : Copying S) (me : ℕ) (x : Node S) →
    HostRan M C me x [] [] x
    × ((read written : List Frame) (y z : Node S) (act : Act) → HostRan M C me x read written y →
    HostStep M C me y act z → HostRan M C me x (read ++ act.takes) (written ++ act.sends) z)
