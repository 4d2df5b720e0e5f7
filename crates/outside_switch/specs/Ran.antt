-- What calls of the devices come to, one after another: the frames that they took in and sent are those of a run of the outside.
use Rattle.std.specs.Prelude.{◌≡◌, ℕ, ◌≤◌, List, [], ◌++◌, Option}
use Rattle.guest_lockstep.specs.Machine.{Machine}
use Rattle.shared_disk.specs.declared.store.Record.{Record}
use Rattle.host_law.specs.Frame.{Act, Frame, sent, taken}
use Rattle.host_law.specs.Outside.{Outside, OutsideRun, at_first}
use Rattle.outside_switch.specs.DeviceCalls.{admitted_after}
use Rattle.outside_switch.specs.Held.{Held, at_boot}
use Rattle.pair_protocol.specs.SharedDevices.{IsDisk}
use Rattle.outside_switch.specs.Shown.{Shows}
use Rattle.outside_switch.specs.Steps.{Makes}

-- a run from this outside took in and sent these frames, and the devices show where it leads
pub record OutsideRan {S : Type 0} (M : Machine S) (drives : ℕ) (first : Outside) (read written : List Frame) (held : Held)
    : Type 0 where
  pub acts : List Act
  pub last : Outside
  pub run : OutsideRun M first acts last
  pub took : taken acts ≡ read
  pub gave : sent acts ≡ written
  pub shows : Shows M drives held last
  -- a run counts from the first all hosts that ever come
  pub hosts : last.hosts ≡ first.hosts

-- it begins with nothing, each call that is a step adds the frames that go with it and leads to where that step does, and a
-- host that comes adds none
pub record GoesOn {S : Type 0} (M : Machine S) (drives : ℕ) : Type 0 where
  pub begins : (records : List Record) (may_fail : Option ℕ) (hosts : ℕ) → IsDisk M drives records [] →
      Shows M drives (at_boot records may_fail) (at_first hosts)
  pub rests : (held : Held) (o : Outside) → Shows M drives held o → (ran : OutsideRan M drives o [] [] held) × (ran.last ≡ o)
  pub goes : (first : Outside) (held new : Held) (read written : List Frame) (act : Act) →
      (ran : OutsideRan M drives first read written held) →
      (makes : (o : Outside) → Shows M drives held o → (p : Outside) × Makes M drives o act new p) →
      (more : OutsideRan M drives first (read ++ act.takes) (written ++ act.sends) new)
      × (more.last ≡ (makes ran.last ran.shows).0)
  pub admits : (first : Outside) (held : Held) (host : ℕ) (read written : List Frame) →
      (ran : OutsideRan M drives first read written held) → admitted_after held.hosts host ≤ first.hosts →
      (more : OutsideRan M drives first read written (record held { hosts = admitted_after held.hosts host }))
      × (more.last ≡ ran.last)

abbrev pub RunsGoOn : (S : Type 0) → Type 0
RunsGoOn S = (M : Machine S) (drives : ℕ) → GoesOn M drives
