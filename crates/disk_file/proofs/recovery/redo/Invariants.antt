use Rattle.std.proofs.Common.{◌≡◌, ◌*◌, ◌≤◌, ◌++◌, List, ℕ, length, take, drop}
use Rattle.disk_file.specs.Device.{LeavesOnly}
use Rattle.disk_file.specs.Sectors.{Entry, applied, journal_of, Redone}
use Rattle.disk_file.proofs.recovery.redo.Given as goal

abbrev pub invariant-loop-place : goal.invariant-loop-place
invariant-loop-place g l = record {
  entered : (done : List Entry) × (journal_of l.sectors (drop (137 * l.sectors) (g.D.CrashableFile.seen l.initial.device)) ≡ done ++ journal_of l.sectors l.rest)
      × (take (137 * l.sectors) (g.D.CrashableFile.seen l.device) ≡ applied (take (137 * l.sectors) (g.D.CrashableFile.seen l.initial.device)) done);
  redone : Redone l.sectors (g.D.CrashableFile.seen l.initial.device) (g.D.CrashableFile.seen l.device);
  after : (c : List ℕ) → g.D.CrashableFile.may_leave l.device c → Redone l.sectors (g.D.CrashableFile.seen l.initial.device) c;
  any_moment : LeavesOnly g.D.CrashableFile.moment g.D.CrashableFile.left_since l.initial.device l.device (Redone l.sectors (g.D.CrashableFile.seen l.initial.device));
  time : g.D.CrashableFile.faults l.initial.device ≤ g.D.CrashableFile.faults l.device;
}

abbrev pub decreases-loop-place : goal.decreases-loop-place
decreases-loop-place g l = length l.rest
