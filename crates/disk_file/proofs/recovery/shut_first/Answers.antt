use Rattle.std.proofs.Common.{rules, ◌≡◌, ◌≤◌, length, drop, slice_index_or, sym, ◌∙◌}
use Rattle.disk_file.proofs.Moments.{weaker}
use Rattle.disk_file.proofs.Reading.{begins}
use Rattle.disk_file.proofs.Emptied.{gate_torn}
use Rattle.disk_file.proofs.recovery.shut_first.Goals as goal

pub returns-clause-any_moment : goal.returns-clause-any_moment
returns-clause-any_moment g c =
    let d = g.D.CrashableFile.seen c.args.device.now in
    let long : 1 ≤ length c.args.journal.now = search rules in
    let first : slice_index_or c.args.journal.now 0 0 ≡ 1 = search rules in
    let behind = sym c.requires.is ∙ begins c.args.journal.now long first in
    weaker g.D.CrashableFile.moment g.D.CrashableFile.left_since c.args.device.now c.write_through.new.device _ _
    (λ f torn. gate_torn c.args.sectors d f (drop 1 c.args.journal.now) behind c.requires.long c.requires.done torn) c.write_through.ensures.any_moment
