use Rattle.std.proofs.Common.{rules, ◌≡◌, ◌≤◌, length, ap, arith}
use Rattle.disk_file.proofs.Tears.{torn_less}
use Rattle.disk_file.proofs.crashing.CrashingMemoryCrashableFile.write_at.Goals as goal

pub returns-in_err-write_at-clause-crash : goal.returns-in_err-write_at-clause-crash
returns-in_err-write_at-clause-crash c f left =
    let was = c.write_at-2.ensures.crash f left in
    let is : c.deref.result.now ≡ c.in_ok-torn.torn.items = search rules in
    let less : length c.deref.result.now ≤ length c.args.bytes.now = omega (arith, ap length is, c.in_ok-torn.ensures) in
    (was.0, was.1, torn_less c.args.at (length c.deref.result.now) (length c.args.bytes.now) was.0 f less was.2)

pub returns-clause-crash : goal.returns-clause-crash
returns-clause-crash c f left =
    let was = c.write_at-2.ensures.crash f left in
    let is : c.deref.result.now ≡ c.in_ok-torn.torn.items = search rules in
    let less : length c.deref.result.now ≤ length c.args.bytes.now = omega (arith, ap length is, c.in_ok-torn.ensures) in
    (was.0, was.1, torn_less c.args.at (length c.deref.result.now) (length c.args.bytes.now) was.0 f less was.2)
