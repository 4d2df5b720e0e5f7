use Rattle.std.proofs.Common.{rules, arith, ◌≡◌, ◌*◌, ◌≤◌, [], ◌∷◌, length, ap, length-append}
use Rattle.std.proofs.lemmas.List.{length-take-le}
use Rattle.disk_file.proofs.session_opening.read_records.Goals as goal

pub records_of-requires : goal.records_of-requires
records_of-requires g c =
    let file = g.D.CrashableFile.seen c.args.device.now in
    let rests = c.requires.rests in
    let is : c.deref.result.now ≡ file = search rules in
    let long : 137 * c.args.sectors ≤ length c.deref.result.now = omega (arith, ap length is, ap length rests.1, length-append rests.0 (0 ∷ []), rests.2) in
    record { whole = (c.args.sectors, length-take-le (137 * c.args.sectors) c.deref.result.now long) }
