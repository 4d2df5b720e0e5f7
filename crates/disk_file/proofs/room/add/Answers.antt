use Rattle.std.proofs.Common.{List, ℕ, inl, subst}
use Rattle.disk_file.specs.Device.{LeavesOnly}
use Rattle.disk_file.specs.Sectors.{IsBeforeOrAfter, contents}
use Rattle.disk_file.proofs.Moments.{weaker, then}
use Rattle.disk_file.proofs.room.add.Goals as goal

pub returns-in_err-append-clause-any_moment : goal.returns-in_err-append-clause-any_moment
returns-in_err-append-clause-any_moment g c =
    let sectors = c.args.sectors in
    let P : List ℕ → List ℕ → Type 0 = λ disk f. IsBeforeOrAfter sectors disk c.args.place c.args.bytes.now f in
    let disk = contents sectors (g.D.CrashableFile.seen c.args.device.now) in
    let one = weaker g.D.CrashableFile.moment g.D.CrashableFile.left_since c.args.device.now c.make_room.new.device _ (P disk)
    (λ f same. inl same) c.make_room.ensures.any_moment in
    let two = subst (λ (d : List ℕ). LeavesOnly g.D.CrashableFile.moment g.D.CrashableFile.left_since c.make_room.new.device c.append.new.device (P d))
    c.in_ok-end.ensures.same c.append.ensures.any_moment in
    then g.D.CrashableFile.moment g.D.CrashableFile.left_since c.args.device.now c.make_room.new.device c.append.new.device (P disk) one two

pub returns-clause-any_moment : goal.returns-clause-any_moment
returns-clause-any_moment g c =
    let sectors = c.args.sectors in
    let P : List ℕ → List ℕ → Type 0 = λ disk f. IsBeforeOrAfter sectors disk c.args.place c.args.bytes.now f in
    let disk = contents sectors (g.D.CrashableFile.seen c.args.device.now) in
    let one = weaker g.D.CrashableFile.moment g.D.CrashableFile.left_since c.args.device.now c.make_room.new.device _ (P disk)
    (λ f same. inl same) c.make_room.ensures.any_moment in
    let two = subst (λ (d : List ℕ). LeavesOnly g.D.CrashableFile.moment g.D.CrashableFile.left_since c.make_room.new.device c.append.new.device (P d))
    c.in_ok-end.ensures.same c.append.ensures.any_moment in
    then g.D.CrashableFile.moment g.D.CrashableFile.left_since c.args.device.now c.make_room.new.device c.append.new.device (P disk) one two
