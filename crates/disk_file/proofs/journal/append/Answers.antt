use Rattle.std.proofs.Common.{◌≡◌, ◌+◌, ◌*◌, ◌<◌, [], ◌∷◌, ℕ, List, inl, subst, arith}
use Rattle.std.proofs.lemmas.Result.{on_ok_weaker}
use Rattle.disk_file.specs.Device.{Torn, Holds}
use Rattle.disk_file.specs.Sectors.{contents, with_sector, IsBeforeOrAfter}
use Rattle.disk_file.proofs.Moments.{weaker, then}
use Rattle.disk_file.proofs.Steps.{first, second, written, rests_again, then_has}
use Rattle.disk_file.proofs.journal.append.Goals as goal

pub returns-in_err-write_through-clause-any_moment : goal.returns-in_err-write_through-clause-any_moment
returns-in_err-write_through-clause-any_moment g c =
    let sectors = c.args.sectors in
    let file = g.D.CrashableFile.seen c.args.device.now in
    weaker g.D.CrashableFile.moment g.D.CrashableFile.left_since c.args.device.now c.write_through.new.device _ _
    (λ f torn. inl (first sectors c.args.end file c.requires.rests _ f torn)) c.write_through.ensures.any_moment

pub returns-clause-any_moment : goal.returns-clause-any_moment
returns-clause-any_moment g c =
    let sectors = c.args.sectors in
    let file = g.D.CrashableFile.seen c.args.device.now in
    let b = c.block_of-block.ensures in
    let low = b.0 in
    let high = b.1 in
    let is : low + high * 256 ≡ c.args.place = b.2 in
    let sized = b.3 in
    let fits : low + high * 256 < sectors = omega (arith, is, c.requires.fits) in
    let holds = subst (λ (x : List ℕ). Holds file (c.args.end + 1) x (g.D.CrashableFile.seen c.write_through.new.device)) b.4 c.in_ok-write_through.ensures.written in
    let is_staged = written sectors c.args.end file c.requires.rests low high c.args.bytes.now sized fits _ holds in
    let P : List ℕ → Type 0 = IsBeforeOrAfter sectors (contents sectors file) c.args.place c.args.bytes.now in
    let one = weaker g.D.CrashableFile.moment g.D.CrashableFile.left_since c.args.device.now c.write_through.new.device _ P
    (λ f torn. inl (first sectors c.args.end file c.requires.rests _ f torn)) c.write_through.ensures.any_moment in
    let two = weaker g.D.CrashableFile.moment g.D.CrashableFile.left_since c.write_through.new.device c.write_through-2.new.device _ P
    (λ f torn. subst (λ (p : ℕ). IsBeforeOrAfter sectors (contents sectors file) p c.args.bytes.now f) is
    (second sectors c.args.end file c.requires.rests low high c.args.bytes.now sized fits f (subst (λ (d : List ℕ). Torn c.args.end 1 d f) is_staged torn))) c.write_through-2.ensures.any_moment in
    then g.D.CrashableFile.moment g.D.CrashableFile.left_since c.args.device.now c.write_through.new.device c.write_through-2.new.device P one two

pub returns-clause-rests : goal.returns-clause-rests
returns-clause-rests g c =
    let sectors = c.args.sectors in
    let file = g.D.CrashableFile.seen c.args.device.now in
    let b = c.block_of-block.ensures in
    let low = b.0 in
    let high = b.1 in
    let is : low + high * 256 ≡ c.args.place = b.2 in
    let sized = b.3 in
    let fits : low + high * 256 < sectors = omega (arith, is, c.requires.fits) in
    let holds = subst (λ (x : List ℕ). Holds file (c.args.end + 1) x (g.D.CrashableFile.seen c.write_through.new.device)) b.4 c.in_ok-write_through.ensures.written in
    let is_staged = written sectors c.args.end file c.requires.rests low high c.args.bytes.now sized fits _ holds in
    on_ok_weaker _ (λ was. rests_again sectors c.args.end file c.requires.rests low high c.args.bytes.now sized fits (g.D.CrashableFile.seen c.write_through-2.new.device)
    (subst (λ (d : List ℕ). Holds d c.args.end (1 ∷ []) (g.D.CrashableFile.seen c.write_through-2.new.device)) is_staged was)) c.write_through-2.ensures.written

pub returns-clause-written : goal.returns-clause-written
returns-clause-written g c =
    let sectors = c.args.sectors in
    let file = g.D.CrashableFile.seen c.args.device.now in
    let b = c.block_of-block.ensures in
    let low = b.0 in
    let high = b.1 in
    let is : low + high * 256 ≡ c.args.place = b.2 in
    let sized = b.3 in
    let fits : low + high * 256 < sectors = omega (arith, is, c.requires.fits) in
    let holds = subst (λ (x : List ℕ). Holds file (c.args.end + 1) x (g.D.CrashableFile.seen c.write_through.new.device)) b.4 c.in_ok-write_through.ensures.written in
    let is_staged = written sectors c.args.end file c.requires.rests low high c.args.bytes.now sized fits _ holds in
    on_ok_weaker _ (λ was. subst (λ (p : ℕ). contents sectors (g.D.CrashableFile.seen c.write_through-2.new.device) ≡ with_sector (contents sectors file) p c.args.bytes.now) is
    (then_has sectors c.args.end file c.requires.rests low high c.args.bytes.now sized fits (g.D.CrashableFile.seen c.write_through-2.new.device)
    (subst (λ (d : List ℕ). Holds d c.args.end (1 ∷ []) (g.D.CrashableFile.seen c.write_through-2.new.device)) is_staged was))) c.write_through-2.ensures.written
