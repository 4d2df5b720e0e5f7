use Rattle.std.proofs.Common.{◌≡◌, ◌*◌, [], ◌∷◌, List, ℕ, take, subst}
use Rattle.std.proofs.lemmas.List.{length-take-le}
use Rattle.std.proofs.lemmas.Result.{on_ok_weaker}
use Rattle.disk_file.specs.Device.{Torn, Holds}
use Rattle.disk_file.specs.Sectors.{contents}
use Rattle.disk_file.proofs.Moments.{weaker, then}
use Rattle.disk_file.proofs.Emptied.{cut_short, end_torn, end_written}
use Rattle.disk_file.proofs.recovery.cut_off.Goals as goal

pub returns-in_err-cut_through-clause-any_moment : goal.returns-in_err-cut_through-clause-any_moment
returns-in_err-cut_through-clause-any_moment g c =
    let d = g.D.CrashableFile.seen c.args.device.now in
    weaker g.D.CrashableFile.moment g.D.CrashableFile.left_since c.args.device.now c.cut_through.new.device _ _
    (λ f cut. cut_short c.args.sectors d f c.requires.long c.requires.nothing cut) c.cut_through.ensures.any_moment

pub returns-clause-any_moment : goal.returns-clause-any_moment
returns-clause-any_moment g c =
    let d = g.D.CrashableFile.seen c.args.device.now in
    let size = 137 * c.args.sectors in
    let P : List ℕ → Type 0 = λ f. contents c.args.sectors f ≡ take size d in
    let one = weaker g.D.CrashableFile.moment g.D.CrashableFile.left_since c.args.device.now c.cut_through.new.device _ P
    (λ f cut. cut_short c.args.sectors d f c.requires.long c.requires.nothing cut) c.cut_through.ensures.any_moment in
    let is = c.in_ok-cut_through.ensures.cut in
    let two = weaker g.D.CrashableFile.moment g.D.CrashableFile.left_since c.cut_through.new.device c.write_through.new.device _ P
    (λ f torn. end_torn c.args.sectors (take size d) f (length-take-le size d c.requires.long) (subst (λ (e : List ℕ). Torn size 1 e f) is torn)) c.write_through.ensures.any_moment in
    then g.D.CrashableFile.moment g.D.CrashableFile.left_since c.args.device.now c.cut_through.new.device c.write_through.new.device P one two

pub returns-clause-image : goal.returns-clause-image
returns-clause-image g c =
    let d = g.D.CrashableFile.seen c.args.device.now in
    let size = 137 * c.args.sectors in
    let is = c.in_ok-cut_through.ensures.cut in
    on_ok_weaker _ (λ was. end_written c.args.sectors (take size d) (g.D.CrashableFile.seen c.write_through.new.device) (length-take-le size d c.requires.long)
    (subst (λ (e : List ℕ). Holds e size (0 ∷ []) (g.D.CrashableFile.seen c.write_through.new.device)) is was)) c.write_through.ensures.written
