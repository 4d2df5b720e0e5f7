use Rattle.std.proofs.Common.{arith, ◌≡◌, ◌*◌, ◌≤◌, ◌++◌, [], ◌∷◌, List, ℕ, length, take, drop, ◌∙◌, ap, subst, length-append}
use Rattle.std.proofs.lemmas.List.{take_at, drop_at}
use Rattle.std.proofs.lemmas.Result.{on_ok_weaker}
use Rattle.disk_file.specs.Device.{Cut}
use Rattle.disk_file.specs.Sectors.{contents, journal_of}
use Rattle.disk_file.proofs.Moments.{weaker, then}
use Rattle.disk_file.proofs.Emptied.{cut_short}
use Rattle.disk_file.proofs.recovery.finish.Goals as goal

pub cut_through-requires-clause-here : goal.cut_through-requires-clause-here
cut_through-requires-clause-here g c =
    let disk = contents c.args.sectors (g.D.CrashableFile.seen c.args.device.now) in
    omega (arith, ap length c.in_ok-take_up.ensures.image, length-append disk (0 ∷ []), c.in_ok-take_up.ensures.size)

pub returns-clause-any_moment : goal.returns-clause-any_moment
returns-clause-any_moment g c =
    let sectors = c.args.sectors in
    let disk = contents sectors (g.D.CrashableFile.seen c.args.device.now) in
    let size = c.in_ok-take_up.ensures.size in
    let is = c.in_ok-take_up.ensures.image in
    let P : List ℕ → Type 0 = λ f. contents sectors f ≡ disk in
    let long : 137 * sectors ≤ length (disk ++ 0 ∷ []) = omega (arith, length-append disk (0 ∷ []), size) in
    let none : journal_of sectors (drop (137 * sectors) (disk ++ 0 ∷ [])) ≡ [] = ap (journal_of sectors) (drop_at disk (0 ∷ []) (137 * sectors) size) in
    let two = weaker g.D.CrashableFile.moment g.D.CrashableFile.left_since c.take_up.new.device c.cut_through.new.device _ P
    (λ f cut. cut_short sectors (disk ++ 0 ∷ []) f long none (subst (λ (d : List ℕ). Cut (137 * sectors) d f) is cut) ∙ take_at disk (0 ∷ []) (137 * sectors) size) c.cut_through.ensures.any_moment in
    then g.D.CrashableFile.moment g.D.CrashableFile.left_since c.args.device.now c.take_up.new.device c.cut_through.new.device P c.take_up.ensures.any_moment two

pub returns-clause-image : goal.returns-clause-image
returns-clause-image g c =
    let sectors = c.args.sectors in
    let disk = contents sectors (g.D.CrashableFile.seen c.args.device.now) in
    let step : g.D.CrashableFile.seen c.cut_through.new.device ≡ take (137 * sectors) (g.D.CrashableFile.seen c.take_up.new.device) → g.D.CrashableFile.seen c.cut_through.new.device ≡ disk =
    λ was. was ∙ ap (λ (l : List ℕ). take (137 * sectors) l) c.in_ok-take_up.ensures.image ∙ take_at disk (0 ∷ []) (137 * sectors) c.in_ok-take_up.ensures.size in
    on_ok_weaker c.cut_through.result step c.cut_through.ensures.cut

pub returns-clause-size : goal.returns-clause-size
returns-clause-size g c =
    let sectors = c.args.sectors in
    let disk = contents sectors (g.D.CrashableFile.seen c.args.device.now) in
    let step : g.D.CrashableFile.seen c.cut_through.new.device ≡ take (137 * sectors) (g.D.CrashableFile.seen c.take_up.new.device) → length (g.D.CrashableFile.seen c.cut_through.new.device) ≡ 137 * sectors =
    λ was. ap length (was ∙ ap (λ (l : List ℕ). take (137 * sectors) l) c.in_ok-take_up.ensures.image ∙ take_at disk (0 ∷ []) (137 * sectors) c.in_ok-take_up.ensures.size) ∙ c.in_ok-take_up.ensures.size in
    on_ok_weaker c.cut_through.result step c.cut_through.ensures.cut
