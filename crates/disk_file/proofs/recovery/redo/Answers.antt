use Rattle.std.proofs.Common.{rules, arith, ◌*◌, ◌++◌, [], ◌∷◌, List, ℕ, take, sym, ◌∙◌, ap, subst, refl, append_assoc}
use Rattle.disk_file.specs.Device.{Torn}
use Rattle.disk_file.specs.Sectors.{Entry, journal_of, with_sector, Redone}
use Rattle.disk_file.proofs.Blocks.{applied-append}
use Rattle.disk_file.proofs.Moments.{goes_on}
use Rattle.disk_file.proofs.Redo.{torn_redone, is_torn, written_sector}
use Rattle.disk_file.proofs.recovery.redo.Goals as goal

pub overflow_mul-place : goal.overflow_mul-place
overflow_mul-place g c = omega (arith, c.in-Some.ensures.fits.0, c.requires.few)

pub returns-in_err-write_at-clause-any_moment : goal.returns-in_err-write_at-clause-any_moment
returns-in_err-write_at-clause-any_moment g c =
    let sectors = c.args.sectors in
    let start = g.D.CrashableFile.seen c.args.device.now in
    let i = c.loop-place.invariant in
    let fits = c.in-Some.ensures.fits in
    let e : Entry = record { place = c.in-Some.place; bytes = c.in-Some.bytes.now } in
    let journal = i.entered.1 ∙ ap (λ (es : List Entry). i.entered.0 ++ es) c.in-Some.ensures.entry in
    let after : (f : List ℕ) → g.D.CrashableFile.may_leave c.write_at.new.self f → Redone sectors start f = λ f now.
    let from = c.write_at.ensures.crash f now in
    torn_redone sectors start c.requires.long e.place fits.0 i.entered.0 e _ journal refl from.0 f (i.after from.0 from.1) (subst (λ (n : ℕ). Torn (137 * e.place) n from.0 f) fits.1 from.2) in
    goes_on g.D.CrashableFile.moment g.D.CrashableFile.left_since c.args.device.now c.loop-place.device c.write_at.new.self _ _ i.any_moment c.write_at.ensures.time after

pub loop-place-preserved : goal.loop-place-preserved
loop-place-preserved g c =
    let sectors = c.args.sectors in
    let start = g.D.CrashableFile.seen c.args.device.now in
    let i = c.loop-place.invariant in
    let fits = c.in-Some.ensures.fits in
    let e : Entry = record { place = c.in-Some.place; bytes = c.in-Some.bytes.now } in
    let journal = i.entered.1 ∙ ap (λ (es : List Entry). i.entered.0 ++ es) c.in-Some.ensures.entry in
    let after : (f : List ℕ) → g.D.CrashableFile.may_leave c.write_at.new.self f → Redone sectors start f = λ f now.
    let from = c.write_at.ensures.crash f now in
    torn_redone sectors start c.requires.long e.place fits.0 i.entered.0 e _ journal refl from.0 f (i.after from.0 from.1) (subst (λ (n : ℕ). Torn (137 * e.place) n from.0 f) fits.1 from.2) in
    let d = g.D.CrashableFile.seen c.loop-place.device in
    let f = g.D.CrashableFile.seen c.write_at.new.self in
    let holds = c.in_ok-write_at.ensures.written in
    let torn = is_torn sectors start c.requires.long e.place fits.0 e.bytes d f fits.1 i.redone.size holds in
    let image = written_sector sectors start c.requires.long e.place fits.0 e.bytes d f fits.1 i.redone.size holds in
    let start_image = take (137 * sectors) start in
    record {
      entered = (
        i.entered.0 ++ e ∷ [],
        journal ∙ sym (append_assoc i.entered.0 (e ∷ []) (journal_of sectors c.in-Some.after.now)),
        image ∙ ap (λ (l : List ℕ). with_sector l e.place e.bytes) i.entered.2 ∙ sym (applied-append sectors start_image i.entered.0 (e ∷ [])),
      );
      redone = torn_redone sectors start c.requires.long e.place fits.0 i.entered.0 e _ journal refl d f i.redone torn;
      after = after;
      any_moment = goes_on g.D.CrashableFile.moment g.D.CrashableFile.left_since c.args.device.now c.loop-place.device c.write_at.new.self _ _ i.any_moment c.write_at.ensures.time after;
      time = search rules;
    }
