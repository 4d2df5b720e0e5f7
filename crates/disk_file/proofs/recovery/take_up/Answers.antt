use Rattle.std.proofs.Common.{◌≡◌, ◌*◌, List, ℕ, take, sym, ◌∙◌, ap, subst}
use Rattle.std.proofs.lemmas.List.{length-take-le}
use Rattle.std.proofs.lemmas.Result.{on_ok_weaker}
use Rattle.disk_file.specs.Sectors.{contents, Resting}
use Rattle.disk_file.proofs.Moments.{started, goes_on, weaker, then}
use Rattle.disk_file.proofs.Redo.{redone_stands}
use Rattle.disk_file.proofs.Emptied.{image_rests}
use Rattle.disk_file.proofs.recovery.take_up.Goals as goal

pub returns-in_err-shut_first-clause-any_moment : goal.returns-in_err-shut_first-clause-any_moment
returns-in_err-shut_first-clause-any_moment g c =
    let start = g.D.CrashableFile.seen c.args.device.now in
    let done = c.in_ok-redo.ensures.done in
    let same = c.read.ensures.seen in
    let P : List ℕ → Type 0 = λ f. contents c.args.sectors f ≡ contents c.args.sectors start in
    let zero = started g.D.CrashableFile.moment g.D.CrashableFile.left_since c.args.device.now P (λ f left. ap (contents c.args.sectors) (c.requires.durable f (g.met.D.CrashableFile.only_now c.args.device.now f left))) in
    let read = goes_on g.D.CrashableFile.moment g.D.CrashableFile.left_since c.args.device.now c.args.device.now c.read.new.self P _ zero c.read.ensures.time (λ f now. ap (contents c.args.sectors) (c.requires.durable f (c.read.ensures.crash f now))) in
    let one = weaker g.D.CrashableFile.moment g.D.CrashableFile.left_since c.read.new.self c.redo.new.device _ P
    (λ f redone. redone_stands c.args.sectors (g.D.CrashableFile.seen c.read.new.self) f redone ∙ ap (contents c.args.sectors) same) c.redo.ensures.any_moment in
    let two = weaker g.D.CrashableFile.moment g.D.CrashableFile.left_since c.redo.new.device c.shut_first.new.device _ P
    (λ f is. is ∙ done ∙ ap (contents c.args.sectors) same) c.shut_first.ensures.any_moment in
    then g.D.CrashableFile.moment g.D.CrashableFile.left_since c.args.device.now c.redo.new.device c.shut_first.new.device P
    (then g.D.CrashableFile.moment g.D.CrashableFile.left_since c.args.device.now c.read.new.self c.redo.new.device P read one) two

pub returns-clause-any_moment : goal.returns-clause-any_moment
returns-clause-any_moment g c =
    let start = g.D.CrashableFile.seen c.args.device.now in
    let done = c.in_ok-redo.ensures.done in
    let same = c.read.ensures.seen in
    let P : List ℕ → Type 0 = λ f. contents c.args.sectors f ≡ contents c.args.sectors start in
    let zero = started g.D.CrashableFile.moment g.D.CrashableFile.left_since c.args.device.now P (λ f left. ap (contents c.args.sectors) (c.requires.durable f (g.met.D.CrashableFile.only_now c.args.device.now f left))) in
    let read = goes_on g.D.CrashableFile.moment g.D.CrashableFile.left_since c.args.device.now c.args.device.now c.read.new.self P _ zero c.read.ensures.time (λ f now. ap (contents c.args.sectors) (c.requires.durable f (c.read.ensures.crash f now))) in
    let one = weaker g.D.CrashableFile.moment g.D.CrashableFile.left_since c.read.new.self c.redo.new.device _ P
    (λ f redone. redone_stands c.args.sectors (g.D.CrashableFile.seen c.read.new.self) f redone ∙ ap (contents c.args.sectors) same) c.redo.ensures.any_moment in
    let two = weaker g.D.CrashableFile.moment g.D.CrashableFile.left_since c.redo.new.device c.shut_first.new.device _ P
    (λ f is. is ∙ done ∙ ap (contents c.args.sectors) same) c.shut_first.ensures.any_moment in
    let three = weaker g.D.CrashableFile.moment g.D.CrashableFile.left_since c.shut_first.new.device c.cut_off.new.device _ P
    (λ f is. is ∙ c.in_ok-shut_first.ensures.image ∙ done ∙ ap (contents c.args.sectors) same) c.cut_off.ensures.any_moment in
    then g.D.CrashableFile.moment g.D.CrashableFile.left_since c.args.device.now c.shut_first.new.device c.cut_off.new.device P
    (then g.D.CrashableFile.moment g.D.CrashableFile.left_since c.args.device.now c.redo.new.device c.shut_first.new.device P
    (then g.D.CrashableFile.moment g.D.CrashableFile.left_since c.args.device.now c.read.new.self c.redo.new.device P read one) two) three

pub returns-clause-rests : goal.returns-clause-rests
returns-clause-rests g c =
    let size = 137 * c.args.sectors in
    let d = g.D.CrashableFile.seen c.shut_first.new.device in
    on_ok_weaker _ (λ was. subst (Resting c.args.sectors size) (sym was) (image_rests c.args.sectors (take size d) (length-take-le size d c.in_ok-shut_first.ensures.long))) c.cut_off.ensures.image
