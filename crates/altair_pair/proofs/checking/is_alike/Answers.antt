-- The outputs are not alike, or the sectors decide.
use Rattle.std.proofs.Common.{sym, ◌∙◌, subst, true≢false}
use Rattle.ft_world.specs.Standing.{machine_of}
use Rattle.plain_single.specs.SingleState.{output_of}
use Rattle.plain_single.specs.Image.{sector_at}
use Rattle.altair_pair.specs.Disks.{over_records}
use Rattle.altair_pair.specs.Comparing.{IsAnswer, deeds_of}
use Rattle.altair_pair.proofs.Comparisons.{by_sectors, some_bad, unlike_output}
use Rattle.altair_pair.proofs.Disks.{shows_records}
use Rattle.altair_pair.proofs.checking.is_alike.Goals as goal

pub returns-then-has_output-clause-answer : goal.returns-then-has_output-clause-answer
unfolding over_records
returns-then-has_output-clause-answer g c = λ course shows.
    by_sectors c.args.drives (deeds_of (machine_of g.B.Lockstep.machine course) course.world c.args.inputs.now)
    c.args.world.now.disk.store (output_of c.args.single.now) c.args.single.now.behind.writes
    (sector_at c.args.single.now.disk) c.has_disk.result
    ((c.has_output.ensures course shows).0 c.if-has_output.true)
    (λ all. λ drive d. λ track t. λ sector s. c.has_disk.ensures.tells.yes all drive d track t sector s course
    (shows_records g.B.Lockstep.state g.B.Copies.copied g.B.Lockstep.machine c.args.world.now course shows))
    (λ some. some_bad g.B.Lockstep.state g.B.Copies.copied g.B.Lockstep.machine (over_records c.args.world.now) c.args.single.now
    c.args.inputs.now c.args.drives course
    (shows_records g.B.Lockstep.state g.B.Copies.copied g.B.Lockstep.machine c.args.world.now course shows)
    (c.has_disk.ensures.tells.no some))

pub returns-else-has_output-clause-answer : goal.returns-else-has_output-clause-answer
returns-else-has_output-clause-answer g c = λ course shows.
    let d = deeds_of (machine_of g.B.Lockstep.machine course) course.world c.args.inputs.now in
    subst
    (λ answer. IsAnswer c.args.drives d c.args.world.now.disk.store (output_of c.args.single.now)
    c.args.single.now.behind.writes (sector_at c.args.single.now.disk) answer)
    (sym c.if-has_output.false)
    (unlike_output c.args.drives d c.args.world.now.disk.store (output_of c.args.single.now)
    c.args.single.now.behind.writes (sector_at c.args.single.now.disk)
    (λ outputs. true≢false (sym ((c.has_output.ensures course shows).1 outputs) ∙ c.if-has_output.false)))
