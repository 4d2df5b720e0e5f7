-- The first terminal has what it may have, so the second one decides.
use Rattle.std.proofs.Common.{subst, sym}
use Rattle.pair_protocol.specs.Faithful.{IsAllBut}
use Rattle.pair_protocol.specs.World.{accepted}
use Rattle.plain_single.specs.SingleState.{output_of}
use Rattle.altair_pair.proofs.Comparisons.{by_second}
use Rattle.altair_pair.proofs.checking.has_output.Goals as goal

pub returns-then-is_all_but : goal.returns-then-is_all_but
returns-then-is_all_but g c = λ course shows.
    let output = output_of c.args.single.now in
    let first = subst (λ bytes. IsAllBut 16 bytes (output 0)) (c.accepted.ensures course shows)
    (subst (λ bytes. IsAllBut 16 c.accepted.result.now bytes) c.outputs.ensures
    (c.is_all_but.ensures.0 c.if-is_all_but.true)) in
    let second = c.is_all_but-then-is_all_but in
    by_second (accepted course.world) output second.result first (
      (λ yes. subst (λ bytes. IsAllBut 16 bytes (output 1)) (c.accepted-then-is_all_but.ensures course shows)
          (subst (λ bytes. IsAllBut 16 c.accepted-then-is_all_but.result.now bytes) c.outputs-then-is_all_but.ensures
          (second.ensures.0 yes))),
      λ all. second.ensures.1 (subst (λ bytes. IsAllBut 16 bytes c.outputs-then-is_all_but.result.now)
          (sym (c.accepted-then-is_all_but.ensures course shows))
          (subst (λ bytes. IsAllBut 16 (accepted course.world 1) bytes) (sym c.outputs-then-is_all_but.ensures) all)),
    )
