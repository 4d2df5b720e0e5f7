use Rattle.std.proofs.Common.{◌≡◌, ◌+◌, ◌-◌, ◌*◌, ◌++◌, ℕ, take, drop, ap, ◌∙◌, arith}
use Rattle.clone_state.proofs.spelling.write_page.Goals as goal

pub returns-clause-ok : goal.returns-clause-ok
returns-clause-ok c =
    let n : c.args.page * 256 + 256 - c.args.page * 256 ≡ 256 = omega arith in
    c.in_ok-extend_from_slice.ensures.items
    ∙ ap (λ (k : ℕ). c.args.out.now.items ++ take k (drop (c.args.page * 256) c.args.memory.now)) n
