-- A processor is the same if all that it has is.
use Rattle.std.proofs.Common.{true, ◌≡◌, ◌∙◌, rules, sym}
use Rattle.std.specs.Prelude.{◌==◌, ◌&&◌}
use Rattle.std.proofs.lemmas.Bool.{and_parts}
use Rattle.i8080_words.specs.contracts.arithmetic.FlagsPartialEq.TheImpl as flags_equality
use Rattle.board_image.proofs.Same.{after_eight, same_flags, same_processors, same_regs}
use Rattle.board_image.proofs.polling.Sight.is_back.Goals as goal

pub returns-then-self-clause-yes : goal.returns-then-self-clause-yes
returns-then-self-clause-yes g c = λ is.
    let p = c.args.processor.now in
    let q = c.args.first.now in
    let x = p.regs in
    let y = q.regs in
    let yes : c.eq.result ≡ true = search rules in
    let regs : ((x.pc == y.pc) && ((x.sp == y.sp) && ((x.c == y.c) && ((x.b == y.b) && ((x.e == y.e) && ((x.d == y.d) && ((x.l == y.l)
    && ((x.h == y.h) && ((x.a == y.a) && flags_equality.ghosts.eq x.flags y.flags))))))))) ≡ true =
    (and_parts _ _ (sym c.eq.ensures ∙ yes)).0 in
    let last : ((x.a == y.a) && flags_equality.ghosts.eq x.flags y.flags) ≡ true =
    after_eight (x.pc == y.pc) (x.sp == y.sp) (x.c == y.c) (x.b == y.b) (x.e == y.e) (x.d == y.d) (x.l == y.l) (x.h == y.h)
    ((x.a == y.a) && flags_equality.ghosts.eq x.flags y.flags) regs in
    let a : (x.a == y.a) ≡ true = (and_parts (x.a == y.a) (flags_equality.ghosts.eq x.flags y.flags) last).0 in
    let flags : flags_equality.ghosts.eq x.flags y.flags ≡ true =
    (and_parts (x.a == y.a) (flags_equality.ghosts.eq x.flags y.flags) last).1 in (
      c.if-self.true,
      same_processors p q
          (same_regs x y (search rules) (search rules) (search rules) (search rules) (search rules) (search rules) (search rules)
          (search rules) (search rules)
          (same_flags x.flags y.flags (search rules) (search rules) (search rules) (search rules) (search rules))) (search rules) (search rules),
    )
