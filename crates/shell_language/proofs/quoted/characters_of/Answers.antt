use Rattle.std.proofs.Common.{arith}
use Rattle.std.proofs.lemmas.Grind.{common_steps}
use Rattle.shell_language.specs.Quoting.{is_end, text_in}
use Rattle.shell_language.proofs.Quoting.{front-end, front-first, quoting}
use Rattle.shell_language.proofs.quoted.characters_of.Goals as goal

pub characters-preserved : goal.characters-preserved
characters-preserved c =
    let first = front-first c.characters.bytes.items c.in-Some.byte (text_in c.in-Some.after.now) in
    first_of (
      cc (c.in_ok-push.ensures.items, c.in-Some.ensures.exact, c.characters.invariant),
      grind (arith, common_steps, quoting),
    )

pub returns : goal.returns
returns c =
    front-end c.characters.bytes.items (text_in c.characters.rest.now) (text_in c.args.line.now)
    (is_end c.characters.rest.now) c.characters.invariant c.in_default.ensures.exact c.requires
