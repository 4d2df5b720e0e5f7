-- The line about what is kept comes after the picture.
use Rattle.std.proofs.Common.{◌≡◌, length, rules, subst}
use Rattle.std.proofs.lemmas.Result.{IfOk-weaker}
use Rattle.shell_language.specs.Texts.{Prints}
use Rattle.shell_picture.specs.Pictures.{DrawsPicture}
use Rattle.pair_shell.specs.Hints.{full_row, is_full}
use Rattle.pair_shell.proofs.notes.Notes.show_picture.Goals as goal

pub returns : goal.returns
returns c =
    let full : c.is_full.result ≡ is_full (length c.args.self.now.past.items) = search rules in
    IfOk-weaker c.print_full.result _ _ (λ done told. (
      c.print_picture.new.printed,
      (
        subst (λ items. DrawsPicture items c.args.stretch c.args.printed.now c.print_picture.new.printed) c.deref.ensures.value
            c.in_ok-print_picture.ensures,
        subst (λ b. Prints (full_row b) c.print_picture.new.printed c.print_full.new.printed) full told,
      ),
    )) c.print_full.ensures
