-- The line that a day ends with is that of the day.
use Rattle.std.proofs.Common.{◌≡◌, ℕ, ◌++◌, Option, Some, None, codes, subst}
use Rattle.std.specs.Prelude.{unwrap_or}
use Rattle.std.specs.Fmt.{decimal}
use Rattle.shell_language.specs.Texts.{AddsLine, Prints}
use Rattle.shell_language.specs.declared.printing.Printed.{Printed}
use Rattle.shell_language.proofs.Adding.{prints_none, prints_text}
use Rattle.shell_picture.specs.Endings.{ending_text}
use Rattle.shell_picture.specs.declared.day.Day.{Day}
use Rattle.shell_picture.specs.declared.ending.DayEnd.{DayEnd}
use Rattle.shell_picture.specs.declared.ending.DayEnd.TheVariants.{Turns}
use Rattle.pair_shell.specs.Days.{ran_rows, ran_text}

pub tells_ran : (days : Option Day) (day : Day) (count made : ℕ) (ending : DayEnd) (old new : Printed) → Some day ≡ days
    → made ≡ day.made → ending ≡ unwrap_or day.ending Turns
    → AddsLine (codes "ran " ++ (decimal made ++ (codes " count " ++ (decimal count ++ (codes " " ++ ending_text ending))))) old new
    → Prints (ran_rows days count) old new
tells_ran days day count made ending old new is so_many why h =
    subst (λ (d : Option Day). Prints (ran_rows d count) old new) is (prints_text (ran_text day count) old new
    (subst (λ (m : ℕ). AddsLine (codes "ran " ++ (decimal m ++ (codes " count " ++ (decimal count
    ++ (codes " " ++ ending_text (unwrap_or day.ending Turns)))))) old new) so_many
    (subst (λ (e : DayEnd). AddsLine (codes "ran " ++ (decimal made ++ (codes " count " ++ (decimal count
    ++ (codes " " ++ ending_text e))))) old new) why h)))

pub tells_no_day : (days : Option Day) (count : ℕ) (printed : Printed) → None ≡ days → Prints (ran_rows days count) printed printed
tells_no_day days count printed is = subst (λ (d : Option Day). Prints (ran_rows d count) printed printed) is (prints_none printed)
