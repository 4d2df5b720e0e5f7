-- Whoever is out has no machine.
use Rattle.std.proofs.Common.{ℕ, ◌≡◌, Bool, true, false, List, [], ◌∷◌, Option, None, Some, refl}
use Rattle.std.specs.Prelude.{◌||◌, ◌&&◌, is_none}
use Rattle.std.specs.List.{list_all}
use Rattle.host_frames.specs.declared.frame.Report.{Report}
use Rattle.outside_switch.specs.Lines.{reports_spare}
use Rattle.outside_switch.specs.declared.line.HostLine.{HostLine}
use Rattle.outside_switch.specs.LoopRuns.{has_no_machine, have_no_machine, is_after, is_out, says_spare_after}

first_of : (a b : Bool) → a && b ≡ true → a ≡ true
first_of true b e = refl
first_of false b e = e

second_of : (a b : Bool) → a && b ≡ true → b ≡ true
second_of true b e = e
second_of false b e = absurd (cc)

says : (left : Option ℕ) (report : Option Report) → says_spare_after left report ≡ true → reports_spare report ≡ true
says left None e = e
says left (Some report) e = first_of (is_none report.role) (is_after report.tick left) e

either : (a b s t : Bool) → (s ≡ true → t ≡ true) → a || (b || s) ≡ true → a || (b || t) ≡ true
either true b s t on e = refl
either false true s t on e = refl
either false false s t on e = on e

one_has : (left : Option ℕ) (line : HostLine) → is_out left line ≡ true → has_no_machine line ≡ true
one_has left line e =
    either (is_none line.to) (is_none line.number) (says_spare_after left line.report) (reports_spare line.report)
    (says left line.report) e

pub none_has : (left : Option ℕ) (lines : List HostLine) → list_all (λ (line : HostLine). is_out left line) lines ≡ true →
    have_no_machine lines ≡ true
none_has left [] e = refl
none_has left (line ∷ lines) e = go (has_no_machine line) (one_has left line (first_of _ _ e)) (none_has left lines (second_of _ _ e))
  where
    go : (a : Bool) → a ≡ true → have_no_machine lines ≡ true → a && have_no_machine lines ≡ true
    go true is rest = rest
    go false is rest = is
