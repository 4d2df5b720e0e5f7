-- The line at the place is that of a host that is live.
use Rattle.std.proofs.Common.{ℕ, ◌≡◌, ◌<◌, List, length, get_or, Some, sym, ap, ◌∙◌, subst}
use Rattle.std.specs.Prelude.{slice_get}
use Rattle.std.proofs.lemmas.Option.{slice_get-get_or}
use Rattle.outside_switch.specs.declared.line.HostLine.{HostLine}
use Rattle.outside_switch.proofs.live.live_at.Goals as goal

there : (lines : List HostLine) (index place : ℕ) (line : HostLine) → index ≡ place → index < length lines →
    line ≡ get_or lines index line → slice_get lines place ≡ Some line
there lines index place line same low is =
    subst (λ k. slice_get lines k ≡ Some line) same (slice_get-get_or lines index line low ∙ ap (λ l. Some l) (sym is))

pub returns-in-Some-Primary : goal.returns-in-Some-Primary
returns-in-Some-Primary c = record {
  line = c.in_ok-line.line.now;
  at = there c.args.lines.now c.from.result c.args.place c.in_ok-line.line.now c.from.ensures c.in_ok-line.ensures.lookup.3.0
      c.in_ok-line.ensures.lookup.1;
  is_there = sym c.is_cut.ensures ∙ c.if-is_cut.false;
  reported = sym c.report.ensures ∙ c.in_ok-report.was;
}

pub returns-in-Some-Primary-2 : goal.returns-in-Some-Primary-2
returns-in-Some-Primary-2 c = record {
  line = c.in_ok-line.line.now;
  at = there c.args.lines.now c.from.result c.args.place c.in_ok-line.line.now c.from.ensures c.in_ok-line.ensures.lookup.3.0
      c.in_ok-line.ensures.lookup.1;
  is_there = sym c.is_cut.ensures ∙ c.if-is_cut.false;
  reported = sym c.report.ensures ∙ c.in_ok-report.was;
}
