use Rattle.std.proofs.Common.{arith, ◌+◌, ◌*◌, List, ℕ, length, drop, suc, sym, ◌∙◌, ap}
use Rattle.std.proofs.lemmas.List.{drop-drop}
use Rattle.disk_file.specs.Sectors.{Entry, journal_of}
use Rattle.disk_file.proofs.spoiled.behind_blocks.Goals as goal

-- src/spoiled.rt:22:5
pub loop-after-preserved : goal.loop-after-preserved
loop-after-preserved c =
    let i = c.loop-after.invariant in
    let journal = c.args.journal.now in
    let fewer = ap (λ (es : List Entry). length es) c.in-Some.ensures.entry in (
      suc i.0,
      c.in-Some.ensures.after ∙ ap (λ (l : List ℕ). drop 140 l) i.1 ∙ drop-drop 140 (140 * i.0) journal
          ∙ ap (λ (n : ℕ). drop n journal) (omega arith),
      omega (arith, i.2, fewer),
    )
