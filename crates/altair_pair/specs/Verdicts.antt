-- The words of a verdict.
use Rattle.std.specs.Prelude.{ℕ, List, ◌++◌, codes}
use Rattle.std.specs.Fmt.{decimal}
use Rattle.altair_pair.specs.declared.verdict.Verdict.{Verdict}
use Rattle.altair_pair.specs.declared.verdict.Verdict.TheVariants.{Same, Differs}

abbrev pub words_of : Verdict → List ℕ
words_of (Same count) = codes "same " ++ decimal count
words_of Differs = codes "differs"
