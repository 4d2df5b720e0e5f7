-- The words that are left fill the sector after so many bytes, if all did; each word that is taken leaves fewer.
use Rattle.std.proofs.Common.{◌≡◌, ◌≤◌, ℕ, Bool, length}
use Rattle.shell_language.proofs.Filling.{fit_words}
use Rattle.shell_language.proofs.reading.fill_sector.Given as goal

pub record Fits (count : ℕ) (left all : Bool) : Type 0 where
  pub within : count ≤ 137
  pub same : left ≡ all

abbrev pub invariant-bytes : goal.invariant-bytes
invariant-bytes l = Fits l.count (fit_words l.count l.words) (fit_words 0 l.initial.words)

abbrev pub decreases-bytes : goal.decreases-bytes
decreases-bytes l = length l.words
