-- What the inputs so far say is noted, and the messages stay as they were.
use Rattle.std.proofs.Common.{◌≡◌, take}
use Rattle.shell_language.specs.Notes.{all_settled, progress}
use Rattle.shell_language.proofs.book.Book.settle.Given as goal

abbrev pub invariant-loop-timed : goal.invariant-loop-timed
invariant-loop-timed l = (progress l.self ≡ all_settled (take l.timed-index l.inputs) (progress l.initial.self))
    × (l.self.letters ≡ l.initial.self.letters)
