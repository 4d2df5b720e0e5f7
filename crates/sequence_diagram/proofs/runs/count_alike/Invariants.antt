-- The events so far are of the kind.
use Rattle.std.proofs.Common.{◌≡◌, ◌+◌, length}
use Rattle.std.specs.List.{prefix_len}
use Rattle.sequence_diagram.specs.Runs.{is_of_kind}
use Rattle.sequence_diagram.proofs.runs.count_alike.Given as goal

abbrev pub invariant-alike : goal.invariant-alike
invariant-alike l = record {
  alike : l.count + prefix_len (is_of_kind l.kind) l.rest ≡ prefix_len (is_of_kind l.kind) l.moments;
  counted : l.count + length l.rest ≡ length l.moments;
}

abbrev pub decreases-alike : goal.decreases-alike
decreases-alike l = length l.rest
