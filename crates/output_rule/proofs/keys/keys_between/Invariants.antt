use Rattle.std.proofs.Common.{◌≡◌, ◌+◌, ◌≤◌}
use Rattle.output_rule.specs.Keys.{keys_in, between}
use Rattle.output_rule.proofs.keys.keys_between.Given as goal

-- the keys that were counted, with those that are left, are all of them
abbrev pub invariant-loop-index : goal.invariant-loop-index
invariant-loop-index l = record {
  counted : l.keys + keys_in l.port (between l.log l.index l.to) ≡ keys_in l.port (between l.log l.from l.to);
  few : l.keys + l.from ≤ l.index;
}
