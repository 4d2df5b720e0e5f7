-- What the fields of a `Coverage` mean, and what holds of every one.
use Rattle.output_rule.specs.Covering.{Covering, IsCovering}
use Rattle.output_rule.specs.declared.coverage.Coverage.TheInside.{Inside}

-- the coverage with these fields
abbrev pub covering_of : Inside → Covering
covering_of c = record {
  acknowledged = c.acknowledged;
  reported = c.reported;
  last_read = c.last_read;
  all = c.all;
  keys = c.keys;
  notes = c.notes.items;
}

-- what holds of the fields of a coverage
abbrev pub IsCoverage : Inside → Type 0
IsCoverage c = IsCovering (covering_of c)
