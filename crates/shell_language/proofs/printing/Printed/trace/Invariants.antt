-- The events so far are printed.
use Rattle.std.proofs.Common.{◌≡◌, ◌++◌, take}
use Rattle.std.specs.Prelude.{string_bytes}
use Rattle.shell_language.specs.Tapes.{trace_text}
use Rattle.shell_language.proofs.printing.Printed.trace.Given as goal

abbrev pub invariant-loop-played : goal.invariant-loop-played
invariant-loop-played l = record {
  text : string_bytes l.self.text ≡ string_bytes l.initial.self.text ++ trace_text (take l.played-index l.tape);
  traced : l.self.is_traced ≡ l.initial.self.is_traced;
}
