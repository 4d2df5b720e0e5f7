-- The list has ended; a plan without a day gets none.
use Rattle.std.proofs.Common.{◌≡◌, ◌≤◌, None, length}
use Rattle.shell_picture.proofs.plan.EventQueue.next.Given as goal

abbrev pub invariant-parts : goal.invariant-parts
invariant-parts l = record {
  ended : length l.fn.self.agenda.items ≤ l.fn.self.place;
  no_day : l.fn.self.day ≡ None → l.self.day ≡ None;
}
