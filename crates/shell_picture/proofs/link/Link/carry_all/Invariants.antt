-- The messages so far have gone over the link.
use Rattle.std.proofs.Common.{◌≡◌, ◌-◌, ◌≤◌}
use Rattle.shell_picture.specs.Links.{all_go, traffic}
use Rattle.shell_picture.specs.Routes.{arrival_at}
use Rattle.shell_picture.proofs.link.Link.carry_all.Given as goal

abbrev pub invariant-loop-message : goal.invariant-loop-message
invariant-loop-message l = record {
  gone : traffic l.self l.agenda.items ≡ all_go l.initial.self.percent (arrival_at l.route l.book) l.first
      (l.message - l.first) (traffic l.initial.self l.initial.agenda.items);
  within : l.message - l.first ≤ l.message-end - l.first;
  percent : l.self.percent ≡ l.initial.self.percent;
}
