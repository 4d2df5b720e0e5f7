-- The pushed note is the new one.
use Rattle.std.proofs.Common.{◌≡◌, ◌<◌, length, None, ◌∙◌, ap, subst, sym}
use Rattle.output_rule.specs.Covering.{Covering, last_read_for}
use Rattle.output_rule.specs.Coverage.{covering_of}
use Rattle.output_rule.specs.Notes.{note_in}
use Rattle.output_rule.specs.declared.notes.TheConstants.{PLACES}
use Rattle.output_rule.proofs.Standing.{IsCovering-note}
use Rattle.output_rule.proofs.coverage.Coverage.note.Goals as goal

pub invariant_of-self : goal.invariant_of-self
invariant_of-self c =
    let before = covering_of c.self.inside in
    let room = subst (λ (v : Covering). length v.notes < PLACES) (sym c.self.view_is) c.requires.room in
    let new = subst (λ (v : Covering). note_in v.notes c.args.id ≡ None) (sym c.self.view_is) c.requires.new in
    let after = c.waits_for-after.ensures ∙ ap (λ (v : Covering). last_read_for v c.args.id) (sym c.self.view_is) in
    rw (c.push.ensures.items, after) (IsCovering-note before c.args.id c.args.index c.self.invariant room new)
