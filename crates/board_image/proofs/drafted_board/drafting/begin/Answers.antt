-- A new draft is one of the board, with every page stale.
use Rattle.std.proofs.Common.{ℕ, Bool, ◌-◌, sym, ap, subst, ◌∙◌}
use Rattle.clone_state.specs.Stale.{AreCopied, stale_count}
use Rattle.board_image.specs.Drafts.{Drafted, KeepsUp, stale_in}
use Rattle.board_image.proofs.KeepingUp.{begins}
use Rattle.board_image.proofs.WrittenPages.{copies_lowest, nothing_is_copied}
use Rattle.board_image.proofs.drafted_board.drafting.begin.Goals as goal

pub freshen-stale-requires : goal.freshen-stale-requires
freshen-stale-requires g c =
    (subst (λ (d : Drafted). KeepsUp d c.args.board.now) (sym c.in_ok-draft.ensures.ok) (begins c.args.board.now)).agrees

pub returns-clause-keeps_up : goal.returns-clause-keeps_up
returns-clause-keeps_up g c =
    c.freshen-stale.ensures.keeps_up
    (subst (λ (d : Drafted). KeepsUp d c.args.board.now) (sym c.in_ok-draft.ensures.ok) (begins c.args.board.now))

pub returns-clause-fewer : goal.returns-clause-fewer
returns-clause-fewer g c =
    c.freshen-stale.ensures.fewer
    ∙ ap (λ n. n - c.args.pages)
    (ap stale_count (ap (λ (d : Drafted). stale_in d c.args.board.now) c.in_ok-draft.ensures.ok ∙ nothing_is_copied c.args.board.now))

pub returns-clause-lowest : goal.returns-clause-lowest
returns-clause-lowest g c =
    subst (λ (old : ℕ → Bool). AreCopied c.args.pages old (stale_in c.freshen-stale.new.self c.args.board.now))
    (ap (λ (d : Drafted). stale_in d c.args.board.now) c.in_ok-draft.ensures.ok ∙ nothing_is_copied c.args.board.now)
    (copies_lowest c.args.pages c.args.board.now c.in_ok-draft.draft c.freshen-stale.new.self c.freshen-stale.ensures.freshened)
