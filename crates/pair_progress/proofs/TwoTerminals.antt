-- There are two terminals in every world that actions reach.
use Rattle.std.proofs.Common.{◌≡◌, length, length-set, refl, ◌∙◌}
use Rattle.pair_protocol.proofs.Words.{After, AtBoot, Change, Copying, Machine, Reached, World}
use Rattle.pair_protocol.specs.Change as change

two_kept : {S : Type 0} (M : Machine S) (C : Copying S) (w new : World S) → length w.terminals ≡ 2 → Change M C w new →
    length new.terminals ≡ 2
two_kept M C w new h (change.Types p b) = length-set w.terminals p _ ∙ h
two_kept M C w new h (change.Arrives m p k b at) = length-set w.terminals p _ ∙ h
two_kept M C w new h (change.Tells n x p r acts which) = length-set w.terminals p _ ∙ h
two_kept M C w new h c = h

pub two_terminals : {S : Type 0} (M : Machine S) (C : Copying S) (w : World S) → Reached M C w → length w.terminals ≡ 2
two_terminals M C w (AtBoot reads) = refl
two_terminals M C w (After {w = v} r c) = two_kept M C v w (two_terminals M C v r) c
