-- The link has a fate exactly for the packet in its hand.
use Rattle.std.proofs.Common.{◌≡◌, true, Option, None, Some, refl, sym, ap, ◌∙◌}
use Rattle.std.specs.Prelude.{is_some}
use Rattle.pair_threads.proofs.Words.{Carrier}
use Rattle.pair_rule.specs.declared.payload.Packet.{Packet}
use Rattle.pair_threads.specs.Fates.{IsDealtWith}
use Rattle.pair_threads.specs.declared.link.Fate.{Fate}
use Rattle.pair_threads.specs.declared.link.Fate.TheVariants.{Pass, Drop, Twice}

agrees : (fate : Fate) (p : Packet) (old new : Carrier) (next : Option Fate) → IsDealtWith fate p old new next
    → is_some next ≡ is_some new.hand
agrees Pass p old new next dealt = ap is_some dealt.2 ∙ sym (ap is_some dealt.1)
agrees Drop p old new next dealt = ap is_some dealt.2 ∙ sym (ap is_some dealt.1)
agrees Twice p old new next dealt = ap is_some dealt.2 ∙ sym (ap is_some dealt.1)

-- it is so after the link has dealt with a packet
pub dealt-agrees : (fate : Fate) (old new : Carrier) (next : Option Fate)
    → ((p : Packet) → old.hand ≡ Some p → IsDealtWith fate p old new next) → is_some old.hand ≡ true
    → is_some next ≡ is_some new.hand
dealt-agrees fate old new next dealt has = go old.hand refl has
  where
    go : (hand : Option Packet) → old.hand ≡ hand → is_some hand ≡ true → is_some next ≡ is_some new.hand
    go None e there = absurd cc
    go (Some p) e there = agrees fate p old new next (dealt p e)
