-- What is read can be rebuilt: it passes the tests of a board's parts.
use Rattle.std.proofs.Common.{◌≡◌, ℕ, ◌<◌, ◌^◌, true, List, subst, arith}
use Rattle.std.specs.Prelude.{nat_le}
use Rattle.std.proofs.lemmas.Bool.{and_from, and_parts, le-leb}
use Rattle.clone_state.proofs.Words.{FitsBoard, GREATEST_NUMBER, Place, are_completed, are_levels, checkpoint_in_parts, go_to, is_controller, is_possible, may_halt, port_stands, stands}
use Rattle.guest_parts.specs.declared.parts.BoardParts.{BoardParts}
use Rattle.guest_parts.proofs.Shown.{go_itself}

pub read_stands : (drives : ℕ) (p : BoardParts) → FitsBoard drives (checkpoint_in_parts p) → stands p ≡ true
unfolding is_possible
read_stands drives p h =
    let a = and_parts _ (is_controller p.devices.disk) h.possible in
    let b = and_parts _ (port_stands p.devices p.issued p.keys 1) a.0 in
    let c = and_parts _ (port_stands p.devices p.issued p.keys 0) b.0 in
    let levels = (and_parts (may_halt p.processor) (are_levels p.levels) c.0).1 in
    let count : p.count < 2 ^ 62 = h.count in
    and_from _ (are_completed p.devices.disk p.completed.items)
    (and_from _ (go_to p.writes.items p.devices.disk.outstanding)
    (and_from _ (are_levels p.levels)
    (and_from _ (nat_le p.count GREATEST_NUMBER)
    (and_from (port_stands p.devices p.issued p.keys 0) (port_stands p.devices p.issued p.keys 1) c.1 b.1)
    (le-leb p.count GREATEST_NUMBER (omega (arith, count)))) levels)
    (subst (λ (places : List Place). go_to p.writes.items places ≡ true) h.writes (go_itself p.writes.items))) h.fits
