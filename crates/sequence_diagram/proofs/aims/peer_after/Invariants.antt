-- The peer so far, with the events that are left, leads to the last one.
use Rattle.std.proofs.Common.{◌≡◌, length}
use Rattle.sequence_diagram.specs.Aims.{first_peer, peer_after}
use Rattle.sequence_diagram.proofs.aims.peer_after.Given as goal

abbrev pub invariant-moments : goal.invariant-moments
invariant-moments l = peer_after l.node l.peer l.rest ≡ peer_after l.node (first_peer l.node) l.moments

abbrev pub decreases-moments : goal.decreases-moments
decreases-moments l = length l.rest
