-- The array has both.
use Rattle.std.proofs.Common.{rules}
use Rattle.host_node.proofs.Joined.{joined}
use Rattle.host_node.proofs.inspecting.two_pages.Goals as goal

pub returns : goal.returns
returns c = joined 256 256 _ _ _ _ _ c.copy_from_slice.ensures.after c.copy_from_slice-2.ensures.after c.requires.first (search rules)
