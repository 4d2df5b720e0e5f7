-- The array has both.
use Rattle.std.proofs.Common.{rules}
use Rattle.host_node.proofs.Joined.{joined}
use Rattle.host_node.proofs.inspecting.sight.Goals as goal

pub returns : goal.returns
returns c = joined 14 512 _ _ _ _ _ c.copy_from_slice.ensures.after c.copy_from_slice-2.ensures.after c.told-processor (search rules)
