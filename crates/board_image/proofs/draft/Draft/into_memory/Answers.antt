-- Once every stale page was copied the bytes are the board's memory.
use Rattle.std.proofs.Common.{◌∙◌}
use Rattle.board_image.proofs.Freshening.{memory_is}
use Rattle.board_image.proofs.draft.Draft.into_memory.Goals as goal

pub returns : goal.returns
returns g c =
    c.into_bytes.ensures
    ∙ memory_is _ _ _ c.freshen.ensures.freshened c.requires c.has_room.ensures.bytes c.stands.ensures.memory
