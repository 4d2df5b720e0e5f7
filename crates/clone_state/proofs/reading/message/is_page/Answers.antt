use Rattle.clone_state.proofs.Made.{page_length}
use Rattle.clone_state.proofs.reading.message.is_page.Goals as goal

pub returns : goal.returns
returns c = page_length c.args.payload.now
