-- What is drawn is of the images and the script that were read.
use Rattle.pair_main.proofs.Runs.{is_picture}
use Rattle.pair_main.proofs.program.draw.Goals as goal

pub returns : goal.returns
returns g c =
    is_picture g.R.Read.remaining g.W.Write.contents c.args.reader.now c.read_input.new.reader c.args.writer.now
    c.run_picture.new.writer c.args.images c.deref.result.now c.in_ok-input.input c.run_picture.result c.deref.ensures.value
    c.in_ok-input.ensures c.run_picture.ensures
