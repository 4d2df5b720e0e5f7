-- What is printed is of the images and the script that were read.
use Rattle.pair_main.proofs.Runs.{is_live}
use Rattle.pair_main.proofs.program.run_threads.Goals as goal

pub returns : goal.returns
returns g c =
    is_live g.R.Read.remaining g.W.Write.contents c.args.reader.now c.read_input.new.reader c.args.writer.now
    c.run_live.new.writer c.args.order c.deref.result.now c.in_ok-input.input c.run_live.result c.deref.ensures.value
    c.in_ok-input.ensures c.run_live.ensures.printed
