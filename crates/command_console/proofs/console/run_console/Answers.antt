-- An opening was read, one was greeted, and sat at the pair of the input.
use Rattle.std.proofs.Common.{Some, refl, subst}
use Rattle.std.proofs.lemmas.Result.{IfOk-weaker}
use Rattle.command_io.specs.Inputs.{IsInput}
use Rattle.script_language.specs.Live.{live_script_of}
use Rattle.command_console.proofs.console.run_console.Goals as goal

pub returns : goal.returns
returns g c = IfOk-weaker c.run_input.result _ _ (λ end run. record {
  opening = c.in_ok-opening.opening.items;
  many = c.in_ok-opening.ensures.0;
  after = record {
    reader = c.read_opening.new.reader;
    writer = c.args.streams.writer;
    notes = c.write_greeting.new.notes;
  };
  read = c.in_ok-opening.ensures.1;
  writer_is = refl;
  greeted = c.in_ok-write_greeting.ensures.greeted;
  input = c.in_ok-input.input;
  says = subst (λ l. IsInput live_script_of l (Some c.in_ok-opening.opening.items) c.in_ok-input.input) c.deref.ensures.value
      (subst (λ l. IsInput live_script_of c.deref.result.now (Some l) c.in_ok-input.input) c.as_slice.ensures.value
      c.in_ok-input.ensures);
  attached = c.in_ok-booted.booted;
  files = c.in_ok-booted.ensures.sectors;
  run = run;
}) c.run_input.ensures
