-- One name more is written.
use Rattle.std.proofs.Common.{◌≡◌, suc, ◌+◌, rules, arith, subst, sym}
use Rattle.std.specs.Fmt.{HasWritten}
use Rattle.std.proofs.Output.{has_written_append}
use Rattle.shell_picture.specs.Pictures.{name_at, names_to}
use Rattle.shell_picture.proofs.head.write_names.Goals as goal

pub loop-column-preserved : goal.loop-column-preserved
loop-column-preserved g c plain =
    let so_far = c.loop-column.invariant plain in
    let more = c.write_name.ensures so_far.plain (search rules) in
    let on : c.loop-column.column + 1 ≡ suc c.loop-column.column = omega arith in
    subst (λ n. HasWritten g.W.Write.write_str_gives c.args.f.now (names_to c.args.places.now n) c.write_name.new.f) (sym on)
    (has_written_append _ c.args.f.now (names_to c.args.places.now c.loop-column.column) c.loop-column.f
    (name_at c.args.places.now c.loop-column.column) c.write_name.new.f so_far more)
