-- The line has the first of the instructions that are left.
use Rattle.std.proofs.Common.{◌≡◌}
use Rattle.std.specs.Prelude.{drop}
use Rattle.i8080_words.specs.Opcodes.{instruction_length}
use Rattle.shell_picture.specs.Listings.{listing_rows}
use Rattle.shell_picture.proofs.Looking.{instruction_on}
use Rattle.shell_picture.proofs.listing.print_listing.Goals as goal

pub instructions-preserved : goal.instructions-preserved
instructions-preserved c =
    let rest = c.instructions.rest.now in
    let size : c.from-address.result ≡ instruction_length c.byte_in-code.result = (cc) in
    let after : c.after-rest.result.now ≡ drop c.from-address.result rest = (cc) in
    instruction_on (listing_rows c.args.count c.args.from c.args.bytes.now) c.args.count c.instructions._number c.instructions.address
    c.byte_in-code.result c.byte_in.result c.byte_in-in-instructions.result c.from-address.result rest c.after-rest.result.now
    c.args.printed.now c.instructions.printed c.line.new.self c.instructions-test.true c.byte_in-code.ensures c.byte_in.ensures
    c.byte_in-in-instructions.ensures size after c.in_ok-line.ensures.shown c.instructions.invariant
