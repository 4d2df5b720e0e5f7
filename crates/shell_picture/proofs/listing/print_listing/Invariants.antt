-- Whatever the instructions that are left print after those so far, it is what all of them print.
use Rattle.std.proofs.Common.{◌-◌}
use Rattle.shell_language.specs.Texts.{Prints}
use Rattle.shell_language.specs.declared.printing.Printed.{Printed}
use Rattle.shell_picture.specs.Listings.{listing_rows}
use Rattle.shell_picture.proofs.listing.print_listing.Given as goal

abbrev pub invariant-instructions : goal.invariant-instructions
invariant-instructions l = (last : Printed) → Prints (listing_rows (l.count - l._number) l.address l.rest) l.printed last
    → Prints (listing_rows l.count l.from l.bytes) l.initial.printed last
