use Rattle.std.proofs.Common.{refl}
use Rattle.log_entry.proofs.entry.Entry.write.Goals as goal

pub returns-in_ok-extend_from_slice-in-Sector-clause-ok :
    goal.returns-in_ok-extend_from_slice-in-Sector-clause-ok
returns-in_ok-extend_from_slice-in-Sector-clause-ok c =
    rw (c.in_ok-extend_from_slice-in-Sector.ensures.items, c.sector_bytes-text.ensures, c.in-Sector.is) refl

pub returns-in_ok-extend_from_slice-in-Written-clause-ok :
    goal.returns-in_ok-extend_from_slice-in-Written-clause-ok
returns-in_ok-extend_from_slice-in-Written-clause-ok c =
    rw (c.in_ok-extend_from_slice-in-Written.ensures.items, c.written_bytes-text.ensures, c.in-Written.is) refl

pub returns-in_ok-extend_from_slice-in-Read-clause-ok :
    goal.returns-in_ok-extend_from_slice-in-Read-clause-ok
returns-in_ok-extend_from_slice-in-Read-clause-ok c =
    rw (c.in_ok-extend_from_slice-in-Read.ensures.items, c.read_bytes-text.ensures, c.in-Read.is) refl
