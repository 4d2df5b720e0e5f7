use Rattle.std.proofs.Common.{◌≡◌, List, ◌++◌, ℕ, sym, ap, ◌∙◌, append_assoc}
use Rattle.std.specs.List.{zip}
use Rattle.clone_state.specs.Codec.{spell_each}
use Rattle.clone_state.specs.FirstPart.{port}
use Rattle.clone_state.proofs.Payloads.{two_ports}
use Rattle.clone_state.proofs.spelling.write_ports.Goals as goal

pub returns-clause-ok : goal.returns-clause-ok
returns-clause-ok c =
    let pair : c.port_bytes.result ++ c.port_bytes-2.result ≡ spell_each port (zip c.args.ports.now c.args.windows.now) =
    rw (c.port_bytes.ensures, c.port_bytes-2.ensures) (
    sym (two_ports c.args.ports.now c.args.windows.now c.has_all.ensures c.has_all-2.ensures c.index-ports-0.result
    c.index-ports-1.result)
    ) in
    rw (c.in_ok-extend_from_slice-2.ensures.items, c.in_ok-extend_from_slice.ensures.items) (
    append_assoc c.args.out.now.items c.port_bytes.result c.port_bytes-2.result ∙ ap (λ (xs : List ℕ). c.args.out.now.items ++ xs) pair)
