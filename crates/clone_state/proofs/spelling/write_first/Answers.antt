-- What is appended piece by piece is the spelling of the first part.
use Rattle.std.proofs.Common.{◌≡◌, List, [], ◌∷◌, ◌++◌, ℕ, length, subst}
use Rattle.std.specs.Prelude.{OnOk}
use Rattle.std.specs.List.{zip}
use Rattle.clone_state.specs.Checkpoint.{FirstPart, checkpoint_in_parts}
use Rattle.clone_state.specs.Codec.{spell_each}
use Rattle.clone_state.specs.FirstPart.{first, port, write}
use Rattle.clone_state.proofs.Payloads.{appended, first_spelled}
use Rattle.clone_state.proofs.spelling.write_first.Goals as goal

pub returns-clause-ok : goal.returns-clause-ok
returns-clause-ok c =
    let f : FirstPart = (checkpoint_in_parts c.args.parts.now).first in
    let together : first.spell f ≡ c.setting.result
    ++ (c.processor_bytes.result ++ (c.port_numbers.result ++ (c.port_numbers-2.result ++ (spell_each port (zip c.args.parts.now.devices.ports c.args.parts.now.unaccepted)
    ++ (c.controller_bytes.result ++ (c.drives_bytes.result ++ (c.current_bytes.result
    ++ ((length c.deref-writes.result.now ∷ []) ++ spell_each write c.deref-writes.result.now)))))))) =
    rw (
      c.setting.ensures,
      c.processor_bytes.ensures,
      c.port_numbers.ensures,
      c.port_numbers-2.ensures,
      c.controller_bytes.ensures,
      c.drives_bytes.ensures,
      c.current_bytes.ensures,
      c.attached.ensures,
      c.current.ensures,
      c.deref-writes.ensures.value,
    ) (first_spelled f) in
    let whole : c.extend_from_slice-8.new.self.items ++ spell_each write c.deref-writes.result.now
    ≡ c.args.out.now.items ++ first.spell f =
    appended c.args.out.now.items _ _ _ _ _ _ _ _ _ _ _ _ _ _ _ _ _ _ _ (first.spell f)
    c.in_ok-extend_from_slice.ensures.items c.in_ok-extend_from_slice-2.ensures.items
    c.in_ok-extend_from_slice-3.ensures.items c.in_ok-extend_from_slice-4.ensures.items
    c.in_ok-write_ports.ensures.ok c.in_ok-extend_from_slice-5.ensures.items
    c.in_ok-extend_from_slice-6.ensures.items c.in_ok-extend_from_slice-7.ensures.items
    c.in_ok-extend_from_slice-8.ensures.items together in
    subst (λ (bytes : List ℕ). OnOk c.write_writes.result (c.write_writes.new.out.items ≡ bytes)) whole
    c.write_writes.ensures.ok
