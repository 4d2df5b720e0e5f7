-- The index says which part it is.
use Rattle.std.proofs.Common.{refl, ◌≡◌, ◌-◌, ◌*◌, List, [], ◌++◌, ℕ, take, drop, sym, ap, ◌∙◌, subst, arith}
use Rattle.std.specs.Prelude.{OnOk, slice_index_or}
use Rattle.clone_state.specs.Checkpoint.{Checkpoint, checkpoint_in_parts}
use Rattle.clone_state.specs.Codec.{number, spell_each}
use Rattle.clone_state.specs.Parts.{parts_of}
use Rattle.clone_state.proofs.PartLaws.{parts_counted}
use Rattle.clone_state.proofs.Payloads.{payload_of_page, payload_of_table}
use Rattle.clone_state.proofs.spelling.write_payload.Goals as goal

pub write_table-requires : goal.write_table-requires
write_table-requires c =
    let counted = parts_counted (checkpoint_in_parts c.args.parts.now) c.args.parts.now.devices.disk.attached refl in
    rw c.deref-else-place-le-PAGES.ensures.value (omega arith)

pub returns-then-place-eq0-clause-ok : goal.returns-then-place-eq0-clause-ok
unfolding parts_of
returns-then-place-eq0-clause-ok c =
    subst (λ (n : ℕ). OnOk c.write_first.result (c.write_first.new.out.items
    ≡ c.args.out.now.items ++ slice_index_or (parts_of (checkpoint_in_parts c.args.parts.now)) n []))
    (sym c.if-place-eq0.true) c.write_first.ensures.ok

pub returns-then-place-le-PAGES-clause-ok : goal.returns-then-place-le-PAGES-clause-ok
returns-then-place-le-PAGES-clause-ok c =
    let says : Checkpoint = checkpoint_in_parts c.args.parts.now in
    let e : take 256 (drop ((c.args.index - 1) * 256) c.deref.result.now) ≡ slice_index_or (parts_of says) c.args.index [] =
    ap (λ (m : List ℕ). take 256 (drop ((c.args.index - 1) * 256) m)) c.deref.ensures.value
    ∙ sym (payload_of_page says c.args.index (omega arith) (omega arith)) in
    subst (λ (bytes : List ℕ). OnOk c.write_page.result (c.write_page.new.out.items ≡ c.args.out.now.items ++ bytes)) e
    c.write_page.ensures.ok

pub returns-else-place-le-PAGES-clause-ok : goal.returns-else-place-le-PAGES-clause-ok
returns-else-place-le-PAGES-clause-ok c =
    let says : Checkpoint = checkpoint_in_parts c.args.parts.now in
    let counted = parts_counted says c.args.parts.now.devices.disk.attached refl in
    let n : c.args.index - 256 - 1 ≡ c.args.index - 257 = omega arith in
    let e : spell_each number (take 32 (drop ((c.args.index - 256 - 1) * 32) c.deref-else-place-le-PAGES.result.now))
    ≡ slice_index_or (parts_of says) c.args.index [] =
    ap (λ (m : List ℕ). spell_each number (take 32 (drop ((c.args.index - 256 - 1) * 32) m))) c.deref-else-place-le-PAGES.ensures.value
    ∙ ap (λ i. spell_each number (take 32 (drop (i * 32) says.completed))) n
    ∙ sym (payload_of_table says c.args.index (omega arith) (omega arith)) in
    subst (λ (bytes : List ℕ). OnOk c.write_table.result (c.write_table.new.out.items ≡ c.args.out.now.items ++ bytes)) e
    c.write_table.ensures.ok
