-- The pages, concatenated, are the bytes: each continues where the bytes below it end, and the last one ends them.
use Rattle.std.proofs.Common.{◌≡◌, ℕ, ◌+◌, ◌-◌, ◌*◌, ◌≤◌, ◌++◌, length, take, drop, sym, ap, ◌∙◌, arith}
use Rattle.std.proofs.Math.Seq.{take-add}
use Rattle.std.proofs.lemmas.List.{take_all}
use Rattle.guest_memory.specs.declared.memory.TheConstants.{BYTES, PAGE_BYTES}
use Rattle.guest_memory.specs.Laws.{JoinsItsPages, bytes_below}
use Rattle.guest_memory.specs.Pages.{Pages, IsWhole, page_bytes}

next_page : (memory : Pages) (page : ℕ)
    → bytes_below memory page ++ page_bytes memory page ≡ bytes_below memory (page + 1)
next_page memory page =
    let start : ℕ = page * PAGE_BYTES in
    let width : start + PAGE_BYTES - start ≡ PAGE_BYTES = omega arith in
    let end : start + PAGE_BYTES ≡ (page + 1) * PAGE_BYTES = omega arith in
    ap (λ n. take start memory.bytes ++ take n (drop start memory.bytes)) width
    ∙ sym (take-add start PAGE_BYTES memory.bytes)
    ∙ ap (λ n. take n memory.bytes) end

pub pages_join : (memory : Pages) → IsWhole memory → JoinsItsPages memory
pages_join memory whole = record {
  each_page = next_page memory;
  all_pages = let end : length memory.bytes ≤ BYTES = omega (arith, whole.every_address) in
      take_all BYTES memory.bytes end;
}
