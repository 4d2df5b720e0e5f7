-- The stale pages of a guest, which its image has still to copy: how many there are, and which are copied next.
use Rattle.std.specs.Prelude.{◌≡◌, ℕ, zero, suc, ◌+◌, ◌<◌, nat_lt, Bool, true, false, not, ◌&&◌}
use Rattle.guest_memory.specs.declared.memory.TheConstants.{PAGES}

abbrev pub one_if : Bool → ℕ
one_if true = 1
one_if false = 0

-- how many of the pages below this one are stale
unfoldable pub count_below : (ℕ → Bool) → ℕ → ℕ
count_below stale zero = 0
count_below stale (suc page) = count_below stale page + one_if (stale page)

abbrev pub stale_count : (ℕ → Bool) → ℕ
stale_count stale = count_below stale PAGES

-- a page is one of the k lowest stale ones
abbrev pub is_lowest : ℕ → (ℕ → Bool) → ℕ → Bool
is_lowest k stale page = stale page && nat_lt (count_below stale page) k

-- the k lowest stale pages were copied, and no others
abbrev pub AreCopied : ℕ → (ℕ → Bool) → (ℕ → Bool) → Type 0
AreCopied k old new = (page : ℕ) → page < PAGES → new page ≡ (old page && not (is_lowest k old page))
