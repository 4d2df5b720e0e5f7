-- Which packets the switch loses.
use Rattle.std.specs.Prelude.{ℕ, ◌+◌, ◌*◌, ◌%◌, ◌^◌, ◌&&◌, not, nat_lt, Bool, true, false, if◌then◌else◌}
use Rattle.outside_switch.specs.declared.link.LinkState.{LinkState}
use Rattle.outside_switch.specs.declared.link.LinkState.TheVariants.{Loses, Parts, Passes}

-- 37 and 100 have no common factor, so in any 100 draws in a row each remainder comes once
abbrev pub is_lost : ℕ → ℕ → Bool
is_lost percent draw = nat_lt (draw % 100 * 37 % 100) percent

-- a beat is lost only if the hosts are parted
abbrev pub loses : LinkState → ℕ → Bool → Bool
loses Passes draw is_beat = false
loses (Loses percent) draw is_beat = not is_beat && is_lost percent draw
loses Parts draw is_beat = true

-- beats are not drawn for
abbrev pub after_draw : ℕ → Bool → ℕ
after_draw draws is_beat = if is_beat then draws else (draws + 1) % (2 ^ 64)
