-- How the stale pages of an alone node's guest go on.
use Rattle.std.specs.Prelude.{◌≡◌, ℕ, Bool, Option, Some, None}
use Rattle.guest_lockstep.specs.Machine.{Machine}
use Rattle.guest_lockstep.specs.Pages.{every_page, stale_after}

-- while a node is alone, the stale pages of its guest go on by a rule; of a node that has just gone live no page is copied
abbrev pub PagesGoOn : {B : Type 0} → (B → ℕ → Bool) → (B → B → Type 0) → Option B → Option B → Type 0
PagesGoOn stale rule old None = Unit {0}
PagesGoOn stale rule None (Some now) = stale now ≡ every_page
PagesGoOn stale rule (Some before) (Some now) = rule before now

-- the rules: the same pages are stale; or also those that this many steps have written
abbrev pub SamePages : {B : Type 0} → (B → ℕ → Bool) → B → B → Type 0
SamePages stale before now = stale now ≡ stale before

abbrev pub StepsWrite : {B S : Type 0} → (B → S) → Machine S → (S → ℕ → Bool) → (B → ℕ → Bool) → ℕ → B → B → Type 0
StepsWrite state M writes stale n before now = stale now ≡ stale_after M writes (stale before) (state before) n
