-- How far a primary is, and how a backup runs ahead of the entries that it holds.
use Rattle.std.specs.Prelude.{◌≡◌, ℕ, ◌-◌, min, nat_le, Bool, ◌&&◌, ◌==◌, if◌then◌else◌, Result, [], ◌∷◌, length}
use Rattle.guest_lockstep.specs.Machine.{Machine}
use Rattle.guest_lockstep.specs.Running.{RunsOn}
use Rattle.guest_lockstep.specs.declared.running.Stopped.{Stopped}
use Rattle.i8080_words.specs.declared.refusal.Fault.{Fault}
use Rattle.pair_protocol.specs.Node.{Node, Primary, Backup, plainly_steps}
use Rattle.pair_protocol.specs.Refusals.{role_refusal}
use Rattle.ft_node.specs.Calls.{Ask, Call, Never}
use Rattle.ft_node.specs.declared.ran.Lead.{Lead}

-- a primary has logged this many entries and made this many steps: no entry that it logs later has a lower count
abbrev pub lead_of : {S : Type 0} → Machine S → Node S → Lead
lead_of M x = record { entries = length x.log; count = M.count x.machine }

abbrev pub Leads : {S : Type 0} → Machine S → Node S → Result Lead Fault → Type 0
Leads M x result = Ask (role_refusal (Primary ∷ []) x) Never (λ lead x. lead ≡ lead_of M x) x result

-- a backup may run ahead if it has replayed all that it holds, and holds all that its primary had logged
abbrev pub may_run_ahead : {S : Type 0} → Lead → Node S → Bool
may_run_ahead lead x = (x.replayed == length x.held) && nat_le lead.entries (length x.held)

-- how many steps it may make: up to where its primary was
abbrev pub steps_ahead : {S : Type 0} → Machine S → Lead → Node S → ℕ
steps_ahead M lead x = if may_run_ahead lead x then lead.count - M.count x.machine else 0

-- its machine runs by itself for at most this many steps, and nothing else changes
pub record RanAhead {S : Type 0} (M : Machine S) (turns : ℕ) (stopped : Stopped) (x y : Node S) : Type 0 where
  pub s : S
  pub runs : RunsOn M x.machine turns stopped s
  pub after : y ≡ plainly_steps x s

-- only a backup does; it is never refused for memory, since then it has only stopped
abbrev pub RunsAhead : {S : Type 0} → Machine S → Lead → ℕ → Node S → Result Stopped Fault → (Node S → Type 0) → Type 0
RunsAhead M lead turns x result Is =
    Call (role_refusal (Backup ∷ []) x) Never (RanAhead M (min turns (steps_ahead M lead x))) x result Is
