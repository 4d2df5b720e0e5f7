-- Where output waits without a break.
use Rattle.std.specs.Prelude.{◌≡◌, ℕ, ◌+◌, ◌<◌, ◌≤◌, List, length, slice_get, Option, Some, MatchOption}
use Rattle.sequence_diagram.specs.Marks.{operations_at, operations_before}
use Rattle.sequence_diagram.specs.declared.bars.Bar.{Bar}
use Rattle.sequence_diagram.specs.declared.waits.OutputWait.{OutputWait}

module _ (waits : List OutputWait) where
  -- after each event from one place to before another some operation waits
  abbrev pub SomeWaits : ℕ → ℕ → Type 0
  SomeWaits from to = (k : ℕ) → from ≤ k → k < to → operations_at waits k ≡ 0 → ⊥

  -- a bar begins at an event after which some wait, and before which none did; it ends at the next event after which none wait, or
  -- goes on to the end of the run
  pub record IsBarFrom (place : ℕ) (bar : Bar) : Type 0 where
    pub wait : OutputWait
    pub here : slice_get waits place ≡ Some wait
    pub node : bar.node ≡ wait.node
    pub some : 0 < wait.operations
    pub none_before : operations_before waits place ≡ 0
    pub ends : MatchOption bar.end (SomeWaits (place + 1) (length waits)) (λ end. (place < end)
        × (operations_at waits end ≡ 0) × SomeWaits (place + 1) end)

  -- no bar begins at an event after which none wait, or before which some did
  abbrev pub HasBar : ℕ → Option Bar → Type 0
  HasBar place found = MatchOption found (0 < operations_at waits place → 0 < operations_before waits place)
      (λ bar. IsBarFrom place bar)
