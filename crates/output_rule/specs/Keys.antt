-- The keys of a port in a part of the log.
use Rattle.std.specs.Prelude.{ℕ, ◌+◌, ◌-◌, List, [], ◌∷◌, length, take, drop, slice_index, Option, Some, None}
use Rattle.log_entry.specs.declared.entry.Entry.{Entry}
use Rattle.log_entry.specs.Entries.{inputs_of}
use Rattle.guest_lockstep.specs.Reach as reach
use Rattle.log_buffer.specs.Log.{Log}

-- how many keys of a port are among entries
abbrev pub keys_in : ℕ → List Entry → ℕ
keys_in port entries = length (reach.keys port (inputs_of entries))

-- and in one entry, if it is there
abbrev pub keys_at : ℕ → Option Entry → ℕ
keys_at port None = 0
keys_at port (Some entry) = keys_in port (entry ∷ [])

-- the numbers of keys of each port, plus those among entries
abbrev pub with_keys : List ℕ → List Entry → List ℕ
with_keys keys entries = (slice_index keys 0 + keys_in 0 entries) ∷ (slice_index keys 1 + keys_in 1 entries) ∷ []

-- the entries of a log from one index up to another
abbrev pub between : Log → ℕ → ℕ → List Entry
between log from to = take (to - from) (drop (from - log.first) log.entries)
