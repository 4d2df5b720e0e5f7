-- What one end of a stream makes of a body that crosses it.
use Rattle.std.specs.Prelude.{◌≡◌, ◌⊎◌, ℕ, List, ◌++◌, true, false, Some, None, Result, Ok, Err}
use Rattle.std.specs.Global.{Vec}
use Rattle.i8080_words.specs.declared.refusal.Fault.{Fault}
use Rattle.i8080_words.specs.declared.refusal.Fault.TheVariants.{Malformed, OutOfMemory}
use Rattle.host_frames.specs.Blocks.{Blocks, expanded, is_known, kept, place_of}

-- a head with the block of its place, or why not: none is kept, or there is no memory
abbrev pub Finds : Blocks → List ℕ → Result (Vec ℕ) Fault → Type 0
Finds blocks head (Ok body) = (is_known blocks head ≡ true) × (body.items ≡ head ++ blocks (place_of head))
Finds blocks head (Err fault) = ((fault ≡ Malformed) × (is_known blocks head ≡ false)) ⊎ (fault ≡ OutOfMemory)

-- a body is handed on, whose block is kept then, or why not: it names a block that is not kept, or there is no memory
abbrev pub Opens : Blocks → List ℕ → Result (Vec ℕ) Fault → Blocks → Type 0
Opens old wire (Ok body) new = (expanded old wire ≡ Some body.items) × (new ≡ kept old wire)
Opens old wire (Err fault) new = ((fault ≡ Malformed) × (expanded old wire ≡ None)) ⊎ (fault ≡ OutOfMemory)
