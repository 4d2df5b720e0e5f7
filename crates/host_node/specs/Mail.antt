-- What came to a host and what went from it, in bytes, and what is kept of it.
use Rattle.std.specs.Prelude.{◌≡◌, ℕ, ◌==◌, if◌then◌else◌, List, [], ◌∷◌, ◌++◌}
use Rattle.host_frames.specs.Rings.{Ring}
use Rattle.host_frames.specs.Frames.{IsBodyOf, IsSpelling, Said, Transfers}
use Rattle.host_frames.specs.declared.frame.Transfer.TheVariants.{Key}
use Rattle.host_node.specs.declared.mail.KeptKey.{KeptKey}
use Rattle.pair_protocol.specs.Lawful.{Among}

-- the ring that bodies come out of, and the one that frames go into
pub record Rings : Type 0 where
  pub inbox : Ring
  pub outbox : Ring

-- the bodies that came, those that are known to wait, the frames that went, how many more the ring takes that are known of,
-- the keys of each port that wait, and the rings
pub record Post : Type 0 where
  pub came : List (List ℕ)
  pub waits : List (List ℕ)
  pub gone : List (List ℕ)
  pub room : ℕ
  pub first : List KeptKey
  pub second : List KeptKey
  pub rings : Rings

-- the keys of a port that wait
abbrev pub keys_at : Post → ℕ → List KeptKey
keys_at m port = if port == 0 then m.first else m.second

-- some body that came says this
pub record IsFrom (came : List (List ℕ)) (said : Said) : Type 0 where
  pub body : List ℕ
  pub among : Among body came
  pub says : IsBodyOf said body

-- one more frame went, which spells this
pub record HasSaid (said : Said) (old new : List (List ℕ)) : Type 0 where
  pub bytes : List ℕ
  pub spells : IsSpelling said bytes
  pub gone : new ≡ old ++ bytes ∷ []

-- keys that came
abbrev pub CameAsKey : List (List ℕ) → KeptKey → Type 0
CameAsKey came key = IsFrom came (Transfers (Key key.port key.index key.byte))
