-- What code that sends and takes frames may rely on.
use Rattle.std.specs.Prelude.{◌≡◌, ℕ, ◌<◌, true, List, [], ◌++◌, length, map}
use Rattle.std.specs.List.{AllByRecursion}
use Rattle.host_frames.specs.Frames.{Said, body_of, is_frame, spelling}
use Rattle.host_frames.specs.Stream.{BeginsNone, BeginsWhole, Fed, IsPartial, stream_of}

-- bytes begin with the spelling of one frame at most; so no spelling is of two frames, and none begins another one
abbrev pub OneFront : Type 0
OneFront = (f g : Said) (xs ys : List ℕ) → is_frame f ≡ true → is_frame g ≡ true → spelling f ++ xs ≡ spelling g ++ ys
    → (f ≡ g) × (xs ≡ ys)

-- ---- streams, whose bytes come in any pieces

-- what was given and what is pending are what was taken
abbrev pub LosesNothing : Type 0
LosesNothing = (taken pending : List ℕ) (given : List (List ℕ)) → Fed taken given pending → taken ≡ stream_of given ++ pending

-- if all bytes of some frames have come and no whole frame is pending, just these frames were given
abbrev pub ComesOut : Type 0
ComesOut = (frames : List Said) (taken pending : List ℕ) (given : List (List ℕ)) → Fed taken given pending
    → taken ≡ stream_of (map body_of frames) → IsPartial pending → (given ≡ map body_of frames) × (pending ≡ [])

-- if bytes of frames come, nothing is malformed
abbrev pub IsNeverMalformed : Type 0
IsNeverMalformed = (frames : List Said) (taken more pending : List ℕ) (given : List (List ℕ))
    → AllByRecursion (λ f. is_frame f ≡ true) frames → Fed taken given pending
    → taken ++ more ≡ stream_of (map body_of frames) → BeginsNone pending → ⊥

-- what begins no frame never does
abbrev pub StaysMalformed : Type 0
StaysMalformed = (bytes more : List ℕ) → BeginsNone bytes → BeginsNone (bytes ++ more)

-- less than a whole frame has less than 4,096 bytes
abbrev pub IsShort : Type 0
IsShort = (bytes : List ℕ) → IsPartial bytes → length bytes < 4096

-- bytes begin with a whole frame, or are a part of one, or begin none: never two of these
pub record StandApart : Type 0 where
  pub whole_or_part : (bytes : List ℕ) → BeginsWhole bytes → IsPartial bytes → ⊥
  pub whole_or_none : (bytes : List ℕ) → BeginsWhole bytes → BeginsNone bytes → ⊥
  pub part_or_none : (bytes : List ℕ) → IsPartial bytes → BeginsNone bytes → ⊥
