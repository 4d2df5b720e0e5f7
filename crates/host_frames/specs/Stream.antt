-- A stream of frames: what its bytes may be, and what is made of them as they come.
use Rattle.std.specs.Prelude.{◌≡◌, ◌⊎◌, ℕ, ◌+◌, ◌*◌, ◌<◌, ◌≤◌, ◌==◌, nat_lt, if◌then◌else◌, List, [], ◌∷◌, ◌++◌, length, slice_get, Option, Some, None, Result, Ok, Err}
use Rattle.std.specs.Global.{Vec}
use Rattle.i8080_words.specs.declared.refusal.Fault.{Fault}
use Rattle.i8080_words.specs.declared.refusal.Fault.TheVariants.{Malformed, OutOfMemory}
use Rattle.host_frames.specs.Frames.{framed}

-- what the body of a frame may be
pub record IsBody (body : List ℕ) : Type 0 where
  pub some : 0 < length body
  pub most : length body ≤ 4092

-- the bytes begin with a frame of this body, which others follow
pub record BeginsWhole (bytes : List ℕ) : Type 0 where
  pub body : List ℕ
  pub rest : List ℕ
  pub is_body : IsBody body
  pub same : bytes ≡ framed body ++ rest

-- the bytes are no whole frame, but become one if more come
pub record IsPartial (bytes : List ℕ) : Type 0 where
  pub body : List ℕ
  pub more : List ℕ
  pub is_body : IsBody body
  pub some : 0 < length more
  pub same : bytes ++ more ≡ framed body

-- the bytes begin no frame, however they go on
abbrev pub BeginsNone : List ℕ → Type 0
BeginsNone bytes = (body more rest : List ℕ) → IsBody body → bytes ++ more ≡ framed body ++ rest → ⊥

-- ---- the next frame

abbrev pub Refuses : Fault → List ℕ → Type 0
Refuses fault bytes = ((fault ≡ Malformed) × BeginsNone bytes) ⊎ ((fault ≡ OutOfMemory) × BeginsWhole bytes)

-- what is given of the bytes that are pending, and what is left of them
abbrev pub Gives : List ℕ → Result (Option (Vec ℕ)) Fault → List ℕ → Type 0
Gives old (Ok None) new = (new ≡ old) × IsPartial old
Gives old (Ok (Some body)) new = IsBody body.items × (old ≡ framed body.items ++ new)
Gives old (Err fault) new = (new ≡ old) × Refuses fault old

-- the length in the head of a frame, from left to right: none if it has not come yet
abbrev pub length_of : ℕ → ℕ → Result (Option ℕ) Fault
length_of high low =
    if high * 256 + low == 0 then Err Malformed
    else if nat_lt 4092 (high * 256 + low) then Err Malformed
    else Ok (Some (high * 256 + low))

abbrev pub after_high : ℕ → Option ℕ → Result (Option ℕ) Fault
after_high high None = Ok None
after_high high (Some low) = length_of high low

abbrev pub after_second : Option ℕ → Option ℕ → Result (Option ℕ) Fault
after_second None low = Ok None
after_second (Some high) low = if nat_lt 15 high then Err Malformed else after_high high low

abbrev pub after_first : Option ℕ → Option ℕ → Option ℕ → Result (Option ℕ) Fault
after_first None high low = Ok None
after_first (Some second) high low = if second == 0x52 then after_second high low else Err Malformed

abbrev pub after_nothing : Option ℕ → Option ℕ → Option ℕ → Option ℕ → Result (Option ℕ) Fault
after_nothing None second high low = Ok None
after_nothing (Some first) second high low = if first == 0x46 then after_first second high low else Err Malformed

abbrev pub head_of : List ℕ → Result (Option ℕ) Fault
head_of bytes = after_nothing (slice_get bytes 0) (slice_get bytes 1) (slice_get bytes 2) (slice_get bytes 3)

-- ---- the whole stream

-- frames of these bodies, one after another
abbrev pub stream_of : List (List ℕ) → List ℕ
stream_of [] = []
stream_of (body ∷ bodies) = framed body ++ stream_of bodies

-- what a buffer comes to, in any order of its calls: the bytes that it took, the bodies that it gave, and what is pending
pub data Fed : List ℕ → List (List ℕ) → List ℕ → Type 0 where
  Begins : Fed [] [] []
  Takes : {taken : List ℕ} {given : List (List ℕ)} {pending : List ℕ} (piece : List ℕ) → Fed taken given pending →
      Fed (taken ++ piece) given (pending ++ piece)
  Gave : {taken : List ℕ} {given : List (List ℕ)} {pending : List ℕ} (body rest : List ℕ) → IsBody body →
      pending ≡ framed body ++ rest → Fed taken given pending → Fed taken (given ++ body ∷ []) rest
