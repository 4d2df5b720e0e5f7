-- The lines to the hosts by their places: which bodies came, which frames went, and that nothing else became of the rings.
use Rattle.std.specs.Prelude.{◌≡◌, ℕ, ◌==◌, ◌⊎◌, Bool, true, false, if◌then◌else◌, List, [], ◌∷◌, ◌++◌, slice_get, slice_set, Option, Some, None, is_none, not, ◌&&◌}
use Rattle.std.specs.Global.{Vec}
use Rattle.std.specs.List.{AllByRecursion}
use Rattle.rtrb.specs.Ring.{SameConsumer, SameProducer, known_items, received, sent}
use Rattle.rtrb.specs.declared.producer.Producer.{Producer}
use Rattle.host_frames.specs.Frames.{IsSpelling, Said}
use Rattle.host_frames.specs.declared.frame.Report.{Report}
use Rattle.outside_switch.specs.declared.line.HostLine.{HostLine}

-- a frame that was pushed to the host at a place
pub record Pushed : Type 0 where
  pub place : ℕ
  pub bytes : Vec ℕ

-- ---- one line

-- these frames went into the ring to a host; into none if it is cut off
abbrev pub Took : {A P : Type 0} → List (Vec ℕ) → Option (Producer (Vec ℕ) A P) → Option (Producer (Vec ℕ) A P) → Type 0
Took frames None None = frames ≡ []
Took frames (Some a) (Some b) = SameProducer a b × (sent b ≡ sent a ++ frames)
Took frames None (Some b) = ⊥
Took frames (Some a) None = ⊥

-- a frame went into the ring to a host, or was lost
abbrev pub Pushes : {A P : Type 0} → Said → Bool → Option (Producer (Vec ℕ) A P) → Option (Producer (Vec ℕ) A P) → Type 0
Pushes said true a b = (bytes : Vec ℕ) × IsSpelling said bytes.items × Took (bytes ∷ []) a b
Pushes said false a b = Took [] a b

-- these bodies came from a host, and these frames went to it, which is the host that it was
pub record LineGoes (bodies frames : List (Vec ℕ)) (a b : HostLine) : Type 0 where
  pub same : SameConsumer a.from b.from
  pub came : received b.from ≡ received a.from ++ bodies
  pub gone : Took frames a.to b.to
  pub number : b.number ≡ a.number

-- a frame went to a host, or was lost
abbrev pub Sends : Said → Bool → HostLine → HostLine → Type 0
Sends said true a b = (bytes : Vec ℕ) × IsSpelling said bytes.items × LineGoes [] (bytes ∷ []) a b
Sends said false a b = LineGoes [] [] a b

-- the next body came from a host, or none waits
abbrev pub Hears : Option (Vec ℕ) → HostLine → HostLine → Type 0
Hears (Some body) a b = LineGoes (body ∷ []) [] a b
Hears None a b = LineGoes [] [] a b × (known_items b.from ≡ [])

-- a spare that may be given to a generation: it says that it is one, and has no number
abbrev pub reports_spare : Option Report → Bool
reports_spare None = false
reports_spare (Some report) = is_none report.role

abbrev pub is_spare : HostLine → Bool
is_spare line = not (is_none line.to) && (is_none line.number && reports_spare line.report)

-- ---- all lines

-- those of some frames that went to a place
abbrev pub pushed_to : ℕ → List Pushed → List (Vec ℕ)
pushed_to place [] = []
pushed_to place (p ∷ pushed) = if p.place == place then p.bytes ∷ pushed_to place pushed else pushed_to place pushed

abbrev pub PlaceGoes : List (Vec ℕ) → Option HostLine → Option HostLine → Type 0
PlaceGoes frames None None = frames ≡ []
PlaceGoes frames (Some a) (Some b) = LineGoes [] frames a b
PlaceGoes frames None (Some b) = ⊥
PlaceGoes frames (Some a) None = ⊥

-- these frames went to the hosts at their places, in this order, and none came
pub record LinesGo (pushed : List Pushed) (old new : List HostLine) : Type 0 where
  pub each : (place : ℕ) → PlaceGoes (pushed_to place pushed) (slice_get old place) (slice_get new place)

-- a frame went to the host at a place, or was lost
abbrev pub Posts : ℕ → Said → Bool → List HostLine → List HostLine → Type 0
Posts place said true old new =
    (bytes : Vec ℕ) × IsSpelling said bytes.items × LinesGo (record { place = place; bytes = bytes } ∷ []) old new
Posts place said false old new = LinesGo [] old new

-- a frame went to the hosts at all places, or was lost
pub record PostsAll (said : Said) (old new : List HostLine) : Type 0 where
  pub pushed : List Pushed
  pub spelled : AllByRecursion (λ (p : Pushed). IsSpelling said p.bytes.items) pushed
  pub lines : LinesGo pushed old new

-- one line became another, and all others stayed
pub record OneLine (place : ℕ) (Becomes : HostLine → HostLine → Type 0) (old new : List HostLine) : Type 0 where
  pub before : HostLine
  pub after : HostLine
  pub there : slice_get old place ≡ Some before
  pub set : new ≡ slice_set old place after
  pub becomes : Becomes before after

-- the line of a place became another, if there is one
abbrev pub AtPlace : ℕ → (HostLine → HostLine → Type 0) → List HostLine → List HostLine → Type 0
AtPlace place Becomes old new = OneLine place Becomes old new ⊎ ((slice_get old place ≡ None) × (new ≡ old))

-- a host is cut off; it is another one of the law from now on
abbrev pub IsClosed : HostLine → HostLine → Type 0
IsClosed a b = b ≡ record a { to = None }

abbrev pub IsNamed : ℕ → HostLine → HostLine → Type 0
IsNamed number a b = b ≡ record a { number = Some number }

-- what a host reports is kept
abbrev pub IsReported : Report → HostLine → HostLine → Type 0
IsReported report a b = b ≡ record a { report = Some report }

-- no body is known to wait
abbrev pub NoneWaits : Option HostLine → Type 0
NoneWaits None = Unit {0}
NoneWaits (Some line) = known_items line.from ≡ []

-- the next body came from the host at a place, or none waits
abbrev pub HearsAt : ℕ → Option (Vec ℕ) → List HostLine → List HostLine → Type 0
HearsAt place (Some body) old new = OneLine place (LineGoes (body ∷ []) []) old new
HearsAt place None old new = LinesGo [] old new × NoneWaits (slice_get new place)

-- which host of the law is at a place
abbrev pub number_in : Option HostLine → Option ℕ
number_in None = None
number_in (Some line) = line.number

abbrev pub number_at : List HostLine → ℕ → Option ℕ
number_at lines place = number_in (slice_get lines place)

-- it is another number, or none
abbrev pub is_other : Option ℕ → ℕ → Bool
is_other None other = true
is_other (Some number) other = not (number == other)

-- a generation's number was given to this place before; or this place has none, and no other one has this one
abbrev pub MayBeGiven : ℕ → ℕ → List HostLine → Type 0
MayBeGiven generation place lines =
    (number_at lines place ≡ Some generation)
    ⊎ ((number_at lines place ≡ None) × ((other : ℕ) → number_at lines other ≡ Some generation → ⊥))

-- no two places have one number
abbrev pub AreApart : List HostLine → Type 0
AreApart lines = (m n number : ℕ) → number_at lines m ≡ Some number → number_at lines n ≡ Some number → m ≡ n
