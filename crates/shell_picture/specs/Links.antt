-- A link that loses, repeats and delays messages: what becomes of each, by the number that a seed draws for it.
use Rattle.std.specs.Prelude.{◌≡◌, ℕ, zero, suc, ◌+◌, ◌/◌, ◌%◌, nat_le, if◌then◌else◌, List, [], ◌∷◌, ◌++◌, Option, Some, None, unwrap_or}
use Rattle.rand_pcg.specs.Lcg.{Lcg, increment_of, started}
use Rattle.rand_pcg.specs.Pcg.{multiplier_64, pcg32}
use Rattle.pair_events.specs.declared.event.Event.{Event}
use Rattle.shell_picture.specs.declared.link.Fate.{Fate}
use Rattle.shell_picture.specs.declared.link.Fate.TheVariants.{Arrives, IsLost, ArrivesTwice, IsOvertaken}
use Rattle.shell_picture.specs.declared.link.Link.{Link}
use Rattle.shell_language.specs.declared.line.Loss.{Loss}

-- a link of which nothing is said loses nothing
abbrev pub loss_of : Option Loss → Loss
loss_of loss = unwrap_or loss (record { percent = 0; seed = 0 })

-- the generator of a seed: PCG32, on stream 88
unfoldable pub seeded : ℕ → Lcg
seeded seed = started 64 multiplier_64 seed (increment_of 64 88)

-- the number that it draws, and the generator after that
unfoldable pub drawn : Lcg → ℕ
drawn generator = (pcg32 generator).0

unfoldable pub after_draw : Lcg → Lcg
after_draw generator = (pcg32 generator).1

-- Of 100 messages this many do not simply arrive. Of those a third each is lost, arrives twice, is overtaken by others.
abbrev pub third : ℕ → Fate
third zero = IsLost
third (suc zero) = ArrivesTwice
third (suc (suc n)) = IsOvertaken

abbrev pub fate_by : ℕ → ℕ → Fate
fate_by percent number = if nat_le percent (number % 100) then Arrives else third (number / 100 % 3)

-- the arrivals of a message that come at once, and those that come after others
abbrev pub at_once : Fate → Event → List Event
at_once Arrives event = event ∷ []
at_once IsLost event = []
at_once ArrivesTwice event = event ∷ event ∷ []
at_once IsOvertaken event = []

abbrev pub later : Fate → Event → List Event
later IsOvertaken event = event ∷ []
later _ event = []

-- what has gone over a link: what arrives, what is overtaken, and the link's generator after that
pub record Traffic : Type 0 where
  pub arrives : List Event
  pub late : List Event
  pub generator : Lcg

abbrev pub traffic : Link → List Event → Traffic
traffic link arrives = record { arrives = arrives; late = link.overtaken.items; generator = link.generator }

-- one more message goes over it; if there is one
abbrev pub goes : ℕ → Event → Traffic → Traffic
goes percent event t = record {
  arrives = t.arrives ++ at_once (fate_by percent (drawn t.generator)) event;
  late = t.late ++ later (fate_by percent (drawn t.generator)) event;
  generator = after_draw t.generator;
}

abbrev pub may_go : ℕ → Option Event → Traffic → Traffic
may_go percent None t = t
may_go percent (Some event) t = goes percent event t

-- the messages go that have an arrival, so many from the first on, in the order of their numbers
abbrev pub all_go : ℕ → (ℕ → Option Event) → ℕ → ℕ → Traffic → Traffic
all_go percent arrival first zero t = t
all_go percent arrival first (suc count) t = may_go percent (arrival (first + count)) (all_go percent arrival first count t)

-- Messages have gone over a link; those that others overtake arrive after them.
pub record Carries (arrival : ℕ → Option Event) (first count : ℕ) (old new : List Event) (link link' : Link) : Type 0 where
  pub arrive : new ≡ (all_go link.percent arrival first count (traffic link old)).arrives
      ++ (all_go link.percent arrival first count (traffic link old)).late
  pub drawn : link'.generator ≡ (all_go link.percent arrival first count (traffic link old)).generator
  pub none_late : link'.overtaken.items ≡ []
  pub percent : link'.percent ≡ link.percent
