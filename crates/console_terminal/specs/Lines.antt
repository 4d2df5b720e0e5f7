-- What passes along the lines of a pair that runs: keys to its guest, and accepted bytes to its terminals.
use Rattle.std.specs.Prelude.{◌≡◌, ◌==◌, ◌++◌, ◌<◌, ◌&&◌, not, ℕ, Bool, true, false, if◌then◌else◌, List, [], ◌∷◌, Option, None, Some}
use Rattle.console_terminal.specs.declared.keyboard.Keyboard.{Keyboard}
use Rattle.console_terminal.specs.declared.keyboard.Stroke.{Stroke}
use Rattle.console_terminal.specs.declared.keyboard.Stroke.TheVariants.{Key, End}
use Rattle.console_terminal.specs.declared.screen.Screen.{Screen}
use Rattle.console_terminal.specs.declared.screen.Shown.{Shown}
use Rattle.rtrb.specs.Ring.{SameConsumer, SameProducer, known_free, received, sent}
use Rattle.rtrb.specs.declared.consumer.Consumer.{Consumer}
use Rattle.rtrb.specs.declared.producer.Producer.{Producer}

-- nothing, or one thing
abbrev pub found : {T : Type 0} → Option T → List T
found None = []
found (Some x) = x ∷ []

module _ {T A P : Type 0} where
  -- what came through a ring, if there is one
  abbrev pub came_by : Option (Consumer T A P) → List T
  came_by None = []
  came_by (Some ring) = received ring

  -- it is the same ring, or there is none
  abbrev pub IsSameEnd : Option (Consumer T A P) → Option (Consumer T A P) → Type 0
  IsSameEnd None None = Unit {0}
  IsSameEnd (Some a) (Some b) = SameConsumer a b
  IsSameEnd _ _ = ⊥

  -- what went into a ring, if there is one
  abbrev pub gone_by : Option (Producer T A P) → List T
  gone_by None = []
  gone_by (Some ring) = sent ring

  abbrev pub IsSameStart : Option (Producer T A P) → Option (Producer T A P) → Type 0
  IsSameStart None None = Unit {0}
  IsSameStart (Some a) (Some b) = SameProducer a b
  IsSameStart _ _ = ⊥

  -- a place is known to be free in it
  abbrev pub HasRoom : Option (Producer T A P) → Type 0
  HasRoom None = Unit {0}
  HasRoom (Some ring) = 0 < known_free ring

  -- none is
  abbrev pub IsFull : Option (Producer T A P) → Type 0
  IsFull None = ⊥
  IsFull (Some ring) = known_free ring ≡ 0

  -- what has gone into it then
  abbrev pub after_push : Option (Producer T A P) → T → List T
  after_push None item = []
  after_push (Some ring) item = sent ring ++ item ∷ []

-- ---- keys

-- the keys among what a keyboard sent
abbrev pub keys_in : List Stroke → List ℕ
keys_in [] = []
keys_in (Key byte ∷ strokes) = byte ∷ keys_in strokes
keys_in (End ∷ strokes) = keys_in strokes

abbrev pub key_in : Option Stroke → Option ℕ
key_in (Some (Key byte)) = Some byte
key_in (Some End) = None
key_in None = None

-- the keys that have come from a keyboard
abbrev pub heard : Keyboard → List ℕ
heard k = keys_in (came_by k.ring)

abbrev pub is_end : Option Stroke → Bool
is_end (Some End) = true
is_end (Some (Key byte)) = false
is_end None = false

-- a stroke came from a keyboard, or none: it gave the key that it was, and is closed after the end; one that is closed stays as it
-- was
pub record Hears (old new : Keyboard) (key : Option ℕ) : Type 0 where
  pub stroke : Option Stroke
  pub same : IsSameEnd old.ring new.ring
  pub came : came_by new.ring ≡ came_by old.ring ++ found stroke
  pub key_is_its : key ≡ key_in stroke
  pub ended : new.open ≡ (old.open && not (is_end stroke))
  pub key_is : heard new ≡ heard old ++ found key
  pub closed : old.open ≡ false → (new ≡ old) × (key ≡ None)

-- ---- bytes

-- the bytes of a port among those that were shown
abbrev pub shown_at : ℕ → List Shown → List ℕ
shown_at port [] = []
shown_at port (s ∷ shown) = if s.port == port then s.byte ∷ shown_at port shown else shown_at port shown

-- a screen has shown these bytes of a port; of a dark one nothing is said
abbrev pub HasGone : {A P : Type 0} → Option (Producer Shown A P) → ℕ → List ℕ → Type 0
HasGone None port bytes = Unit {0}
HasGone (Some ring) port bytes = shown_at port (sent ring) ≡ bytes

abbrev pub HasShown : Screen → ℕ → List ℕ → Type 0
HasShown s port bytes = HasGone s.ring port bytes

-- the bytes of one port with a byte of another, or of the same
abbrev pub with_byte : ℕ → ℕ → ℕ → List ℕ → List ℕ
with_byte at port byte bytes = if port == at then bytes ++ byte ∷ [] else bytes
