-- What is shown after a step: the frames of before still tell what is so, and those that are sent do.
use Rattle.std.proofs.Common.{[], ◌++◌, ◌∙◌, ◌∷◌, ◌≡◌, ◌<◌, ◌≤◌, List, None, Option, Some, ap, arith, inl, inr, length, refl, subst, suc, sym, zero, ℕ}
use Rattle.std.specs.Prelude.{slice_get, slice_set}
use Rattle.std.proofs.lemmas.List.{length-set}
use Rattle.pair_protocol.specs.Change.{ReadsSector}
use Rattle.pair_protocol.proofs.RowActions.{row_changes}
use Rattle.pair_protocol.proofs.Promises.Runs.{changes_reach}
use Rattle.pair_protocol.proofs.Traces.Lists.{among-split, get-prefix, get_set_cases, get_set_other, same_some}
use Rattle.host_law.specs.Host.{recruit}
use Rattle.host_law.specs.Shows.{IsNumbered, IsShown, IsShownAt}
use Rattle.host_law.proofs.Words.{Among, AreAccepted, AreTerminals, AreTold, AsksArbiter, AsksSector, Carries, Changes, Copying, Fleet, Followed, Follows, Frame, HasLost, HasWon, IsTerminal, Joining, Key, Machine, MayBegin, Message, Node, Outside, Recruits, Shows, Spare, Stays, Tells, TellsKeys, Terminal, Then, World, terminal_in}
use Rattle.host_law.specs.Laws as law
use Rattle.host_law.proofs.Later.{IsLater, changes-later}

-- an element has a place
pub among-at : {A : Type 0} (x : A) (xs : List A) → Among x xs → (k : ℕ) × (slice_get xs k ≡ Some x)
among-at x [] h = absurd h
among-at x (y ∷ xs) (inl e) = (zero, ap Some (sym e))
among-at x (y ∷ xs) (inr h) = let r = among-at x xs h in (suc r.0, r.1)

-- what a step is in the protocol are actions
pub follows-changes : {S : Type 0} (M : Machine S) (C : Copying S) (w v : World S) → Follows M C w v → Changes M C w v
follows-changes M C w v law.ByNothing = Stays
follows-changes M C w v (law.ByEvent e r row) = row_changes M C w v e r row
follows-changes M C w v (law.ByRead address) = Then (ReadsSector address) Stays

-- a host that waits to hear of a generation is as before, and so is its node in the world
pub record StillWait {S : Type 0} (hosts later nodes more : List (Node S)) : Type 0 where
  pub host : (k : ℕ) (x : Node S) → slice_get later k ≡ Some x → x.role ≡ Spare → slice_get hosts k ≡ Some x
  pub node : (k : ℕ) (x z : Node S) → slice_get hosts k ≡ Some x → x.role ≡ Spare → slice_get nodes k ≡ Some z →
      z.role ≡ Joining → slice_get more k ≡ Some z

pub wait-same : {S : Type 0} (hosts nodes : List (Node S)) → StillWait hosts hosts nodes nodes
wait-same hosts nodes = record { host = λ k x at is. at; node = λ k x z at is there joins. there }

pub tells-later : {S : Type 0} (M : Machine S) (C : Copying S) (hosts later : List (Node S)) (w v : World S) (o p : Outside) →
    IsLater w v → AreTold p.winners o.winners → p.hosts ≡ o.hosts → StillWait hosts later w.nodes v.nodes → (frame : Frame) →
    Tells M C hosts w o frame → Tells M C later v p frame
tells-later M C hosts later w v o p l k many wait (Carries message) t = l.messages message t
tells-later M C hosts later w v o p l k many wait (AsksSector address) t = tt
tells-later M C hosts later w v o p l k many wait (TellsKeys port keys) t =
    let more = (l.terminals port).told in omega (arith, t, more)
tells-later M C hosts later w v o p l k many wait (AsksArbiter host generation) t = tt
tells-later M C hosts later w v o p l k many wait (Key port index byte) t =
    get-prefix _ _ index byte (l.terminals port).typed t
tells-later M C hosts later w v o p l k many wait (AreAccepted port count) t =
    let more = (l.terminals port).accepted in omega (arith, t, more)
tells-later M C hosts later w v o p l k many wait (HasWon generation host) t = k generation host t
tells-later M C hosts later w v o p l k many wait (HasLost generation host) t = (t.0, k generation t.0 t.1, t.2)
tells-later M C hosts later w v o p l k many wait (MayBegin generation) t = subst (λ n. generation < n) (sym many) t
tells-later M C hosts later w v o p l k many wait (Recruits generation count reads list) t = λ x at is.
    (let was = wait.host generation x at is in
    wait.node generation x (recruit M C generation count reads list) was is (t x was is) refl)

-- hosts and nodes that show each other still do after one of each changes
pub shown-set : {S : Type 0} (xs zs : List (Node S)) (k : ℕ) (x z : Node S) → IsShown x z →
    ((n : ℕ) → IsShownAt (slice_get xs n) (slice_get zs n)) →
    (n : ℕ) → IsShownAt (slice_get (slice_set xs k x) n) (slice_get (slice_set zs k z) n)
shown-set [] [] k x z p h n = tt
shown-set [] (b ∷ zs) k x z p h n = absurd (h 0)
shown-set (a ∷ xs) [] k x z p h n = absurd (h 0)
shown-set (a ∷ xs) (b ∷ zs) zero x z p h zero = p
shown-set (a ∷ xs) (b ∷ zs) zero x z p h (suc n) = h (suc n)
shown-set (a ∷ xs) (b ∷ zs) (suc k) x z p h zero = h zero
shown-set (a ∷ xs) (b ∷ zs) (suc k) x z p h (suc n) = shown-set xs zs k x z p (λ m. h (suc m)) n

-- the node that a host shows, and the host that shows a node
pub node-shown : {S : Type 0} (here there : Option (Node S)) (x : Node S) → here ≡ Some x → IsShownAt here there →
    (z : Node S) × (there ≡ Some z) × IsShown x z
node-shown here None x e h = absurd (subst (λ o. IsShownAt o None) e h)
node-shown here (Some z) x e h = (z, refl, subst (λ o. IsShownAt o (Some z)) e h)

pub host-shown : {S : Type 0} (here there : Option (Node S)) (z : Node S) → there ≡ Some z → IsShownAt here there →
    (x : Node S) × (here ≡ Some x) × IsShown x z
host-shown None there z e h = absurd (subst (λ o. IsShownAt None o) e h)
host-shown (Some x) there z e h = (x, refl, subst (λ o. IsShownAt (Some x) o) e h)

-- one terminal changes, here and in the world
pub each-set : (ss ts : List Terminal) (port : ℕ) (s t : Terminal) → length ss ≡ length ts →
    ((q : ℕ) → IsTerminal (terminal_in ss q) (terminal_in ts q)) → IsTerminal s t →
    (q : ℕ) → IsTerminal (terminal_in (slice_set ss port s) q) (terminal_in (slice_set ts port t) q)
each-set [] [] port s t e h i q = h q
each-set [] (y ∷ ts) port s t e h i q = absurd (omega (arith, e))
each-set (x ∷ ss) [] port s t e h i q = absurd (omega (arith, e))
each-set (x ∷ ss) (y ∷ ts) zero s t e h i zero = i
each-set (x ∷ ss) (y ∷ ts) zero s t e h i (suc q) = h (suc q)
each-set (x ∷ ss) (y ∷ ts) (suc port) s t e h i zero = h zero
each-set (x ∷ ss) (y ∷ ts) (suc port) s t e h i (suc q) =
    each-set ss ts port s t (omega (arith, e)) (λ j. h (suc j)) i q

pub terminals-set : (ss ts : List Terminal) (port : ℕ) (s t : Terminal) → AreTerminals ss ts → IsTerminal s t →
    AreTerminals (slice_set ss port s) (slice_set ts port t)
terminals-set ss ts port s t h i = record {
  ports = length-set ss port s ∙ h.ports;
  count = length-set ts port t ∙ h.count;
  each = each-set ss ts port s t (h.ports ∙ sym h.count) h.each i;
}

module _ {S : Type 0} (M : Machine S) (C : Copying S) (f : Fleet S) (w : World S) (h : Shows M C f w) where
  -- a step is followed by one of the world
  pub follow : (hosts : List (Node S)) (o : Outside) (more : List Frame) (v : World S) → Follows M C w v →
      ((n : ℕ) → IsShownAt (slice_get hosts n) (slice_get v.nodes n)) →
      ((n : ℕ) (z : Node S) → slice_get v.nodes n ≡ Some z → IsNumbered n z) →
      StillWait f.hosts hosts w.nodes v.nodes → AreTerminals o.terminals v.terminals →
      AreTold o.winners v.winners → o.puts ≡ v.puts → AreTold o.winners f.outside.winners →
      o.hosts ≡ f.outside.hosts → length hosts ≡ length f.hosts →
      ((frame : Frame) → Among frame more → Tells M C hosts v o frame) →
      Followed M C w (record { hosts = hosts; outside = o; sent = f.sent ++ more })
  follow hosts o more v follows nodes numbered wait terminals winners puts keeps many count tells =
      let changes = follows-changes M C w v follows in
      let later = changes-later M C w v changes in
      record {
        new = v;
        follows = follows;
        shows = record {
          reached = changes_reach M C w v h.reached changes;
          nodes = nodes;
          numbered = numbered;
          terminals = terminals;
          winners = winners;
          puts = puts;
          hosts = many ∙ h.hosts ∙ sym count;
          frames = λ frame among. elim (among-split frame f.sent more among) [
            | inl old ↦ tells-later M C f.hosts hosts w v f.outside o later keeps many wait frame (h.frames frame old)
            | inr new ↦ tells frame new
          ];
        };
      }

  pub told-same : AreTold f.outside.winners f.outside.winners
  told-same generation n is = is

  pub no-frame : (hosts : List (Node S)) (v : World S) (o : Outside) (frame : Frame) → Among frame [] →
      Tells M C hosts v o frame
  no-frame hosts v o frame among = absurd among

  pub one-frame : (hosts : List (Node S)) (v : World S) (o : Outside) (sent : Frame) → Tells M C hosts v o sent →
      (frame : Frame) → Among frame (sent ∷ []) → Tells M C hosts v o frame
  one-frame hosts v o sent t frame (inl e) = subst (Tells M C hosts v o) (sym e) t
  one-frame hosts v o sent t frame (inr among) = absurd among

  -- the node of a host is that of the world
  pub node-there : (n : ℕ) (x : Node S) → slice_get f.hosts n ≡ Some x → (x.role ≡ Spare → ⊥) →
      slice_get w.nodes n ≡ Some x
  node-there n x there real =
      let r = node-shown (slice_get f.hosts n) (slice_get w.nodes n) x there (h.nodes n) in
      elim r.2 [ inl e ↦ r.1 ∙ ap Some (sym e) | inr p ↦ absurd (real p.0) ]

  pub other : (n : ℕ) (x : Node S) → slice_get f.hosts n ≡ Some x → (x.role ≡ Spare → ⊥) → (k : ℕ) (z : Node S) →
      slice_get f.hosts k ≡ Some z → z.role ≡ Spare → k ≡ n → ⊥
  other n x there real k z at is e =
      let s = same_some x z (slice_get f.hosts n) there (subst (λ j. slice_get f.hosts j ≡ Some z) e at) in
      real (ap (λ (v : Node S). v.role) s ∙ is)

  -- one host changes, and the world's node with it
  pub wait-set : (n : ℕ) (x y : Node S) → slice_get f.hosts n ≡ Some x → (x.role ≡ Spare → ⊥) →
      (y.role ≡ Spare → ⊥) → StillWait f.hosts (slice_set f.hosts n y) w.nodes (slice_set w.nodes n y)
  wait-set n x y there real still = record {
    host = λ k z at is. elim (get_set_cases f.hosts n k y z at) [
      | inl p ↦ absurd (still (ap (λ (v : Node S). v.role) (sym p.1) ∙ is))
      | inr q ↦ q
    ];
    node = λ k z u at is is_there joins. get_set_other w.nodes n k y (other n x there real k z at is) ∙ is_there;
  }

  pub numbered-set : (n : ℕ) (x y : Node S) → slice_get w.nodes n ≡ Some x → (x.role ≡ Spare → ⊥) →
      x.generation ≤ y.generation → (k : ℕ) (z : Node S) → slice_get (slice_set w.nodes n y) k ≡ Some z → IsNumbered k z
  numbered-set n x y there real more k z at = elim (get_set_cases w.nodes n k y z at) [
    | inl p ↦ inr (elim (h.numbered n x there) [
      | inl spare ↦ absurd (real spare)
      | inr low ↦ (let g = ap (λ (v : Node S). v.generation) p.1 in let e = p.0 in omega (arith, g, e, low, more))
    ])
    | inr q ↦ h.numbered k z q
  ]

  -- a message that a frame carries has a number
  pub message-there : (message : Message) → Among (Carries message) f.sent →
      (m : ℕ) × (slice_get w.messages m ≡ Some message)
  message-there message among = among-at message w.messages (h.frames (Carries message) among)
