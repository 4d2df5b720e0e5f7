-- What a world has, a later one has too: messages, keys typed, bytes accepted, keys told. So what a frame says stays so.
-- No node falls back to an earlier generation, or is spare again.
use Rattle.std.proofs.Common.{[], ◌++◌, ◌∙◌, ◌∷◌, ◌≡◌, ◌≤◌, List, Some, ap, arith, inl, inr, length, refl, subst, sym, ℕ}
use Rattle.std.specs.Prelude.{slice_get, slice_set}
use Rattle.std.proofs.lemmas.List.{length-set}
use Rattle.pair_protocol.specs.Change as change
use Rattle.pair_protocol.proofs.Keeps.Terminals.{accepted-longer, at_set}
use Rattle.pair_protocol.proofs.Traces.Lists.{among-left, get-longer, get_set, get_set_other, prefix-append, prefix-length, prefix-refl, prefix-trans, same_or_not, same_some}
use Rattle.host_law.proofs.Words.{Acknowledgement, Acts, Alone, Among, Arrival, Change, Changes, Copying, ImagePart, IsPrefix, LogEntry, Machine, Message, Node, Released, Role, SectorRead, Spare, Stays, Terminal, Then, World, WriteDone, accepted_after, alone_takes, begun, fetches, gets_part, goes_live, halts, hears, holds, joiner, joins, passes_input, passes_mark, passes_read, plainly_steps, primary_steps, primary_takes, sector_record, spare, terminal, terminal_in, wins, with_pair, with_terminal, won_role}

pub record Grown (old new : Terminal) : Type 0 where
  pub accepted : length (accepted_after 0 old.arrivals) ≤ length (accepted_after 0 new.arrivals)
  pub typed : IsPrefix old.typed new.typed
  pub told : old.told ≤ new.told

-- one node goes on as another: it is no spare host, and in this generation or a later one
abbrev pub GoesOn : {S : Type 0} → Node S → Node S → Type 0
GoesOn x z = (x.role ≡ Spare → ⊥) → (z.role ≡ Spare → ⊥) × (x.generation ≤ z.generation)

pub record IsNext {S : Type 0} (nodes : List (Node S)) (n : ℕ) (x : Node S) : Type 0 where
  pub z : Node S
  pub there : slice_get nodes n ≡ Some z
  pub next : GoesOn x z

pub record IsLater {S : Type 0} (w v : World S) : Type 0 where
  pub messages : (m : Message) → Among m w.messages → Among m v.messages
  pub terminals : (port : ℕ) → Grown (terminal w port) (terminal v port)
  pub ports : length v.terminals ≡ length w.terminals
  pub nodes : (n : ℕ) (x : Node S) → slice_get w.nodes n ≡ Some x → IsNext v.nodes n x

next-same : {S : Type 0} (nodes : List (Node S)) (n : ℕ) (x : Node S) → slice_get nodes n ≡ Some x → IsNext nodes n x
next-same nodes n x there = record { z = x; there = there; next = λ real. (real, omega arith) }

-- one node changes
next-set : {S : Type 0} (nodes : List (Node S)) (m : ℕ) (a b : Node S) → slice_get nodes m ≡ Some a → GoesOn a b →
    (n : ℕ) (x : Node S) → slice_get nodes n ≡ Some x → IsNext (slice_set nodes m b) n x
next-set {S} nodes m a b at next n x there = elim (same_or_not n m) [
  | inl e ↦ record {
    z = b;
    there = subst (λ j. slice_get (slice_set nodes m b) j ≡ Some b) (sym e) (get_set nodes m a b at);
    next = subst (λ (v : Node S). GoesOn v b)
        (same_some a x (slice_get nodes m) at (subst (λ j. slice_get nodes j ≡ Some x) e there)) next;
  }
  | inr other ↦ next-same (slice_set nodes m b) n x (get_set_other nodes m n b other ∙ there)
]

next-then : {S : Type 0} (mid nodes : List (Node S)) (n : ℕ) (x : Node S) (a : IsNext mid n x) → IsNext nodes n a.z →
    IsNext nodes n x
next-then mid nodes n x a b = record {
  z = b.z;
  there = b.there;
  next = λ real. (let s = a.next real in let t = b.next s.0 in
      let p = s.1 in let q = t.1 in (t.0, omega (arith, p, q)));
}

grown-same : (t : Terminal) → Grown t t
grown-same t = record { accepted = omega arith; typed = prefix-refl t.typed; told = omega arith }

pub later-same : {S : Type 0} (w : World S) → IsLater w w
later-same w = record {
  messages = λ m h. h;
  terminals = λ port. grown-same (terminal w port);
  ports = refl;
  nodes = λ n x there. next-same w.nodes n x there;
}

pub later-then : {S : Type 0} (w v u : World S) → IsLater w v → IsLater v u → IsLater w u
later-then w v u a b = record {
  messages = λ m h. b.messages m (a.messages m h);
  terminals = λ port. (let s = a.terminals port in let t = b.terminals port in
      let sa = s.accepted in let ta = t.accepted in let so = s.told in let to = t.told in
      record { accepted = omega arith; typed = prefix-trans _ _ _ s.typed t.typed; told = omega arith });
  ports = (let p = a.ports in let q = b.ports in omega arith);
  nodes = λ n x there. (let k = a.nodes n x there in next-then v.nodes u.nodes n x k (b.nodes n k.z k.there));
}

-- more is sent
says : {S : Type 0} (w v : World S) (more : List Message) → v.messages ≡ w.messages ++ more → v.terminals ≡ w.terminals →
    v.nodes ≡ w.nodes → IsLater w v
says w v more m t k = record {
  messages = λ k h. subst (Among k) (sym m) (among-left k w.messages more h);
  terminals = λ port. subst (λ ts. Grown (terminal w port) (terminal_in ts port)) (sym t) (grown-same (terminal w port));
  ports = ap length t;
  nodes = λ n x there. next-same v.nodes n x (ap (λ l. slice_get l n) k ∙ there);
}

-- one terminal changes
screen : {S : Type 0} (w : World S) (port : ℕ) (t : Terminal) → Grown (terminal w port) t →
    IsLater w (with_terminal w port t)
screen w port t g = record {
  messages = λ m h. h;
  terminals = λ q. elim (at_set w.terminals port t q) [
    | inl e ↦ subst (Grown (terminal w q)) (sym e) (grown-same (terminal w q))
    | inr e ↦ subst (Grown (terminal w q)) (sym e.1) (subst (λ j. Grown (terminal w j) t) (sym e.0) g)
  ];
  ports = length-set w.terminals port t;
  nodes = λ n x there. next-same w.nodes n x there;
}

-- one node changes, and nothing that the others see
node : {S : Type 0} (w v : World S) (m : ℕ) (a b : Node S) → slice_get w.nodes m ≡ Some a → v.messages ≡ w.messages →
    v.terminals ≡ w.terminals → v.nodes ≡ slice_set w.nodes m b → GoesOn a b → IsLater w v
node w v m a b at messages terminals nodes next = record {
  messages = λ k h. subst (Among k) (sym messages) h;
  terminals = λ port. subst (λ ts. Grown (terminal w port) (terminal_in ts port)) (sym terminals)
      (grown-same (terminal w port));
  ports = ap length terminals;
  nodes = λ n x there. subst (λ l. IsNext l n x) (sym nodes) (next-set w.nodes m a b at next n x there);
}

same-role : {S : Type 0} (a b : Node S) → b.role ≡ a.role → b.generation ≡ a.generation → GoesOn a b
same-role a b r g real = (λ s. real (sym r ∙ s), omega (arith, g))

-- a node that wins is no spare host
pub won-node : (r : Role) → (r ≡ Spare → ⊥) → won_role r ≡ Spare → ⊥
won-node Spare s e = s refl
won-node r s e = (cc)

-- a node begins the next generation with a spare host
pair : {S : Type 0} (M : Machine S) (C : Copying S) (w : World S) (m host : ℕ) (a b : Node S) → Acts w m a Alone →
    slice_get w.nodes host ≡ Some b → b.role ≡ Spare → IsLater w (with_pair M C w m host a)
pair {S} M C w m host a b acts at is = record {
  messages = λ k h. h;
  terminals = λ port. grown-same (terminal w port);
  ports = refl;
  nodes = both;
}
  where
    mid : List (Node S)
    mid = slice_set w.nodes m (begun M a)

    other : host ≡ m → ⊥
    other e =
        let k : a ≡ b = same_some a b (slice_get w.nodes m) acts.there
        (subst (λ j. slice_get w.nodes j ≡ Some b) e at) in
        let r : Alone ≡ Spare = sym acts.role_is ∙ ap (λ (v : Node S). v.role) k ∙ is in
        (cc)

    both : (n : ℕ) (x : Node S) → slice_get w.nodes n ≡ Some x → IsNext (slice_set mid host (joiner M C a)) n x
    both n x there =
        let k = next-set w.nodes m a (begun M a) acts.there (λ real. (λ e. (cc), omega arith)) n x there in
        next-then mid (slice_set mid host (joiner M C a)) n x k
        (next-set mid host b (joiner M C a) (get_set_other w.nodes m host (begun M a) other ∙ at)
        (λ real. absurd (real is)) n k.z k.there)

module _ {S : Type 0} (M : Machine S) (C : Copying S) where
  pub change-later : (w v : World S) → Change M C w v → IsLater w v
  change-later w v (change.Types port byte) =
      let t = terminal w port in
      screen w port (record t { typed = t.typed ++ byte ∷ [] })
      (record { accepted = omega arith; typed = prefix-append t.typed (byte ∷ []); told = omega arith })
  change-later w v (change.Arrives m port number byte is) =
      let t = terminal w port in
      let a : List Arrival = record { number = number; byte = byte } ∷ [] in
      screen w port (record t { arrivals = t.arrivals ++ a })
      (record {
        accepted = prefix-length _ _ (accepted-longer 0 t.arrivals a);
        typed = prefix-refl t.typed;
        told = omega arith;
      })
  change-later w v (change.Tells n x port role acts serves) =
      let t = terminal w port in
      screen w port _ (record { accepted = omega arith; typed = prefix-refl t.typed; told = omega arith })
  change-later w v (change.Sends n x index e acts is) = says w v (LogEntry x.generation index e ∷ []) refl refl refl
  change-later w v (change.Acknowledges n x replayed acts few) =
      says w v (Acknowledgement x.generation (length x.held) replayed ∷ []) refl refl refl
  change-later w v (change.PrimaryReleases n x name o acts is covered) = says w v (Released o ∷ []) refl refl refl
  change-later w v (change.AloneReleases n x name o acts is) = says w v (Released o ∷ []) refl refl refl
  change-later w v (change.SendsPart n x s index part acts is there) =
      says w v (ImagePart x.generation index part ∷ []) refl refl refl
  change-later w v (change.Puts m write is) = says w v (WriteDone write.number ∷ []) refl refl refl
  change-later w v (change.ReadsSector address) =
      says w v
      (SectorRead address (sector_record M w.puts address).number (sector_record M w.puts address).bytes ∷ []) refl refl refl
  change-later w v (change.PrimarySteps n x s gives acts is) =
      node w v n x (primary_steps M x s gives) acts.there refl refl refl (same-role x (primary_steps M x s gives) refl refl)
  change-later w v (change.AloneSteps n x s gives acts is) =
      node w v n x (plainly_steps x s) acts.there refl refl refl (same-role x (plainly_steps x s) refl refl)
  change-later w v (change.PrimaryTakes n x s i acts may free is) =
      node w v n x (primary_takes M x s i) acts.there refl refl refl (same-role x (primary_takes M x s i) refl refl)
  change-later w v (change.AloneTakes n x s i acts may free is) =
      node w v n x (alone_takes M x s i) acts.there refl refl refl (same-role x (alone_takes M x s i) refl refl)
  change-later w v (change.Holds n x m e acts is) =
      node w v n x (holds x e) acts.there refl refl refl (same-role x (holds x e) refl refl)
  change-later w v (change.Hears n x m held replayed acts is) =
      node w v n x (hears x held replayed) acts.there refl refl refl (same-role x (hears x held replayed) refl refl)
  change-later w v (change.ReplaysStep n x role e s gives acts replays is less takes) =
      node w v n x (plainly_steps x s) acts.there refl refl refl (same-role x (plainly_steps x s) refl refl)
  change-later w v (change.ReplaysMark n x role e acts replays is at none) =
      node w v n x (passes_mark x) acts.there refl refl refl (same-role x (passes_mark x) refl refl)
  change-later w v (change.ReplaysInput n x role e i s acts replays is at input takes) =
      node w v n x (passes_input x s) acts.there refl refl refl (same-role x (passes_input x s) refl refl)
  change-later w v (change.Fetches n x role m drive sector number bytes acts replays at is) =
      node w v n x (fetches x bytes) acts.there refl refl refl (same-role x (fetches x bytes) refl refl)
  change-later w v (change.ReplaysRead n x role drive sector number bytes s acts replays at is takes) =
      node w v n x (passes_read x s) acts.there refl refl refl (same-role x (passes_read x s) refl refl)
  change-later w v (change.Stops n x there a_node) =
      node w v n x (halts x) there refl refl refl (same-role x (halts x) refl refl)
  change-later w v (change.GetsPart n x m index part acts is) =
      node w v n x (gets_part x index part) acts.there refl refl refl (same-role x (gets_part x index part) refl refl)
  change-later w v (change.Wins n x role acts j s none) =
      node w v n x (wins x) acts.there refl refl refl (λ real. (won-node x.role real, omega arith))
  change-later w v (change.GoesLive n x acts is) =
      node w v n x (goes_live x) acts.there refl refl refl (λ real. (λ e. (cc), omega arith))
  change-later w v (change.Joins n x parts s acts is makes) =
      node w v n x (joins x s) acts.there refl refl refl (λ real. (λ e. (cc), omega arith))
  change-later w v (change.Begins n host x y acts at is) = pair M C w n host x y acts at is
  change-later w v change.HostComes = record {
    messages = λ m h. h;
    terminals = λ port. grown-same (terminal w port);
    ports = refl;
    nodes = λ n x there. next-same v.nodes n x (get-longer w.nodes (spare M ∷ []) n x there);
  }

  pub changes-later : (w v : World S) → Changes M C w v → IsLater w v
  changes-later w v Stays = later-same w
  changes-later w v (Then {mid = u} c cs) = later-then w u v (change-later w u c) (changes-later u v cs)
