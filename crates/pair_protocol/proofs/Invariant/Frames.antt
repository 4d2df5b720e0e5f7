-- Frames: if a node of one generation acts, the lines of all other generations stay; and what holds of the settled moves
-- holds of more of them.
use Rattle.std.proofs.Common.{[], ◌++◌, ◌<◌, ◌∙◌, ◌≡◌, ◌≤◌, ◌⊎◌, List, Some, ap, arith, inl, inr, refl, subst, sym, ℕ}
use Rattle.std.proofs.Math.Path.{path_j, subst_refl}
use Rattle.std.specs.Prelude.{slice_get, slice_set}
use Rattle.pair_protocol.proofs.Words.{Among, Byte, Copying, Entry, IsPrefix, Machine, Message, Move, Node, Operation, Owns, SectorAddress, SectorWrite, Spare, Terminal, Timed, Winner, World, Write, inputs, keys, operations, winner_in, wins}
use Rattle.pair_protocol.proofs.Invariant.{AsAlone, AsBackup, AsDraining, AsJoining, AtStart, AtTop, BackupHere, BackupLeft, BackupState, CameIn, Global, Gone, Inv, IsBackup, IsPrimary, IsRecord, Line, LineOf, Next, OfWrite, Presence, PrimaryHere, PrimaryLeft, Stage, Unused, settled}
use Rattle.pair_protocol.proofs.Traces.Lists.{among-prefix, get_set_cases, get_set_other, prefix-length, prefix-trans, same_or_not, same_some}
use Rattle.pair_protocol.proofs.Traces.Moves.{keys-prefix, operations-prefix}

-- the world after a node's change, in which these have won
abbrev pub with_change : {S : Type 0} → World S → ℕ → Node S → List Winner → World S
with_change w n y winners = record w { nodes = slice_set w.nodes n y; winners = winners }

-- a line with other moves of its primary, and with what its backup does
abbrev pub with_own : {S : Type 0} → Line S → List Move → Stage → Line S
with_own l own stage = record l { own = own; stage = stage }

abbrev pub with_backup : {S : Type 0} → Line S → List Move → Stage → List Entry → Line S
with_backup l more stage held = record l { more = more; stage = stage; held = held }

-- the line at a number that equals another one
pub line-over : {S : Type 0} (M : Machine S) (C : Copying S) (w : World S) (top : ℕ) (T : List Move) (j k : ℕ)
    (e : j ≡ k) (o : LineOf M C w top T j) → (subst (λ z. LineOf M C w top T z) e o).line ≡ o.line
line-over M C w top T j k e o =
    path_j (λ z p. (subst (λ v. LineOf M C w top T v) p o).line ≡ o.line)
    (ap (λ q. q.line) (subst_refl (λ v. LineOf M C w top T v) o)) e

pub global-grows : {S : Type 0} (M : Machine S) (messages : List Message) (terminals : List Terminal)
    (puts : List SectorWrite) (T new : List Move) → IsPrefix T new → CameIn terminals puts (inputs 0 new) →
    Owns M [] M.boot new → Global M messages terminals puts T → Global M messages terminals puts new
global-grows M messages terminals puts T new grows came owns h = record {
  sends = λ o k. longer o (h.sends o k);
  arrived = λ p a k. longer (Byte p a.number a.byte) (h.arrived p a k);
  puts_are = λ v k. (longer (Write v) (h.puts_are v k).0, (h.puts_are v k).1);
  reads = λ q n bytes k. reads q n bytes (h.reads q n bytes k);
  written = h.written;
  came = came;
  owns = owns;
  told = λ p. let k = h.told p in
      let l = prefix-length (keys p (inputs 0 T)) (keys p (inputs 0 new)) (keys-prefix p 0 T new grows) in
      omega arith;
}
  where
    longer : (o : Operation) → Among o (operations T) → Among o (operations new)
    longer o = among-prefix o (operations T) (operations new) (operations-prefix T new grows)

    reads : (q : SectorAddress) (n : ℕ) (bytes : List ℕ) → IsRecord M q n bytes T → IsRecord M q n bytes new
    reads q n bytes (AtStart e f) = AtStart e f
    reads q n bytes (OfWrite v m a e f) = OfWrite v (longer (Write v) m) a e f

-- A generation other than the one that acts.

pub primary-no_spare : {S : Type 0} (M : Machine S) (l : Line S) (a : Node S) → IsPrimary M l a → a.role ≡ Spare → ⊥
primary-no_spare M l a p h = elim p.role [ inl r ↦ (cc) | inr r ↦ (let k = r.0 in (cc)) ]

pub backup-no_spare : {S : Type 0} (M : Machine S) (C : Copying S) (l : Line S) (b : Node S) → BackupState M C l b →
    b.role ≡ Spare → ⊥
backup-no_spare M C l b (AsJoining r s f) h = (cc)
backup-no_spare M C l b (AsBackup r s f) h = (cc)
backup-no_spare M C l b (AsDraining r s m f) h = (cc)
backup-no_spare M C l b (AsAlone r s made) h = (cc)

-- the same nodes are of a generation
pub record SameNodes {S : Type 0} (old new : List (Node S)) (g : ℕ) : Type 0 where
  pub stays : (n : ℕ) (x : Node S) → slice_get old n ≡ Some x → (x.role ≡ Spare → ⊥) → x.generation ≡ g →
      slice_get new n ≡ Some x
  pub was : (n : ℕ) (x : Node S) → slice_get new n ≡ Some x → (x.role ≡ Spare → ⊥) → x.generation ≡ g →
      slice_get old n ≡ Some x

-- a node that is not of the generation, before and after its change
pub same_nodes-set : {S : Type 0} (nodes : List (Node S)) (n k : ℕ) (x y : Node S) → slice_get nodes n ≡ Some x →
    (x.generation ≡ k → x.role ≡ Spare) → (y.generation ≡ k → ⊥) → SameNodes nodes (slice_set nodes n y) k
same_nodes-set {S} nodes n k x y h no_x no_y = record {
  stays = λ m z t nz e. elim (same_or_not m n) [
    | inl s ↦ (let q : x ≡ z = same_some x z (slice_get nodes n) h (subst (λ j. slice_get nodes j ≡ Some z) s t) in
        absurd (nz (ap (λ (v : Node S). v.role) (sym q) ∙ no_x (ap (λ (v : Node S). v.generation) q ∙ e))))
    | inr d ↦ get_set_other nodes n m y d ∙ t
  ];
  was = λ m z t nz e. elim (get_set_cases nodes n m y z t) [
    | inl q ↦ absurd (no_y (ap (λ (v : Node S). v.generation) (sym q.1) ∙ e))
    | inr q ↦ q
  ];
}

pub same_nodes-refl : {S : Type 0} (nodes : List (Node S)) (g : ℕ) → SameNodes nodes nodes g
same_nodes-refl nodes g = record { stays = λ n x t nx e. t; was = λ n x t nx e. t }

pub same_nodes-trans : {S : Type 0} (old mid new : List (Node S)) (g : ℕ) → SameNodes old mid g → SameNodes mid new g →
    SameNodes old new g
same_nodes-trans old mid new g a b = record {
  stays = λ n x t nx e. b.stays n x (a.stays n x t nx e) nx e;
  was = λ n x t nx e. a.was n x (b.was n x t nx e) nx e;
}

-- the nodes of a line, in another list
module _ {S : Type 0} (M : Machine S) (C : Copying S) (nodes others : List (Node S)) (g : ℕ) (l new : Line S) where
  pub primary-there : (h : PrimaryHere M nodes g l) → slice_get others new.primary ≡ Some h.a → IsPrimary M new h.a →
      PrimaryHere M others g new
  primary-there h there p = record { a = h.a; there = there; generation = h.generation; is_primary = p }

  pub backup-there : (h : BackupHere M C nodes g l) → slice_get others new.backup ≡ Some h.b → h.b.held ≡ new.held →
      IsBackup M C new h.b → BackupHere M C others g new
  backup-there h there held p =
      record { b = h.b; there = there; generation = h.generation; held = held; is_backup = p }

-- The frame: a generation whose nodes, messages and winner are the same keeps its line.
unfoldable pub line-framed : {S : Type 0} (M : Machine S) (C : Copying S) (w : World S) (top higher k : ℕ) (T new : List Move)
    (nodes : List (Node S)) (terminals : List Terminal) (winners : List Winner) (puts : List SectorWrite) →
    SameNodes w.nodes nodes k → ((ts : List Timed) → CameIn w.terminals w.puts ts → CameIn terminals puts ts) →
    winner_in winners k ≡ winner_in w.winners k → IsPrefix T new → top ≤ higher →
    (k ≡ top → (k ≡ higher) × (new ≡ T)) → (k ≡ higher → k ≡ top) → LineOf M C w top T k →
    LineOf M C (record w { nodes = nodes; terminals = terminals; winners = winners; puts = puts }) higher new k
line-framed {S} M C w top higher k T new nodes terminals winners puts same came same_win grows up at_top back o =
    record {
      line = o.line;
      sound = o.sound;
      presence = presence o.presence;
      members = λ m z t s e. o.members m z (same.was m z t s e) s e;
      tied = same_win ∙ o.tied;
      says = o.says;
      came = came (inputs 0 (o.line.base ++ o.line.own)) o.came;
      owns = o.owns;
      below = prefix-trans (settled o.line) T new o.below grows;
      reads = record {
        heard = λ a b t u ga gb role nb. o.reads.heard a b (same.was o.line.primary a t (λ z. (cc)) ga)
            (same.was o.line.backup b u nb gb) ga gb role nb;
        told = λ j r b m u gb nb. o.reads.told j r b m (same.was o.line.backup b u nb gb) gb nb;
        waits = λ t s b u gb role v m. o.reads.waits (back t) s b
            (same.was o.line.backup b u (λ z. elim role [ inl q ↦ (cc) | inr q ↦ (cc) ]) gb) gb role v m;
      };
    }
  where
    primary : PrimaryHere M w.nodes k o.line → PrimaryHere M nodes k o.line
    primary h = primary-there M C w.nodes nodes k o.line o.line h
        (same.stays o.line.primary h.a h.there (primary-no_spare M o.line h.a h.is_primary) h.generation) h.is_primary

    backup : BackupHere M C w.nodes k o.line → BackupHere M C nodes k o.line
    backup h = backup-there M C w.nodes nodes k o.line o.line h
        (same.stays o.line.backup h.b h.there (backup-no_spare M C o.line h.b h.is_backup.state) h.generation)
        h.held h.is_backup

    gone : (n : ℕ) → Gone w.nodes k n → Gone nodes k n
    gone n h x t s e = h x (same.was n x t s e) s e

    presence : Presence M C w.nodes w.messages w.winners top T k o.line →
        Presence M C nodes w.messages winners higher new k o.line
    presence (AtTop g s a b) = AtTop (at_top g).0 (s ∙ sym (at_top g).1) (primary a) (backup b)
    presence (PrimaryLeft g s a b) = PrimaryLeft (omega (arith, g, up)) s (gone o.line.primary a) (backup b)
    presence (BackupLeft g s b a) = BackupLeft (omega (arith, g, up)) s (gone o.line.backup b) (primary a)
    presence (Unused g u) = Unused (λ e. g (back e)) (record {
      nobody = λ m. gone m (u.nobody m);
      no_log = u.no_log;
      no_ack = u.no_ack;
      no_part = u.no_part;
      no_winner = same_win ∙ u.no_winner;
    })

-- the frame of a node's change: for another generation everything stays
pub line-other : {S : Type 0} (M : Machine S) (C : Copying S) (w : World S) (top k n : ℕ) (T new : List Move)
    (x y : Node S) (ws : List Winner) → slice_get w.nodes n ≡ Some x → (x.generation ≡ k → x.role ≡ Spare) →
    (y.generation ≡ k → ⊥) → winner_in ws k ≡ winner_in w.winners k → IsPrefix T new → (k ≡ top → new ≡ T) →
    LineOf M C w top T k → LineOf M C (with_change w n y ws) top new k
line-other M C w top k n T new x y ws h no_x no_y same_win grows at_top o =
    line-framed M C w top top k T new (slice_set w.nodes n y) w.terminals ws w.puts
    (same_nodes-set w.nodes n k x y h no_x no_y) (λ ts came. came) same_win grows (omega arith) (λ e. (e, at_top e))
    (λ e. e) o

-- One generation has a new line, the others stay as they were.
pub relined : {S : Type 0} (M : Machine S) (C : Copying S) (w : World S) (i : Inv M C w) (n : ℕ) (x y : Node S)
    (ws : List Winner) (new : List Move) → slice_get w.nodes n ≡ Some x → (y.role ≡ Spare → ⊥) →
    y.generation ≡ x.generation →
    ((k : ℕ) → (k ≡ x.generation → ⊥) → winner_in ws k ≡ winner_in w.winners k) →
    IsPrefix i.trace new → (new ≡ i.trace) ⊎ (x.generation ≡ i.top) →
    (line : LineOf M C (with_change w n y ws) i.top new x.generation) →
    (x.generation < i.top → settled line.line ≡ settled (i.each x.generation).line) →
    line.line.base ≡ (i.each x.generation).line.base →
    Global M w.messages w.terminals w.puts new → Next M C i.trace (with_change w n y ws)
unfolding line-other line-framed
relined {S} M C w i n x y ws new h ny gy wins grows which line kept based global = record {
  inv = record {
    top = i.top;
    trace = new;
    each = each;
    global = global;
    spares = λ m z t s. elim (get_set_cases w.nodes n m y z t) [
      | inl q ↦ absurd (ny (ap (λ v. v.role) (sym q.1) ∙ s))
      | inr q ↦ i.spares m z q s
    ];
    earlier = λ k lt. subst (λ zs. IsPrefix zs (each i.top).line.base) (sym (pick-settled k lt (same_or_not k g)))
        (subst (IsPrefix (settled (i.each k).line)) (sym (pick-base i.top (same_or_not i.top g))) (i.earlier k lt));
  };
  grows = grows;
}
  where
    g : ℕ
    g = x.generation

    Then : ℕ → Type 0
    Then k = LineOf M C (with_change w n y ws) i.top new k

    pick : (k : ℕ) → (k ≡ g) ⊎ (k ≡ g → ⊥) → Then k
    pick k (inl e) = subst Then (sym e) line
    pick k (inr d) = line-other M C w i.top k n i.trace new x y ws h (λ e. absurd (d (sym e))) (λ e. d (sym e ∙ gy))
        (wins k d) grows
        (λ t. elim which [ inl e ↦ e | inr e ↦ absurd (d (t ∙ sym e)) ]) (i.each k)

    each : (k : ℕ) → Then k
    each k = pick k (same_or_not k g)

    pick-base : (k : ℕ) (s : (k ≡ g) ⊎ (k ≡ g → ⊥)) → (pick k s).line.base ≡ (i.each k).line.base
    pick-base k (inl e) =
        ap (λ (z : Line S). z.base) (line-over M C (with_change w n y ws) i.top new g k (sym e) line)
        ∙ based ∙ ap (λ j. (i.each j).line.base) (sym e)
    pick-base k (inr d) = refl

    pick-settled : (k : ℕ) → k < i.top → (s : (k ≡ g) ⊎ (k ≡ g → ⊥)) →
        settled (pick k s).line ≡ settled (i.each k).line
    pick-settled k lt (inl e) = ap settled (line-over M C (with_change w n y ws) i.top new g k (sym e) line)
        ∙ kept (subst (λ j. j < i.top) e lt) ∙ ap (λ j. settled (i.each j).line) (sym e)
    pick-settled k lt (inr d) = refl
