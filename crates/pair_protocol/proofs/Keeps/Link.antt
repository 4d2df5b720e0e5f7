-- One more message, from a node or from the disk, keeps the invariant.
use Rattle.std.proofs.Common.{[], ◌++◌, ◌∷◌, ◌≡◌, ◌≤◌, ◌⊎◌, List, Some, arith, inl, inr, length, refl, subst, sym, ℕ}
use Rattle.std.specs.Prelude.{slice_get}
use Rattle.pair_protocol.proofs.Words.{Acknowledgement, Among, Copying, ImagePart, LogEntry, Machine, Message, Move, Node, Released, Replaying, SectorRead, SectorWrite, Spare, Timed, World, Write, WriteDone, entries, inputs, operations, steps, with_message}
use Rattle.pair_protocol.proofs.Invariant.Acting.{line_at}
use Rattle.pair_protocol.proofs.Invariant.Frames.{line-framed, same_nodes-refl}
use Rattle.pair_protocol.proofs.Invariant.{AtTop, BackupLeft, CameIn, HasPut, Inv, IsRecord, Line, LineOf, Next, Presence, PrimaryLeft, PrimaryWon, Unseen, Unused, WaitsAt}
use Rattle.pair_protocol.proofs.Traces.Lists.{among-left, among-split, prefix-refl, same_or_not}

-- One more message.

-- it does not speak of this generation
abbrev pub NotOf : ℕ → Message → Type 0
NotOf k (LogEntry g i e) = k ≡ g → ⊥
NotOf k (Acknowledgement g h r) = k ≡ g → ⊥
NotOf k (ImagePart g i p) = k ≡ g → ⊥
NotOf k m = Unit {0}

-- what a message says is true at the line of a generation
abbrev pub IsTrueAt : {S : Type 0} → Copying S → List (Node S) → Line S → ℕ → Message → Type 0
IsTrueAt C nodes l k (LogEntry g i e) = k ≡ g → slice_get (entries l.reads (steps l.base) l.own) i ≡ Some e
IsTrueAt {S} C nodes l k (Acknowledgement g h r) = k ≡ g → (h ≤ length l.held) × (r ≤ h)
    × ((b : Node S) → slice_get nodes l.backup ≡ Some b → b.generation ≡ k → r ≤ b.replayed)
IsTrueAt C nodes l k (ImagePart g i p) = k ≡ g → slice_get (C.parts l.mid) i ≡ Some p
IsTrueAt C nodes l k m = Unit {0}

pub not_of : {S : Type 0} (C : Copying S) (nodes : List (Node S)) (l : Line S) (k : ℕ) (m : Message) →
    NotOf k m → IsTrueAt C nodes l k m
not_of C nodes l k (LogEntry g i e) h = λ q. absurd (h q)
not_of C nodes l k (Acknowledgement g j r) h = λ q. absurd (h q)
not_of C nodes l k (ImagePart g i p) h = λ q. absurd (h q)
not_of C nodes l k m h = tt

-- and in the trace
abbrev pub IsTrueOf : {S : Type 0} → Machine S → List SectorWrite → List Move → Message → Type 0
IsTrueOf M puts T (Released o) = Among o (operations T)
IsTrueOf M puts T (WriteDone n) = HasPut puts n
IsTrueOf M puts T (SectorRead q n bytes) = IsRecord M q n bytes T
IsTrueOf M puts T m = Unit {0}

-- a write of this message waits for each read that the backup of this line holds and has not replayed
abbrev pub Frees : {S : Type 0} → World S → ℕ → ℕ → Line S → Message → Type 0
Frees {S} w top k l (Released o) = k ≡ top → (l.stage ≡ PrimaryWon → ⊥) → (b : Node S) →
    slice_get w.nodes l.backup ≡ Some b → b.generation ≡ k → Replaying b.role → (v : SectorWrite) → o ≡ Write v →
    WaitsAt l b v
Frees w top k l m = Unit {0}

pub message-split : (x m : Message) (ms : List Message) → Among x (ms ++ m ∷ []) → Among x ms ⊎ (x ≡ m)
message-split x m ms h = elim (among-split x ms (m ∷ []) h) [
  | inl k ↦ inl k
  | inr (inl k) ↦ inr k
  | inr (inr k) ↦ absurd k
]

unfoldable pub line-message : {S : Type 0} (M : Machine S) (C : Copying S) (w : World S) (top k : ℕ) (T : List Move)
    (m : Message) (o : LineOf M C w top T k) → IsTrueAt C w.nodes o.line k m →
    (Unseen w.nodes w.messages w.winners k → NotOf k m) → Frees w top k o.line m → LineOf M C (with_message w m) top T k
line-message {S} M C w top k T m o true_at unused frees = record {
  line = o.line;
  sound = o.sound;
  presence = presence o.presence;
  members = o.members;
  tied = o.tied;
  says = record {
    logs = λ i e h. elim (message-split (LogEntry k i e) m w.messages h) [
      | inl q ↦ o.says.logs i e q
      | inr q ↦ said (LogEntry k i e) q refl
    ];
    acks = λ j r h. elim (message-split (Acknowledgement k j r) m w.messages h) [
      | inl q ↦ o.says.acks j r q
      | inr q ↦ (let t = said (Acknowledgement k j r) q refl in (t.0, t.1))
    ];
    parts = λ i p h. elim (message-split (ImagePart k i p) m w.messages h) [
      | inl q ↦ o.says.parts i p q
      | inr q ↦ said (ImagePart k i p) q refl
    ];
  };
  came = o.came;
  owns = o.owns;
  below = o.below;
  reads = record {
    heard = o.reads.heard;
    told = λ j r b h u gb ns. elim (message-split (Acknowledgement k j r) m w.messages h) [
      | inl q ↦ o.reads.told j r b q u gb ns
      | inr q ↦ (said (Acknowledgement k j r) q refl).2 b u gb
    ];
    waits = λ t s b u gb role v h. elim (message-split (Released (Write v)) m w.messages h) [
      | inl q ↦ o.reads.waits t s b u gb role v q
      | inr q ↦ subst (Frees w top k o.line) (sym q) frees t s b u gb role v refl
    ];
  };
}
  where
    said : (z : Message) → z ≡ m → IsTrueAt C w.nodes o.line k z
    said z q = subst (IsTrueAt C w.nodes o.line k) (sym q) true_at

    absent : (z : Message) → Unseen w.nodes w.messages w.winners k → z ≡ m → NotOf k z
    absent z u q = subst (NotOf k) (sym q) (unused u)

    presence : Presence M C w.nodes w.messages w.winners top T k o.line →
        Presence M C w.nodes (w.messages ++ m ∷ []) w.winners top T k o.line
    presence (AtTop g s l b) = AtTop g s l b
    presence (PrimaryLeft g s l b) = PrimaryLeft g s l b
    presence (BackupLeft g s b l) = BackupLeft g s b l
    presence (Unused g u) = Unused g (record {
      nobody = u.nobody;
      no_log = λ i e h. elim (message-split (LogEntry k i e) m w.messages h) [
        | inl q ↦ u.no_log i e q
        | inr q ↦ absent (LogEntry k i e) u q refl
      ];
      no_ack = λ j r h. elim (message-split (Acknowledgement k j r) m w.messages h) [
        | inl q ↦ u.no_ack j r q
        | inr q ↦ absent (Acknowledgement k j r) u q refl
      ];
      no_part = λ i p h. elim (message-split (ImagePart k i p) m w.messages h) [
        | inl q ↦ u.no_part i p q
        | inr q ↦ absent (ImagePart k i p) u q refl
      ];
      no_winner = u.no_winner;
    })

module _ {S : Type 0} (M : Machine S) (C : Copying S) (w : World S) (i : Inv M C w) (m : Message) where
  -- a write of the trace that was released
  abbrev IsSent : SectorWrite → Type 0
  IsSent v = Among (Write v) (operations i.trace) × Among (Released (Write v)) w.messages

  -- a message that is true of each generation that it speaks of
  pub message-true : (puts : List SectorWrite) →
      ((ts : List Timed) → CameIn w.terminals w.puts ts → CameIn w.terminals puts ts) →
      ((n : ℕ) → HasPut w.puts n → HasPut puts n) → ((v : SectorWrite) → Among v puts → Among v w.puts ⊎ IsSent v) →
      ((k : ℕ) → IsTrueAt C w.nodes (i.each k).line k m) →
      ((k : ℕ) → Unseen w.nodes w.messages w.winners k → NotOf k m) → IsTrueOf M puts i.trace m →
      ((k : ℕ) → Frees w i.top k (i.each k).line m) →
      Next M C i.trace (record w { messages = w.messages ++ m ∷ []; puts = puts })
  unfolding line-message line-framed
  message-true puts came more_puts new_put true_at unseen true_of frees = record {
    inv = record {
      top = i.top;
      trace = i.trace;
      each = λ k. line-framed M C (with_message w m) i.top i.top k i.trace i.trace w.nodes w.terminals w.winners puts
          (same_nodes-refl w.nodes k) came refl (prefix-refl i.trace) (omega arith)
          (λ e. (e, refl)) (λ e. e)
          (line-message M C w i.top k i.trace m (i.each k) (true_at k) (unseen k) (frees k));
      global = record {
        sends = λ o k. elim (message-split (Released o) m w.messages k) [
          | inl q ↦ i.global.sends o q
          | inr q ↦ said (Released o) q
        ];
        arrived = i.global.arrived;
        puts_are = λ v k. (let was = put_is v (new_put v k) in
            (was.0, among-left (Released (Write v)) w.messages (m ∷ []) was.1));
        reads = λ q j bytes k. elim (message-split (SectorRead q j bytes) m w.messages k) [
          | inl e ↦ i.global.reads q j bytes e
          | inr e ↦ said (SectorRead q j bytes) e
        ];
        written = λ j k. elim (message-split (WriteDone j) m w.messages k) [
          | inl e ↦ more_puts j (i.global.written j e)
          | inr e ↦ said (WriteDone j) e
        ];
        came = came (inputs 0 i.trace) i.global.came;
        owns = i.global.owns;
        told = i.global.told;
      };
      spares = i.spares;
      earlier = i.earlier;
    };
    grows = prefix-refl i.trace;
  }
    where
      put_is : (v : SectorWrite) → Among v w.puts ⊎ IsSent v → IsSent v
      put_is v (inl h) = i.global.puts_are v h
      put_is v (inr h) = h

      said : (z : Message) → z ≡ m → IsTrueOf M puts i.trace z
      said z q = subst (IsTrueOf M puts i.trace) (sym q) true_of

  -- a message of a node speaks of its generation only
  pub keep-message : (n : ℕ) (x : Node S) → slice_get w.nodes n ≡ Some x → (x.role ≡ Spare → ⊥) →
      ((k : ℕ) → (k ≡ x.generation → ⊥) → NotOf k m) → IsTrueAt C w.nodes (line_at i x) x.generation m →
      IsTrueOf M w.puts i.trace m → ((k : ℕ) → Frees w i.top k (i.each k).line m) →
      Next M C i.trace (with_message w m)
  keep-message n x h nx others here =
      message-true w.puts (λ ts came. came) (λ n k. k) (λ v k. inl k)
      (λ k. elim (same_or_not k x.generation) [
        | inl e ↦ subst (λ j. IsTrueAt C w.nodes (i.each j).line j m) (sym e) here
        | inr d ↦ not_of C w.nodes (i.each k).line k m (others k d)
      ])
      (λ k u. elim (same_or_not k x.generation) [ inl e ↦ absurd (u.nobody n x h nx (sym e)) | inr d ↦ others k d ])
