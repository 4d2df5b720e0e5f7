-- What holds of each node of a reached world. A primary or alone node has made all the moves of its line, so it has
-- taken their keys. A node that replays has made some of the primary's moves, each of whose inputs was accepted: the
-- entries that it has not replayed are those of the remaining moves, after the mark of a step that it has just made.
use Rattle.std.proofs.Common.{[], ◌++◌, ◌+◌, ◌∙◌, ◌∷◌, ◌≡◌, ◌≤◌, ◌⊎◌, List, None, Option, Some, ap, append-nil, arith, drop, false, inl, inr, length, refl, subst, suc, sym, take, true, ℕ}
use Rattle.std.specs.Prelude.{slice_get}
use Rattle.pair_protocol.proofs.Words.{Copying, Entry, IsCopying, IsPrefix, Lawful, Machine, Mark, Move, Node, Primary, Reached, Recorded, Replaying, Role, Runs, Serving, Spare, World, cut, entries, inputs, keys, list_of, steps}
use Rattle.guest_lockstep.specs.declared.input.Input.TheVariants as input
use Rattle.log_entry.specs.Standing.{IsOnTrace, TakesFetched}
use Rattle.log_entry.specs.declared.entry.Entry.TheVariants as entry
use Rattle.pair_protocol.specs.NodeStands.{NodeStands}
use Rattle.pair_protocol.proofs.Invariant.Acting.{Acting, BackupActs, PrimaryActs, acting, line_at}
use Rattle.pair_protocol.proofs.Invariant.{AsAlone, AsBackup, AsDraining, AsJoining, AtPlace, BackupState, HasReplayed, Inv, IsLine, IsPrimary, Line}
use Rattle.pair_protocol.proofs.Keeps.Fetched.{AreFetched, reached-fetched}
use Rattle.pair_protocol.proofs.Keeps.Primary.{primary-runs}
use Rattle.pair_protocol.proofs.Keeps.Reads.{primary_took}
use Rattle.pair_protocol.proofs.Keeps.Replay.{Ahead, ahead, lag-is, unreplayed, NextInput}
use Rattle.pair_protocol.proofs.Promises.Faithful.{reached}
use Rattle.pair_protocol.proofs.Promises.Settling.{role_or_spare}
use Rattle.pair_protocol.proofs.Traces.Lists.{drop-at, prefix-length}
use Rattle.pair_protocol.proofs.Traces.Moves.{runs-append}

apart : (r : Role) → Serving r → Replaying r → ⊥
apart r (inl h) (inl k) = (cc)
apart r (inl h) (inr k) = (cc)
apart r (inr h) (inl k) = (cc)
apart r (inr h) (inr k) = (cc)

-- A node that serves.

serving_stands : {S : Type 0} (M : Machine S) (laws : Lawful M) (x : Node S) (moves : List Move) → Serving x.role →
    Runs M M.boot moves x.machine → x.list ≡ inputs 0 moves → (x.role ≡ Primary → x.covered ≤ length x.log) →
    NodeStands M x
serving_stands {S} M laws x moves role runs list covered = record {
  machine = λ h. (moves, runs);
  keys = λ h p. elim role [
    | inl e ↦ subst (λ r. M.keys x.machine p ≡ length (keys p (list_of x r))) (sym e) (taken p)
    | inr e ↦ subst (λ r. M.keys x.machine p ≡ length (keys p (list_of x r))) (sym e) (taken p)
  ];
  covered = covered;
  replayed = λ h. absurd (apart x.role role h);
  on_trace = λ h. absurd (apart x.role role h);
}
  where
    taken : (p : ℕ) → M.keys x.machine p ≡ length (keys p x.list)
    taken p = laws.takes_keys moves x.machine p runs ∙ ap (λ ts. length (keys p ts)) (sym list)

primary_stands : {S : Type 0} (M : Machine S) (C : Copying S) (laws : Lawful M) (w : World S) (i : Inv M C w)
    (x : Node S) → IsPrimary M (line_at i x) x → NodeStands M x
primary_stands M C laws w i x is_primary =
    let o = i.each x.generation in
    let l = o.line in
    serving_stands M laws x (l.base ++ l.own) (elim is_primary.role [ inl r ↦ inl r | inr r ↦ inr r.0 ])
    (primary-runs M C w i x is_primary) is_primary.list
    (λ r. (let c = is_primary.covered in let h = prefix-length l.held (entries l.reads (steps l.base) l.own) o.sound.held in
    let e = ap length (is_primary.logged r).log in omega arith))

-- A node that replays.

module _ {S : Type 0} (M : Machine S) (l : Line S) (last : S) (x : Node S)
    (p : IsPrefix x.held (entries l.reads (steps l.base) l.own)) (r : Recorded M l.mid l.own last)
    (f : HasReplayed M l x) where
  -- the bytes that have come for its next entry are those that its primary took
  abbrev pub HasCome : Type 0
  HasCome = (bytes : List ℕ) → x.fetched ≡ Some bytes → (drive sector number : ℕ)
      × (slice_get x.held x.replayed ≡ Some (entry.Read (M.count x.machine) drive sector number))
      × NextInput M l last x p r f (entry.Read (M.count x.machine) drive sector number)
      (input.Sector drive sector number bytes)

  abbrev a : Ahead M l x f.ms
  a = ahead M l last x p r f

  abbrev next : List Entry
  next = entries l.reads (M.count x.machine) a.rest

  takes : HasCome → (fetched : Option (List ℕ)) → x.fetched ≡ fetched →
      TakesFetched fetched (drop x.replayed x.held) a.rest
  takes come None is = tt
  takes come (Some bytes) is =
      let c = come bytes is in
      let front = drop-at x.held x.replayed _ c.3 in
      subst (λ es. TakesFetched (Some bytes) es a.rest) (sym front)
      (subst (TakesFetched (Some bytes)
      (entry.Read (M.count x.machine) c.0 c.1 c.2 ∷ drop (suc x.replayed) x.held)) (sym c.4.to_come) refl)

  on_trace : HasCome → IsOnTrace M x.machine (drop x.replayed x.held) x.fetched
  on_trace come = by_place f.place
    where
      by_place : AtPlace l.reads (steps l.base) f.ms x.held x.replayed →
          IsOnTrace M x.machine (drop x.replayed x.held) x.fetched
      by_place (inl q) = record {
        reads = l.reads;
        owes = false;
        moves = a.rest;
        last = a.final;
        stands = record {
          runs = a.runs;
          later = [];
          next_ones = append-nil (drop x.replayed x.held)
              ∙ sym (unreplayed x.held [] next x.replayed
              (ap (λ zs. zs ++ next) (append-nil (take x.replayed x.held) ∙ sym q) ∙ a.entries_are));
          takes = takes come x.fetched refl;
        };
      }
      by_place (inr q) =
          let m : Entry = Mark (steps l.base + steps f.ms) in
          let k = lag-is l.reads (steps l.base) q.0 f.ms q.1 q.2 ∙ ap (λ zs. zs ++ m ∷ []) q.3 in
          record {
            reads = l.reads;
            owes = true;
            moves = a.rest;
            last = a.final;
            stands = record {
              runs = a.runs;
              later = [];
              next_ones = append-nil (drop x.replayed x.held)
                  ∙ sym (unreplayed x.held (m ∷ []) next x.replayed (ap (λ zs. zs ++ next) (sym k) ∙ a.entries_are))
                  ∙ ap (λ c. (Mark c ∷ []) ++ next) (sym f.count);
              takes = takes come x.fetched refl;
            };
          }

replaying_stands : {S : Type 0} (M : Machine S) (l : Line S) (x : Node S) → Replaying x.role → (sound : IsLine M l)
    (p : IsPrefix x.held (entries l.reads (steps l.base) l.own)) (f : HasReplayed M l x) →
    HasCome M l sound.recorded.0 x p sound.recorded.1 f → NodeStands M x
replaying_stands M l x role sound p f come = record {
  machine = λ h. (l.base ++ f.ms, runs-append M M.boot l.mid x.machine l.base f.ms sound.based f.runs);
  keys = λ h. absurd (apart x.role h role);
  covered = λ h. absurd (apart x.role (inl h) role);
  replayed = λ h. f.few;
  on_trace = λ h. on_trace M l sound.recorded.0 x p sound.recorded.1 f come;
}

-- Any node.

idle_stands : {S : Type 0} (M : Machine S) (x : Node S) → (Serving x.role → ⊥) → (Replaying x.role → ⊥) →
    NodeStands M x
idle_stands M x serves replays = record {
  machine = λ h. absurd (elim h [ inl k ↦ serves k | inr k ↦ replays k ]);
  keys = λ h. absurd (serves h);
  covered = λ h. absurd (serves (inl h));
  replayed = λ h. absurd (replays h);
  on_trace = λ h. absurd (replays h);
}

backup_stands : {S : Type 0} (M : Machine S) (C : Copying S) (laws : Lawful M) (l : Line S) (x : Node S)
    (sound : IsLine M l) (held : IsPrefix x.held (entries l.reads (steps l.base) l.own)) → BackupState M C l x →
    ((f : HasReplayed M l x) → HasCome M l sound.recorded.0 x held sound.recorded.1 f) → NodeStands M x
backup_stands M C laws l x sound held (AsJoining r s g) come =
    idle_stands M x (λ h. elim h [ inl k ↦ (cc) | inr k ↦ (cc) ]) (λ h. elim h [ inl k ↦ (cc) | inr k ↦ (cc) ])
backup_stands M C laws l x sound held (AsBackup r s f) come = replaying_stands M l x (inl r) sound held f (come f)
backup_stands M C laws l x sound held (AsDraining r s m f) come = replaying_stands M l x (inr r) sound held f (come f)
backup_stands M C laws l x sound held (AsAlone r s made) come =
    let z = cut (length x.held) l.own ++ l.more in
    serving_stands M laws x (l.base ++ z) (inr r) (runs-append M M.boot l.mid x.machine l.base z sound.based made.runs) made.list
    (λ h. absurd (cc))

node_stands : {S : Type 0} (M : Machine S) (C : Copying S) (laws : Lawful M) (w : World S) (i : Inv M C w) →
    AreFetched M w → (n : ℕ) (x : Node S) → slice_get w.nodes n ≡ Some x → NodeStands M x
node_stands {S} M C laws w i fetched n x there = by_role (role_or_spare x.role)
  where
    by_part : Acting M C w i n x → NodeStands M x
    by_part (PrimaryActs q p) = primary_stands M C laws w i x q.is_primary
    by_part (BackupActs q p) =
        backup_stands M C laws (line_at i x) x (i.each x.generation).sound q.is_backup.held q.is_backup.state
        (λ f bytes is. (let a = fetched n x there bytes is in
        (a.drive, a.sector, a.number, a.at, primary_took M C laws w i n x q f bytes a)))

    by_role : (x.role ≡ Spare) ⊎ (x.role ≡ Spare → ⊥) → NodeStands M x
    by_role (inl s) =
        idle_stands M x (λ h. elim h [ inl k ↦ (cc) | inr k ↦ (cc) ]) (λ h. elim h [ inl k ↦ (cc) | inr k ↦ (cc) ])
    by_role (inr s) = by_part (acting M C w i n x there s)

pub nodes_stand : {S : Type 0} (M : Machine S) (C : Copying S) → Lawful M → IsCopying M C → (w : World S) →
    Reached M C w → (n : ℕ) (x : Node S) → slice_get w.nodes n ≡ Some x → NodeStands M x
nodes_stand M C laws copies w r n x there = node_stands M C laws w (reached M C laws copies w r) (reached-fetched M C w r) n x there
