-- A node that replays goes on until nothing is left, or until it waits for a sector.
use Rattle.std.proofs.Common.{◌≡◌, ℕ, zero, suc, ◌≤◌, ◌⊎◌, inl, inr, Bool, true, false, cond, Option, Some, None, is_none, List, [], ◌∷◌, ◌++◌, length, drop, refl, sym, ap, subst, ◌∙◌, arith, eq-eqb}
use Rattle.std.specs.Prelude.{slice_get, ◌==◌}
use Rattle.std.proofs.lemmas.Option.{slice_get_cases}
use Rattle.pair_protocol.proofs.Words.{Do, Entry, Input, Lawful, Machine, Mark, Move, Node, Operation, Reads, Recorded, Take, bare_of, count_of, entries, entry_of, input_of, is_read, passes_input, passes_mark, passes_read, plainly_steps, read_of}
use Rattle.guest_lockstep.specs.declared.input.Input.TheVariants as input
use Rattle.guest_lockstep.specs.declared.reads.Reads.TheVariants.{Logged, Shared}
use Rattle.log_entry.specs.Standing.{IsOnTrace, Stands, TakesFetched}
use Rattle.log_entry.specs.declared.entry.Entry.TheVariants as entry
use Rattle.log_entry.proofs.TraceEntries.{same_first}
use Rattle.pair_protocol.specs.Effects.{MovesSome, NoTurns, OneInput, OneMark, OneRead, OneStep, Replays, next_read, wanted, wanted_of}
use Rattle.pair_protocol.specs.Lawful.{Reaches}
use Rattle.pair_protocol.specs.NodeStands.{IsReached}
use Rattle.pair_protocol.proofs.Traces.Lists.{drop-at}
use Rattle.pair_protocol.proofs.Traces.Moves.{count-does, count-takes, count_entry, runs-append}
use Rattle.pair_progress.specs.Takeover.{less_fetched, read_and, reads_among, to_fetch}

-- the moves that a node makes, and where they end
pub record Far {S : Type 0} (M : Machine S) (x : Node S) : Type 0 where
  pub made : ℕ
  pub y : Node S
  pub moves : Replays M x made y made
  pub ends : (y.replayed ≡ length y.held) ⊎ (is_none (wanted M y) ≡ false)
  pub role : y.role ≡ x.role
  pub running : y.running ≡ x.running
  pub generation : y.generation ≡ x.generation
  pub held : y.held ≡ x.held
  pub fewer : to_fetch y ≤ to_fetch x

-- as many moves as were asked for are some
pub moves_some : {S : Type 0} (M : Machine S) (x : Node S) (made : ℕ) → MovesSome M x made made
moves_some M x zero = inr (inl refl)
moves_some M x (suc made) = inl (omega arith)

-- ---- lists

-- the rest of a list whose first element is known
tail_is : {A : Type 0} (a b : A) (xs ys : List A) → a ∷ xs ≡ b ∷ ys → xs ≡ ys
tail_is {A} a b xs ys h = ap rest h
  where
    rest : List A → List A
    rest [] = xs
    rest (z ∷ zs) = zs

not_empty : {A X : Type 0} (a : A) (xs : List A) → a ∷ xs ≡ [] → X
not_empty a xs h = absurd (cc)

-- the entries of moves that begin at a count are at that count or later
count_later : (reads : Reads) (c : ℕ) (ms : List Move) (e : Entry) (es : List Entry) → entries reads c ms ≡ e ∷ es →
    c ≤ count_of e
count_later reads c [] e es h = absurd (cc)
count_later reads c (Do None ∷ ms) e es h = let k = count_later reads (suc c) ms e es h in omega (arith, k)
count_later reads c (Do (Some o) ∷ ms) e es h =
    let k : suc c ≡ count_of e = ap count_of (same_first (Mark (suc c)) e (entries reads (suc c) ms) es h) in
    omega (arith, k)
count_later reads c (Take i ∷ ms) e es h =
    let k : c ≡ count_of e =
    sym (count_entry reads c i) ∙ ap count_of (same_first (entry_of reads c i) e (entries reads c ms) es h) in
    omega (arith, k)

-- ---- bytes that have come are for a read

unfetched : (fetched : Option (List ℕ)) (held : List Entry) (gives : Option Operation) (moves : List Move) →
    TakesFetched fetched held (Do gives ∷ moves) → fetched ≡ None
unfetched None held gives moves h = refl
unfetched (Some bytes) [] gives moves h = absurd h
unfetched (Some bytes) (entry.Read c d s n ∷ held) gives moves h = absurd h
unfetched (Some bytes) (e ∷ held) gives moves h = absurd h

unfetched_input : (fetched : Option (List ℕ)) (e : Entry) (held : List Entry) (i : Input) (moves : List Move) →
    input_of e ≡ Some i → TakesFetched fetched (e ∷ held) moves → fetched ≡ None
unfetched_input None e held i moves is h = refl
unfetched_input (Some bytes) (entry.Read c d s n) held i moves is h = absurd (cc)
unfetched_input (Some bytes) e held i moves is h = absurd h

unfetched_mark : (fetched : Option (List ℕ)) (e : Entry) (held : List Entry) (moves : List Move) →
    bare_of e ≡ None → TakesFetched fetched (e ∷ held) moves → fetched ≡ None
unfetched_mark None e held moves is h = refl
unfetched_mark (Some bytes) (entry.Read c d s n) held moves is h = absurd (cc)
unfetched_mark (Some bytes) e held moves is h = absurd h

none_come : (fetched : Option (List ℕ)) (held : List Entry) (moves : List Move) → fetched ≡ None →
    TakesFetched fetched held moves
none_come fetched held moves is = subst (λ f. TakesFetched f held moves) (sym is) tt

-- an input is logged with all that it carries, or is a sector that is logged as a read
pub data IsLogged (reads : Reads) (c : ℕ) (i : Input) : Type 0 where
  AsInput : input_of (entry_of reads c i) ≡ Some i → is_read (entry_of reads c i) ≡ false → IsLogged reads c i
  AsRead : (d s n : ℕ) (bytes : List ℕ) → i ≡ input.Sector d s n bytes → entry_of reads c i ≡ entry.Read c d s n →
      IsLogged reads c i

is_logged : (reads : Reads) (c : ℕ) (i : Input) → IsLogged reads c i
is_logged reads c (input.Rx port byte) = AsInput refl refl
is_logged reads c (input.Sent port) = AsInput refl refl
is_logged Logged c (input.Sector d s n bytes) = AsInput refl refl
is_logged Shared c (input.Sector d s n bytes) = AsRead d s n bytes refl refl
is_logged reads c (input.Written number) = AsInput refl refl

-- ---- how many sectors are to be fetched

-- an entry is passed, which is no read
passed_other : (f : Option (List ℕ)) (es rest : List Entry) (e : Entry) → f ≡ None → es ≡ e ∷ rest → is_read e ≡ false →
    less_fetched f (reads_among rest) ≤ less_fetched f (reads_among es)
passed_other f es rest e none is other =
    subst (λ g. less_fetched g (reads_among rest) ≤ less_fetched g (reads_among es)) (sym none)
    (let n : reads_among es ≡ reads_among rest = ap reads_among is ∙ ap (λ b. read_and b (reads_among rest)) other in
    omega (arith, n))

-- a read is passed, whose bytes had come
passed_read : (f : Option (List ℕ)) (es rest : List Entry) (e : Entry) (bytes : List ℕ) → f ≡ Some bytes → es ≡ e ∷ rest →
    is_read e ≡ true → reads_among rest ≤ less_fetched f (reads_among es)
passed_read f es rest e bytes some is read =
    subst (λ g. reads_among rest ≤ less_fetched g (reads_among es)) (sym some)
    (let n : reads_among es ≡ suc (reads_among rest) = ap reads_among is ∙ ap (λ b. read_and b (reads_among rest)) read in
    omega (arith, n))

module _ {S : Type 0} (M : Machine S) where
  ended : (x : Node S) → x.replayed ≡ length x.held → Far M x
  ended x is = record {
    made = 0;
    y = x;
    moves = NoTurns;
    ends = inl is;
    role = refl;
    running = refl;
    generation = refl;
    held = refl;
    fewer = omega arith;
  }

  waits : (x : Node S) → is_none (wanted M x) ≡ false → Far M x
  waits x is = record {
    made = 0;
    y = x;
    moves = NoTurns;
    ends = inr is;
    role = refl;
    running = refl;
    generation = refl;
    held = refl;
    fewer = omega arith;
  }

  -- one move more
  further : (x z : Node S) → ((y : Node S) (made : ℕ) → Replays M z made y made → Replays M x (suc made) y (suc made)) →
      z.role ≡ x.role → z.running ≡ x.running → z.generation ≡ x.generation → z.held ≡ x.held →
      to_fetch z ≤ to_fetch x → Far M z → Far M x
  further x z one role running generation held fewer f = record {
    made = suc f.made;
    y = f.y;
    moves = one f.y f.made f.moves;
    ends = f.ends;
    role = f.role ∙ role;
    running = f.running ∙ running;
    generation = f.generation ∙ generation;
    held = f.held ∙ held;
    fewer = (let k = f.fewer in omega (arith, k, fewer));
  }

  -- nothing is left, or there is a next entry
  pub record NextEntry (x : Node S) : Type 0 where
    pub e : Entry
    pub got : slice_get x.held x.replayed ≡ Some e
    pub left : drop x.replayed x.held ≡ e ∷ drop (suc x.replayed) x.held
    pub more : suc x.replayed ≤ length x.held

  next_entry : (x : Node S) → x.replayed ≤ length x.held → (x.replayed ≡ length x.held) ⊎ NextEntry x
  next_entry x few = elim (slice_get_cases x.held x.replayed).1 [
    | inl p ↦ inr (record {
      e = p.0;
      got = p.2;
      left = drop-at x.held x.replayed p.0 p.2;
      more = (let l = p.1 in omega (arith, l));
    })
    | inr p ↦ inl (let l = p.0 in omega (arith, l, few))
  ]

  -- the read that is next, at its count
  read_next : (x : Node S) (d s n : ℕ) → slice_get x.held x.replayed ≡ Some (entry.Read (M.count x.machine) d s n) →
      next_read M x ≡ Some (d, s, n)
  read_next x d s n got =
      ap (λ o. read_at_count o) got
      ∙ ap (λ b. cond b (Some (d, s, n)) None) (eq-eqb (M.count x.machine) (M.count x.machine) refl)
    where
      read_at_count : Option Entry → Option (ℕ × ℕ × ℕ)
      read_at_count None = None
      read_at_count (Some e) = cond (M.count x.machine == count_of e) (read_of e) None

module _ {S : Type 0} (M : Machine S) (laws : Lawful M) (reads : Reads) where
  -- the entries that are left begin those of the moves to come
  abbrev ToCome : List Move → Node S → Type 0
  ToCome moves x = (later : List Entry) × (drop x.replayed x.held ++ later ≡ entries reads (M.count x.machine) moves)

  abbrev Goes : List Move → Type 0
  Goes moves = (before : List Move) (x : Node S) (last : S) → Reaches M before x.machine → x.replayed ≤ length x.held →
      Recorded M x.machine moves last → ToCome moves x → TakesFetched x.fetched (drop x.replayed x.held) moves → Far M x

  -- the next entry and those after it are the entries to come
  written : (moves : List Move) (x : Node S) (next : NextEntry M x) (come : ToCome moves x) →
      next.e ∷ (drop (suc x.replayed) x.held ++ come.0) ≡ entries reads (M.count x.machine) moves
  written moves x next come = ap (λ es. es ++ come.0) (sym next.left) ∙ come.1

  same_fetch : (a b : ℕ) → a ≡ b → a ≤ b
  same_fetch a b is = omega (arith, is)

  no_moves : Goes []
  no_moves before x last at few run come takes = elim (next_entry M x few) [
    | inl e ↦ ended M x e
    | inr next ↦ not_empty next.e (drop (suc x.replayed) x.held ++ come.0) (written [] x next come)
  ]

  quietly : (moves : List Move) → Goes moves → Goes (Do None ∷ moves)
  quietly moves rest before x last at few run come takes = elim (next_entry M x few) [
    | inl e ↦ ended M x e
    | inr next ↦ go next
  ]
    where
      u : S
      u = run.0

      made : M.step x.machine ≡ Some (u, None)
      made = run.1

      counted : M.count u ≡ suc (M.count x.machine)
      counted = count-does M laws before x.machine u None at made

      go : NextEntry M x → Far M x
      go next = further M x (plainly_steps x u)
          (λ y k r. OneStep next.e u None next.got
          (let l = count_later reads (suc (M.count x.machine)) moves next.e (drop (suc x.replayed) x.held ++ come.0)
          (sym (written (Do None ∷ moves) x next come)) in omega (arith, l)) made r)
          refl refl refl refl (same_fetch (to_fetch (plainly_steps x u)) (to_fetch x) refl)
          (rest (before ++ Do None ∷ []) (plainly_steps x u) last
          (runs-append M M.boot x.machine u before (Do None ∷ []) at (u, made, refl)) few run.2
          (come.0, come.1 ∙ ap (λ c. entries reads c moves) (sym counted))
          (none_come x.fetched (drop x.replayed x.held) moves
          (unfetched x.fetched (drop x.replayed x.held) None moves takes)))

  giving : (o : Operation) (moves : List Move) → Goes moves → Goes (Do (Some o) ∷ moves)
  giving o moves rest before x last at few run come takes = elim (next_entry M x few) [
    | inl e ↦ ended M x e
    | inr next ↦ go next
  ]
    where
      u : S
      u = run.0

      made : M.step x.machine ≡ Some (u, Some o)
      made = run.1

      counted : M.count u ≡ suc (M.count x.machine)
      counted = count-does M laws before x.machine u (Some o) at made

      none : x.fetched ≡ None
      none = unfetched x.fetched (drop x.replayed x.held) (Some o) moves takes

      go : NextEntry M x → Far M x
      go next =
          let c = M.count x.machine in
          let after : List Entry = drop (suc x.replayed) x.held ++ come.0 in
          let all = written (Do (Some o) ∷ moves) x next come in
          let e_is : next.e ≡ Mark (suc c) = same_first next.e (Mark (suc c)) after (entries reads (suc c) moves) all in
          let left : after ≡ entries reads (suc c) moves =
          tail_is next.e (Mark (suc c)) after (entries reads (suc c) moves) all in
          let at_count : suc c ≡ count_of next.e = ap count_of (sym e_is) in
          further M x (plainly_steps x u)
          (λ y k r. OneStep next.e u (Some o) next.got (omega (arith, at_count)) made r)
          refl refl refl refl (same_fetch (to_fetch (plainly_steps x u)) (to_fetch x) refl)
          (further M (plainly_steps x u) (passes_mark (plainly_steps x u))
          (λ y k r. OneMark next.e next.got (counted ∙ at_count) (ap bare_of e_is) r)
          refl refl refl refl
          (passed_other x.fetched (drop x.replayed x.held) (drop (suc x.replayed) x.held) next.e none next.left
          (ap is_read e_is))
          (rest (before ++ Do (Some o) ∷ []) (passes_mark (plainly_steps x u)) last
          (runs-append M M.boot x.machine u before (Do (Some o) ∷ []) at (u, made, refl)) next.more run.2
          (come.0, left ∙ ap (λ d. entries reads d moves) (sym counted))
          (none_come x.fetched (drop (suc x.replayed) x.held) moves none)))

  taking : (i : Input) (moves : List Move) → Goes moves → Goes (Take i ∷ moves)
  taking i moves rest before x last at few run come takes = elim (next_entry M x few) [
    | inl e ↦ ended M x e
    | inr next ↦ go next (is_logged reads (M.count x.machine) i)
  ]
    where
      u : S
      u = run.0

      taken : M.take x.machine i ≡ Some u
      taken = run.1.taken

      counted : M.count u ≡ M.count x.machine
      counted = count-takes M laws before x.machine u i at taken

      reached : Reaches M (before ++ Take i ∷ []) u
      reached = runs-append M M.boot x.machine u before (Take i ∷ []) at (u, taken, refl)

      go : NextEntry M x → IsLogged reads (M.count x.machine) i → Far M x
      go next logged = by_kind logged
        where
          c : ℕ
          c = M.count x.machine

          after : List Entry
          after = drop (suc x.replayed) x.held ++ come.0

          all : next.e ∷ after ≡ entry_of reads (M.count x.machine) i ∷ entries reads (M.count x.machine) moves
          all = written (Take i ∷ moves) x next come

          e_is : next.e ≡ entry_of reads (M.count x.machine) i
          e_is = same_first next.e (entry_of reads (M.count x.machine) i) after (entries reads (M.count x.machine) moves) all

          left : after ≡ entries reads (M.count u) moves
          left = tail_is next.e (entry_of reads (M.count x.machine) i) after (entries reads (M.count x.machine) moves) all
              ∙ ap (λ d. entries reads d moves) (sym counted)

          at_count : M.count x.machine ≡ count_of next.e
          at_count = sym (count_entry reads (M.count x.machine) i) ∙ ap count_of (sym e_is)

          come_here : TakesFetched x.fetched (next.e ∷ drop (suc x.replayed) x.held) (Take i ∷ moves)
          come_here = subst (λ es. TakesFetched x.fetched es (Take i ∷ moves)) next.left takes

          by_kind : IsLogged reads (M.count x.machine) i → Far M x
          by_kind (AsInput has other) =
              let none : x.fetched ≡ None =
              unfetched_input x.fetched next.e (drop (suc x.replayed) x.held) i (Take i ∷ moves) (ap input_of e_is ∙ has)
              come_here in
              further M x (passes_input x u)
              (λ y k r. OneInput next.e i u next.got at_count (ap input_of e_is ∙ has) taken r)
              refl refl refl refl
              (passed_other x.fetched (drop x.replayed x.held) (drop (suc x.replayed) x.held) next.e none next.left
              (ap is_read e_is ∙ other))
              (rest (before ++ Take i ∷ []) (passes_input x u) last reached next.more run.2 (come.0, left)
              (none_come x.fetched (drop (suc x.replayed) x.held) moves none))
          by_kind (AsRead d s n bytes input_is entry_is) = by_bytes x.fetched refl
            where
              read_is : next.e ≡ entry.Read (M.count x.machine) d s n
              read_is = e_is ∙ entry_is

              at_read : next_read M x ≡ Some (d, s, n)
              at_read = read_next M x d s n (next.got ∙ ap (λ (e : Entry). Some e) read_is)

              by_bytes : (fetched : Option (List ℕ)) → x.fetched ≡ fetched → Far M x
              by_bytes None none = waits M x
                  (ap (λ f. is_none (wanted_of f (next_read M x))) none ∙ ap is_none at_read)
              by_bytes (Some others) some =
                  let same : i ≡ input.Sector d s n others =
                  subst (λ f. TakesFetched f (entry.Read (M.count x.machine) d s n ∷ drop (suc x.replayed) x.held)
                  (Take i ∷ moves))
                  some
                  (subst (λ (e : Entry). TakesFetched x.fetched (e ∷ drop (suc x.replayed) x.held) (Take i ∷ moves)) read_is
                  come_here) in
                  further M x (passes_read x u)
                  (λ y k r. OneRead d s n others u at_read some (ap (M.take x.machine) (sym same) ∙ taken) r)
                  refl refl refl refl
                  (passed_read x.fetched (drop x.replayed x.held) (drop (suc x.replayed) x.held) next.e others some next.left
                  (ap is_read read_is))
                  (rest (before ++ Take i ∷ []) (passes_read x u) last reached next.more run.2 (come.0, left) tt)

  clean : (moves : List Move) → Goes moves
  clean [] = no_moves
  clean (Do None ∷ moves) = quietly moves (clean moves)
  clean (Do (Some o) ∷ moves) = giving o moves (clean moves)
  clean (Take i ∷ moves) = taking i moves (clean moves)

-- a node on a recorded run goes on so
pub far : {S : Type 0} (M : Machine S) → Lawful M → (x : Node S) → IsReached M x.machine → x.replayed ≤ length x.held →
    IsOnTrace M x.machine (drop x.replayed x.held) x.fetched → Far M x
far {S} M laws x at few t = by_owes t.owes t.stands
  where
    by_owes : (owes : Bool) →
        Stands M t.reads x.machine (drop x.replayed x.held) x.fetched owes t.moves t.last → Far M x
    by_owes false s = clean M laws t.reads t.moves at.0 x t.last at.1 few s.runs (s.later, s.next_ones) s.takes
    by_owes true s = elim (next_entry M x few) [
      | inl e ↦ ended M x e
      | inr next ↦
          (let c = M.count x.machine in
          let after : List Entry = drop (suc x.replayed) x.held ++ s.later in
          let all : next.e ∷ after ≡ Mark c ∷ entries t.reads c t.moves =
          ap (λ es. es ++ s.later) (sym next.left) ∙ s.next_ones in
          let e_is : next.e ≡ Mark c = same_first next.e (Mark c) after (entries t.reads c t.moves) all in
          let none : x.fetched ≡ None =
          unfetched_mark x.fetched next.e (drop (suc x.replayed) x.held) t.moves (ap bare_of e_is)
          (subst (λ es. TakesFetched x.fetched es t.moves) next.left s.takes) in
          further M x (passes_mark x)
          (λ y k r. OneMark next.e next.got (ap count_of (sym e_is)) (ap bare_of e_is) r)
          refl refl refl refl
          (passed_other x.fetched (drop x.replayed x.held) (drop (suc x.replayed) x.held) next.e none
          next.left (ap is_read e_is))
          (clean M laws t.reads t.moves at.0 (passes_mark x) t.last at.1 next.more s.runs
          (s.later, tail_is next.e (Mark c) after (entries t.reads c t.moves) all)
          (none_come x.fetched (drop (suc x.replayed) x.held) t.moves none)))
    ]
