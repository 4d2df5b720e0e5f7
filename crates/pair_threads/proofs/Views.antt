-- What each call of its seat leaves of a primary's view, and that its guest still leads under it.
use Rattle.std.proofs.Common.{◌≡◌, ℕ, zero, suc, ◌+◌, ◌≤◌, inl, inr, List, [], ◌∷◌, ◌++◌, length, length-append, Option, Some, None, refl, sym, ap, subst, ◌∙◌, arith}
use Rattle.std.specs.Prelude.{◌-◌, IsSome, slice_get}
use Rattle.pair_threads.proofs.Words.{Among, AreAnswers, CallsKept, ComesAndGoes, Core, Counts, Counts-booted, DiskAnswer, Do, Empties, Entry, Fills, HasAsked, IdlesIf, IsAcknowledged, IsLeading, Leads, Machine, Move, OpId, Operation, PrimaryView, PrimaryWorker, Recorded-booted, Recording, Says, Seat, SectorAddress, SectorWrite, Take, WorkerKeeps, WorkerLeads, Works, Write, appended, booted_from, id_of, keys_by, told_by, with_known, longer_by}
use Rattle.event_callbacks.specs.declared.operations.OpId.TheVariants as id
use Rattle.pair_rule.specs.declared.mailbox.Mailbox.TheVariants.{Requests, Answers}
use Rattle.pair_rule.specs.declared.payload.DiskRequest.{DiskRequest}
use Rattle.pair_rule.specs.declared.payload.DiskRequest.TheVariants as ask
use Rattle.pair_rule.specs.declared.payload.Payload.TheVariants.{Out, Request, Answer}
use Rattle.pair_rule.specs.Boxes.{port_box}
use Rattle.pair_rule.specs.Knowledge as knowledge
use Rattle.pair_threads.specs.Primary.{MayAsk}
use Rattle.pair_threads.specs.declared.plan.Briefing.{Briefing}
use Rattle.pair_threads.proofs.KeptCalls.{append_kept, release_kept}
use Rattle.pair_threads.proofs.Leading as moving

-- ---- the machine that boots elsewhere

module _ {S : Type 0} (N : Machine S) (start : S) (sectors : SectorAddress → List ℕ) where
  are_answers : (answers : List DiskAnswer) (s : S) (moves : List Move) → AreAnswers N answers s moves
      → AreAnswers (booted_from N start sectors) answers s moves
  are_answers answers s [] all = all
  are_answers answers s (Do gives ∷ moves) all = λ u made. are_answers answers u moves (all u made)
  are_answers answers s (Take input ∷ moves) all = (all.0, λ u made. are_answers answers u moves (all.1 u made))

  pub leads_there : (boot : S) (list : List Entry) (names : List OpId) (view : PrimaryView) (s : S)
      → Leads N boot list names view s → Leads (booted_from N start sectors) boot list names view s
  leads_there boot list names view s leads = record {
    moves = leads.moves;
    runs = Recorded-booted N start sectors boot s leads.moves leads.runs;
    entries_are = leads.entries_are;
    outstanding = leads.outstanding;
    covered = leads.covered;
    answered = are_answers view.answers boot leads.moves leads.answered;
  }

-- ---- the views

-- a view with one more of what was released, and with one more answer
abbrev pub with_release : PrimaryView → Operation → PrimaryView
with_release view o = knowledge.with_release o view

abbrev pub with_answer : PrimaryView → DiskAnswer → PrimaryView
with_answer view a = record view { answers = view.answers ++ a ∷ [] }

module _ (old new : Core) where
  pub emitted : (port : ℕ) (o : Operation) → Fills (port_box port) (Out o) old new
      → new.known.primary ≡ with_release old.known.primary o
  emitted zero o f = ap (λ (c : Core). c.known.primary) f.0.1
  emitted (suc port) o f = ap (λ (c : Core). c.known.primary) f.0.1

  pub asked_read : (a : SectorAddress) → Fills Requests (Request (ask.Read a)) old new
      → new.known.primary ≡ record old.known.primary { asked = old.known.primary.asked + 1 }
  asked_read a f = ap (λ (c : Core). c.known.primary) f.0.1

  pub asked_write : (w : SectorWrite) → Fills Requests (Request (ask.Write w)) old new
      → new.known.primary ≡ with_release old.known.primary (Write w)
  asked_write w f = ap (λ (c : Core). c.known.primary) f.0.1

  pub heard_one : (a : DiskAnswer) → Empties Answers (Some (Answer a)) old new
      → new.known.primary ≡ with_answer old.known.primary a
  heard_one a e = ap (λ (c : Core). c.known.primary) e.1.1

-- ---- the answer that came last

among_there : (answers : List DiskAnswer) (n : ℕ) (a : DiskAnswer) → slice_get answers n ≡ Some a → Among a answers
among_there [] n a at = absurd cc
among_there (b ∷ answers) zero a at = inl (let e : b ≡ a = cc in sym e)
among_there (b ∷ answers) (suc n) a at = inr (among_there answers n a at)

pub is_among : (answers : List DiskAnswer) (a : DiskAnswer) → slice_get answers (length answers - 1) ≡ Some a
    → Among a answers
is_among answers a at = among_there answers (length answers - 1) a at

at_end : (answers : List DiskAnswer) (a : DiskAnswer) → slice_get (answers ++ a ∷ []) (length answers) ≡ Some a
at_end [] a = refl
at_end (b ∷ answers) a = at_end answers a

pub came_last : (answers : List DiskAnswer) (a b : DiskAnswer) → Some a ≡ Some b
    → slice_get (answers ++ a ∷ []) (length (answers ++ a ∷ []) - 1) ≡ Some b
came_last answers a b same =
    ap (slice_get (answers ++ a ∷ []))
    (let n = length-append answers (a ∷ []) in let e : length (answers ++ a ∷ []) - 1 ≡ length answers = omega (arith, n) in e)
    ∙ at_end answers a ∙ same

-- ---- a guest under another view

module _ {B S : Type 0} (state : B → S) (M : Machine S) (boot : S) (view : PrimaryView) (taken : ℕ → List ℕ)
    (accepted : ℕ → ℕ) (guest : Recording B) (leads : IsLeading state M boot view taken accepted guest)
    (counts : Counts M) (laws : ComesAndGoes M) where
  pub sees : (more : ℕ) → view.seen ≤ more → IsLeading state M boot (record view { seen = more }) taken accepted guest
  sees more le = (
    moving.sees M counts laws boot (state guest.board) (longer_by view.list guest.waiting) guest.given.items view
        leads.0 more le,
    leads.1,
    leads.2,
  )

  pub hears : (a : DiskAnswer) → IsLeading state M boot (with_answer view a) taken accepted guest
  hears a = (
    moving.hears M counts laws boot (state guest.board) (longer_by view.list guest.waiting) guest.given.items view
        leads.0 a,
    leads.1,
    leads.2,
  )

  -- what is outstanding may be released once all is acknowledged
  pub releases : (name : OpId) (o : Operation) → M.find (state guest.board) name ≡ Some o → guest.waiting ≡ None
      → view.seen ≡ length view.list → IsLeading state M boot (with_release view o) taken accepted guest
  releases name o found waits seen = (
    moving.releases M counts laws boot (state guest.board) (longer_by view.list guest.waiting) guest.given.items
        view leads.0 name o found (seen ∙ ap (λ w. length (longer_by view.list w)) (sym waits)),
    leads.1,
    leads.2,
  )

  -- what is counted is seen, and a seat asks who goes on alone
  same_leads : (other : PrimaryView) → other.list ≡ view.list → other.seen ≡ view.seen → other.released ≡ view.released
      → other.answers ≡ view.answers → IsLeading state M boot other taken accepted guest
  same_leads other list seen released answers = (
    record {
      moves = leads.0.moves;
      runs = leads.0.runs;
      entries_are = leads.0.entries_are ∙ ap (λ l. longer_by l guest.waiting) (sym list);
      outstanding = leads.0.outstanding;
      covered = λ o at. subst (λ n. IsAcknowledged leads.0.moves n o) (sym seen)
          (leads.0.covered o (subst (Among o) released at));
      answered = subst (λ a. AreAnswers M a boot leads.0.moves) (sym answers) leads.0.answered;
    },
    leads.1,
    subst (λ l. Says (longer_by l guest.waiting) taken accepted) (sym list) leads.2,
  )

  pub counts_at : (n m : ℕ) → IsLeading state M boot (record view { counted0 = n; counted1 = m }) taken accepted guest
  counts_at n m = same_leads (record view { counted0 = n; counted1 = m }) refl refl refl refl

  pub asks_disk : (n : ℕ) → IsLeading state M boot (record view { asked = n }) taken accepted guest
  asks_disk n = same_leads (record view { asked = n }) refl refl refl refl

  pub asks_alone : (n : ℕ) → IsLeading state M boot (record view { winner = n }) taken accepted guest
  asks_alone n = same_leads (record view { winner = n }) refl refl refl refl

-- ---- a worker of which the seat changes

-- it works on with this seat
abbrev pub WorksAt : {B S : Type 0} → (B → S) → Machine S → PrimaryWorker B → Seat → Type 0
WorksAt {B} {S} state M old seat =
    (seat.table ≡ old.seat.table) × (seat.core.known.primary.winner ≡ old.seat.core.known.primary.winner)
    × (old.plan ≡ old.plan) × (old.port0.typed ≡ old.port0.typed) × (old.port1.typed ≡ old.port1.typed)
    × ((boot : S) → WorkerLeads state M boot old → IsLeading state M boot seat.core.known.primary
    (keys_by old) (told_by old) old.guest)
    × ((boot : S) → WorkerLeads state M boot old → WorkerKeeps M boot old → CallsKept M boot old.port0.typed.items old.port1.typed.items seat.core.known.primary.calls)

module _ {B S : Type 0} (state : B → S) (M : Machine S) (old : PrimaryWorker B) (seat : Seat) (sight : PrimaryView) where
  -- so it does if its guest leads on under the view that the seat has
  pub works_on : seat.table ≡ old.seat.table → seat.core.known.primary ≡ sight
      → sight.winner ≡ old.seat.core.known.primary.winner
      → ((boot : S) (taken : ℕ → List ℕ) (accepted : ℕ → ℕ)
      → IsLeading state M boot old.seat.core.known.primary taken accepted old.guest
      → IsLeading state M boot sight taken accepted old.guest)
      → ((boot : S) → WorkerLeads state M boot old → WorkerKeeps M boot old
      → CallsKept M boot old.port0.typed.items old.port1.typed.items sight.calls)
      → WorksAt state M old seat
  works_on table view winner turn keeps = (
    table,
    ap (λ (v : PrimaryView). v.winner) view ∙ winner,
    refl,
    refl,
    refl,
    λ boot leads. subst (λ v. IsLeading state M boot v (keys_by old) (told_by old) old.guest) (sym view)
        (turn boot (keys_by old) (told_by old) leads),
    λ boot leads kept. subst (λ (v : PrimaryView). CallsKept M boot old.port0.typed.items old.port1.typed.items v.calls)
        (sym view) (keeps boot leads kept),
  )

-- so it does if its seat stays as it was
pub stays : {B S : Type 0} (state : B → S) (M : Machine S) (old : PrimaryWorker B) (seat : Seat) → seat ≡ old.seat
    → WorksAt state M old seat
stays state M old seat is = subst (WorksAt state M old) (sym is)
    (refl, refl, refl, refl, refl, λ boot leads. leads, λ boot leads kept. kept)

-- what its guest has given may be released once all is acknowledged
module _ {B S : Type 0} (state : B → S) (M : Machine S) (counts : Counts M) (old : PrimaryWorker B) (boot : S)
    (leading : WorkerLeads state M boot old) (kept : WorkerKeeps M boot old) where
  pub release_promised : (o : Operation) → M.find (state old.guest.board) (id_of o) ≡ Some o → old.guest.waiting ≡ None
      → old.seen ≡ length old.list.items
      → CallsKept M boot old.port0.typed.items old.port1.typed.items (with_release old.seat.core.known.primary o).calls
  release_promised o found waits seen zero_at sectors =
      let view = old.seat.core.known.primary in
      let leads : Leads M boot view.list old.guest.given.items view (state old.guest.board) =
      subst (λ w. Leads M boot (longer_by view.list w) old.guest.given.items view (state old.guest.board)) waits
      leading.0 in (
        release_kept (booted_from M boot sectors) (Counts-booted M boot sectors counts) zero_at old.guest.given.items view
            (state old.guest.board) old.port0.typed.items old.port1.typed.items o
            (leads_there M boot sectors boot view.list old.guest.given.items view (state old.guest.board) leads) found
            (sym old.saw ∙ seen ∙ ap length old.same),
        kept zero_at sectors,
      )

  pub append_promised : (e : Entry) → old.guest.waiting ≡ Some e
      → CallsKept M boot old.port0.typed.items old.port1.typed.items
      (knowledge.with_entry e old.seat.core.known.primary).calls
  append_promised e waits zero_at sectors =
      let view = old.seat.core.known.primary in
      let all : longer_by view.list old.guest.waiting ≡ view.list ++ e ∷ [] = ap (longer_by view.list) waits in
      let leads : Leads M boot (view.list ++ e ∷ []) old.guest.given.items view (state old.guest.board) =
      subst (λ l. Leads M boot l old.guest.given.items view (state old.guest.board)) all leading.0 in (
        append_kept (booted_from M boot sectors) (Counts-booted M boot sectors counts) zero_at old.guest.given.items view
            (state old.guest.board) old.port0.typed.items old.port1.typed.items e
            (leads_there M boot sectors boot (view.list ++ e ∷ []) old.guest.given.items view (state old.guest.board) leads)
            old.port0.taken old.port1.taken old.port0.accepted old.port1.accepted
            (subst (λ l. Says l (keys_by old) (told_by old)) all leading.2)
            (let a = old.accepted.0 in let b = old.saw_counted.0 in omega (arith, a, b))
            (let a = old.accepted.1 in let b = old.saw_counted.1 in omega (arith, a, b)),
        kept zero_at sectors,
      )

-- a worker whose entry is appended leads on with nothing that waits, and has kept what it promised
module _ {B S : Type 0} (state : B → S) (M : Machine S) (counts : Counts M) (old : PrimaryWorker B) (e : Entry) (seat : Seat)
    (table : seat.table ≡ old.seat.table) (is : seat.core ≡ with_known (appended e) old.seat.core)
    (waits : old.guest.waiting ≡ Some e) where
  abbrev after : Recording B
  after = record old.guest { waiting = None }

  pub appends : (seat.table ≡ old.seat.table) × (seat.core.known.primary.winner ≡ old.seat.core.known.primary.winner)
      × (old.plan ≡ old.plan) × (old.port0.typed ≡ old.port0.typed) × (old.port1.typed ≡ old.port1.typed)
      × ((boot : S) → WorkerLeads state M boot old → IsLeading state M boot seat.core.known.primary
      (keys_by old) (told_by old) after)
      × ((boot : S) → WorkerLeads state M boot old → WorkerKeeps M boot old
      → CallsKept M boot old.port0.typed.items old.port1.typed.items seat.core.known.primary.calls)
  appends = (
    table,
    ap (λ (c : Core). c.known.primary.winner) is,
    refl,
    refl,
    refl,
    λ boot leads.
        let view = old.seat.core.known.primary in
        let now = subst (λ w. Leads M boot (longer_by view.list w) old.guest.given.items view (state old.guest.board)
        × IdlesIf M old.guest.idle (state old.guest.board) × Says (longer_by view.list w) (keys_by old) (told_by old)) waits
        leads in
        subst (λ (c : Core). IsLeading state M boot c.known.primary (keys_by old) (told_by old) after) (sym is)
        (there boot view now.0, now.1, now.2),
    λ boot leads kept. subst
        (λ (c : Core). CallsKept M boot old.port0.typed.items old.port1.typed.items c.known.primary.calls) (sym is)
        (append_promised state M counts old boot leads kept e waits),
  )
    where
      there : (boot : S) (view : PrimaryView)
          → Leads M boot (view.list ++ e ∷ []) old.guest.given.items view (state old.guest.board)
          → Leads M boot (view.list ++ e ∷ []) old.guest.given.items (knowledge.with_entry e view) (state old.guest.board)
      there boot view l = record {
        moves = l.moves;
        runs = l.runs;
        entries_are = l.entries_are;
        outstanding = l.outstanding;
        covered = l.covered;
        answered = l.answered;
      }

-- a worker that sees what is counted at a port, or that asks what it may, works on
module _ {B S : Type 0} (state : B → S) (M : Machine S) (counts : Counts M) (laws : ComesAndGoes M)
    (old : PrimaryWorker B) (seat : Seat) (table : seat.table ≡ old.seat.table) where
  counts_as : (n m : ℕ) → seat.core.known.primary ≡ record old.seat.core.known.primary { counted0 = n; counted1 = m }
      → WorksAt state M old seat
  counts_as n m is = works_on state M old seat (record old.seat.core.known.primary { counted0 = n; counted1 = m }) table is
      refl (λ boot taken accepted leads. counts_at state M boot old.seat.core.known.primary taken accepted old.guest leads
      counts laws n m) (λ boot leads kept. kept)

  pub counts_on : (port n : ℕ) → seat.core ≡ with_known (knowledge.saw_count port n) old.seat.core
      → WorksAt state M old seat
  counts_on zero n is = counts_as n old.seat.core.known.primary.counted1 (ap (λ (c : Core). c.known.primary) is)
  counts_on (suc port) n is = counts_as old.seat.core.known.primary.counted0 n (ap (λ (c : Core). c.known.primary) is)

  pub asks : (request : DiskRequest) → MayAsk state M old request
      → Fills Requests (Request request) old.seat.core seat.core
      → WorksAt state M old seat
  asks (ask.Write w) may fills =
      works_on state M old seat (with_release old.seat.core.known.primary (Write w)) table
      (asked_write old.seat.core seat.core w fills) refl
      (λ boot taken accepted leads. releases state M boot old.seat.core.known.primary taken accepted old.guest leads
      counts laws (id.Write w.number) (Write w) may.0 may.1 (sym old.saw ∙ may.2 ∙ ap length old.same))
      (λ boot leads kept. release_promised state M counts old boot leads kept (Write w) may.0 may.1 may.2)
  asks (ask.Read a) may fills =
      works_on state M old seat
      (record old.seat.core.known.primary { asked = old.seat.core.known.primary.asked + 1 }) table
      (asked_read old.seat.core seat.core a fills) refl
      (λ boot taken accepted leads. asks_disk state M boot old.seat.core.known.primary taken accepted old.guest leads
      counts laws (old.seat.core.known.primary.asked + 1)) (λ boot leads kept. kept)

-- ---- what a worker is to the one that began

abbrev pub Came : {B S : Type 0} → (B → S) → Machine S → PrimaryWorker B → PrimaryWorker B → Type 0
Came {B} {S} state M first w =
    (w.plan ≡ first.plan) × (w.port0.typed ≡ first.port0.typed) × (w.port1.typed ≡ first.port1.typed)
    × HasAsked w.plan.contests_at w.seat.core.known.primary.winner
    × ((boot : S) → WorkerLeads state M boot first → WorkerLeads state M boot w)
    × ((boot : S) → WorkerLeads state M boot first → WorkerKeeps M boot first → WorkerKeeps M boot w)

pub came_on : {B S : Type 0} (state : B → S) (M : Machine S) (first old new : PrimaryWorker B) → Came state M first old
    → Works state M old new → Came state M first new
came_on state M first old new came works = (
  works.2 ∙ came.0,
  works.3 ∙ came.1,
  works.4 ∙ came.2,
  subst (λ (p : Briefing). HasAsked p.contests_at new.seat.core.known.primary.winner) (sym works.2)
      (subst (HasAsked old.plan.contests_at) (sym works.1) came.3),
  λ boot leads. works.5 boot (came.4 boot leads),
  λ boot leads kept. works.6 boot (came.4 boot leads) (came.5 boot leads kept),
)

pub some_at : (o : Option ℕ) (n : ℕ) → o ≡ Some n → IsSome o
some_at None n is = absurd cc
some_at (Some m) n is = refl

-- a worker that asks who goes on alone
module _ {B S : Type 0} (state : B → S) (M : Machine S) (counts : Counts M) (laws : ComesAndGoes M)
    (old : PrimaryWorker B) (seat : Seat) (n : ℕ) (boot : S)
    (is : seat.core.known.primary ≡ record old.seat.core.known.primary { winner = n }) where
  pub leads_alone : WorkerLeads state M boot old → IsLeading state M boot seat.core.known.primary
      (keys_by old) (told_by old) old.guest
  leads_alone leads = subst (λ v. IsLeading state M boot v (keys_by old) (told_by old) old.guest) (sym is)
      (asks_alone state M boot old.seat.core.known.primary (keys_by old) (told_by old) old.guest leads counts laws n)

  pub keeps_alone : WorkerKeeps M boot old
      → CallsKept M boot old.port0.typed.items old.port1.typed.items seat.core.known.primary.calls
  keeps_alone kept = subst (λ (v : PrimaryView). CallsKept M boot old.port0.typed.items old.port1.typed.items v.calls)
      (sym is) kept
