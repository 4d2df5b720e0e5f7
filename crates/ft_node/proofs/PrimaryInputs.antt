-- An input that a primary takes. Its entry is pushed after those that are kept, so the primary keeps what it kept and
-- the new entry; its machine takes the input; and the operation that the input completes no longer has a note.
use Rattle.std.proofs.Common.{◌≡◌, ℕ, ◌+◌, ◌≤◌, Option, Some, None, Ok, List, [], ◌∷◌, ◌++◌, length, drop, length-append, refl, sym, ap, subst, ◌∙◌, arith}
use Rattle.std.proofs.lemmas.List.{drop-append-le, length-drop}
use Rattle.std.proofs.lemmas.List.Elements.{All-push}
use Rattle.ft_node.proofs.Words.{ComesAndGoes, Covering, Entry, IsEntry, IsPrimary, IsWithinLimits, Log, Machine, Makes, Node, Offers, OpId, Reads, Sending, Took, after_forget, buffered, completed_by, entry_of, log, next_of, primary_takes, pushed, reads_in, took, with_entry}
use Rattle.guest_lockstep.specs.declared.input.Input.{Input}
use Rattle.output_rule.specs.declared.notes.Note.{Note}
use Rattle.ft_node.proofs.LastReads.{last_after}
use Rattle.ft_node.proofs.PrimaryNotes.{Covers-kept, keeps_all, keeps_others}
use Rattle.ft_node.proofs.PrimaryNotes as notes
use Rattle.ft_node.proofs.PrimaryRefusals.{Keeps}

-- ---- a primary

pub keeps_log : {S : Type 0} {K : Option S → Type 0} {reads : Reads} (M : Machine S) (s : S) (l : Log) (sd : Sending) (c : Covering) (x : Node S)
    → IsPrimary M K reads s l sd c x → IsWithinLimits l → Keeps x l
keeps_log M s l sd c x p limits = record {
  role = p.role;
  up = p.up;
  kept = p.kept;
  within = p.within;
  limits = limits;
}

-- the same primary, if its parts are the same
pub same_primary : {S : Type 0} {K : Option S → Type 0} {reads : Reads} (M : Machine S) (s t : S) (l new : Log) (sd : Sending) (c : Covering) (x : Node S)
    → t ≡ s → new ≡ l → IsPrimary M K reads s l sd c x → IsPrimary M K reads t new sd c x
same_primary {S} {K} {reads} M s t l new sd c x same logged p =
    subst (λ t. IsPrimary M K reads t new sd c x) (sym same) (subst (λ l. IsPrimary M K reads s l sd c x) (sym logged) p)

pub next_behind : {S : Type 0} {K : Option S → Type 0} {reads : Reads} (M : Machine S) (s : S) (l : Log) (sd : Sending) (c : Covering) (x : Node S)
    → IsPrimary M K reads s l sd c x → length x.log ≡ next_of l
next_behind M s l sd c x p =
    let next : next_of l ≡ x.covered + length (drop x.covered x.log) = ap next_of p.kept in
    let rest = length-drop x.covered x.log in
    let within = p.within in
    omega arith

-- the log with one more entry, as far as it is not acknowledged
pushed_behind : (l : Log) (covered : ℕ) (whole : List Entry) (e : Entry) → l ≡ log covered (drop covered whole)
    → covered ≤ length whole → pushed l e ≡ log covered (drop covered (whole ++ e ∷ []))
pushed_behind l covered whole e kept within =
    ap (λ l. pushed l e) kept ∙ ap (log covered) (sym (drop-append-le covered whole (e ∷ []) within))

-- the primary that took an input, with the notes that are left
pub primary_took : {S : Type 0} {K : Option S → Type 0} {reads : Reads} (M : Machine S) (s t : S) (l : Log) (sd : Sending) (c : Covering) (left : List Note)
    (last : ℕ) (x : Node S) (i : Input) → IsPrimary M K reads s l sd c x → IsEntry (entry_of reads (M.count s) i)
    → notes.Keeps M s c.notes t left → last ≡ reads_in (x.log ++ entry_of reads (M.count s) i ∷ [])
    → IsPrimary M K reads t (pushed l (entry_of reads (M.count s) i)) sd (record c { notes = left; last_read = last })
    (took M x x.role t i)
primary_took {S} {K} {reads} M s t l sd c left last x i p valid keeps is_last =
    let new = record c { notes = left; last_read = last } in
    let same : entry_of reads (M.count s) i ≡ entry_of x.reads (M.count x.machine) i =
    ap (λ reads. entry_of reads (M.count s) i) (sym p.reads_are)
    ∙ ap (λ s. entry_of x.reads (M.count s) i) (sym p.machine) in
    subst (λ r. IsPrimary M K reads t (pushed l (entry_of reads (M.count s) i)) sd new (took M x r t i)) (sym p.role)
    (subst (λ (e : Entry). IsPrimary M K reads t (pushed l e) sd new (primary_takes M x t i)) (sym same)
    (record {
      role = p.role;
      up = p.up;
      generation = p.generation;
      reads_are = p.reads_are;
      machine = refl;
      kept = pushed_behind l x.covered x.log (entry_of x.reads (M.count x.machine) i) p.kept p.within;
      within =
          let longer = length-append x.log (entry_of x.reads (M.count x.machine) i ∷ []) in
          let within = p.within in
          omega arith;
      entries =
          All-push IsEntry l.entries (entry_of x.reads (M.count x.machine) i) p.entries
          (subst IsEntry same valid);
      acknowledged = p.acknowledged;
      told = p.told;
      covers =
          Covers-kept M x c t left last _ (entry_of x.reads (M.count x.machine) i ∷ []) p.covers p.within
          (subst (λ s. notes.Keeps M s c.notes t left) (sym p.machine) keeps)
          (is_last ∙ ap (λ (e : Entry). reads_in (x.log ++ e ∷ [])) same);
      image = p.image;
    }))

-- the notes that an input leaves
abbrev pub notes_left : Option OpId → Covering → Covering
notes_left None c = c
notes_left (Some name) c = after_forget c name

by_completed : {S : Type 0} {K : Option S → Type 0} {reads : Reads} (M : Machine S) (s t : S) (l : Log) (sd : Sending) (c : Covering) (x : Node S) (i : Input)
    (name : Option OpId) (index : ℕ) → ComesAndGoes M → IsPrimary M K reads s l sd c x
    → IsEntry (entry_of reads (M.count s) i) → M.take s i ≡ Some t → completed_by M s i ≡ name → length x.log ≡ index
    → IsPrimary M K reads t (pushed l (entry_of reads (M.count s) i)) sd
    (notes_left name (with_entry c (entry_of reads (M.count s) i) index)) (took M x x.role t i)
by_completed {S} {K} {reads} M s t l sd c x i None index laws p valid taken is at =
    primary_took M s t l sd c c.notes _ x i p valid (keeps_all M s t c.notes (laws.stays s t i taken is))
    (last_after c x.log (entry_of reads (M.count s) i) index p.covers.last_read at)
by_completed {S} {K} {reads} M s t l sd c x i (Some name) index laws p valid taken is at =
    let gone = laws.goes s t i name taken is in
    primary_took M s t l sd c _ _ x i p valid (keeps_others M s t c.notes name gone.0 gone.1)
    (last_after c x.log (entry_of reads (M.count s) i) index p.covers.last_read at)

-- the input is taken, with the operation that it completes
pub accepts : {S : Type 0} {K : Option S → Type 0} {reads : Reads} (M : Machine S) (s t : S) (l new : Log) (sd : Sending) (c : Covering) (x : Node S) (i : Input)
    (name : Option OpId) (index : ℕ) → ComesAndGoes M → IsPrimary M K reads s l sd c x → Offers M buffered reads s l i (Ok index) t new
    → IsEntry (entry_of reads (M.count s) i) → name ≡ completed_by M s i → index ≡ next_of l
    → Makes x (Took M i)
    (IsPrimary M K reads t new sd (notes_left name (with_entry c (entry_of reads (M.count s) i) index)))
accepts {S} {K} {reads} M s t l new sd c x i name index laws p offers valid is at = record {
  y = took M x x.role t i;
  done = record { s = t; takes = ap (λ s. M.take s i) p.machine ∙ offers.0.taken; after = refl };
  after =
      subst
      (λ new. IsPrimary M K reads t new sd (notes_left name (with_entry c (entry_of reads (M.count s) i) index))
      (took M x x.role t i))
      (sym offers.1)
      (by_completed M s t l sd c x i name index laws p valid offers.0.taken (sym is)
      (next_behind M s l sd c x p ∙ sym at));
}
