-- What is held after each change. A first entry and the spellings of those after it hold all of them; so a spelling
-- appended to the block holds one more, and the block's first entry moved to the front holds one fewer.
use Rattle.std.proofs.Common.{◌≡◌, ℕ, List, [], ◌∷◌, ◌++◌, drop, Option, Some, None, Result, Ok, Err, refl, sym, ap, subst, ◌∙◌}
use Rattle.std.specs.Prelude.{OnOk, OnErr, IfSome}
use Rattle.std.specs.List.{flat_map, AllByRecursion, slice_get}
use Rattle.std.proofs.lemmas.List.{append-nil}
use Rattle.std.proofs.lemmas.List.Concat.{flat_map-cons, flat_map-append}
use Rattle.std.proofs.lemmas.Option.{none-some}
use Rattle.log_entry.specs.declared.entry.Entry.{Entry}
use Rattle.log_entry.specs.Spelling.{spelling, IsEntry}
use Rattle.log_channel.specs.Block.{first_of, entries_of, held_in, IsBlock, TakesFirst}
use Rattle.log_channel.proofs.BlockEntries.{first_again, entries_of_spelled}

-- the block is well-formed, and these entries are held
abbrev pub Holds : Option Entry → List ℕ → List Entry → Type 0
Holds front block es = IsBlock front block × (held_in front block ≡ es)

holds_same : (front other : Option Entry) (block others : List ℕ) (es : List Entry) → front ≡ other → block ≡ others
    → Holds other others es → Holds front block es
holds_same front other block others es same_front same_block held =
    let behind = subst (λ (bs : List ℕ). Holds other bs es) (sym same_block) held in
    subst (λ (o : Option Entry). Holds o block es) (sym same_front) behind

-- ---- nothing, and some entries

pub holds_nothing : (block : List ℕ) → block ≡ [] → Holds None block []
holds_nothing block empty =
    let same : entries_of [] ≡ [] = entries_of_spelled [] tt in
    let none : Holds None [] [] =
    (record { spelled = ap (flat_map spelling) (sym same); valid = rw same tt; behind = refl; front_valid = tt }, same)
    in
    holds_same None None block [] [] refl empty none

holds_behind : (e : Entry) (es : List Entry) → IsEntry e → AllByRecursion IsEntry es
    → Holds (Some e) (flat_map spelling es) (e ∷ es)
holds_behind e es fits valid =
    let same : entries_of (flat_map spelling es) ≡ es = entries_of_spelled es valid in (
      record {
        spelled = ap (flat_map spelling) (sym same);
        valid = subst (AllByRecursion IsEntry) (sym same) valid;
        behind = tt;
        front_valid = fits;
      },
      ap (λ (xs : List Entry). e ∷ xs) same,
    )

-- ---- the first that is held

pub first_held : (front : Option Entry) (block : List ℕ) → IsBlock front block
    → slice_get (held_in front block) 0 ≡ front
first_held None block b = ap (λ (es : List Entry). slice_get es 0) (holds_nothing block b.behind).1
first_held (Some f) block b = refl

pub first_valid : (front : Option Entry) (block : List ℕ) → IsBlock front block
    → IfSome (slice_get (held_in front block) 0) IsEntry
first_valid front block b = rw (first_held front block b) b.front_valid

-- if there is no first, none is held
pub no_first : (es : List Entry) → slice_get es 0 ≡ None → es ≡ []
no_first [] h = refl
no_first (e ∷ es) h = absurd cc

-- ---- one more

-- if nothing is held, it is the first
pub held_first : (front : Option Entry) (block : List ℕ) (e : Entry) → front ≡ None → IsBlock front block
    → held_in (Some e) block ≡ held_in front block ++ e ∷ []
held_first None block e is b =
    let nothing : entries_of block ≡ [] = (holds_nothing block b.behind).1 in
    ap (λ (es : List Entry). e ∷ es) nothing ∙ ap (λ (es : List Entry). es ++ e ∷ []) (sym nothing)
held_first (Some f) block e is b = absurd (none-some f (sym is))

valid_push : (es : List Entry) (e : Entry) → AllByRecursion IsEntry es → IsEntry e
    → AllByRecursion IsEntry (es ++ e ∷ [])
valid_push [] e valid fits = (fits, tt)
valid_push (x ∷ es) e valid fits = (valid.0, valid_push es e valid.1 fits)

-- otherwise its spelling is at the end of the block
pushed : (f e : Entry) (block : List ℕ) → IsBlock (Some f) block → IsEntry e
    → Holds (Some f) (block ++ spelling e) (held_in (Some f) block ++ e ∷ [])
pushed f e block b fits =
    let es = entries_of block in
    let all = flat_map spelling es in
    let one : spelling e ≡ flat_map spelling (e ∷ []) = sym (append-nil (spelling e)) in
    let joined : block ++ spelling e ≡ flat_map spelling (es ++ e ∷ []) =
    ap (λ (bs : List ℕ). bs ++ spelling e) b.spelled ∙ ap (λ (bs : List ℕ). all ++ bs) one
    ∙ sym (flat_map-append spelling es (e ∷ []))
    in
    let held = holds_behind f (es ++ e ∷ []) b.front_valid (valid_push es e b.valid fits) in
    holds_same (Some f) (Some f) _ _ (f ∷ (es ++ e ∷ [])) refl joined held

-- what a write to the block leaves
pub held_push : {T E : Type 0} (r : Result T E) (front : Option Entry) (f e : Entry) (old new : List ℕ)
    → front ≡ Some f → IsBlock front old → IsEntry e → OnOk r (new ≡ old ++ spelling e) → OnErr r (new ≡ old)
    → OnOk r (held_in front new ≡ held_in front old ++ e ∷ []) × IsBlock front new
held_push r None f e old new is b fits ok err = absurd (none-some f is)
held_push (Ok x) (Some g) f e old new is b fits ok err =
    let held = pushed g e old b fits in
    let after = holds_same (Some g) (Some g) new _ _ refl ok held in
    (after.1, after.0)
held_push (Err y) (Some g) f e old new is b fits ok err = (tt, subst (IsBlock (Some g)) (sym err) b)

-- ---- one less

popped : (es : List Entry) (r : Option Entry) (new : List ℕ) → AllByRecursion IsEntry es
    → TakesFirst (first_of (flat_map spelling es)) (flat_map spelling es) r new → Holds r new es
unfolding first_of
popped [] r new valid taken = holds_same r None new new [] taken.0 refl (holds_nothing new taken.1)
popped (e ∷ es) r new valid taken =
    let block = flat_map spelling (e ∷ es) in
    let rest = flat_map spelling es in
    let first : first_of block ≡ Some (e, rest) =
    ap first_of (flat_map-cons spelling e es) ∙ first_again e rest valid.0
    in
    let Taken : Option (Entry × List ℕ) → Type 0 = λ found. TakesFirst found block r new in
    let cut : TakesFirst (Some (e, rest)) block r new = subst Taken first taken in
    holds_same r (Some e) new rest (e ∷ es) cut.0 cut.1 (holds_behind e es valid.0 valid.1)

pub unheld : (front : Option Entry) (f : Entry) (old : List ℕ) (r : Option Entry) (new : List ℕ)
    → front ≡ Some f → IsBlock front old → TakesFirst (first_of old) old r new
    → Holds r new (drop 1 (held_in front old))
unheld None f old r new is b taken = absurd (none-some f is)
unheld (Some g) f old r new is b taken =
    let Taken : List ℕ → Type 0 = λ block. TakesFirst (first_of block) block r new in
    popped (entries_of old) r new b.valid (subst Taken b.spelled taken)
