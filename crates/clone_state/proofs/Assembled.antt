-- What an assembly makes when every part has arrived, and why it makes nothing.
use Rattle.std.proofs.Common.{◌≡◌, ℕ, true, false, cond, List, [], ◌∷◌, drop, map, Option, Some, None, Result, Ok, Err, is_some, refl, sym, ap, subst, ◌∙◌, arith}
use Rattle.std.specs.Prelude.{All, IsTrue, is_err}
use Rattle.std.specs.Global.{Vec}
use Rattle.std.specs.List.{list_all}
use Rattle.std.proofs.lemmas.Bool.{false≢true}
use Rattle.std.proofs.lemmas.List.Elements.{All-cons, All-tail}
use Rattle.clone_state.proofs.Words.{Checkpoint, Fault, FirstPart, FitsBoard, Gathering, Guest, HasPages, HasSlots, IsOfBoard, Malformed, NotWhole, OutOfMemory, Slots, checkpoint_in_parts, first_in, fit_slots, gathered, guest_in, guest_of, machine_in, slots_of, whole_answer}
use Rattle.guest_parts.specs.Parts as board
use Rattle.guest_parts.specs.declared.parts.BoardParts.{BoardParts}
use Rattle.log_entry.specs.Numbers.{◌>>=◌}
use Rattle.clone_state.specs.Copies.{refused_as}
use Rattle.clone_state.proofs.Made.{AreParts, no_first, parts_make, parts_unfit, says, slots_full}
use Rattle.clone_state.proofs.Rebuilding.{read_stands}

-- the payloads of all parts
record AllParts (slots : Slots) : Type 0 where
  parts : List (List ℕ)
  is : gathered slots ≡ Some parts

all_parts : (g : Gathering) (r : Result (Unit {0}) Fault) → r ≡ whole_answer g → is_err r ≡ false → AllParts g.slots
all_parts g r answer came = go (gathered g.slots) refl (sym came ∙ ap (λ (r : Result (Unit {0}) Fault). is_err r) answer)
  where
    go : (o : Option (List (List ℕ))) → gathered g.slots ≡ o
        → false ≡ is_err {T = Unit {0}} {E = Fault} (cond (is_some o) (Ok tt) (Err NotWhole)) → AllParts g.slots
    go None is h = absurd (false≢true h)
    go (Some parts) is h = record { parts = parts; is = is }

none_made : (g : Gathering) (parts : List (List ℕ)) → gathered g.slots ≡ Some parts → guest_in g.drives parts ≡ None
    → Malformed ≡ refused_as (λ parts. is_some (guest_in g.drives parts)) (gathered g.slots)
none_made g parts all none =
    sym (ap (refused_as (λ parts. is_some (guest_in g.drives parts))) all
    ∙ ap (λ (o : Option Guest). cond (is_some o) OutOfMemory Malformed) none)

one_made : (g : Gathering) (parts : List (List ℕ)) (guest : Guest) → gathered g.slots ≡ Some parts
    → guest_in g.drives parts ≡ Some guest
    → OutOfMemory ≡ refused_as (λ parts. is_some (guest_in g.drives parts)) (gathered g.slots)
one_made g parts guest all some =
    sym (ap (refused_as (λ parts. is_some (guest_in g.drives parts))) all
    ∙ ap (λ (o : Option Guest). cond (is_some o) OutOfMemory Malformed) some)

-- if the parts make a guest, only memory can be missing
pub only_memory : (g : Gathering) (guest : Guest) → machine_in g ≡ Some guest
    → OutOfMemory ≡ refused_as (λ parts. is_some (guest_in g.drives parts)) (gathered g.slots)
only_memory g guest makes = go (gathered g.slots) refl
  where
    go : (o : Option (List (List ℕ))) → gathered g.slots ≡ o
        → OutOfMemory ≡ refused_as (λ parts. is_some (guest_in g.drives parts)) (gathered g.slots)
    go None none =
        let clash : None ≡ Some guest = sym (ap (λ (o : Option (List (List ℕ))). o >>= guest_in g.drives) none) ∙ makes in
        absurd (cc)
    go (Some parts) all =
        one_made g parts guest all (sym (ap (λ (o : Option (List (List ℕ))). o >>= guest_in g.drives) all) ∙ makes)

all_full : (parts : List (List ℕ)) → All (λ (slot : Option (List ℕ)). IsTrue (is_some slot)) (map Some parts)
all_full [] = λ k x inside. absurd (omega (arith, inside))
all_full (p ∷ ps) =
    All-cons (λ (slot : Option (List ℕ)). IsTrue (is_some slot)) (Some p) (map Some ps) refl (all_full ps)

-- an assembly with these payloads, and every part came
module _ (old : Gathering) (generation drives : ℕ) (first : Vec ℕ) (later : Vec (Option (List ℕ)))
    (same : record { generation = generation; drives = drives; slots = slots_of first.items later.items } ≡ old)
    (has : HasSlots drives first later) (r : Result (Unit {0}) Fault) (answer : r ≡ whole_answer old)
    (came : is_err r ≡ false) where
  abbrev shown : Gathering
  shown = record { generation = generation; drives = drives; slots = slots_of first.items later.items }

  whole : AllParts shown.slots
  whole = all_parts shown r (answer ∙ ap whole_answer (sym same)) came

  are : AreParts drives later.items
  are = record { count = has.count; pages = has.pages }

  refused : (fault : Fault) → fault ≡ refused_as (λ parts. is_some (guest_in shown.drives parts)) (gathered shown.slots)
      → fault ≡ refused_as (λ parts. is_some (guest_in old.drives parts)) (gathered old.slots)
  refused fault e =
      subst (λ (g : Gathering). fault ≡ refused_as (λ parts. is_some (guest_in g.drives parts)) (gathered g.slots)) same e

  pub unread : None ≡ first_in drives first.items
      → Malformed ≡ refused_as (λ parts. is_some (guest_in old.drives parts)) (gathered old.slots)
  unread none =
      refused Malformed (none_made shown whole.parts whole.is
      (no_first drives first.items later.items whole.parts whole.is (sym none)))

  pub has_pages : HasPages later.items
  has_pages = record {
    enough = (let count = has.count in omega (arith, count));
    full = All-tail (λ (slot : Option (List ℕ)). IsTrue (is_some slot)) _ later.items
        (subst (All (λ (slot : Option (List ℕ)). IsTrue (is_some slot))) (sym (slots_full shown.slots whole.parts whole.is))
        (all_full whole.parts));
    pages = has.pages;
  }

  pub unfit : (f : FirstPart) → Some f ≡ first_in drives first.items
      → false ≡ list_all (fit_slots f.devices.disk) (drop 256 later.items)
      → Malformed ≡ refused_as (λ parts. is_some (guest_in old.drives parts)) (gathered old.slots)
  unfit f read fits =
      refused Malformed (none_made shown whole.parts whole.is
      (parts_unfit drives first.items later.items whole.parts f whole.is are (sym read) (sym fits)))

  -- the parts fit a board together
  module _ (f : FirstPart) (read : Some f ≡ first_in drives first.items) (own : IsOfBoard drives f)
      (fits : true ≡ list_all (fit_slots f.devices.disk) (drop 256 later.items)) where
    made : guest_in drives whole.parts ≡ Some (guest_of (says f later.items))
    unfolding guest_in
    made =
        ap (λ (o : Option Checkpoint). o >>= λ c. Some (guest_of c))
        (parts_make drives first.items later.items whole.parts f whole.is are (sym read) own.attached (sym fits)).0

    fits_board : FitsBoard drives (says f later.items)
    fits_board = record {
      attached = own.attached;
      possible = own.possible;
      count = own.count;
      writes = own.writes;
      fits = (parts_make drives first.items later.items whole.parts f whole.is are (sym read) own.attached (sym fits)).1;
    }

    pub no_memory : OutOfMemory ≡ refused_as (λ parts. is_some (guest_in old.drives parts)) (gathered old.slots)
    no_memory = refused OutOfMemory (one_made shown whole.parts _ whole.is made)

    pub makes_guest : (p : BoardParts) → checkpoint_in_parts p ≡ says f later.items
        → machine_in old ≡ Some (board.guest_of_parts p)
    makes_guest p is =
        subst (λ (g : Gathering). machine_in g ≡ Some (board.guest_of_parts p)) same
        (ap (λ (o : Option (List (List ℕ))). o >>= guest_in drives) whole.is ∙ made
        ∙ ap (λ (c : Checkpoint). Some (guest_of c)) (sym is))

    pub stands_whole : (p : BoardParts) → checkpoint_in_parts p ≡ says f later.items → board.stands p ≡ true
    stands_whole p is = read_stands drives p (subst (FitsBoard drives) (sym is) fits_board)
