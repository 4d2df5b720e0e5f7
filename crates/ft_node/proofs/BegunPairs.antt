-- An alone node that begins the next generation is its primary. Its log is empty, all that is outstanding is covered, and
-- so are the keys that its guest has taken.
use Rattle.std.proofs.Common.{◌≡◌, ℕ, zero, suc, ◌+◌, ◌<◌, ◌^◌, true, false, Option, Some, None, List, [], ◌∷◌, ◌++◌, length, Ok, Err, refl, sym, ap, subst, ◌∙◌, add-one, arith}
use Rattle.std.specs.Prelude.{nat_le, slice_index}
use Rattle.std.proofs.lemmas.Bool.{le-leb, lt-leb}
use Rattle.std.proofs.lemmas.List.{append-nil}
use Rattle.std.proofs.lemmas.Option.{none-some}
use Rattle.ft_node.specs.Kept.{ImageParts}
use Rattle.event_callbacks.specs.declared.devices.TheConstants.{PORTS}
use Rattle.ft_node.proofs.Words.{Alone, BeginsPair, Begun, Call, Copying, Covering, Covers, Ever, HasImage, HasTakenKeys, IsAlone, IsPrimary, Log, Machine, Node, OutOfMemory, Reads, Sending, Spent, Timed, begin_pair_refusal, begun, fault_if, first_of, last_generation, log, next_after, nothing_acknowledged, role_refusal}
use Rattle.guest_lockstep.specs.Reach.{keys}

-- the keys of both ports
abbrev pub taken_keys : {S : Type 0} → Machine S → S → List ℕ
taken_keys M s = M.keys s 0 ∷ M.keys s 1 ∷ []

module _ {S : Type 0} (M : Machine S) (reads : Reads) (s : S) (generation : ℕ) (x : Node S)
    (a : IsAlone reads s generation x) where
  taken_are : HasTakenKeys M x → (port : ℕ) → port < PORTS
      → slice_index (taken_keys M s) port ≡ length (keys port (x.list ++ []))
  taken_are has port within =
      each port within ∙ ap (λ s. M.keys s port) (sym a.machine) ∙ has port within
      ∙ ap (λ (list : List Timed). length (keys port list)) (sym (append-nil x.list))
    where
      each : (port : ℕ) → port < PORTS → slice_index (taken_keys M s) port ≡ M.keys s port
      each zero within = refl
      each (suc zero) within = refl
      each (suc (suc port)) within = absurd (omega arith)

  covers : HasTakenKeys M x → Covers M (nothing_acknowledged (taken_keys M s)) (begun M x)
  covers has = record {
    acknowledged = refl;
    reported = refl;
    last_read = refl;
    waits = refl;
    keys = taken_are has;
    noted = λ name o found. refl;
    outstanding = λ name note e. absurd (none-some note e);
  }

  is_primary : (C : Copying S) (image : ImageParts) → HasTakenKeys M x → image.generation ≡ suc generation
      → image.parts ≡ C.parts s
      → IsPrimary M (HasImage C (suc generation) (Some image)) reads s (log 0 [])
      (record { generation = suc generation; held = 0; replayed = 0 }) (nothing_acknowledged (taken_keys M s)) (begun M x)
  is_primary C image has begins parts = record {
    role = refl;
    up = refl;
    generation = ap suc a.generation_is;
    reads_are = a.reads_are;
    machine = a.machine;
    kept = refl;
    within = omega arith;
    entries = λ k e within. absurd (omega (arith, within));
    acknowledged = refl;
    told = refl;
    covers = covers has;
    image = record {
      s = x.machine;
      there = refl;
      begins = begins;
      parts = parts ∙ ap C.parts (sym a.machine);
    };
  }

  -- the primary that begins with such parts
  pub is_begun : (C : Copying S) (logs : Reads) (t : S) (l : Log) (sd : Sending) (c : Covering) (kept : Option ImageParts)
      (parts : List (List ℕ)) → HasTakenKeys M x → logs ≡ reads → t ≡ s → l ≡ log 0 []
      → sd ≡ record { generation = generation + 1; held = 0; replayed = 0 } → c ≡ nothing_acknowledged (taken_keys M s)
      → kept ≡ Some (record { generation = generation + 1; parts = parts }) → parts ≡ C.parts s
      → IsPrimary M (HasImage C sd.generation kept) logs t l sd c (begun M x)
  is_begun C logs t l sd c kept parts has same board empty sender covered image is =
      rw (same, board, empty, sender, covered, image)
      (subst
      (λ n. IsPrimary M (HasImage C n (Some (record { generation = n; parts = parts }))) reads s (log 0 [])
      (record { generation = n; held = 0; replayed = 0 }) (nothing_acknowledged (taken_keys M s)) (begun M x))
      (sym (add-one generation)) (is_primary C (record { generation = suc generation; parts = parts }) has refl is))

  -- only the number of the generation refuses it
  refused_by_number : begin_pair_refusal x ≡ first_of (fault_if (nat_le last_generation generation) Spent ∷ [])
  refused_by_number =
      let role : role_refusal (Alone ∷ []) x ≡ None = rw (a.role, a.up) refl in
      ap (λ r. first_of (r ∷ fault_if (nat_le last_generation x.generation) Spent ∷ [])) role
      ∙ ap (λ g. first_of (fault_if (nat_le last_generation g) Spent ∷ [])) a.generation_is

  greater : generation + 1 < 2 ^ 32 → nat_le last_generation generation ≡ false
  unfolding last_generation
  greater few = lt-leb _ _ (omega arith)

  greatest : generation + 1 ≡ 2 ^ 32 → nat_le last_generation generation ≡ true
  unfolding last_generation
  greatest last = le-leb _ _ (omega arith)

  module _ (Is : Node S → Type 0) where
    pub begins : generation + 1 < 2 ^ 32 → Is (begun M x) → BeginsPair M x (Ok (generation + 1)) Is
    begins few is =
        subst (λ r. Call {A = ℕ} r Ever (Begun M) x (Ok (generation + 1)) Is)
        (sym (refused_by_number ∙ ap (λ b. first_of (fault_if b Spent ∷ [])) (greater few)))
        (record {
          y = begun M x;
          done = (add-one generation ∙ ap suc (sym a.generation_is), refl);
          after = is;
        })

    pub out_of_memory : generation + 1 < 2 ^ 32 → Is x → BeginsPair M x (Err OutOfMemory) Is
    out_of_memory few is =
        subst (λ r. Call {A = ℕ} r Ever (Begun M) x (Err OutOfMemory) Is)
        (sym (refused_by_number ∙ ap (λ b. first_of (fault_if b Spent ∷ [])) (greater few)))
        (refl, (tt, is))

    pub spent : generation + 1 ≡ 2 ^ 32 → Is x → BeginsPair M x (Err Spent) Is
    spent last is =
        subst (λ r. Call {A = ℕ} r Ever (Begun M) x (Err Spent) Is)
        (sym (refused_by_number ∙ ap (λ b. first_of (fault_if b Spent ∷ [])) (greatest last)))
        (refl, is)

-- ---- the generation after one

pub next_if : (generation drives : ℕ) (reads : Reads) → generation + 1 < 2 ^ 32
    → Ok (record { generation = generation + 1; drives = drives; reads = reads })
    ≡ next_after generation drives reads
unfolding last_generation
next_if generation drives reads few =
    let no : nat_le last_generation generation ≡ false = lt-leb _ _ (omega arith) in
    rw no (ap (λ n. Ok (record { generation = n; drives = drives; reads = reads })) (add-one generation))

pub no_next : (generation drives : ℕ) (reads : Reads) → generation + 1 ≡ 2 ^ 32
    → Err Spent ≡ next_after generation drives reads
unfolding last_generation
no_next generation drives reads last =
    let yes : nat_le last_generation generation ≡ true = le-leb _ _ (omega arith) in rw yes refl
