-- How a pair begins. Its two nodes are those of the opening, since both guests are in the state in which the machine
-- boots and no step is counted there; nothing was sent, typed or asked; and a disk on which nothing is written has its
-- sectors at boot.
use Rattle.std.proofs.Common.{◌≡◌, ◌∙◌, [], ◌∷◌, ◌++◌, List, None, Option, Some, ap, refl, subst, suc, sym, true, false, zero, ℕ}
use Rattle.std.specs.Prelude.{IsSome, slice_get}
use Rattle.std.specs.Option.{option_map_or}
use Rattle.ft_world.proofs.Words.{Agree, AreHosts, AreMessages, AreTerminals, AreWinners, Asking, AtBoot, Backup, Begins, Copying, Course, Guest, Host, IsDisk, IsHost, IsNode, IsOnlyBackup, IsStation, IsTerminal, Machine, Message, Node, Primary, Reads, Record, Role, Screen, Shows, Station, blank, booted_from, node_count, first_node, is_backup, machine_of, no_terminal, opening, record_at, same_some}
use Rattle.ft_node.specs.declared.node.Node as code
use Rattle.shared_disk.specs.Records.{bytes_in}
use Rattle.ft_world.specs.Beginning.{MayBegin, beginning}
use Rattle.ft_world.specs.declared.host.Host.TheVariants as host
use Rattle.ft_world.proofs.Agreeing.{agree-push}

-- ---- the two nodes

first_begins : {S : Type 0} (M : Machine S) (c : Course S) (reads : Reads) (role : Role) (s : S) → s ≡ c.boot →
    Begins M role 1 reads s (first_node (machine_of M c) reads role)
first_begins M c reads role s from = record {
  role_is = refl;
  up = refl;
  generation_is = refl;
  reads_are = refl;
  machine = sym from;
  no_log = refl;
  covered = refl;
  reported = refl;
  notes = refl;
  no_held = refl;
  replayed = refl;
  no_fetched = refl;
  no_copy = refl;
  no_image = refl;
}

-- the node of a new station is a first node in the role in which it began, in whatever state its guest boots
begins_as : {B H S : Type 0} (state : B → S) (M : Machine S) (C : Copying S) (drives : ℕ) (c : Course S) (reads : Reads) (role : Role) (s : S) (node : code.Node B H) →
    ((x : Node S) → Begins M role 1 reads s x → IsNode state M C drives node x) → s ≡ c.boot →
    IsNode state M C drives node (first_node (machine_of M c) reads role)
begins_as state M C drives c reads role s node begins from =
    begins (first_node (machine_of M c) reads role) (first_begins M c reads role s from)

pub primary_station : {B H S : Type 0} (state : B → S) (M : Machine S) (C : Copying S) (drives : ℕ) (c : Course S) (reads : Reads) (s : S) (node : code.Node B H)
    (h : Station B H) → ((x : Node S) → Begins M Primary 1 reads s x → IsNode state M C drives node x) → h.node ≡ node →
    h.inputs ≡ [] → ((x : Node S) → IsNode state M C drives node x → h.count ≡ node_count M x x.role) → s ≡ c.boot →
    IsStation state M C drives h (first_node (machine_of M c) reads Primary)
primary_station state M C drives c reads s node h begins is inputs count from =
    let first = begins_as state M C drives c reads Primary s node begins from in record {
      node = subst (λ n. IsNode state M C drives n (first_node (machine_of M c) reads Primary)) (sym is) first;
      inputs = inputs;
      count = count (first_node (machine_of M c) reads Primary) first;
      a_node = λ e. absurd (cc);
    }

pub backup_station : {B H S : Type 0} (state : B → S) (M : Machine S) (C : Copying S) (drives : ℕ) (c : Course S) (reads : Reads) (s : S) (node : code.Node B H)
    (h : Station B H) → ((x : Node S) → Begins M Backup 1 reads s x → IsNode state M C drives node x) → h.node ≡ node →
    h.inputs ≡ [] → ((x : Node S) → IsNode state M C drives node x → h.count ≡ node_count M x x.role) → s ≡ c.boot →
    M.count c.boot ≡ 0 → IsStation state M C drives h (first_node (machine_of M c) reads Backup)
backup_station state M C drives c reads s node h begins is inputs count from none =
    let first = begins_as state M C drives c reads Backup s node begins from in record {
      node = subst (λ n. IsNode state M C drives n (first_node (machine_of M c) reads Backup)) (sym is) first;
      inputs = inputs;
      count = count (first_node (machine_of M c) reads Backup) first ∙ none;
      a_node = λ e. absurd (cc);
    }

-- the hosts of a new pair are one of each role
pub two_hosts : {B H S : Type 0} (state : B → S) (M : Machine S) (C : Copying S) (drives : ℕ) (c : Course S) (reads : Reads) (none one two : List (Host B H))
    (primary backup : Station B H) → none ≡ [] → one ≡ none ++ host.Node primary ∷ [] →
    two ≡ one ++ host.Node backup ∷ [] → IsStation state M C drives primary (first_node (machine_of M c) reads Primary) →
    IsStation state M C drives backup (first_node (machine_of M c) reads Backup) →
    AreHosts state M C drives two (opening (machine_of M c) reads).nodes
two_hosts {B} {H} {S} state M C drives c reads none one two primary backup empty first second p b =
    subst (λ hosts. AreHosts state M C drives hosts (opening (machine_of M c) reads).nodes)
    (sym (second ∙ ap (λ hosts. hosts ++ host.Node backup ∷ []) (first
    ∙ ap (λ hosts. hosts ++ host.Node primary ∷ []) empty)))
    (agree-push (IsHost {H = H} state M C drives) (host.Node primary ∷ []) (first_node (machine_of M c) reads Primary ∷ [])
    (host.Node backup) (first_node (machine_of M c) reads Backup) b
    (agree-push (IsHost {H = H} state M C drives) [] [] (host.Node primary) (first_node (machine_of M c) reads Primary) p (λ n. tt)))

only_backup : {S : Type 0} (M : Machine S) (reads : Reads) → IsOnlyBackup (opening M reads).nodes 1 1
only_backup M reads zero x here is role =
    let same : first_node M reads Primary ≡ x =
    same_some (first_node M reads Primary) x (Some (first_node M reads Primary)) refl here in
    absurd (let e : false ≡ true = ap (λ (u : Node _). is_backup u.role) same ∙ role in (cc))
only_backup M reads (suc zero) x here is role = refl
only_backup M reads (suc (suc n)) x here is role = absurd (cc)

-- ---- everything that they share

no_messages : AreMessages [] []
no_messages = record { count = refl; each = λ m. tt }

blank_screens : AreTerminals (blank ∷ blank ∷ []) (no_terminal ∷ no_terminal ∷ [])
blank_screens = record { ports = refl; count = refl; each = each }
  where
    each : (port : ℕ) → Agree IsTerminal (slice_get (blank ∷ blank ∷ []) port)
        (slice_get (no_terminal ∷ no_terminal ∷ []) port)
    each zero = record { accepted = refl; typed = refl; told = refl }
    each (suc zero) = record { accepted = refl; typed = refl; told = refl }
    each (suc (suc port)) = tt

pub some_of : {A : Type 0} (o : Option A) → IsSome o → (a : A) × (o ≡ Some a)
some_of (Some a) is = (a, refl)
some_of None is = absurd (cc)

-- a disk on which nothing is written has its sectors at boot
disk_at_boot : {B D S : Type 0} (state : B → S) (copied : B → Guest) (M : Machine S) (C : Copying S) (records : D → List Record)
    (primary backup : B) (store : D) (may : MayBegin state copied M C records primary backup store) →
    IsDisk (booted_from M (state primary) (bytes_in (records store))) may.drives (records store) []
disk_at_boot state copied M C records primary backup store may = record {
  there = λ address has. some_of (record_at (records store) address) (may.there address has);
  kept = λ address r at. (
    may.unwritten address r at,
    sym (ap (λ o. option_map_or (λ (u : Record). u.bytes) o []) at),
  );
}

-- the fields of a new pair show the world that it begins with
pub shows_beginning : {B H D S : Type 0} (state : B → S) (copied : B → Guest) (M : Machine S) (C : Copying S) (reads : Reads)
    (records : D → List Record) (primary backup : B) (store disk : D) (hosts : List (Host B H)) (messages : List Message) (one two : Screen)
    (askings : List Asking) → MayBegin state copied M C records primary backup store →
    ((C : Copying S) (drives : ℕ) (c : Course S) → state primary ≡ c.boot → state backup ≡ c.boot → M.count c.boot ≡ 0 →
    AreHosts state M C drives hosts (opening (machine_of M c) reads).nodes) →
    messages ≡ [] → one ≡ blank → two ≡ blank → askings ≡ [] → disk ≡ store →
    Shows state copied M records
    (record {
      hosts = hosts;
      messages = messages;
      terminals = one ∷ two ∷ [];
      askings = askings;
      disk = disk;
      generation = 1;
      backup = 1;
    })
    (beginning M C reads (state primary) (records store))
shows_beginning state copied M C reads records primary backup store disk hosts messages one two askings may opened none first second
    unasked same =
    let c = beginning M C reads (state primary) (records store) in record {
      drives = may.drives;
      machine = may.machine;
      copies_as = may.copies_as;
      reached = AtBoot reads;
      parts = record {
        hosts = opened C may.drives c refl may.alike (may.machine.lawful.counts [] (state primary) refl);
        messages = subst (λ list. AreMessages list []) (sym none) no_messages;
        terminals = subst (λ list. AreTerminals list (no_terminal ∷ no_terminal ∷ []))
            (sym (ap (λ t. t ∷ two ∷ []) first ∙ ap (λ t. blank ∷ t ∷ []) second)) blank_screens;
        winners = subst (λ list. AreWinners list []) (sym unasked) (λ generation. refl);
        disk = subst (λ d. IsDisk (machine_of M c) may.drives (records d) []) (sym same)
            (disk_at_boot state copied M C records primary backup store may);
        generation = refl;
        backup = only_backup (machine_of M c) reads;
      };
    }
