-- What is printed of a node's machine is what the world shows there, or why it shows none.
use Rattle.std.proofs.Common.{◌≡◌, ◌∙◌, ◌∷◌, ◌++◌, ◌+◌, ◌%◌, arith, ℕ, [], List, Bool, Option, Some, None, Result, Ok, Err, IfOk, ap, refl, subst, sym}
use Rattle.std.proofs.lemmas.List.FromFn.{map-range_with_len_more}
use Rattle.std.specs.Prelude.{slice_get, slice_index, string_bytes}
use Rattle.std.specs.Option.{option_and_then}
use Rattle.guest_board.specs.Inputs.{some_altair}
use Rattle.guest_lockstep.specs.Machine.{Machine}
use Rattle.guest_parts.specs.Guest.{Guest}
use Rattle.i8080_words.specs.Arithmetic.{wrapped}
use Rattle.i8080_words.specs.declared.refusal.Fault.TheVariants.{Unknown, WrongRole}
use Rattle.i8080_words.specs.declared.registers.Processor.{Processor}
use Rattle.disk_dcdd.specs.declared.address.SectorAddress.{SectorAddress}
use Rattle.pair_protocol.specs.World.{accepted}
use Rattle.script_language.specs.declared.line.Query.{Query}
use Rattle.pair_protocol.specs.Node.{Node, Role, Spare, Primary, Backup, Joining, Draining, Alone}
use Rattle.ft_node.specs.Guests.{shown_machine}
use Rattle.ft_world.specs.Applies.{Shows}
use Rattle.ft_world.specs.Guests.{machine_at}
use Rattle.ft_world.specs.Running.{Running}
use Rattle.ft_world.specs.Shows.{IsStatusAt}
use Rattle.ft_world.specs.Standing.{Course}
use Rattle.ft_world.specs.declared.hosts.NodeStatus.{NodeStatus}
use Rattle.shared_disk.specs.Failing.{Disk, records_in}
use Rattle.shell_language.specs.Texts.{Prints, Row}
use Rattle.shell_language.specs.declared.printing.Printed.{Printed}
use Rattle.shell_language.specs.declared.tape.Played.{Played}
use Rattle.shell_language.specs.declared.line.ShellLine.{ShellLine}
use Rattle.shell_language.specs.declared.line.ShellLine.TheVariants as shell
use Rattle.shell_language.specs.declared.look.Look.{Look}
use Rattle.shell_language.specs.declared.look.View.{View}
use Rattle.shell_language.specs.declared.look.View.TheVariants as view
use Rattle.shell_picture.specs.Answers.{refused}
use Rattle.shell_picture.specs.Machines.{register_rows}
use Rattle.shell_picture.specs.Screens.{screen_rows}
use Rattle.pair_shell.specs.Looking.{Asks, IsLooked, IsSeen, IsSeenSaid, Looks, LooksAlone, Reads, absence, bytes_from, left_out, look_rows, rows_by, rows_of}

-- the rows of a node with a machine
sees_at : (seen : View) (x : Option (Node Guest)) (g : Guest) → Some g ≡ option_and_then (λ (n : Node Guest). shown_machine n) x
    → look_rows seen x ≡ rows_of seen g
sees_at seen None g e = absurd (cc)
sees_at seen (Some n) g e = ap (rows_by seen (absence n.role)) (sym e)

-- a number that no node has
sees_nothing_at : (M : Machine Guest) (seen : View) (x : Option (Node Guest)) → IsStatusAt M x None
    → None ≡ option_and_then (λ (n : Node Guest). shown_machine n) x → look_rows seen x ≡ refused Unknown ∷ []
sees_nothing_at M seen None status none = refl
sees_nothing_at M seen (Some n) status none = ap (λ role. rows_by seen (absence role) (shown_machine n)) status
    ∙ ap (rows_by seen Unknown) (sym none)

-- every role but that of a spare host is one of a node
is_a_role : (role : Role) → (role ≡ Spare → ⊥) → absence role ≡ WrongRole
is_a_role Primary h = refl
is_a_role Backup h = refl
is_a_role Joining h = refl
is_a_role Draining h = refl
is_a_role Alone h = refl
is_a_role Spare h = absurd (h refl)

-- a node without a machine
sees_no_machine_at : (M : Machine Guest) (seen : View) (x : Option (Node Guest)) (status : NodeStatus) → IsStatusAt M x (Some status)
    → None ≡ option_and_then (λ (n : Node Guest). shown_machine n) x → look_rows seen x ≡ refused WrongRole ∷ []
sees_no_machine_at M seen None status there none = absurd there
sees_no_machine_at M seen (Some n) status there none =
    ap (λ fault. rows_by seen fault (shown_machine n)) (is_a_role n.role there.a_node)
    ∙ ap (rows_by seen WrongRole) (sym none)

-- what was printed is what is to be printed of every world that is shown
looks : {B H X E : Type 0} (guest : B → Guest) (look : Look) (world : Running B H Disk) (old new : Printed) (rows : List Row)
    (result : Result X E) → ((c : Course Guest) → Shows guest guest some_altair records_in world c
    → look_rows look.view (slice_get c.world.nodes look.node) ≡ rows)
    → IfOk result (λ done. Prints rows old new) → IfOk result (λ done. Looks guest look world old new)
looks guest look world old new rows (Ok done) are prints = λ c h. subst (λ r. Prints r old new) (sym (are c h)) prints
looks guest look world old new rows (Err refused) are prints = tt

-- a machine was seen, or the node has none, or there is no such node
module _ {B H X E : Type 0} (guest : B → Guest) (look : Look) (world : Running B H Disk) (old new : Printed) (result : Result X E) where
  pub sees : (g : Guest) → ((c : Course Guest) → Shows guest guest some_altair records_in world c
      → Some g ≡ machine_at c.world.nodes look.node)
      → IfOk result (λ done. Prints (rows_of look.view g) old new) → IfOk result (λ done. Looks guest look world old new)
  sees g there = looks guest look world old new (rows_of look.view g) result
      (λ c h. sees_at look.view (slice_get c.world.nodes look.node) g (there c h))

  pub sees_nothing : ((c : Course Guest) → Shows guest guest some_altair records_in world c
      → None ≡ machine_at c.world.nodes look.node)
      → ((c : Course Guest) → Shows guest guest some_altair records_in world c
      → IsStatusAt some_altair (slice_get c.world.nodes look.node) None)
      → IfOk result (λ done. Prints (refused Unknown ∷ []) old new) → IfOk result (λ done. Looks guest look world old new)
  sees_nothing none status = looks guest look world old new (refused Unknown ∷ []) result
      (λ c h. sees_nothing_at some_altair look.view (slice_get c.world.nodes look.node) (status c h) (none c h))

  pub sees_no_machine : (shown : NodeStatus) → ((c : Course Guest) → Shows guest guest some_altair records_in world c
      → None ≡ machine_at c.world.nodes look.node)
      → ((c : Course Guest) → Shows guest guest some_altair records_in world c
      → IsStatusAt some_altair (slice_get c.world.nodes look.node) (Some shown))
      → IfOk result (λ done. Prints (refused WrongRole ∷ []) old new) → IfOk result (λ done. Looks guest look world old new)
  sees_no_machine shown none status = looks guest look world old new (refused WrongRole ∷ []) result
      (λ c h. sees_no_machine_at some_altair look.view (slice_get c.world.nodes look.node) shown (status c h) (none c h))

-- a line that looks has played nothing
pub looked_alone : {B H X E : Type 0} (guest : B → Guest) (look : Look) (tape : List Played) (world : Running B H Disk)
    (old new : Printed) (result : Result X E) → tape ≡ [] → IfOk result (λ done. Looks guest look world old new)
    → IfOk result (λ done. IsLooked guest (shell.Look look) tape (Some world) old new)
looked_alone guest look tape world old new (Ok done) none looks = (none, looks)
looked_alone guest look tape world old new (Err refused) none looks = tt

-- so has a query, or one that looks at a terminal or at a sector
pub asked_alone : {B H X E : Type 0} (guest : B → Guest) (query : Query) (tape : List Played) (world : Running B H Disk)
    (old new : Printed) (result : Result X E) → tape ≡ [] → IfOk result (λ done. Asks guest guest some_altair query world old new)
    → IfOk result (λ done. IsLooked guest (shell.Query query) tape (Some world) old new)
asked_alone guest query tape world old new (Ok done) none asks = (none, asks)
asked_alone guest query tape world old new (Err refused) none asks = tt

pub read_alone : {B H X E : Type 0} (guest : B → Guest) (address : SectorAddress) (tape : List Played) (world : Running B H Disk)
    (old new : Printed) (result : Result X E) → tape ≡ [] → IfOk result (λ done. Reads guest guest some_altair address world old new)
    → IfOk result (λ done. IsLooked guest (shell.Sector address) tape (Some world) old new)
read_alone guest address tape world old new (Ok done) none reads = (none, reads)
read_alone guest address tape world old new (Err refused) none reads = tt

pub shown_alone : {B H X E : Type 0} (guest : B → Guest) (line : ShellLine) (port : ℕ) (is_new : Bool) (shown bytes : List ℕ)
    (tape : List Played) (world : Running B H Disk) (old new : Printed) (result : Result X E) → line ≡ shell.Screen port is_new
    → tape ≡ [] → ((c : Course Guest) → Shows guest guest some_altair records_in world c → bytes ≡ accepted c.world port)
    → IfOk result (λ done. Prints (screen_rows port bytes (left_out shown port is_new)) old new)
    → IfOk result (λ done. IsLooked guest line tape (Some world) old new)
shown_alone guest line port is_new shown bytes tape world old new (Ok done) is none are prints =
    subst (λ l. IsLooked guest l tape (Some world) old new) (sym is) (
      none,
      λ c shows. (shown, subst (λ b. Prints (screen_rows port b (left_out shown port is_new)) old new) (are c shows) prints),
    )
shown_alone guest line port is_new shown bytes tape world old new (Err refused) is none are prints = tt

-- the pair is there afterwards
pub looked_in : {B H : Type 0} (guest : B → Guest) (line : ShellLine) (tape : List Played) (world : Running B H Disk)
    (after : Option (Running B H Disk)) (old new : Printed) → after ≡ Some world → IsLooked guest line tape (Some world) old new
    → IsLooked guest line tape after old new
looked_in guest line tape world after old new is looked = subst (λ w. IsLooked guest line tape w old new) (sym is) looked

-- the whole text that answers such a line
is_seen : {B H : Type 0} (guest : B → Guest) (line : ShellLine) (tape : List Played) (world : Option (Running B H Disk))
    (before after : Printed) (is_traced : Bool) (text : List ℕ) → LooksAlone guest line tape world before after
    → string_bytes before.text ≡ [] → before.is_traced ≡ is_traced → string_bytes after.text ≡ text
    → IsSeen guest line tape world is_traced text
is_seen guest line tape world before after is_traced text h blank traced told = record {
  nothing_played = h.0;
  before = before;
  after = after;
  blank = blank;
  traced = traced;
  told = told;
  seen = h.1;
}

-- what is said of a line is said of a text that says it
line_seen : {B H : Type 0} (guest : B → Guest) (line : ShellLine) (tape : List Played) (world : Option (Running B H Disk))
    (before after : Printed) (is_traced : Bool) (text : List ℕ) → IsLooked guest line tape world before after
    → string_bytes before.text ≡ [] → before.is_traced ≡ is_traced → string_bytes after.text ≡ text
    → IsSeenSaid guest (Some line) tape world is_traced text
line_seen guest (shell.Look look) tape world before after is_traced text h blank traced told =
    is_seen guest (shell.Look look) tape world before after is_traced text h blank traced told
line_seen guest (shell.Query query) tape world before after is_traced text h blank traced told =
    is_seen guest (shell.Query query) tape world before after is_traced text h blank traced told
line_seen guest (shell.Screen port is_new) tape world before after is_traced text h blank traced told =
    is_seen guest (shell.Screen port is_new) tape world before after is_traced text h blank traced told
line_seen guest (shell.Sector address) tape world before after is_traced text h blank traced told =
    is_seen guest (shell.Sector address) tape world before after is_traced text h blank traced told
line_seen guest line tape world before after is_traced text h blank traced told = tt

pub seen_said : {B H : Type 0} (guest : B → Guest) (line : ShellLine) (said : Option ShellLine) (tape : List Played)
    (world : Option (Running B H Disk)) (before after : Printed) (is_traced : Bool) (text : List ℕ) → Some line ≡ said
    → IsLooked guest line tape world before after → string_bytes before.text ≡ [] → before.is_traced ≡ is_traced
    → string_bytes after.text ≡ text → IsSeenSaid guest said tape world is_traced text
seen_said guest line said tape world before after is_traced text is h blank traced told =
    subst (λ s. IsSeenSaid guest s tape world is_traced text) is
    (line_seen guest line tape world before after is_traced text h blank traced told)

-- one byte more of memory
pub one_byte_more : (memory : List ℕ) (from k : ℕ) (bytes : List ℕ) → bytes ≡ bytes_from memory from k
    → bytes ++ slice_index memory ((from + k) % 65536) ∷ [] ≡ bytes_from memory from (k + 1)
one_byte_more memory from k bytes e = ap (λ b. b ++ slice_index memory ((from + k) % 65536) ∷ []) e
    ∙ sym (map-range_with_len_more (λ i. slice_index memory (wrapped (from + i))) 0 k k (omega arith))

-- the registers of a machine
pub shows_registers : {X E : Type 0} (seen : View) (processor : Processor) (count : ℕ) (g : Guest) (old new : Printed)
    (result : Result X E) → seen ≡ view.Registers → processor ≡ g.processor → count ≡ g.count
    → IfOk result (λ done. Prints (register_rows processor count) old new) → IfOk result (λ done. Prints (rows_of seen g) old new)
shows_registers seen processor count g old new result is same so_many h =
    subst (λ s. IfOk result (λ done. Prints (rows_of s g) old new)) (sym is)
    (subst (λ p. IfOk result (λ done. Prints (register_rows p g.count) old new)) same
    (subst (λ n. IfOk result (λ done. Prints (register_rows processor n) old new)) so_many h))
