-- Memory after a write is later memory: its page's version is higher, and every other page is as it was. So is memory
-- after the accesses of a step, which are too few for a version to wrap, and after an input, which writes nothing.
use Rattle.std.proofs.Common.{◌≡◌, ℕ, zero, suc, ◌+◌, ◌*◌, ◌%◌, ◌^◌, ◌<◌, ◌≤◌, Bool, true, false, cond, List, [], ◌∷◌, length, Some, None, is_none, Result, Ok, Err, refl, sym, ap, subst, ◌∙◌, inl, inr, arith}
use Rattle.std.specs.Prelude.{slice_index, slice_set}
use Rattle.std.proofs.lemmas.Bool.{cases_eq}
use Rattle.std.proofs.lemmas.List.{length-set, get_or-set_same, get_or-set_other}
use Rattle.i8080_words.specs.Effects.{Access, after_accesses}
use Rattle.i8080_words.specs.Effects.Access.{Write, Input, Output}
use Rattle.i8080_words.specs.declared.limits.TheConstants.{GREATEST_NUMBER}
use Rattle.i8080_words.specs.declared.refusal.Fault.{Fault}
use Rattle.i8080_words.proofs.Accesses.{few_accesses}
use Rattle.serial_2sio.specs.Port as serial
use Rattle.guest_memory.specs.Pages.{Pages, page_of, version_at, written}
use Rattle.guest_memory.specs.declared.memory.TheConstants.{BYTES, PAGES}
use Rattle.guest_parts.specs.Board.{IsBoard, OnBoard}
use Rattle.guest_parts.specs.Guest.{Guest}
use Rattle.guest_board.specs.Guest.{wired, step_of, wired_after, line_of, next, take_from, after_rx, after_sent, after_sector, after_written}
use Rattle.guest_board.specs.Ports.{Wired, after_access, after_out, device_at, memory_byte, port_byte}
use Rattle.guest_board.specs.Wiring.{versions_after}
use Rattle.guest_board.specs.Stepping.{next_versions}
use Rattle.guest_board.specs.declared.executed.Executed.{Executed}
use Rattle.guest_board.proofs.Outputs.{cond_memory, out_memory}
use Rattle.guest_board.proofs.Steps.{access_little}
use Rattle.guest_lockstep.specs.declared.input.Input.{Input as AnInput}
use Rattle.guest_lockstep.specs.declared.input.Input.TheVariants as input
use Rattle.board_image.specs.DraftLaws.{IsLater, board_after, memory_of}

pub unchanged : (pages : Pages) → IsLater pages pages
unchanged pages = record { versions = λ page. omega arith; bytes = λ address low same. refl }

pub each : (old middle new : Pages) → IsLater old middle → IsLater middle new → IsLater old new
each old middle new first second = record {
  versions = λ page.
      let one = first.versions page in
      let two = second.versions page in
      omega (arith, one, two);
  bytes = λ address low same.
      let one = first.versions (page_of address) in
      let two = second.versions (page_of address) in
      second.bytes address low (omega (arith, one, two, same)) ∙ first.bytes address low (omega (arith, one, two, same));
}

-- ---- a write

no_less : (n : ℕ) → n ≤ n
no_less n = omega arith

pub up : (xs : List ℕ) (p n k : ℕ) → n ≡ slice_index xs p → n + 1 < 2 ^ 64
    → slice_index xs k ≤ slice_index (slice_set xs p ((n + 1) % 2 ^ 64)) k
up [] p n k e low = no_less 0
up (x ∷ xs) zero n zero e low =
    let here : n ≡ x = e in
    omega (arith, here, low)
up (x ∷ xs) zero n (suc k) e low = no_less (slice_index xs k)
up (x ∷ xs) (suc p) n zero e low = no_less x
up (x ∷ xs) (suc p) n (suc k) e low = up xs p n k e low

pub page_low : (address : ℕ) → address < BYTES → page_of address < PAGES
page_low address low = omega (arith, low)

wraps : (v bound : ℕ) → v ≤ bound → bound + 1 < 2 ^ 64 → (v + 1) % 2 ^ 64 ≡ v → ⊥
wraps v bound few low wrapped = omega (arith, few, low, wrapped)

raised_there : (pages : Pages) (address byte bound : ℕ) → length pages.versions ≡ PAGES → address < BYTES
    → version_at pages (page_of address) ≤ bound → bound + 1 < 2 ^ 64
    → version_at (written pages address byte) (page_of address) ≡ version_at pages (page_of address) → ⊥
raised_there pages address byte bound long below few low same =
    let inside = page_low address below in
    let new : version_at (written pages address byte) (page_of address) ≡ (version_at pages (page_of address) + 1) % 2 ^ 64 =
    get_or-set_same pages.versions (page_of address) ((version_at pages (page_of address) + 1) % 2 ^ 64) 0 (omega (arith, long, inside)) in
    wraps (version_at pages (page_of address)) bound few low (sym new ∙ same)

written_later : (pages : Pages) (address byte bound : ℕ) → length pages.versions ≡ PAGES
    → ((page : ℕ) → version_at pages page ≤ bound) → bound + 1 < 2 ^ 64 → IsLater pages (written pages address byte)
written_later pages address byte bound long all low =
    let here : version_at pages (page_of address) ≤ bound = all (page_of address) in
    record {
      versions = λ page. up pages.versions (page_of address) (version_at pages (page_of address)) page refl (omega (arith, here, low));
      bytes = λ other below same.
          elim (cases_eq other address) [
            | inl e ↦
                absurd (raised_there pages address byte bound long (subst (λ a. a < BYTES) e below) here low
                (subst (λ a. version_at (written pages address byte) (page_of a) ≡ version_at pages (page_of a)) e same))
            | inr differs ↦ get_or-set_other pages.bytes address other byte 0 differs
          ];
    }

-- ---- an access, and those of a step

abbrev pages_with : Wired → List ℕ → Pages
pages_with w versions = record { bytes = w.memory; versions = versions }

access_later : (access : Access) (w : Wired) (versions : List ℕ) (bound : ℕ) → length versions ≡ PAGES
    → ((page : ℕ) → slice_index versions page ≤ bound) → bound + 1 < 2 ^ 64
    → IsLater (pages_with w versions) (pages_with (after_access access w) (versions_after access versions))
access_later (Write address byte) w versions bound long all low =
    written_later (pages_with w versions) address byte bound long all low
access_later (Input number) w versions bound long all low = unchanged (pages_with w versions)
access_later (Output number byte) w versions bound long all low =
    let same : (after_access (Output number byte) w).memory ≡ w.memory =
    cond_memory (is_none w.given) (after_out w (device_at number) byte) w (out_memory w number byte) in
    subst (λ (memory : List ℕ). IsLater (pages_with w versions) (record { bytes = memory; versions = versions })) (sym same)
    (unchanged (pages_with w versions))

pub access_long : (access : Access) (versions : List ℕ) → length (versions_after access versions) ≡ length versions
access_long (Write address byte) versions =
    length-set versions (page_of address) ((slice_index versions (page_of address) + 1) % 2 ^ 64)
access_long (Input number) versions = refl
access_long (Output number byte) versions = refl

accesses_later : (accesses : List Access) (w : Wired) (versions : List ℕ) (bound : ℕ) → length versions ≡ PAGES
    → ((page : ℕ) → slice_index versions page ≤ bound) → bound + length accesses < 2 ^ 64
    → IsLater (pages_with w versions)
    (pages_with (after_accesses after_access accesses w) (after_accesses versions_after accesses versions))
accesses_later [] w versions bound long all low = unchanged (pages_with w versions)
accesses_later (x ∷ xs) w versions bound long all low =
    each (pages_with w versions) (pages_with (after_access x w) (versions_after x versions))
    (pages_with (after_accesses after_access xs (after_access x w)) (after_accesses versions_after xs (versions_after x versions)))
    (access_later x w versions bound long all (omega (arith, low)))
    (accesses_later xs (after_access x w) (versions_after x versions) (bound + 1) (access_long x versions ∙ long)
    (access_little x versions bound all) (omega (arith, low)))

pub few : (g : Guest) → length (step_of g).accesses ≤ 2
unfolding step_of
few g = few_accesses g.processor (memory_byte (wired g)) (port_byte (wired g)) (line_of g.devices g.levels)

next_later : (g : Guest) (versions : List ℕ) → length versions ≡ PAGES
    → ((page : ℕ) → slice_index versions page ≤ 2 * g.count) → g.count ≤ GREATEST_NUMBER
    → IsLater (record { bytes = g.memory; versions = versions })
    (record { bytes = (next g).memory; versions = next_versions g versions })
unfolding wired_after
next_later g versions long all low =
    let two = few g in
    accesses_later (step_of g).accesses (wired g) versions (2 * g.count) long all (omega (arith, two, low))

-- ---- steps and inputs of a board

pub steps_later : (board : OnBoard) (answer : Result Executed Fault) → IsBoard board.guest board.versions
    → length board.versions ≡ PAGES → IsLater (memory_of board) (memory_of (board_after answer board))
steps_later board (Ok made) stands long =
    next_later board.guest board.versions long stands.in_range.writes stands.in_range.count
steps_later board (Err fault) stands long = unchanged (memory_of board)

kept_if : (test : Bool) (x g h : Guest) → x.memory ≡ g.memory → cond test (Some x) None ≡ Some h → h.memory ≡ g.memory
kept_if true x g h e some =
    let same : x ≡ h = cc in
    ap (λ (y : Guest). y.memory) (sym same) ∙ e
kept_if false x g h e some = absurd cc

input_memory : (g : Guest) (taken : AnInput) (h : Guest) → take_from g taken ≡ Some h → h.memory ≡ g.memory
input_memory g (input.Rx port byte) h e = kept_if _ (after_rx g port byte) g h refl e
input_memory g (input.Sent port) h e = kept_if _ (after_sent g port) g h refl e
input_memory g (input.Sector drive sector number bytes) h e = kept_if _ (after_sector g sector bytes) g h refl e
input_memory g (input.Written number) h e = kept_if _ (after_written g number) g h refl e

pub inputs_later : (board : OnBoard) (taken : AnInput) (guest : Guest) → take_from board.guest taken ≡ Some guest
    → IsLater (memory_of board) (memory_of (record { guest = guest; versions = board.versions }))
inputs_later board taken guest e =
    subst (λ (memory : List ℕ). IsLater (memory_of board) (record { bytes = memory; versions = board.versions }))
    (sym (input_memory board.guest taken guest e)) (unchanged (memory_of board))
