-- Why a primary refuses a call. It serves, so what is left of each list of refusals is the call's own part and the
-- log's; and the log that it keeps is full, or has no index left, exactly if the protocol says so of the whole log.
-- What is not refused does what its row says.
use Rattle.std.proofs.Common.{◌≡◌, ℕ, zero, suc, ◌-◌, ◌≤◌, Bool, true, false, cond, not, ◌==◌, ◌&&◌, Option, Some, None, is_none, Result, ◌⊎◌, inl, inr, ◌<◌, ◌||◌, List, [], ◌∷◌, length, drop, refl, sym, ap, subst, ◌∙◌, arith}
use Rattle.std.specs.Prelude.{nat_le}
use Rattle.std.proofs.lemmas.Bool.{le-leb, lt-leb, eq-eqb, ne_eqb, cases_lt}
use Rattle.std.proofs.lemmas.List.{length-drop}
use Rattle.i8080_words.specs.declared.limits.TheConstants.{GREATEST_NUMBER}
use Rattle.guest_lockstep.specs.Lockstep as lockstep
use Rattle.ft_node.proofs.Words.{Alone, Fault, Idle, IsWithinLimits, Log, LogFull, Machine, Node, Primary, Spent, Unless, WrongRole, advance_refusal, buffered, fault_if, first_of, is_role, log, log_full, log_size, log_spent, next_of, refusal_behind, role_refusal, room_answer, serves, step_refusal}
use Rattle.log_buffer.specs.Log as buffer
use Rattle.log_buffer.specs.Logs.{answered}
use Rattle.log_buffer.specs.declared.buffer.TheConstants.{CAPACITY}
use Rattle.pair_protocol.specs.Lawful.{top}
use Rattle.ft_node.specs.Due.{refused_by}

-- ---- lists of refusals

-- the first of two refusals
abbrev pub or_else : Option Fault → Option Fault → Option Fault
or_else (Some fault) rest = Some fault
or_else None rest = rest

pub allowed : (A : Type 0) (refusal : Option Fault) (result : Result A Fault) (stays does : Type 0) → refusal ≡ None
    → does → Unless refusal result stays does
allowed A refusal result stays does is done = subst (λ r. Unless r result stays does) (sym is) done

-- ---- a primary serves

pub primary_serves : {S : Type 0} (x : Node S) → x.role ≡ Primary → x.running ≡ true → serves x ≡ None
primary_serves x role up =
    ap (λ r. fault_if (not (x.running && is_role r Primary || (x.running && is_role r Alone || false))) WrongRole) role
    ∙ ap (λ b. fault_if (not (b && true || (b && false || false))) WrongRole) up

pub primary_acts : {S : Type 0} (x : Node S) → x.role ≡ Primary → x.running ≡ true
    → role_refusal (Primary ∷ []) x ≡ None
primary_acts x role up =
    ap (λ r. fault_if (not (x.running && is_role r Primary || false)) WrongRole) role
    ∙ ap (λ b. fault_if (not (b && true || false)) WrongRole) up

-- ---- the log

-- a number that is at most the limit reaches it exactly if it equals it
reaches_limit : (n limit : ℕ) → n ≤ limit → nat_le limit n ≡ (n == limit)
reaches_limit n limit within = go (cases_lt n limit)
  where
    go : (n < limit) ⊎ (limit ≤ n) → nat_le limit n ≡ (n == limit)
    go (inl less) = lt-leb limit n less ∙ sym (ne_eqb n limit (λ e. omega arith))
    go (inr more) = le-leb limit n more ∙ sym (eq-eqb n limit (omega arith))

-- the log that a primary keeps
pub record Keeps {S : Type 0} (x : Node S) (l : Log) : Type 0 where
  pub role : x.role ≡ Primary
  pub up : x.running ≡ true
  pub kept : l ≡ log x.covered (drop x.covered x.log)
  pub within : x.covered ≤ length x.log
  pub limits : IsWithinLimits l

kept_few : {S : Type 0} (x : Node S) (l : Log) → l ≡ log x.covered (drop x.covered x.log)
    → length x.log - x.covered ≡ length l.entries
kept_few x l kept = sym (ap (λ (l : Log). length l.entries) kept ∙ length-drop x.covered x.log)

kept_next : {S : Type 0} (x : Node S) (l : Log) → l ≡ log x.covered (drop x.covered x.log)
    → x.covered ≤ length x.log → length x.log ≡ next_of l
kept_next x l kept within =
    let few = kept_few x l kept in
    let first : l.first ≡ x.covered = ap (λ (l : Log). l.first) kept in
    omega arith

top_is : top ≡ GREATEST_NUMBER
unfolding top
top_is = refl

pub full_where : {S : Type 0} (x : Node S) (l : Log) → x.role ≡ Primary → l ≡ log x.covered (drop x.covered x.log)
    → log_full x ≡ fault_if (nat_le CAPACITY (length l.entries)) LogFull
full_where x l role kept =
    ap (λ r. fault_if (is_role r Primary && nat_le log_size (length x.log - x.covered)) LogFull) role
    ∙ ap (λ n. fault_if (nat_le log_size n) LogFull) (kept_few x l kept)

pub spent_where : {S : Type 0} (x : Node S) (l : Log) → x.role ≡ Primary → l ≡ log x.covered (drop x.covered x.log)
    → x.covered ≤ length x.log → log_spent x ≡ fault_if (nat_le GREATEST_NUMBER (next_of l)) Spent
spent_where x l role kept within =
    ap (λ r. fault_if (is_role r Primary && nat_le top (length x.log)) Spent) role
    ∙ ap (λ n. fault_if (nat_le n (length x.log)) Spent) top_is
    ∙ ap (λ n. fault_if (nat_le GREATEST_NUMBER n) Spent) (kept_next x l kept within)

full_alike : {S : Type 0} (x : Node S) (l : Log) → Keeps x l
    → log_full x ≡ fault_if (length l.entries == CAPACITY) LogFull
full_alike x l k =
    full_where x l k.role k.kept
    ∙ ap (λ b. fault_if b LogFull) (reaches_limit (length l.entries) CAPACITY k.limits.few)

spent_alike : {S : Type 0} (x : Node S) (l : Log) → Keeps x l
    → log_spent x ≡ fault_if (next_of l == GREATEST_NUMBER) Spent
spent_alike x l k =
    spent_where x l k.role k.kept k.within
    ∙ ap (λ b. fault_if b Spent) (reaches_limit (next_of l) GREATEST_NUMBER k.limits.next)

by_tests : (full spent : Bool) (rest : List (Option Fault))
    → first_of (fault_if full LogFull ∷ fault_if spent Spent ∷ rest)
    ≡ or_else (cond full (Some LogFull) (cond spent (Some Spent) None)) (first_of rest)
by_tests true spent rest = refl
by_tests false true rest = refl
by_tests false false rest = refl

-- the log's refusals, and after them the others
pub by_log : {S : Type 0} (x : Node S) (l : Log) (rest : List (Option Fault)) → Keeps x l
    → first_of (log_full x ∷ log_spent x ∷ rest) ≡ or_else (buffer.refusal_of l) (first_of rest)
by_log x l rest k =
    ap (λ r. first_of (r ∷ log_spent x ∷ rest)) (full_alike x l k)
    ∙ ap (λ r. first_of (fault_if (length l.entries == CAPACITY) LogFull ∷ r ∷ rest)) (spent_alike x l k)
    ∙ by_tests (length l.entries == CAPACITY) (next_of l == GREATEST_NUMBER) rest

-- what the log answers to one more entry
pub log_answers : {S : Type 0} (x : Node S) (l : Log) → Keeps x l
    → first_of (log_full x ∷ log_spent x ∷ []) ≡ refused_by (room_answer buffered l)
log_answers x l k = by_log x l [] k ∙ returned (buffer.refusal_of l)
  where
    returned : (r : Option Fault) → or_else r None ≡ refused_by (answered r tt)
    returned None = refl
    returned (Some fault) = refl

-- a call's list, without the role
served : {S : Type 0} (x : Node S) (l : Log) (rest : List (Option Fault)) → Keeps x l
    → first_of (serves x ∷ rest) ≡ first_of rest
served x l rest k = ap (λ r. first_of (r ∷ rest)) (primary_serves x k.role k.up)

-- ---- steps

by_room : (r rest : Option Fault) → or_else r rest ≡ refusal_behind (answered r tt) rest
by_room None rest = refl
by_room (Some fault) rest = refl

-- of a machine that is spent, or makes no step
pub by_machine : (spent none : Bool)
    → first_of (fault_if spent Spent ∷ fault_if none Idle ∷ [])
    ≡ cond spent (Some Spent) (cond none (Some Idle) None)
by_machine true none = refl
by_machine false true = refl
by_machine false false = refl

pub steps_refused : {S : Type 0} (M : Machine S) (x : Node S) (l : Log) (turns : ℕ) → Keeps x l
    → step_refusal M turns x ≡ advance_refusal M buffered x.machine l turns
steps_refused M x l zero k = primary_serves x k.role k.up
steps_refused M x l (suc turns) k =
    served x l _ k ∙ by_log x l _ k
    ∙ ap (or_else (buffer.refusal_of l)) (by_machine (M.is_spent x.machine) (is_none (M.step x.machine)))
    ∙ by_room (buffer.refusal_of l) (lockstep.step_refusal M x.machine)
