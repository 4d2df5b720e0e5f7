-- How a generation ends, by who goes on alone. The guests run as the machine that boots where they began; if nobody has
-- asked to go on alone, the primary has seen all its entries acknowledged, so the backup has them all; whoever the table
-- names as the winner has won.
use Rattle.std.proofs.Common.{◌≡◌, ◌⊎◌, inl, inr, ℕ, zero, suc, ◌+◌, ◌<◌, ◌≤◌, Bool, true, false, cond, List, [], ◌∷◌, ◌++◌, length, map, take, Option, Some, None, refl, sym, ap, subst, ◌∙◌, arith, length-append, append-nil, vec_len, Vec, Global}
use Rattle.std.specs.Prelude.{Result, Ok, Err, IsOk, OnOk}
use Rattle.std.proofs.Math.Seq.{take-length}
use Rattle.std.proofs.lemmas.Bool.{false≢true}
use Rattle.pair_threads.proofs.Words.{BackupView, BackupWorker, ComesAndGoes, ComesAndGoes-booted, Counts, Counts-booted, Decided, DiskView, EndsAlone, EndsBy, EndsWell, Entry, IsAt, IsAtRest, IsStore, IsWhereItLeads, Lawful, Leads, Machine, PrimaryView, PrimaryWorker, Record, Recorded-booted, SectorAddress, Settled, StartsWith, TerminalView, Who, WorkerLeads, accepted_after, arrival_of, booted_from, bytes_in, last_count, last_or, winner_named, winner_of, longer_by}
use Rattle.pair_rule.proofs.ListsThatGrow.{last_below}
use Rattle.pair_threads.specs.declared.gate.Who.TheVariants as who
use Rattle.pair_threads.specs.Left.{Leaves, LeavesBy}
use Rattle.pair_threads.proofs.Views.{leads_there}
use Rattle.replayer.specs.Following.{Ran}
use Rattle.pair_threads.proofs.Ends.{backup_alone, backup_leaves, backup_where, primary_alone, primary_leaves, well}

-- ---- the machine that boots elsewhere

module _ {S : Type 0} (N : Machine S) (start : S) (sectors : SectorAddress → List ℕ) where
  ran_there : (boot : S) (list : List Entry) (s : S) → Ran N boot list s → Ran (booted_from N start sectors) boot list s
  ran_there boot list s ran = record {
    moves = ran.moves;
    runs = Recorded-booted N start sectors boot s ran.moves ran.runs;
    entries_are = ran.entries_are;
  }

-- ---- the lists, and who has won

-- a list that starts with one that is no shorter is that one
no_more : (list copy more : List Entry) → list ≡ copy ++ more → length list ≤ length copy → list ≡ copy
no_more list copy [] is le = is ∙ append-nil copy
no_more list copy (x ∷ more) is le =
    absurd (let a = ap length is in let b = length-append copy (x ∷ more) in let c = le in omega (arith, a, b, c))

module _ (primary : PrimaryView) (backup : BackupView) (terminal : TerminalView) (disk : DiskView) (tail held winner : ℕ)
    (settled : Settled primary backup terminal disk tail held winner) where
  pub starts : StartsWith primary.list backup.list
  starts = subst (λ p. StartsWith p.list backup.list) settled.primary_is
      (subst (λ b. StartsWith settled.known.primary.list b.list) settled.backup_is settled.stands.log.prefix)

  few_held : last_or 0 backup.held_values ≤ length backup.list
  few_held = subst (λ b. last_or 0 b.held_values ≤ length b.list) settled.backup_is
      (last_below 0 (length settled.known.backup.list) settled.known.backup.held_values settled.stands.log.rising)

  seen_held : primary.seen ≤ last_or 0 backup.held_values
  seen_held = subst (λ p. p.seen ≤ last_or 0 backup.held_values) settled.primary_is
      (subst (λ b. settled.known.primary.seen ≤ last_or 0 b.held_values) settled.backup_is settled.stands.log.behind)

  -- if all is seen, both lists are one, and all of it is acknowledged
  one_list : primary.seen ≡ length primary.list → primary.list ≡ backup.list
  one_list all =
      let s = starts in
      no_more primary.list backup.list s.0 s.1
      (let a = few_held in let b = seen_held in omega (arith, a, b, all))

  all_held : primary.seen ≡ length primary.list → held ≡ length primary.list
  all_held all =
      let a = few_held in
      let b = seen_held in
      let c = ap length (one_list all) in
      let d = settled.held_is in
      omega (arith, a, b, c, d, all)

  decided : Decided primary.winner backup.winner
  decided = subst (λ p. Decided p.winner backup.winner) settled.primary_is
      (subst (λ b. Decided settled.known.primary.winner b.winner) settled.backup_is settled.stands.decided)

  -- a winning backup knows it
  backup_won : winner_named winner ≡ Some who.Backup → backup.winner ≡ 2
  backup_won named = go primary.winner backup.winner decided (ap winner_named (sym settled.winner_is) ∙ named)
    where
      second : (w : ℕ) → w < 3 → winner_named w ≡ Some who.Backup → w ≡ 2
      second zero few is = absurd cc
      second (suc zero) few is = absurd cc
      second (suc (suc zero)) few is = refl
      second (suc (suc (suc n))) few is = absurd (omega (arith, few))

      go : (p b : ℕ) → Decided p b → winner_named (winner_of p b) ≡ Some who.Backup → b ≡ 2
      go zero b d is = second b d.few is
      go (suc p) b d is = d.primary_lost (second (suc p) d.few is)

-- nobody but the primary and the backup can win
no_other : (w : ℕ) (other : Who) → winner_named w ≡ Some other → (other ≡ who.Primary) ⊎ (other ≡ who.Backup)
no_other zero other is = absurd cc
no_other (suc zero) other is = inl cc
no_other (suc (suc n)) other is = inr cc

-- ---- the workers at their ends

how_long : {T : Type 0} (v : Vec T Global) → vec_len v ≡ length v.items
how_long v = omega (arith, v.ok.0)

-- a guest that has repeated the whole list has made the run of it
ran_all : {B S : Type 0} (state : B → S) (N : Machine S) (boot : S) (b : BackupWorker B) → IsAt state N boot b.guest
    → b.guest.replayed ≡ length b.guest.list.items → Ran N boot b.guest.list.items (state b.guest.board)
ran_all state N boot b at all = subst (λ l. Ran N boot l (state b.guest.board))
    (ap (λ n. take n b.guest.list.items) all ∙ take-length b.guest.list.items) at.ran

module _ {B S : Type 0} (state : B → S) (N : Machine S) (counts : Counts N) (laws : ComesAndGoes N) (boot : S)
    (first : List Record) (lawful : Lawful (booted_from N boot (bytes_in first))) (p : PrimaryWorker B) (b : BackupWorker B)
    (terminal : TerminalView) (disk : DiskView) (tail held winner : ℕ)
    (settled : Settled p.seat.core.known.primary b.seat.core.known.backup terminal disk tail held winner)
    (records : List Record) (leads : WorkerLeads state N boot p) (at : IsAt state N boot b.guest)
    (store : IsStore (bytes_in first) records disk) (contested : Bool) (rests : contested ≡ false → IsAtRest state N p)
    (repeated : (contested ≡ false) ⊎ (b.seat.core.known.backup.winner ≡ 2) → b.guest.replayed ≡ length b.guest.list.items) where
  abbrev M : Machine S
  M = booted_from N boot (bytes_in first)

  abbrev primary : PrimaryView
  primary = p.seat.core.known.primary

  abbrev backup : BackupView
  backup = b.seat.core.known.backup

  abbrev screens : List (List ℕ)
  screens = accepted_after 0 (map arrival_of terminal.arrivals0) ∷ accepted_after 0 (map arrival_of terminal.arrivals1) ∷ []

  known : Leads M boot (longer_by primary.list p.guest.waiting) p.guest.given.items primary (state p.guest.board)
  known = leads_there N boot (bytes_in first) boot (longer_by primary.list p.guest.waiting) p.guest.given.items primary
      (state p.guest.board) leads.0

  ran : b.guest.replayed ≡ length b.guest.list.items → Ran M boot backup.list (state b.guest.board)
  ran all = subst (λ l. Ran M boot l (state b.guest.board)) b.same
      (ran_there N boot (bytes_in first) boot b.guest.list.items (state b.guest.board) (ran_all state N boot b at all))

  last_at : b.guest.replayed ≡ length b.guest.list.items
      → M.count (state b.guest.board) ≡ last_count (M.count boot) backup.list
  last_at all = at.at all ∙ ap (last_count (N.count boot)) b.same

  less0 : p.port0.accepted ≤ primary.counted0
  less0 = (let a = p.accepted.0 in let b = p.saw_counted.0 in omega (arith, a, b))

  less1 : p.port1.accepted ≤ primary.counted1
  less1 = (let a = p.accepted.1 in let b = p.saw_counted.1 in omega (arith, a, b))

  seen : IsAtRest state N p → primary.seen ≡ length primary.list
  seen rest = sym p.saw ∙ rest.acknowledged ∙ ap length p.same

  -- the primary is alone
  first_alone : EndsAlone M p.port0.typed.items p.port1.typed.items primary.list screens records
  first_alone = primary_alone M lawful (Counts-booted N boot (bytes_in first) counts)
      (ComesAndGoes-booted N boot (bytes_in first) laws) primary backup terminal disk tail held winner settled
      p.guest.waiting p.guest.given.items (state p.guest.board) known p.port0.typed.items p.port1.typed.items
      p.port0.taken p.port1.taken p.port0.accepted p.port1.accepted leads.2 less0 less1 records store

  -- the backup is
  second_alone : EndsAlone M p.port0.typed.items p.port1.typed.items backup.list screens records
  second_alone = backup_alone M lawful (Counts-booted N boot (bytes_in first) counts)
      (ComesAndGoes-booted N boot (bytes_in first) laws) primary backup terminal disk tail held winner settled
      p.guest.waiting p.guest.given.items (state p.guest.board) known p.port0.typed.items p.port1.typed.items
      p.port0.taken p.port1.taken p.port0.accepted p.port1.accepted leads.2 less0 less1 records store

  second_there : b.guest.replayed ≡ length b.guest.list.items → IsWhereItLeads M backup.list (state b.guest.board)
  second_there all = backup_where M lawful (Counts-booted N boot (bytes_in first) counts)
      (ComesAndGoes-booted N boot (bytes_in first) laws) primary backup terminal disk tail held winner settled
      p.guest.waiting p.guest.given.items (state p.guest.board) known p.port0.typed.items p.port1.typed.items
      p.port0.taken p.port1.taken p.port0.accepted p.port1.accepted leads.2 less0 less1 records store
      (state b.guest.board) (ran all) (last_at all)

  first_left : Leaves M p.port0.typed.items p.port1.typed.items (longer_by primary.list p.guest.waiting) screens records
      (state p.guest.board)
  first_left = primary_leaves M lawful (Counts-booted N boot (bytes_in first) counts)
      (ComesAndGoes-booted N boot (bytes_in first) laws) primary backup terminal disk tail held winner settled
      p.guest.waiting p.guest.given.items (state p.guest.board) known p.port0.typed.items p.port1.typed.items
      p.port0.taken p.port1.taken p.port0.accepted p.port1.accepted leads.2 less0 less1 records store

  second_left : b.guest.replayed ≡ length b.guest.list.items
      → Leaves M p.port0.typed.items p.port1.typed.items backup.list screens records (state b.guest.board)
  second_left all = backup_leaves M lawful (Counts-booted N boot (bytes_in first) counts)
      (ComesAndGoes-booted N boot (bytes_in first) laws) primary backup terminal disk tail held winner settled
      p.guest.waiting p.guest.given.items (state p.guest.board) known p.port0.typed.items p.port1.typed.items
      p.port0.taken p.port1.taken p.port0.accepted p.port1.accepted leads.2 less0 less1 records store
      (state b.guest.board) (ran all) (last_at all)

  -- nobody is
  both_well : IsAtRest state N p → b.guest.replayed ≡ length b.guest.list.items
      → EndsWell M p.port0.typed.items p.port1.typed.items primary.list screens records (state p.guest.board)
      (state b.guest.board)
  both_well rest all = well M lawful (Counts-booted N boot (bytes_in first) counts)
      (ComesAndGoes-booted N boot (bytes_in first) laws) primary backup terminal disk tail held winner settled
      p.guest.waiting p.guest.given.items (state p.guest.board) known p.port0.typed.items p.port1.typed.items
      p.port0.taken p.port1.taken p.port0.accepted p.port1.accepted leads.2 less0 less1 records store
      rest.none_waits rest.none (seen rest) (rest.all0 ∙ how_long p.port0.typed) (rest.all1 ∙ how_long p.port1.typed)
      (leads.1 rest.idle) rest.no_sector (state b.guest.board) (second_there all)

  by_winner : (goes : Option Who) → goes ≡ winner_named winner → (goes ≡ None → contested ≡ false)
      → EndsBy M p.port0.typed.items p.port1.typed.items goes primary.list backup.list held screens records
      (state p.guest.board) (state b.guest.board)
  by_winner None is quiet =
      let rest = rests (quiet refl) in (
        one_list primary backup terminal disk tail held winner settled (seen rest),
        all_held primary backup terminal disk tail held winner settled (seen rest),
        both_well rest (repeated (inl (quiet refl))),
      )
  by_winner (Some who.Primary) is quiet = first_alone
  by_winner (Some who.Backup) is quiet = (
    second_alone,
    second_there (repeated (inr (backup_won primary backup terminal disk tail held winner settled (sym is)))),
  )
  by_winner (Some who.Link) is quiet = go (no_other winner who.Link (sym is))
    where
      go : (who.Link ≡ who.Primary) ⊎ (who.Link ≡ who.Backup) → ⊥
      go (inl e) = absurd cc
      go (inr e) = absurd cc
  by_winner (Some who.Terminal) is quiet = go (no_other winner who.Terminal (sym is))
    where
      go : (who.Terminal ≡ who.Primary) ⊎ (who.Terminal ≡ who.Backup) → ⊥
      go (inl e) = absurd cc
      go (inr e) = absurd cc
  by_winner (Some who.Disk) is quiet = go (no_other winner who.Disk (sym is))
    where
      go : (who.Disk ≡ who.Primary) ⊎ (who.Disk ≡ who.Backup) → ⊥
      go (inl e) = absurd cc
      go (inr e) = absurd cc

  -- what is left to whoever goes on
  left_by : (goes : Option Who) → goes ≡ winner_named winner → (goes ≡ None → contested ≡ false)
      → LeavesBy M p.port0.typed.items p.port1.typed.items goes primary.list backup.list p.guest.waiting screens records
      (state p.guest.board) (state b.guest.board)
  left_by None is quiet =
      let none : p.guest.waiting ≡ None = (rests (quiet refl)).none_waits in (
        none,
        subst (λ w. Leaves M p.port0.typed.items p.port1.typed.items (longer_by primary.list w) screens records
            (state p.guest.board)) none first_left,
      )
  left_by (Some who.Primary) is quiet = first_left
  left_by (Some who.Backup) is quiet =
      second_left (repeated (inr (backup_won primary backup terminal disk tail held winner settled (sym is))))
  left_by (Some who.Link) is quiet = nobody (no_other winner who.Link (sym is))
    where
      nobody : (who.Link ≡ who.Primary) ⊎ (who.Link ≡ who.Backup) → ⊥
      nobody (inl e) = absurd cc
      nobody (inr e) = absurd cc
  left_by (Some who.Terminal) is quiet = nobody (no_other winner who.Terminal (sym is))
    where
      nobody : (who.Terminal ≡ who.Primary) ⊎ (who.Terminal ≡ who.Backup) → ⊥
      nobody (inl e) = absurd cc
      nobody (inr e) = absurd cc
  left_by (Some who.Disk) is quiet = nobody (no_other winner who.Disk (sym is))
    where
      nobody : (who.Disk ≡ who.Primary) ⊎ (who.Disk ≡ who.Backup) → ⊥
      nobody (inl e) = absurd cc
      nobody (inr e) = absurd cc

  -- so with the lists that the workers keep
  pub ends : (goes : Option Who) → goes ≡ winner_named winner → (goes ≡ None → contested ≡ false)
      → EndsBy M p.port0.typed.items p.port1.typed.items goes p.list.items b.guest.list.items held screens records
      (state p.guest.board) (state b.guest.board)
  ends goes is quiet =
      subst (λ l. EndsBy M p.port0.typed.items p.port1.typed.items goes l b.guest.list.items held screens records
      (state p.guest.board) (state b.guest.board)) (sym p.same)
      (subst (λ l. EndsBy M p.port0.typed.items p.port1.typed.items goes primary.list l held screens records
      (state p.guest.board) (state b.guest.board)) (sym b.same) (by_winner goes is quiet))

  pub left : (goes : Option Who) → goes ≡ winner_named winner → (goes ≡ None → contested ≡ false) → (waiting : Option Entry)
      → waiting ≡ p.guest.waiting
      → LeavesBy M p.port0.typed.items p.port1.typed.items goes p.list.items b.guest.list.items waiting screens records
      (state p.guest.board) (state b.guest.board)
  left goes is quiet waiting waits =
      subst (λ w. LeavesBy M p.port0.typed.items p.port1.typed.items goes p.list.items b.guest.list.items w screens records
      (state p.guest.board) (state b.guest.board)) (sym waits)
      (subst (λ l. LeavesBy M p.port0.typed.items p.port1.typed.items goes l b.guest.list.items p.guest.waiting screens
      records (state p.guest.board) (state b.guest.board)) (sym p.same)
      (subst (λ l. LeavesBy M p.port0.typed.items p.port1.typed.items goes primary.list l p.guest.waiting screens records
      (state p.guest.board) (state b.guest.board)) (sym b.same) (left_by goes is quiet)))

-- ---- what was asked of the disk

-- a primary that asks nothing has all answers
pub all_came : {B : Type 0} (p : PrimaryWorker B) → p.asked ≡ false
    → p.seat.core.known.primary.asked ≤ length p.seat.core.known.primary.answers
all_came p none = few p.asked none p.requests
  where
    few : (asked : Bool) → asked ≡ false
        → p.seat.core.known.primary.asked ≤ length p.seat.core.known.primary.answers + cond asked 1 0
        → p.seat.core.known.primary.asked ≤ length p.seat.core.known.primary.answers
    few false is le = (let l = le in omega (arith, l))
    few true is le = absurd cc

-- ---- what the workers are taken apart into

pub settled_so : (p q : PrimaryView) (b c : BackupView) (t u : TerminalView) (d e : DiskView) (tail held winner : ℕ) → p ≡ q
    → b ≡ c → t ≡ u → d ≡ e → Settled p b t d tail held winner → Settled q c u e tail held winner
settled_so p q b c t u d e tail held winner first second third fourth settled =
    subst (λ x. Settled x c u e tail held winner) first (subst (λ x. Settled p x u e tail held winner) second
    (subst (λ x. Settled p b x e tail held winner) third (subst (λ x. Settled p b t x tail held winner) fourth settled)))

pub ends_so : {S : Type 0} (M : Machine S) (typed0 typed1 known0 known1 : List ℕ) (goes : Option Who) (held : ℕ)
    (list all copy held_copy : List Entry) (screens shown : List (List ℕ)) (records kept : List Record) (s s' t t' : S)
    → known0 ≡ typed0 → known1 ≡ typed1 → all ≡ list → held_copy ≡ copy → shown ≡ screens → kept ≡ records → s' ≡ s → t' ≡ t
    → EndsBy M known0 known1 goes list copy held screens records s t
    → EndsBy M typed0 typed1 goes all held_copy held shown kept s' t'
ends_so M typed0 typed1 known0 known1 goes held list all copy held_copy screens shown records kept s s' t t' k0 k1 l c n k is
    there ends =
    subst (λ x. EndsBy M x typed1 goes all held_copy held shown kept s' t') k0
    (subst (λ x. EndsBy M known0 x goes all held_copy held shown kept s' t') k1
    (subst (λ x. EndsBy M known0 known1 goes x held_copy held shown kept s' t') (sym l)
    (subst (λ x. EndsBy M known0 known1 goes list x held shown kept s' t') (sym c)
    (subst (λ x. EndsBy M known0 known1 goes list copy held x kept s' t') (sym n)
    (subst (λ x. EndsBy M known0 known1 goes list copy held screens x s' t') (sym k)
    (subst (λ x. EndsBy M known0 known1 goes list copy held screens records x t') (sym is)
    (subst (λ x. EndsBy M known0 known1 goes list copy held screens records s x) (sym there) ends)))))))

-- ---- results

-- what holds of a result that came holds where it came
pub came : {T E : Type 0} (r : Result T E) {P : Type 0} → IsOk r → OnOk r P → P
came (Ok x) ok holds = holds
came (Err e) ok holds = absurd (false≢true ok)
