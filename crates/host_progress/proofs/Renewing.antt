-- A live host is offered the host of the next generation's number, begins the generation, and sends all parts of its image.
use Rattle.std.proofs.Common.{◌≡◌, ℕ, suc, ◌+◌, ◌*◌, ◌<◌, inl, inr, Some, [], ◌∷◌, refl, sym, ap, ◌∙◌, arith}
use Rattle.std.specs.Prelude.{slice_get, slice_set, nat_le}
use Rattle.std.proofs.lemmas.Option.{slice_get_within}
use Rattle.i8080_words.specs.declared.refusal.Fault.TheVariants.{Spent}
use Rattle.pair_protocol.proofs.Words.{Alone, Copying, IsCopying, Lawful, Machine, Node, Spare, World, begun}
use Rattle.pair_protocol.specs.Refusals.{begin_pair_refusal, fault_if, first_of, last_generation, role_refusal}
use Rattle.pair_protocol.proofs.Traces.Lists.{get_set, get_set_other, same_some}
use Rattle.pair_progress.specs.Always.{AsksParts}
use Rattle.pair_progress.specs.CatchingUp.{IsPair}
use Rattle.pair_progress.specs.Takeover.{IsLive}
use Rattle.pair_progress.proofs.Completing.{not_up_to}
use Rattle.pair_progress.proofs.Passing.{acts_first, in_role, passed}
use Rattle.pair_progress.proofs.Renewing.{none_yet}
use Rattle.pair_progress.proofs.Slots.{all_missing}
use Rattle.host_law.specs.Host.{Passes, recruit}
use Rattle.host_law.specs.Host as host
use Rattle.host_law.specs.Outside as outside
use Rattle.host_law.proofs.Words.{Fleet, MayBegin, Recruits, Shows}
use Rattle.host_progress.specs.Exchanges.{HostsReach}
use Rattle.host_progress.specs.Laws.{Either}
use Rattle.host_progress.proofs.Answering.{in_four}
use Rattle.host_progress.proofs.Exchanging.{at_most}
use Rattle.host_progress.proofs.Fetching.{passes_at}
use Rattle.host_progress.proofs.Joining.{fills}
use Rattle.host_progress.proofs.Showing.{alone_joins, alone_real, host_there}

pub hosts_renew : {S : Type 0} (M : Machine S) (C : Copying S) → Lawful M → IsCopying M C → AsksParts M C → (f : Fleet S)
    (w : World S) → Shows M C f w → (n generation : ℕ) → IsLive w n generation → generation < last_generation → (y : Node S) →
    slice_get f.hosts (suc generation) ≡ Some y → y.role ≡ Spare →
    HostsReach M C f (Either n (suc generation)) (3 * C.part_count + 4) (λ new. IsPair new n (suc generation) (suc generation))
hosts_renew {S} M C laws copies asks f w h n generation live left y there_y spare = renewed
  where
    there : slice_get f.hosts n ≡ Some live.x
    there = host_there M C f w h n live.x live.there (alone_joins live.x live.alone)

    apart : suc generation ≡ n → ⊥
    apart e =
        let k : live.x ≡ y = same_some live.x y (slice_get f.hosts n) there (ap (slice_get f.hosts) (sym e) ∙ there_y) in
        alone_real live.x live.alone (ap (λ (z : Node S). z.role) k ∙ spare)

    may_begin : Passes live.x begin_pair_refusal
    may_begin = passes_at live.x Alone begin_pair_refusal live.alone refl
        (passed (role_refusal (Alone ∷ []) live.x) (fault_if (nat_le last_generation live.x.generation) Spent ∷ [])
        (in_role live.x (Alone ∷ []) (acts_first live.x Alone [] live.up live.alone refl))
        (ap (λ b. first_of (fault_if b Spent ∷ []))
        (not_up_to last_generation live.x.generation (let e = live.generation_is in omega (arith, e, left)))))

    low : suc live.x.generation < f.outside.hosts
    low = let a = slice_get_within f.hosts (suc generation) y there_y in let b = h.hosts in let e = live.generation_is in
        omega (arith, a, b, e)

    there_new : slice_get f.hosts (suc live.x.generation) ≡ Some y
    there_new = ap (λ k. slice_get f.hosts (suc k)) live.generation_is ∙ there_y

    renewed : HostsReach M C f (Either n (suc generation)) (3 * C.part_count + 4)
        (λ new. IsPair new n (suc generation) (suc generation))
    renewed =
        let k = all_missing C.part_count in
        at_most M C (Either n (suc generation)) (λ new. IsPair new n (suc generation) (suc generation)) f
        (suc (suc (suc (suc (3 * C.part_count))))) (3 * C.part_count + 4) (omega arith)
        (in_four M C laws copies (Either n (suc generation)) (λ new. IsPair new n (suc generation) (suc generation)) f w h n
        live.x there (inl refl) (3 * C.part_count) (MayBegin (suc live.x.generation))
        (outside.Offers (suc live.x.generation) low)
        (Recruits (suc live.x.generation) (M.count live.x.machine) live.x.reads live.x.list) (begun M live.x)
        (host.BeginsPair may_begin) (suc live.x.generation) y (recruit M C (suc live.x.generation) (M.count live.x.machine) live.x.reads live.x.list)
        (get_set_other f.hosts n (suc live.x.generation) (begun M live.x)
        (λ e. apart (ap (λ k. suc k) (sym live.generation_is) ∙ e)) ∙ there_new)
        (inr (ap (λ k. suc k) live.generation_is))
        (host.Joins (M.count live.x.machine) live.x.reads live.x.list spare)
        (λ l v shown hosts o. fills M C laws copies asks.0 n (suc generation) (suc generation) (Either n (suc generation))
        (inl refl) (inr refl) C.part_count l v shown (begun M live.x) (recruit M C (suc live.x.generation) (M.count live.x.machine) live.x.reads live.x.list)
        (record {
          primary = ap (λ xs. slice_get xs n) hosts
              ∙ get_set_other (slice_set f.hosts n (begun M live.x)) (suc live.x.generation) n (recruit M C (suc live.x.generation) (M.count live.x.machine) live.x.reads live.x.list)
              (λ e. apart (ap (λ k. suc k) (sym live.generation_is) ∙ sym e))
              ∙ get_set f.hosts n live.x (begun M live.x) there;
          joining = ap (λ xs. slice_get xs (suc generation)) hosts
              ∙ ap (λ k. slice_get (slice_set (slice_set f.hosts n (begun M live.x)) (suc live.x.generation) (recruit M C (suc live.x.generation) (M.count live.x.machine) live.x.reads live.x.list)) (suc k))
              (sym live.generation_is)
              ∙ get_set (slice_set f.hosts n (begun M live.x)) (suc live.x.generation) y (recruit M C (suc live.x.generation) (M.count live.x.machine) live.x.reads live.x.list)
              (get_set_other f.hosts n (suc live.x.generation) (begun M live.x)
              (λ e. apart (ap (λ k. suc k) (sym live.generation_is) ∙ e)) ∙ there_new);
          primary_up = refl;
          joining_up = refl;
          primary_role = refl;
          joining_role = refl;
          primary_generation = ap (λ k. suc k) live.generation_is;
          joining_generation = ap (λ k. suc k) live.generation_is;
          lacks_some = none_yet C.part_count asks.1;
        }) k))
