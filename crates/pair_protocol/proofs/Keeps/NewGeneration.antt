-- A new generation keeps the invariant.
use Rattle.std.proofs.Common.{[], ◌++◌, ◌+◌, ◌<◌, ◌∙◌, ◌≡◌, ◌⊎◌, List, None, Some, ap, append-nil, arith, inl, inr, refl, subst, suc, sym, zero, ℕ}
use Rattle.std.proofs.lemmas.List.{length-replicate}
use Rattle.std.specs.Prelude.{replicate, slice_get, slice_set}
use Rattle.pair_protocol.proofs.Words.{Acts, Alone, Copying, IsCopying, IsPrefix, Joining, Machine, Node, Owns, Spare, World, begun, inputs, joiner, steps, with_pair}
use Rattle.pair_protocol.proofs.Invariant.Acting.{Acting, BackupActs, BackupAtTop, BackupEarlier, PrimaryActs, PrimaryAtTop, PrimaryEarlier, acting}
use Rattle.pair_protocol.proofs.Invariant.Frames.{backup-no_spare, backup-there, line-framed, line-over, primary-no_spare, primary-there, same_nodes-set, same_nodes-trans}
use Rattle.pair_protocol.proofs.Invariant.{AsJoining, AtTop, BackupLeft, CameIn, Gone, Inv, Line, LineOf, Next, Presence, PrimaryLeft, Undecided, Unseen, Unused, settled}
use Rattle.pair_protocol.proofs.Keeps.Alone.{AloneAt, alone_at, backup-alone}
use Rattle.pair_protocol.proofs.Traces.Lists.{get_set, get_set_cases, get_set_other, prefix-refl, prefix-same, same_or_not, same_some}

no_slot : (n i : ℕ) (p : List ℕ) → slice_get (replicate n None) i ≡ Some (Some p) → ⊥
no_slot zero i p h = (cc)
no_slot (suc n) zero p h = (let e : None ≡ Some p = same_some None (Some p) (Some None) refl h in (cc))
no_slot (suc n) (suc i) p h = no_slot n i p h

pub keep-begins : {S : Type 0} (M : Machine S) (C : Copying S) (copies : IsCopying M C) (w : World S) (i : Inv M C w)
    (n h : ℕ) (x y : Node S) → Acts w n x Alone → slice_get w.nodes h ≡ Some y → y.role ≡ Spare →
    Next M C i.trace (with_pair M C w n h x)
keep-begins {S} M C copies w i n h x y acts there spare_is = record {
  inv = record {
    top = suc x.generation;
    trace = i.trace;
    each = each;
    global = i.global;
    spares = λ m z t s. elim (get_set_cases (slice_set w.nodes n bx) h m jx z t) [
      | inl q ↦ (let r = ap (λ (v : Node S). v.role) q.1 in absurd (cc))
      | inr q ↦ elim (get_set_cases w.nodes n m bx z q) [
        | inl r ↦ (let v = ap (λ (v : Node S). v.role) r.1 in
            absurd (cc))
        | inr r ↦ i.spares m z r s
      ]
    ];
    earlier = λ g lt. subst (λ zs. IsPrefix (settled (each g).line) zs)
        (sym (based (same_or_not (suc x.generation) (suc x.generation)))) (each g).below;
  };
  grows = prefix-refl i.trace;
}
  where
    nx : x.role ≡ Spare → ⊥
    nx k = let r = acts.role_is in (cc)

    act : Acting M C w i n x
    act = acting M C w i n x acts.there nx

    a : AloneAt M C w i x
    a = alone_at M C w i n x acts.role_is act

    bx : Node S
    bx = begun M x

    jx : Node S
    jx = joiner M C x

    nodes : List (Node S)
    nodes = slice_set (slice_set w.nodes n bx) h jx

    new : World S
    new = record { nodes = nodes; messages = w.messages; terminals = w.terminals; winners = w.winners; puts = w.puts }

    apart : h ≡ n → ⊥
    apart e = nx (ap (λ (v : Node S). v.role)
        (same_some x y (slice_get w.nodes n) acts.there (subst (λ j. slice_get w.nodes j ≡ Some y) e there))
        ∙ spare_is)

    there1 : slice_get (slice_set w.nodes n bx) h ≡ Some y
    there1 = get_set_other w.nodes n h bx apart ∙ there

    at_n : slice_get nodes n ≡ Some bx
    at_n = get_set_other (slice_set w.nodes n bx) h n jx (λ e. apart (sym e)) ∙ get_set w.nodes n x bx acts.there

    at_h : slice_get nodes h ≡ Some jx
    at_h = get_set (slice_set w.nodes n bx) h y jx there1

    -- a node with a role, in another place, stays
    stays : (m : ℕ) (z : Node S) → slice_get w.nodes m ≡ Some z → (z.role ≡ Spare → ⊥) → (m ≡ n → ⊥) →
        slice_get nodes m ≡ Some z
    stays m z t nz mn =
        let mh : m ≡ h → ⊥ = λ e. nz (ap (λ (v : Node S). v.role)
        (same_some z y (slice_get w.nodes m) t (subst (λ j. slice_get w.nodes j ≡ Some y) (sym e) there))
        ∙ spare_is) in
        get_set_other (slice_set w.nodes n bx) h m jx mh ∙ get_set_other w.nodes n m bx mn ∙ t

    next : suc x.generation ≡ x.generation → ⊥
    next e = omega arith

    -- the nodes of the new world
    cases : (m : ℕ) (z : Node S) → slice_get nodes m ≡ Some z →
        ((m ≡ h) × (z ≡ jx)) ⊎ ((m ≡ n) × (z ≡ bx)) ⊎ (slice_get w.nodes m ≡ Some z)
    cases m z t = elim (get_set_cases (slice_set w.nodes n bx) h m jx z t) [
      | inl q ↦ inl q
      | inr q ↦ inr (get_set_cases w.nodes n m bx z q)
    ]

    old_members : (m : ℕ) (z : Node S) → slice_get nodes m ≡ Some z → z.generation ≡ x.generation →
        slice_get w.nodes m ≡ Some z
    old_members m z t e = elim (cases m z t) [
      | inl q ↦ absurd (next (ap (λ (v : Node S). v.generation) (sym q.1) ∙ e))
      | inr (inl q) ↦ absurd (next (ap (λ (v : Node S). v.generation) (sym q.1) ∙ e))
      | inr (inr q) ↦ q
    ]

    gone : (m : ℕ) → n ≡ m → Gone nodes x.generation m
    gone m e z t s g = next (ap (λ (v : Node S). v.generation)
        (same_some bx z (slice_get nodes m) (subst (λ j. slice_get nodes j ≡ Some bx) e at_n) t) ∙ g)

    below : x.generation < suc x.generation
    below = omega arith

    -- the generation that ends
    old_line : LineOf M C new (suc x.generation) i.trace x.generation
    old_line = record {
      line = o.line;
      sound = o.sound;
      presence = presence act;
      members = λ m z t s e. o.members m z (old_members m z t e) s e;
      tied = o.tied;
      says = o.says;
      came = o.came;
      owns = o.owns;
      below = o.below;
      reads = record {
        heard = λ a b t u ga gb role ns.
            o.reads.heard a b (old_members o.line.primary a t ga) (old_members o.line.backup b u gb) ga gb role ns;
        told = λ j r b m u gb ns. o.reads.told j r b m (old_members o.line.backup b u gb) gb ns;
        waits = λ t. absurd (omega (arith, t));
      };
    }
      where
        o : LineOf M C w i.top i.trace x.generation
        o = i.each x.generation

        presence : Acting M C w i n x →
            Presence M C nodes w.messages w.winners (suc x.generation) i.trace x.generation o.line
        presence (PrimaryActs q (PrimaryEarlier g s b)) =
            absurd (elim q.is_primary.role [ inl r ↦ (let k = acts.role_is in (cc)) | inr r ↦ (let k = r.1 in (cc)) ])
        presence (PrimaryActs q (PrimaryAtTop g s b)) =
            PrimaryLeft below (elim q.is_primary.role [ inl r ↦ (let k = acts.role_is in absurd (cc)) | inr r ↦ r.1 ])
            (gone o.line.primary q.spot)
            (backup-there M C w.nodes nodes x.generation o.line o.line b (stays o.line.backup b.b b.there
            (backup-no_spare M C o.line b.b b.is_backup.state) (λ k. o.sound.apart (sym q.spot ∙ sym k))) b.held
            b.is_backup)
        presence (BackupActs q (BackupEarlier g s l)) =
            (let won = (backup-alone M C o.line x q.is_backup.state acts.role_is).won in absurd (cc))
        presence (BackupActs q (BackupAtTop g s l)) =
            BackupLeft below (backup-alone M C o.line x q.is_backup.state acts.role_is).won (gone o.line.backup q.spot)
            (primary-there M C w.nodes nodes x.generation o.line o.line l (stays o.line.primary l.a l.there
            (primary-no_spare M o.line l.a l.is_primary) (λ k. o.sound.apart (k ∙ q.spot))) l.is_primary)

    -- the generation that begins
    unknown : Unseen w.nodes w.messages w.winners (suc x.generation)
    unknown = go (i.each (suc x.generation)).presence
      where
        go : Presence M C w.nodes w.messages w.winners i.top i.trace (suc x.generation)
            (i.each (suc x.generation)).line → Unseen w.nodes w.messages w.winners (suc x.generation)
        go (Unused g u) = u
        go (AtTop g s l b) = absurd (let k = a.at_top in omega arith)
        go (PrimaryLeft g s l b) = absurd (let k = a.at_top in omega arith)
        go (BackupLeft g s b l) = absurd (let k = a.at_top in omega arith)

    same_trace : i.trace ++ [] ≡ i.trace
    same_trace = append-nil i.trace

    new_line : LineOf M C new (suc x.generation) i.trace (suc x.generation)
    new_line = record {
      line = record {
        reads = x.reads;
        base = i.trace;
        own = [];
        more = [];
        mid = x.machine;
        stage = Undecided;
        primary = n;
        backup = h;
        held = [];
      };
      presence = AtTop refl same_trace
          (record {
            a = bx;
            there = at_n;
            generation = refl;
            is_primary = record {
              role = inl refl;
              reads = refl;
              made = record {
                runs = refl;
                count = a.count ∙ (let z : steps i.trace ≡ steps i.trace + 0 = omega arith in z);
                list = a.list ∙ ap (inputs 0) (sym same_trace);
              };
              copy = a.list;
              covered = omega arith;
              image = λ s e. same_some s x.machine (Some x.machine) e refl;
              logged = λ k. record { log = refl; notes = λ v m. absurd m };
            };
          })
          (record {
            b = jx;
            there = at_h;
            generation = refl;
            held = refl;
            is_backup = record {
              state = AsJoining refl (λ k. (cc))
                  (record {
                    empty = refl;
                    none = refl;
                    long = length-replicate C.part_count None
                        ∙ sym (copies.counted i.trace x.machine a.runs);
                    each = λ j p k. absurd (no_slot C.part_count j p k);
                  });
              log = record { copy = a.list; start = a.count; held = ([], refl) };
            };
          });
      sound = record { based = a.runs; recorded = (x.machine, refl); apart = λ e. apart (sym e); held = ([], refl) };
      tied = unknown.no_winner;
      members = λ m z t s e. elim (cases m z t) [
        | inl q ↦ inr q.0
        | inr (inl q) ↦ inl q.0
        | inr (inr q) ↦ absurd (unknown.nobody m z q s e)
      ];
      says = record {
        logs = λ j e k. absurd (unknown.no_log j e k);
        acks = λ j r k. absurd (unknown.no_ack j r k);
        parts = λ j p k. absurd (unknown.no_part j p k);
      };
      came = subst (λ zs. CameIn w.terminals w.puts (inputs 0 zs)) (sym same_trace) i.global.came;
      owns = λ h. subst (λ zs. Owns M [] M.boot zs) (sym same_trace) i.global.owns;
      below = prefix-same (i.trace ++ []) i.trace same_trace;
      reads = record {
        heard = λ q b t u ga gb role ns.
            (let z : 0 ≡ q.reported = ap (λ (v : Node S). v.reported) (same_some bx q (slice_get nodes n) at_n t) in
            omega (arith, z));
        told = λ j r b m u gb ns. absurd (unknown.no_ack j r m);
        waits = λ t s b u gb role v m.
            absurd (let z : Joining ≡ b.role = ap (λ (v : Node S). v.role)
            (same_some jx b (slice_get nodes h) at_h u) in
            elim role [ inl q ↦ (cc) | inr q ↦ (cc) ]);
      };
    }

    other : (k : ℕ) → (k ≡ suc x.generation → ⊥) → (k ≡ x.generation → ⊥) →
        LineOf M C new (suc x.generation) i.trace k
    other k d c =
        line-framed M C w i.top (suc x.generation) k i.trace i.trace nodes w.terminals w.winners w.puts
        (same_nodes-trans w.nodes (slice_set w.nodes n bx) nodes k
        (same_nodes-set w.nodes n k x bx acts.there (λ e. absurd (c (sym e))) (λ e. d (sym e)))
        (same_nodes-set (slice_set w.nodes n bx) h k y jx there1 (λ e. spare_is) (λ e. d (sym e))))
        (λ ts came. came) refl (prefix-refl i.trace) (let q = a.at_top in omega (arith, q))
        (λ e. absurd (c (e ∙ sym a.at_top))) (λ e. absurd (d e)) (i.each k)

    pick : (k : ℕ) → (k ≡ suc x.generation) ⊎ (k ≡ suc x.generation → ⊥) →
        LineOf M C new (suc x.generation) i.trace k
    pick k (inl e) = subst (λ j. LineOf M C new (suc x.generation) i.trace j) (sym e) new_line
    pick k (inr d) = elim (same_or_not k x.generation) [
      | inl e ↦ subst (λ j. LineOf M C new (suc x.generation) i.trace j) (sym e) old_line
      | inr c ↦ other k d c
    ]

    each : (k : ℕ) → LineOf M C new (suc x.generation) i.trace k
    each k = pick k (same_or_not k (suc x.generation))

    -- the new generation begins with all that is settled
    based : (s : (suc x.generation ≡ suc x.generation) ⊎ (suc x.generation ≡ suc x.generation → ⊥)) →
        (pick (suc x.generation) s).line.base ≡ i.trace
    based (inl e) = ap (λ (l : Line S). l.base)
        (line-over M C new (suc x.generation) i.trace (suc x.generation) (suc x.generation) (sym e) new_line)
    based (inr d) = absurd (d refl)
