-- A node that replays what it holds makes the primary's moves.
use Rattle.std.proofs.Common.{[], ◌++◌, ◌+◌, ◌<◌, ◌∙◌, ◌∷◌, ◌≡◌, ◌≤◌, List, None, Option, Some, ap, append-nil, append_assoc, arith, drop, inl, inr, length, length-append, length-take-le, refl, subst, suc, sym, take, take-append-drop, ℕ}
use Rattle.std.proofs.lemmas.List.{append_cancel_left, take-append-le, take_at}
use Rattle.std.proofs.lemmas.Option.{slice_get_within}
use Rattle.std.specs.Prelude.{slice_get}
use Rattle.pair_protocol.proofs.Words.{Do, Entry, Input, bare, bare_of, IsPrefix, Machine, Mark, Move, Node, Operation, Recorded, Take, Timed, count_of, cut, entries, entry_of, holds, input_of, inputs, inputs_of, passes_input, passes_mark, plainly_steps, steps, Reads}
use Rattle.guest_lockstep.specs.declared.timed.Bare.{Bare}
use Rattle.guest_lockstep.specs.declared.timed.Bare.TheVariants as kind
use Rattle.log_entry.specs.declared.entry.Entry.TheVariants as entry
use Rattle.log_entry.proofs.TraceEntries.{same_first}
use Rattle.pair_protocol.proofs.Invariant.Frames.{with_backup}
use Rattle.pair_protocol.proofs.Invariant.{AtPlace, HasReplayed, Line}
use Rattle.pair_protocol.proofs.Keeps.PrimaryLog.{steps-do, steps-take}
use Rattle.pair_protocol.proofs.Traces.Cuts.{cut-ends, cut-more, cut-prefix, entries-cut}
use Rattle.pair_protocol.proofs.Traces.Lists.{drop-at, prefix-trans, same_some, take-at}
use Rattle.pair_protocol.proofs.Traces.Moves.{count_entry, entries-append, input_entry, inputs-append, inputs_of-entries, runs-append, steps-append, unmarked}
use Rattle.pair_protocol.proofs.Traces.Recorded.{recorded-prefix, recorded-rest}

-- what follows the replayed entries are those that are not replayed, and begins with the next one
pub unreplayed : {A : Type 0} (held lag rest : List A) (k : ℕ) → (take k held ++ lag) ++ rest ≡ held →
    lag ++ rest ≡ drop k held
unreplayed held lag rest k h =
    append_cancel_left (take k held) (lag ++ rest) (drop k held) (sym (append_assoc (take k held) lag rest) ∙ h
    ∙ sym (take-append-drop k held))

behind : {A : Type 0} (held lag rest : List A) (k : ℕ) (e : A) → (take k held ++ lag) ++ rest ≡ held →
    slice_get held k ≡ Some e → lag ++ rest ≡ e ∷ drop (suc k) held
behind held lag rest k e h g = unreplayed held lag rest k h ∙ drop-at held k e g

pub entries-held : (reads : Reads) (c : ℕ) (own : List Move) (held : List Entry) → IsPrefix held (entries reads c own) →
    entries reads c (cut (length held) own) ≡ held
entries-held reads c own held p = entries-cut reads (length held) c own ∙ ap (take (length held)) (sym p.1)
    ∙ take_at held p.0 (length held) refl

-- the entries of moves that begin at a count are at that count or later
entries-later : (reads : Reads) (c : ℕ) (ms : List Move) (e : Entry) (es : List Entry) → entries reads c ms ≡ e ∷ es → c ≤ count_of e
entries-later reads c [] e es h = (cc)
entries-later reads c (Do None ∷ ms) e es h = let k = entries-later reads (suc c) ms e es h in omega arith
entries-later reads c (Do (Some o) ∷ ms) e es h = let k : suc c ≡ count_of e =
    ap count_of (same_first (Mark (suc c)) e (entries reads (suc c) ms) es h) in omega arith
entries-later reads c (Take i ∷ ms) e es h = let k : c ≡ count_of e = sym (count_entry reads c i)
    ∙ ap count_of (same_first (entry_of reads c i) e (entries reads c ms) es h) in omega arith

next_do : (reads : Reads) (c : ℕ) (rest : List Move) (e : Entry) (es : List Entry) → entries reads c rest ≡ e ∷ es → c < count_of e →
    (o : Option Operation) × (r : List Move) × (rest ≡ Do o ∷ r)
next_do reads c [] e es h l = (cc)
next_do reads c (Do o ∷ r) e es h l = (o, r, refl)
next_do reads c (Take i ∷ r) e es h l = let k : c ≡ count_of e = sym (count_entry reads c i)
    ∙ ap count_of (same_first (entry_of reads c i) e (entries reads c r) es h) in absurd (omega arith)

no_mark : (reads : Reads) (c : ℕ) (rest : List Move) (e : Entry) (es : List Entry) → entries reads c rest ≡ e ∷ es →
    c ≡ count_of e → bare_of e ≡ None → ⊥
no_mark reads c [] e es h l m = (cc)
no_mark reads c (Do None ∷ r) e es h l m = let k = entries-later reads (suc c) r e es h in omega arith
no_mark reads c (Do (Some o) ∷ r) e es h l m = let k : suc c ≡ count_of e =
    ap count_of (same_first (Mark (suc c)) e (entries reads (suc c) r) es h) in omega arith
no_mark reads c (Take i ∷ r) e es h l m = let k : Some (bare i) ≡ bare_of e = sym (unmarked reads c i)
    ∙ ap bare_of (same_first (entry_of reads c i) e (entries reads c r) es h) in (cc)

-- an entry that is no mark is the next input's
next_input : (reads : Reads) (c : ℕ) (rest : List Move) (e : Entry) (es : List Entry) (b : Bare) →
    entries reads c rest ≡ e ∷ es → c ≡ count_of e → bare_of e ≡ Some b →
    (i : Input) × (r : List Move) × (rest ≡ Take i ∷ r) × (entry_of reads c i ≡ e)
next_input reads c [] e es b h l m = (cc)
next_input reads c (Do None ∷ r) e es b h l m =
    let k = entries-later reads (suc c) r e es h in absurd (omega arith)
next_input reads c (Do (Some o) ∷ r) e es b h l m = let k : suc c ≡ count_of e =
    ap count_of (same_first (Mark (suc c)) e (entries reads (suc c) r) es h) in absurd (omega arith)
next_input reads c (Take i ∷ r) e es b h l m = (i, r, refl, same_first (entry_of reads c i) e (entries reads c r) es h)

-- an entry that carries an input is no mark
carries : (e : Entry) (i : Input) → input_of e ≡ Some i → (b : Bare) × (bare_of e ≡ Some b)
carries (Mark c) i h = (cc)
carries (entry.Rx c port byte) i h = (kind.Rx port byte, refl)
carries (entry.Sent c port) i h = (kind.Sent port, refl)
carries (entry.Sector c d s n bytes) i h = (kind.Sector d s, refl)
carries (entry.Written c n) i h = (kind.Written n, refl)
carries (entry.Read c d s n) i h = (cc)

-- the entry of a mark that is not replayed yet
pub lag-is : (reads : Reads) (c : ℕ) (short ms : List Move) (o : Operation) → ms ≡ short ++ Do (Some o) ∷ [] →
    entries reads c ms ≡ entries reads c short ++ Mark (c + steps ms) ∷ []
lag-is reads c short ms o h =
    let s = steps-append short (Do (Some o) ∷ []) in
    let k = ap steps h in
    let e : suc (c + steps short) ≡ c + steps ms = omega arith in
    ap (entries reads c) h ∙ entries-append reads c short (Do (Some o) ∷ []) ∙ ap (λ j. entries reads c short ++ Mark j ∷ []) e

-- What is still to come, and that the moves to come lead on from here.
pub record Ahead {S : Type 0} (M : Machine S) (l : Line S) (b : Node S) (f : List Move) : Type 0 where
  pub rest : List Move
  pub whole : f ++ rest ≡ cut (length b.held) l.own
  pub final : S
  pub runs : Recorded M b.machine rest final
  pub entries_are : entries l.reads (steps l.base) f ++ entries l.reads (M.count b.machine) rest ≡ b.held

module _ {S : Type 0} (M : Machine S) (l : Line S) (last : S) (b : Node S)
    (p : IsPrefix b.held (entries l.reads (steps l.base) l.own))
    (r : Recorded M l.mid l.own last) where
  pub ahead : (f : HasReplayed M l b) → Ahead M l b f.ms
  ahead f =
      let x = cut (length b.held) l.own in
      let u = recorded-prefix M l.mid last x l.own (cut-prefix (length b.held) l.own) r in
      record {
        rest = f.within.0;
        whole = f.within.1;
        final = u.0;
        runs = recorded-rest M l.mid b.machine u.0 f.ms f.within.0 f.runs
            (subst (λ zs. Recorded M l.mid zs u.0) (sym f.within.1) u.1);
        entries_are =
            ap (λ c. entries l.reads (steps l.base) f.ms ++ entries l.reads c f.within.0) f.count
            ∙ sym (entries-append l.reads (steps l.base) f.ms f.within.0)
            ∙ ap (entries l.reads (steps l.base)) f.within.1
            ∙ entries-held l.reads (steps l.base) l.own b.held p;
      }

  -- what comes next begins with the next entry that is held
  next : (f : HasReplayed M l b) (e : Entry) → slice_get b.held b.replayed ≡ Some e →
      entries l.reads (steps l.base) f.ms ≡ take b.replayed b.held →
      entries l.reads (M.count b.machine) (ahead f).rest ≡ e ∷ drop (suc b.replayed) b.held
  next f e g q =
      let n = entries l.reads (M.count b.machine) (ahead f).rest in
      behind b.held [] n b.replayed e
      (ap (λ zs. zs ++ n) (append-nil (take b.replayed b.held) ∙ sym q) ∙ (ahead f).entries_are) g

  -- if a mark is not replayed yet, it is that entry
  lagging : (f : HasReplayed M l b) (e : Entry) → slice_get b.held b.replayed ≡ Some e →
      entries l.reads (steps l.base) f.ms ≡ take b.replayed b.held ++ Mark (steps l.base + steps f.ms) ∷ [] →
      Mark (steps l.base + steps f.ms) ≡ e
  lagging f e g k =
      let n = entries l.reads (M.count b.machine) (ahead f).rest in
      let m : Entry = Mark (steps l.base + steps f.ms) in
      same_first m e n (drop (suc b.replayed) b.held)
      (behind b.held (m ∷ []) n b.replayed e (ap (λ zs. zs ++ n) (sym k) ∙ (ahead f).entries_are) g)

  pub replayed-step : (e : Entry) (s : S) (o : Option Operation) → slice_get b.held b.replayed ≡ Some e →
      M.count b.machine < count_of e → M.step b.machine ≡ Some (s, o) → M.count s ≡ suc (M.count b.machine) →
      HasReplayed M l b → HasReplayed M l (plainly_steps b s)
  replayed-step e s o g less h counted f = by_place f.place
    where
      placed : (o : Option Operation) → entries l.reads (steps l.base) f.ms ≡ take b.replayed b.held →
          AtPlace l.reads (steps l.base) (f.ms ++ Do o ∷ []) b.held b.replayed
      placed None q = inl (entries-append l.reads (steps l.base) f.ms (Do None ∷ [])
          ∙ append-nil (entries l.reads (steps l.base) f.ms) ∙ q)
      placed (Some v) q = inr (f.ms, v, refl, q, slice_get_within b.held b.replayed e g)

      by_place : AtPlace l.reads (steps l.base) f.ms b.held b.replayed → HasReplayed M l (plainly_steps b s)
      by_place (inl q) =
          let a = ahead f in
          let n = next_do l.reads (M.count b.machine) a.rest e (drop (suc b.replayed) b.held) (next f e g q) less in
          let u = subst (λ zs. Recorded M b.machine zs a.final) n.2 a.runs in
          let same : ◌≡◌ {A = S × Option Operation} (s, o) (u.0, n.0) =
          same_some (s, o) (u.0, n.0) (M.step b.machine) h u.1 in
          let os : o ≡ n.0 = ap (λ (v : S × Option Operation). v.1) same in
          record {
            ms = f.ms ++ Do o ∷ [];
            runs = runs-append M l.mid b.machine s f.ms (Do o ∷ []) f.runs (s, h, refl);
            count = counted ∙ steps-do l.base f.ms o (M.count b.machine) f.count;
            within = (
              n.1,
              append_assoc f.ms (Do o ∷ []) n.1 ∙ ap (λ v. f.ms ++ Do v ∷ n.1) os
                  ∙ ap (λ zs. f.ms ++ zs) (sym n.2) ∙ a.whole,
            );
            few = f.few;
            place = placed o q;
          }
      by_place (inr q) =
          let c = ap count_of (lagging f e g (lag-is l.reads (steps l.base) q.0 f.ms q.1 q.2
          ∙ ap (λ zs. zs ++ Mark (steps l.base + steps f.ms) ∷ []) q.3)) in
          let d = f.count in
          absurd (omega (arith, c, d, less))

  pub replayed-mark : (e : Entry) → slice_get b.held b.replayed ≡ Some e → M.count b.machine ≡ count_of e →
      bare_of e ≡ None → HasReplayed M l b → HasReplayed M l (passes_mark b)
  replayed-mark e g at w f = by_place f.place
    where
      by_place : AtPlace l.reads (steps l.base) f.ms b.held b.replayed → HasReplayed M l (passes_mark b)
      by_place (inl q) =
          absurd (no_mark l.reads (M.count b.machine) (ahead f).rest e (drop (suc b.replayed) b.held) (next f e g q) at w)
      by_place (inr q) =
          let k = lag-is l.reads (steps l.base) q.0 f.ms q.1 q.2 ∙ ap (λ zs. zs ++ Mark (steps l.base + steps f.ms) ∷ []) q.3 in
          let t = slice_get_within b.held b.replayed e g in
          record {
            ms = f.ms;
            runs = f.runs;
            count = f.count;
            within = f.within;
            few = omega arith;
            place = inl (k ∙ ap (λ (z : Entry). take b.replayed b.held ++ z ∷ []) (lagging f e g k)
                ∙ sym (take-at b.held b.replayed e g));
          }

  -- the primary's input at the next entry
  pub record NextInput (f : HasReplayed M l b) (e : Entry) (i : Input) : Type 0 where
    pub rest : List Move
    pub to_come : (ahead f).rest ≡ Take i ∷ rest
    pub entry_is : entry_of l.reads (M.count b.machine) i ≡ e
    pub at_place : entries l.reads (steps l.base) f.ms ≡ take b.replayed b.held

  -- an entry that is no mark is not behind one that is still to be replayed
  pub next-input : (e : Entry) (k : Bare) → slice_get b.held b.replayed ≡ Some e → M.count b.machine ≡ count_of e →
      bare_of e ≡ Some k → (f : HasReplayed M l b) → (i : Input) × NextInput f e i
  next-input e k g at w f = by_place f.place
    where
      by_place : AtPlace l.reads (steps l.base) f.ms b.held b.replayed → (i : Input) × NextInput f e i
      by_place (inl q) =
          let n = next_input l.reads (M.count b.machine) (ahead f).rest e (drop (suc b.replayed) b.held) k
          (next f e g q) at w in
          (n.0, record { rest = n.1; to_come = n.2; entry_is = n.3; at_place = q })
      by_place (inr q) =
          let k = lag-is l.reads (steps l.base) q.0 f.ms q.1 q.2
          ∙ ap (λ zs. zs ++ Mark (steps l.base + steps f.ms) ∷ []) q.3 in
          let c : None ≡ bare_of e = ap bare_of (lagging f e g k) in
          (cc)

  -- it is taken
  pub replayed-taken : (e : Entry) (i : Input) (s : S) → slice_get b.held b.replayed ≡ Some e →
      M.take b.machine i ≡ Some s → M.count s ≡ M.count b.machine → (f : HasReplayed M l b) → NextInput f e i →
      HasReplayed M l (passes_input b s)
  replayed-taken e i s g h counted f n =
      let t = slice_get_within b.held b.replayed e g in
      let z : entry_of l.reads (steps l.base + steps f.ms) i ≡ e =
      ap (λ k. entry_of l.reads k i) (sym f.count) ∙ n.entry_is in
      record {
        ms = f.ms ++ Take i ∷ [];
        runs = runs-append M l.mid b.machine s f.ms (Take i ∷ []) f.runs (s, h, refl);
        count = counted ∙ steps-take l.base f.ms i (M.count b.machine) f.count;
        within = (
          n.rest,
          append_assoc f.ms (Take i ∷ []) n.rest ∙ ap (λ zs. f.ms ++ zs) (sym n.to_come) ∙ (ahead f).whole,
        );
        few = omega (arith, t);
        place = inl (entries-append l.reads (steps l.base) f.ms (Take i ∷ [])
            ∙ ap (λ es. es ++ entry_of l.reads (steps l.base + steps f.ms) i ∷ []) n.at_place
            ∙ ap (λ (v : Entry). take b.replayed b.held ++ v ∷ []) z ∙ sym (take-at b.held b.replayed e g));
      }

  pub replayed-input : (e : Entry) (i : Input) (s : S) → slice_get b.held b.replayed ≡ Some e →
      M.count b.machine ≡ count_of e → input_of e ≡ Some i → M.take b.machine i ≡ Some s →
      M.count s ≡ M.count b.machine → HasReplayed M l b → HasReplayed M l (passes_input b s)
  replayed-input e i s g at w h counted f =
      let k = carries e i w in
      let n = next-input e k.0 g at k.1 f in
      let same : n.0 ≡ i = input_entry l.reads (M.count b.machine) n.0 i (ap input_of n.1.entry_is ∙ w) in
      replayed-taken e i s g h counted f (subst (NextInput f e) same n.1)

-- a node that has replayed all that it holds is at the end of the settled moves
pub replayed-ends : {S : Type 0} (M : Machine S) (l : Line S) (b : Node S) → b.replayed ≡ length b.held →
    (f : HasReplayed M l b) → f.ms ≡ cut (length b.held) l.own
replayed-ends M l b h f = by_place f.place
  where
    by_place : AtPlace l.reads (steps l.base) f.ms b.held b.replayed → f.ms ≡ cut (length b.held) l.own
    by_place (inl q) =
        let n = ap length q in
        let t = length-take-le b.replayed b.held f.few in
        let k : length b.held ≤ length (entries l.reads (steps l.base) f.ms) = omega arith in
        let e : f.within.0 ≡ [] = cut-ends l.reads (length b.held) (steps l.base) l.own f.ms f.within.0 f.within.1 k in
        sym (append-nil f.ms) ∙ ap (λ zs. f.ms ++ zs) (sym e) ∙ f.within.1
    by_place (inr q) = let n = q.4 in absurd (omega arith)

-- one more entry held
pub replayed-holds : {S : Type 0} (M : Machine S) (l : Line S) (held : List Entry) (b : Node S) (e : Entry) →
    HasReplayed M l b → HasReplayed M (with_backup l l.more l.stage held) (holds b e)
replayed-holds M l held b e f =
    let n = length-append b.held (e ∷ []) in
    let m : length b.held ≤ length (b.held ++ e ∷ []) = omega arith in
    let c = f.few in
    record {
      ms = f.ms;
      runs = f.runs;
      count = f.count;
      within = prefix-trans f.ms (cut (length b.held) l.own) (cut (length (b.held ++ e ∷ [])) l.own) f.within
          (cut-more (length b.held) (length (b.held ++ e ∷ [])) l.own m);
      few = omega arith;
      place = elim f.place [
        | inl q ↦ inl (q ∙ sym (take-append-le b.replayed b.held (e ∷ []) c))
        | inr q ↦ (let k = q.4 in let j : b.replayed < length (b.held ++ e ∷ []) = omega arith in
            inr (q.0, q.1, q.2, q.3 ∙ sym (take-append-le b.replayed b.held (e ∷ []) c), j))
      ];
    }

-- the inputs of the copy and of the held entries are the inputs of the settled moves
pub held-list : (reads : Reads) (base own : List Move) (copy : List Timed) (held : List Entry) → copy ≡ inputs 0 base →
    IsPrefix held (entries reads (steps base) own) → copy ++ inputs_of held ≡ inputs 0 (base ++ cut (length held) own)
held-list reads base own copy held h p =
    ap (λ ts. ts ++ inputs_of held) h
    ∙ ap (λ es. inputs 0 base ++ inputs_of es) (sym (entries-held reads (steps base) own held p))
    ∙ ap (λ ts. inputs 0 base ++ ts) (inputs_of-entries reads (steps base) (cut (length held) own))
    ∙ ap (λ c. inputs 0 base ++ inputs c (cut (length held) own)) (let z : steps base ≡ 0 + steps base =
    omega arith in z)
    ∙ sym (inputs-append 0 base (cut (length held) own))
