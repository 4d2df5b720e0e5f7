-- The small guest counts its steps, and the byte that it has sent is outstanding until it is accepted.
use Rattle.std.proofs.Common.{◌≡◌, ◌≢◌, ℕ, suc, Bool, true, false, cond, ◌||◌, ◌&&◌, Option, Some, None, refl, sym, ap, ◌∙◌, subst}
use Rattle.std.specs.Prelude.{◌==◌}
use Rattle.std.proofs.lemmas.Bool.{eqb-true, eq-eqb, and_parts}
use Rattle.std.proofs.lemmas.Option.{same_Some, none-some}
use Rattle.std.specs.Option.{option_map}
use Rattle.echo_guest.specs.Echo.{Echo, echo, moved, reads, sends, is_spent, is_idle, after, due_byte, is_outgoing}
use Rattle.event_callbacks.specs.Operations.{id_of}
use Rattle.event_callbacks.specs.declared.operations.OpId.{OpId}
use Rattle.event_callbacks.specs.declared.operations.OpId.TheVariants as id
use Rattle.event_callbacks.specs.declared.operations.Operation.{Operation}
use Rattle.event_callbacks.specs.declared.operations.Operation.TheVariants.{Byte}
use Rattle.guest_lockstep.specs.Outstanding.{completed_by, ComesAndGoes}
use Rattle.guest_lockstep.specs.Recorded.{Counts}
use Rattle.guest_lockstep.specs.declared.input.Input.{Input}
use Rattle.guest_lockstep.specs.declared.input.Input.TheVariants as input

-- ---- a step

-- a step that gives an operation sends the byte that was read, and none is outstanding before it
record IsSent (s t : Echo) (o : Operation) : Type 0 where
  pub byte : ℕ
  pub free : s.waits ≡ false
  pub after : (sends s byte).0 ≡ t
  pub given : Byte 0 (suc s.sent) byte ≡ o

sent-step : (none waits : Bool) (byte : Option ℕ) (s t : Echo) (o : Operation) → waits ≡ s.waits
    → cond none None (Some (moved s (cond waits None byte))) ≡ Some (t, Some o) → IsSent s t o
sent-step true waits byte s t o w e = absurd (none-some _ e)
sent-step false true byte s t o w e =
    absurd (none-some _ (ap (λ p. p.1) (same_Some {A = Echo × Option Operation} (reads s) (t, Some o) e)))
sent-step false false None s t o w e =
    absurd (none-some _ (ap (λ p. p.1) (same_Some {A = Echo × Option Operation} (reads s) (t, Some o) e)))
sent-step false false (Some byte) s t o w e =
    let same = same_Some {A = Echo × Option Operation} (sends s byte) (t, Some o) e in
    record {
      byte = byte;
      free = sym w;
      after = ap (λ p. p.0) same;
      given = same_Some (Byte 0 (suc s.sent) byte) o (ap (λ p. p.1) same);
    }

-- one that gives none reads a key
read-step : (none waits : Bool) (byte : Option ℕ) (s t : Echo)
    → cond none None (Some (moved s (cond waits None byte))) ≡ Some (t, None) → (reads s).0 ≡ t
read-step true waits byte s t e = absurd (none-some _ e)
read-step false true byte s t e = ap (λ p. p.0) (same_Some {A = Echo × Option Operation} (reads s) (t, None) e)
read-step false false None s t e = ap (λ p. p.0) (same_Some {A = Echo × Option Operation} (reads s) (t, None) e)
read-step false false (Some byte) s t e =
    absurd (none-some _ (sym (ap (λ p. p.1) (same_Some {A = Echo × Option Operation} (sends s byte) (t, None) e))))

step_counts : (none : Bool) (byte : Option ℕ) (e : Echo) (x : Echo × Option Operation)
    → cond none None (Some (moved e byte)) ≡ Some x → x.0.count ≡ suc e.count
step_counts true byte e x h = absurd (none-some _ h)
step_counts false None e x h = sym (ap (λ (p : Echo × Option Operation). p.0.count) (same_Some (reads e) x h))
step_counts false (Some byte) e x h =
    sym (ap (λ (p : Echo × Option Operation). p.0.count) (same_Some (sends e byte) x h))

spent_steps : (spent idle : Bool) (x : Echo × Option Operation) → spent ≡ true
    → cond (spent || idle) None (Some x) ≡ None
spent_steps true idle x h = refl
spent_steps false idle x h = absurd cc

-- ---- an input

accepted_is : (due : Bool) (e t : Echo) → cond due (Some (record e { waits = false })) None ≡ Some t
    → (due ≡ true) × (record e { waits = false } ≡ t)
accepted_is true e t h = (refl, same_Some (record e { waits = false }) t h)
accepted_is false e t h = absurd (none-some _ h)

input_counts : (e t : Echo) (i : Input) → after e i ≡ Some t → t.count ≡ e.count
input_counts e t (input.Rx port byte) h =
    sym (ap (λ (u : Echo). u.count) (same_Some (record e { keys = suc e.keys; key = Some byte }) t h))
input_counts e t (input.Sent port) h = sym (ap (λ (u : Echo). u.count) (accepted_is _ e t h).1)
input_counts e t (input.Sector drive sector number bytes) h = absurd (none-some _ h)
input_counts e t (input.Written number) h = absurd (none-some _ h)

-- ---- what is outstanding

abbrev find_at : Echo → OpId → Option Operation
find_at e name = cond (is_outgoing e name) (Some (Byte 0 e.sent e.outgoing)) None

-- with no byte outstanding nothing is found
none_free : (e : Echo) (name : OpId) → e.waits ≡ false → find_at e name ≡ None
none_free e (id.Byte port number) free =
    ap (λ b. cond (b && (port == 0 && number == e.sent)) (Some (Byte 0 e.sent e.outgoing)) None) free
none_free e (id.Write number) free = refl

-- under another name than that of the byte nothing is found
none_else : (e : Echo) (name : OpId) → name ≢ id.Byte 0 e.sent → find_at e name ≡ None
none_else e (id.Byte port number) other = by_test (is_outgoing e (id.Byte port number)) refl
  where
    by_test : (b : Bool) → is_outgoing e (id.Byte port number) ≡ b
        → find_at e (id.Byte port number) ≡ None
    by_test true is =
        let parts = and_parts _ _ is in
        let both = and_parts _ _ parts.1 in
        absurd (other (ap (λ p. id.Byte p number) (eqb-true port 0 both.0) ∙ ap (id.Byte 0) (eqb-true number e.sent both.1)))
    by_test false is = ap (λ b. cond b (Some (Byte 0 e.sent e.outgoing)) None) is
none_else e (id.Write number) other = refl

-- the byte is found under its own name
found : (s : Echo) (byte : ℕ) → find_at (sends s byte).0 (id.Byte 0 (suc s.sent)) ≡ Some (Byte 0 (suc s.sent) byte)
found s byte = ap (λ b. cond b (Some (Byte 0 (suc s.sent) byte)) None)
    (eq-eqb (suc s.sent) (suc s.sent) refl)

-- ---- the laws

pub echo_counts : Counts echo
echo_counts = record {
  by_step = λ s t gives made. step_counts _ _ s (t, gives) made;
  by_input = λ s t i taken. input_counts s t i taken;
  spent = λ s spent. spent_steps (is_spent s) (is_idle s) _ spent;
}

-- the due byte is the one that is outstanding
due_is : (waits here : Bool) (port sent : ℕ) (name : OpId)
    → option_map (id.Byte port) (cond (waits && here) (Some sent) None) ≡ Some name → id.Byte port sent ≡ name
due_is true true port sent name e = same_Some (id.Byte port sent) name e
due_is true false port sent name e = absurd (none-some _ e)
due_is false here port sent name e = absurd (none-some _ e)

goes : (s t : Echo) (i : Input) (name : OpId) → after s i ≡ Some t → completed_by echo s i ≡ Some name
    → (find_at t name ≡ None) × ((other : OpId) → other ≢ name → find_at t other ≡ find_at s other)
goes s t (input.Rx port byte) name e c = absurd (none-some _ c)
goes s t (input.Sent port) name e c =
    let a = accepted_is _ s t e in
    let at : port ≡ 0 = eqb-true port 0 (and_parts _ _ a.0).1 in
    let is : id.Byte 0 s.sent ≡ name = ap (λ p. id.Byte p s.sent) (sym at) ∙ due_is s.waits (port == 0) port s.sent name c in
    let free : t.waits ≡ false = sym (ap (λ (u : Echo). u.waits) a.1) in (
      none_free t name free,
      λ other differs. none_free t other free ∙ sym (none_else s other (λ k. differs (k ∙ is))),
    )
goes s t (input.Sector drive sector number bytes) name e c = absurd (none-some _ c)
goes s t (input.Written number) name e c = absurd (none-some _ e)

not_due : (waits here : Bool) (port sent : ℕ)
    → option_map (id.Byte port) (cond (waits && here) (Some sent) None) ≡ None → (waits && here) ≡ true → ⊥
not_due true true port sent c due = none-some _ (sym c)
not_due true false port sent c due = absurd cc
not_due false here port sent c due = absurd cc

stays : (s t : Echo) (i : Input) → after s i ≡ Some t → completed_by echo s i ≡ None → (name : OpId)
    → find_at t name ≡ find_at s name
stays s t (input.Rx port byte) e c name =
    ap (λ (u : Echo). find_at u name) (sym (same_Some (record s { keys = suc s.keys; key = Some byte }) t e))
stays s t (input.Sent port) e c name =
    absurd (not_due s.waits (port == 0) port s.sent c (accepted_is _ s t e).0)
stays s t (input.Sector drive sector number bytes) e c name = absurd (none-some _ e)
stays s t (input.Written number) e c name = absurd (none-some _ e)

comes : (s t : Echo) (o : Operation) → IsSent s t o
    → (find_at t (id_of o) ≡ Some o) × ((name : OpId) → name ≢ id_of o → find_at t name ≡ find_at s name)
comes s t o x =
    subst (λ u. (find_at u (id_of o) ≡ Some o) × ((name : OpId) → name ≢ id_of o → find_at u name ≡ find_at s name))
    x.after
    (subst (λ p. (find_at (sends s x.byte).0 (id_of p) ≡ Some p)
    × ((name : OpId) → name ≢ id_of p → find_at (sends s x.byte).0 name ≡ find_at s name))
    x.given (
      found s x.byte,
      λ name differs. none_else (sends s x.byte).0 name differs ∙ sym (none_free s name x.free),
    ))

pub echo_issues_and_completes : ComesAndGoes echo
echo_issues_and_completes = record {
  comes = λ s t o e. comes s t o (sent-step (is_spent s || is_idle s) s.waits s.byte s t o refl e);
  quiet = λ s t e name.
      ap (λ (u : Echo). find_at u name) (sym (read-step (is_spent s || is_idle s) s.waits s.byte s t e));
  goes = goes;
  stays = stays;
}
