-- Each kind of step, one after another.
use Rattle.std.proofs.Common.{◌≡◌, ℕ, zero, suc, ◌+◌, ◌<◌, List, [], ◌∷◌, ◌++◌, sym, refl, ap, ◌∙◌, subst, arith, Some}
use Rattle.pair_rule.proofs.Words.{Among, Appends, Arrives, BackupLoses, BackupWins, Byte, ChangesReach, Copying, Event, First, Happens, HasPort, HasRun, Holds, IsByteOf, IsCovered, Knowledge, Leads, Logged, Machine, Nothing, Operation, PrimaryLoses, PrimaryWins, Puts, Reached, ReachedGrows, ReachedIsFaithful, Release, Releases, Reply, RowIsChanges, Runnable, Sees, Shows, Stands, StepsAreEvents, StepsAreFaithful, Takes, WhereSome, World, covers, entries, hand_of, id_of, note_of, notes_from, recorded-runs, steps, with_released}
use Rattle.pair_rule.proofs.AppendSteps.{append_leads}
use Rattle.pair_rule.proofs.SameRecord.{port_there}
use Rattle.pair_rule.proofs.Covered.{is_acknowledged}
use Rattle.pair_rule.proofs.LongerRuns.{run_goes_on}
use Rattle.pair_rule.proofs.Growth.{step_grows}
use Rattle.pair_rule.proofs.QuietSteps.{notes_more, quiet_finds, silent_notes}
use Rattle.pair_rule.proofs.Acknowledged.{hold_leads, see_leads, take_leads}
use Rattle.pair_rule.proofs.Asked.{primary_wins, primary_loses, backup_wins, backup_loses}
use Rattle.pair_rule.proofs.Released.{release_leads, arrive_leads, put_leads}

-- what a run of the list covers, the shown primary covers
release : {S : Type 0} (M : Machine S) (C : Copying S) (may : Runnable M) (typed0 typed1 : List ℕ) (k : Knowledge) (w : World S)
    (z : Shows M typed0 typed1 k w) (st : Stands k) (o : Operation) (run : HasRun M k.primary.list)
    → HasPort o → k.primary.winner ≡ 0 → IsCovered M k run o
    → Leads M C typed0 typed1 (with_released o k) w (λ events. events ≡ Release 0 (id_of o) ∷ [])
release M C may typed0 typed1 k w z st o run there serves (found, covered) =
    let boot : M.count M.boot ≡ 0 = may.lawful.counts [] M.boot refl in
    let g = run_goes_on M may.counts boot k.primary.list z.moves z.s z.recorded z.entries_are z.count run.moves run.last
    run.recorded run.entries_are in
    let found_here : M.find z.s (id_of o) ≡ Some o =
    sym (quiet_finds M may.operations z.s g.further run.last (id_of o) g.quietly) ∙ found in
    let notes : notes_from 0 [] [] run.moves ≡ notes_from 0 [] [] z.moves =
    ap (notes_from 0 [] []) g.all ∙ notes_more 0 [] [] z.moves g.rest ∙ silent_notes (0 + steps z.moves) (0 + steps z.moves)
    ([] ++ entries Logged 0 z.moves) (notes_from 0 [] [] z.moves) g.rest g.none in
    release_leads M C typed0 typed1 k w z o
    (may.lawful.given z.moves z.s (id_of o) o (recorded-runs M M.boot z.s z.moves z.recorded) found_here)
    (is_acknowledged M may.operations may.lawful z.moves z.s k.primary.seen o
    (recorded-runs M M.boot z.s z.moves z.recorded) found_here
    (ap (λ ns. covers k.primary.seen 0 (note_of ns (id_of o))) (sym notes) ∙ covered))
    (port_there M may.lawful typed0 typed1 k w z st o there) serves found_here
    (ap (λ ns. covers k.primary.seen 0 (note_of ns (id_of o))) (sym notes) ∙ covered)

-- a byte in a hand was released
hand_released : (k : Knowledge) → Stands k → (port number byte : ℕ) → port < 2 → hand_of port k ≡ Some (Byte port number byte)
    → Among (Byte port number byte) k.primary.released
hand_released k st zero number byte two hand = (subst (λ h. WhereSome h (IsByteOf 0 k.primary.released)) hand st.port0.in_hand).1
hand_released k st (suc zero) number byte two hand = (subst (λ h. WhereSome h (IsByteOf 1 k.primary.released)) hand st.port1.in_hand).1
hand_released k st (suc (suc port)) number byte two hand = absurd (omega arith)

pub steps_lead : {S : Type 0} → StepsAreEvents S
steps_lead M C may typed0 typed1 k new w z st (Appends e run free told) =
    append_leads M C may typed0 typed1 k w z st free e run told
steps_lead M C may typed0 typed1 k new w z st (Holds waits) = hold_leads M C typed0 typed1 k w z waits
steps_lead M C may typed0 typed1 k new w z st (Sees serves) = see_leads M C typed0 typed1 k w z st serves
steps_lead M C may typed0 typed1 k new w z st (Takes p waits is) = take_leads M C typed0 typed1 k w z p waits is
steps_lead M C may typed0 typed1 k new w z st (PrimaryWins serves waits) = primary_wins M C typed0 typed1 k w z serves waits
steps_lead M C may typed0 typed1 k new w z st (PrimaryLoses serves other) = primary_loses M C typed0 typed1 k w z serves other
steps_lead M C may typed0 typed1 k new w z st (BackupWins serves waits) = backup_wins M C typed0 typed1 k w z serves waits
steps_lead M C may typed0 typed1 k new w z st (BackupLoses other waits) = backup_loses M C typed0 typed1 k w z other waits
steps_lead M C may typed0 typed1 k new w z st (Releases o run there serves covered) =
    release M C may typed0 typed1 k w z st o run there serves covered
steps_lead M C may typed0 typed1 k new w z st (Arrives port number byte two hand) =
    arrive_leads M C typed0 typed1 k w z port number byte two hand (hand_released k st port number byte two hand)
steps_lead M C may typed0 typed1 k new w z st (Puts write is) = put_leads M C typed0 typed1 k w z st write is

-- events from a world that actions reach lead to one that actions reach
pub run_reaches : {S : Type 0} → RowIsChanges S → ChangesReach S
    → (M : Machine S) (C : Copying S) (w new : World S) (events : List Event) (replies : List Reply) → Reached M C w
    → Happens M C w events replies new → Reached M C new
run_reaches rows changes M C w new events replies h Nothing = h
run_reaches rows changes M C w new events replies h (First {mid = v} {e = e} {events = es} {r = r} {replies = rs} row rest) =
    run_reaches rows changes M C v new es rs (changes M C w v h (rows M C w v e r row)) rest

pub steps_stay_faithful : {S : Type 0} → RowIsChanges S → ChangesReach S → ReachedIsFaithful S → ReachedGrows S
    → StepsAreFaithful S
steps_stay_faithful rows changes faithful grow M C may copies typed0 typed1 k new w z st h turn =
    let l = steps_lead M C may typed0 typed1 k new w z st turn in let r =
    run_reaches rows changes M C w l.new l.events l.replies h l.run in
    record {
      leads = l;
      reached = r;
      faithful = faithful M C may.lawful copies l.new r;
      grows = step_grows rows changes faithful grow M C may.lawful copies w l.new l.events l.replies h l.run l.once;
    }
