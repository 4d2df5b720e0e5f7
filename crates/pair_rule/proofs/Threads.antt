-- Step after step, what is known is shown by a faithful world.
use Rattle.std.proofs.Common.{◌⊎◌, ℕ, zero, suc, ◌<◌, List, [], ◌++◌, refl, subst, arith, inl, inr}
use Rattle.pair_rule.proofs.Words.{ChangesReach, Copying, Event, Faithful, Goes, Happens, HasEvents, HasNoEvents, IsAllBut, IsCopying, IsPrefix, IsShown, Knowledge, LeadsFaithfully, Logged, Machine, MayHave, Nothing, Opens, PrimaryIsTold, Promises, Reached, ReachedGrows, ReachedIsFaithful, Reply, RowIsChanges, Runnable, SectorAddress, Shows, Stands, TableEvents, TableStep, TableStepsAreFaithful, ThreadsAreFaithful, World, accepted_in, bytes_accepted, keys, opening, output, sector_record, terminal_in, typed_at}
use Rattle.pair_rule.proofs.Beginning.{happens_more, starts_shown}
use Rattle.pair_rule.proofs.Growth.{step_grows}
use Rattle.pair_rule.proofs.Law.{steps_stay_faithful}
use Rattle.pair_rule.proofs.SilentSteps.{silent_shows}
use Rattle.pair_rule.proofs.TableSteps.{table_steps}
use Rattle.pair_rule.proofs.AcceptedMarks.{accepted_marked}
use Rattle.pair_rule.proofs.Told.{nothing_told, silent_told, thread_told}

module _ {S : Type 0} (M : Machine S) (C : Copying S) (typed0 typed1 : List ℕ) (k : Knowledge) (w : World S)
    (z : Shows M typed0 typed1 k w) (f : Faithful M w) where
  outputs : (port : ℕ) → port < 2 → IsAllBut M.window_size (bytes_accepted port k) (output port f.trace)
  outputs zero two = subst (λ l. IsAllBut M.window_size (accepted_in l 0) (output 0 f.trace)) z.terminals (f.output 0)
  outputs (suc zero) two = subst (λ l. IsAllBut M.window_size (accepted_in l 1) (output 1 f.trace)) z.terminals (f.output 1)
  outputs (suc (suc port)) two = absurd (omega arith)

  keys_kept : (port : ℕ) → port < 2 → IsPrefix (keys port f.list) (typed_at port typed0 typed1)
  keys_kept zero two = subst (λ l. IsPrefix (keys 0 f.list) (terminal_in l 0).typed) z.terminals (f.typed 0)
  keys_kept (suc zero) two = subst (λ l. IsPrefix (keys 1 f.list) (terminal_in l 1).typed) z.terminals (f.typed 1)
  keys_kept (suc (suc port)) two = absurd (omega arith)

  pub promises : Promises M typed0 typed1 k
  promises = record {
    list = f.list;
    count = f.count;
    trace = f.trace;
    reach = f.reach;
    outputs = outputs;
    disk = λ address. subst (λ l. MayHave M f.trace f.reach.last address (sector_record M l address).bytes) z.puts
        (f.disk address);
    keys_kept = keys_kept;
  }

pub shown : {S : Type 0} (M : Machine S) (C : Copying S) (typed0 typed1 : List ℕ) (k : Knowledge) (w : World S) → Stands k
    → PrimaryIsTold typed0 typed1 k.primary → Shows M typed0 typed1 k w → (events : List Event) (replies : List Reply)
    → Happens M C (opening M Logged) events replies w → Reached M C w → Faithful M w → IsShown M C typed0 typed1 k
shown M C typed0 typed1 k w st told z events replies happened reached f = record {
  stands = st;
  told = told;
  world = w;
  shows = z;
  marked = accepted_marked M typed0 typed1 k w st told z;
  events = events;
  replies = replies;
  happened = happened;
  reached = reached;
  faithful = f;
  promises = promises M C typed0 typed1 k w z f;
}

-- a step leads by the events of its row, or by none
pub row_leads : {S : Type 0} → RowIsChanges S → ChangesReach S → ReachedIsFaithful S → ReachedGrows S
    → (M : Machine S) (C : Copying S) → Runnable M → IsCopying M C → (typed0 typed1 : List ℕ) (k new : Knowledge) (w : World S)
    → Shows M typed0 typed1 k w → Stands k → Reached M C w → (Row : List Event → Type 0)
    → HasEvents M typed0 typed1 k new Row ⊎ HasNoEvents M k new Row → LeadsFaithfully M C typed0 typed1 new w Row
row_leads rows changes faithful grow M C may copies typed0 typed1 k new w z st h Row (inl t) =
    let l = steps_stay_faithful rows changes faithful grow M C may copies typed0 typed1 k new w z st h t.step in record {
      leads = record {
        events = l.leads.events;
        formed = t.row l.leads.events l.leads.formed;
        replies = l.leads.replies;
        new = l.leads.new;
        run = l.leads.run;
        once = l.leads.once;
        shows = l.leads.shows;
      };
      reached = l.reached;
      faithful = l.faithful;
      grows = l.grows;
    }
row_leads rows changes faithful grow M C may copies typed0 typed1 k new w z st h Row (inr q) = record {
  leads = record {
    events = [];
    formed = q.row;
    replies = [];
    new = w;
    run = Nothing;
    once = inl refl;
    shows = silent_shows M typed0 typed1 k new w z q.step;
  };
  reached = h;
  faithful = faithful M C may.lawful copies w h;
  grows = step_grows rows changes faithful grow M C may.lawful copies w w [] [] h Nothing (inl refl);
}

-- so each kind of step leads by its own
pub kinds_lead : {S : Type 0} → RowIsChanges S → ChangesReach S → ReachedIsFaithful S → ReachedGrows S
    → TableStepsAreFaithful S
kinds_lead rows changes faithful grow M C may copies typed0 typed1 k new w z st h kind =
    row_leads rows changes faithful grow M C may copies typed0 typed1 k new w z st h (TableEvents kind)
    (table_steps M typed0 typed1 k new st kind).step

-- what the list was told stays so
step_told : {S : Type 0} (M : Machine S) (typed0 typed1 : List ℕ) (k new : Knowledge) (Row : List Event → Type 0)
    → PrimaryIsTold typed0 typed1 k.primary → HasEvents M typed0 typed1 k new Row ⊎ HasNoEvents M k new Row
    → PrimaryIsTold typed0 typed1 new.primary
step_told M typed0 typed1 k new Row told (inl t) = thread_told M typed0 typed1 k told new t.step
step_told M typed0 typed1 k new Row told (inr q) = silent_told M typed0 typed1 k told new q.step

-- a step of the table leads from what is shown to what is shown
next_shown : {S : Type 0} → RowIsChanges S → ChangesReach S → ReachedIsFaithful S → ReachedGrows S
    → (M : Machine S) (C : Copying S) → Runnable M → IsCopying M C → (typed0 typed1 : List ℕ) (k new : Knowledge)
    → IsShown M C typed0 typed1 k → (kind : TableStep M typed0 typed1 k new) → IsShown M C typed0 typed1 new
next_shown rows changes faithful grow M C may copies typed0 typed1 k new s kind =
    let is = table_steps M typed0 typed1 k new s.stands kind in
    let l = row_leads rows changes faithful grow M C may copies typed0 typed1 k new s.world s.shows s.stands s.reached
    (TableEvents kind) is.step in
    shown M C typed0 typed1 new l.leads.new is.stands (step_told M typed0 typed1 k new (TableEvents kind) s.told is.step)
    l.leads.shows (s.events ++ l.leads.events) (s.replies ++ l.leads.replies)
    (happens_more M C (opening M Logged) s.world l.leads.new s.events l.leads.events s.replies l.leads.replies s.happened
    l.leads.run) l.reached l.faithful

pub runs_shown : {S : Type 0} → RowIsChanges S → ChangesReach S → ReachedIsFaithful S → ReachedGrows S → ThreadsAreFaithful S
runs_shown rows changes faithful grow M C may copies typed0 typed1 k (Opens generation) =
    let b = starts_shown rows changes M C may.lawful typed0 typed1 generation in shown M C typed0 typed1 k b.world b.stands
    (nothing_told typed0 typed1) b.shows b.events b.replies b.run b.reached (faithful M C may.lawful copies b.world b.reached)
runs_shown rows changes faithful grow M C may copies typed0 typed1 new (Goes {k = k} run step) =
    let s = runs_shown rows changes faithful grow M C may copies typed0 typed1 k run in
    next_shown rows changes faithful grow M C may copies typed0 typed1 k new s step
