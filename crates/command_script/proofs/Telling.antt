-- A run that is told event after event, in whatever world it shows.
use Rattle.std.proofs.Common.{◌≡◌, ℕ, ◌+◌, ◌<◌, List, [], ◌∷◌, ◌++◌, ◌∙◌, ap, append-nil, arith, Result, get_or, length, refl, subst, sym}
use Rattle.std.specs.Prelude.{take}
use Rattle.std.proofs.lemmas.List.{take_more}
use Rattle.command_script.specs.Running.{HasFailed}
use Rattle.command_script.specs.Telling.{EventTold, HaveTold, NoneTold, QueryPassed, TellsAfter, Told, failures_in_all}
use Rattle.command_script.proofs.Lines.{counts_more, counts_one}
use Rattle.ft_world.specs.Applies.{Happens, Shows, failures_told}
use Rattle.ft_world.specs.Running.{Running}
use Rattle.ft_world.specs.Standing.{Course, machine_of}
use Rattle.ft_world.specs.Words.{answer_of}
use Rattle.guest_lockstep.specs.Machine.{Machine}
use Rattle.guest_parts.specs.Guest.{Guest}
use Rattle.i8080_words.specs.declared.refusal.Fault.{Fault}
use Rattle.pair_events.specs.declared.event.Event.{Event}
use Rattle.pair_events.specs.declared.reply.Reply.{Reply}
use Rattle.pair_protocol.specs.Copying.{Copying}
use Rattle.pair_protocol.specs.Row.{Row}
use Rattle.pair_protocol.specs.World.{World}
use Rattle.script_language.specs.declared.line.Line.{Line}
use Rattle.script_language.specs.declared.line.Line.TheVariants as line
use Rattle.script_language.specs.declared.line.Query.{Query}
use Rattle.sequence_diagram.specs.declared.moment.Moment.{Moment}
use Rattle.shared_disk.specs.Failing.{Disk, records_in}

-- the first lines, and the others
told-append : {S : Type 0} (M : Machine S) (C : Copying S) (w mid new : World S) (lines others : List Line)
    (moments more : List Moment) → Told M C w lines moments mid → Told M C mid others more new
    → Told M C w (lines ++ others) (moments ++ more) new
told-append M C w mid new lines others moments more NoneTold next = next
told-append M C w mid new lines others moments more (EventTold {mid = v} {lines = ls} {moments = ms} row rest) next =
    EventTold row (told-append M C v mid new ls others ms more rest next)
told-append M C w mid new lines others moments more (QueryPassed {lines = ls} rest) next =
    QueryPassed (told-append M C w mid new ls others moments more rest next)

-- their failures are added up
failures-append : (moments more : List Moment) → failures_in_all (moments ++ more) ≡ failures_in_all moments + failures_in_all more
failures-append [] more = omega arith
failures-append (moment ∷ moments) more = omega (arith, failures-append moments more)

module _ {B H S : Type 0} (state : B → S) (copied : B → Guest) (M : Machine S) where
  pub tells_event : (old new : Running B H Disk) (moment : Moment) (happened : Event) (answer : Result Reply Fault)
      (before now : List Moment)
      → moment.event ≡ happened → moment.answer ≡ answer → now ≡ before ++ (moment ∷ [])
      → Happens state copied M records_in old happened answer new
      → HasFailed old (failures_told happened answer) new
      → TellsAfter state copied M old (line.Event happened ∷ []) before now new
  tells_event old new moment happened answer before now event is are happens counted = record {
    moments = moment ∷ [];
    are = are;
    told = λ c shows.
        let a = happens c shows in
        record {
          after = a.after;
          counted = counts_one old new (failures_told moment.event moment.answer)
              (subst (λ r. HasFailed old (failures_told moment.event r) new) (sym is)
              (subst (λ e. HasFailed old (failures_told e answer) new) (sym event) counted));
          told = subst (λ e. Told (machine_of M c) c.copying c.world (line.Event e ∷ []) (moment ∷ []) a.after) event
              (EventTold
              (subst (λ r. Row (machine_of M c) c.copying c.world moment.event (answer_of r) a.after) (sym is)
              (subst (λ e. Row (machine_of M c) c.copying c.world e (answer_of answer) a.after) (sym event) a.row))
              NoneTold);
          shows = a.shows;
        };
  }

  pub tells_no_query : (v : Running B H Disk) (q : Query) (moments : List Moment)
      → TellsAfter state copied M v (line.Query q ∷ []) moments moments v
  tells_no_query v q moments = record {
    moments = [];
    are = sym (append-nil moments);
    told = λ c shows.
        record { after = c.world; counted = refl; told = QueryPassed NoneTold; shows = shows };
  }

  -- ---- line after line

  pub told_none : (v : Running B H Disk) (moments : List Moment) → moments ≡ [] → (c : Course S)
      → Shows state copied M records_in v c → HaveTold state copied M c [] moments v v
  told_none v moments none c shows = record {
    after = c.world;
    counted = subst (λ ms. HasFailed v (failures_in_all ms) v) (sym none) refl;
    told = subst (λ ms. Told (machine_of M c) c.copying c.world [] ms c.world) (sym none) NoneTold;
    shows = shows;
  }

  pub told_on : (start mid new : Running B H Disk) (lines : List Line) (k : ℕ) (d : Line) (before now : List Moment)
      → k < length lines
      → ((c : Course S) → Shows state copied M records_in start c → HaveTold state copied M c (take k lines) before start mid)
      → TellsAfter state copied M mid (get_or lines k d ∷ []) before now new
      → (c : Course S) → Shows state copied M records_in start c → HaveTold state copied M c (take (k + 1) lines) now start new
  told_on start mid new lines k d before now low so_far one c shows =
      let f = so_far c shows in
      let o = one.told (record c { world = f.after }) f.shows in
      record {
        after = o.after;
        counted = subst (λ n. HasFailed start n new) (sym (ap failures_in_all one.are ∙ failures-append before one.moments))
            (counts_more start mid new (failures_in_all before) (failures_in_all one.moments) f.counted o.counted);
        told = subst (λ l. Told (machine_of M c) c.copying c.world l now o.after) (sym (take_more lines k d low))
            (subst (λ ms. Told (machine_of M c) c.copying c.world (take k lines ++ (get_or lines k d ∷ [])) ms o.after) (sym one.are)
            (told-append (machine_of M c) c.copying c.world f.after o.after (take k lines) (get_or lines k d ∷ []) before
            one.moments f.told o.told));
        shows = o.shows;
      }
