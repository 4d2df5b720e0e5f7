-- What a pair on threads prints is an end of its generation; what is typed at it, line by line.
use Rattle.std.proofs.Common.{◌≡◌, ℕ, Bool, ◌+◌, ◌<◌, zero, suc, Option, Some, None, List, [], ◌∷◌, ◌++◌, Result, Ok, Err, inl, inr, refl, subst, sym, ap, ◌∙◌, length, replicate, take, get_or, if◌then◌else◌, append-nil, arith}
use Rattle.std.specs.Prelude.{◌⊎◌, IfErr, IfOk, IsTrue, OnOk}
use Rattle.std.specs.Global.{Vec}
use Rattle.std.specs.Result.{IsErrAnd}
use Rattle.std.specs.Io.KnownBytes.{Appends, Keeps, append_known}
use Rattle.std.specs.Option.{option_map_or}
use Rattle.disk_dcdd.specs.declared.sector.SectorWrite.{SectorWrite}
use Rattle.disk_dcdd.specs.declared.sector.TheConstants.{SECTOR_BYTES}
use Rattle.guest_parts.specs.Guest.{Guest}
use Rattle.guest_board.specs.Guest.{guest_at_boot}
use Rattle.guest_board.specs.Inputs.{some_altair}
use Rattle.guest_lockstep.specs.Machine.{Machine, booted_from}
use Rattle.log_entry.specs.declared.entry.Entry.{Entry}
use Rattle.command_live.specs.Living.{AreBooted, AreTyped, BeginsAs, EndsOf, HasEnded, PrintsLive, PrintsNone, PrintsScreens, Tells, TellsEnd, TellsScreens, end_text}
use Rattle.command_io.specs.Typed.{typed_by, typed_in, with_byte}
use Rattle.command_io.specs.Saving.{AreWhole, are_attached, images_of}
use Rattle.command_io.specs.Reports.{AddsLine}
use Rattle.command_io.specs.declared.failure.Failure.{Failure}
use Rattle.command_io.specs.declared.failure.Failure.TheVariants as failure
use Rattle.command_io.proofs.Handing.{settled_kept, settled_line}
use Rattle.command_line.specs.declared.live_order.LiveOrder.{LiveOrder}
use Rattle.pair_threads.specs.Ending.{EndsBy, WonBy}
use Rattle.pair_threads.specs.declared.gate.Who.{Who}
use Rattle.disk_dcdd.specs.Address.{bytes_with_all}
use Rattle.shared_disk.specs.Records.{HasWholeSectors, IsAtBoot, IsUnwritten, boot_record, bytes_in}
use Rattle.shared_disk.specs.declared.store.Record.{Record}
use Rattle.script_language.specs.declared.line.Line.{Line}
use Rattle.script_language.specs.declared.setup.ScriptSetup.{ScriptSetup}

-- the screens are printed, and the images are those of the disk
pub tells_screens : (as_text : Bool) (winner : Option Who) (screens : List (List ℕ)) (records : List Record) (saved images first second : List ℕ)
    (old new : Option (List ℕ)) → screens ≡ first ∷ second ∷ [] → images ≡ images_of records saved
    → AreWhole images saved
    → AddsLine (Some (end_text as_text first second winner)) old new
    → PrintsScreens as_text winner screens records saved images old new
tells_screens as_text winner screens records saved images first second old new are images_are whole one =
    record { first = first; second = second; screens_are = are; images_are = images_are; whole = whole; printed = one }

-- a line that is not handed in
tells_none : (e : Failure) (old new : Option (List ℕ)) → (e ≡ failure.OutOfMemory → Keeps old new)
    → (e ≡ failure.OutOfMemory) ⊎ (e ≡ failure.InputOrOutput) → PrintsNone e old new
tells_none e old new kept (inl is) = subst (λ f. PrintsNone f old new) (sym is) (kept is)
tells_none e old new kept (inr is) = subst (λ f. PrintsNone f old new) (sym is) tt

pub tells_residual : (as_text : Bool) (winner : Option Who) (screens : List (List ℕ)) (records : List Record) (saved : List ℕ)
    (result : Result (Vec ℕ) Failure) (told : Result (Unit {0}) Failure) (e : Failure)
    (old new : Option (List ℕ)) → IsErrAnd result (λ k. k ≡ e) → told ≡ Err e
    → (told ≡ Err failure.OutOfMemory → Keeps old new)
    → IfErr told (λ e. (e ≡ failure.OutOfMemory) ⊎ (e ≡ failure.InputOrOutput))
    → TellsScreens as_text winner screens records saved result old new
tells_residual as_text winner screens records saved (Ok images) told e old new is was kept why = absurd is
tells_residual as_text winner screens records saved (Err k) told e old new is was kept why =
    subst (λ f. PrintsNone f old new) (sym is)
    (tells_none e old new (λ out. kept (was ∙ ap (λ f. Err f) out))
    (subst (λ r. IfErr r (λ e. (e ≡ failure.OutOfMemory) ⊎ (e ≡ failure.InputOrOutput))) was why))

module _ (setup : ScriptSetup) (given : List SectorWrite) (typed0 typed1 : List ℕ) (order : LiveOrder) where
  -- the end is printed
  pub tells_end : (old new : Option (List ℕ)) (first second images : List ℕ) (winner : Option Who)
      → WonBy order.primary_asks order.backup_asks winner
      → EndsOf setup given typed0 typed1 order.saved.items winner (first ∷ second ∷ []) images
      → AddsLine (Some (end_text order.text first second winner)) old new
      → TellsEnd setup given typed0 typed1 order images old new
  tells_end old new first second images winner won ends one =
      record { first = first; second = second; winner = winner; won = won; ends = ends; printed = one }

  -- if a report has no lines at first, and all that is handed in is then written, that is what the writer got
  module _ (a b c : Option (List ℕ)) (first rest : List ℕ) (none : first ≡ []) (q : Appends b c rest) where
    settled_end : (images : List ℕ)
        → TellsEnd setup given typed0 typed1 order images (append_known a first) (append_known b rest)
        → TellsEnd setup given typed0 typed1 order images a c
    settled_end images h = record {
      first = h.first;
      second = h.second;
      winner = h.winner;
      won = h.won;
      ends = h.ends;
      printed = settled_line a b c first rest none q (Some (end_text order.text h.first h.second h.winner)) h.printed;
    }

    settled_none : (e : Failure) → PrintsNone e (append_known a first) (append_known b rest) → PrintsNone e a c
    settled_none failure.OutOfMemory h = settled_kept a b c first rest none h q
    settled_none failure.Stalled h = settled_kept a b c first rest none h q
    settled_none failure.InputOrOutput h = tt
    settled_none failure.Differs h = h
    settled_none (failure.CommandLine text) h = h
    settled_none (failure.BadScript line) h = h

    -- the images come after it
    pub settled_live : (d : Option (List ℕ)) (images bytes : List ℕ) (result : Result (Unit {0}) Failure)
        → IsTrue (are_attached setup.guest.drives order.saved.items) → bytes ≡ images
        → OnOk result (Appends c d bytes) → IfErr result (λ e. e ≡ failure.InputOrOutput)
        → TellsEnd setup given typed0 typed1 order images (append_known a first) (append_known b rest)
        → PrintsLive setup given typed0 typed1 order result a d
    settled_live d images bytes (Ok done) attached are more why h = record {
      images = images;
      told = c;
      tells = settled_end images h;
      printed = subst (λ l. Appends c d l) are more;
      attached = attached;
    }
    settled_live d images bytes (Err e) attached are more why h = subst (λ f. PrintsNone f a d) (sym why) tt

    -- nothing comes after a failure
    pub settled_residual : (result : Result (Unit {0}) Failure) (e : Failure) → IsErrAnd result (λ k. k ≡ e)
        → PrintsNone e (append_known a first) (append_known b rest)
        → PrintsLive setup given typed0 typed1 order result a c
    settled_residual (Ok done) e is h = absurd is
    settled_residual (Err k) e is h = subst (λ f. PrintsNone f a c) (sym is) (settled_none e h)

-- ---- what is typed

with_more : (b : Option ℕ) (xs ys : List ℕ) → with_byte b (xs ++ ys) ≡ with_byte b xs ++ ys
with_more None xs ys = refl
with_more (Some byte) xs ys = refl

one_more : (port : ℕ) (lines : List Line) (i : ℕ) (other : Line) → i < length lines
    → typed_in port (take (suc i) lines) ≡ typed_in port (take i lines) ++ with_byte (typed_by port (get_or lines i other)) []
one_more port [] i other within = absurd (omega (arith, within))
one_more port (line ∷ lines) zero other within = refl
one_more port (line ∷ lines) (suc i) other within =
    ap (with_byte (typed_by port line)) (one_more port lines i other (let w = within in omega (arith, w)))
    ∙ with_more (typed_by port line) (typed_in port (take i lines)) (with_byte (typed_by port (get_or lines i other)) [])

-- after the next line there is one byte more, or as many as before
module _ (port : ℕ) (lines : List Line) (i : ℕ) (other : Line) (found : Option ℕ) (within : i < length lines)
    (is : found ≡ typed_by port (get_or lines i other)) where
  next : typed_in port (take (i + 1) lines) ≡ typed_in port (take i lines) ++ with_byte found []
  next =
      let suc_i : i + 1 ≡ suc i = omega arith in
      ap (λ n. typed_in port (take n lines)) suc_i ∙ one_more port lines i other within
      ∙ ap (λ b. typed_in port (take i lines) ++ with_byte b []) (sym is)

  pub byte_more : (byte : ℕ) (typed : List ℕ) → found ≡ Some byte → typed ≡ typed_in port (take i lines)
      → typed ++ byte ∷ [] ≡ typed_in port (take (i + 1) lines)
  byte_more byte typed some before =
      ap (λ l. l ++ byte ∷ []) before ∙ ap (λ b. typed_in port (take i lines) ++ with_byte b []) (sym some) ∙ sym next

  pub as_many : (typed : List ℕ) → found ≡ None → typed ≡ typed_in port (take i lines)
      → typed ≡ typed_in port (take (i + 1) lines)
  as_many typed none before =
      before ∙ sym (append-nil (typed_in port (take i lines)))
      ∙ ap (λ b. typed_in port (take i lines) ++ with_byte b []) (sym none) ∙ sym next

-- ---- how it ends

-- a store at boot has in each sector what the setup says
pub are_booted : (setup : ScriptSetup) (given : List SectorWrite) (records : List Record)
    → IsAtBoot records setup.guest.drives given → AreBooted setup given (bytes_in records)
are_booted setup given records at address there =
    ap (λ (r : Option Record). option_map_or (λ (r : Record). r.bytes) r [])
    (at address ∙ ap (λ b. if b then Some (boot_record (bytes_with_all given address (replicate SECTOR_BYTES 0))) else None) there)

-- what its parts give
pub begins_as : (setup : ScriptSetup) (given : List SectorWrite) (lines typed : List Line) (primary backup : Guest)
    (records : List Record) (typed0 typed1 : List ℕ) → typed ≡ lines → primary ≡ guest_at_boot setup.guest
    → backup ≡ guest_at_boot setup.guest → IsAtBoot records setup.guest.drives given → IsUnwritten records
    → HasWholeSectors records → AreTyped typed typed0 typed1 → BeginsAs setup given lines primary backup records typed0 typed1
begins_as setup given lines typed primary backup records typed0 typed1 same is0 is1 at_boot unwritten whole are = record {
  primary_is = is0;
  backup_is = is1;
  at_boot = at_boot;
  unwritten = unwritten;
  whole = whole;
  typed = subst (λ ls. AreTyped ls typed0 typed1) same are;
}

-- a generation that has begun like this and has ended is one of the script
pub has_ended : (setup : ScriptSetup) (given : List SectorWrite) (lines : List Line) (boot backup_boot : Guest)
    (booted : List Record) (typed0 typed1 : List ℕ) (winner : Option Who) (primary backup : List Entry) (held : ℕ)
    (screens : List (List ℕ)) (records : List Record) (s t : Guest)
    → BeginsAs setup given lines boot backup_boot booted typed0 typed1
    → EndsBy (booted_from some_altair boot (bytes_in booted)) typed0 typed1 winner primary backup held screens records s t
    → HasEnded setup given lines winner screens records
has_ended setup given lines boot backup_boot booted typed0 typed1 winner primary backup held screens records s t
    begins ends = record {
      sectors = bytes_in booted;
      booted = are_booted setup given booted begins.at_boot;
      primary = primary;
      backup = backup;
      held = held;
      s = s;
      t = t;
      ends = subst (λ g. EndsBy (booted_from some_altair g (bytes_in booted)) (typed_in 0 lines) (typed_in 1 lines) winner
          primary backup held screens records s t) begins.primary_is
          (subst (λ l. EndsBy (booted_from some_altair boot (bytes_in booted)) l (typed_in 1 lines) winner primary backup held
          screens records s t) begins.typed.0
          (subst (λ l. EndsBy (booted_from some_altair boot (bytes_in booted)) typed0 l winner primary backup held screens
          records s t) begins.typed.1 ends));
    }

-- what is said of a value, if there is one, is said of what it implies
pub if_both : {A E : Type 0} (result : Result A E) (P Q R : A → Type 0) → ((a : A) → P a → Q a → R a) → IfOk result P
    → IfOk result Q → IfOk result R
if_both (Ok a) P Q R more h i = more a h i
if_both (Err e) P Q R more h i = tt

-- what was typed in the end was typed before
pub typed_so : {S : Type 0} (M : Machine S) (typed0 typed1 first second : List ℕ) (winner : Option Who)
    (primary backup : List Entry) (held : ℕ) (screens : List (List ℕ)) (records : List Record) (s t : S) → typed0 ≡ first
    → typed1 ≡ second → EndsBy M typed0 typed1 winner primary backup held screens records s t
    → EndsBy M first second winner primary backup held screens records s t
typed_so M typed0 typed1 first second winner primary backup held screens records s t is0 is1 ends =
    subst (λ a. EndsBy M a second winner primary backup held screens records s t) is0
    (subst (λ b. EndsBy M typed0 b winner primary backup held screens records s t) is1 ends)

-- and the images of its disk
pub ends_of : (setup : ScriptSetup) (given : List SectorWrite) (lines : List Line) (saved drives : List ℕ) (winner : Option Who)
    (screens : List (List ℕ)) (records : List Record) (images : List ℕ) → HasEnded setup given lines winner screens records
    → drives ≡ saved → images ≡ images_of records drives → AreWhole images drives
    → EndsOf setup given (typed_in 0 lines) (typed_in 1 lines) saved winner screens images
ends_of setup given lines saved drives winner screens records images h are all whole = record {
  sectors = h.sectors;
  booted = h.booted;
  primary = h.primary;
  backup = h.backup;
  held = h.held;
  records = records;
  s = h.s;
  t = h.t;
  ends = h.ends;
  images_are = all ∙ ap (images_of records) are;
  whole = subst (AreWhole images) are whole;
}

-- the end of a script's generation is printed as its screens and its disk say
pub tells_of : (setup : ScriptSetup) (given : List SectorWrite) (lines : List Line) (order : LiveOrder) (saved : List ℕ)
    (winner : Option Who) (screens : List (List ℕ)) (records : List Record) (result : Result (Vec ℕ) Failure)
    (old new : Option (List ℕ)) → HasEnded setup given lines winner screens records
    → WonBy order.primary_asks order.backup_asks winner → saved ≡ order.saved.items
    → TellsScreens order.text winner screens records saved result old new
    → Tells setup given (typed_in 0 lines) (typed_in 1 lines) order result old new
tells_of setup given lines order saved winner screens records (Ok images) old new ended won are told =
    tells_end setup given (typed_in 0 lines) (typed_in 1 lines) order old new told.first told.second images.items winner won
    (subst (λ s. EndsOf setup given (typed_in 0 lines) (typed_in 1 lines) order.saved.items winner s images.items)
    told.screens_are
    (ends_of setup given lines order.saved.items saved winner screens records images.items ended are told.images_are told.whole))
    told.printed
tells_of setup given lines order saved winner screens records (Err failure) old new ended won are told = told
