-- OUT 09h and OUT 0Ah are calm too, except for the byte that issues a write. A command leaves the sector under the head
-- only if the head does not move, and then the drive keeps its track; and the last byte of a sector is not kept, since
-- it issues the write or is lost.
use Rattle.std.proofs.Common.{◌≡◌, ℕ, ◌+◌, ◌<◌, Bool, true, false, cond, length, Option, Some, None, refl, sym, ap, ◌∙◌, subst, arith}
use Rattle.std.specs.Prelude.{IfSome, All, ◌&&◌, ◌||◌, ◌==◌, not, nat_lt, slice_set}
use Rattle.std.specs.List.{list_any}
use Rattle.std.specs.Option.{option_map_or, option_and_then}
use Rattle.std.proofs.lemmas.Bool.{and_parts, ltb-true, eqb-false, both_ways, or_parts}
use Rattle.std.proofs.lemmas.List.{length-set, drop-set-lt, get_or-set_same}
use Rattle.std.proofs.lemmas.List.Elements.{All-set}
use Rattle.altair_laws.proofs.Words.{AreDrives, CurrentSector, Drives, SECTOR_BYTES, TRACKS, after_command, after_data, after_issue, after_keep, commanded, commanded_drive, commanded_sector, drive_at_boot, drive_of, has_bit, has_room, is_at, is_busy_on, is_head_loaded, is_written, issued_at, issued_by, kept_at, loaded, may_fill, moves_head, started, stepped_in, stepped_out, unloaded, where_set, with_byte_filled, write_of}
use Rattle.disk_dcdd.specs.declared.drive.Drive.{Drive}
use Rattle.altair_laws.proofs.Drives.{LAST_BYTE, IsOver, Stands, Calm, calm-refl, Continues, Same, same-over, keeps}

-- the bits of OUT 09h
abbrev STEP_IN : ℕ
STEP_IN = 0

abbrev STEP_OUT : ℕ
STEP_OUT = 1

abbrev HEAD_LOAD : ℕ
HEAD_LOAD = 2

abbrev HEAD_UNLOAD : ℕ
HEAD_UNLOAD = 3

abbrev WRITE_ENABLE : ℕ
WRITE_ENABLE = 7

-- ---- OUT 09h

where_not_set : (command bit : ℕ) (change : Drive → Drive) (drive : Drive) → has_bit command bit ≡ false
    → where_set command bit change drive ≡ drive
where_not_set command bit change drive e = ap (λ b. cond b (change drive) drive) e

-- if the head does not move, the drive is at most loaded
unmoved : (command : ℕ) (drive : Drive) → moves_head command ≡ false
    → commanded_drive command drive ≡ where_set command HEAD_LOAD loaded drive
unmoved command drive e =
    let all = or_parts (has_bit command STEP_IN || has_bit command STEP_OUT) (has_bit command HEAD_UNLOAD) e in
    let steps = or_parts (has_bit command STEP_IN) (has_bit command STEP_OUT) all.0 in
    where_not_set command HEAD_UNLOAD unloaded _ all.1
    ∙ ap (where_set command HEAD_LOAD loaded)
    (where_not_set command STEP_OUT stepped_out _ steps.1 ∙ where_not_set command STEP_IN stepped_in drive steps.0)

load-track : (b : Bool) (drive : Drive) → (cond b (loaded drive) drive).track ≡ drive.track
load-track true drive = refl
load-track false drive = refl

load-loaded : (b : Bool) (drive : Drive) → drive.loaded ≡ true → (cond b (loaded drive) drive).loaded ≡ true
load-loaded true drive e = refl
load-loaded false drive e = e

set-track : (b : Bool) (change : Drive → Drive) → ((x : Drive) → x.track < TRACKS → (change x).track < TRACKS)
    → (drive : Drive) → drive.track < TRACKS → (cond b (change drive) drive).track < TRACKS
set-track true change keep drive h = keep drive h
set-track false change keep drive h = h

-- the head stays on the disk
commanded-track : (command : ℕ) (drive : Drive) → drive.track < TRACKS → (commanded_drive command drive).track < TRACKS
commanded-track command drive h =
    set-track (has_bit command HEAD_UNLOAD) unloaded (λ x t. t) _
    (set-track (has_bit command HEAD_LOAD) loaded (λ x t. t) _
    (set-track (has_bit command STEP_OUT) stepped_out (λ x t. (omega arith)) _
    (set-track (has_bit command STEP_IN) stepped_in (λ x t. (omega arith)) drive h)))

pub drive-track : (d : Drives) (drive : ℕ) → Stands d → drive < d.attached → (drive_of d drive).track < TRACKS
drive-track d drive h a =
    let f = h.few in let n = h.drives.count in
    h.drives.tracks drive drive_at_boot (omega arith)

commanded-drives : (d : Drives) (command drive : ℕ) → Stands d → drive < d.attached
    → AreDrives d.attached (slice_set d.drives drive (commanded_drive command (drive_of d drive)))
commanded-drives d command drive h a = record {
  count = length-set d.drives drive _ ∙ h.drives.count;
  tracks = All-set (λ (x : Drive). x.track < TRACKS) d.drives drive _
      (commanded-track command (drive_of d drive) (drive-track d drive h a)) h.drives.tracks;
  unattached =
      subst (All (λ (x : Drive). x ≡ drive_at_boot))
      (sym (drop-set-lt d.attached d.drives drive _ a)) h.drives.unattached;
}

-- if a sector stays under the head, the drive is as it was
commanded-over : (d : Drives) (command drive : ℕ) → Stands d → drive < d.attached → d.selected ≡ Some drive
    → (o : Option CurrentSector) → IfSome o (IsOver d)
    → IfSome (commanded_sector command o) (IsOver (commanded d command drive))
commanded-over d command drive h a e None over = tt
commanded-over d command drive h a e (Some s) over = at (is_written s || moves_head command) refl
  where
    after : Drives
    after = commanded d command drive

    inside : drive < length d.drives
    inside = let f = h.few in let n = h.drives.count in omega arith

    drive_is : drive_of (commanded d command drive) drive ≡ commanded_drive command (drive_of d drive)
    drive_is = get_or-set_same d.drives drive (commanded_drive command (drive_of d drive)) drive_at_boot inside

    stays : (b : Bool) → Continues s (cond b (started s) s)
    stays true =
        record { sector = refl; bytes = refl; unfinished = λ u. record { read = u.read; filled = omega arith } }
    stays false = record { sector = refl; bytes = refl; unfinished = λ u. u }

    at : (b : Bool) → (is_written s || moves_head command) ≡ b
        → IfSome (cond b None (Some (cond (has_bit command WRITE_ENABLE) (started s) s)))
        (IsOver (commanded d command drive))
    at true q = tt
    at false q =
        let m = (or_parts (is_written s) (moves_head command) q).1 in
        let is : drive_of (commanded d command drive) drive ≡ where_set command HEAD_LOAD loaded (drive_of d drive) =
        drive_is ∙ unmoved command (drive_of d drive) m in
        let track : (drive_of (commanded d command drive) drive).track ≡ (drive_of d drive).track =
        ap (λ (x : Drive). x.track) is ∙ load-track (has_bit command HEAD_LOAD) (drive_of d drive) in
        let was : (drive_of d drive).loaded ≡ true =
        sym (ap (λ o. option_map_or (λ n. (drive_of d n).loaded) o false) e) ∙ over.head in
        let head : is_head_loaded (commanded d command drive) ≡ is_head_loaded d =
        ap (λ o. option_map_or (λ n. (drive_of (commanded d command drive) n).loaded) o false) e
        ∙ ap (λ (x : Drive). x.loaded) is ∙ load-loaded (has_bit command HEAD_LOAD) (drive_of d drive) was
        ∙ sym over.head in
        same-over d (commanded d command drive) (Some s) (Some (cond (has_bit command WRITE_ENABLE) (started s) s))
        (stays (has_bit command WRITE_ENABLE)) head
        (λ sector. ap (λ o. option_map_or (is_busy_on (commanded d command drive) sector) o false) e
        ∙ ap (λ n. list_any (is_at drive n sector) d.outstanding) track
        ∙ sym (ap (λ o. option_map_or (is_busy_on d sector) o false) e))
        over

commanded-whole : (command : ℕ) (o : Option CurrentSector) → IfSome o (λ s. length s.bytes ≡ SECTOR_BYTES)
    → IfSome (commanded_sector command o) (λ s. length s.bytes ≡ SECTOR_BYTES)
commanded-whole command None h = tt
commanded-whole command (Some s) h = at (is_written s || moves_head command) (has_bit command WRITE_ENABLE)
  where
    at : (b c : Bool) → IfSome (cond b None (Some (cond c (started s) s))) (λ s. length s.bytes ≡ SECTOR_BYTES)
    at true c = tt
    at false true = h
    at false false = h

pub calm-command : (d : Drives) (command : ℕ) → Calm d (after_command d command)
calm-command d command = go d.selected refl
  where
    go : (o : Option ℕ) → d.selected ≡ o → Calm d (option_map_or (commanded d command) o d)
    go None e = calm-refl d
    go (Some drive) e = record {
      attached = refl;
      issued = refl;
      outstanding = refl;
      stands = λ h. (let a : drive < d.attached = subst (λ o. IfSome o (λ n. n < d.attached)) e h.selected in record {
        some = h.some;
        few = h.few;
        selected = h.selected;
        drives = commanded-drives d command drive h a;
        current = commanded-over d command drive h a e d.current h.current;
        outstanding = h.outstanding;
      });
      whole = λ h w. commanded-whole command d.current w;
    }

-- ---- OUT 0Ah of a byte that issues no write

-- no byte 137 is kept: it would have issued the write
kept-few : (d : Drives) (byte drive : ℕ) (s : CurrentSector) (filled : ℕ) → issued_at d byte drive s filled ≡ None
    → may_fill (has_room d) filled ≡ true → filled + 1 < SECTOR_BYTES
kept-few d byte drive s filled none fits =
    at (filled == LAST_BYTE) (has_room d) refl refl none
    (and_parts (nat_lt filled SECTOR_BYTES) (has_room d || not (filled == LAST_BYTE)) fits)
  where
    at : (a b : Bool) → (filled == LAST_BYTE) ≡ a → has_room d ≡ b
        → cond (a && b) (Some (write_of d (with_byte_filled s filled byte) drive)) None ≡ None
        → (nat_lt filled SECTOR_BYTES ≡ true) × ((has_room d || not (filled == LAST_BYTE)) ≡ true)
        → filled + 1 < SECTOR_BYTES
    at false b e r n f = let k = eqb-false filled LAST_BYTE e in let l = ltb-true filled SECTOR_BYTES f.0 in omega arith
    at true true e r n f = (cc)
    at true false e r n f =
        absurd (both_ways (has_room d || not (filled == LAST_BYTE)) (ap (λ x. x || not (filled == LAST_BYTE)) r
        ∙ ap not e) f.1)

pub calm-data : (d : Drives) (byte : ℕ) → issued_by d byte ≡ None → Calm d (after_data d byte)
calm-data d byte none =
    subst (λ o. Calm d (option_map_or (after_issue d) o (after_keep d byte))) (sym none) (here d.current refl)
  where
    fill : (s : CurrentSector) (filled : ℕ) → d.current ≡ Some s → s.filled ≡ Some filled → (b : Bool)
        → may_fill (has_room d) filled ≡ b
        → Calm d (cond b (record d { current = Some (with_byte_filled s filled byte) }) d)
    fill s filled e f false q = calm-refl d
    fill s filled e f true q =
        keeps d (Some (with_byte_filled s filled byte))
        (λ h. subst (λ o. Same o (Some (with_byte_filled s filled byte))) (sym e) (record {
          sector = refl;
          bytes = length-set s.bytes filled byte;
          unfinished = λ u. record { read = u.read; filled = few h d.selected refl };
        }))
      where
        few : Stands d → (o : Option ℕ) → d.selected ≡ o → filled + 1 < SECTOR_BYTES
        few h None r =
            let over : IsOver d s = subst (λ o. IfSome o (IsOver d)) e h.current in
            absurd (both_ways (is_head_loaded d)
            (ap (λ o. option_map_or (λ n. (drive_of d n).loaded) o false) r) over.head)
        few h (Some drive) r = kept-few d byte drive s filled (is_none' drive r) q
          where
            is_none' : (drive : ℕ) → d.selected ≡ Some drive → issued_at d byte drive s filled ≡ None
            is_none' drive r =
                sym (ap (λ o. option_and_then (issued_at d byte drive s) o) f)
                ∙ sym (ap (λ o. option_and_then (λ t. option_and_then (issued_at d byte drive t) t.filled) o) e)
                ∙ sym (ap (λ o. option_and_then
                (λ n. option_and_then (λ t. option_and_then (issued_at d byte n t) t.filled) d.current) o) r)
                ∙ none

    filling : (s : CurrentSector) → d.current ≡ Some s → (o : Option ℕ) → s.filled ≡ o
        → Calm d (option_map_or (kept_at d byte s) o d)
    filling s e None f = calm-refl d
    filling s e (Some filled) f = fill s filled e f (may_fill (has_room d) filled) refl

    here : (o : Option CurrentSector) → d.current ≡ o
        → Calm d (option_map_or (λ s. option_map_or (kept_at d byte s) s.filled d) o d)
    here None e = calm-refl d
    here (Some s) e = filling s e s.filled refl
