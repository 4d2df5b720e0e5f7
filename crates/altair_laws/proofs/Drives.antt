-- What holds of the controller along a trace: all that makes it well-formed, except the length of the sector under the
-- head, which is that of the input that brought it. Most of what the guest does is calm: it issues nothing, completes
-- nothing, and leaves at most the same sector under the head.
use Rattle.std.proofs.Common.{◌≡◌, ℕ, ◌+◌, ◌≤◌, ◌<◌, Bool, true, false, cond, length, Option, Some, None, refl, sym, ap, ◌∙◌, subst, arith}
use Rattle.std.specs.Prelude.{IsTrue, IfSome, ◌&&◌, ◌==◌, nat_lt}
use Rattle.std.specs.Option.{option_map_or}
use Rattle.std.proofs.lemmas.Bool.{ltb-true, eqb-false, eqb-true}
use Rattle.disk_dcdd.specs.Completion.{is_selected}
use Rattle.altair_laws.proofs.Words.{AreDrives, AreOutstanding, CurrentSector, DRIVES, Drives, IsUnfinished, SECTORS, SECTOR_BYTES, after_position, after_read, after_reading, after_select, after_showing, is_head_loaded, is_sector_busy, is_shown_now, may_read, selected_by}

-- the drive that a test tells is selected
pub selected_is : (d : Drives) (drive : ℕ) → is_selected d drive ≡ true → d.selected ≡ Some drive
selected_is d drive is = go d.selected is
  where
    go : (selected : Option ℕ) → option_map_or (λ selected. selected == drive) selected false ≡ true → selected ≡ Some drive
    go None e = (cc)
    go (Some selected) e = ap (λ n. Some n) (eqb-true selected drive e)

-- the place of byte 137
abbrev pub LAST_BYTE : ℕ
LAST_BYTE = 136

-- an unfinished sector is under the loaded head, and no write of it is outstanding
pub record IsOver (d : Drives) (s : CurrentSector) : Type 0 where
  pub head : IsTrue (is_head_loaded d)
  pub sector : s.sector < SECTORS
  pub unfinished : IsUnfinished s
  pub idle : is_sector_busy d s.sector ≡ false

-- what holds of the controller
pub record Stands (d : Drives) : Type 0 where
  pub some : 1 ≤ d.attached
  pub few : d.attached ≤ DRIVES
  pub selected : IfSome d.selected (λ drive. drive < d.attached)
  pub drives : AreDrives d.attached d.drives
  pub current : IfSome d.current (IsOver d)
  pub outstanding : AreOutstanding d.attached d.issued d.outstanding

-- the sector under the head has all its bytes
abbrev pub IsWholeSector : Drives → Type 0
IsWholeSector d = IfSome d.current (λ s. length s.bytes ≡ SECTOR_BYTES)

-- nothing is issued and nothing is completed
pub record Calm (d e : Drives) : Type 0 where
  pub attached : e.attached ≡ d.attached
  pub issued : e.issued ≡ d.issued
  pub outstanding : e.outstanding ≡ d.outstanding
  pub stands : Stands d → Stands e
  pub whole : Stands d → IsWholeSector d → IsWholeSector e

pub calm-refl : (d : Drives) → Calm d d
calm-refl d = record { attached = refl; issued = refl; outstanding = refl; stands = λ h. h; whole = λ h w. w }

-- ---- the sector under the head

-- it is the same sector
pub record Continues (s t : CurrentSector) : Type 0 where
  pub sector : t.sector ≡ s.sector
  pub bytes : length t.bytes ≡ length s.bytes
  pub unfinished : IsUnfinished s → IsUnfinished t

-- the same sector is under the head, or none
abbrev pub Same : Option CurrentSector → Option CurrentSector → Type 0
Same old None = Unit {0}
Same None (Some t) = ⊥
Same (Some s) (Some t) = Continues s t

pub same-over : (d e : Drives) (old new : Option CurrentSector) → Same old new
    → is_head_loaded e ≡ is_head_loaded d → ((sector : ℕ) → is_sector_busy e sector ≡ is_sector_busy d sector)
    → IfSome old (IsOver d) → IfSome new (IsOver e)
same-over d e old None same head busy h = tt
same-over d e None (Some t) same head busy h = absurd same
same-over d e (Some s) (Some t) same head busy h = record {
  head = head ∙ h.head;
  sector = subst (λ n. n < SECTORS) (sym same.sector) h.sector;
  unfinished = same.unfinished h.unfinished;
  idle = busy t.sector ∙ ap (is_sector_busy d) same.sector ∙ h.idle;
}

pub same-whole : (old new : Option CurrentSector) → Same old new
    → IfSome old (λ s. length s.bytes ≡ SECTOR_BYTES) → IfSome new (λ s. length s.bytes ≡ SECTOR_BYTES)
same-whole old None same h = tt
same-whole None (Some t) same h = absurd same
same-whole (Some s) (Some t) same h = same.bytes ∙ h

-- only the sector changes
pub keeps : (d : Drives) (new : Option CurrentSector) → (Stands d → Same d.current new)
    → Calm d (record d { current = new })
keeps d new same = record {
  attached = refl;
  issued = refl;
  outstanding = refl;
  stands = λ h. record {
    some = h.some;
    few = h.few;
    selected = h.selected;
    drives = h.drives;
    current = same-over d (record d { current = new }) d.current new (same h) refl (λ sector. refl) h.current;
    outstanding = h.outstanding;
  };
  whole = λ h w. same-whole d.current new (same h) w;
}

-- IN 09h
pub calm-position : (d : Drives) → Calm d (after_position d)
calm-position d = keeps d (after_showing d.current) (λ h. shows d.current)
  where
    at : (s : CurrentSector) (b : Bool) → Same (Some s) (cond b (Some (record s { shown = true })) None)
    at s true = record { sector = refl; bytes = refl; unfinished = λ u. record { read = u.read; filled = u.filled } }
    at s false = tt

    shows : (o : Option CurrentSector) → Same o (after_showing o)
    shows None = tt
    shows (Some s) = at s (is_shown_now s)

-- IN 0Ah
pub calm-read : (d : Drives) → Calm d (after_read d)
calm-read d = keeps d (after_reading d.current) (λ h. reads d.current)
  where
    itself : (s : CurrentSector) → Continues s s
    itself s = record { sector = refl; bytes = refl; unfinished = λ u. u }

    last : (s : CurrentSector) (b : Bool) → (s.read == LAST_BYTE) ≡ b
        → Same (Some s) (cond b None (Some (record s { read = s.read + 1 })))
    last s true e = tt
    last s false e = record {
      sector = refl;
      bytes = refl;
      unfinished =
          λ u. (let n = eqb-false s.read LAST_BYTE e in let r = u.read in
          record { read = omega arith; filled = u.filled });
    }

    at : (s : CurrentSector) (b : Bool)
        → Same (Some s) (cond b (cond (s.read == LAST_BYTE) None (Some (record s { read = s.read + 1 }))) (Some s))
    at s true = last s (s.read == LAST_BYTE) refl
    at s false = itself s

    reads : (o : Option CurrentSector) → Same o (after_reading o)
    reads None = tt
    reads (Some s) = at s (may_read s)

-- OUT 08h
pub calm-select : (d : Drives) (byte : ℕ) → Calm d (after_select d byte)
calm-select d byte = record {
  attached = refl;
  issued = refl;
  outstanding = refl;
  stands = λ h. record {
    some = h.some;
    few = h.few;
    selected = within d.attached;
    drives = h.drives;
    current = tt;
    outstanding = h.outstanding;
  };
  whole = λ h w. tt;
}
  where
    at : (drive attached : ℕ) (b c : Bool) → nat_lt drive attached ≡ c
        → IfSome (cond (b && c) (Some drive) None) (λ n. n < attached)
    at drive attached false c e = tt
    at drive attached true false e = tt
    at drive attached true true e = ltb-true drive attached e

    within : (attached : ℕ) → IfSome (selected_by byte attached) (λ n. n < attached)
    within attached = at _ attached _ _ refl
