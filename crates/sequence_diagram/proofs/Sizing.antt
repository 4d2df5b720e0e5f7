-- The size of a picture, and whose picture it is.
use Rattle.std.proofs.Common.{◌≡◌, ℕ, List, Result, Ok, Err, IfOk, subst}
use Rattle.sequence_diagram.specs.Columns.{columns_of}
use Rattle.sequence_diagram.specs.Geometry.{width_of}
use Rattle.sequence_diagram.specs.Lines.{AreLines}
use Rattle.sequence_diagram.specs.Plans.{bottom_of, height_over, width_in}
use Rattle.sequence_diagram.specs.Svg.{HasSize, IsPicture, svg_text}
use Rattle.sequence_diagram.specs.declared.moment.Moment.{Moment}
use Rattle.sequence_diagram.specs.declared.place.Lifeline.{Lifeline}

-- a text is of the size that its first tag says
pub has_size : {A E : Type 0} (bytes : A → List ℕ) (result : Result A E) (width height w h : ℕ) (style elements : List ℕ)
    → width ≡ w → height ≡ h → IfOk result (λ picture. bytes picture ≡ svg_text width height style elements)
    → IfOk result (λ picture. HasSize w h (bytes picture))
has_size bytes (Ok picture) width height w h style elements wide high is =
    subst (λ n. HasSize n h (bytes picture)) wide
    (subst (λ n. HasSize width n (bytes picture)) high (record { style = style; elements = elements; is = is }))
has_size bytes (Err refused) width height w h style elements wide high is = tt

-- it is the picture of a run whose columns and lines it has room for
pub is_picture : {A E : Type 0} (bytes : A → List ℕ) (result : Result A E) (moments : List Moment) (places : List Lifeline)
    (of : List ℕ) (lines bottom : ℕ) → places ≡ columns_of moments → AreLines 0 moments of lines → bottom ≡ bottom_of lines
    → IfOk result (λ picture. HasSize (width_of (width_in places)) (height_over bottom) (bytes picture))
    → IfOk result (λ picture. IsPicture moments (bytes picture))
is_picture bytes (Ok picture) moments places of lines bottom columns are ends has = record {
  of = of;
  lines = lines;
  are_lines = are;
  has_size = subst (λ p. HasSize (width_of (width_in p)) (height_over (bottom_of lines)) (bytes picture)) columns
      (subst (λ b. HasSize (width_of (width_in places)) (height_over b) (bytes picture)) ends has);
}
is_picture bytes (Err refused) moments places of lines bottom columns are ends has = tt
