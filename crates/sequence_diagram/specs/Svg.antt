-- A picture as the text of an SVG file.
use Rattle.std.specs.Prelude.{◌≡◌, ℕ, List, ◌++◌, codes}
use Rattle.std.specs.Fmt.{decimal}
use Rattle.sequence_diagram.specs.Columns.{columns_of}
use Rattle.sequence_diagram.specs.Geometry.{width_of}
use Rattle.sequence_diagram.specs.Lines.{AreLines}
use Rattle.sequence_diagram.specs.Plans.{bottom_of, height_over, width_in}
use Rattle.sequence_diagram.specs.declared.moment.Moment.{Moment}

-- its first tag says how wide and how high it is, in pixels
abbrev pub head_text : ℕ → ℕ → List ℕ
head_text width height =
    codes "<svg xmlns=\"http://www.w3.org/2000/svg\" viewBox=\"0 0 " ++ (decimal width ++ (codes " " ++ (decimal height
    ++ (codes "\" width=\"" ++ (decimal width ++ (codes "\" height=\"" ++ (decimal height ++ codes "\">\n")))))))

-- after its style come its elements, and the tag that ends it
abbrev pub svg_text : ℕ → ℕ → List ℕ → List ℕ → List ℕ
svg_text width height style elements = head_text width height ++ (style ++ (elements ++ codes "</svg>\n"))

-- a whole picture of this size
pub record HasSize (width height : ℕ) (picture : List ℕ) : Type 0 where
  pub style : List ℕ
  pub elements : List ℕ
  pub is : picture ≡ svg_text width height style elements

-- the picture of a run: as wide as its columns, and as high as its lines and what is below them
pub record IsPicture (moments : List Moment) (picture : List ℕ) : Type 0 where
  pub of : List ℕ
  pub lines : ℕ
  pub are_lines : AreLines 0 moments of lines
  pub has_size : HasSize (width_of (width_in (columns_of moments))) (height_over (bottom_of lines)) picture
