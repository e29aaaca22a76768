-- What a sheet means in the plain: of figures that are one list for each member.
use Rattle.std.specs.Prelude.{ℕ, Bool, true, cond, ◌&&◌, List, [], ◌∷◌, ◌++◌, length, drop, nat_lt, slice_index, slice_index_or}
use Rattle.field.specs.Field.{◌⊕◌, ◌⊗◌}
use Rattle.sheets.specs.Lines.{gives}
use Rattle.sheets.specs.declared.line.Line.{Line}
use Rattle.sheets.specs.declared.line.Line.TheVariants.{Input, Sum, Times, Product, Open}

-- the values made so far, and each member's figures that are not taken yet
pub record Plain : Type 0 where
  pub values : List ℕ
  pub figures : ℕ → List ℕ

-- what a line makes, if anything
abbrev pub plain_made : Line → Plain → List ℕ
plain_made (Input w) s = slice_index (s.figures w) 0 ∷ []
plain_made (Sum a e) s = (slice_index_or s.values a 0 ⊕ slice_index_or s.values e 0) ∷ []
plain_made (Times k a) s = (k ⊗ slice_index_or s.values a 0) ∷ []
plain_made (Product a e) s = (slice_index_or s.values a 0 ⊗ slice_index_or s.values e 0) ∷ []
plain_made (Open a) s = []

-- what a line opens, if anything
abbrev pub plain_opened : Line → Plain → List ℕ
plain_opened (Input w) s = []
plain_opened (Sum a e) s = []
plain_opened (Times k a) s = []
plain_opened (Product a e) s = []
plain_opened (Open a) s = slice_index s.values a ∷ []

-- each member's figures after a line
abbrev pub figures_after : Line → (ℕ → List ℕ) → ℕ → List ℕ
figures_after l figures i = cond (gives l i) (drop 1 (figures i)) (figures i)

abbrev pub plain_after : Line → Plain → Plain
plain_after l s = record { values = s.values ++ plain_made l s; figures = figures_after l s.figures }

unfoldable pub plain_run : List Line → Plain → List ℕ
plain_run [] s = []
plain_run (l ∷ ls) s = plain_opened l s ++ plain_run ls (plain_after l s)

-- what the sheet opens, in the order of its open lines, of figures taken in the order of its input lines
abbrev pub result : List Line → (ℕ → List ℕ) → List ℕ
result ls figures = plain_run ls (record { values = []; figures = figures })

-- there is a figure for this line, and for each of the lines
abbrev pub has_figure : Line → (ℕ → List ℕ) → Bool
has_figure (Input w) figures = nat_lt 0 (length (figures w))
has_figure (Sum a e) figures = true
has_figure (Times k a) figures = true
has_figure (Product a e) figures = true
has_figure (Open a) figures = true

unfoldable pub have_figures : List Line → (ℕ → List ℕ) → Bool
have_figures [] figures = true
have_figures (l ∷ ls) figures = has_figure l figures && have_figures ls (figures_after l figures)
