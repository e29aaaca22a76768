-- Two runs side by side: what each holds, and the coins that the second draws for a line.
use Rattle.std.specs.Prelude.{◌≡◌, ℕ, ◌+◌, ◌<◌, ◌≤◌, cond, T, List, [], map, length, take, drop, slice_index_or}
use Rattle.shares.specs.Circle.{Circle}
use Rattle.sheets.specs.Lines.{good_line, deals}
use Rattle.sheets.specs.declared.line.Line.{Line}
use Rattle.runs.specs.Row.{row_of}
use Rattle.runs.specs.Pairing.{paired_draw}
use Rattle.runs.specs.Run.{State}

-- these rows and figures are those of a state
pub record Side (s : State) (rows : List (List ℕ)) (figures : ℕ → List ℕ) : Type 0 where
  pub same_rows : rows ≡ map row_of s.held
  pub same_figures : figures ≡ s.figures

-- a good line, and t coins for each who deals
pub record Drawable (z : Circle) (l : Line) (coins figures : ℕ → List ℕ) (rows : List (List ℕ)) (figures' : ℕ → List ℕ) (rows' : List (List ℕ)) : Type 0 where
  pub good : T (good_line z.n (length rows) l)
  pub good' : T (good_line z.n (length rows') l)
  pub enough : (i : ℕ) → T (deals z l i) → z.t ≤ length (coins i)

-- the mask's t coefficients after the constant, in an array of its coefficients
abbrev pub higher : Circle → List ℕ → List ℕ
higher z mask = take z.t (drop 1 mask)

-- the draw of dealer i is at place i - 1
abbrev pub DrawnAs : Circle → List ℕ → Line → State → State → List (List ℕ) → Type 0
DrawnAs z g l s s' draws =
    (k : ℕ) → k < z.n → T (deals z l (k + 1)) → take z.t (slice_index_or draws k []) ≡ paired_draw z g l s s' (k + 1)

-- each dealer's draw, and none of who deals nothing
abbrev pub LentAs : Circle → Line → List (List ℕ) → List (List ℕ) → Type 0
LentAs z l draws lent = (k : ℕ) → k < 15 → slice_index_or lent k [] ≡ take (cond (deals z l (k + 1)) z.t 0) (slice_index_or draws k [])
