-- What the readers of sheets answer.
use Rattle.std.specs.Prelude.{◌≡◌, ℕ, true, false, ◌⊎◌, List, ◌++◌, map, Some, None, Ok, Err, vec_items, Result, Vec}
use Rattle.field.specs.Field.{all_below}
use Rattle.std.specs.declared.alloc.Global.{Global}
use Rattle.sheets.specs.Families.{of}
use Rattle.sheets.specs.Meaning.{has_figure, have_figures, figures_after, plain_made, plain_opened, result}
use Rattle.sheets.specs.Reading.{malformed, line_of, verdict, members_of, threshold_of, lines_of}
use Rattle.std.specs.List.{list_any}
use Rattle.sheets.specs.declared.line.Line.{Line}
use Rattle.sheets.specs.declared.refusal.Refusal.{Refusal}
use Rattle.sheets.specs.declared.refusal.Refusal.TheVariants.{NoMemory, Malformed, OutOfRange, NoFigure}
use Rattle.sheets.specs.declared.sheet.Sheet.{Sheet}

abbrev pub LinesAs : List (List ℕ) → Result (Vec Line Global) Refusal → Type 0
LinesAs parts (Ok lines) = (list_any malformed parts ≡ false) × (vec_items lines ≡ map line_of parts)
LinesAs parts (Err e) = (e ≡ NoMemory) ⊎ ((e ≡ Malformed) × (list_any malformed parts ≡ true))

-- a sheet holds the members, the threshold and the lines that its bytes say
pub record Holds (s : Sheet) (n t : ℕ) (lines : List Line) : Type 0 where
  pub members : s.n ≡ n
  pub threshold : s.t ≡ t
  pub same : vec_items s.lines ≡ lines

-- the sheet in the bytes if nothing is wrong with them, else the lowest of what is wrong, or want of memory
abbrev pub ReadAs : List ℕ → Result Sheet Refusal → Type 0
ReadAs bs (Ok s) = (verdict bs ≡ None) × Holds s (members_of bs) (threshold_of bs) (lines_of bs)
ReadAs bs (Err e) = (e ≡ NoMemory) ⊎ (verdict bs ≡ Some e)

-- what a writer answers: all bytes are appended, or, for want of memory, none
abbrev pub AppendedBy : List ℕ → List ℕ → List ℕ → Result (Unit {0}) Refusal → Type 0
AppendedBy bytes before after (Ok u) = after ≡ before ++ bytes
AppendedBy bytes before after (Err e) = (e ≡ NoMemory) × (after ≡ before)

-- one line in the plain: what is made and opened is appended, and its figure is taken
pub record Worked (l : Line) (figures figures' : List (List ℕ)) (values values' opened opened' : List ℕ) : Type 0 where
  pub has : has_figure l (of figures) ≡ true
  pub taken : of figures' ≡ figures_after l (of figures)
  pub made : values' ≡ values ++ plain_made l (record { values = values; figures = of figures })
  pub shown : opened' ≡ opened ++ plain_opened l (record { values = values; figures = of figures })

abbrev pub WorkedAs : Line → List (List ℕ) → List (List ℕ) → List ℕ → List ℕ → List ℕ → List ℕ → Result (Unit {0}) Refusal → Type 0
WorkedAs l figures figures' values values' opened opened' (Ok u) = Worked l figures figures' values values' opened opened'
WorkedAs l figures figures' values values' opened opened' (Err e) = (e ≡ NoMemory) ⊎ ((e ≡ NoFigure) × (has_figure l (of figures) ≡ false))

-- what a sheet's lines open of figures below p, or which figure is wrong or wanting
abbrev pub ResultAs : List Line → List (List ℕ) → Result (Vec ℕ Global) Refusal → Type 0
ResultAs ls figures (Ok opened) = (all_below figures ≡ true) × (have_figures ls (of figures) ≡ true) × (vec_items opened ≡ result ls (of figures))
ResultAs ls figures (Err e) =
    (e ≡ NoMemory) ⊎ (((e ≡ OutOfRange) × (all_below figures ≡ false))
    ⊎ ((e ≡ NoFigure) × (all_below figures ≡ true) × (have_figures ls (of figures) ≡ false)))
