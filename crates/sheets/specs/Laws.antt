-- What holds of reading and writing sheets, each a statement that a function's contract carries.
use Rattle.std.specs.Prelude.{◌≡◌, ℕ, ◌+◌, ◌<◌, ◌≤◌, T, List, length, None}
use Rattle.std.specs.List.{AllByRecursion}
use Rattle.sheets.specs.Bytes.{sheet_bytes}
use Rattle.sheets.specs.Faults.{Fault}
use Rattle.sheets.specs.Lines.{good}
use Rattle.sheets.specs.Reading.{members_of, threshold_of, lines_of, inputs, verdict}
use Rattle.sheets.specs.Refusals.{Answers}
use Rattle.sheets.specs.declared.line.Line.{Line}

-- Bytes are refused with a number if and only if they have a fault of that number and none of a lower one, and read as
-- a sheet if and only if they have none.
abbrev pub Judgement : Type 0
Judgement = (bs : List ℕ) → Answers (Fault bs) (verdict bs)

-- Writing what was read gives the bytes back, so no two byte strings are one sheet.
abbrev pub Rewritten : Type 0
Rewritten =
    (bs : List ℕ) → AllByRecursion (λ b. b < 256) bs → verdict bs ≡ None →
    sheet_bytes (members_of bs) (threshold_of bs) (lines_of bs) ≡ bs

-- Reading what was written gives the sheet back.
pub record Sound (n t : ℕ) (lines : List Line) : Type 0 where
  pub few : n ≤ 15
  pub enough : t + t + 1 ≤ n
  pub some : 0 < length lines
  pub short : length lines ≤ 4096
  pub well : T (good n 0 lines)
  pub given : inputs lines ≤ 1024

pub record ReadBack (n t : ℕ) (lines : List Line) : Type 0 where
  pub passed : verdict (sheet_bytes n t lines) ≡ None
  pub members : members_of (sheet_bytes n t lines) ≡ n
  pub threshold : threshold_of (sheet_bytes n t lines) ≡ t
  pub same : lines_of (sheet_bytes n t lines) ≡ lines

abbrev pub Reread : Type 0
Reread = (n t : ℕ) (lines : List Line) → Sound n t lines → ReadBack n t lines
