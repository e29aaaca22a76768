-- Rows of shares as the code holds them: 15 words, member j's at place j - 1.
use Rattle.std.specs.Prelude.{◌≡◌, ℕ, ◌-◌, Bool, List, ◌++◌, map, Ok, Err, filter, Result, slice_index}
use Rattle.shares.specs.Circle.{members}
use Rattle.sheets.specs.declared.refusal.Refusal.{Refusal}
use Rattle.sheets.specs.declared.refusal.Refusal.TheVariants.{NoMemory}

unfoldable pub row_of : (ℕ → ℕ) → List ℕ
row_of f = map f (members 15)

-- member j's share in a row
abbrev pub in_row : List ℕ → ℕ → ℕ
in_row row j = slice_index row (j - 1)

-- the shares of the watched among 1 to n
abbrev pub picked : (ℕ → Bool) → ℕ → List ℕ → List ℕ
picked c n row = map (in_row row) (filter c (members n))

-- these words are appended, if memory is found
abbrev pub Appended : List ℕ → List ℕ → List ℕ → Result (Unit {0}) Refusal → Type 0
Appended words before after (Ok u) = after ≡ before ++ words
Appended words before after (Err e) = e ≡ NoMemory
