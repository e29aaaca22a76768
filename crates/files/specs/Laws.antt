-- What holds of the files, each a statement that a function's contract carries.
use Rattle.std.specs.Prelude.{◌≡◌, ℕ, ◌+◌, ◌%◌, ◌<◌, ◌≤◌, Bool, T, ◌⊎◌, ◌↔◌, List, ◌∷◌, ◌++◌, length, Some, Ok, Err, ◌≢◌, nat_lt, slice_index}
use Rattle.std.specs.List.{list_all}
use Rattle.field.specs.Field.{p, below, all_below}
use Rattle.sheets.specs.declared.refusal.Refusal.TheVariants.{Malformed, OutOfRange}
use Rattle.files.specs.Circles.{circle_figures}
use Rattle.files.specs.Files.{low, coin_in, coins_of, figure_file}
use Rattle.files.specs.Words.{words}
use Rattle.files.specs.Writing.{bytes_of, circle_bytes, counts_fit}

-- Each coin comes from exactly two words, so coins of uniform words are uniform.
abbrev pub CoinWords : Type 0
CoinWords = (v w : ℕ) → v < p → w < 4294967296 → (coin_in w ≡ Some v) ↔ ((w ≡ v) ⊎ (w ≡ v + 2147483648))

-- A word that is passed over may as well not be there.
abbrev pub PassedOver : Type 0
PassedOver = (xs ys : List ℕ) (w : ℕ) → low w ≡ p → coins_of (xs ++ w ∷ ys) ≡ coins_of (xs ++ ys)

-- some figure of a file is p or above
abbrev pub TooLarge : List ℕ → Type 0
TooLarge bytes = (k : ℕ) × (k < length (words bytes)) × (p ≤ slice_index (words bytes) k)

-- A figure file is refused with 1 if bytes are left over, else with 3 if a figure is too large, and else it is read.
pub record FigureAnswer (bytes : List ℕ) : Type 0 where
  pub malformed : (figure_file bytes ≡ Err Malformed) ↔ (length bytes % 4 ≢ 0)
  pub out_of_range : (figure_file bytes ≡ Err OutOfRange) ↔ ((length bytes % 4 ≡ 0) × TooLarge bytes)
  pub else_read : length bytes % 4 ≡ 0 → (TooLarge bytes → ⊥) → figure_file bytes ≡ Ok (words bytes)

abbrev pub FigureAnswers : Type 0
FigureAnswers = (bytes : List ℕ) → FigureAnswer bytes

-- every number is a byte
abbrev pub all_bytes : List ℕ → Bool
all_bytes = list_all (λ b. nat_lt b 256)

-- Writing and reading undo each other.
pub record Undo : Type 0 where
  pub read_figures : (figures : List ℕ) → T (below figures) → figure_file (bytes_of figures) ≡ Ok figures
  pub read_circle : (lists : List (List ℕ)) → T (all_below lists) → T (counts_fit lists) → circle_figures (length lists) (circle_bytes lists) ≡ Ok lists
  pub write_figures : (bytes figures : List ℕ) → T (all_bytes bytes) → figure_file bytes ≡ Ok figures → bytes_of figures ≡ bytes
