-- Polynomials of at most eight coefficients, in an array that is filled up with zeros.
use Rattle.std.specs.Prelude.{◌≡◌, ℕ, ◌<◌, List, ◌∷◌, slice_index}

-- the coefficient before the i-th: there is none before the first
abbrev pub coefficient : List ℕ → ℕ → ℕ
coefficient f i = slice_index (0 ∷ f) i

abbrev pub Holds : List ℕ → List ℕ → Type 0
Holds places f = (i : ℕ) → i < 8 → slice_index places i ≡ slice_index f i
