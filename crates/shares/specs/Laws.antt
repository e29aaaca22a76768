-- What holds of sharing and joining, each a statement that a function's contract carries.
use Rattle.std.specs.Prelude.{◌≡◌, ℕ, ◌<◌, ◌≤◌, List, map, length}
use Rattle.field.specs.Field.{p, ◌⊕◌, ◌⊗◌}
use Rattle.shares.specs.Circle.{Circle, m, Fits, members}
use Rattle.shares.specs.Polynomial.{value, dealt, added, scaled}
use Rattle.shares.specs.Weights.{weights, dot, joined}

-- The weights for 1 to k give back the constant, the value at 0, of every polynomial of at most k coefficients.
abbrev pub Recombine : Type 0
Recombine = (k : ℕ) → k ≤ 15 → (f : List ℕ) → length f ≤ k → dot (weights k) (map (value f) (members k)) ≡ value f 0

-- A dealing joins to what was dealt, whatever the coins.
abbrev pub Shared : Type 0
Shared = (z : Circle) → Fits z → (v : ℕ) → v < p → (coins : List ℕ) → length coins ≡ z.t → joined (m z) (dealt z.n v coins) ≡ v

-- Shares of a sum are the sums of shares, and shares of a multiple are the multiples.
pub record Linear (n v : ℕ) (cs : List ℕ) : Type 0 where
  pub sums : (w : ℕ) (ds : List ℕ) → length ds ≡ length cs → dealt n (v ⊕ w) (added cs ds) ≡ added (dealt n v cs) (dealt n w ds)
  pub multiples : (k : ℕ) → dealt n (k ⊗ v) (scaled k cs) ≡ scaled k (dealt n v cs)

abbrev pub Linearity : Type 0
Linearity = (n v : ℕ) (cs : List ℕ) → Linear n v cs
