-- What holds of the arithmetic, each a statement that a function's contract carries.
use Rattle.std.specs.Prelude.{◌≡◌, ℕ, ◌<◌, ◌≤◌}
use Rattle.field.specs.Field.{p, ◌⊗◌, inv}

-- The table of inverses: for k from 1 to 15, `inv k` is the one number below p that gives 1 when multiplied by k.
pub record Inverse (k : ℕ) : Type 0 where
  pub gives_one : k ⊗ inv k ≡ 1
  pub below_p : inv k < p
  pub only : (x : ℕ) → x < p → k ⊗ x ≡ 1 → x ≡ inv k

abbrev pub Inverses : Type 0
Inverses = (k : ℕ) → 0 < k → k ≤ 15 → Inverse k
