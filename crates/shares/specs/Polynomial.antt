-- Polynomials modulo p, and Shamir's sharing by them.
use Rattle.std.specs.Prelude.{ℕ, List, [], ◌∷◌, map}
use Rattle.field.specs.Field.{◌⊕◌, ◌⊗◌}
use Rattle.shares.specs.Circle.{members}

-- the polynomial with these coefficients, the constant first, at x
unfoldable pub value : List ℕ → ℕ → ℕ
value [] x = 0
value (c ∷ cs) x = c ⊕ x ⊗ value cs x

-- member j's share of v under coins c1 .. ct: v + c1 j + .. + ct j^t
abbrev pub share_of : ℕ → List ℕ → ℕ → ℕ
share_of v coins j = value (v ∷ coins) j

-- the shares of members 1 to n
abbrev pub dealt : ℕ → ℕ → List ℕ → List ℕ
dealt n v coins = map (share_of v coins) (members n)

-- lists of equal length, place by place
unfoldable pub added : List ℕ → List ℕ → List ℕ
added [] ys = []
added (x ∷ xs) [] = []
added (x ∷ xs) (y ∷ ys) = (x ⊕ y) ∷ added xs ys

abbrev pub scaled : ℕ → List ℕ → List ℕ
scaled k xs = map (λ x. k ⊗ x) xs
