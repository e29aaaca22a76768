-- The weights that give a polynomial's value at 0 from its values at some points (Lagrange).
use Rattle.std.specs.Prelude.{ℕ, ◌-◌, cond, List, [], ◌∷◌, map, take, ◌==◌, nat_lt}
use Rattle.field.specs.Field.{◌⊕◌, ◌⊗◌, neg, inv}
use Rattle.shares.specs.Circle.{members}

-- k / (k - i), for two different points
abbrev pub ratio : ℕ → ℕ → ℕ
ratio i k = k ⊗ cond (nat_lt i k) (inv (k - i)) (neg (inv (i - k)))

-- the product of k / (k - i) over all other points k
unfoldable pub weight_among : List ℕ → ℕ → ℕ
weight_among [] i = 1
weight_among (k ∷ ks) i = cond (k == i) (weight_among ks i) (ratio i k ⊗ weight_among ks i)

-- for the points 1 to m
abbrev pub weights : ℕ → List ℕ
weights m = map (weight_among (members m)) (members m)

-- the sum of products, place by place
unfoldable pub dot : List ℕ → List ℕ → ℕ
dot [] ys = 0
dot (x ∷ xs) [] = 0
dot (x ∷ xs) (y ∷ ys) = x ⊗ y ⊕ dot xs ys

-- the sum of the first m shares, each times its weight
abbrev pub joined : ℕ → List ℕ → ℕ
joined m shares = dot (weights m) (take m shares)
