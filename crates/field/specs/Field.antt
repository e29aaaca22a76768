-- Arithmetic modulo the prime p. The operations take any numbers and give numbers below p.
use Rattle.std.specs.Prelude.{ℕ, ◌+◌, ◌-◌, ◌*◌, ◌%◌, Bool, List, [], ◌∷◌, nat_lt, slice_index}
use Rattle.std.specs.List.{list_all}

infixl 65 ◌⊕◌
infixl 70 ◌⊗◌
abbrev pub p : ℕ
p = 2147483647

abbrev pub ◌⊕◌ : ℕ → ℕ → ℕ
a ⊕ b = (a + b) % p

abbrev pub ◌⊗◌ : ℕ → ℕ → ℕ
a ⊗ b = (a * b) % p

abbrev pub neg : ℕ → ℕ
neg a = (p - a % p) % p

-- every number of a list is below p
abbrev pub below : List ℕ → Bool
below = list_all (λ x. nat_lt x p)

-- every number of every list
abbrev pub all_below : List (List ℕ) → Bool
all_below = list_all below

-- 1/1, 1/2, .., 1/15
abbrev pub inverses : List ℕ
inverses =
    1
    ∷ 1073741824
    ∷ 1431655765
    ∷ 536870912
    ∷ 858993459
    ∷ 1789569706
    ∷ 1840700269
    ∷ 268435456
    ∷ 1908874353
    ∷ 1503238553
    ∷ 1952257861
    ∷ 894784853
    ∷ 1486719448
    ∷ 1994091958
    ∷ 286331153
    ∷ []

abbrev pub inv : ℕ → ℕ
inv k = slice_index inverses (k - 1)
