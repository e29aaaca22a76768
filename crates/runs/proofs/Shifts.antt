-- Coins shifted by multiples of the mask: no shift changes nothing, opposite shifts undo each other, and the shares of
-- two dealings with shifted coins differ by a multiple of the mask's values.
use Rattle.std.proofs.Common.{◌≡◌, ℕ, suc, ◌<◌, T, ltb, List, [], ◌∷◌, length, sym, refl, ap, ◌∙◌, ap₂, arith, ltb→lt, lt→ltb}
use Rattle.std.proofs.lemmas.List.{length-map}
use Rattle.field.specs.Field.{p, ◌⊕◌, ◌⊗◌, neg, below}
use Rattle.field.proofs.Below.{both_parts, both_from}
use Rattle.field.proofs.Ring.{ring, ⊕-below, ⊕-0, 0-⊗, ⊗-1, ⊗-⊕, ⊕_left_comm, reduced, ⊕-neg}
use Rattle.shares.specs.Polynomial.{value, share_of, added, scaled}
use Rattle.shares.proofs.Linear.{value-added, value-scaled}
use Rattle.shares.proofs.Values.{value-cons}
use Rattle.runs.specs.Pairing.{shifted}

-- how much larger a number is
abbrev pub difference : ℕ → ℕ → ℕ
difference v v' = v' ⊕ neg v

pub length-shifted : (ds xs : List ℕ) → length (shifted ds xs) ≡ length xs
unfolding shifted
length-shifted [] [] = refl
length-shifted (d ∷ ds) [] = refl
length-shifted [] (x ∷ xs) = refl
length-shifted (d ∷ ds) (x ∷ xs) = ap suc (length-shifted ds xs)

pub below-shifted : (ds xs : List ℕ) → T (below xs) → T (below (shifted ds xs))
unfolding shifted
below-shifted [] [] t = tt
below-shifted (d ∷ ds) [] t = tt
below-shifted [] (x ∷ xs) t = t
below-shifted (d ∷ ds) (x ∷ xs) t =
    both_from (ltb (x ⊕ d) p) (below (shifted ds xs)) (lt→ltb (x ⊕ d) p (⊕-below x d)) (below-shifted ds xs (both_parts (ltb x p) (below xs) t).1)

by_none : (x g : ℕ) → x < p → x ⊕ 0 ⊗ g ≡ x
by_none x g lt = ap (λ (y : ℕ). x ⊕ y) (0-⊗ g) ∙ (⊕-0 x ∙ reduced lt)

pub shifted_none : (g xs : List ℕ) → T (below xs) → shifted (scaled 0 g) xs ≡ xs
unfolding shifted
shifted_none [] [] t = refl
shifted_none (d ∷ g) [] t = refl
shifted_none [] (x ∷ xs) t = refl
shifted_none (d ∷ g) (x ∷ xs) t =
    let b = both_parts (ltb x p) (below xs) t in
    ap₂ (λ (y : ℕ) (ys : List ℕ). y ∷ ys) (by_none x d (ltb→lt x p b.0)) (shifted_none g xs b.1)

gathered : (x d e g : ℕ) → x ⊕ d ⊗ g ⊕ e ⊗ g ≡ x ⊕ (d ⊕ e) ⊗ g
gathered x d e g = simp ring

pub shifted_back : (d e : ℕ) → d ⊕ e ≡ 0 → (g xs : List ℕ) → T (below xs) → shifted (scaled e g) (shifted (scaled d g) xs) ≡ xs
unfolding shifted
shifted_back d e o [] [] t = refl
shifted_back d e o (k ∷ g) [] t = refl
shifted_back d e o [] (x ∷ xs) t = refl
shifted_back d e o (k ∷ g) (x ∷ xs) t =
    let b = both_parts (ltb x p) (below xs) t in
    ap₂ (λ (y : ℕ) (ys : List ℕ). y ∷ ys)
    (gathered x d e k ∙ (ap (λ (y : ℕ). x ⊕ y ⊗ k) o ∙ by_none x k (ltb→lt x p b.0)))
    (shifted_back d e o g xs b.1)

shifted-added : (ds xs : List ℕ) → length ds ≡ length xs → shifted ds xs ≡ added xs ds
unfolding shifted added
shifted-added [] [] e = refl
shifted-added (d ∷ ds) [] e = absurd (omega arith)
shifted-added [] (x ∷ xs) e = absurd (omega arith)
shifted-added (d ∷ ds) (x ∷ xs) e = ap (λ (ys : List ℕ). (x ⊕ d) ∷ ys) (shifted-added ds xs (omega arith))

-- numbers that are the same do not differ
pub no_difference : (v v' : ℕ) → v ≡ v' → difference v v' ≡ 0
no_difference v v' e = ap (λ (x : ℕ). difference v x) (sym e) ∙ ⊕-neg v

crossed : (v v' a b : ℕ) → v' ⊕ a ⊕ (v ⊕ b) ≡ v ⊕ a ⊕ (v' ⊕ b)
crossed v v' a b = simp ring

pub opposite : (v v' : ℕ) → difference v v' ⊕ difference v' v ≡ 0
opposite v v' = crossed v v' (neg v) (neg v') ∙ (ap₂ (λ (x y : ℕ). x ⊕ y) (⊕-neg v) (⊕-neg v') ∙ omega arith)

restored : (v v' : ℕ) → v' < p → v' ≡ v ⊕ difference v v'
restored v v' lt = sym (⊕_left_comm v v' (neg v) ∙ (ap (λ (x : ℕ). v' ⊕ x) (⊕-neg v) ∙ (⊕-0 v' ∙ reduced lt)))

spread : (v d j a b : ℕ) → v ⊕ d ⊕ j ⊗ (a ⊕ d ⊗ b) ≡ v ⊕ j ⊗ a ⊕ (d ⊕ d ⊗ (j ⊗ b))
spread v d j a b = simp ring

factored : (d y : ℕ) → d < p → d ⊕ d ⊗ y ≡ d ⊗ (1 ⊕ y)
factored d y lt = ap (λ (x : ℕ). x ⊕ d ⊗ y) (sym (⊗-1 d ∙ reduced lt)) ∙ sym (⊗-⊕ d 1 y)

pub dealing-shifted : (v v' : ℕ) (g cs : List ℕ) → v' < p → length g ≡ length cs → (j : ℕ) → share_of v' (shifted (scaled (difference v v') g) cs) j ≡ share_of v cs j ⊕ difference v v' ⊗ value (1 ∷ g) j
dealing-shifted v v' g cs lt len j =
    let d : ℕ = difference v v' in
    let long : length (scaled d g) ≡ length cs = length-map g (λ (x : ℕ). d ⊗ x) ∙ len in
    let higher : value (shifted (scaled d g) cs) j ≡ value cs j ⊕ d ⊗ value g j =
    ap (λ (f : List ℕ). value f j) (shifted-added (scaled d g) cs long)
    ∙ (value-added cs (scaled d g) j long ∙ ap (λ (y : ℕ). value cs j ⊕ y) (value-scaled d g j)) in
    value-cons v' (shifted (scaled d g) cs) j
    ∙ (ap₂ (λ (x y : ℕ). x ⊕ j ⊗ y) (restored v v' lt) higher
    ∙ (spread v d j (value cs j) (value g j)
    ∙ ap₂ (λ (x y : ℕ). x ⊕ y) (sym (value-cons v cs j))
    (factored d (j ⊗ value g j) (⊕-below v' (neg v)) ∙ ap (λ (y : ℕ). d ⊗ y) (sym (value-cons 1 g j)))))
