-- Values of a polynomial, as the code meets them: a slice's first coefficient and the rest.
use Rattle.std.proofs.Common.{◌≡◌, ℕ, zero, suc, ◌+◌, ◌-◌, ◌<◌, T, List, [], ◌∷◌, map, length, get_or, take, drop, replicate, sym, refl, ap, ◌∙◌, ap₂, arith, lit<}
use Rattle.std.specs.List.{range_with_len}
use Rattle.std.proofs.lemmas.List.FromFn.{length-map-range_with_len, get_or-map-range_with_len}
use Rattle.std.proofs.lemmas.List.{ext_get_or, nil_from_length}
use Rattle.std.proofs.lemmas.Slice.{first_rest}
use Rattle.field.specs.Field.{p, ◌⊕◌, ◌⊗◌, below}
use Rattle.field.proofs.Below.{below-take, below-drop}
use Rattle.field.proofs.Ring.{⊕-below}
use Rattle.shares.specs.Circle.{members}
use Rattle.shares.specs.Polynomial.{value}

pub value-nil : (f : List ℕ) (x : ℕ) → length f ≡ 0 → 0 ≡ value f x
unfolding value
value-nil f x e = ap (λ (g : List ℕ). value g x) (sym (nil_from_length f e))

pub value-cons : (c : ℕ) (f : List ℕ) (x : ℕ) → value (c ∷ f) x ≡ c ⊕ x ⊗ value f x
unfolding value
value-cons c f x = refl

pub value-below : (f : List ℕ) (x : ℕ) → value f x < p
unfolding value
value-below [] x = lit< tt
value-below (c ∷ f) x = ⊕-below c (x ⊗ value f x)

-- all but the first, as a slice pattern has it
abbrev pub rest : List ℕ → List ℕ
rest xs = take (length xs - 1) (drop 1 xs)

pub below_rest : (xs : List ℕ) → T (below xs) → T (below (rest xs))
below_rest xs t = below-take (length xs - 1) (drop 1 xs) (below-drop 1 xs t)

pub value_first_rest : (f : List ℕ) (x : ℕ) → 0 < length f → value f x ≡ get_or f 0 0 ⊕ x ⊗ value (rest f) x
value_first_rest f x h = ap (λ (g : List ℕ). value g x) (first_rest f 0 h) ∙ value-cons (get_or f 0 0) (rest f) x

-- a row that holds F j for member j at place j - 1
pub filled : (F : ℕ → ℕ) (xs : List ℕ) (n : ℕ) → length xs ≡ n → ((k : ℕ) → k < n → get_or xs k 0 ≡ F (k + 1)) → xs ≡ map F (members n)
filled F xs n len each =
    ext_get_or 0 xs (map F (members n)) (len ∙ sym (length-map-range_with_len F 1 n)) λ k lt.
    let h : k < n = omega arith in
    each k h ∙ sym (get_or-map-range_with_len F 1 n k (k + 1) 0 h (omega arith))

-- one more coefficient in front, for all members at once
pub raised : (c n : ℕ) (f xs ys : List ℕ) → xs ≡ map (value f) (members n) → length ys ≡ length xs → ((k : ℕ) → k < length xs → get_or ys k 0 ≡ c ⊕ (k + 1) ⊗ get_or xs k 0) → ys ≡ map (value (c ∷ f)) (members n)
raised c n f xs ys e len each =
    let long : length xs ≡ n = ap length e ∙ length-map-range_with_len (value f) 1 n in
    filled (value (c ∷ f)) ys n (len ∙ long) λ k h.
    let there : get_or xs k 0 ≡ value f (k + 1) = ap (λ (l : List ℕ). get_or l k 0) e ∙ get_or-map-range_with_len (value f) 1 n k (k + 1) 0 h (omega arith) in
    each k (omega arith) ∙ (ap (λ (v : ℕ). c ⊕ (k + 1) ⊗ v) there ∙ sym (value-cons c f (k + 1)))

pub values_first_rest : (n : ℕ) (f xs ys : List ℕ) → 0 < length f → xs ≡ map (value (rest f)) (members n) → length ys ≡ length xs → ((k : ℕ) → k < length xs → get_or ys k 0 ≡ get_or f 0 0 ⊕ (k + 1) ⊗ get_or xs k 0) → ys ≡ map (value f) (members n)
values_first_rest n f xs ys h e len each =
    raised (get_or f 0 0) n (rest f) xs ys e len each
    ∙ ap (λ (g : List ℕ). map (value g) (members n)) (sym (first_rest f 0 h))

pub values-nil : (f : List ℕ) (a n : ℕ) → length f ≡ 0 → replicate n 0 ≡ map (value f) (range_with_len a n)
unfolding value
values-nil f a zero e = refl
values-nil f a (suc n) e = ap₂ (λ (x : ℕ) (xs : List ℕ). x ∷ xs) (value-nil f a e) (values-nil f (a + 1) n e)
