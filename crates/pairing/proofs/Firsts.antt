-- The first place at which two lists differ.
use Rattle.std.proofs.Common.{◌≡◌, ℕ, zero, suc, ◌+◌, ◌<◌, Bool, true, false, cond, eqb, List, [], ◌∷◌, length, get_or, Some, None, Option, sym, refl, ap, ◌∙◌, arith}
use Rattle.std.proofs.lemmas.Bool.{eqb-true, eqb-false, eq-eqb, ne_eqb, cond-true, cond-false}
use Rattle.pairing.specs.Differing.{differ}
use Rattle.pairing.specs.Laws.{FirstAt}

same_before : (i : ℕ) (x y : ℕ) (xs ys : List ℕ) → x ≡ y → ((j : ℕ) → j < i → get_or xs j 0 ≡ get_or ys j 0) → (j : ℕ) → j < suc i → get_or (x ∷ xs) j 0 ≡ get_or (y ∷ ys) j 0
same_before i x y xs ys e h zero lt = e
same_before i x y xs ys e h (suc j) lt = h j (omega arith)

later : (i x y : ℕ) (xs ys : List ℕ) → x ≡ y → FirstAt i xs ys → FirstAt (suc i) (x ∷ xs) (y ∷ ys)
later i x y xs ys e h = (omega (arith, h.0), h.1, same_before i x y xs ys e h.2)

-- places are counted from k
abbrev pub Found : ℕ → ℕ → List ℕ → List ℕ → Type 0
Found k j xs ys = (i : ℕ) × (j ≡ k + i) × FirstAt i xs ys

some_same : (k j : ℕ) → ◌≡◌ {A = Option ℕ} (Some k) (Some j) → j ≡ k
some_same k j e = cc

found_by : (b : Bool) (k j x y : ℕ) (xs ys : List ℕ) (o : Option ℕ) → eqb x y ≡ b → (o ≡ Some j → Found (k + 1) j xs ys) → cond b o (Some k) ≡ Some j → Found k j (x ∷ xs) (y ∷ ys)
found_by true k j x y xs ys o e rest h =
    let r = rest h in
    (suc r.0, omega (arith, r.1), later r.0 x y xs ys (eqb-true x y e) r.2)
found_by false k j x y xs ys o e rest h = (0, some_same k j h ∙ sym (omega arith), (omega arith, eqb-false x y e, λ i lt. absurd (omega arith)))

pub first_from : (k j : ℕ) (xs ys : List ℕ) → length xs ≡ length ys → differ k xs ys ≡ Some j → Found k j xs ys
unfolding differ
first_from k j [] ys len h = let z : ◌≡◌ {A = ℕ} 0 1 = cc in absurd (omega arith)
first_from k j (x ∷ xs) [] len h = absurd (omega arith)
first_from k j (x ∷ xs) (y ∷ ys) len h =
    found_by (eqb x y) k j x y xs ys (differ (k + 1) xs ys) refl (first_from (k + 1) j xs ys (omega arith)) h

pub to_first : (k i : ℕ) (xs ys : List ℕ) → length xs ≡ length ys → FirstAt i xs ys → differ k xs ys ≡ Some (k + i)
unfolding differ
to_first k i [] ys len h = absurd (omega (arith, h.0))
to_first k i (x ∷ xs) [] len h = absurd (omega arith)
to_first k zero (x ∷ xs) (y ∷ ys) len h =
    cond-false (eqb x y) (differ (k + 1) xs ys) (Some k) (ne_eqb x y h.1) ∙ ap (λ (n : ℕ). Some n) (omega arith)
to_first k (suc i) (x ∷ xs) (y ∷ ys) len h =
    let same : x ≡ y = h.2 0 (omega arith) in
    let rest : FirstAt i xs ys = (omega (arith, h.0), h.1, λ j lt. h.2 (suc j) (omega arith)) in
    cond-true (eqb x y) (differ (k + 1) xs ys) (Some k) (eq-eqb x y same)
    ∙ (to_first (k + 1) i xs ys (omega arith) rest ∙ ap (λ (n : ℕ). Some n) (omega arith))

pub nowhere : (k : ℕ) (xs : List ℕ) → differ k xs xs ≡ None
unfolding differ
nowhere k [] = refl
nowhere k (x ∷ xs) = cond-true (eqb x x) (differ (k + 1) xs xs) (Some k) (eq-eqb x x refl) ∙ nowhere (k + 1) xs
