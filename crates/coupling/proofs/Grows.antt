-- Lists that grow, place by place.
use Rattle.std.proofs.Common.{◌≡◌, ℕ, zero, suc, ◌+◌, ◌<◌, ◌≤◌, List, [], ◌∷◌, ◌++◌, map, length, get_or, set, sym, refl, ap, ◌∙◌, arith, below_more, min, ⊎_elim}
use Rattle.std.proofs.lemmas.Bool.{cases_lt}
use Rattle.std.proofs.lemmas.List.{append-nil, get_or-set_same, get_or-set_other, get_or_past, length-set}
use Rattle.coupling.specs.Growing.{Grown}

-- what stands at a place, read through a function
pub read_through : {X : Type 0} (f : X → List ℕ) (xs : List X) (k : ℕ) (x : X) → k < length xs → x ≡ get_or xs k x → f x ≡ get_or (map f xs) k []
read_through f [] k x lt e = absurd (omega arith)
read_through f (y ∷ xs) zero x lt e = ap f e
read_through f (y ∷ xs) (suc k) x lt e = read_through f xs k x (omega arith) e

-- after k lists have grown
pub record Partly (before more now : List (List ℕ)) (k : ℕ) : Type 0 where
  pub as_many : length now ≡ length before
  pub grown : (j : ℕ) → j < k → get_or now j [] ≡ get_or before j [] ++ get_or more j []
  pub same : (j : ℕ) → k ≤ j → get_or now j [] ≡ get_or before j []

pub partly_none : (before more : List (List ℕ)) → Partly before more before 0
partly_none before more = record { as_many = refl; grown = λ j lt. absurd (omega arith); same = λ j le. refl }

pub partly_more : (before more now after : List (List ℕ)) (k : ℕ) (x : List ℕ) → k < length now → after ≡ set now k x → x ≡ get_or now k [] ++ get_or more k [] → Partly before more now k → Partly before more after (k + 1)
partly_more before more now after k x lt is e h = record {
  as_many = ap length is ∙ (length-set now k x ∙ h.as_many);
  grown = below_more (λ j. get_or after j [] ≡ get_or before j [] ++ get_or more j []) k
      (λ j lj. ap (λ (l : List (List ℕ)). get_or l j []) is ∙ (get_or-set_other now k j x [] (λ q. omega (arith, q)) ∙ h.grown j lj))
      (ap (λ (l : List (List ℕ)). get_or l k []) is ∙ (get_or-set_same now k x [] lt ∙ (e ∙ ap (λ (l : List ℕ). l ++ get_or more k []) (h.same k (omega arith)))));
  same = λ j le. ap (λ (l : List (List ℕ)). get_or l j []) is ∙ (get_or-set_other now k j x [] (λ q. omega (arith, q)) ∙ h.same j (omega arith));
}

-- a list past the end of what is to be appended
pub partly_past : (before more now : List (List ℕ)) (k : ℕ) → length more ≤ k → Partly before more now k → Partly before more now (k + 1)
partly_past before more now k le h = record {
  as_many = h.as_many;
  grown = below_more (λ j. get_or now j [] ≡ get_or before j [] ++ get_or more j []) k h.grown
      (h.same k (omega arith) ∙ (sym (append-nil (get_or before k [])) ∙ ap (λ (l : List ℕ). get_or before k [] ++ l) (sym (get_or_past more k [] le))));
  same = λ j le. h.same j (omega arith);
}

pub partly_all : (before more now : List (List ℕ)) (k : ℕ) → min (length before) (length more) ≤ k → Partly before more now k → Grown before more now
partly_all before more now k le h = record {
  as_many = h.as_many;
  longer = λ j lt.
      ⊎_elim (h.grown j)
      (λ past. h.same j past ∙ (sym (append-nil (get_or before j [])) ∙ ap (λ (l : List ℕ). get_or before j [] ++ l) (sym (get_or_past more j [] (omega arith)))))
      (cases_lt j k);
}

-- one more empty list
pub empty_more : (empty : List (List ℕ)) → ((k : ℕ) → get_or empty k [] ≡ []) → (k : ℕ) → get_or (empty ++ [] ∷ []) k [] ≡ []
empty_more [] h zero = refl
empty_more [] h (suc k) = refl
empty_more (x ∷ empty) h zero = h 0
empty_more (x ∷ empty) h (suc k) = empty_more empty (λ j. h (suc j)) k
