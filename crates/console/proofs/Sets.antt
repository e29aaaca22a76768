-- A set of members: as an array that a function of the place fills, and one number after the other.
use Rattle.std.proofs.Common.{◌≡◌, ℕ, zero, suc, ◌+◌, ◌-◌, ◌<◌, ◌≤◌, min, Bool, true, false, ◌||◌, eqb, ltb, List, length, get_or, drop, set, sym, refl, ap, ◌∙◌, subst, ⊎_elim, arith}
use Rattle.std.proofs.lemmas.Bool.{cases_eq, eq-eqb, ne_eqb, eqb-false, ltb-false, or_parts}
use Rattle.std.proofs.lemmas.List.{at_drop_more, get_or-set_same, get_or-set_other}
use Rattle.std.specs.List.{list_any}
use Rattle.console.specs.Numbers.{outside}
use Rattle.std.specs.Array.{IsFromFnResultFrom}
use denote.Param.Members.{Mut, Called}

-- a closure that changes nothing and gives h i at i
module _ {F B : Type 0} (g : Mut F (ℕ × Unit {0}) B) (h : ℕ → B) (f : F) (ys : List B) (d : B) (gives : (i : ℕ) (y : B) (q : F) → Called g f (i, tt) y q → (q ≡ f) × (y ≡ h i)) where
  pub filled_at : (n i k : ℕ) → IsFromFnResultFrom g f ys i n → i ≤ k → k < i + n → get_or ys k d ≡ h k
  filled_at zero i k filled le lt = absurd (omega arith)
  filled_at (suc n) i k (q, y, at, called, rest) le lt =
      let given = gives i y q called in
      ⊎_elim
      (λ here. ap (λ (j : ℕ). get_or ys j d) here ∙ (at.1 d ∙ (given.1 ∙ ap h (sym here))))
      (λ later. filled_at n (i + 1) k (subst (λ (p : F). IsFromFnResultFrom g p ys (i + 1) n) given.0 rest) (omega (arith, later)) (omega arith))
      (cases_eq k i)

pub inside : (n number : ℕ) → false ≡ outside n number → (0 < number) × (number ≤ 15)
inside n number e =
    let h = or_parts (eqb number 0) (ltb (min n 15) number) (sym e) in
    let ne = eqb-false number 0 h.0 in
    let le = ltb-false (min n 15) number h.1 in
    (omega arith, omega arith)

true_or : (a b : Bool) → (a || (true || b)) ≡ true
true_or true b = refl
true_or false b = refl

-- one number more in the set, one fewer to come
pub set_more : (flags : List Bool) (numbers : List ℕ) (i number k : ℕ) → length flags ≡ 15 → k < 15 → 0 < number → number ≤ 15 → i < length numbers → number ≡ get_or numbers i 0 →
    (get_or (set flags (number - 1) true) k false || list_any (λ x. eqb x (k + 1)) (drop (i + 1) numbers)) ≡ (get_or flags k false || list_any (λ x. eqb x (k + 1)) (drop i numbers))
set_more flags numbers i number k len lt pos le in' is =
    let rest : Bool = list_any (λ x. eqb x (k + 1)) (drop (i + 1) numbers) in
    let step : list_any (λ x. eqb x (k + 1)) (drop i numbers) ≡ eqb number (k + 1) || rest =
    at_drop_more (list_any (λ x. eqb x (k + 1))) numbers i 0 in' ∙ ap (λ (x : ℕ). eqb x (k + 1) || rest) (sym is) in
    ⊎_elim
    (λ same.
    ap (λ (j : ℕ). get_or (set flags (number - 1) true) j false || rest) same
    ∙ (ap (λ (b : Bool). b || rest) (get_or-set_same flags (number - 1) true false (omega arith))
    ∙ sym (ap (λ (b : Bool). get_or flags k false || b) (step ∙ ap (λ (b : Bool). b || rest) (eq-eqb number (k + 1) (omega arith))) ∙ true_or (get_or flags k false) rest)))
    (λ other.
    ap (λ (b : Bool). b || rest) (get_or-set_other flags (number - 1) k true false other)
    ∙ sym (ap (λ (b : Bool). get_or flags k false || b) (step ∙ ap (λ (b : Bool). b || rest) (ne_eqb number (k + 1) (λ e. other (omega arith))))))
    (cases_eq k (number - 1))

pub false_right : (a : Bool) → (a || false) ≡ a
false_right true = refl
false_right false = refl
