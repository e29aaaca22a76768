-- Judging lines one after the other: a step and the end of each loop.
use Rattle.std.proofs.Common.{◌≡◌, ℕ, ◌+◌, ◌<◌, ◌≤◌, Bool, true, false, ◌||◌, List, length, get_or, drop, sym, ap, ◌∙◌, ap₂, arith}
use Rattle.std.proofs.lemmas.List.{at_drop_more, at_drop_all}
use Rattle.sheets.specs.Lines.{made}
use Rattle.sheets.specs.Reading.{undefined, any_undefined}
use Rattle.sheets.specs.declared.line.Line.{Line}
use Rattle.sheets.specs.declared.line.Line.TheVariants.{Input, Sum, Times, Product, Open}

undefined_step : (k : ℕ) (xs : List Line) (i : ℕ) (d : Line) → i < length xs → any_undefined k (drop i xs) ≡ undefined k (get_or xs i d) || any_undefined (made (get_or xs i d) k) (drop (i + 1) xs)
unfolding any_undefined
undefined_step k xs i d lt = at_drop_more (any_undefined k) xs i d lt

pub undefined_hit : (k : ℕ) (xs : List Line) (i : ℕ) (d : Line) → i < length xs → true ≡ undefined k (get_or xs i d) → true ≡ any_undefined k (drop i xs)
undefined_hit k xs i d lt e =
    ap (λ (b : Bool). b || any_undefined (made (get_or xs i d) k) (drop (i + 1) xs)) e ∙ sym (undefined_step k xs i d lt)

pub undefined_more : (k k' : ℕ) (xs : List Line) (i : ℕ) (d : Line) → i < length xs → false ≡ undefined k (get_or xs i d) → k' ≡ made (get_or xs i d) k → any_undefined k (drop i xs) ≡ any_undefined k' (drop (i + 1) xs)
undefined_more k k' xs i d lt e m =
    undefined_step k xs i d lt
    ∙ ap₂ (λ (b : Bool) (n : ℕ). b || any_undefined n (drop (i + 1) xs)) (sym e) (sym m)

pub undefined_all : (k : ℕ) (xs : List Line) (i : ℕ) → length xs ≤ i → false ≡ any_undefined k (drop i xs)
unfolding any_undefined
undefined_all k xs i le = sym (at_drop_all (any_undefined k) xs i le)

pub made_at_most : (l : Line) (k : ℕ) → made l k ≤ k + 1
made_at_most (Input w) k = omega arith
made_at_most (Sum a e) k = omega arith
made_at_most (Times c a) k = omega arith
made_at_most (Product a e) k = omega arith
made_at_most (Open a) k = omega arith

pub made_within : (l : Line) (k k' i : ℕ) → k' ≡ made l k → k ≤ i → k' ≤ i + 1
made_within l k k' i e le = omega (arith, made_at_most l k)
