-- What lines need, as the sums that they are.
use Rattle.std.proofs.Common.{◌≡◌, ℕ, ◌≤◌, Bool, true, false, cond, List, refl, arith}
use Rattle.std.specs.List.{sum_by}
use Rattle.std.proofs.lemmas.List.Recursion.{is_sum_by}
use Rattle.shares.specs.Circle.{Circle}
use Rattle.sheets.specs.Lines.{gives, deals, figures_needed, coins_needed}
use Rattle.sheets.specs.declared.line.Line.{Line}

pub figures_are : (i : ℕ) (xs : List Line) → figures_needed i xs ≡ sum_by (λ l. cond (gives l i) 1 0) xs
unfolding figures_needed
figures_are i xs = is_sum_by (figures_needed i) (λ l. cond (gives l i) 1 0) refl (λ _ _. refl) xs

pub coins_are : (z : Circle) (i : ℕ) (xs : List Line) → coins_needed z i xs ≡ sum_by (λ l. cond (deals z l i) z.t 0) xs
unfolding coins_needed
coins_are z i xs = is_sum_by (coins_needed z i) (λ l. cond (deals z l i) z.t 0) refl (λ _ _. refl) xs

pub at_most : (b : Bool) (r t : ℕ) → r ≡ cond b t 0 → r ≤ t
at_most true r t e = omega arith
at_most false r t e = omega arith
