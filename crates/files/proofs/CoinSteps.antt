-- Coins are below p, and so are all lists with one of coins added.
use Rattle.std.proofs.Common.{◌≡◌, ℕ, ◌<◌, Bool, true, false, cond, T, eqb, List, [], ◌∷◌, ◌++◌, Some, None, refl, arith, lt→ltb}
use Rattle.field.specs.Field.{p, below, all_below}
use Rattle.field.proofs.Below.{both_from}
use Rattle.std.specs.List.{cons_option}
use Rattle.std.proofs.lemmas.Bool.{eqb-false}
use Rattle.std.proofs.lemmas.List.Folds.{list_all-append}
use Rattle.files.specs.Files.{low, coins_of}

coin_below : (w : ℕ) → (low w ≡ p → ⊥) → low w < p
coin_below w ne = omega arith

below_step : (w : ℕ) (cs : List ℕ) (b : Bool) → eqb (low w) p ≡ b → T (below cs) → T (below (cons_option (cond b None (Some (low w))) cs))
below_step w cs true e t = t
below_step w cs false e t = both_from _ _ (lt→ltb (low w) p (coin_below w (eqb-false (low w) p e))) t

pub coins-below : (ws : List ℕ) → T (below (coins_of ws))
coins-below [] = tt
coins-below (w ∷ ws) = below_step w (coins_of ws) (eqb (low w) p) refl (coins-below ws)

pub lists_push : (new xss : List (List ℕ)) (xs : List ℕ) → new ≡ xss ++ xs ∷ [] → T (all_below xss) → T (below xs) → T (all_below new)
lists_push new xss xs e a t = rw (e, list_all-append below xss (xs ∷ [])) (both_from _ _ a (both_from _ _ t tt))
