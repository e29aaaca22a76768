-- The coins of another run that looks the same to the watched members.
-- The mask is a polynomial that is 1 at 0 and 0 at each watched member. Where a dealer deals a number that is
-- larger by d in the other run, its coins are shifted by d times the mask's higher coefficients: so its shares
-- differ by d times the mask's values, and not at all for those who are watched.
use Rattle.std.specs.Prelude.{ℕ, Bool, cond, List, [], ◌∷◌, ◌++◌, take, drop, replicate}
use Rattle.field.specs.Field.{◌⊕◌, ◌⊗◌, neg, inv}
use Rattle.shares.specs.Circle.{Circle}
use Rattle.shares.specs.Polynomial.{scaled}
use Rattle.sheets.specs.Lines.{deals}
use Rattle.sheets.specs.declared.line.Line.{Line}
use Rattle.runs.specs.Run.{State, begun, secret, drawn, after}
use Rattle.runs.specs.Seen.{watched_in}

-- a polynomial times 1 + k x: each coefficient, and k times the one before it
unfoldable pub linear_product : ℕ → ℕ → List ℕ → List ℕ
linear_product k before [] = (k ⊗ before) ∷ []
linear_product k before (c ∷ cs) = (c ⊕ k ⊗ before) ∷ linear_product k c cs

-- the product of 1 - x / w over some members w
unfoldable pub mask : List ℕ → List ℕ
mask [] = 1 ∷ []
mask (w ∷ ws) = linear_product (neg (inv w)) 0 (mask ws)

-- its t coefficients after the constant, with zeros where it has fewer
abbrev pub mask_for : Circle → (ℕ → Bool) → List ℕ
mask_for z c = take z.t (drop 1 (mask (watched_in z c)) ++ replicate z.t 0)

-- place by place; coins past the end of the shifts stay
unfoldable pub shifted : List ℕ → List ℕ → List ℕ
shifted ds [] = []
shifted [] (x ∷ xs) = x ∷ xs
shifted (d ∷ ds) (x ∷ xs) = (x ⊕ d) ∷ shifted ds xs

-- dealer i's coins for a line in the other run, of which s' is the state
abbrev pub paired_draw : Circle → List ℕ → Line → State → State → ℕ → List ℕ
paired_draw z g l s s' i = shifted (scaled (secret l s' i ⊕ neg (secret l s i)) g) (drawn z s i)

abbrev pub with_coins : State → (ℕ → List ℕ) → State
with_coins s coins = record { held = s.held; figures = s.figures; coins = coins }

-- all coins of the other run, from the states of both; those that no line draws stay
unfoldable pub paired_coins : Circle → List ℕ → List Line → State → State → ℕ → List ℕ
paired_coins z g [] s s' i = s.coins i
paired_coins z g (l ∷ ls) s s' i =
    cond (deals z l i) (paired_draw z g l s s' i) []
    ++ paired_coins z g ls (after z l s) (after z l (with_coins s' (paired_draw z g l s s'))) i

-- from the coins of a run with some figures to those of the run with others
abbrev pub there : Circle → (ℕ → Bool) → List Line → (ℕ → List ℕ) → (ℕ → List ℕ) → (ℕ → List ℕ) → ℕ → List ℕ
there z c ls figures figures' coins = paired_coins z (mask_for z c) ls (begun figures coins) (begun figures' coins)
