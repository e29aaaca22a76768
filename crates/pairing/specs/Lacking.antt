-- Figures and coins that run out in either of two runs with as many coins.
use Rattle.std.specs.Prelude.{◌≡◌, ℕ, true, false, cond, ◌&&◌, ◌⊎◌, List, [], ◌∷◌, Some, None, Ok, Err, Option, Result}
use Rattle.field.specs.Field.{all_below}
use Rattle.shares.specs.Circle.{Circle, members}
use Rattle.pairing.specs.declared.lacking.Left.{Left}
use Rattle.sheets.specs.Numbers.{lists_in, numbers}
use Rattle.sheets.specs.Meaning.{figures_after, has_figure}
use Rattle.std.specs.List.{list_any}
use Rattle.sheets.specs.declared.line.Line.{Line}
use Rattle.sheets.specs.declared.line.Line.TheVariants.{Product}
use Rattle.sheets.specs.declared.refusal.Refusal.{Refusal}
use Rattle.sheets.specs.declared.refusal.Refusal.TheVariants.{NoMemory, OutOfRange, NoFigure, NoCoins}
use Rattle.runs.specs.Run.{coins_after}
use Rattle.runs.specs.Short.{short_at, or_else}
use Rattle.runs.specs.Steps.{lacks}

-- what is missing at a line: a figure in either run, else coins
abbrev pub short_in_either : Circle → Line → (ℕ → List ℕ) → (ℕ → List ℕ) → (ℕ → List ℕ) → Option Refusal
short_in_either z l figures figures' coins = cond (has_figure l figures && has_figure l figures') (short_at z l figures coins) (Some NoFigure)

-- what is missing at the first line at which something is
unfoldable pub runs_out_in_either : Circle → List Line → (ℕ → List ℕ) → (ℕ → List ℕ) → (ℕ → List ℕ) → Option Refusal
runs_out_in_either z [] figures figures' coins = None
runs_out_in_either z (l ∷ ls) figures figures' coins =
    or_else (short_in_either z l figures figures' coins) (runs_out_in_either z ls (figures_after l figures) (figures_after l figures') (coins_after z l coins))

-- each member's lists, as far as lines have not taken from them
abbrev pub figures_in : Left → ℕ → List ℕ
figures_in s = numbers s.figures

abbrev pub other_figures_in : Left → ℕ → List ℕ
other_figures_in s = numbers s.other_figures

abbrev pub coins_in : Left → ℕ → List ℕ
coins_in s = numbers s.coins

-- the lists as they are, or one of their numbers is p or above
abbrev pub LentAs : List (List ℕ) → List (List ℕ) → List (List ℕ) → Result Left Refusal → Type 0
LentAs figures figures' coins (Ok s) =
    (lists_in s.figures ≡ figures) × (lists_in s.other_figures ≡ figures') × (lists_in s.coins ≡ coins) × ((all_below figures && (all_below figures' && all_below coins)) ≡ true)
LentAs figures figures' coins (Err e) = (e ≡ NoMemory) ⊎ ((e ≡ OutOfRange) × ((all_below figures && (all_below figures' && all_below coins)) ≡ false))

-- what a line takes
pub record Taken (z : Circle) (l : Line) (before after : Left) : Type 0 where
  pub enough : short_in_either z l (figures_in before) (other_figures_in before) (coins_in before) ≡ None
  pub taken : figures_in after ≡ figures_after l (figures_in before)
  pub taken' : other_figures_in after ≡ figures_after l (other_figures_in before)
  pub drawn : coins_in after ≡ coins_after z l (coins_in before)

abbrev pub TakenAs : Circle → Line → Left → Left → Result (Unit {0}) Refusal → Type 0
TakenAs z l before after (Ok u) = Taken z l before after
TakenAs z l before after (Err e) = short_in_either z l (figures_in before) (other_figures_in before) (coins_in before) ≡ Some e

-- what is missing, if anything, is told
abbrev pub NeitherAs : Option Refusal → Result (Unit {0}) Refusal → Type 0
NeitherAs missing (Ok u) = missing ≡ None
NeitherAs missing (Err e) = missing ≡ Some e

-- what a line takes for which all members deal
abbrev pub DealersAs : Circle → (ℕ → List ℕ) → (ℕ → List ℕ) → Result (Unit {0}) Refusal → Type 0
DealersAs z coins coins₁ (Ok u) = (list_any (lacks z coins) (members z.n) ≡ false) × (coins₁ ≡ coins_after z (Product 0 0) coins)
DealersAs z coins coins₁ (Err e) = (list_any (lacks z coins) (members z.n) ≡ true) × (e ≡ NoCoins)
