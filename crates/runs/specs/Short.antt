-- Figures and coins that run out: at which line, and which of the two.
use Rattle.std.specs.Prelude.{ℕ, cond, List, [], ◌∷◌, length, Some, None, Option, ◌==◌, nat_lt}
use Rattle.shares.specs.Circle.{Circle, members}
use Rattle.sheets.specs.Meaning.{figures_after}
use Rattle.std.specs.List.{list_any}
use Rattle.sheets.specs.declared.line.Line.{Line}
use Rattle.sheets.specs.declared.line.Line.TheVariants.{Input, Sum, Times, Product, Open}
use Rattle.sheets.specs.declared.refusal.Refusal.{Refusal}
use Rattle.sheets.specs.declared.refusal.Refusal.TheVariants.{NoFigure, NoCoins}
use Rattle.runs.specs.Run.{coins_after}

-- what is missing at a line: a figure of who gives one, else t coins of one who deals
abbrev pub short_at : Circle → Line → (ℕ → List ℕ) → (ℕ → List ℕ) → Option Refusal
short_at z (Input w) figures coins =
    cond (length (figures w) == 0) (Some NoFigure) (cond (nat_lt (length (coins w)) z.t) (Some NoCoins) None)
short_at z (Sum a e) figures coins = None
short_at z (Times k a) figures coins = None
short_at z (Product a e) figures coins = cond (list_any (λ i. nat_lt (length (coins i)) z.t) (members z.n)) (Some NoCoins) None
short_at z (Open a) figures coins = None

abbrev pub or_else : Option Refusal → Option Refusal → Option Refusal
or_else (Some e) other = Some e
or_else None other = other

-- what is missing at the first line at which something is
unfoldable pub runs_out : Circle → List Line → (ℕ → List ℕ) → (ℕ → List ℕ) → Option Refusal
runs_out z [] figures coins = None
runs_out z (l ∷ ls) figures coins =
    or_else (short_at z l figures coins) (runs_out z ls (figures_after l figures) (coins_after z l coins))
