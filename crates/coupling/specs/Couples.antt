-- Both runs of a whole sheet.
use Rattle.std.specs.Prelude.{◌≡◌, ℕ, Bool, T, List, Ok, Err, vec_items, Result}
use Rattle.shares.specs.Circle.{Circle}
use Rattle.sheets.specs.Families.{of}
use Rattle.sheets.specs.Lines.{good}
use Rattle.sheets.specs.Meaning.{result}
use Rattle.sheets.specs.declared.line.Line.{Line}
use Rattle.sheets.specs.declared.refusal.Refusal.{Refusal}
use Rattle.sheets.specs.declared.refusal.Refusal.TheVariants.{NoMemory}
use Rattle.runs.specs.Laws.{Figures, Coins}
use Rattle.runs.specs.Pairing.{paired_coins, there}
use Rattle.runs.specs.Run.{begun, opens}
use Rattle.coupling.specs.Growing.{lists}
use Rattle.coupling.specs.declared.couple.Couple.{Couple}

-- a good sheet, and figures and coins that suffice for both runs
pub record Given (z : Circle) (ls : List Line) (coins figures figures' : ℕ → List ℕ) : Type 0 where
  pub well : T (good z.n 0 ls)
  pub figs : Figures ls figures
  pub figs' : Figures ls figures'
  pub enough : Coins z ls coins

-- what both runs open, and the coins of the second, where dealers' coins are shifted by multiples of g
pub record Coupled (z : Circle) (g : List ℕ) (ls : List Line) (coins : List (List ℕ)) (figures figures' : ℕ → List ℕ) (opened opened' : List ℕ) (paired : List (List ℕ)) : Type 0 where
  pub opens_first : opened ≡ opens z ls figures (of coins)
  pub opens_second : opened' ≡ opens z ls figures' (of paired)
  pub pairs : of paired ≡ paired_coins z g ls (begun figures (of coins)) (begun figures' (of coins))

abbrev pub LinesAs : Circle → List ℕ → List Line → List (List ℕ) → (ℕ → List ℕ) → (ℕ → List ℕ) → Result Couple Refusal → Type 0
LinesAs z g ls coins figures figures' (Ok both) = Coupled z g ls coins figures figures' (vec_items both.opened) (vec_items both.other_opened) (lists both.coins)
LinesAs z g ls coins figures figures' (Err e) = e ≡ NoMemory

-- what the sheet says of both sets of figures, and the coins that are paired with the first run's for the watched
pub record Pair (z : Circle) (c : ℕ → Bool) (ls : List Line) (coins figures figures' : ℕ → List ℕ) (opened opened' : List ℕ) (paired : ℕ → List ℕ) : Type 0 where
  pub opens_first : opened ≡ result ls figures
  pub opens_second : opened' ≡ result ls figures'
  pub pairs : paired ≡ there z c ls figures figures' coins

abbrev pub CoupledAs : Circle → (ℕ → Bool) → List Line → (ℕ → List ℕ) → (ℕ → List ℕ) → (ℕ → List ℕ) → Result Couple Refusal → Type 0
CoupledAs z c ls coins figures figures' (Ok both) = Pair z c ls coins figures figures' (vec_items both.opened) (vec_items both.other_opened) (of (lists both.coins))
CoupledAs z c ls coins figures figures' (Err e) = e ≡ NoMemory
