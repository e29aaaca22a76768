-- What the answers mean.
use Rattle.std.specs.Prelude.{◌≡◌, ℕ, Bool, ◌⊎◌, List, Some, None, Ok, Err, Option, Result, Vec}
use Rattle.std.specs.declared.alloc.Global.{Global}
use Rattle.shares.specs.Circle.{Circle}
use Rattle.sheets.specs.Families.{of}
use Rattle.sheets.specs.declared.line.Line.{Line}
use Rattle.sheets.specs.declared.refusal.Refusal.{Refusal}
use Rattle.sheets.specs.declared.refusal.Refusal.TheVariants.{NoMemory}
use Rattle.coupling.specs.Growing.{lists}
use Rattle.runs.specs.Laws.{Figures, Coins}
use Rattle.runs.specs.Pairing.{there}
use Rattle.runs.specs.Seen.{sees}
use Rattle.pairing.specs.declared.differing.Place.{Place}
use Rattle.pairing.specs.Verdict.{among, verdict, Unpaired, Refused, Opened, Figure, Paired}
use Rattle.pairing.specs.declared.answer.Pairing.{Pairing}
use Rattle.pairing.specs.declared.answer.Pairing.TheVariants.{Coins as PairedCoins, OpenedDiffers, FigureDiffers, NoPairing}

-- coins of the other run: they are those that the theorem pairs with the first run's, they suffice for the other
-- figures, the way back leads from them to the first run's, and the watched see the same of both runs
pub record Serve (z : Circle) (c : ℕ → Bool) (ls : List Line) (coins figures figures' paired : ℕ → List ℕ) : Type 0 where
  pub is : paired ≡ there z c ls figures figures' coins
  pub figures_suffice : Figures ls figures'
  pub coins_suffice : Coins z ls paired
  pub back : there z c ls figures' figures paired ≡ coins
  pub same : sees z c ls figures coins ≡ sees z c ls figures' paired

abbrev pub PairedAs : Circle → List Line → List ℕ → List (List ℕ) → List (List ℕ) → List (List ℕ) → Result Pairing Refusal → Type 0
PairedAs z ls watched coins figures figures' (Ok (PairedCoins paired)) =
    (verdict z ls watched coins figures figures' ≡ Paired) × Serve z (among watched) ls (of coins) (of figures) (of figures') (of (lists paired))
PairedAs z ls watched coins figures figures' (Ok (OpenedDiffers k)) = verdict z ls watched coins figures figures' ≡ Opened k
PairedAs z ls watched coins figures figures' (Ok (FigureDiffers w k)) = verdict z ls watched coins figures figures' ≡ Figure (record { member = w; place = k })
PairedAs z ls watched coins figures figures' (Ok NoPairing) = verdict z ls watched coins figures figures' ≡ Unpaired
PairedAs z ls watched coins figures figures' (Err e) = (e ≡ NoMemory) ⊎ (verdict z ls watched coins figures figures' ≡ Refused e)

-- where both runs open the same: a figure of the watched that differs, or the coins
abbrev pub ConcludedAs : Option Place → Vec (Vec ℕ Global) Global → Result Pairing Refusal → Type 0
ConcludedAs found coins (Ok (PairedCoins paired)) = (found ≡ None) × (paired ≡ coins)
ConcludedAs found coins (Ok (OpenedDiffers k)) = ⊥
ConcludedAs found coins (Ok (FigureDiffers w k)) = found ≡ Some (record { member = w; place = k })
ConcludedAs found coins (Ok NoPairing) = ⊥
ConcludedAs found coins (Err e) = e ≡ NoMemory
