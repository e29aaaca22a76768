-- One line of both runs.
use Rattle.std.specs.Prelude.{◌≡◌, ℕ, ◌+◌, ◌<◌, ◌≤◌, cond, T, List, [], ◌++◌, map, length, Ok, Err, Result, slice_index_or}
use Rattle.shares.specs.Circle.{Circle}
use Rattle.sheets.specs.Lines.{gives, deals}
use Rattle.sheets.specs.declared.line.Line.{Line}
use Rattle.sheets.specs.declared.refusal.Refusal.{Refusal}
use Rattle.sheets.specs.declared.refusal.Refusal.TheVariants.{NoMemory}
use Rattle.runs.specs.Row.{row_of}
use Rattle.runs.specs.Pairing.{paired_draw, with_coins}
use Rattle.runs.specs.Run.{State, after, opened}
use Rattle.coupling.specs.Sides.{Drawable}

-- a line that both runs can do: it is good, numbers are below p, and nothing runs out
pub record Steady (z : Circle) (l : Line) (coins figures : ℕ → List ℕ) (rows : List (List ℕ)) (figures' : ℕ → List ℕ) (rows' : List (List ℕ)) : Type 0 where
  pub drawable : Drawable z l coins figures rows figures' rows'
  pub given : (i : ℕ) → T (gives l i) → 1 ≤ length (figures i)
  pub given' : (i : ℕ) → T (gives l i) → 1 ≤ length (figures' i)

-- the first run is at the next line with its coins, the second with the paired ones, which are appended to the lists
pub record Both (z : Circle) (g : List ℕ) (l : Line) (s s' : State) (coins figures : ℕ → List ℕ) (rows : List (List ℕ)) (shown shown₁ : List ℕ) (figures' : ℕ → List ℕ) (rows' : List (List ℕ)) (shown' shown'₁ : List ℕ) (paired paired₁ : List (List ℕ)) : Type 0 where
  pub held : rows ≡ map row_of (after z l s).held
  pub taken : figures ≡ (after z l s).figures
  pub drawn : coins ≡ (after z l s).coins
  pub opens : shown₁ ≡ shown ++ opened z l s
  pub held' : rows' ≡ map row_of (after z l (with_coins s' (paired_draw z g l s s'))).held
  pub taken' : figures' ≡ (after z l s').figures
  pub opens' : shown'₁ ≡ shown' ++ opened z l s'
  pub as_many : length paired₁ ≡ length paired
  pub noted : (k : ℕ) → k < length paired → slice_index_or paired₁ k [] ≡ slice_index_or paired k [] ++ cond (deals z l (k + 1)) (paired_draw z g l s s' (k + 1)) []

abbrev pub BothAs : Circle → List ℕ → Line → State → State → (ℕ → List ℕ) → (ℕ → List ℕ) → List (List ℕ) → List ℕ → List ℕ → (ℕ → List ℕ) → List (List ℕ) → List ℕ → List ℕ → List (List ℕ) → List (List ℕ) → Result (Unit {0}) Refusal → Type 0
BothAs z g l s s' coins figures rows shown shown₁ figures' rows' shown' shown'₁ paired paired₁ (Ok u) =
    Both z g l s s' coins figures rows shown shown₁ figures' rows' shown' shown'₁ paired paired₁
BothAs z g l s s' coins figures rows shown shown₁ figures' rows' shown' shown'₁ paired paired₁ (Err e) = e ≡ NoMemory
