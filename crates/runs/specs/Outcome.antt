-- What a run answers.
use Rattle.std.specs.Prelude.{◌≡◌, ℕ, Bool, ◌⊎◌, List, Some, None, Ok, Err, vec_items, Result}
use Rattle.shares.specs.Circle.{Circle}
use Rattle.sheets.specs.Meaning.{result}
use Rattle.sheets.specs.declared.line.Line.{Line}
use Rattle.sheets.specs.declared.refusal.Refusal.{Refusal}
use Rattle.sheets.specs.declared.refusal.Refusal.TheVariants.{NoMemory, OutOfRange}
use Rattle.runs.specs.Laws.{Figures, Coins}
use Rattle.runs.specs.Run.{opens}
use Rattle.runs.specs.Seen.{sees}
use Rattle.runs.specs.Short.{runs_out}
use Rattle.runs.specs.Steps.{Reduced}
use Rattle.runs.specs.declared.outcome.Outcome.{Outcome}

-- the figures and coins suffice; what is opened is what the run on shares opens, and what the sheet says of the
-- figures; and what is seen is what the watched see of that run
pub record Ran (z : Circle) (c : ℕ → Bool) (ls : List Line) (figures coins : ℕ → List ℕ) (opened seen : List ℕ) : Type 0 where
  pub figures_suffice : Figures ls figures
  pub coins_suffice : Coins z ls coins
  pub as_run : opened ≡ opens z ls figures coins
  pub as_said : opened ≡ result ls figures
  pub as_seen : seen ≡ sees z c ls figures coins

-- refused for want of memory, or because a number is p or above, or else for what runs out first
abbrev pub RunAs : Circle → (ℕ → Bool) → List Line → (ℕ → List ℕ) → (ℕ → List ℕ) → Result Outcome Refusal → Type 0
RunAs z c ls figures coins (Ok o) = Ran z c ls figures coins (vec_items o.opened) (vec_items o.seen)
RunAs z c ls figures coins (Err e) =
    (e ≡ NoMemory)
    ⊎ (((e ≡ OutOfRange) × (Reduced figures × Reduced coins → ⊥))
    ⊎ ((Reduced figures × Reduced coins) × (runs_out z ls figures coins ≡ Some e)))

-- the same of lists that are below p
pub record AllDone (z : Circle) (c : ℕ → Bool) (ls : List Line) (figures coins : ℕ → List ℕ) (opened seen : List ℕ) : Type 0 where
  pub enough : runs_out z ls figures coins ≡ None
  pub as_run : opened ≡ opens z ls figures coins
  pub as_seen : seen ≡ sees z c ls figures coins

abbrev pub AllDoneAs : Circle → (ℕ → Bool) → List Line → (ℕ → List ℕ) → (ℕ → List ℕ) → Result Outcome Refusal → Type 0
AllDoneAs z c ls figures coins (Ok o) = AllDone z c ls figures coins (vec_items o.opened) (vec_items o.seen)
AllDoneAs z c ls figures coins (Err e) = (e ≡ NoMemory) ⊎ (runs_out z ls figures coins ≡ Some e)
