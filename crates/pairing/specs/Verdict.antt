-- What is answered, of what may stand in the way the first.
use Rattle.std.specs.Prelude.{◌≡◌, ℕ, Bool, cond, ◌&&◌, ◌||◌, ◌⊎◌, List, Some, None, Ok, Err, Option, Result, nat_eq, nat_lt}
use Rattle.field.specs.Field.{all_below}
use Rattle.shares.specs.Circle.{Circle}
use Rattle.sheets.specs.Families.{of}
use Rattle.sheets.specs.Meaning.{result}
use Rattle.std.specs.List.{list_any}
use Rattle.sheets.specs.declared.line.Line.{Line}
use Rattle.sheets.specs.declared.refusal.Refusal.{Refusal}
use Rattle.sheets.specs.declared.refusal.Refusal.TheVariants.{NoMemory, OutOfRange}
use Rattle.console.specs.Numbers.{outside}
use Rattle.runs.specs.Seen.{how_many}
use Rattle.pairing.specs.declared.differing.Place.{Place}
use Rattle.pairing.specs.Differing.{differ, figure_differs}
use Rattle.pairing.specs.Lacking.{runs_out_in_either}

-- who is watched, given by numbers: a set
abbrev pub among : List ℕ → ℕ → Bool
among watched i = list_any (λ number. nat_eq number i) watched

-- one who is no member is watched, or more than t are
abbrev pub unpairable : Circle → List ℕ → Bool
unpairable z watched = list_any (outside z.n) watched || nat_lt z.t (how_many (among watched) z.n)

-- a number is p or above, or else what is missing first
abbrev pub refusal : Circle → List Line → List (List ℕ) → List (List ℕ) → List (List ℕ) → Option Refusal
refusal z ls coins figures figures' =
    cond (all_below figures && (all_below figures' && all_below coins)) (runs_out_in_either z ls (of figures) (of figures') (of coins)) (Some OutOfRange)

pub data Verdict : Type 0 where
  Unpaired : Verdict
  Refused : Refusal → Verdict
  Opened : ℕ → Verdict
  Figure : Place → Verdict
  Paired : Verdict

abbrev pub first_of : Option Refusal → Option ℕ → Option Place → Verdict
first_of (Some e) opened figure = Refused e
first_of None (Some k) figure = Opened k
first_of None None (Some place) = Figure place
first_of None None None = Paired

abbrev pub verdict : Circle → List Line → List ℕ → List (List ℕ) → List (List ℕ) → List (List ℕ) → Verdict
verdict z ls watched coins figures figures' =
    cond (unpairable z watched) Unpaired
    (first_of (refusal z ls coins figures figures') (differ 0 (result ls (of figures)) (result ls (of figures'))) (figure_differs (among watched) ls (λ i. 0) (of figures) (of figures')))

abbrev pub SufficeAs : Circle → List Line → List (List ℕ) → List (List ℕ) → List (List ℕ) → Result (Unit {0}) Refusal → Type 0
SufficeAs z ls coins figures figures' (Ok u) = refusal z ls coins figures figures' ≡ None
SufficeAs z ls coins figures figures' (Err e) = (e ≡ NoMemory) ⊎ (refusal z ls coins figures figures' ≡ Some e)
