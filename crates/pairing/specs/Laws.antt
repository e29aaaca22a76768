-- Each answer is given if and only if its case holds and none that comes before it.
use Rattle.std.specs.Prelude.{◌≡◌, ℕ, ◌<◌, Bool, T, ◌⊎◌, ◌↔◌, List, length, get_or, take, Some, None, ◌≢◌, slice_index, slice_index_or}
use Rattle.shares.specs.Circle.{Circle, Fits}
use Rattle.sheets.specs.Families.{of}
use Rattle.sheets.specs.Lines.{figures_needed}
use Rattle.sheets.specs.Meaning.{result}
use Rattle.sheets.specs.declared.line.Line.{Line}
use Rattle.sheets.specs.declared.line.Line.TheVariants.{Input, Open}
use Rattle.sheets.specs.declared.refusal.Refusal.{Refusal}
use Rattle.runs.specs.Laws.{Agree}
use Rattle.runs.specs.Seen.{how_many}
use Rattle.runs.specs.Short.{runs_out}
use Rattle.pairing.specs.Lacking.{runs_out_in_either}
use Rattle.pairing.specs.Verdict.{among, refusal, verdict, Unpaired, Refused, Opened, Figure, Paired}

-- one who is no member is watched, or more than t are
abbrev pub Unpairable : Circle → List ℕ → Type 0
Unpairable z watched =
    ((j : ℕ) × (j < length watched) × ((slice_index watched j ≡ 0) ⊎ (z.n < slice_index watched j))) ⊎ (z.t < how_many (among watched) z.n)

-- the first place at which two lists differ
abbrev pub FirstAt : ℕ → List ℕ → List ℕ → Type 0
FirstAt k xs ys =
    (k < length xs) × (slice_index xs k ≢ slice_index ys k) × ((j : ℕ) → j < k → slice_index xs j ≡ slice_index ys j)

-- the figure of member w that line j takes: as many of its own were taken before
abbrev pub given : List Line → (ℕ → List ℕ) → ℕ → ℕ → ℕ
given ls figures j w = slice_index (figures w) (figures_needed w (take j ls))

-- the first input line of a watched member at which the figures differ is for figure k of member w
pub record FigureAt (c : ℕ → Bool) (ls : List Line) (figures figures' : ℕ → List ℕ) (w k : ℕ) : Type 0 where
  pub line : ℕ
  pub inside : line < length ls
  pub takes : get_or ls line (Open 0) ≡ Input w
  pub watched : T (c w)
  pub place : k ≡ figures_needed w (take line ls)
  pub differs : given ls figures line w ≡ given ls figures' line w → ⊥
  pub before : (j v : ℕ) → j < line → slice_index_or ls j (Open 0) ≡ Input v → T (c v) → given ls figures j v ≡ given ls figures' j v

pub record Cases (z : Circle) (ls : List Line) (watched : List ℕ) (coins figures figures' : List (List ℕ)) : Type 0 where
  pub unpaired : (verdict z ls watched coins figures figures' ≡ Unpaired) ↔ (Unpairable z watched)
  pub refused : (e : Refusal) → (verdict z ls watched coins figures figures' ≡ Refused e) ↔ ((Unpairable z watched → ⊥) × (refusal z ls coins figures figures' ≡ Some e))
  pub opened : (k : ℕ) → (verdict z ls watched coins figures figures' ≡ Opened k) ↔
      ((Unpairable z watched → ⊥) × (refusal z ls coins figures figures' ≡ None) × FirstAt k (result ls (of figures)) (result ls (of figures')))
  pub figure : (w k : ℕ) → (verdict z ls watched coins figures figures' ≡ Figure (record { member = w; place = k })) ↔
      ((Unpairable z watched → ⊥) × (refusal z ls coins figures figures' ≡ None) × (result ls (of figures) ≡ result ls (of figures')) × FigureAt (among watched) ls (of figures) (of figures') w k)
  pub paired : (verdict z ls watched coins figures figures' ≡ Paired) ↔
      ((Unpairable z watched → ⊥) × (refusal z ls coins figures figures' ≡ None) × (result ls (of figures) ≡ result ls (of figures')) × Agree (among watched) ls (of figures) (of figures'))

abbrev pub Judged : Type 0
Judged =
    (z : Circle) → Fits z → (ls : List Line) (watched : List ℕ) (coins figures figures' : List (List ℕ)) → Cases z ls watched coins figures figures'

-- Nothing is missing in either run if and only if nothing is missing in the one nor in the other.
abbrev pub Neither : Type 0
Neither =
    (z : Circle) (ls : List Line) (figures figures' coins : ℕ → List ℕ) →
    (runs_out_in_either z ls figures figures' coins ≡ None) ↔ ((runs_out z ls figures coins ≡ None) × (runs_out z ls figures' coins ≡ None))
