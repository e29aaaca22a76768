-- The theorems of a sheet done on shares: it is right, nobody learns more, and what it takes.
use Rattle.std.specs.Prelude.{◌≡◌, ℕ, ◌+◌, ◌<◌, ◌≤◌, Bool, T, List, length, take, drop, None}
use Rattle.field.specs.Field.{below}
use Rattle.shares.specs.Circle.{Circle, Fits}
use Rattle.shares.specs.Polynomial.{value}
use Rattle.sheets.specs.Lines.{good, figures_needed, coins_needed}
use Rattle.sheets.specs.Meaning.{result}
use Rattle.sheets.specs.declared.line.Line.{Line}
use Rattle.runs.specs.Run.{begun, share, final, opens}
use Rattle.runs.specs.Seen.{sees, how_many}
use Rattle.runs.specs.Pairing.{there}
use Rattle.runs.specs.Short.{runs_out}

-- at least as many figures (coins) of each member as its lines take, each below p
pub record Figures (ls : List Line) (figures : ℕ → List ℕ) : Type 0 where
  pub enough : (i : ℕ) → figures_needed i ls ≤ length (figures i)
  pub reduced : (i : ℕ) → T (below (figures i))

pub record Coins (z : Circle) (ls : List Line) (coins : ℕ → List ℕ) : Type 0 where
  pub enough : (i : ℕ) → coins_needed z i ls ≤ length (coins i)
  pub reduced : (i : ℕ) → T (below (coins i))

-- the shares of value a lie on one polynomial of t + 1 coefficients
pub record OnPolynomial (z : Circle) (shares : ℕ → ℕ) : Type 0 where
  pub coefficients : List ℕ
  pub count : length coefficients ≡ z.t + 1
  pub reduced : T (below coefficients)
  pub lies : (j : ℕ) → shares j ≡ value coefficients j

-- RIGHT: for all coins, what is opened is exactly what the sheet says of the figures, and all shares of each value
-- lie on one polynomial of t + 1 coefficients.
pub record Rightly (z : Circle) (ls : List Line) (figures coins : ℕ → List ℕ) : Type 0 where
  pub opened : opens z ls figures coins ≡ result ls figures
  pub on_polynomial : (a : ℕ) → a < length (final z ls (begun figures coins)).held → OnPolynomial z (share (final z ls (begun figures coins)) a)

abbrev pub Right : Type 0
Right =
    (z : Circle) → Fits z → (ls : List Line) → T (good z.n 0 ls) →
    (figures coins : ℕ → List ℕ) → Figures ls figures → Coins z ls coins → Rightly z ls figures coins

-- `there` and `back` keep what suffices and every length, undo each other, leave coins that no line draws as they
-- are, and the watched see the same of the first run and of the second with the paired coins.
pub record Paired (z : Circle) (c : ℕ → Bool) (ls : List Line) (figures figures' : ℕ → List ℕ) (there back : (ℕ → List ℕ) → ℕ → List ℕ) : Type 0 where
  pub there_suffices : (cs : ℕ → List ℕ) → Coins z ls cs → Coins z ls (there cs)
  pub back_suffices : (cs : ℕ → List ℕ) → Coins z ls cs → Coins z ls (back cs)
  pub there_length : (cs : ℕ → List ℕ) → Coins z ls cs → (i : ℕ) → length (there cs i) ≡ length (cs i)
  pub back_length : (cs : ℕ → List ℕ) → Coins z ls cs → (i : ℕ) → length (back cs i) ≡ length (cs i)
  pub there_undrawn : (cs : ℕ → List ℕ) → Coins z ls cs → (i : ℕ) → drop (coins_needed z i ls) (there cs i) ≡ drop (coins_needed z i ls) (cs i)
  pub back_undrawn : (cs : ℕ → List ℕ) → Coins z ls cs → (i : ℕ) → drop (coins_needed z i ls) (back cs i) ≡ drop (coins_needed z i ls) (cs i)
  pub back_there : (cs : ℕ → List ℕ) → Coins z ls cs → (i : ℕ) → back (there cs) i ≡ cs i
  pub there_back : (cs : ℕ → List ℕ) → Coins z ls cs → (i : ℕ) → there (back cs) i ≡ cs i
  pub same : (cs : ℕ → List ℕ) → Coins z ls cs → sees z c ls figures cs ≡ sees z c ls figures' (there cs)

-- the figures that the lines take of the watched members
abbrev pub Agree : (ℕ → Bool) → List Line → (ℕ → List ℕ) → (ℕ → List ℕ) → Type 0
Agree c ls figures figures' = (i : ℕ) → T (c i) → take (figures_needed i ls) (figures i) ≡ take (figures_needed i ls) (figures' i)

-- ALIKE: for at most t watched members, and two sets of figures that agree in theirs and open the same, the coins of
-- the one run pair off one to one with those of the other so that the watched see the same.
abbrev pub Alike : Type 0
Alike =
    (z : Circle) → Fits z → (ls : List Line) → T (good z.n 0 ls) →
    (c : ℕ → Bool) → how_many c z.n ≤ z.t →
    (figures figures' : ℕ → List ℕ) → Figures ls figures → Figures ls figures' →
    Agree c ls figures figures' → result ls figures ≡ result ls figures' →
    Paired z c ls figures figures' (there z c ls figures figures') (there z c ls figures' figures)

-- Fewer watched see no more: what they see of two runs is the same where more saw the same.
abbrev pub Fewer : Type 0
Fewer =
    (z : Circle) (c d : ℕ → Bool) → ((i : ℕ) → T (c i) → T (d i)) → (ls : List Line) →
    (figures figures' coins coins' : ℕ → List ℕ) → Figures ls figures → Figures ls figures' → Coins z ls coins → Coins z ls coins' →
    sees z d ls figures coins ≡ sees z d ls figures' coins' → sees z c ls figures coins ≡ sees z c ls figures' coins'

-- ENOUGH: nothing runs out if and only if each member has as many figures and coins as its lines take.
pub record Suffice (z : Circle) (ls : List Line) (figures coins : ℕ → List ℕ) : Type 0 where
  pub figures_enough : (i : ℕ) → figures_needed i ls ≤ length (figures i)
  pub coins_enough : (i : ℕ) → coins_needed z i ls ≤ length (coins i)

abbrev pub Enough : Type 0
Enough =
    (z : Circle) (ls : List Line) (figures coins : ℕ → List ℕ) →
    (runs_out z ls figures coins ≡ None → Suffice z ls figures coins) × (Suffice z ls figures coins → runs_out z ls figures coins ≡ None)
