-- RIGHT. Along a run the shares of each value lie on a polynomial whose constant is the plain value.
use Rattle.std.proofs.Common.{◌≡◌, ℕ, zero, suc, ◌<◌, T, List, [], ◌∷◌, ◌++◌, get_or, sym, refl, ap, subst₂, lit<}
use mathlib.Core.Path.{fun_ext}
use lib.Dec.{eqb_refl}
use Rattle.field.specs.Field.{p}
use Rattle.field.proofs.Below.{below-take}
use Rattle.field.proofs.Ring.{⊗-below}
use Rattle.shares.specs.Circle.{Circle, m, Fits, members}
use Rattle.shares.specs.Weights.{weights}
use Rattle.sheets.specs.Lines.{deals}
use Rattle.sheets.specs.Meaning.{Plain, plain_made, plain_opened, plain_run}
use Rattle.sheets.specs.declared.line.Line.{Line}
use Rattle.sheets.specs.declared.line.Line.TheVariants.{Input, Sum, Times, Product, Open}
use Rattle.runs.specs.Run.{State, begun, share, secret, drawn, sent, shares, opened, after, final, opened_by}
use Rattle.runs.specs.Laws.{Coins, OnPolynomial, Right}
use Rattle.runs.proofs.Dealers.{Below, each_member, figures-below-after, coins_after_lem, drawn-length, first_below}
use Rattle.runs.proofs.Lists.{both_appended}
use Rattle.runs.proofs.Rows.{Lies, dealing-lies, zeros_lie, sum_lies, multiple_lies, weighted_lies, joined_first, row_joins, products_of_rows_join}

-- the rows of some values
pub data Rows (z : Circle) : List (ℕ → ℕ) → List ℕ → Type 0 where
  no_rows : Rows z [] []
  row_and : {f : ℕ → ℕ} {v : ℕ} {fs : List (ℕ → ℕ)} {vs : List ℕ} → Lies z f v → Rows z fs vs → Rows z (f ∷ fs) (v ∷ vs)

pub both_rows : {z : Circle} {fs gs : List (ℕ → ℕ)} {vs ws : List ℕ} → Rows z fs vs → Rows z gs ws → Rows z (fs ++ gs) (vs ++ ws)
both_rows no_rows k = k
both_rows (row_and h hs) k = row_and h (both_rows hs k)

-- past the end all is 0
pub row_at : {z : Circle} {fs : List (ℕ → ℕ)} {vs : List ℕ} → Rows z fs vs → (a : ℕ) → Lies z (get_or fs a (λ j. 0)) (get_or vs a 0)
row_at {z} no_rows a = zeros_lie z
row_at (row_and h hs) zero = h
row_at (row_and h hs) (suc a) = row_at hs a

-- the plain state of a state with these plain values
abbrev pub plain_of : List ℕ → State → Plain
plain_of vs s = record { values = vs; figures = s.figures }

pub secret-below : (l : Line) (s : State) → Below s.figures → (i : ℕ) → secret l s i < p
secret-below (Input w) s figs i = first_below (s.figures i) (figs i)
secret-below (Sum a e) s figs i = lit< tt
secret-below (Times k a) s figs i = lit< tt
secret-below (Product a e) s figs i = ⊗-below (share s a i) (share s e i)
secret-below (Open a) s figs i = lit< tt

-- the plain values after a line
abbrev pub values_after : Line → List ℕ → State → List ℕ
values_after l vs s = vs ++ plain_made l (plain_of vs s)

module _ (z : Circle) (fits : Fits z) where
  dealing : (l : Line) (ls : List Line) (s : State) → Below s.figures → Coins z (l ∷ ls) s.coins → (i : ℕ) → T (deals z l i) → Lies z (sent z l s i) (secret l s i)
  dealing l ls s figs coins i d =
      dealing-lies z (secret l s i) (drawn z s i) (secret-below l s figs i) (drawn-length z l ls s.coins coins i d) (below-take z.t (s.coins i) (coins.reduced i))

  -- what a line makes
  pub made_rows : (l : Line) (ls : List Line) (s : State) (vs : List ℕ) → Rows z s.held vs → Below s.figures → Coins z (l ∷ ls) s.coins → Rows z (shares z l s) (plain_made l (plain_of vs s))
  made_rows (Input w) ls s vs h figs coins = row_and (dealing (Input w) ls s figs coins w (eqb_refl w)) no_rows
  made_rows (Sum a e) ls s vs h figs coins =
      row_and (sum_lies z (share s a) (share s e) (get_or vs a 0) (get_or vs e 0) (row_at h a) (row_at h e)) no_rows
  made_rows (Times k a) ls s vs h figs coins = row_and (multiple_lies z k (share s a) (get_or vs a 0) (row_at h a)) no_rows
  made_rows (Product a e) ls s vs h figs coins =
      let l : Line = Product a e in
      let rows = each_member (λ i. Lies z (sent z l s i) (secret l s i)) z.n (m z) fits.0 (dealing l ls s figs coins) in
      row_and (subst₂ (Lies z) (fun_ext λ (j : ℕ). sym (joined_first z fits (λ i. sent z l s i j)))
      (products_of_rows_join z fits (share s a) (share s e) (get_or vs a 0) (get_or vs e 0) (row_at h a) (row_at h e))
      (weighted_lies z (weights (m z)) (members (m z)) (sent z l s) (secret l s) rows)) no_rows
  made_rows (Open a) ls s vs h figs coins = no_rows

  -- what it opens
  opened_right : (l : Line) (s : State) (vs : List ℕ) → Rows z s.held vs → opened z l s ≡ plain_opened l (plain_of vs s)
  opened_right (Input w) s vs h = refl
  opened_right (Sum a e) s vs h = refl
  opened_right (Times k a) s vs h = refl
  opened_right (Product a e) s vs h = refl
  opened_right (Open a) s vs h = ap (λ (v : ℕ). v ∷ []) (row_joins z fits (share s a) (get_or vs a 0) (row_at h a))

  record Run (ls : List Line) (s : State) (vs : List ℕ) : Type 0 where
    pub opened : opened_by z ls s ≡ plain_run ls (plain_of vs s)
    pub on_polynomial : (a : ℕ) → OnPolynomial z (share (final z ls s) a)

  runs : (ls : List Line) (s : State) (vs : List ℕ) → Rows z s.held vs → Below s.figures → Coins z ls s.coins → Run ls s vs
  unfolding opened_by plain_run final
  runs [] s vs h figs coins = record {
    opened = refl;
    on_polynomial = λ a. let r = row_at h a in record { coefficients = r.coefficients; count = r.count; reduced = r.reduced; lies = r.lies };
  }
  runs (l ∷ ls) s vs h figs coins =
      let next = runs ls (after z l s) (values_after l vs s) (both_rows h (made_rows l ls s vs h figs coins)) (figures-below-after l s.figures figs) (coins_after_lem z l ls s.coins coins) in
      record {
        opened = both_appended (opened_right l s vs h) next.opened;
        on_polynomial = next.on_polynomial;
      }

pub right : Right
right z fits ls g figures coins figs enough =
    let run = runs z fits ls (begun figures coins) [] no_rows figs.reduced enough in
    record { opened = run.opened; on_polynomial = λ a lt. run.on_polynomial a }
