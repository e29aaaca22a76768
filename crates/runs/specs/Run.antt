-- A sheet done on shares: every value is held as one share for each member.
use Rattle.std.specs.Prelude.{ℕ, cond, List, [], ◌∷◌, ◌++◌, map, take, drop, slice_index, slice_index_or}
use Rattle.field.specs.Field.{◌⊕◌, ◌⊗◌}
use Rattle.shares.specs.Circle.{Circle, m, members}
use Rattle.shares.specs.Polynomial.{share_of}
use Rattle.shares.specs.Weights.{joined}
use Rattle.sheets.specs.Lines.{deals}
use Rattle.sheets.specs.Meaning.{figures_after}
use Rattle.sheets.specs.declared.line.Line.{Line}
use Rattle.sheets.specs.declared.line.Line.TheVariants.{Input, Sum, Times, Product, Open}

-- for each value made so far the share of each member; each member's figures not taken and coins not drawn yet
pub record State : Type 0 where
  pub held : List (ℕ → ℕ)
  pub figures : ℕ → List ℕ
  pub coins : ℕ → List ℕ

abbrev pub begun : (ℕ → List ℕ) → (ℕ → List ℕ) → State
begun figures coins = record { held = []; figures = figures; coins = coins }

-- member j's share of value a
abbrev pub share : State → ℕ → ℕ → ℕ
share s a = slice_index_or s.held a (λ j. 0)

-- all n shares of value a
abbrev pub row : Circle → State → ℕ → List ℕ
row z s a = map (share s a) (members z.n)

-- the number that member i deals for a line that it deals for: its next figure, or the product of its two shares
abbrev pub secret : Line → State → ℕ → ℕ
secret (Input w) s i = slice_index (s.figures i) 0
secret (Sum a e) s i = 0
secret (Times k a) s i = 0
secret (Product a e) s i = share s a i ⊗ share s e i
secret (Open a) s i = 0

-- the t coins under which it does so
abbrev pub drawn : Circle → State → ℕ → List ℕ
drawn z s i = take z.t (s.coins i)

-- what dealer i sends member j for a line
abbrev pub sent : Circle → Line → State → ℕ → ℕ → ℕ
sent z l s i j = share_of (secret l s i) (drawn z s i) j

-- the shares of the value that a line makes, if it makes one
abbrev pub shares : Circle → Line → State → List (ℕ → ℕ)
shares z (Input w) s = sent z (Input w) s w ∷ []
shares z (Sum a e) s = (λ j. share s a j ⊕ share s e j) ∷ []
shares z (Times k a) s = (λ j. k ⊗ share s a j) ∷ []
shares z (Product a e) s = (λ j. joined (m z) (map (λ i. sent z (Product a e) s i j) (members z.n))) ∷ []
shares z (Open a) s = []

-- what a line opens, if anything
abbrev pub opened : Circle → Line → State → List ℕ
opened z (Input w) s = []
opened z (Sum a e) s = []
opened z (Times k a) s = []
opened z (Product a e) s = []
opened z (Open a) s = joined (m z) (row z s a) ∷ []

-- each member's coins after a line
abbrev pub coins_after : Circle → Line → (ℕ → List ℕ) → ℕ → List ℕ
coins_after z l coins i = cond (deals z l i) (drop z.t (coins i)) (coins i)

abbrev pub after : Circle → Line → State → State
after z l s = record {
  held = s.held ++ shares z l s;
  figures = figures_after l s.figures;
  coins = coins_after z l s.coins;
}

-- the state after all lines
unfoldable pub final : Circle → List Line → State → State
final z [] s = s
final z (l ∷ ls) s = final z ls (after z l s)

unfoldable pub opened_by : Circle → List Line → State → List ℕ
opened_by z [] s = []
opened_by z (l ∷ ls) s = opened z l s ++ opened_by z ls (after z l s)

-- what the run opens, in the order of the open lines
abbrev pub opens : Circle → List Line → (ℕ → List ℕ) → (ℕ → List ℕ) → List ℕ
opens z ls figures coins = opened_by z ls (begun figures coins)
