-- What watched members see of a run, line by line. Who is watched is a test of members.
use Rattle.std.specs.Prelude.{ℕ, zero, suc, ◌+◌, Bool, cond, List, [], ◌∷◌, ◌++◌, map, filter, slice_index}
use Rattle.std.specs.List.{flat_map}
use Rattle.shares.specs.Circle.{Circle, members}
use Rattle.sheets.specs.declared.line.Line.{Line}
use Rattle.sheets.specs.declared.line.Line.TheVariants.{Input, Sum, Times, Product, Open}
use Rattle.runs.specs.Run.{State, begun, row, drawn, sent, after}

-- the watched among 1 to n, in order
abbrev pub watched_in : Circle → (ℕ → Bool) → List ℕ
watched_in z c = filter c (members z.n)

-- those who deal for a line, in order
abbrev pub dealers : Circle → Line → List ℕ
dealers z (Input w) = w ∷ []
dealers z (Sum a e) = []
dealers z (Times k a) = []
dealers z (Product a e) = members z.n
dealers z (Open a) = []

-- the figure that a watched member gave for a line
abbrev pub own_figure : (ℕ → Bool) → Line → State → List ℕ
own_figure c (Input w) s = cond (c w) (slice_index (s.figures w) 0 ∷ []) []
own_figure c (Sum a e) s = []
own_figure c (Times k a) s = []
own_figure c (Product a e) s = []
own_figure c (Open a) s = []

-- the coins that watched dealers drew, dealer by dealer
abbrev pub own_coins : Circle → (ℕ → Bool) → Line → State → List ℕ
own_coins z c l s = flat_map (λ i. cond (c i) (drawn z s i) []) (dealers z l)

-- from each dealer in order what it sent to each watched member
abbrev pub received : Circle → (ℕ → Bool) → Line → State → List ℕ
received z c l s = flat_map (λ i. map (sent z l s i) (watched_in z c)) (dealers z l)

-- what everybody is shown: at an open line all n shares
abbrev pub shown : Circle → Line → State → List ℕ
shown z (Input w) s = []
shown z (Sum a e) s = []
shown z (Times k a) s = []
shown z (Product a e) s = []
shown z (Open a) s = row z s a

abbrev pub seen_at : Circle → (ℕ → Bool) → Line → State → List ℕ
seen_at z c l s = own_figure c l s ++ (own_coins z c l s ++ (received z c l s ++ shown z l s))

unfoldable pub seen_by : Circle → (ℕ → Bool) → List Line → State → List ℕ
seen_by z c [] s = []
seen_by z c (l ∷ ls) s = seen_at z c l s ++ seen_by z c ls (after z l s)

-- all that the watched see of a run
abbrev pub sees : Circle → (ℕ → Bool) → List Line → (ℕ → List ℕ) → (ℕ → List ℕ) → List ℕ
sees z c ls figures coins = seen_by z c ls (begun figures coins)

-- how many of 1 to n are watched
unfoldable pub how_many : (ℕ → Bool) → ℕ → ℕ
how_many c zero = 0
how_many c (suc n) = cond (c (suc n)) 1 0 + how_many c n
