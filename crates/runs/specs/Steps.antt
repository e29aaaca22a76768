-- What the parts of a line do, each in terms of the run.
use Rattle.std.specs.Prelude.{◌≡◌, ℕ, ◌<◌, ◌≤◌, Bool, true, false, cond, T, ◌⊎◌, List, [], ◌∷◌, ◌++◌, map, length, take, Some, None, Ok, Err, Result, nat_lt, slice_index}
use Rattle.std.specs.List.{flat_map, list_any, AllByRecursion}
use Rattle.field.specs.Field.{◌⊗◌, below}
use Rattle.shares.specs.Circle.{Circle, m, members}
use Rattle.shares.specs.Polynomial.{share_of}
use Rattle.shares.specs.Weights.{joined}
use Rattle.sheets.specs.Drawing.{after as after_drawing}
use Rattle.sheets.specs.Lines.{good_line}
use Rattle.sheets.specs.Meaning.{figures_after}
use Rattle.sheets.specs.declared.line.Line.{Line}
use Rattle.sheets.specs.declared.line.Line.TheVariants.{Input, Product}
use Rattle.sheets.specs.declared.refusal.Refusal.{Refusal}
use Rattle.sheets.specs.declared.refusal.Refusal.TheVariants.{NoMemory, NoCoins}
use Rattle.runs.specs.Row.{row_of}
use Rattle.runs.specs.Run.{State, after, coins_after, opened}
use Rattle.runs.specs.Seen.{watched_in, seen_at}
use Rattle.runs.specs.Short.{short_at}

abbrev pub Reduced : (ℕ → List ℕ) → Type 0
Reduced family = (i : ℕ) → T (below (family i))

abbrev pub in_state : List (ℕ → ℕ) → (ℕ → List ℕ) → (ℕ → List ℕ) → State
in_state held figures coins = record { held = held; figures = figures; coins = coins }

-- a dealer's t coins are noted if it is watched
abbrev pub CoinsNoted : Circle → (ℕ → Bool) → ℕ → (ℕ → List ℕ) → List ℕ → List ℕ → Result (Unit {0}) Refusal → Type 0
CoinsNoted z c w coins seen seen' (Ok u) = (z.t ≤ length (coins w)) × (seen' ≡ seen ++ cond (c w) (take z.t (coins w)) [])
CoinsNoted z c w coins seen seen' (Err e) = (e ≡ NoMemory) ⊎ ((e ≡ NoCoins) × (length (coins w) < z.t))

abbrev pub lacks : Circle → (ℕ → List ℕ) → ℕ → Bool
lacks z coins i = nat_lt (length (coins i)) z.t

-- the same of all members
abbrev pub AllCoinsNoted : Circle → (ℕ → Bool) → (ℕ → List ℕ) → List ℕ → List ℕ → Result (Unit {0}) Refusal → Type 0
AllCoinsNoted z c coins seen seen' (Ok u) =
    (list_any (lacks z coins) (members z.n) ≡ false)
    × (seen' ≡ seen ++ flat_map (λ i. cond (c i) (take z.t (coins i)) []) (members z.n))
AllCoinsNoted z c coins seen seen' (Err e) = (e ≡ NoMemory) ⊎ ((e ≡ NoCoins) × (list_any (lacks z coins) (members z.n) ≡ true))

-- member w deals a number to all under its next t coins, and those who are watched see their shares
pub record Dealing (z : Circle) (c : ℕ → Bool) (w v : ℕ) (coins coins' : ℕ → List ℕ) (seen seen' row : List ℕ) : Type 0 where
  pub enough : z.t ≤ length (coins w)
  pub moved : coins' ≡ after_drawing w z.t coins
  pub sent : row ≡ row_of (share_of v (take z.t (coins w)))
  pub noted : seen' ≡ seen ++ map (share_of v (take z.t (coins w))) (watched_in z c)

abbrev pub DealtOut : Circle → (ℕ → Bool) → ℕ → ℕ → (ℕ → List ℕ) → (ℕ → List ℕ) → List ℕ → List ℕ → Result (List ℕ) Refusal → Type 0
DealtOut z c w v coins coins' seen seen' (Ok row) = Dealing z c w v coins coins' seen seen' row
DealtOut z c w v coins coins' seen seen' (Err e) = (e ≡ NoMemory) ⊎ ((e ≡ NoCoins) × (length (coins w) < z.t))

-- member w puts in a figure
pub record Entered (z : Circle) (c : ℕ → Bool) (w : ℕ) (figures figures' coins coins' : ℕ → List ℕ) (seen seen' row : List ℕ) : Type 0 where
  pub enough : short_at z (Input w) figures coins ≡ None
  pub taken : figures' ≡ figures_after (Input w) figures
  pub moved : coins' ≡ coins_after z (Input w) coins
  pub sent : row ≡ row_of (share_of (slice_index (figures w) 0) (take z.t (coins w)))
  pub noted : seen' ≡ seen ++ seen_at z c (Input w) (in_state [] figures coins)

abbrev pub EnteredAs : Circle → (ℕ → Bool) → ℕ → (ℕ → List ℕ) → (ℕ → List ℕ) → (ℕ → List ℕ) → (ℕ → List ℕ) → List ℕ → List ℕ → Result (List ℕ) Refusal → Type 0
EnteredAs z c w figures figures' coins coins' seen seen' (Ok row) = Entered z c w figures figures' coins coins' seen seen' row
EnteredAs z c w figures figures' coins coins' seen seen' (Err e) = (e ≡ NoMemory) ⊎ (short_at z (Input w) figures coins ≡ Some e)

-- all members deal the products of their shares, f of one value and g of another, and join what they get
abbrev pub dealing : Circle → (ℕ → ℕ) → (ℕ → ℕ) → (ℕ → List ℕ) → ℕ → ℕ → ℕ
dealing z f g coins i = share_of (f i ⊗ g i) (take z.t (coins i))

pub record Multiplied (z : Circle) (c : ℕ → Bool) (f g : ℕ → ℕ) (coins coins' : ℕ → List ℕ) (seen seen' row : List ℕ) : Type 0 where
  pub moved : coins' ≡ coins_after z (Product 0 0) coins
  pub made : row ≡ row_of (λ j. joined (m z) (map (λ i. dealing z f g coins i j) (members z.n)))
  pub noted : seen' ≡ seen ++ flat_map (λ i. map (dealing z f g coins i) (watched_in z c)) (members z.n)

abbrev pub MultipliedAs : Circle → (ℕ → Bool) → (ℕ → ℕ) → (ℕ → ℕ) → (ℕ → List ℕ) → (ℕ → List ℕ) → List ℕ → List ℕ → Result (List ℕ) Refusal → Type 0
MultipliedAs z c f g coins coins' seen seen' (Ok row) = Multiplied z c f g coins coins' seen seen' row
MultipliedAs z c f g coins coins' seen seen' (Err e) = e ≡ NoMemory

-- the same, with the coins noted that they draw
pub record Producing (z : Circle) (c : ℕ → Bool) (f g : ℕ → ℕ) (coins coins' : ℕ → List ℕ) (seen seen' row : List ℕ) : Type 0 where
  pub enough : short_at z (Product 0 0) coins coins ≡ None
  pub moved : coins' ≡ coins_after z (Product 0 0) coins
  pub made : row ≡ row_of (λ j. joined (m z) (map (λ i. dealing z f g coins i j) (members z.n)))
  pub noted : seen' ≡ seen ++ (flat_map (λ i. cond (c i) (take z.t (coins i)) []) (members z.n) ++ flat_map (λ i. map (dealing z f g coins i) (watched_in z c)) (members z.n))

abbrev pub ProductAs : Circle → (ℕ → Bool) → (ℕ → ℕ) → (ℕ → ℕ) → (ℕ → List ℕ) → (ℕ → List ℕ) → List ℕ → List ℕ → Result (List ℕ) Refusal → Type 0
ProductAs z c f g coins coins' seen seen' (Ok row) = Producing z c f g coins coins' seen seen' row
ProductAs z c f g coins coins' seen seen' (Err e) = (e ≡ NoMemory) ⊎ (short_at z (Product 0 0) coins coins ≡ Some e)

-- everybody shows its share, f of the value, and the joining is opened
abbrev pub ShownAs : Circle → (ℕ → ℕ) → List ℕ → List ℕ → List ℕ → List ℕ → Result (Unit {0}) Refusal → Type 0
ShownAs z f opened opened' seen seen' (Ok u) =
    (opened' ≡ opened ++ joined (m z) (map f (members z.n)) ∷ []) × (seen' ≡ seen ++ map f (members z.n))
ShownAs z f opened opened' seen seen' (Err e) = e ≡ NoMemory

-- a line is done, from a state of which the rows are held
pub record Done (z : Circle) (c : ℕ → Bool) (l : Line) (s : State) (rows' : List (List ℕ)) (figures' coins' : ℕ → List ℕ) (shown shown' seen seen' : List ℕ) : Type 0 where
  pub enough : short_at z l s.figures s.coins ≡ None
  pub held : rows' ≡ map row_of (after z l s).held
  pub taken : figures' ≡ (after z l s).figures
  pub moved : coins' ≡ (after z l s).coins
  pub opens : shown' ≡ shown ++ opened z l s
  pub noted : seen' ≡ seen ++ seen_at z c l s

abbrev pub DoneAs : Circle → (ℕ → Bool) → Line → State → List (List ℕ) → (ℕ → List ℕ) → (ℕ → List ℕ) → List ℕ → List ℕ → List ℕ → List ℕ → Result (Unit {0}) Refusal → Type 0
DoneAs z c l s rows' figures' coins' shown shown' seen seen' (Ok u) = Done z c l s rows' figures' coins' shown shown' seen seen'
DoneAs z c l s rows' figures' coins' shown shown' seen seen' (Err e) = (e ≡ NoMemory) ⊎ (short_at z l s.figures s.coins ≡ Some e)

-- what a line asks of bare rows and lists
pub record Ready (z : Circle) (l : Line) (rows : List (List ℕ)) (figures coins : ℕ → List ℕ) : Type 0 where
  pub good : T (good_line z.n (length rows) l)
  pub small : AllByRecursion (λ row. T (below row)) rows
  pub figures_small : Reduced figures
  pub coins_small : Reduced coins
