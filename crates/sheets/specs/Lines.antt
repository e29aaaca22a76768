-- Lines of a sheet: which values they make and name, and what each member has to bring to them.
use Rattle.std.specs.Prelude.{ℕ, ◌+◌, Bool, true, false, cond, ◌&&◌, List, [], ◌∷◌, ◌==◌, nat_le, nat_lt}
use Rattle.field.specs.Field.{p}
use Rattle.shares.specs.Circle.{Circle}
use Rattle.sheets.specs.declared.line.Line.{Line}
use Rattle.sheets.specs.declared.line.Line.TheVariants.{Input, Sum, Times, Product, Open}

-- how many values there are after a line, if there were k before
abbrev pub made : Line → ℕ → ℕ
made (Input w) k = k + 1
made (Sum a e) k = k + 1
made (Times c a) k = k + 1
made (Product a e) k = k + 1
made (Open a) k = k

-- with n members and k values made before, a line names only members and values that are there
abbrev pub good_line : ℕ → ℕ → Line → Bool
good_line n k (Input w) = nat_lt 0 w && nat_le w n
good_line n k (Sum a e) = nat_lt a k && nat_lt e k
good_line n k (Times c a) = nat_lt c p && nat_lt a k
good_line n k (Product a e) = nat_lt a k && nat_lt e k
good_line n k (Open a) = nat_lt a k

unfoldable pub good : ℕ → ℕ → List Line → Bool
good n k [] = true
good n k (l ∷ ls) = good_line n k l && good n (made l k) ls

-- member i gives a figure for this line
abbrev pub gives : Line → ℕ → Bool
gives (Input w) i = i == w
gives (Sum a e) i = false
gives (Times c a) i = false
gives (Product a e) i = false
gives (Open a) i = false

-- member i of n deals a number for this line, under coins of its own
abbrev pub deals_in : ℕ → Line → ℕ → Bool
deals_in n (Input w) i = i == w
deals_in n (Sum a e) i = false
deals_in n (Times c a) i = false
deals_in n (Product a e) i = nat_lt 0 i && nat_le i n
deals_in n (Open a) i = false

abbrev pub deals : Circle → Line → ℕ → Bool
deals z = deals_in z.n

-- how many figures and how many coins member i needs for all lines
unfoldable pub figures_needed : ℕ → List Line → ℕ
figures_needed i [] = 0
figures_needed i (l ∷ ls) = cond (gives l i) 1 0 + figures_needed i ls

unfoldable pub coins_needed : Circle → ℕ → List Line → ℕ
coins_needed z i [] = 0
coins_needed z i (l ∷ ls) = cond (deals z l i) z.t 0 + coins_needed z i ls
