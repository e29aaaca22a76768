-- Worked examples, as rows of one table. The definitions on the left are those that the contracts of the code cite.
use Rattle.std.specs.Prelude.{◌≡◌, ℕ, ◌-◌, Bool, List, [], ◌∷◌, map, take, Some, None, Option, ◌==◌}
use Rattle.std.specs.List.{AllByRecursion}
use Rattle.field.specs.Field.{p}
use Rattle.shares.specs.Circle.{Circle, members}
use Rattle.shares.specs.Polynomial.{dealt}
use Rattle.shares.specs.Weights.{weights, joined}
use Rattle.sheets.specs.Bytes.{sheet_bytes}
use Rattle.sheets.specs.Families.{of}
use Rattle.sheets.specs.Meaning.{result}
use Rattle.sheets.specs.Reading.{verdict}
use Rattle.sheets.specs.Refusals.{number_of}
use Rattle.sheets.specs.declared.line.Line.{Line}
use Rattle.sheets.specs.declared.line.Line.TheVariants.{Input, Sum, Product, Open}
use Rattle.sheets.specs.declared.refusal.Refusal.{Refusal}
use Rattle.runs.specs.Run.{State, begun, final, row, secret, sent, opens}
use Rattle.runs.specs.Seen.{sees}
use Rattle.runs.specs.Pairing.{there}

-- what is computed, and what it must be
infix 20 ◌gives◌
pub data Row : Type 0 where
  ◌gives◌ : List ℕ → List ℕ → Row

abbrev pub Holds : Row → Type 0
Holds (computed gives expected) = computed ≡ expected

-- three members, of whom none by itself is to learn anything
abbrev pub three : Circle
three = record { n = 3; t = 1 }

-- members 1 and 2 give a figure each, of which the sum is opened, or the product
abbrev pub adding : List Line
adding = Input 1 ∷ Input 2 ∷ Sum 0 1 ∷ Open 2 ∷ []

abbrev pub multiplying : List Line
multiplying = Input 1 ∷ Input 2 ∷ Product 0 1 ∷ Open 2 ∷ []

-- the figures 5 and 3 under the coins 2 and 4; for the product each member draws the coin 1 besides
abbrev pub five_three : ℕ → List ℕ
five_three = of ((5 ∷ []) ∷ (3 ∷ []) ∷ [])

abbrev pub coins : ℕ → List ℕ
coins = of ((2 ∷ []) ∷ (4 ∷ []) ∷ [])

abbrev pub more_coins : ℕ → List ℕ
more_coins = of ((2 ∷ 1 ∷ []) ∷ (4 ∷ 1 ∷ []) ∷ (1 ∷ []) ∷ [])

abbrev pub added : State
added = final three adding (begun five_three coins)

abbrev pub multiplied : State
multiplied = final three multiplying (begun five_three more_coins)

-- before the product: the two figures are dealt
abbrev pub before : State
before = final three (take 2 multiplying) (begun five_three more_coins)

-- other figures with the same sum, member 3 watched, and the coins under which it looks the same
abbrev pub six_two : ℕ → List ℕ
six_two = of ((6 ∷ []) ∷ (2 ∷ []) ∷ [])

abbrev pub watched : ℕ → Bool
watched i = i == 3

abbrev pub paired : ℕ → List ℕ
paired = there three watched adding five_three six_two coins

abbrev pub paired_back : ℕ → List ℕ
paired_back = there three watched adding six_two five_three paired

-- figures with another sum
abbrev pub five_four : ℕ → List ℕ
five_four = of ((5 ∷ []) ∷ (4 ∷ []) ∷ [])

-- a circle of one, who has no coins and gives the figures 5 and 3
abbrev pub one : Circle
one = record { n = 1; t = 0 }

abbrev pub showing : List Line
showing = Input 1 ∷ Input 1 ∷ Open 0 ∷ Open 1 ∷ []

abbrev pub alone : ℕ → List ℕ
alone = of ((5 ∷ 3 ∷ []) ∷ [])

abbrev pub no_coins : ℕ → List ℕ
no_coins = of []

-- the number with which bytes are refused as a sheet, if they are
abbrev pub told : Option Refusal → List ℕ
told None = []
told (Some e) = number_of e ∷ []

abbrev pub table : List Row
table =
    -- A. shares of 5 under the coin 2, and of 3 under the coin 4
    (dealt 3 5 (2 ∷ []) gives 7 ∷ 9 ∷ 11 ∷ [])
    ∷ (dealt 3 3 (4 ∷ []) gives 7 ∷ 11 ∷ 15 ∷ [])
    -- B. shares of the sum; the weights; the joining, and what the run opens
    ∷ (row three added 2 gives 14 ∷ 20 ∷ 26 ∷ [])
    ∷ (weights 3 gives 3 ∷ (p - 3) ∷ 1 ∷ [])
    ∷ ((joined 3 (14 ∷ 20 ∷ 26 ∷ []) ∷ []) gives 8 ∷ [])
    ∷ (opens three adding five_three coins gives 8 ∷ [])
    -- C. the members' own products; what each of them sends; the new shares, and what the run opens
    ∷ (map (secret (Product 0 1) before) (members 3) gives 49 ∷ 99 ∷ 165 ∷ [])
    ∷ (map (sent three (Product 0 1) before 1) (members 3) gives 50 ∷ 51 ∷ 52 ∷ [])
    ∷ (map (sent three (Product 0 1) before 2) (members 3) gives 100 ∷ 101 ∷ 102 ∷ [])
    ∷ (map (sent three (Product 0 1) before 3) (members 3) gives 166 ∷ 167 ∷ 168 ∷ [])
    ∷ (row three multiplied 2 gives 16 ∷ 17 ∷ 18 ∷ [])
    ∷ (opens three multiplying five_three more_coins gives 15 ∷ [])
    -- D. the paired coins of members 1 and 2; what they open; what member 3 sees of both runs; the way back
    ∷ (paired 1 gives 715827884 ∷ [])
    ∷ (paired 2 gives 1431655769 ∷ [])
    ∷ (opens three adding six_two paired gives 8 ∷ [])
    ∷ (sees three watched adding five_three coins gives 11 ∷ 15 ∷ 14 ∷ 20 ∷ 26 ∷ [])
    ∷ (sees three watched adding six_two paired gives 11 ∷ 15 ∷ 14 ∷ 20 ∷ 26 ∷ [])
    ∷ (paired_back 1 gives 2 ∷ [])
    ∷ (paired_back 2 gives 4 ∷ [])
    -- E. alone: the shares are the figures, and what is opened too
    ∷ (row one (final one showing (begun alone no_coins)) 0 gives 5 ∷ [])
    ∷ (row one (final one showing (begun alone no_coins)) 1 gives 3 ∷ [])
    ∷ (opens one showing alone no_coins gives 5 ∷ 3 ∷ [])
    -- F. figures that open something else, so that nothing pairs them
    ∷ (result adding five_three gives 8 ∷ [])
    ∷ (result adding five_four gives 9 ∷ [])
    -- G. bytes with an open line before any value; with four members and t = 2; and with nothing wrong
    ∷ (told (verdict (1 ∷ 3 ∷ 1 ∷ 0 ∷ 1 ∷ 5 ∷ 0 ∷ 0 ∷ 0 ∷ 0 ∷ 0 ∷ 0 ∷ 0 ∷ 0 ∷ [])) gives 4 ∷ [])
    ∷ (told (verdict (1 ∷ 4 ∷ 2 ∷ 0 ∷ 1 ∷ 1 ∷ 0 ∷ 0 ∷ 0 ∷ 1 ∷ 0 ∷ 0 ∷ 0 ∷ 0 ∷ [])) gives 2 ∷ [])
    ∷ (told (verdict (sheet_bytes 3 1 adding)) gives [])
    ∷ []

-- Every row of the table is right.
abbrev pub Cases : Type 0
Cases = AllByRecursion Holds table
