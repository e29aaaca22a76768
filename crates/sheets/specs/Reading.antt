-- What is read in the bytes of a sheet: the sheet, or the lowest of its faults.
use Rattle.std.specs.Prelude.{ℕ, ◌+◌, ◌*◌, Bool, true, false, cond, not, ◌&&◌, ◌||◌, List, [], ◌∷◌, map, length, drop, Some, None, Option, ◌==◌, nat_le, nat_lt, slice_index, count_by}
use Rattle.std.specs.List.{list_any}
use Rattle.std.specs.Simd.{first_chunks}
use Rattle.field.specs.Field.{p}
use Rattle.sheets.specs.Bytes.{word_at}
use Rattle.sheets.specs.Lines.{made}
use Rattle.sheets.specs.declared.line.Line.{Line}
use Rattle.sheets.specs.declared.line.Line.TheVariants.{Input, Sum, Times, Product, Open}
use Rattle.sheets.specs.declared.refusal.Refusal.{Refusal}
use Rattle.sheets.specs.declared.refusal.Refusal.TheVariants.{Malformed, BadShape, OutOfRange, NotMadeYet, TooManyInputs}

-- the nine bytes of a line as they stand: a kind and two numbers
abbrev pub kind_of : List ℕ → ℕ
kind_of nine = slice_index nine 0

abbrev pub first_of : List ℕ → ℕ
first_of nine = word_at nine 1

abbrev pub second_of : List ℕ → ℕ
second_of nine = word_at nine 5

-- an unknown kind, or a second number where the kind has only one
abbrev pub malformed : List ℕ → Bool
malformed nine =
    (kind_of nine == 0) || nat_lt 5 (kind_of nine)
    || ((kind_of nine == 1 || kind_of nine == 5) && not (second_of nine == 0))

abbrev pub line_of : List ℕ → Line
line_of nine =
    cond (kind_of nine == 1) (Input (first_of nine))
    (cond (kind_of nine == 2) (Sum (first_of nine) (second_of nine))
    (cond (kind_of nine == 3) (Times (first_of nine) (second_of nine))
    (cond (kind_of nine == 4) (Product (first_of nine) (second_of nine))
    (Open (first_of nine)))))

-- so many parts of nine bytes
abbrev pub nines : ℕ → List ℕ → List (List ℕ)
nines = first_chunks 9

-- the parts of a sheet's bytes
abbrev pub members_of : List ℕ → ℕ
members_of bs = slice_index bs 1

abbrev pub threshold_of : List ℕ → ℕ
threshold_of bs = slice_index bs 2

abbrev pub count_of : List ℕ → ℕ
count_of bs = slice_index bs 3 * 256 + slice_index bs 4

abbrev pub parts_of : List ℕ → List (List ℕ)
parts_of bs = nines (count_of bs) (drop 5 bs)

abbrev pub lines_of : List ℕ → List Line
lines_of bs = map line_of (parts_of bs)

-- 1: unknown kind of the sheet, bad length, or a malformed line
abbrev pub malformed_sheet : List ℕ → Bool
malformed_sheet bs = not (slice_index bs 0 == 1) || not (length bs == 5 + 9 * count_of bs) || list_any malformed (parts_of bs)

-- 2: too many members, or too few for the threshold (so also none), or too few or too many lines
abbrev pub bad_shape : ℕ → ℕ → ℕ → Bool
bad_shape n t count = nat_lt 15 n || nat_lt n (t + t + 1) || count == 0 || nat_lt 4096 count

-- 3: a number is p or above, or names no member
abbrev pub out_of_range : ℕ → Line → Bool
out_of_range n (Input w) = w == 0 || nat_lt n w
out_of_range n (Sum a e) = nat_le p a || nat_le p e
out_of_range n (Times k a) = nat_le p k || nat_le p a
out_of_range n (Product a e) = nat_le p a || nat_le p e
out_of_range n (Open a) = nat_le p a

-- 4: with k values made before, a line names one that is not made yet
abbrev pub undefined : ℕ → Line → Bool
undefined k (Input w) = false
undefined k (Sum a e) = nat_le k a || nat_le k e
undefined k (Times c a) = nat_le k a
undefined k (Product a e) = nat_le k a || nat_le k e
undefined k (Open a) = nat_le k a

unfoldable pub any_undefined : ℕ → List Line → Bool
any_undefined k [] = false
any_undefined k (l ∷ ls) = undefined k l || any_undefined (made l k) ls

-- 12: more than 1024 input lines
abbrev pub is_input : Line → Bool
is_input (Input w) = true
is_input (Sum a e) = false
is_input (Times k a) = false
is_input (Product a e) = false
is_input (Open a) = false

abbrev pub inputs : List Line → ℕ
inputs = count_by is_input

-- what is wrong with lines under n members, the lowest first
abbrev pub verdict_on : ℕ → List Line → Option Refusal
verdict_on n ls =
    cond (list_any (out_of_range n) ls) (Some OutOfRange)
    (cond (any_undefined 0 ls) (Some NotMadeYet)
    (cond (nat_lt 1024 (inputs ls)) (Some TooManyInputs) None))

-- what is wrong with the bytes of a sheet, the lowest first
abbrev pub verdict : List ℕ → Option Refusal
verdict bs =
    cond (malformed_sheet bs) (Some Malformed)
    (cond (bad_shape (members_of bs) (threshold_of bs) (count_of bs)) (Some BadShape)
    (verdict_on (members_of bs) (lines_of bs)))
