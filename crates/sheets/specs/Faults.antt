-- The faults that the bytes of a sheet may have, each with its number.
use Rattle.std.specs.Prelude.{◌≡◌, ℕ, ◌+◌, ◌*◌, ◌<◌, ◌≤◌, ◌⊎◌, List, [], ◌∷◌, length, take, ◌≢◌, slice_index, slice_index_or}
use Rattle.field.specs.Field.{p}
use Rattle.sheets.specs.Lines.{made}
use Rattle.sheets.specs.Reading.{kind_of, second_of, members_of, threshold_of, count_of, parts_of, lines_of, inputs}
use Rattle.sheets.specs.declared.line.Line.{Line}
use Rattle.sheets.specs.declared.line.Line.TheVariants.{Input, Sum, Times, Product, Open}

-- 1: the kind of the sheet, its length, the kind of a line, or a second number where there is only one
abbrev pub BadPart : List ℕ → Type 0
BadPart nine = ((kind_of nine ≡ 0) ⊎ (5 < kind_of nine)) ⊎ (((kind_of nine ≡ 1) ⊎ (kind_of nine ≡ 5)) × (second_of nine ≢ 0))

abbrev pub BadForm : List ℕ → Type 0
BadForm bs =
    ((slice_index bs 0 ≢ 1) ⊎ (length bs ≢ 5 + 9 * count_of bs))
    ⊎ ((k : ℕ) × (k < count_of bs) × BadPart (slice_index_or (parts_of bs) k []))

-- 2: more than 15 members, fewer than 2t + 1, no line, more than 4096
abbrev pub WrongSize : List ℕ → Type 0
WrongSize bs =
    (((15 < members_of bs) ⊎ (members_of bs < threshold_of bs + threshold_of bs + 1)) ⊎ (count_of bs ≡ 0)) ⊎ (4096 < count_of bs)

-- 3: a number that is p or above, or a member that isn't there
abbrev pub TooLarge : ℕ → Line → Type 0
TooLarge n (Input w) = (w ≡ 0) ⊎ (n < w)
TooLarge n (Sum a e) = (p ≤ a) ⊎ (p ≤ e)
TooLarge n (Times k a) = (p ≤ k) ⊎ (p ≤ a)
TooLarge n (Product a e) = (p ≤ a) ⊎ (p ≤ e)
TooLarge n (Open a) = p ≤ a

-- 4: a value that is not made yet, where v are made
abbrev pub NotThere : ℕ → Line → Type 0
NotThere v (Input w) = ⊥
NotThere v (Sum a e) = (v ≤ a) ⊎ (v ≤ e)
NotThere v (Times k a) = v ≤ a
NotThere v (Product a e) = (v ≤ a) ⊎ (v ≤ e)
NotThere v (Open a) = v ≤ a

-- how many values there are after some lines, if there were v before
unfoldable pub made_by : List Line → ℕ → ℕ
made_by [] v = v
made_by (l ∷ ls) v = made_by ls (made l v)

abbrev pub line_at : List ℕ → ℕ → Line
line_at bs k = slice_index_or (lines_of bs) k (Open 0)

-- a fault of this number is in the bytes
abbrev pub Fault : List ℕ → ℕ → Type 0
Fault bs number =
    ((number ≡ 1) × BadForm bs)
    ⊎ (((number ≡ 2) × WrongSize bs)
    ⊎ (((number ≡ 3) × ((k : ℕ) × (k < count_of bs) × TooLarge (members_of bs) (line_at bs k)))
    ⊎ (((number ≡ 4) × ((k : ℕ) × (k < count_of bs) × NotThere (made_by (take k (lines_of bs)) 0) (line_at bs k)))
    ⊎ ((number ≡ 12) × (1024 < inputs (lines_of bs))))))
