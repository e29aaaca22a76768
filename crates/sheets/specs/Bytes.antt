-- The bytes of sheets: 1, n, t, the number of lines (2), and for each line its kind and two numbers (4 each),
-- high byte first. The second number is 0 where the kind has only one.
use Rattle.std.specs.Prelude.{ℕ, ◌+◌, ◌*◌, ◌/◌, ◌%◌, List, [], ◌∷◌, ◌++◌, length, slice_index}
use Rattle.std.specs.List.{flat_map}
use Rattle.sheets.specs.declared.line.Line.{Line}
use Rattle.sheets.specs.declared.line.Line.TheVariants.{Input, Sum, Times, Product, Open}

-- the number in four bytes, also from place i of some bytes on, and the four bytes of a number
abbrev pub word : ℕ → ℕ → ℕ → ℕ → ℕ
word a b c d = a * 16777216 + b * 65536 + c * 256 + d

abbrev pub word_at : List ℕ → ℕ → ℕ
word_at bs i = word (slice_index bs i) (slice_index bs (i + 1)) (slice_index bs (i + 2)) (slice_index bs (i + 3))

abbrev pub word_bytes : ℕ → List ℕ
word_bytes x = (x / 16777216 % 256) ∷ (x / 65536 % 256) ∷ (x / 256 % 256) ∷ (x % 256) ∷ []

-- a kind and two numbers
abbrev pub raw_bytes : ℕ → ℕ → ℕ → List ℕ
raw_bytes kind first second = kind ∷ (word_bytes first ++ word_bytes second)

abbrev pub line_bytes : Line → List ℕ
line_bytes (Input w) = raw_bytes 1 w 0
line_bytes (Sum a e) = raw_bytes 2 a e
line_bytes (Times k a) = raw_bytes 3 k a
line_bytes (Product a e) = raw_bytes 4 a e
line_bytes (Open a) = raw_bytes 5 a 0

abbrev pub head_bytes : ℕ → ℕ → ℕ → List ℕ
head_bytes n t count = 1 ∷ n ∷ t ∷ (count / 256 % 256) ∷ (count % 256) ∷ []

abbrev pub sheet_bytes : ℕ → ℕ → List Line → List ℕ
sheet_bytes n t lines = head_bytes n t (length lines) ++ flat_map line_bytes lines
