-- What differs between two runs.
use Rattle.std.specs.Prelude.{ℕ, ◌+◌, Bool, cond, not, ◌&&◌, List, [], ◌∷◌, Some, None, Option, ◌==◌, slice_index}
use Rattle.sheets.specs.Lines.{gives}
use Rattle.sheets.specs.Meaning.{figures_after}
use Rattle.pairing.specs.declared.differing.Place.{Place}
use Rattle.sheets.specs.declared.line.Line.{Line}
use Rattle.sheets.specs.declared.line.Line.TheVariants.{Input, Sum, Times, Product, Open}

-- the first place at which two lists differ, as far as both go, where places are counted from k
unfoldable pub differ : ℕ → List ℕ → List ℕ → Option ℕ
differ k [] ys = None
differ k (x ∷ xs) [] = None
differ k (x ∷ xs) (y ∷ ys) = cond (x == y) (differ (k + 1) xs ys) (Some k)

-- the figure that a watched member gives for a line differs; `taken i` figures of member i were taken before
abbrev pub given_differs : (ℕ → Bool) → Line → (ℕ → ℕ) → (ℕ → List ℕ) → (ℕ → List ℕ) → Option Place
given_differs c (Input w) taken figures figures' =
    cond (c w && not (slice_index (figures w) 0 == slice_index (figures' w) 0)) (Some (record { member = w; place = taken w })) None
given_differs c (Sum a e) taken figures figures' = None
given_differs c (Times k a) taken figures figures' = None
given_differs c (Product a e) taken figures figures' = None
given_differs c (Open a) taken figures figures' = None

abbrev pub taken_after : Line → (ℕ → ℕ) → ℕ → ℕ
taken_after l taken i = cond (gives l i) (taken i + 1) (taken i)

abbrev pub or_later : Option Place → Option Place → Option Place
or_later (Some x) later = Some x
or_later None later = later

-- the first, in the order of the input lines, of the watched members' figures that differs
unfoldable pub figure_differs : (ℕ → Bool) → List Line → (ℕ → ℕ) → (ℕ → List ℕ) → (ℕ → List ℕ) → Option Place
figure_differs c [] taken figures figures' = None
figure_differs c (l ∷ ls) taken figures figures' =
    or_later (given_differs c l taken figures figures') (figure_differs c ls (taken_after l taken) (figures_after l figures) (figures_after l figures'))
