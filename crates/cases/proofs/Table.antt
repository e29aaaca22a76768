-- All rows by one test that the checker computes.
use Rattle.std.proofs.Common.{◌≡◌, Bool, true, ◌&&◌, List, [], ◌∷◌, Decides, refl}
use Rattle.std.specs.List.{AllByRecursion as All}
use Rattle.std.specs.Str.{bytes_eq}
use Rattle.std.proofs.lemmas.Slice.Eq.{bytes_eq-Decides}
use Rattle.std.proofs.ByRecursion.{Decides-by_and}
use Rattle.shares.specs.Polynomial.{value}
use Rattle.shares.specs.Weights.{weight_among, dot}
use Rattle.sheets.specs.Meaning.{plain_run}
use Rattle.sheets.specs.Reading.{any_undefined}
use Rattle.runs.specs.Run.{final, opened_by}
use Rattle.runs.specs.Seen.{seen_by}
use Rattle.runs.specs.Pairing.{linear_product, mask, shifted, paired_coins}
use Rattle.cases.specs.Cases.{Row, ◌gives◌, Holds, table, Cases}

agrees : Row → Bool
agrees (computed gives expected) = bytes_eq computed expected

agrees_decides : (r : Row) → Decides (agrees r) (Holds r)
unfolding agrees
agrees_decides (computed gives expected) = bytes_eq-Decides computed expected

every : List Row → Bool
every [] = true
every (r ∷ rs) = agrees r && every rs

every_decides : (rs : List Row) → Decides (every rs) (All Holds rs)
unfolding every
every_decides = Decides-by_and agrees Holds every agrees_decides refl (λ r rs. refl)

every_row : every table ≡ true
unfolding agrees every value weight_among dot plain_run any_undefined final opened_by seen_by linear_product mask shifted paired_coins
every_row = refl

pub cases : Cases
cases = (every_decides table).0 every_row
