-- Rows of 15 words that hold the values of a function of members.
use Rattle.std.proofs.Common.{◌≡◌, ℕ, ◌+◌, ◌-◌, ◌<◌, ◌≤◌, Bool, ◌&&◌, T, ltb, leb, List, [], ◌∷◌, map, length, get_or, filter, refl, ap, ◌∙◌, arith, ltb→lt, leb→le}
use Rattle.std.specs.List.{AllByRecursion as All}
use Rattle.std.proofs.lemmas.List.FromFn.{get_or-map-range_with_len, length-map-range_with_len}
use Rattle.field.proofs.Below.{both_parts}
use Rattle.shares.specs.Circle.{members}
use Rattle.shares.specs.Polynomial.{share_of, dealt}
use Rattle.shares.proofs.Values.{filled}
use Rattle.runs.specs.Row.{row_of, in_row, picked}
use Rattle.runs.proofs.Dealers.{each_member}
use Rattle.runs.proofs.Lists.{map_same, to_kept}

-- place k of a row is member k + 1's
pub at_place : (f : ℕ → ℕ) (row : List ℕ) (k : ℕ) → k < 15 → row ≡ row_of f → get_or row k 0 ≡ f (k + 1)
unfolding row_of
at_place f row k lt e =
    ap (λ (xs : List ℕ). get_or xs k 0) e ∙ get_or-map-range_with_len f 1 15 k (k + 1) 0 lt (omega arith)

of-member : (f : ℕ → ℕ) (i : ℕ) → T (ltb 0 i && leb i 15) → in_row (row_of f) i ≡ f i
unfolding row_of
of-member f i t =
    let b = both_parts (ltb 0 i) (leb i 15) t in
    let low : 0 < i = ltb→lt 0 i b.0 in
    let high : i ≤ 15 = leb→le i 15 b.1 in
    get_or-map-range_with_len f 1 15 (i - 1) i 0 (omega arith) (omega arith)

all_kept : (c : ℕ → Bool) (P : ℕ → Type 0) (xs : List ℕ) → All P xs → All (λ x. T (c x) → P x) xs
all_kept c P [] h = tt
all_kept c P (x ∷ xs) h = ((λ d. h.0), all_kept c P xs h.1)

pub picked-row : (c : ℕ → Bool) (n : ℕ) (f : ℕ → ℕ) (row : List ℕ) → n ≤ 15 → row ≡ row_of f → picked c n row ≡ map f (filter c (members n))
picked-row c n f row le e =
    ap (picked c n) e
    ∙ map_same (in_row (row_of f)) f (filter c (members n))
    (to_kept c (λ i. in_row (row_of f) i ≡ f i) (members n) (all_kept c (λ i. in_row (row_of f) i ≡ f i) (members n) (each_member (λ i. in_row (row_of f) i ≡ f i) 15 n le (of-member f))))

pub row_from : (f : ℕ → ℕ) (row : List ℕ) → length row ≡ 15 → ((k : ℕ) → k < 15 → get_or row k 0 ≡ f (k + 1)) → row ≡ row_of f
unfolding row_of
row_from f row len h = filled f row 15 len h

pub dealt-row : (v : ℕ) (coins : List ℕ) → dealt 15 v coins ≡ row_of (share_of v coins)
unfolding row_of
dealt-row v coins = refl

pub length-row : (f : ℕ → ℕ) → length (row_of f) ≡ 15
unfolding row_of
length-row f = length-map-range_with_len f 1 15
