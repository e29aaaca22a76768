-- The verdict on a sheet's bytes is its lowest fault: each test decides its fault, and the tests stand in order.
use Rattle.std.proofs.Common.{◌≡◌, ℕ, zero, suc, ◌+◌, ◌*◌, ◌<◌, ◌≤◌, Bool, cond, not, ◌&&◌, ◌||◌, eqb, ltb, leb, ◌⊎◌, List, [], ◌∷◌, length, get_or, take, drop, Some, None, Decides, Option, refl, ◌∙◌, subst, inl, inr, le_of_suc-le-suc, not-suc-le-zero, arith}
use Rattle.std.proofs.lemmas.List.{length-map, get_or_default}
use Rattle.std.proofs.lemmas.Bool.{leb-true, le-leb}
use Rattle.std.proofs.lemmas.Bool.Decides.{Decides-eqb, Decides-ltb, Decides-not, Decides-and, Decides-or, Decides-like, Decides-by_or}
use Rattle.field.specs.Field.{p}
use Rattle.sheets.specs.Faults.{BadPart, BadForm, WrongSize, TooLarge, NotThere, made_by, line_at, Fault}
use Rattle.sheets.specs.Laws.{Judgement}
use Rattle.sheets.specs.Lines.{made}
use Rattle.sheets.specs.Reading.{kind_of, second_of, malformed, line_of, members_of, threshold_of, count_of, parts_of, lines_of, malformed_sheet, bad_shape, out_of_range, undefined, any_undefined, inputs, verdict}
use Rattle.std.specs.List.{list_any}
use Rattle.sheets.specs.declared.line.Line.{Line}
use Rattle.sheets.specs.declared.line.Line.TheVariants.{Input, Sum, Times, Product, Open}
use Rattle.sheets.specs.Refusals.{number_of}
use Rattle.sheets.specs.declared.refusal.Refusal.{Refusal}
use Rattle.sheets.specs.declared.refusal.Refusal.TheVariants.{Malformed, BadShape, OutOfRange, NotMadeYet, TooManyInputs}
use Rattle.sheets.proofs.Lowest.{Or, answers, tells_last, tells_first}
use Rattle.sheets.proofs.Verdicts.{length-nines}

decides_leb : (a b : ℕ) → Decides (leb a b) (a ≤ b)
decides_leb a b = (leb-true a b, le-leb a b)

-- a test of some element
any_decides : {X : Type 0} (test : X → Bool) (P : X → Type 0) (d : X) (n : ℕ) (xs : List X) → length xs ≡ n → ((x : X) → Decides (test x) (P x)) → Decides (list_any test xs) ((k : ℕ) × (k < n) × P (get_or xs k d))
any_decides {X} test P d n xs len each =
    Decides-like (list_any test xs)
    (λ h. (h.0, omega (arith, h.1), h.2 d))
    (λ h. (h.0, omega (arith, h.1), λ e. subst P (get_or_default xs h.0 d e (omega (arith, h.1))) h.2))
    (Decides-by_or test P (list_any test) each refl (λ _ _. refl) xs)

part_decides : (nine : List ℕ) → Decides (malformed nine) (BadPart nine)
part_decides nine =
    let kind : ℕ = kind_of nine in
    Decides-or (eqb kind 0 || ltb 5 kind) ((eqb kind 1 || eqb kind 5) && not (eqb (second_of nine) 0))
    (Decides-or (eqb kind 0) (ltb 5 kind) (Decides-eqb kind 0) (Decides-ltb 5 kind))
    (Decides-and (eqb kind 1 || eqb kind 5) (not (eqb (second_of nine) 0))
    (Decides-or (eqb kind 1) (eqb kind 5) (Decides-eqb kind 1) (Decides-eqb kind 5))
    (Decides-not (eqb (second_of nine) 0) (Decides-eqb (second_of nine) 0)))

length_parts : (bs : List ℕ) → length (parts_of bs) ≡ count_of bs
length_parts bs = length-nines (count_of bs) (drop 5 bs)

form_decides : (bs : List ℕ) → Decides (malformed_sheet bs) (BadForm bs)
form_decides bs =
    let kind : Bool = not (eqb (get_or bs 0 0) 1) in
    let long : Bool = not (eqb (length bs) (5 + 9 * count_of bs)) in
    Decides-or (kind || long) (list_any malformed (parts_of bs))
    (Decides-or kind long (Decides-not (eqb (get_or bs 0 0) 1) (Decides-eqb (get_or bs 0 0) 1))
    (Decides-not (eqb (length bs) (5 + 9 * count_of bs)) (Decides-eqb (length bs) (5 + 9 * count_of bs))))
    (any_decides malformed BadPart [] (count_of bs) (parts_of bs) (length_parts bs) part_decides)

size_decides : (bs : List ℕ) → Decides (bad_shape (members_of bs) (threshold_of bs) (count_of bs)) (WrongSize bs)
size_decides bs =
    let n : ℕ = members_of bs in
    let m : ℕ = threshold_of bs + threshold_of bs + 1 in
    let count : ℕ = count_of bs in
    Decides-or (ltb 15 n || ltb n m || eqb count 0) (ltb 4096 count)
    (Decides-or (ltb 15 n || ltb n m) (eqb count 0) (Decides-or (ltb 15 n) (ltb n m) (Decides-ltb 15 n) (Decides-ltb n m)) (Decides-eqb count 0))
    (Decides-ltb 4096 count)

large_decides : (n : ℕ) (l : Line) → Decides (out_of_range n l) (TooLarge n l)
large_decides n (Input w) = Decides-or (eqb w 0) (ltb n w) (Decides-eqb w 0) (Decides-ltb n w)
large_decides n (Sum a e) = Decides-or (leb p a) (leb p e) (decides_leb p a) (decides_leb p e)
large_decides n (Times k a) = Decides-or (leb p k) (leb p a) (decides_leb p k) (decides_leb p a)
large_decides n (Product a e) = Decides-or (leb p a) (leb p e) (decides_leb p a) (decides_leb p e)
large_decides n (Open a) = decides_leb p a

there_decides : (v : ℕ) (l : Line) → Decides (undefined v l) (NotThere v l)
there_decides v (Input w) = ((λ e. let z : ◌≡◌ {A = ℕ} 0 1 = cc in omega arith), (λ h. absurd h))
there_decides v (Sum a e) = Decides-or (leb v a) (leb v e) (decides_leb v a) (decides_leb v e)
there_decides v (Times k a) = decides_leb v a
there_decides v (Product a e) = Decides-or (leb v a) (leb v e) (decides_leb v a) (decides_leb v e)
there_decides v (Open a) = decides_leb v a

-- some line names a value that is not there
abbrev Undefined : ℕ → List Line → Type 0
Undefined v ls = (k : ℕ) × (k < length ls) × NotThere (made_by (take k ls) v) (get_or ls k (Open 0))

undefined_later : (v : ℕ) (l : Line) (ls : List Line) → NotThere v l ⊎ Undefined (made l v) ls → Undefined v (l ∷ ls)
unfolding made_by
undefined_later v l ls (inl h) = (0, omega arith, h)
undefined_later v l ls (inr h) = (suc h.0, omega (arith, h.1), h.2)

undefined_at_lem : (v : ℕ) (l : Line) (ls : List Line) (k : ℕ) → k < suc (length ls) → NotThere (made_by (take k (l ∷ ls)) v) (get_or (l ∷ ls) k (Open 0)) → NotThere v l ⊎ Undefined (made l v) ls
unfolding made_by
undefined_at_lem v l ls zero lt h = inl h
undefined_at_lem v l ls (suc k) lt h = inr (k, le_of_suc-le-suc lt, h)

undefined_decides : (v : ℕ) (ls : List Line) → Decides (any_undefined v ls) (Undefined v ls)
unfolding any_undefined
undefined_decides v [] = ((λ e. let z : ◌≡◌ {A = ℕ} 0 1 = cc in absurd (omega arith)), (λ h. absurd (not-suc-le-zero h.1)))
undefined_decides v (l ∷ ls) =
    Decides-like (undefined v l || any_undefined (made l v) ls)
    (undefined_later v l ls) (λ h. undefined_at_lem v l ls h.0 h.1 h.2)
    (Decides-or (undefined v l) (any_undefined (made l v) ls) (there_decides v l) (undefined_decides (made l v) ls))

length_lines : (bs : List ℕ) → length (lines_of bs) ≡ count_of bs
length_lines bs = length-map (parts_of bs) line_of ∙ length_parts bs

lines_undefined : (bs : List ℕ) → Decides (any_undefined 0 (lines_of bs)) ((k : ℕ) × (k < count_of bs) × NotThere (made_by (take k (lines_of bs)) 0) (line_at bs k))
lines_undefined bs =
    let len = length_lines bs in
    Decides-like (any_undefined 0 (lines_of bs))
    (λ h. (h.0, omega (arith, h.1), h.2)) (λ h. (h.0, omega (arith, h.1), h.2))
    (undefined_decides 0 (lines_of bs))

-- what is found from some number on has at least that number
above_or : (f : Refusal) (P : Type 0) (later : ℕ → Type 0) (j : ℕ) → j < number_of f → ((k : ℕ) → later k → j < k) → (k : ℕ) → Or f P later k → j < k
above_or f P later j lt h k (inl e) = omega (arith, e.0)
above_or f P later j lt h k (inr l) = h k l

pub judgement : Judgement
judgement bs =
    let n : ℕ = members_of bs in
    let ls : List Line = lines_of bs in
    let I : ℕ → Type 0 = λ k. (k ≡ 12) × (1024 < inputs ls) in
    let N : Type 0 = (k : ℕ) × (k < count_of bs) × NotThere (made_by (take k ls) 0) (line_at bs k) in
    let L : Type 0 = (k : ℕ) × (k < count_of bs) × TooLarge n (line_at bs k) in
    let v5 : Option Refusal = cond (ltb 1024 (inputs ls)) (Some TooManyInputs) None in
    let v4 : Option Refusal = cond (any_undefined 0 ls) (Some NotMadeYet) v5 in
    let v3 : Option Refusal = cond (list_any (out_of_range n) ls) (Some OutOfRange) v4 in
    let v2 : Option Refusal = cond (bad_shape n (threshold_of bs) (count_of bs)) (Some BadShape) v3 in
    let above : (j : ℕ) → j < 12 → (k : ℕ) → I k → j < k = λ j lt k q. omega (arith, q.0) in
    let above4 : (j : ℕ) → j < 4 → (k : ℕ) → Or NotMadeYet N I k → j < k = λ j lt. above_or NotMadeYet N I j lt (above j (omega arith)) in
    let above3 : (j : ℕ) → j < 3 → (k : ℕ) → Or OutOfRange L (Or NotMadeYet N I) k → j < k = λ j lt. above_or OutOfRange L (Or NotMadeYet N I) j lt (above4 j (omega arith)) in
    answers (Fault bs) (verdict bs)
    (tells_first (malformed_sheet bs) Malformed (BadForm bs) (Or BadShape (WrongSize bs) (Or OutOfRange L (Or NotMadeYet N I))) v2 (form_decides bs)
    (above_or BadShape (WrongSize bs) (Or OutOfRange L (Or NotMadeYet N I)) 1 (omega arith) (above3 1 (omega arith)))
    (tells_first (bad_shape n (threshold_of bs) (count_of bs)) BadShape (WrongSize bs) (Or OutOfRange L (Or NotMadeYet N I)) v3 (size_decides bs) (above3 2 (omega arith))
    (tells_first (list_any (out_of_range n) ls) OutOfRange L (Or NotMadeYet N I) v4 (any_decides (out_of_range n) (TooLarge n) (Open 0) (count_of bs) ls (length_lines bs) (large_decides n)) (above4 3 (omega arith))
    (tells_first (any_undefined 0 ls) NotMadeYet N I v5 (lines_undefined bs) (above 4 (omega arith))
    (tells_last (ltb 1024 (inputs ls)) TooManyInputs (1024 < inputs ls) (Decides-ltb 1024 (inputs ls)))))))
