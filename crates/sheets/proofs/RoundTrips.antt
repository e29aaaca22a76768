-- Reading undoes writing, and writing undoes reading.
use Rattle.std.proofs.Common.{◌≡◌, ℕ, zero, suc, ◌+◌, ◌*◌, ◌/◌, ◌%◌, ◌<◌, ◌≤◌, Bool, true, false, cond, not, ◌&&◌, ◌||◌, T, eqb, ltb, leb, ◌⊎◌, List, [], ◌∷◌, ◌++◌, map, length, get_or, take, drop, Some, None, Option, sym, refl, ap, ◌∙◌, subst, ap₂, inl, inr, ⊎_elim, arith, lit<}
use Rattle.std.specs.List.{flat_map, AllByRecursion as All}
use Rattle.std.proofs.lemmas.Bool.{and_parts, ltb-true, leb-true, le-ltb, eq-eqb, eqb-false, eqb-true, ltb-false, or_parts, cases_eq}
use Rattle.std.proofs.lemmas.List.{drop_more, drop_all, nil_from_length, length-take-le, length-drop, length-map, take-append-drop}
use Rattle.std.proofs.ByRecursion.{All-get_or, All-take, All-drop}
use Rattle.std.proofs.lemmas.Bool.Decides.{nat_tests}
use Rattle.field.specs.Field.{p}
use Rattle.sheets.specs.Bytes.{raw_bytes, line_bytes, sheet_bytes}
use Rattle.sheets.specs.Laws.{Rewritten, Reread}
use Rattle.sheets.specs.Lines.{made, good_line, good}
use Rattle.sheets.specs.Reading.{kind_of, first_of, second_of, malformed, line_of, nines, count_of, parts_of, lines_of, malformed_sheet, bad_shape, out_of_range, undefined, any_undefined, inputs, verdict_on}
use Rattle.std.specs.List.{list_any}
use Rattle.sheets.specs.declared.line.Line.{Line}
use Rattle.sheets.specs.declared.line.Line.TheVariants.{Input, Sum, Times, Product, Open}
use Rattle.sheets.specs.declared.refusal.Refusal.TheVariants.{Malformed, BadShape, OutOfRange, NotMadeYet, TooManyInputs}
use Rattle.sheets.specs.declared.refusal.Refusal.{Refusal}
use Rattle.sheets.proofs.Judged.{made_at_most}
use Rattle.sheets.proofs.Words.{word_back, bytes_back}
use Rattle.sheets.proofs.Verdicts.{length-nines}

-- all numbers of a line fit four bytes
abbrev Fits : Line → Type 0
Fits (Input w) = w < 4294967296
Fits (Sum a e) = (a < 4294967296) × (e < 4294967296)
Fits (Times k a) = (k < 4294967296) × (a < 4294967296)
Fits (Product a e) = (a < 4294967296) × (e < 4294967296)
Fits (Open a) = a < 4294967296

line-back : (l : Line) → Fits l → line_of (line_bytes l) ≡ l
line-back (Input w) h = ap Input (word_back w h)
line-back (Sum a e) h = ap₂ Sum (word_back a h.0) (word_back e h.1)
line-back (Times k a) h = ap₂ Times (word_back k h.0) (word_back a h.1)
line-back (Product a e) h = ap₂ Product (word_back a h.0) (word_back e h.1)
line-back (Open a) h = ap Open (word_back a h)

well-formed : (l : Line) → malformed (line_bytes l) ≡ false
well-formed (Input w) = refl
well-formed (Sum a e) = refl
well-formed (Times k a) = refl
well-formed (Product a e) = refl
well-formed (Open a) = refl

-- the parts of written lines are their bytes
parts_back : (ls : List Line) → nines (length ls) (flat_map line_bytes ls) ≡ map line_bytes ls
parts_back [] = refl
parts_back (Input w ∷ ls) = ap (λ (xs : List (List ℕ)). line_bytes (Input w) ∷ xs) (parts_back ls)
parts_back (Sum a e ∷ ls) = ap (λ (xs : List (List ℕ)). line_bytes (Sum a e) ∷ xs) (parts_back ls)
parts_back (Times k a ∷ ls) = ap (λ (xs : List (List ℕ)). line_bytes (Times k a) ∷ xs) (parts_back ls)
parts_back (Product a e ∷ ls) = ap (λ (xs : List (List ℕ)). line_bytes (Product a e) ∷ xs) (parts_back ls)
parts_back (Open a ∷ ls) = ap (λ (xs : List (List ℕ)). line_bytes (Open a) ∷ xs) (parts_back ls)

-- a good line's numbers fit, as long as there are not too many values
line_fits : (n k : ℕ) (l : Line) → n ≤ 15 → k ≤ 8192 → good_line n k l ≡ true → Fits l
line_fits n k (Input w) few small g =
    let h = and_parts (ltb 0 w) (leb w n) g in omega (arith, leb-true w n h.1)
line_fits n k (Sum a e) few small g =
    let h = and_parts (ltb a k) (ltb e k) g in (omega (arith, ltb-true a k h.0), omega (arith, ltb-true e k h.1))
line_fits n k (Times c a) few small g =
    let h = and_parts (ltb c p) (ltb a k) g in (omega (arith, ltb-true c p h.0), omega (arith, ltb-true a k h.1))
line_fits n k (Product a e) few small g =
    let h = and_parts (ltb a k) (ltb e k) g in (omega (arith, ltb-true a k h.0), omega (arith, ltb-true e k h.1))
line_fits n k (Open a) few small g = omega (arith, ltb-true a k g)

lines_back : (n k : ℕ) (ls : List Line) → n ≤ 15 → k + length ls ≤ 8192 → good n k ls ≡ true → map line_of (map line_bytes ls) ≡ ls
unfolding good
lines_back n k [] few small g = refl
lines_back n k (l ∷ ls) few small g =
    let h = and_parts (good_line n k l) (good n (made l k) ls) g in
    ap₂ (λ (x : Line) (xs : List Line). x ∷ xs) (line-back l (line_fits n k l few (omega arith) h.0))
    (lines_back n (made l k) ls few (omega (arith, made_at_most l k)) h.1)

none_malformed : (ls : List Line) → list_any malformed (map line_bytes ls) ≡ false
none_malformed [] = refl
none_malformed (l ∷ ls) = ap₂ ◌||◌ (well-formed l) (none_malformed ls)

-- a good line has no fault, as long as there are not too many values
line_clean : (n k : ℕ) (l : Line) → k ≤ 8192 → good_line n k l ≡ true → (out_of_range n l ≡ false) × (undefined k l ≡ false)
line_clean n k (Input w) small g = (grind (arith, nat_tests), refl)
line_clean n k (Sum a e) small g = (grind (arith, nat_tests), grind (arith, nat_tests))
line_clean n k (Times c a) small g = (grind (arith, nat_tests), grind (arith, nat_tests))
line_clean n k (Product a e) small g = (grind (arith, nat_tests), grind (arith, nat_tests))
line_clean n k (Open a) small g = (grind (arith, nat_tests), grind (arith, nat_tests))

lines_clean : (n k : ℕ) (ls : List Line) → k + length ls ≤ 8192 → good n k ls ≡ true → (list_any (out_of_range n) ls ≡ false) × (any_undefined k ls ≡ false)
unfolding good any_undefined
lines_clean n k [] small g = (refl, refl)
lines_clean n k (l ∷ ls) small g =
    let h = and_parts (good_line n k l) (good n (made l k) ls) g in
    let here = line_clean n k l (omega arith) h.0 in
    let rest = lines_clean n (made l k) ls (omega (arith, made_at_most l k)) h.1 in
    (ap₂ ◌||◌ here.0 rest.0, ap₂ ◌||◌ here.1 rest.1)

length_lines : (ls : List Line) → length (flat_map line_bytes ls) ≡ 9 * length ls
length_lines [] = refl
length_lines (Input w ∷ ls) = omega (arith, length_lines ls)
length_lines (Sum a e ∷ ls) = omega (arith, length_lines ls)
length_lines (Times k a ∷ ls) = omega (arith, length_lines ls)
length_lines (Product a e ∷ ls) = omega (arith, length_lines ls)
length_lines (Open a ∷ ls) = omega (arith, length_lines ls)

T_true : (b : Bool) → T b → b ≡ true
T_true true t = refl
T_true false t = absurd t

pub reread : Reread
reread n t lines h =
    let bs : List ℕ = sheet_bytes n t lines in
    let good-true : good n 0 lines ≡ true = T_true (good n 0 lines) h.well in
    let count : count_of bs ≡ length lines = omega (arith, h.short) in
    let parts : parts_of bs ≡ map line_bytes lines = ap (λ (k : ℕ). nines k (flat_map line_bytes lines)) count ∙ parts_back lines in
    let same : lines_of bs ≡ lines = ap (map line_of) parts ∙ lines_back n 0 lines h.few (omega (arith, h.short)) good-true in
    let long : length bs ≡ 5 + 9 * count_of bs = omega (arith, length_lines lines) in
    let form : malformed_sheet bs ≡ false = ap₂ (λ (x y : Bool). not x || y) (eq-eqb (length bs) (5 + 9 * count_of bs) long) (ap (list_any malformed) parts ∙ none_malformed lines) in
    let size : bad_shape n t (count_of bs) ≡ false = ap (bad_shape n t) count ∙ grind (arith, nat_tests, h.few, h.enough, h.some, h.short) in
    let clean = lines_clean n 0 lines (omega (arith, h.short)) good-true in
    let on : verdict_on n (lines_of bs) ≡ None =
    ap (verdict_on n) same
    ∙ (ap₂ (λ (x y : Bool). cond x (Some OutOfRange) (cond y (Some NotMadeYet) (cond (ltb 1024 (inputs lines)) (Some TooManyInputs) None))) clean.0 clean.1
    ∙ ap (λ (x : Bool). cond x (Some TooManyInputs) None) (le-ltb 1024 (inputs lines) h.given)) in
    record {
      passed = ap₂ (λ (x y : Bool). cond x (Some Malformed) (cond y (Some BadShape) (verdict_on n (lines_of bs)))) form size ∙ on;
      members = refl;
      threshold = refl;
      same = same;
    }

-- a kind and two numbers that are well formed, read as a line, are written as they were
abbrev of_kind : ℕ → ℕ → ℕ → Line
of_kind kind first second =
    cond (eqb kind 1) (Input first) (cond (eqb kind 2) (Sum first second) (cond (eqb kind 3) (Times first second)
    (cond (eqb kind 4) (Product first second) (Open first))))

kinds : (kind : ℕ) → (kind ≡ 0 → ⊥) → kind ≤ 5 → (kind ≡ 1) ⊎ ((kind ≡ 2) ⊎ ((kind ≡ 3) ⊎ ((kind ≡ 4) ⊎ (kind ≡ 5))))
kinds kind ne le =
    ⊎_elim inl (λ n1. inr (⊎_elim inl (λ n2. inr (⊎_elim inl (λ n3. inr (⊎_elim inl (λ n4. inr (omega arith))
    (cases_eq kind 4))) (cases_eq kind 3))) (cases_eq kind 2))) (cases_eq kind 1)

second_zero : (kind second : ℕ) → ((eqb kind 1 || eqb kind 5) && not (eqb second 0)) ≡ false → (kind ≡ 1) ⊎ (kind ≡ 5) → second ≡ 0
second_zero kind second e (inl q) = grind (arith, nat_tests)
second_zero kind second e (inr q) = grind (arith, nat_tests)

abbrev Back : ℕ → ℕ → ℕ → Type 0
Back first second kind = ((kind ≡ 1) ⊎ (kind ≡ 5) → second ≡ 0) → line_bytes (of_kind kind first second) ≡ raw_bytes kind first second

kind_back : (kind first second : ℕ) → (kind ≡ 0 → ⊥) → kind ≤ 5 → Back first second kind
kind_back kind first second ne le =
    let P : ℕ → Type 0 = Back first second in
    ⊎_elim (λ e. subst P (sym e) (λ one. ap (raw_bytes 1 first) (sym (one (inl refl)))))
    (⊎_elim (λ e. subst P (sym e) (λ one. refl))
    (⊎_elim (λ e. subst P (sym e) (λ one. refl))
    (⊎_elim (λ e. subst P (sym e) (λ one. refl))
    (λ e. subst P (sym e) (λ one. ap (raw_bytes 5 first) (sym (one (inr refl)))))))) (kinds kind ne le)

-- nine bytes are a kind and two numbers
spelled : (xs : List ℕ) → length xs ≡ 9 →
    xs ≡ get_or xs 0 0 ∷ get_or xs 1 0 ∷ get_or xs 2 0 ∷ get_or xs 3 0 ∷ get_or xs 4 0 ∷ get_or xs 5 0 ∷ get_or xs 6 0 ∷ get_or xs 7 0 ∷ get_or xs 8 0 ∷ []
spelled xs len =
    let e0 = drop_more xs 0 0 (omega arith) in
    let e1 = drop_more xs 1 0 (omega arith) in
    let e2 = drop_more xs 2 0 (omega arith) in
    let e3 = drop_more xs 3 0 (omega arith) in
    let e4 = drop_more xs 4 0 (omega arith) in
    let e5 = drop_more xs 5 0 (omega arith) in
    let e6 = drop_more xs 6 0 (omega arith) in
    let e7 = drop_more xs 7 0 (omega arith) in
    let e8 = drop_more xs 8 0 (omega arith) in
    let e9 = drop_all 9 xs (omega arith) in
    cc

nine_back : (xs : List ℕ) → length xs ≡ 9 → All (λ b. b < 256) xs → raw_bytes (kind_of xs) (first_of xs) (second_of xs) ≡ xs
nine_back xs len bytes =
    let at : (i : ℕ) → i < 9 → get_or xs i 0 < 256 = λ i lt. All-get_or (λ b. b < 256) xs i 0 (omega arith) bytes in
    ap₂ (λ (ys zs : List ℕ). kind_of xs ∷ (ys ++ zs))
    (bytes_back (get_or xs 1 0) (get_or xs 2 0) (get_or xs 3 0) (get_or xs 4 0) (at 1 (lit< tt)) (at 2 (lit< tt)) (at 3 (lit< tt)) (at 4 (lit< tt)))
    (bytes_back (get_or xs 5 0) (get_or xs 6 0) (get_or xs 7 0) (get_or xs 8 0) (at 5 (lit< tt)) (at 6 (lit< tt)) (at 7 (lit< tt)) (at 8 (lit< tt)))
    ∙ sym (spelled xs len)

part_back : (xs : List ℕ) → length xs ≡ 9 → All (λ b. b < 256) xs → malformed xs ≡ false → line_bytes (line_of xs) ≡ xs
part_back xs len bytes ok =
    let kind : ℕ = kind_of xs in
    let parts = or_parts (eqb kind 0 || ltb 5 kind) ((eqb kind 1 || eqb kind 5) && not (eqb (second_of xs) 0)) ok in
    let kindly = or_parts (eqb kind 0) (ltb 5 kind) parts.0 in
    kind_back kind (first_of xs) (second_of xs) (eqb-false kind 0 kindly.0) (ltb-false 5 kind kindly.1) (second_zero kind (second_of xs) parts.1) ∙ nine_back xs len bytes

parts_rewritten : (count : ℕ) (bs : List ℕ) → length bs ≡ 9 * count → All (λ b. b < 256) bs → list_any malformed (nines count bs) ≡ false → flat_map line_bytes (map line_of (nines count bs)) ≡ bs
parts_rewritten zero bs len bytes ok = sym (nil_from_length bs (omega arith))
parts_rewritten (suc count) bs len bytes ok =
    let h = or_parts (malformed (take 9 bs)) (list_any malformed (nines count (drop 9 bs))) ok in
    ap₂ ◌++◌
    (part_back (take 9 bs) (length-take-le 9 bs (omega arith)) (All-take (λ b. b < 256) 9 bs bytes) h.0)
    (parts_rewritten count (drop 9 bs) (length-drop 9 bs ∙ omega arith) (All-drop (λ b. b < 256) 9 bs bytes) h.1)
    ∙ take-append-drop 9 bs

none_malformed_from : (b c : Bool) (rest : Option Refusal) → cond b (Some Malformed) rest ≡ None → b ≡ false
none_malformed_from false c rest e = refl
none_malformed_from true c rest e = let z : ◌≡◌ {A = ℕ} 0 1 = cc in absurd (omega arith)

headed : (bs : List ℕ) → 5 ≤ length bs → bs ≡ get_or bs 0 0 ∷ get_or bs 1 0 ∷ get_or bs 2 0 ∷ get_or bs 3 0 ∷ get_or bs 4 0 ∷ drop 5 bs
headed bs le =
    let e0 = drop_more bs 0 0 (omega arith) in
    let e1 = drop_more bs 1 0 (omega arith) in
    let e2 = drop_more bs 2 0 (omega arith) in
    let e3 = drop_more bs 3 0 (omega arith) in
    let e4 = drop_more bs 4 0 (omega arith) in
    cc

not_false : (b : Bool) → not b ≡ false → b ≡ true
not_false true e = refl
not_false false e = sym e

pub rewritten : Rewritten
rewritten bs bytes e =
    let kind : Bool = not (eqb (get_or bs 0 0) 1) in
    let long : Bool = not (eqb (length bs) (5 + 9 * count_of bs)) in
    let form = or_parts (kind || long) (list_any malformed (parts_of bs)) (none_malformed_from (malformed_sheet bs) true _ e) in
    let head = or_parts kind long form.0 in
    let one : get_or bs 0 0 ≡ 1 = eqb-true (get_or bs 0 0) 1 (not_false (eqb (get_or bs 0 0) 1) head.0) in
    let len : length bs ≡ 5 + 9 * count_of bs = eqb-true (length bs) (5 + 9 * count_of bs) (not_false (eqb (length bs) (5 + 9 * count_of bs)) head.1) in
    let count : length (lines_of bs) ≡ count_of bs = length-map (parts_of bs) line_of ∙ length-nines (count_of bs) (drop 5 bs) in
    let b3 : get_or bs 3 0 < 256 = All-get_or (λ b. b < 256) bs 3 0 (omega arith) bytes in
    let b4 : get_or bs 4 0 < 256 = All-get_or (λ b. b < 256) bs 4 0 (omega arith) bytes in
    let high : length (lines_of bs) / 256 % 256 ≡ get_or bs 3 0 = omega arith in
    let low : length (lines_of bs) % 256 ≡ get_or bs 4 0 = omega arith in
    let body : flat_map line_bytes (lines_of bs) ≡ drop 5 bs = parts_rewritten (count_of bs) (drop 5 bs) (length-drop 5 bs ∙ omega arith) (All-drop (λ b. b < 256) 5 bs bytes) form.1 in
    let whole = headed bs (omega arith) in
    cc
