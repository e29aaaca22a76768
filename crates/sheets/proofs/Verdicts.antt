-- What follows from a verdict, and how the reader comes to one.
use Rattle.std.proofs.Common.{◌≡◌, ℕ, zero, suc, ◌+◌, ◌-◌, ◌*◌, ◌/◌, ◌<◌, ◌≤◌, Bool, true, false, cond, not, ◌||◌, T, eqb, ltb, List, [], ◌∷◌, map, length, get_or, take, drop, Some, None, Option, sym, refl, ap, ◌∙◌, ap₂, arith}
use Rattle.std.proofs.lemmas.List.{take_rest, length-drop}
use Rattle.std.proofs.lemmas.Bool.{or_parts, eq-eqb, eqb-false, ltb-false, and_from}
use Rattle.std.proofs.lemmas.Bool.Decides.{nat_tests}
use Rattle.sheets.specs.Lines.{made, good_line, good}
use Rattle.sheets.specs.Reading.{malformed, line_of, nines, members_of, threshold_of, count_of, parts_of, lines_of, malformed_sheet, bad_shape, out_of_range, undefined, any_undefined, inputs, verdict_on, verdict}
use Rattle.std.specs.List.{list_any}
use Rattle.sheets.specs.declared.line.Line.{Line}
use Rattle.sheets.specs.declared.line.Line.TheVariants.{Input, Sum, Times, Product, Open}
use Rattle.sheets.specs.declared.refusal.Refusal.{Refusal}
use Rattle.sheets.specs.declared.refusal.Refusal.TheVariants.{Malformed, BadShape, OutOfRange, NotMadeYet, TooManyInputs}

-- all but the first five, as a slice pattern has it
abbrev pub tail_of : List ℕ → List ℕ
tail_of bs = take (length bs - 5) (drop 5 bs)

pub parts_of_tail : (bs : List ℕ) (count : ℕ) → count ≡ count_of bs → nines count (tail_of bs) ≡ parts_of bs
parts_of_tail bs count e = ap₂ nines e (take_rest bs 5)

or_no : (a b : Bool) (c : Bool) → a ≡ false → b ≡ false → (a || b || c) ≡ c
or_no a b c ea eb = ap₂ (λ (x y : Bool). x || y || c) ea eb

-- bytes of the right kind and length, with `count` lines
pub record Framed (bs : List ℕ) (count : ℕ) : Type 0 where
  pub kind : get_or bs 0 0 ≡ 1
  pub five : 5 ≤ length bs
  pub counted : count ≡ count_of bs
  pub long : length (tail_of bs) ≡ 9 * count

-- the verdict, by its first two tests and what the lines give
abbrev by_tests : Bool → Bool → Option Refusal → Option Refusal
by_tests bad misshapen rest = cond bad (Some Malformed) (cond misshapen (Some BadShape) rest)

framed_verdict : (bs : List ℕ) (count : ℕ) → Framed bs count →
    verdict bs ≡ by_tests (list_any malformed (nines count (tail_of bs))) (bad_shape (members_of bs) (threshold_of bs) count) (verdict_on (members_of bs) (map line_of (nines count (tail_of bs))))
framed_verdict bs count h =
    let counted : count ≡ count_of bs = h.counted in
    let len : length bs ≡ 5 + 9 * count_of bs = omega (arith, ap length (take_rest bs 5), length-drop 5 bs, h.five, h.long) in
    let a : not (eqb (get_or bs 0 0) 1) ≡ false = ap not (eq-eqb (get_or bs 0 0) 1 h.kind) in
    let b : not (eqb (length bs) (5 + 9 * count_of bs)) ≡ false = ap not (eq-eqb (length bs) (5 + 9 * count_of bs) len) in
    let same : malformed_sheet bs ≡ list_any malformed (parts_of bs) = or_no (not (eqb (get_or bs 0 0) 1)) (not (eqb (length bs) (5 + 9 * count_of bs))) (list_any malformed (parts_of bs)) a b in
    ap (λ (x : Bool). by_tests x (bad_shape (members_of bs) (threshold_of bs) (count_of bs)) (verdict_on (members_of bs) (lines_of bs))) same
    ∙ ap₂ (λ (n : ℕ) (xs : List (List ℕ)). by_tests (list_any malformed xs) (bad_shape (members_of bs) (threshold_of bs) n) (verdict_on (members_of bs) (map line_of xs)))
    (sym counted) (sym (parts_of_tail bs count counted))

-- the tail cut into parts of nine, which are as many as are counted
pub all_parts : (bs : List ℕ) (count : ℕ) → Framed bs count → {parts : List (List ℕ)} → parts ≡ nines (length (tail_of bs) / 9) (tail_of bs) → parts ≡ nines count (tail_of bs)
all_parts bs count h e = e ∙ ap (λ (k : ℕ). nines k (tail_of bs)) (omega (arith, h.long))

-- what the reader of one line answered
pub none_read : (b : Bool) (l : Line) → None ≡ cond b None (Some l) → b ≡ true
none_read true l e = refl
none_read false l e = let z : ◌≡◌ {A = ℕ} 0 1 = cc in absurd (omega arith)

pub some_read : (b : Bool) (l r : Line) → Some r ≡ cond b None (Some l) → (b ≡ false) × (r ≡ l)
some_read true l r e = let z : ◌≡◌ {A = ℕ} 0 1 = cc in absurd (omega arith)
some_read false l r e = (refl, cc)

pub verdict-malformed : (bs : List ℕ) (count : ℕ) → Framed bs count → list_any malformed (nines count (tail_of bs)) ≡ true → verdict bs ≡ Some Malformed
verdict-malformed bs count h e =
    framed_verdict bs count h
    ∙ ap (λ (x : Bool). by_tests x (bad_shape (members_of bs) (threshold_of bs) count) (verdict_on (members_of bs) (map line_of (nines count (tail_of bs))))) e

pub verdict_misshapen : (bs : List ℕ) (count : ℕ) → Framed bs count → list_any malformed (nines count (tail_of bs)) ≡ false → bad_shape (members_of bs) (threshold_of bs) count ≡ true → verdict bs ≡ Some BadShape
verdict_misshapen bs count h e f =
    framed_verdict bs count h
    ∙ ap₂ (λ (x y : Bool). by_tests x y (verdict_on (members_of bs) (map line_of (nines count (tail_of bs))))) e f

pub verdict_lines : (bs : List ℕ) (count : ℕ) → Framed bs count → list_any malformed (nines count (tail_of bs)) ≡ false → bad_shape (members_of bs) (threshold_of bs) count ≡ false →
    (lines : List Line) → lines ≡ map line_of (nines count (tail_of bs)) → verdict bs ≡ verdict_on (members_of bs) lines
verdict_lines bs count h e f lines same =
    framed_verdict bs count h
    ∙ (ap₂ (λ (x y : Bool). by_tests x y (verdict_on (members_of bs) (map line_of (nines count (tail_of bs))))) e f
    ∙ ap (verdict_on (members_of bs)) (sym same))

pub length-nines : (count : ℕ) (bs : List ℕ) → length (nines count bs) ≡ count
length-nines zero bs = refl
length-nines (suc k) bs = ap suc (length-nines k (drop 9 bs))

pub record Shape (n t count : ℕ) : Type 0 where
  pub few : n ≤ 15
  pub enough : t + t + 1 ≤ n
  pub some : 0 < count
  pub short : count ≤ 4096

pub shape_from : (n t count : ℕ) → bad_shape n t count ≡ false → Shape n t count
shape_from n t count e =
    let last = or_parts (ltb 15 n || ltb n (t + t + 1) || eqb count 0) (ltb 4096 count) e in
    let third = or_parts (ltb 15 n || ltb n (t + t + 1)) (eqb count 0) last.0 in
    let first = or_parts (ltb 15 n) (ltb n (t + t + 1)) third.0 in
    let ne = eqb-false count 0 third.1 in
    record {
      few = ltb-false 15 n first.0;
      enough = ltb-false n (t + t + 1) first.1;
      some = omega arith;
      short = ltb-false 4096 count last.1;
    }

-- a line without fault is good
good_line_lem : (n k : ℕ) (l : Line) → out_of_range n l ≡ false → undefined k l ≡ false → good_line n k l ≡ true
good_line_lem n k (Input w) r u = grind (arith, nat_tests)
good_line_lem n k (Sum a e) r u = grind (arith, nat_tests)
good_line_lem n k (Times c a) r u = grind (arith, nat_tests)
good_line_lem n k (Product a e) r u = grind (arith, nat_tests)
good_line_lem n k (Open a) r u = grind (arith, nat_tests)

pub good_lines : (n k : ℕ) (ls : List Line) → list_any (out_of_range n) ls ≡ false → any_undefined k ls ≡ false → good n k ls ≡ true
unfolding good any_undefined
good_lines n k [] r u = refl
good_lines n k (l ∷ ls) r u =
    let hr = or_parts (out_of_range n l) (list_any (out_of_range n) ls) r in
    let hu = or_parts (undefined k l) (any_undefined (made l k) ls) u in
    and_from (good_line n k l) (good n (made l k) ls) (good_line_lem n k l hr.0 hu.0) (good_lines n (made l k) ls hr.1 hu.1)

pub record Clean (n : ℕ) (ls : List Line) : Type 0 where
  pub ranged : list_any (out_of_range n) ls ≡ false
  pub defined : any_undefined 0 ls ≡ false
  pub given : inputs ls ≤ 1024

-- of three tests in a row none holds, if none is answered
none_holds : (a b c : Bool) → cond a (Some OutOfRange) (cond b (Some NotMadeYet) (cond c (Some TooManyInputs) None)) ≡ None → (a ≡ false) × (b ≡ false) × (c ≡ false)
none_holds false false false e = (refl, refl, refl)
none_holds true b c e = let z : ◌≡◌ {A = ℕ} 0 1 = cc in absurd (omega arith)
none_holds false true c e = let z : ◌≡◌ {A = ℕ} 0 1 = cc in absurd (omega arith)
none_holds false false true e = let z : ◌≡◌ {A = ℕ} 0 1 = cc in absurd (omega arith)

pub clean-from : (n : ℕ) (ls : List Line) → verdict_on n ls ≡ None → Clean n ls
clean-from n ls e =
    let h = none_holds (list_any (out_of_range n) ls) (any_undefined 0 ls) (ltb 1024 (inputs ls)) e in
    record { ranged = h.0; defined = h.1; given = ltb-false 1024 (inputs ls) h.2 }

pub good-from : (n : ℕ) (ls : List Line) → Clean n ls → T (good n 0 ls)
good-from n ls h = rw (good_lines n 0 ls h.ranged h.defined) tt
