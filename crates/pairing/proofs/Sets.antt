-- The watched as flags and as numbers: the same set.
use Rattle.std.proofs.Common.{◌≡◌, ℕ, zero, suc, ◌+◌, ◌<◌, ◌≤◌, min, Bool, false, cond, ◌||◌, eqb, ltb, List, [], ◌∷◌, length, get_or, take, Some, sym, refl, ap, ◌∙◌, subst, ap₂, ⊎_elim, add-one, arith}
use mathlib.Core.Path.{fun_ext}
use Rattle.std.proofs.lemmas.List.{get_or_past}
use Rattle.std.proofs.lemmas.Bool.{or_parts, eqb-false, ltb-false, ne_eqb, cases_lt}
use Rattle.std.proofs.lemmas.List.Sums.{sum_by_more}
use Rattle.std.specs.List.{list_any, count_by}
use Rattle.console.specs.Numbers.{outside, SetOf}
use Rattle.runs.specs.Seen.{how_many}
use Rattle.runs.specs.Watching.{watches}
use Rattle.pairing.specs.Verdict.{among}

-- how many are watched: so many flags are up
pub how_many_by : (flags : List Bool) (n : ℕ) → n ≤ length flags → count_by (λ (b : Bool). b) (take n flags) ≡ how_many (watches flags) n
unfolding how_many
how_many_by flags zero le = refl
how_many_by flags (suc n) le =
    let step = sum_by_more (λ (b : Bool). cond b 1 0) flags n false (omega arith) in
    let rest = how_many_by flags n (omega arith) in
    ap (λ (k : ℕ). count_by (λ (b : Bool). b) (take k flags)) (sym (add-one n)) ∙ omega (arith, step, rest)

-- a number that is nobody's is not among members
not_among : (n i : ℕ) (watched : List ℕ) → list_any (outside n) watched ≡ false → ((x : ℕ) → outside n x ≡ false → x ≡ i → ⊥) → list_any (λ number. eqb number i) watched ≡ false
not_among n i [] e h = refl
not_among n i (x ∷ watched) e h =
    let parts = or_parts (outside n x) (list_any (outside n) watched) e in
    ap₂ (λ (a b : Bool). a || b) (ne_eqb x i (h x parts.0)) (not_among n i watched parts.1 h)

zero-outside : (n x : ℕ) → outside n x ≡ false → x ≡ 0 → ⊥
zero-outside n x e = eqb-false x 0 (or_parts (eqb x 0) (ltb (min n 15) x) e).0

large_outside : (n x i : ℕ) → 15 < i → outside n x ≡ false → x ≡ i → ⊥
large_outside n x i lt e is =
    let low : x ≤ min n 15 = ltb-false (min n 15) x (or_parts (eqb x 0) (ltb (min n 15) x) e).1 in omega (arith, is)

same_at : (n : ℕ) (watched : List ℕ) (set : List Bool) → list_any (outside n) watched ≡ false → length set ≡ 15 → ((k : ℕ) → k < 15 → get_or set k false ≡ list_any (λ number. eqb number (k + 1)) watched) → (i : ℕ) → watches set i ≡ among watched i
same_at n watched set e len each zero = sym (not_among n 0 watched e (zero-outside n))
same_at n watched set e len each (suc k) =
    ⊎_elim
    (λ lt. each k lt ∙ ap (λ (i : ℕ). list_any (λ number. eqb number i) watched) (add-one k))
    (λ le. get_or_past set k false (omega arith) ∙ sym (not_among n (suc k) watched e (λ x. large_outside n x (suc k) (omega arith))))
    (cases_lt k 15)

pub same_set : (n : ℕ) (watched : List ℕ) (set : List Bool) → list_any (outside n) watched ≡ false → length set ≡ 15 → ((k : ℕ) → k < 15 → get_or set k false ≡ list_any (λ number. eqb number (k + 1)) watched) → watches set ≡ among watched
same_set n watched set e len each = fun_ext (same_at n watched set e len each)

-- what is known of the watched once their set is made and counted
pub record Counted (n : ℕ) (watched : List ℕ) (set : List Bool) (count : ℕ) : Type 0 where
  pub in_circle : list_any (outside n) watched ≡ false
  pub is : watches set ≡ among watched
  pub counts : count ≡ how_many (among watched) n

pub counted : (n n₁ : ℕ) (watched : List ℕ) (set : List Bool) (count : ℕ) → n₁ ≡ n → SetOf n₁ watched (Some set) → count ≡ how_many (watches set) n → Counted n watched set count
counted n n₁ watched set count e h counts =
    let same : watches set ≡ among watched = same_set n₁ watched set h.0 h.1 h.2 in
    record { in_circle = subst (λ (k : ℕ). list_any (outside k) watched ≡ false) e h.0; is = same; counts = counts ∙ ap (λ (c : ℕ → Bool). how_many c n) same }
