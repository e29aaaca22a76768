-- Who deals for a line, and what figures and coins are left after it.
use Rattle.std.proofs.Common.{◌≡◌, ℕ, zero, suc, ◌+◌, ◌-◌, ◌<◌, ◌≤◌, Bool, true, false, cond, ◌&&◌, T, ltb, leb, List, [], ◌∷◌, length, get_or, take, drop, sym, ap, ◌∙◌, subst, zero-add, arith, lit<, le→leb, ltb→lt, lt→ltb, leb→le}
use lib.Dec.{eqb_refl}
use Rattle.std.specs.List.{range_with_len, AllByRecursion as All}
use Rattle.std.proofs.lemmas.List.FromFn.{length-range_with_len, get_or-range_with_len}
use Rattle.std.proofs.ByRecursion.{All-get_or}
use Rattle.std.proofs.lemmas.List.{get_or-take, drop-take, length-drop, length-take-le}
use Rattle.field.specs.Field.{p, below}
use Rattle.field.proofs.Below.{both_parts, both_from, below-drop, below-get_or}
use Rattle.shares.specs.Circle.{Circle, members}
use Rattle.sheets.specs.Lines.{deals, gives, coins_needed, figures_needed}
use Rattle.sheets.specs.Meaning.{figures_after}
use Rattle.sheets.specs.declared.line.Line.{Line}
use Rattle.sheets.specs.declared.line.Line.TheVariants.{Input, Sum, Times, Product, Open}
use Rattle.runs.specs.Run.{coins_after}
use Rattle.runs.specs.Seen.{dealers}
use Rattle.runs.specs.Laws.{Coins, Agree}

-- each of a, a + 1, .., a + k - 1
each_counted : (P : ℕ → Type 0) (a k : ℕ) → ((i : ℕ) → a ≤ i → i < a + k → P i) → All P (range_with_len a k)
each_counted P a zero h = tt
each_counted P a (suc k) h = (h a (omega arith) (omega arith), each_counted P (a + 1) k λ i le lt. h i (omega arith) (omega arith))

pub each_member : (P : ℕ → Type 0) (n k : ℕ) → k ≤ n → ((i : ℕ) → T (ltb 0 i && leb i n) → P i) → All P (members k)
each_member P n k le h =
    each_counted P 1 k λ i low high.
    h i (both_from (ltb 0 i) (leb i n) (lt→ltb 0 i (omega arith)) (le→leb i n (omega arith)))

pub at_member : (P : ℕ → Type 0) (n : ℕ) → All P (members n) → (i : ℕ) → T (ltb 0 i && leb i n) → P i
at_member P n h i t =
    let b = both_parts (ltb 0 i) (leb i n) t in
    let low : 0 < i = ltb→lt 0 i b.0 in
    let high : i ≤ n = leb→le i n b.1 in
    let e : get_or (members n) (i - 1) 0 ≡ i = get_or-range_with_len 1 n (i - 1) 0 (omega arith) ∙ omega arith in
    subst P e (All-get_or P (members n) (i - 1) 0 (simp length-range_with_len (omega arith)) h)

pub each_dealer : (P : ℕ → Type 0) (z : Circle) (l : Line) → ((i : ℕ) → T (deals z l i) → P i) → All P (dealers z l)
each_dealer P z (Input w) h = (h w (eqb_refl w), tt)
each_dealer P z (Sum a e) h = tt
each_dealer P z (Times k a) h = tt
each_dealer P z (Product a e) h = each_member P z.n z.n (omega arith) h
each_dealer P z (Open a) h = tt

-- every number of a family is below p
abbrev pub Below : (ℕ → List ℕ) → Type 0
Below family = (i : ℕ) → T (below (family i))

pub below-after : (b : Bool) (k : ℕ) (xs : List ℕ) → T (below xs) → T (below (cond b (drop k xs) xs))
below-after true k xs t = below-drop k xs t
below-after false k xs t = t

pub figures-below-after : (l : Line) (figures : ℕ → List ℕ) → Below figures → Below (figures_after l figures)
figures-below-after l figures h i = below-after (gives l i) 1 (figures i) (h i)

pub enough-after : (b : Bool) (t k : ℕ) (xs : List ℕ) → cond b t 0 + k ≤ length xs → k ≤ length (cond b (drop t xs) xs)
enough-after true t k xs le = simp length-drop (omega arith)
enough-after false t k xs le = omega arith

pub coins_after_lem : (z : Circle) (l : Line) (ls : List Line) (coins : ℕ → List ℕ) → Coins z (l ∷ ls) coins → Coins z ls (coins_after z l coins)
unfolding coins_needed
coins_after_lem z l ls coins h = record {
  enough = λ i. enough-after (deals z l i) z.t (coins_needed z i ls) (coins i) (h.enough i);
  reduced = λ i. below-after (deals z l i) z.t (coins i) (h.reduced i);
}

pub enough_now : (b : Bool) (t k n : ℕ) → T b → cond b t 0 + k ≤ n → t ≤ n
enough_now true t k n d le = omega arith
enough_now false t k n d le = absurd d

pub drawn-length : (z : Circle) (l : Line) (ls : List Line) (coins : ℕ → List ℕ) → Coins z (l ∷ ls) coins → (i : ℕ) → T (deals z l i) → length (take z.t (coins i)) ≡ z.t
unfolding coins_needed
drawn-length z l ls coins h i d =
    length-take-le z.t (coins i) (enough_now (deals z l i) z.t (coins_needed z i ls) (length (coins i)) d (h.enough i))

pub first_below : (xs : List ℕ) → T (below xs) → get_or xs 0 0 < p
first_below [] t = lit< tt
first_below (x ∷ xs) t = below-get_or (x ∷ xs) 0 (omega arith) t

-- figures that agree: the next one, and those after it
agree_first : (b : Bool) (k : ℕ) (xs ys : List ℕ) → T b → take (cond b 1 0 + k) xs ≡ take (cond b 1 0 + k) ys → get_or xs 0 0 ≡ get_or ys 0 0
agree_first true k xs ys d e =
    sym (get_or-take (1 + k) xs 0 0 (omega arith)) ∙ (ap (λ (l : List ℕ). get_or l 0 0) e ∙ get_or-take (1 + k) ys 0 0 (omega arith))
agree_first false k xs ys d e = absurd d

agree_rest : (b : Bool) (k : ℕ) (xs ys : List ℕ) → take (cond b 1 0 + k) xs ≡ take (cond b 1 0 + k) ys → take k (cond b (drop 1 xs) xs) ≡ take k (cond b (drop 1 ys) ys)
agree_rest true k xs ys e = sym (drop-take 1 k xs) ∙ (ap (drop 1) e ∙ drop-take 1 k ys)
agree_rest false k xs ys e = simp zero-add at e

module _ (c : ℕ → Bool) (l : Line) (ls : List Line) (figures figures' : ℕ → List ℕ) (agree : Agree c (l ∷ ls) figures figures') where
  pub agree_now : (i : ℕ) → T (c i) → T (gives l i) → get_or (figures i) 0 0 ≡ get_or (figures' i) 0 0
  unfolding figures_needed
  agree_now i w d = agree_first (gives l i) (figures_needed i ls) (figures i) (figures' i) d (agree i w)

  pub agree_after : Agree c ls (figures_after l figures) (figures_after l figures')
  unfolding figures_needed
  agree_after i w = agree_rest (gives l i) (figures_needed i ls) (figures i) (figures' i) (agree i w)
