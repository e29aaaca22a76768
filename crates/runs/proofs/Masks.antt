-- The mask is 1 at 0, is 0 at each watched member, and has t + 1 coefficients.
use Rattle.std.proofs.Common.{◌≡◌, ℕ, zero, suc, ◌+◌, ◌-◌, ◌<◌, ◌≤◌, Bool, true, false, cond, ltb, leb, List, [], ◌∷◌, ◌++◌, length, take, drop, replicate, filter, sym, refl, ap, ◌∙◌, subst, arith, ltb→lt, leb→le}
use Rattle.std.specs.List.{AllByRecursion as All}
use Rattle.std.proofs.lemmas.List.FromFn.{filter_of_map_range_with_len_more}
use Rattle.std.proofs.ByRecursion.{all_kept_by, All-weaker}
use Rattle.std.proofs.lemmas.List.{length-append, length-take, length-drop, length-replicate, take-replicate, map-id}
use Rattle.field.specs.Field.{p, ◌⊕◌, ◌⊗◌, neg, inv}
use Rattle.field.proofs.Below.{both_parts}
use Rattle.field.proofs.Inverses.{inverses}
use Rattle.field.proofs.Ring.{ring, plain, ⊗-0, 0-⊕, ⊕_mod, reduced, neg_is, ⊕-neg, 1-⊗}
use Rattle.shares.specs.Circle.{Circle, Fits, members}
use Rattle.shares.specs.Polynomial.{value}
use Rattle.shares.proofs.Values.{value-cons, value-below}
use Rattle.runs.specs.Seen.{watched_in, how_many}
use Rattle.runs.specs.Pairing.{linear_product, mask, mask_for}
use Rattle.runs.proofs.Dealers.{each_member}
use Rattle.runs.proofs.Rows.{value_zeros}

last : (k b x : ℕ) → k ⊗ b ⊕ x ⊗ 0 ≡ k ⊗ b ⊕ (0 ⊕ k ⊗ (x ⊗ 0))
last k b x = simp plain

step : (a k x c v : ℕ) → c ⊕ a ⊕ x ⊗ (k ⊗ c ⊕ (v ⊕ k ⊗ (x ⊗ v))) ≡ a ⊕ (c ⊕ x ⊗ v ⊕ k ⊗ (x ⊗ (c ⊕ x ⊗ v)))
step a k x c v = simp ring

value-linear_product : (k b : ℕ) (f : List ℕ) (x : ℕ) → value (linear_product k b f) x ≡ k ⊗ b ⊕ (value f x ⊕ k ⊗ (x ⊗ value f x))
unfolding value linear_product
value-linear_product k b [] x = last k b x
value-linear_product k b (c ∷ f) x =
    ap (λ (v : ℕ). c ⊕ k ⊗ b ⊕ x ⊗ v) (value-linear_product k c f x) ∙ step (k ⊗ b) k x c (value f x)

-- one factor more
value-mask : (w : ℕ) (ws : List ℕ) (x : ℕ) → value (mask (w ∷ ws)) x ≡ value (mask ws) x ⊕ neg (inv w) ⊗ (x ⊗ value (mask ws) x)
unfolding mask
value-mask w ws x =
    let k : ℕ = neg (inv w) in
    let v : ℕ = value (mask ws) x in
    value-linear_product k 0 (mask ws) x
    ∙ (ap (λ (y : ℕ). y ⊕ (v ⊕ k ⊗ (x ⊗ v))) (⊗-0 k) ∙ (0-⊕ (v ⊕ k ⊗ (x ⊗ v)) ∙ ⊕_mod v (k ⊗ (x ⊗ v))))

regrouped : (k i w v : ℕ) → k ⊗ i ⊗ (w ⊗ v) ≡ k ⊗ (w ⊗ i ⊗ v)
regrouped k i w v = simp ring

-- the factor of w is 0 at w
vanishes : (w v : ℕ) → w ⊗ inv w ≡ 1 → v < p → v ⊕ neg (inv w) ⊗ (w ⊗ v) ≡ 0
vanishes w v e lt =
    let left : neg (inv w) ⊗ (w ⊗ v) ≡ neg v =
    ap (λ (k : ℕ). k ⊗ (w ⊗ v)) (neg_is (inv w))
    ∙ (regrouped (p - 1) (inv w) w v
    ∙ (ap (λ (o : ℕ). (p - 1) ⊗ (o ⊗ v)) e
    ∙ (ap (λ (o : ℕ). (p - 1) ⊗ o) (1-⊗ v ∙ reduced lt) ∙ sym (neg_is v)))) in
    ap (λ (y : ℕ). v ⊕ y) left ∙ ⊕-neg v

-- where the mask of some is 0, the mask of more is 0
stays : (k x : ℕ) → 0 ⊕ k ⊗ (x ⊗ 0) ≡ 0
stays k x = simp plain

mask_zeros : (ws : List ℕ) → All (λ w. w ⊗ inv w ≡ 1) ws → All (λ w. value (mask ws) w ≡ 0) ws
mask_zeros [] h = tt
mask_zeros (w ∷ ws) h = (
  value-mask w ws w ∙ vanishes w (value (mask ws) w) h.0 (value-below (mask ws) w),
  All-weaker (λ x. value (mask ws) x ≡ 0) (λ x. value (mask (w ∷ ws)) x ≡ 0)
      (λ x e. value-mask w ws x ∙ (ap (λ (v : ℕ). v ⊕ neg (inv w) ⊗ (x ⊗ v)) e ∙ stays (neg (inv w)) x)) ws (mask_zeros ws h.1),
)

length-linear_product : (k b : ℕ) (f : List ℕ) → length (linear_product k b f) ≡ length f + 1
unfolding linear_product
length-linear_product k b [] = refl
length-linear_product k b (c ∷ f) = ap suc (length-linear_product k c f) ∙ omega arith

length-mask : (ws : List ℕ) → length (mask ws) ≡ length ws + 1
unfolding mask
length-mask [] = refl
length-mask (w ∷ ws) = length-linear_product (neg (inv w)) 0 (mask ws) ∙ (ap (λ (n : ℕ). n + 1) (length-mask ws) ∙ omega arith)

linear_product_first : (k : ℕ) (f g : List ℕ) → f ≡ 1 ∷ g → linear_product k 0 f ≡ 1 ∷ drop 1 (linear_product k 0 f)
unfolding linear_product
linear_product_first k f g e =
    let one : 1 ⊕ k ⊗ 0 ≡ 1 = omega arith in
    subst (λ (h : List ℕ). linear_product k 0 h ≡ 1 ∷ drop 1 (linear_product k 0 h)) (sym e) (ap (λ (y : ℕ). y ∷ linear_product k 1 g) one)

mask_first : (ws : List ℕ) → mask ws ≡ 1 ∷ drop 1 (mask ws)
unfolding mask
mask_first [] = refl
mask_first (w ∷ ws) = linear_product_first (neg (inv w)) (mask ws) (drop 1 (mask ws)) (mask_first ws)

-- zeros at the end change nothing
value_padded : (t k : ℕ) (f : List ℕ) (x : ℕ) → t ≤ k → length f ≤ t → value (take t (f ++ replicate k 0)) x ≡ value f x
unfolding value
value_padded t k [] x tk le = ap (λ (g : List ℕ). value g x) (take-replicate t k 0 tk) ∙ value_zeros t x
value_padded zero k (c ∷ f) x tk le = absurd (omega arith)
value_padded (suc t) k (c ∷ f) x tk le = ap (λ (v : ℕ). c ⊕ x ⊗ v) (value_padded t k f x (omega arith) (omega arith))

length-one : (b : Bool) (x : ℕ) → length (cond b (x ∷ []) []) ≡ cond b 1 0
length-one true x = refl
length-one false x = refl

watched-count : (c : ℕ → Bool) (n : ℕ) → length (filter c (members n)) ≡ how_many c n
unfolding how_many
watched-count c zero = refl
watched-count c (suc n) =
    let front : List ℕ = filter c (members n) in
    let end : List ℕ = cond (c (suc n)) (suc n ∷ []) [] in
    let parts : filter c (members (n + 1)) ≡ front ++ end = simp map-id at (filter_of_map_range_with_len_more c (λ x. x) 1 n (suc n) (omega arith)) in
    let len : length (filter c (members (n + 1))) ≡ length front + length end = ap length parts ∙ length-append front end in
    let one : suc n ≡ n + 1 = omega arith in
    let all : length (filter c (members (suc n))) ≡ length front + length end = ap (λ (k : ℕ). length (filter c (members k))) one ∙ len in
    omega (arith, all, watched-count c n, length-one (c (suc n)) (suc n))

-- the mask with its constant
abbrev pub whole : Circle → (ℕ → Bool) → List ℕ
whole z c = 1 ∷ mask_for z c

pub length-mask_for : (z : Circle) (c : ℕ → Bool) → length (mask_for z c) ≡ z.t
length-mask_for z c = simp (length-take, length-append, length-replicate) (omega arith)

module _ (z : Circle) (fits : Fits z) (c : ℕ → Bool) (few : how_many c z.n ≤ z.t) where
  whole-value : (x : ℕ) → value (whole z c) x ≡ value (mask (watched_in z c)) x
  whole-value x =
      let g : List ℕ = mask (watched_in z c) in
      let len : length (drop 1 g) ≤ z.t = simp length-drop (omega (arith, length-mask (watched_in z c), watched-count c z.n)) in
      value-cons 1 (mask_for z c) x
      ∙ (ap (λ (v : ℕ). 1 ⊕ x ⊗ v) (value_padded z.t z.t (drop 1 g) x (omega arith) len)
      ∙ (sym (value-cons 1 (drop 1 g) x) ∙ ap (λ (f : List ℕ). value f x) (sym (mask_first (watched_in z c)))))

  pub watched-zero : All (λ j. value (whole z c) j ≡ 0) (watched_in z c)
  watched-zero =
      let P : ℕ → Type 0 = λ w. w ⊗ inv w ≡ 1 in
      let invertible : All P (members z.n) =
      each_member P z.n z.n (omega arith) λ i d.
      let b = both_parts (ltb 0 i) (leb i z.n) d in
      let high : i ≤ z.n = leb→le i z.n b.1 in
      (inverses i (ltb→lt 0 i b.0) (omega arith)).gives_one in
      All-weaker (λ x. value (mask (watched_in z c)) x ≡ 0) (λ x. value (whole z c) x ≡ 0) (λ x e. whole-value x ∙ e) (watched_in z c)
      (mask_zeros (watched_in z c) (all_kept_by c P (members z.n) invertible))
