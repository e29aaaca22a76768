-- All members deal their products, one after the other.
use Rattle.std.proofs.Common.{◌≡◌, ℕ, zero, suc, ◌+◌, ◌<◌, ◌≤◌, Bool, false, cond, ◌&&◌, eqb, ltb, leb, List, [], ◌∷◌, ◌++◌, map, length, get_or, take, drop, replicate, Some, None, Ok, Err, Result, sym, refl, ap, ◌∙◌, subst, ap₂, inl, arith}
use mathlib.Core.Path.{fun_ext}
use Rattle.std.specs.List.{range_with_len, flat_map}
use Rattle.std.proofs.lemmas.List.FromFn.{length-map-range_with_len}
use Rattle.std.proofs.lemmas.List.{append_assoc, drop_more, drop_all, get_or-replicate, get_or-take}
use Rattle.std.proofs.lemmas.Bool.{ltb-false, or_parts, cond-false}
use Rattle.std.proofs.lemmas.Bool.Decides.{nat_tests}
use Rattle.field.specs.Field.{p, ◌⊕◌, ◌⊗◌}
use Rattle.field.proofs.Ring.{⊕_assoc, ⊕-0, reduced}
use Rattle.shares.specs.Circle.{Circle, m, members}
use Rattle.shares.specs.Polynomial.{share_of}
use Rattle.shares.specs.Weights.{weights, dot, joined}
use Rattle.shares.proofs.Dots.{dot_none, dot-take}
use Rattle.sheets.specs.Drawing.{after}
use Rattle.std.specs.List.{list_any}
use Rattle.sheets.specs.declared.refusal.Refusal.{Refusal}
use Rattle.sheets.specs.declared.refusal.Refusal.TheVariants.{NoCoins}
use Rattle.runs.specs.Row.{row_of}
use Rattle.runs.specs.Seen.{watched_in}
use Rattle.runs.specs.Steps.{lacks, Dealing, dealing, Multiplied, MultipliedAs, ProductAs}
use Rattle.runs.proofs.Inrow.{at_place, row_from}
use Rattle.runs.proofs.Left.{Left, from, from_none, from_more, from_all, left_none, left_more, left_all}

-- after k members have drawn
abbrev pub drawn_by : ℕ → ℕ → (ℕ → List ℕ) → ℕ → List ℕ
drawn_by t k coins i = cond (ltb 0 i && leb i k) (drop t (coins i)) (coins i)

pub drawn_none : (t : ℕ) (coins : ℕ → List ℕ) → coins ≡ drawn_by t 0 coins
drawn_none t coins = fun_ext (λ (i : ℕ). sym (cond-false (ltb 0 i && leb i 0) (drop t (coins i)) (coins i) (grind (arith, nat_tests))))

drawn_more_at : (t k i : ℕ) (xs ys : List ℕ) → ys ≡ drop t xs → cond (eqb i (k + 1)) (drop t (cond (ltb 0 i && leb i k) ys xs)) (cond (ltb 0 i && leb i k) ys xs) ≡ cond (ltb 0 i && leb i (k + 1)) ys xs
drawn_more_at t k i xs ys e = grind (arith, nat_tests)

pub drawn_more : (t k : ℕ) (coins : ℕ → List ℕ) → after (k + 1) t (drawn_by t k coins) ≡ drawn_by t (k + 1) coins
drawn_more t k coins = fun_ext (λ (i : ℕ). drawn_more_at t k i (coins i) (drop t (coins i)) refl)

pub next_undrawn : (t k : ℕ) (coins : ℕ → List ℕ) → drawn_by t k coins (k + 1) ≡ coins (k + 1)
next_undrawn t k coins = cond-false (ltb 0 (k + 1) && leb (k + 1) k) (drop t (coins (k + 1))) (coins (k + 1)) (grind (arith, nat_tests))

any_false : (test : ℕ → Bool) (a n k : ℕ) → list_any test (range_with_len a n) ≡ false → k < n → test (a + k) ≡ false
any_false test a zero k e lt = absurd (omega arith)
any_false test a (suc n) zero e lt =
    let e₀ : a + 0 ≡ a = omega arith in ap test e₀ ∙ (or_parts (test a) (list_any test (range_with_len (a + 1) n)) e).0
any_false test a (suc n) (suc k) e lt =
    let e₁ : a + suc k ≡ a + 1 + k = omega arith in
    ap test e₁ ∙ any_false test (a + 1) n k (or_parts (test a) (list_any test (range_with_len (a + 1) n)) e).1 (omega arith)

pub none_lacks : (z : Circle) (coins : ℕ → List ℕ) (k : ℕ) → list_any (lacks z coins) (members z.n) ≡ false → k < z.n → z.t ≤ length (coins (k + 1))
none_lacks z coins k e lt =
    let s : 1 + k ≡ k + 1 = omega arith in
    ltb-false (length (coins (k + 1))) z.t (sym (ap (lacks z coins) s) ∙ any_false (lacks z coins) 1 z.n k e lt)

pub never_short : (z : Circle) (coins now : ℕ → List ℕ) (k : ℕ) → list_any (lacks z coins) (members z.n) ≡ false → k < z.n → now ≡ drawn_by z.t k coins → length (now (k + 1)) < z.t → ⊥
never_short z coins now k e lt is short =
    let own : now (k + 1) ≡ coins (k + 1) = ap (λ (l : ℕ → List ℕ). l (k + 1)) is ∙ next_undrawn z.t k coins in
    omega (arith, ap length own, none_lacks z coins k e lt)

pub zeros : (j : ℕ) → j < 15 → get_or {A = ℕ} (replicate 15 0) j 0 ≡ 0
zeros j lt = get_or-replicate 15 j 0 0 lt

pub weight_at : (z : Circle) (held : List ℕ) (k : ℕ) → take (m z) held ≡ weights (m z) → k < m z → get_or held k 0 ≡ get_or (weights (m z)) k 0
weight_at z held k e lt = sym (get_or-take (m z) held k 0 lt) ∙ ap (λ (xs : List ℕ). get_or xs k 0) e

-- the sum of weighted shares, and what is left of it
dot-nil : (ws : List ℕ) → dot ws [] ≡ 0
unfolding dot
dot-nil [] = refl
dot-nil (w ∷ ws) = refl

dot-cons : (w y : ℕ) (ws ys : List ℕ) → dot (w ∷ ws) (y ∷ ys) ≡ w ⊗ y ⊕ dot ws ys
unfolding dot
dot-cons w y ws ys = refl

dot_past : (ws ys : List ℕ) (k : ℕ) → length ws ≤ k → dot (drop k ws) ys ≡ 0
unfolding dot
dot_past ws ys k le = ap (λ (xs : List ℕ). dot xs ys) (drop_all k ws le)

module _ (ws : List ℕ) (n : ℕ) (F : ℕ → ℕ) where
  abbrev pub Weighed : ℕ → ℕ → Type 0
  Weighed k a = a ⊕ dot (drop k ws) (map F (from k n)) ≡ dot ws (map F (members n))

  pub weighed_none : Weighed 0 0
  weighed_none = dot_none ws (map F (from 0 n)) ∙ ap (λ (xs : List ℕ). dot ws (map F xs)) (from_none n)

  pub weighed_more : (k a : ℕ) → k < n → k < length ws → Weighed k a → Weighed (k + 1) (a ⊕ get_or ws k 0 ⊗ F (k + 1))
  weighed_more k a lt lw h =
      let rest : ℕ = dot (drop (k + 1) ws) (map F (from (k + 1) n)) in
      let split : dot (drop k ws) (map F (from k n)) ≡ get_or ws k 0 ⊗ F (k + 1) ⊕ rest =
      ap₂ (λ (xs ys : List ℕ). dot xs (map F ys)) (drop_more ws k 0 lw) (from_more k n lt) ∙ dot-cons (get_or ws k 0) (F (k + 1)) (drop (k + 1) ws) (map F (from (k + 1) n)) in
      ⊕_assoc a (get_or ws k 0 ⊗ F (k + 1)) rest ∙ (sym (ap (λ (d : ℕ). a ⊕ d) split) ∙ h)

  pub weighed_skip : (k a : ℕ) → length ws ≤ k → Weighed k a → Weighed (k + 1) a
  weighed_skip k a le h =
      ap (λ (d : ℕ). a ⊕ d) (dot_past ws (map F (from (k + 1) n)) (k + 1) (omega arith) ∙ sym (dot_past ws (map F (from k n)) k le)) ∙ h

  pub weighed_all : (k a : ℕ) → n ≤ k → a < p → Weighed k a → a ≡ dot ws (map F (members n))
  weighed_all k a le small h =
      sym (ap (λ (d : ℕ). a ⊕ d) (ap (λ (xs : List ℕ). dot (drop k ws) (map F xs)) (from_all k n le) ∙ dot-nil (drop k ws)) ∙ (⊕-0 a ∙ reduced small)) ∙ h

-- after k members have dealt: f and g are the shares of the two values
module _ (z : Circle) (c : ℕ → Bool) (f g : ℕ → ℕ) (coins : ℕ → List ℕ) where
  abbrev shares_of : ℕ → List ℕ
  shares_of i = map (dealing z f g coins i) (watched_in z c)

  abbrev sent_to : ℕ → ℕ → ℕ
  sent_to j i = dealing z f g coins i (j + 1)

  pub record Dealings (before : List ℕ) (k : ℕ) (seen made : List ℕ) : Type 0 where
    pub left : Left shares_of before z.n k seen
    pub weighed : (j : ℕ) → j < 15 → Weighed (weights (m z)) z.n (sent_to j) k (get_or made j 0)

  pub dealings_none : (seen made : List ℕ) → ((j : ℕ) → j < 15 → get_or made j 0 ≡ 0) → Dealings seen 0 seen made
  dealings_none seen made zeros = record {
    left = left_none shares_of seen z.n;
    weighed = λ j lt. subst (Weighed (weights (m z)) z.n (sent_to j) 0) (sym (zeros j lt)) (weighed_none (weights (m z)) z.n (sent_to j));
  }

  module _ (a b : List ℕ) (k v : ℕ) (now now' : ℕ → List ℕ) (seen seen' row : List ℕ) (ea : a ≡ row_of f) (eb : b ≡ row_of g) (few : z.n ≤ 15) (lt : k < z.n)
      (is : now ≡ drawn_by z.t k coins) (secret : v ≡ get_or a k 0 ⊗ get_or b k 0) (d : Dealing z c (k + 1) v now now' seen seen' row) where
    same : share_of v (take z.t (now (k + 1))) ≡ dealing z f g coins (k + 1)
    same =
        let high : k < 15 = omega arith in
        let e : v ≡ f (k + 1) ⊗ g (k + 1) = secret ∙ ap₂ (λ (x y : ℕ). x ⊗ y) (at_place f a k high ea) (at_place g b k high eb) in
        let own : now (k + 1) ≡ coins (k + 1) = ap (λ (l : ℕ → List ℕ). l (k + 1)) is ∙ next_undrawn z.t k coins in
        ap₂ (λ (x : ℕ) (xs : List ℕ). share_of x (take z.t xs)) e own

    noted : (before : List ℕ) → Left shares_of before z.n k seen → Left shares_of before z.n (k + 1) seen'
    noted before h =
        left_more shares_of before z.n k seen seen' (map (share_of v (take z.t (now (k + 1)))) (watched_in z c)) lt
        (ap (λ (e : ℕ → ℕ). map e (watched_in z c)) same) d.noted h

    sent-to : (j : ℕ) → j < 15 → get_or row j 0 ≡ sent_to j (k + 1)
    sent-to j lj = at_place (dealing z f g coins (k + 1)) row j lj (d.sent ∙ ap row_of same)

    pub dealings_more : (before made made' : List ℕ) → k < m z → ((j : ℕ) → j < 15 → get_or made' j 0 ≡ get_or made j 0 ⊕ get_or (weights (m z)) k 0 ⊗ get_or row j 0) → Dealings before k seen made → Dealings before (k + 1) seen' made'
    dealings_more before made made' lm each h = record {
      left = noted before h.left;
      weighed = λ j lj.
          let e : get_or made' j 0 ≡ get_or made j 0 ⊕ get_or (weights (m z)) k 0 ⊗ sent_to j (k + 1) =
          each j lj ∙ ap (λ (y : ℕ). get_or made j 0 ⊕ get_or (weights (m z)) k 0 ⊗ y) (sent-to j lj) in
          subst (Weighed (weights (m z)) z.n (sent_to j) (k + 1)) (sym e)
          (weighed_more (weights (m z)) z.n (sent_to j) k (get_or made j 0) lt (simp length-map-range_with_len (omega arith)) (h.weighed j lj));
    }

    pub dealings_skip : (before made made' : List ℕ) → m z ≤ k → made' ≡ made → Dealings before k seen made → Dealings before (k + 1) seen' made'
    dealings_skip before made made' le e h = record {
      left = noted before h.left;
      weighed = λ j lj.
          subst (λ (xs : List ℕ). Weighed (weights (m z)) z.n (sent_to j) (k + 1) (get_or xs j 0)) (sym e)
          (weighed_skip (weights (m z)) z.n (sent_to j) k (get_or made j 0) (simp length-map-range_with_len (omega arith)) (h.weighed j lj));
    }

  pub dealings_all : (before : List ℕ) (k : ℕ) (seen made : List ℕ) (coins' : ℕ → List ℕ) → z.n ≤ k → k ≤ z.n → length made ≡ 15 → ((j : ℕ) → j < 15 → get_or made j 0 < p) → coins' ≡ drawn_by z.t k coins → Dealings before k seen made → Multiplied z c f g coins coins' before seen made
  dealings_all before k seen made coins' le ge len small is h =
      let same : k ≡ z.n = omega arith in
      record {
        moved = is ∙ ap (λ (i : ℕ). drawn_by z.t i coins) same;
        made = row_from (λ j. joined (m z) (map (λ i. dealing z f g coins i j) (members z.n))) made len (λ j lj.
            let ys : List ℕ = map (sent_to j) (members z.n) in
            let long : length (weights (m z)) ≡ m z = length-map-range_with_len _ 1 (m z) in
            weighed_all (weights (m z)) z.n (sent_to j) k (get_or made j 0) le (small j lj) (h.weighed j lj)
            ∙ (sym (dot-take (weights (m z)) ys) ∙ ap (λ (i : ℕ). dot (weights (m z)) (take i ys)) long));
        noted = left_all shares_of before z.n k seen le h.left;
      }

-- with the coins noted before
pub producing : (z : Circle) (c : ℕ → Bool) (f g : ℕ → ℕ) (coins coins' : ℕ → List ℕ) (seen seen₁ seen₂ : List ℕ) (r : Result (List ℕ) Refusal) → list_any (lacks z coins) (members z.n) ≡ false →
    seen₁ ≡ seen ++ flat_map (λ i. cond (c i) (take z.t (coins i)) []) (members z.n) → MultipliedAs z c f g coins coins' seen₁ seen₂ r → ProductAs z c f g coins coins' seen seen₂ r
producing z c f g coins coins' seen seen₁ seen₂ (Ok row) e noted h =
    let own : List ℕ = flat_map (λ i. cond (c i) (take z.t (coins i)) []) (members z.n) in
    let got : List ℕ = flat_map (λ i. map (dealing z f g coins i) (watched_in z c)) (members z.n) in
    record {
      enough = cond-false (list_any (lacks z coins) (members z.n)) (Some NoCoins) None e;
      moved = h.moved;
      made = h.made;
      noted = h.noted ∙ (ap (λ (xs : List ℕ). xs ++ got) noted ∙ append_assoc seen own got);
    }
producing z c f g coins coins' seen seen₁ seen₂ (Err x) e noted h = inl h
