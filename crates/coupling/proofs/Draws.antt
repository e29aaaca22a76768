-- What each member deals, and the coins of the second run, place by place.
use Rattle.std.proofs.Common.{◌≡◌, ℕ, zero, suc, ◌+◌, ◌-◌, ◌<◌, ◌≤◌, Bool, true, false, cond, T, List, [], ◌∷◌, map, length, get_or, take, drop, set, sym, refl, ap, ◌∙◌, subst, ap₂, arith, Bor, below_more}
use Rattle.std.proofs.lemmas.List.{get_or-set_same, get_or-set_other, map-set, length-map, get_or-drop, get_or-take, length-take-le, length-drop, nil_from_length}
use Rattle.field.specs.Field.{◌⊕◌, ◌⊗◌, neg, below, all_below}
use Rattle.field.proofs.Below.{both_parts, both_from}
use Rattle.shares.specs.Circle.{Circle}
use Rattle.shares.specs.Polynomial.{scaled}
use Rattle.sheets.specs.Families.{family}
use Rattle.sheets.specs.Lines.{deals}
use Rattle.sheets.specs.declared.line.Line.{Line}
use Rattle.sheets.specs.declared.line.Line.TheVariants.{Product}
use Rattle.runs.specs.Row.{row_of}
use Rattle.runs.proofs.Inrow.{at_place}
use Rattle.runs.specs.Pairing.{shifted, paired_draw}
use Rattle.runs.specs.Run.{State, share, secret, drawn}
use Rattle.runs.proofs.Shifts.{difference, length-shifted}
use Rattle.coupling.specs.Sides.{Side, higher}

-- a list of rows, read at a place
get_or-rows : (values : List (ℕ → ℕ)) (a : ℕ) (d : ℕ → ℕ) → a < length values → get_or (map row_of values) a [] ≡ row_of (get_or values a d)
get_or-rows [] a d lt = absurd (omega arith)
get_or-rows (f ∷ values) zero d lt = refl
get_or-rows (f ∷ values) (suc a) d lt = get_or-rows values a d (omega arith)

-- the share of member i in the row of a value
pub share_read : (s : State) (rows : List (List ℕ)) (figures : ℕ → List ℕ) (a i : ℕ) → Side s rows figures → a < length rows → 0 < i → i ≤ 15 → get_or (get_or rows a []) (i - 1) 0 ≡ share s a i
share_read s rows figures a i h lt low high =
    let long : length rows ≡ length s.held = ap length h.same_rows ∙ length-map s.held row_of in
    let row : get_or rows a [] ≡ row_of (share s a) = ap (λ (rs : List (List ℕ)). get_or rs a []) h.same_rows ∙ get_or-rows s.held a (λ j. 0) (omega arith) in
    let e : i - 1 + 1 ≡ i = omega arith in
    at_place (share s a) (get_or rows a []) (i - 1) (omega arith) row ∙ ap (share s a) e

pub secret_product : (l : Line) (a b i v : ℕ) (s : State) (rows : List (List ℕ)) (figures : ℕ → List ℕ) → l ≡ Product a b → (a < length rows) × (b < length rows) → 0 < i → i ≤ 15 → v ≡ get_or (get_or rows a []) (i - 1) 0 ⊗ get_or (get_or rows b []) (i - 1) 0 → Side s rows figures → v ≡ secret l s i
secret_product l a b i v s rows figures is there low high e h =
    e ∙ (ap₂ (λ (x y : ℕ). x ⊗ y) (share_read s rows figures a i h there.0 low high) (share_read s rows figures b i h there.1 low high)
    ∙ ap (λ (x : Line). secret x s i) (sym is))

-- coins shifted place by place
pub shifted_places : (d : ℕ) (g cs draw : List ℕ) → length g ≡ length cs → length cs ≤ length draw → ((i : ℕ) → i < length cs → get_or draw i 0 ≡ get_or cs i 0 ⊕ d ⊗ get_or g i 0) → take (length cs) draw ≡ shifted (scaled d g) cs
unfolding shifted
shifted_places d [] [] draw len le h = refl
shifted_places d [] (c ∷ cs) draw len le h = absurd (omega arith)
shifted_places d (k ∷ g) [] draw len le h = refl
shifted_places d (k ∷ g) (c ∷ cs) [] len le h = absurd (omega arith)
shifted_places d (k ∷ g) (c ∷ cs) (x ∷ draw) len le h =
    ap₂ (λ (y : ℕ) (ys : List ℕ). y ∷ ys) (h 0 (omega arith)) (shifted_places d g cs draw (omega arith) (omega arith) (λ i lt. h (suc i) (omega arith)))

counted : (b : Bool) (t count : ℕ) → T b → count ≡ cond b t 0 → count ≡ t
counted true t count d e = omega arith
counted false t count d e = absurd d

pub counted_few : (b : Bool) (t count n : ℕ) → (T b → t ≤ n) → count ≡ cond b t 0 → count ≤ n
counted_few true t count n h e = let le = h tt in omega arith
counted_few false t count n h e = omega arith

-- one more draw is written
pub place_more : (P : ℕ → List ℕ → Type 0) (draws : List (List ℕ)) (draw : List ℕ) (i : ℕ) → i < length draws → ((k : ℕ) → k < i → P k (get_or draws k [])) → P i draw → (k : ℕ) → k < i + 1 → P k (get_or (set draws i draw) k [])
place_more P draws draw i lt below here =
    below_more (λ k. P k (get_or (set draws i draw) k [])) i
    (λ k h. subst (P k) (sym (get_or-set_other draws i k draw [] (λ e. omega (arith, e)))) (below k h))
    (subst (P i) (sym (get_or-set_same draws i draw [] lt)) here)

module _ (z : Circle) (mask : List ℕ) (l : Line) (s s' : State) where
  abbrev pub Draw : ℕ → List ℕ → Type 0
  Draw k draw = T (deals z l (k + 1)) → take z.t draw ≡ paired_draw z (higher z mask) l s s' (k + 1)

  -- the draw of member i + 1, from what `shift` gives
  pub draw_is : (i d less more count : ℕ) (list draw : List ℕ) → z.t ≤ 7 → length mask ≡ 8 → length draw ≡ 7 →
      (T (deals z l (i + 1)) → z.t ≤ length list) → count ≡ cond (deals z l (i + 1)) z.t 0 → list ≡ s.coins (i + 1) →
      less ≡ secret l s (i + 1) → more ≡ secret l s' (i + 1) → d ≡ more ⊕ neg less →
      ((j : ℕ) → j < length (take count list) → get_or draw j 0 ≡ get_or (take count list) j 0 ⊕ d ⊗ get_or mask (j + 1) 0) → Draw i draw
  draw_is i d less more count list draw few eight seven enough counts is low high diff each deal =
      let t : ℕ = z.t in
      let cs : List ℕ = take t list in
      let g : List ℕ = higher z mask in
      let all : count ≡ t = counted (deals z l (i + 1)) t count deal counts in
      let long : length cs ≡ t = length-take-le t list (enough deal) in
      let wide : length g ≡ t = length-take-le t (drop 1 mask) (simp length-drop (omega arith)) in
      let at : (j : ℕ) → j < t → get_or g j 0 ≡ get_or mask (j + 1) 0 = λ j lt.
      let e : 1 + j ≡ j + 1 = omega arith in
      get_or-take t (drop 1 mask) j 0 lt ∙ (get_or-drop 1 mask j 0 ∙ ap (λ (k : ℕ). get_or mask k 0) e) in
      let places : (j : ℕ) → j < length cs → get_or draw j 0 ≡ get_or cs j 0 ⊕ d ⊗ get_or g j 0 = λ j lt.
      subst (λ (k : ℕ). get_or draw j 0 ≡ get_or (take k list) j 0 ⊕ d ⊗ get_or mask (j + 1) 0) all (each j (subst (λ (k : ℕ). j < length (take k list)) (sym all) lt))
      ∙ ap (λ (y : ℕ). get_or cs j 0 ⊕ d ⊗ y) (sym (at j (omega arith))) in
      sym (ap (λ (k : ℕ). take k draw) long)
      ∙ (shifted_places d g cs draw (wide ∙ sym long) (omega arith) places
      ∙ ap₂ (λ (x : ℕ) (xs : List ℕ). shifted (scaled x g) (take t xs)) (diff ∙ ap₂ (λ (x y : ℕ). x ⊕ neg y) high low) is)

  -- nor is there anything in the draw of who draws nothing
  pub draw_none : (i count : ℕ) (draw : List ℕ) → count ≡ cond (deals z l (i + 1)) z.t 0 → count ≡ 0 → Draw i draw
  draw_none i count draw counts none deal =
      let all : z.t ≡ 0 = sym (counted (deals z l (i + 1)) z.t count deal counts) ∙ none in
      let empty : length (paired_draw z (higher z mask) l s s' (i + 1)) ≡ 0 =
      length-shifted (scaled (difference (secret l s (i + 1)) (secret l s' (i + 1))) (higher z mask)) (drawn z s (i + 1)) ∙ ap (λ (t : ℕ). length (take t (s.coins (i + 1)))) all in
      ap (λ (t : ℕ). take t draw) all ∙ sym (nil_from_length (paired_draw z (higher z mask) l s s' (i + 1)) empty)

-- one more draw is lent
pub lent_more : (z : Circle) (l : Line) (draws : List (List ℕ)) (lent : List (Bor (List ℕ))) (i : ℕ) (r : Bor (List ℕ)) → i < length lent → r.now ≡ take (cond (deals z l (i + 1)) z.t 0) (get_or draws i []) →
    ((k : ℕ) → k < i → get_or (family lent) k [] ≡ take (cond (deals z l (k + 1)) z.t 0) (get_or draws k [])) →
    (k : ℕ) → k < i + 1 → get_or (family (set lent i r)) k [] ≡ take (cond (deals z l (k + 1)) z.t 0) (get_or draws k [])
lent_more z l draws lent i r lt e below k h =
    ap (λ (xs : List (List ℕ)). get_or xs k []) (map-set (λ (x : Bor (List ℕ)). x.now) lent i r)
    ∙ place_more (λ j xs. xs ≡ take (cond (deals z l (j + 1)) z.t 0) (get_or draws j [])) (family lent) r.now i (omega (arith, length-map lent (λ (x : Bor (List ℕ)). x.now))) below e k h

-- draws whose numbers are all below p
pub all_below-set : (draws : List (List ℕ)) (i : ℕ) (draw : List ℕ) → T (below draw) → T (all_below draws) → T (all_below (set draws i draw))
all_below-set [] i draw h t = tt
all_below-set (x ∷ draws) zero draw h t = both_from (below draw) (all_below draws) h (both_parts (below x) (all_below draws) t).1
all_below-set (x ∷ draws) (suc i) draw h t =
    let b = both_parts (below x) (all_below draws) t in
    both_from (below x) (all_below (set draws i draw)) b.0 (all_below-set draws i draw h b.1)

pub below_at : (draws : List (List ℕ)) (k : ℕ) → T (all_below draws) → T (below (get_or draws k []))
below_at [] k t = tt
below_at (x ∷ draws) zero t = (both_parts (below x) (all_below draws) t).0
below_at (x ∷ draws) (suc k) t = below_at draws k (both_parts (below x) (all_below draws) t).1
