-- Differences, place by place and line by line.
use Rattle.std.proofs.Common.{◌≡◌, ℕ, ◌+◌, ◌-◌, ◌<◌, ◌≤◌, Bool, true, false, cond, not, ◌&&◌, T, eqb, ltb, leb, ◌⊎◌, List, [], ◌∷◌, length, get_or, take, drop, Some, None, Option, sym, refl, ap, ◌∙◌, subst, ap₂, inl, inr, arith, eqb→eq, ltb→lt, leb→le, Bor}
use mathlib.Core.Path.{fun_ext}
use Rattle.std.proofs.lemmas.List.{at_drop_more, at_drop_all, nil_from_length}
use Rattle.std.proofs.lemmas.Bool.{eq-eqb, ne_eqb, cond-true, cond-false}
use Rattle.std.proofs.lemmas.List.Sums.{sum_by_more}
use Rattle.std.specs.List.{position_from, zip}
use Rattle.field.proofs.Below.{both_parts}
use Rattle.sheets.specs.Drawing.{after, DrawnFrom}
use Rattle.sheets.specs.Families.{of}
use Rattle.sheets.specs.Lines.{made, gives, good, good_line, figures_needed}
use Rattle.sheets.specs.Meaning.{figures_after}
use Rattle.sheets.specs.declared.line.Line.{Line}
use Rattle.sheets.specs.declared.line.Line.TheVariants.{Input, Sum, Times, Product, Open}
use Rattle.sheets.proofs.Needed.{figures_are}
use Rattle.runs.specs.Watching.{watches}
use Rattle.runs.proofs.Left.{watches-member}
use Rattle.pairing.specs.declared.differing.Place.{Place}
use Rattle.pairing.specs.Differing.{differ, given_differs, taken_after, or_later, figure_differs}

-- the first place at which two lists differ
swapped : (b : Bool) (x y : Option ℕ) → cond b x y ≡ cond (not b) y x
swapped true x y = refl
swapped false x y = refl

pub differ_by : (k : ℕ) (xs ys : List ℕ) → differ k xs ys ≡ position_from (λ (p : ℕ × ℕ). not (eqb p.0 p.1)) k (zip xs ys)
unfolding differ
differ_by k [] ys = refl
differ_by k (x ∷ xs) [] = refl
differ_by k (x ∷ xs) (y ∷ ys) =
    ap (λ (o : Option ℕ). cond (eqb x y) o (Some k)) (differ_by (k + 1) xs ys) ∙ swapped (eqb x y) (position_from (λ (p : ℕ × ℕ). not (eqb p.0 p.1)) (k + 1) (zip xs ys)) (Some k)

-- nothing is taken from an empty list
taken_at : (b : Bool) (xs : List ℕ) → (T b → xs ≡ []) → xs ≡ cond b (drop 1 xs) xs
taken_at true xs h = h tt ∙ sym (ap (drop 1) (h tt))
taken_at false xs h = refl

pub after_empty : (lists : ℕ → List ℕ) (w : ℕ) → lists w ≡ [] → lists ≡ after w 1 lists
after_empty lists w e = fun_ext λ (i : ℕ). taken_at (eqb i w) (lists i) (λ t. ap lists (eqb→eq i w t) ∙ e)

pub taken_of : (w : ℕ) (before left : List (List ℕ)) (drawn : Option (Bor (List ℕ))) → DrawnFrom w 1 before left drawn → of left ≡ after w 1 (of before)
taken_of w before left (Some d) h = h.2
taken_of w before left None h =
    let none : length (of before w) ≡ 0 = omega (arith, h.0) in
    ap of h.1 ∙ after_empty (of before) w (nil_from_length (of before w) none)

-- as many figures of a member were taken as the lines before need
one_or_none : (b : Bool) (k : ℕ) → k + cond b 1 0 ≡ cond b (k + 1) k
one_or_none true k = refl
one_or_none false k = omega arith

abbrev pub taken_by : List Line → ℕ → ℕ → ℕ
taken_by ls k i = figures_needed i (take k ls)

none_taken : (ls : List Line) (i : ℕ) → taken_by ls 0 i ≡ 0
unfolding figures_needed
none_taken ls i = refl

taken_more : (ls : List Line) (k : ℕ) (d : Line) → k < length ls → (i : ℕ) → taken_after (get_or ls k d) (taken_by ls k) i ≡ taken_by ls (k + 1) i
taken_more ls k d lt i =
    let f : Line → ℕ = λ (l : Line). cond (gives l i) 1 0 in
    sym (figures_are i (take (k + 1) ls)
    ∙ (sum_by_more f ls k d lt
    ∙ (ap (λ (n : ℕ). n + f (get_or ls k d)) (sym (figures_are i (take k ls))) ∙ one_or_none (gives (get_or ls k d) i) (taken_by ls k i))))

module _ (flags : List Bool) (ls : List Line) (F F' : ℕ → List ℕ) (n : ℕ) where
  abbrev c : ℕ → Bool
  c = watches flags

  pub record Compared (k : ℕ) (f f' : ℕ → List ℕ) : Type 0 where
    pub values : ℕ
    pub well : T (good n values (drop k ls))
    pub rest : figure_differs c (drop k ls) (taken_by ls k) f f' ≡ figure_differs c ls (λ i. 0) F F'

  pub compared_none : T (good n 0 ls) → Compared 0 F F'
  compared_none well = record {
    values = 0;
    well = well;
    rest = ap (λ (taken : ℕ → ℕ). figure_differs c ls taken F F') (fun_ext (none_taken ls));
  }

  module _ (k : ℕ) (d : Line) (f f' : ℕ → List ℕ) (lt : k < length ls) (h : Compared k f f') where
    abbrev l : Line
    l = get_or ls k d

    abbrev taken : ℕ → ℕ
    taken = taken_by ls k

    -- what comes of the line here, and then of the others
    abbrev then : Option Place → Option Place
    then here = or_later here (figure_differs c (drop (k + 1) ls) (taken_after l taken) (figures_after l f) (figures_after l f'))

    both_good : T (good_line n h.values l) × T (good n (made l h.values) (drop (k + 1) ls))
    unfolding good
    both_good =
        both_parts (good_line n h.values l) (good n (made l h.values) (drop (k + 1) ls))
        (subst (λ (b : Bool). T b) (at_drop_more (good n h.values) ls k d lt) h.well)

    split : figure_differs c (drop k ls) taken f f' ≡ then (given_differs c l taken f f')
    unfolding figure_differs
    split = at_drop_more (λ (xs : List Line). figure_differs c xs taken f f') ls k d lt

    pub input_member : (w : ℕ) → l ≡ Input w → (0 < w) × (w ≤ n)
    input_member w is =
        let b = both_parts (ltb 0 w) (leb w n) (subst (λ (x : Line). T (good_line n h.values x)) is both_good.0) in
        (ltb→lt 0 w b.0, leb→le w n b.1)

    -- whoever is watched has the same figure here
    go_on : (f₁ f'₁ : ℕ → List ℕ) → given_differs c l taken f f' ≡ None → f₁ ≡ figures_after l f → f'₁ ≡ figures_after l f' → Compared (k + 1) f₁ f'₁
    go_on f₁ f'₁ none ef ef' = record {
      values = made l h.values;
      well = both_good.1;
      rest =
          ap (λ (taken : ℕ → ℕ). figure_differs c (drop (k + 1) ls) taken f₁ f'₁) (sym (fun_ext (taken_more ls k d lt)))
          ∙ (ap₂ (figure_differs c (drop (k + 1) ls) (taken_after l taken)) ef ef' ∙ (sym (ap then none) ∙ (sym split ∙ h.rest)));
    }

    module _ (w : ℕ) (is : l ≡ Input w) (x y : ℕ) (ex : x ≡ get_or (f w) 0 0) (ey : y ≡ get_or (f' w) 0 0) where
      here : given_differs c l taken f f' ≡ cond (c w && not (eqb x y)) (Some (record { member = w; place = taken w })) None
      here =
          ap (λ (m : Line). given_differs c m taken f f') is
          ∙ ap₂ (λ (u v : ℕ). cond (c w && not (eqb u v)) (Some (record { member = w; place = taken w })) None) (sym ex) (sym ey)

      flag : get_or flags (w - 1) false ≡ c w
      flag = let low = (input_member w is).0 in watches-member flags w (λ e. omega (arith, e))

      pub found : get_or flags (w - 1) false ≡ true → (x ≡ y → ⊥) → figure_differs c ls (λ i. 0) F F' ≡ Some (record { member = w; place = taken w })
      found watched differs =
          let test : (c w && not (eqb x y)) ≡ true = ap₂ (λ (a b : Bool). a && not b) (sym flag ∙ watched) (ne_eqb x y differs) in
          sym h.rest ∙ (split ∙ ap then (here ∙ cond-true (c w && not (eqb x y)) (Some (record { member = w; place = taken w })) None test))

      next-input : (f₁ f'₁ : ℕ → List ℕ) → (c w && not (eqb x y)) ≡ false → f₁ ≡ after w 1 f → f'₁ ≡ after w 1 f' → Compared (k + 1) f₁ f'₁
      next-input f₁ f'₁ test ef ef' =
          go_on f₁ f'₁ (here ∙ cond-false (c w && not (eqb x y)) (Some (record { member = w; place = taken w })) None test)
          (ef ∙ ap (λ (m : Line). figures_after m f) (sym is)) (ef' ∙ ap (λ (m : Line). figures_after m f') (sym is))

      pub not-here : (f₁ f'₁ : ℕ → List ℕ) → ((get_or flags (w - 1) false ≡ true) × (x ≡ y)) ⊎ (get_or flags (w - 1) false ≡ false) → f₁ ≡ after w 1 f → f'₁ ≡ after w 1 f' → Compared (k + 1) f₁ f'₁
      not-here f₁ f'₁ (inl same) ef ef' = next-input f₁ f'₁ (ap₂ (λ (a b : Bool). a && not b) (sym flag ∙ same.0) (eq-eqb x y same.1)) ef ef'
      not-here f₁ f'₁ (inr off) ef ef' = next-input f₁ f'₁ (ap (λ (a : Bool). a && not (eqb x y)) (sym flag ∙ off)) ef ef'

    skip : (m : Line) → l ≡ m → given_differs c m taken f f' ≡ None → f ≡ figures_after m f → f' ≡ figures_after m f' → Compared (k + 1) f f'
    skip m is none ef ef' =
        go_on f f' (ap (λ (x : Line). given_differs c x taken f f') is ∙ none)
        (ef ∙ ap (λ (x : Line). figures_after x f) (sym is)) (ef' ∙ ap (λ (x : Line). figures_after x f') (sym is))

    -- a line that takes no figure
    pub passed : (m : Line) → l ≡ m → ((w : ℕ) → m ≡ Input w → ⊥) → Compared (k + 1) f f'
    passed (Input w) is other = absurd (other w refl)
    passed (Sum a e) is other = skip (Sum a e) is refl refl refl
    passed (Times a e) is other = skip (Times a e) is refl refl refl
    passed (Product a e) is other = skip (Product a e) is refl refl refl
    passed (Open a) is other = skip (Open a) is refl refl refl

  pub compared_all : (k : ℕ) (f f' : ℕ → List ℕ) → length ls ≤ k → Compared k f f' → figure_differs c ls (λ i. 0) F F' ≡ None
  unfolding figure_differs
  compared_all k f f' le h = sym h.rest ∙ at_drop_all (λ (xs : List Line). figure_differs c xs (taken_by ls k) f f') ls k le
