-- Lines done by the code, each kind in terms of the run.
use Rattle.std.proofs.Common.{◌≡◌, ℕ, zero, suc, ◌<◌, ◌≤◌, Bool, ◌&&◌, T, ltb, List, [], ◌∷◌, ◌++◌, map, length, get_or, take, Some, Ok, Err, Result, sym, refl, ap, ◌∙◌, subst, ap₂, inl, arith, ltb→lt}
use Rattle.std.proofs.lemmas.List.FromFn.{length-map-range_with_len, take-map-range_with_len}
use Rattle.std.proofs.lemmas.List.{append-nil, map-append, get_or_read}
use Rattle.field.specs.Field.{p, ◌⊕◌, ◌⊗◌}
use Rattle.field.proofs.Below.{both_parts}
use Rattle.shares.specs.Circle.{Circle, m, members}
use Rattle.shares.specs.Polynomial.{share_of, added, scaled}
use Rattle.shares.proofs.Linear.{added-map}
use Rattle.shares.specs.Weights.{weights, dot, joined}
use Rattle.sheets.specs.Lines.{good_line}
use Rattle.sheets.specs.declared.line.Line.{Line}
use Rattle.sheets.specs.declared.line.Line.TheVariants.{Input, Sum, Times, Product, Open}
use Rattle.sheets.specs.declared.refusal.Refusal.{Refusal}
use Rattle.runs.specs.Row.{row_of}
use Rattle.runs.specs.Run.{State, share}
use Rattle.runs.specs.Short.{short_at}
use Rattle.runs.specs.Steps.{in_state, Entered, Producing, ShownAs, Done, DoneAs}

-- rows that hold functions of members, read at a place
get_or-map : (values : List (ℕ → ℕ)) (a : ℕ) (d : ℕ → ℕ) → get_or (map row_of values) a (row_of d) ≡ row_of (get_or values a d)
get_or-map [] a d = refl
get_or-map (f ∷ values) zero d = refl
get_or-map (f ∷ values) (suc a) d = get_or-map values a d

pub row_read : (rows : List (List ℕ)) (values : List (ℕ → ℕ)) (a : ℕ) (x : List ℕ) → rows ≡ map row_of values → a < length rows → x ≡ get_or rows a x → x ≡ row_of (get_or values a (λ j. 0))
row_read rows values a x e lt is =
    get_or_read rows a x lt is (row_of (λ j. 0)) ∙ (ap (λ (rs : List (List ℕ)). get_or rs a (row_of (λ j. 0))) e ∙ get_or-map values a (λ j. 0))

-- the values that a line names are there
two_there : (a b k : ℕ) → T (ltb a k && ltb b k) → (a < k) × (b < k)
two_there a b k t = let h = both_parts (ltb a k) (ltb b k) t in (ltb→lt a k h.0, ltb→lt b k h.1)

module _ (n k : ℕ) (l : Line) (t : T (good_line n k l)) where
  pub good_sum : (a b : ℕ) → l ≡ Sum a b → (a < k) × (b < k)
  good_sum a b e = two_there a b k (subst (λ (x : Line). T (good_line n k x)) e t)

  pub good_times : (factor a : ℕ) → l ≡ Times factor a → a < k
  good_times factor a e = ltb→lt a k (both_parts (ltb factor p) (ltb a k) (subst (λ (x : Line). T (good_line n k x)) e t)).1

  pub good_product : (a b : ℕ) → l ≡ Product a b → (a < k) × (b < k)
  good_product a b e = two_there a b k (subst (λ (x : Line). T (good_line n k x)) e t)

  pub good_open : (a : ℕ) → l ≡ Open a → a < k
  good_open a e = ltb→lt a k (subst (λ (x : Line). T (good_line n k x)) e t)

added-rows : (f g : ℕ → ℕ) → added (row_of f) (row_of g) ≡ row_of (λ j. f j ⊕ g j)
unfolding row_of
added-rows f g = added-map f g (members 15)

scaled-map : (k : ℕ) (f : ℕ → ℕ) (xs : List ℕ) → scaled k (map f xs) ≡ map (λ j. k ⊗ f j) xs
scaled-map k f [] = refl
scaled-map k f (x ∷ xs) = ap (λ (ys : List ℕ). k ⊗ f x ∷ ys) (scaled-map k f xs)

scaled-row : (k : ℕ) (f : ℕ → ℕ) → scaled k (row_of f) ≡ row_of (λ j. k ⊗ f j)
unfolding row_of
scaled-row k f = scaled-map k f (members 15)

module _ (z : Circle) (c : ℕ → Bool) (values : List (ℕ → ℕ)) (rows rows' : List (List ℕ)) (figures coins : ℕ → List ℕ) (shown seen : List ℕ) (holds : rows ≡ map row_of values) where
  abbrev s : State
  s = in_state values figures coins

  held_more : (row : List ℕ) (f : ℕ → ℕ) → row ≡ row_of f → rows' ≡ rows ++ row ∷ [] → rows' ≡ map row_of (values ++ f ∷ [])
  held_more row f is e =
      e ∙ (ap₂ (λ (rs : List (List ℕ)) (x : List ℕ). rs ++ x ∷ []) holds is ∙ sym (map-append row_of values (f ∷ [])))

  held_same : rows ≡ map row_of (values ++ [])
  held_same = holds ∙ ap (map row_of) (sym (append-nil values))

  pub done_input : (l : Line) (w : ℕ) → l ≡ Input w → (figures' coins' : ℕ → List ℕ) (seen' row : List ℕ) → Entered z c w figures figures' coins coins' seen seen' row → rows' ≡ rows ++ row ∷ [] → Done z c l s rows' figures' coins' shown shown seen seen'
  done_input l w is figures' coins' seen' row h k =
      subst (λ (l : Line). Done z c l s rows' figures' coins' shown shown seen seen') (sym is)
      (record {
        enough = h.enough;
        held = held_more row (share_of (get_or (figures w) 0 0) (take z.t (coins w))) h.sent k;
        taken = h.taken;
        moved = h.moved;
        opens = sym (append-nil shown);
        noted = h.noted;
      })

  pub done_sum : (l : Line) (a b : ℕ) → l ≡ Sum a b → (x y : List ℕ) → a < length rows → b < length rows → x ≡ get_or rows a x → y ≡ get_or rows b y → rows' ≡ rows ++ added x y ∷ [] → Done z c l s rows' figures coins shown shown seen seen
  done_sum l a b is x y la lb ex ey k =
      let f : ℕ → ℕ = share s a in
      let g : ℕ → ℕ = share s b in
      let e : added x y ≡ row_of (λ j. f j ⊕ g j) = ap₂ added (row_read rows values a x holds la ex) (row_read rows values b y holds lb ey) ∙ added-rows f g in
      subst (λ (l : Line). Done z c l s rows' figures coins shown shown seen seen) (sym is)
      (record {
        enough = refl;
        held = held_more (added x y) (λ j. f j ⊕ g j) e k;
        taken = refl;
        moved = refl;
        opens = sym (append-nil shown);
        noted = sym (append-nil seen);
      })

  pub done_times : (l : Line) (factor a : ℕ) → l ≡ Times factor a → (x : List ℕ) → a < length rows → x ≡ get_or rows a x → rows' ≡ rows ++ scaled factor x ∷ [] → Done z c l s rows' figures coins shown shown seen seen
  done_times l factor a is x la ex k =
      let f : ℕ → ℕ = share s a in
      let e : scaled factor x ≡ row_of (λ j. factor ⊗ f j) = ap (scaled factor) (row_read rows values a x holds la ex) ∙ scaled-row factor f in
      subst (λ (l : Line). Done z c l s rows' figures coins shown shown seen seen) (sym is)
      (record {
        enough = refl;
        held = held_more (scaled factor x) (λ j. factor ⊗ f j) e k;
        taken = refl;
        moved = refl;
        opens = sym (append-nil shown);
        noted = sym (append-nil seen);
      })

  pub done_product : (l : Line) (a b : ℕ) → l ≡ Product a b → (coins' : ℕ → List ℕ) (seen' row : List ℕ) → Producing z c (share s a) (share s b) coins coins' seen seen' row → rows' ≡ rows ++ row ∷ [] → Done z c l s rows' figures coins' shown shown seen seen'
  done_product l a b is coins' seen' row h k =
      subst (λ (l : Line). Done z c l s rows' figures coins' shown shown seen seen') (sym is)
      (record {
        enough = h.enough;
        held = held_more row _ h.made k;
        taken = refl;
        moved = h.moved;
        opens = sym (append-nil shown);
        noted = h.noted ∙ simp append-nil;
      })

  done_open_at : (a : ℕ) (shown' seen' : List ℕ) (r : Result (Unit {0}) Refusal) → ShownAs z (share s a) shown shown' seen seen' r → DoneAs z c (Open a) s rows figures coins shown shown' seen seen' r
  done_open_at a shown' seen' (Ok u) h = record {
    enough = refl;
    held = held_same;
    taken = refl;
    moved = refl;
    opens = h.0;
    noted = h.1;
  }
  done_open_at a shown' seen' (Err x) h = inl h

  pub done_open : (l : Line) (a : ℕ) → l ≡ Open a → (shown' seen' : List ℕ) (r : Result (Unit {0}) Refusal) → ShownAs z (share s a) shown shown' seen seen' r → DoneAs z c l s rows figures coins shown shown' seen seen' r
  done_open l a is shown' seen' r h =
      subst (λ (l : Line). DoneAs z c l s rows figures coins shown shown' seen seen' r) (sym is) (done_open_at a shown' seen' r h)

-- what is shown of a row
pub front_row : (f : ℕ → ℕ) (row : List ℕ) (n : ℕ) → n ≤ 15 → row ≡ row_of f → take n row ≡ map f (members n)
unfolding row_of
front_row f row n le e = ap (take n) e ∙ take-map-range_with_len f 1 15 n le

pub joined-row : (z : Circle) (f : ℕ → ℕ) (row ws : List ℕ) (v : ℕ) → z.n ≤ 15 → m z ≤ z.n → row ≡ row_of f → ws ≡ weights (m z) → v ≡ dot ws (take (length ws) row) → v ≡ joined (m z) (map f (members z.n))
joined-row z f row ws v few enough e is dots =
    let long : length ws ≡ m z = ap length is ∙ length-map-range_with_len _ 1 (m z) in
    let both : take (m z) row ≡ take (m z) (map f (members z.n)) =
    front_row f row (m z) (omega arith) e ∙ sym (take-map-range_with_len f 1 z.n (m z) enough) in
    dots ∙ ap₂ dot is (ap (λ (k : ℕ). take k row) long ∙ both)

pub product_short : (z : Circle) (l : Line) (a b : ℕ) (figures coins : ℕ → List ℕ) (e : Refusal) → l ≡ Product a b → short_at z (Product 0 0) coins coins ≡ Some e → short_at z l figures coins ≡ Some e
product_short z l a b figures coins e is h = ap (λ (x : Line). short_at z x figures coins) is ∙ h
