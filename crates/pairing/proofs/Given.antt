-- The first figure of the watched that differs, line by line.
use Rattle.std.proofs.Common.{◌≡◌, ℕ, zero, suc, ◌+◌, ◌<◌, Bool, true, false, cond, not, ◌&&◌, T, eqb, List, [], ◌∷◌, length, get_or, take, drop, Some, None, Option, sym, refl, ap, ◌∙◌, subst, zero-add, arith}
use lib.Dec.{eqb_refl}
use Rattle.std.proofs.lemmas.Bool.{eqb-false, eq-eqb, ne_eqb}
use Rattle.std.proofs.lemmas.Grind.{get_or_after_one}
use Rattle.std.proofs.lemmas.List.{get_or-take}
use Rattle.sheets.specs.Lines.{gives, figures_needed}
use Rattle.sheets.specs.Meaning.{figures_after}
use Rattle.sheets.specs.declared.line.Line.{Line}
use Rattle.sheets.specs.declared.line.Line.TheVariants.{Input, Sum, Times, Product, Open}
use Rattle.runs.specs.Laws.{Agree}
use Rattle.pairing.specs.declared.differing.Place.{Place}
use Rattle.pairing.specs.Differing.{given_differs, taken_after, or_later, figure_differs}
use Rattle.pairing.specs.Laws.{given}
use Rattle.pairing.proofs.Agreed.{given-same}

-- the figure that a line takes, seen before and after the line in front
later_place : (b : Bool) (n : ℕ) (xs : List ℕ) → get_or xs (cond b 1 0 + n) 0 ≡ get_or (cond b (drop 1 xs) xs) n 0
later_place true n xs = sym (get_or_after_one xs n 0)
later_place false n xs = ap (λ (k : ℕ). get_or xs k 0) (zero-add n)

given_later : (l : Line) (ls : List Line) (F : ℕ → List ℕ) (j v : ℕ) → given (l ∷ ls) F (suc j) v ≡ given ls (figures_after l F) j v
unfolding figures_needed
given_later l ls F j v = later_place (gives l v) (figures_needed v (take j ls)) (F v)

given_now : (l : Line) (ls : List Line) (F : ℕ → List ℕ) (v : ℕ) → given (l ∷ ls) F 0 v ≡ get_or (F v) 0 0
unfolding figures_needed
given_now l ls F v = refl

-- as `FigureAt`, where `taken` tells what was taken before
pub record At (c : ℕ → Bool) (ls : List Line) (taken : ℕ → ℕ) (F F' : ℕ → List ℕ) (w k : ℕ) : Type 0 where
  pub line : ℕ
  pub inside : line < length ls
  pub takes : get_or ls line (Open 0) ≡ Input w
  pub watched : T (c w)
  pub place : k ≡ taken w + figures_needed w (take line ls)
  pub differs : given ls F line w ≡ given ls F' line w → ⊥
  pub before : (j v : ℕ) → j < line → get_or ls j (Open 0) ≡ Input v → T (c v) → given ls F j v ≡ given ls F' j v

giver : (l : Line) (v : ℕ) → l ≡ Input v → T (gives l v)
giver l v e = subst (λ (x : Line). T (gives x v)) (sym e) (eqb_refl v)

place_later : (b : Bool) (taken k n : ℕ) → k ≡ cond b (taken + 1) taken + n → k ≡ taken + (cond b 1 0 + n)
place_later true taken k n e = omega (arith, e)
place_later false taken k n e = omega (arith, e)

before_later : (c : ℕ → Bool) (l : Line) (ls : List Line) (taken : ℕ → ℕ) (F F' : ℕ → List ℕ) (line : ℕ) → given_differs c l taken F F' ≡ None →
    ((j v : ℕ) → j < line → get_or ls j (Open 0) ≡ Input v → T (c v) → given ls (figures_after l F) j v ≡ given ls (figures_after l F') j v) →
    (j v : ℕ) → j < suc line → get_or (l ∷ ls) j (Open 0) ≡ Input v → T (c v) → given (l ∷ ls) F j v ≡ given (l ∷ ls) F' j v
before_later c l ls taken F F' line none h zero v lt e t = given_now l ls F v ∙ (given-same c l taken F F' none v t (giver l v e) ∙ sym (given_now l ls F' v))
before_later c l ls taken F F' line none h (suc j) v lt e t = given_later l ls F j v ∙ (h j v (omega arith) e t ∙ sym (given_later l ls F' j v))

at_later : (c : ℕ → Bool) (l : Line) (ls : List Line) (taken : ℕ → ℕ) (F F' : ℕ → List ℕ) (w k : ℕ) → given_differs c l taken F F' ≡ None →
    At c ls (taken_after l taken) (figures_after l F) (figures_after l F') w k → At c (l ∷ ls) taken F F' w k
unfolding figures_needed
at_later c l ls taken F F' w k none h = record {
  line = suc h.line;
  inside = omega (arith, h.inside);
  takes = h.takes;
  watched = h.watched;
  place = place_later (gives l w) (taken w) k (figures_needed w (take h.line ls)) h.place;
  differs = λ e. h.differs (sym (given_later l ls F h.line w) ∙ (e ∙ given_later l ls F' h.line w));
  before = before_later c l ls taken F F' h.line none h.before;
}

-- the line at which it differs
differs_parts : (b d : Bool) (p q : Place) → ◌≡◌ {A = Option Place} (cond (b && not d) (Some p) None) (Some q) → T b × (d ≡ false) × (p ≡ q)
differs_parts true true p q h = let z : ◌≡◌ {A = ℕ} 0 1 = cc in absurd (omega arith)
differs_parts true false p q h = (tt, refl, cc)
differs_parts false d p q h = let z : ◌≡◌ {A = ℕ} 0 1 = cc in absurd (omega arith)

abbrev now_same : (ℕ → List ℕ) → (ℕ → List ℕ) → ℕ → Type 0
now_same F F' v = get_or (F v) 0 0 ≡ get_or (F' v) 0 0

given_some : (c : ℕ → Bool) (l : Line) (taken : ℕ → ℕ) (F F' : ℕ → List ℕ) (w k : ℕ) → given_differs c l taken F F' ≡ Some (record { member = w; place = k }) →
    (l ≡ Input w) × T (c w) × (k ≡ taken w) × (now_same F F' w → ⊥)
given_some c (Input v) taken F F' w k h =
    let parts = differs_parts (c v) (eqb (get_or (F v) 0 0) (get_or (F' v) 0 0)) (record { member = v; place = taken v }) (record { member = w; place = k }) h in
    let m : v ≡ w = ap (λ (p : Place). p.member) parts.2 in
    let at : taken v ≡ k = ap (λ (p : Place). p.place) parts.2 in (
      ap Input m,
      subst (λ (i : ℕ). T (c i)) m parts.0,
      sym at ∙ ap taken m,
      λ e. eqb-false (get_or (F v) 0 0) (get_or (F' v) 0 0) parts.1 (subst (λ (i : ℕ). now_same F F' i) (sym m) e),
    )
given_some c (Sum a e) taken F F' w k h = let z : ◌≡◌ {A = ℕ} 0 1 = cc in absurd (omega arith)
given_some c (Times n a) taken F F' w k h = let z : ◌≡◌ {A = ℕ} 0 1 = cc in absurd (omega arith)
given_some c (Product a e) taken F F' w k h = let z : ◌≡◌ {A = ℕ} 0 1 = cc in absurd (omega arith)
given_some c (Open a) taken F F' w k h = let z : ◌≡◌ {A = ℕ} 0 1 = cc in absurd (omega arith)

at_now : (c : ℕ → Bool) (l : Line) (ls : List Line) (taken : ℕ → ℕ) (F F' : ℕ → List ℕ) (w k : ℕ) → given_differs c l taken F F' ≡ Some (record { member = w; place = k }) → At c (l ∷ ls) taken F F' w k
unfolding figures_needed
at_now c l ls taken F F' w k h =
    let parts = given_some c l taken F F' w k h in
    record {
      line = 0;
      inside = omega arith;
      takes = parts.0;
      watched = parts.1;
      place = parts.2 ∙ sym (omega arith);
      differs = λ e. parts.3 (sym (given_now l ls F w) ∙ (e ∙ given_now l ls F' w));
      before = λ j v lt. absurd (omega arith);
    }

by_line : (c : ℕ → Bool) (l : Line) (ls : List Line) (taken : ℕ → ℕ) (F F' : ℕ → List ℕ) (w k : ℕ) (now rest : Option Place) → given_differs c l taken F F' ≡ now →
    (rest ≡ Some (record { member = w; place = k }) → At c ls (taken_after l taken) (figures_after l F) (figures_after l F') w k) →
    or_later now rest ≡ Some (record { member = w; place = k }) → At c (l ∷ ls) taken F F' w k
by_line c l ls taken F F' w k (Some p) rest e h is = at_now c l ls taken F F' w k (e ∙ is)
by_line c l ls taken F F' w k None rest e h is = at_later c l ls taken F F' w k e (h is)

pub at-from : (c : ℕ → Bool) (ls : List Line) (taken : ℕ → ℕ) (F F' : ℕ → List ℕ) (w k : ℕ) → figure_differs c ls taken F F' ≡ Some (record { member = w; place = k }) → At c ls taken F F' w k
unfolding figure_differs
at-from c [] taken F F' w k h = let z : ◌≡◌ {A = ℕ} 0 1 = cc in absurd (omega arith)
at-from c (l ∷ ls) taken F F' w k h =
    by_line c l ls taken F F' w k (given_differs c l taken F F') (figure_differs c ls (taken_after l taken) (figures_after l F) (figures_after l F')) refl
    (at-from c ls (taken_after l taken) (figures_after l F) (figures_after l F') w k) h

-- and the way back
off : (b d : Bool) (p : Place) → (T b → d ≡ true) → ◌≡◌ {A = Option Place} (cond (b && not d) (Some p) None) None
off true d p h = ap (λ (x : Bool). cond (true && not x) (Some p) None) (h tt)
off false d p h = refl

none_given : (c : ℕ → Bool) (l : Line) (taken : ℕ → ℕ) (F F' : ℕ → List ℕ) → ((v : ℕ) → l ≡ Input v → T (c v) → now_same F F' v) → given_differs c l taken F F' ≡ None
none_given c (Input v) taken F F' h =
    off (c v) (eqb (get_or (F v) 0 0) (get_or (F' v) 0 0)) (record { member = v; place = taken v }) (λ t. eq-eqb (get_or (F v) 0 0) (get_or (F' v) 0 0) (h v refl t))
none_given c (Sum a e) taken F F' h = refl
none_given c (Times n a) taken F F' h = refl
none_given c (Product a e) taken F F' h = refl
none_given c (Open a) taken F F' h = refl

on : (b d : Bool) (p : Place) → T b → d ≡ false → ◌≡◌ {A = Option Place} (cond (b && not d) (Some p) None) (Some p)
on true d p t e = ap (λ (x : Bool). cond (true && not x) (Some p) None) e
on false d p t e = absurd t

some_given : (c : ℕ → Bool) (taken : ℕ → ℕ) (F F' : ℕ → List ℕ) (w k : ℕ) → T (c w) → k ≡ taken w → (now_same F F' w → ⊥) → given_differs c (Input w) taken F F' ≡ Some (record { member = w; place = k })
some_given c taken F F' w k t e ne =
    on (c w) (eqb (get_or (F w) 0 0) (get_or (F' w) 0 0)) (record { member = w; place = taken w }) t (ne_eqb (get_or (F w) 0 0) (get_or (F' w) 0 0) ne)
    ∙ ap (λ (n : ℕ). Some (record { member = w; place = n })) (sym e)

place_back : (b : Bool) (taken k n : ℕ) → k ≡ taken + (cond b 1 0 + n) → k ≡ cond b (taken + 1) taken + n
place_back true taken k n e = omega (arith, e)
place_back false taken k n e = omega (arith, e)

pub to_at : (c : ℕ → Bool) (ls : List Line) (taken : ℕ → ℕ) (F F' : ℕ → List ℕ) (w k line : ℕ) → line < length ls → get_or ls line (Open 0) ≡ Input w → T (c w) →
    k ≡ taken w + figures_needed w (take line ls) → (given ls F line w ≡ given ls F' line w → ⊥) →
    ((j v : ℕ) → j < line → get_or ls j (Open 0) ≡ Input v → T (c v) → given ls F j v ≡ given ls F' j v) →
    figure_differs c ls taken F F' ≡ Some (record { member = w; place = k })
unfolding figure_differs figures_needed
to_at c [] taken F F' w k line inside takes t place ne before = absurd (omega arith)
to_at c (l ∷ ls) taken F F' w k zero inside takes t place ne before =
    ap (λ (o : Option Place). or_later o (figure_differs c ls (taken_after l taken) (figures_after l F) (figures_after l F')))
    (ap (λ (x : Line). given_differs c x taken F F') takes ∙ some_given c taken F F' w k t (omega (arith, place)) (λ e. ne (given_now l ls F w ∙ (e ∙ sym (given_now l ls F' w)))))
to_at c (l ∷ ls) taken F F' w k (suc line) inside takes t place ne before =
    let now = none_given c l taken F F' (λ v e t'. sym (given_now l ls F v) ∙ (before 0 v (omega arith) e t' ∙ given_now l ls F' v)) in
    ap (λ (o : Option Place). or_later o (figure_differs c ls (taken_after l taken) (figures_after l F) (figures_after l F'))) now
    ∙ to_at c ls (taken_after l taken) (figures_after l F) (figures_after l F') w k line (omega arith) takes t
    (place_back (gives l w) (taken w) k (figures_needed w (take line ls)) place)
    (λ e. ne (given_later l ls F line w ∙ (e ∙ sym (given_later l ls F' line w))))
    (λ j v lt e t'. sym (given_later l ls F j v) ∙ (before (suc j) v (omega arith) e t' ∙ given_later l ls F' j v))

-- figures that agree differ nowhere
suc_rest : (n : ℕ) (xs : List ℕ) → take n (drop 1 xs) ≡ drop 1 (take (suc n) xs)
suc_rest zero [] = refl
suc_rest (suc n) [] = refl
suc_rest n (x ∷ xs) = refl

take_rest : (n : ℕ) (xs : List ℕ) → take n (drop 1 xs) ≡ drop 1 (take (1 + n) xs)
take_rest n xs = let e : suc n ≡ 1 + n = omega arith in suc_rest n xs ∙ ap (λ (j : ℕ). drop 1 (take j xs)) e

rest_agree : (b : Bool) (n : ℕ) (xs ys : List ℕ) → take (cond b 1 0 + n) xs ≡ take (cond b 1 0 + n) ys → take n (cond b (drop 1 xs) xs) ≡ take n (cond b (drop 1 ys) ys)
rest_agree true n xs ys e = take_rest n xs ∙ (ap (drop 1) e ∙ sym (take_rest n ys))
rest_agree false n xs ys e = ap (λ (k : ℕ). take k xs) (sym (zero-add n)) ∙ (e ∙ ap (λ (k : ℕ). take k ys) (zero-add n))

first_agree : (b : Bool) (n : ℕ) (xs ys : List ℕ) → T b → take (cond b 1 0 + n) xs ≡ take (cond b 1 0 + n) ys → get_or xs 0 0 ≡ get_or ys 0 0
first_agree true n xs ys t e = sym (get_or-take (1 + n) xs 0 0 (omega arith)) ∙ (ap (λ (l : List ℕ). get_or l 0 0) e ∙ get_or-take (1 + n) ys 0 0 (omega arith))
first_agree false n xs ys t e = absurd t

pub agree_nowhere : (c : ℕ → Bool) (ls : List Line) (taken : ℕ → ℕ) (F F' : ℕ → List ℕ) → Agree c ls F F' → figure_differs c ls taken F F' ≡ None
unfolding figure_differs figures_needed
agree_nowhere c [] taken F F' h = refl
agree_nowhere c (l ∷ ls) taken F F' h =
    let now = none_given c l taken F F' (λ v e t. first_agree (gives l v) (figures_needed v ls) (F v) (F' v) (giver l v e) (h v t)) in
    ap (λ (o : Option Place). or_later o (figure_differs c ls (taken_after l taken) (figures_after l F) (figures_after l F'))) now
    ∙ agree_nowhere c ls (taken_after l taken) (figures_after l F) (figures_after l F') (λ i t. rest_agree (gives l i) (figures_needed i ls) (F i) (F' i) (h i t))
