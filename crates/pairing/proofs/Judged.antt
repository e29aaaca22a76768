-- Each answer, if and only if its case holds and none before it.
use Rattle.std.proofs.Common.{◌≡◌, ℕ, suc, ◌<◌, ◌≤◌, min, Bool, true, false, cond, ◌&&◌, ◌||◌, eqb, ltb, ◌⊎◌, List, [], ◌∷◌, length, get_or, take, Some, None, Option, sym, refl, ap, ◌∙◌, subst, ap₂, inl, inr, ⊎_elim, zero-add, arith}
use lib.Dec.{eqb_refl}
use Rattle.std.specs.List.{list_any}
use Rattle.std.proofs.lemmas.List.Folds.{list_any_at}
use Rattle.std.proofs.lemmas.Bool.{both_ways, eqb-true, ltb-true, eq-eqb, lt-ltb}
use Rattle.std.proofs.Math.Bool.{or-true}
use Rattle.shares.specs.Circle.{Circle, Fits}
use Rattle.field.specs.Field.{all_below}
use Rattle.sheets.specs.Families.{of}
use Rattle.sheets.specs.Lines.{figures_needed}
use Rattle.sheets.specs.Meaning.{result, figures_after, has_figure}
use Rattle.sheets.specs.declared.line.Line.{Line}
use Rattle.sheets.specs.declared.line.Line.TheVariants.{Input, Sum, Times, Product, Open}
use Rattle.sheets.specs.declared.refusal.Refusal.{Refusal}
use Rattle.sheets.specs.declared.refusal.Refusal.TheVariants.{NoFigure, OutOfRange}
use Rattle.console.specs.Numbers.{outside}
use Rattle.runs.specs.Run.{coins_after}
use Rattle.runs.specs.Seen.{how_many}
use Rattle.runs.specs.Short.{short_at, or_else, runs_out}
use Rattle.runs.proofs.Enough.{else_parts, has-from, enough}
use Rattle.pairing.specs.Lacking.{short_in_either, runs_out_in_either}
use Rattle.pairing.specs.declared.differing.Place.{Place}
use Rattle.pairing.specs.Differing.{differ, figure_differs}
use Rattle.pairing.specs.Laws.{Unpairable, FirstAt, FigureAt, Judged, Neither}
use Rattle.pairing.specs.Verdict.{among, unpairable, refusal, Verdict, Unpaired, Refused, Opened, Figure, Paired, first_of}
use Rattle.pairing.proofs.Agreed.{either_none, differ_nowhere, results_level, agree}
use Rattle.pairing.proofs.Firsts.{first_from, to_first, nowhere}
use Rattle.pairing.proofs.Given.{At, at-from, to_at, agree_nowhere}

-- nothing is missing in either run
has_given : (z : Circle) (l : Line) (F C : ℕ → List ℕ) → short_at z l F C ≡ None → has_figure l F ≡ true
has_given z (Input w) F C h = lt-ltb 0 (length (F w)) ((has-from z (Input w) F C h).giver w (eqb_refl w))
has_given z (Sum a e) F C h = refl
has_given z (Times k a) F C h = refl
has_given z (Product a e) F C h = refl
has_given z (Open a) F C h = refl

short_neither : (z : Circle) (l : Line) (F F' C : ℕ → List ℕ) → short_at z l F C ≡ None → short_at z l F' C ≡ None → short_in_either z l F F' C ≡ None
short_neither z l F F' C h h' =
    ap₂ (λ (b b' : Bool). cond (b && b') (short_at z l F C) (Some NoFigure)) (has_given z l F C h) (has_given z l F' C h') ∙ h

neither_from : (z : Circle) (ls : List Line) (F F' C : ℕ → List ℕ) → runs_out z ls F C ≡ None → runs_out z ls F' C ≡ None → runs_out_in_either z ls F F' C ≡ None
unfolding runs_out_in_either runs_out
neither_from z [] F F' C h h' = refl
neither_from z (l ∷ ls) F F' C h h' =
    let parts = else_parts (short_at z l F C) (runs_out z ls (figures_after l F) (coins_after z l C)) h in
    let parts' = else_parts (short_at z l F' C) (runs_out z ls (figures_after l F') (coins_after z l C)) h' in
    let rest = neither_from z ls (figures_after l F) (figures_after l F') (coins_after z l C) parts.1 parts'.1 in
    ap (λ (o : Option Refusal). or_else o (runs_out_in_either z ls (figures_after l F) (figures_after l F') (coins_after z l C))) (short_neither z l F F' C parts.0 parts'.0) ∙ rest

pub neither : Neither
neither z ls F F' C = (either_none z ls F F' C, λ h. neither_from z ls F F' C h.0 h.1)

-- who is watched
or_cases : (x y : Bool) → (x || y) ≡ true → (x ≡ true) ⊎ (y ≡ true)
or_cases true y e = inl refl
or_cases false y e = inr e

outside-from : (n x : ℕ) → n ≤ 15 → outside n x ≡ true → (x ≡ 0) ⊎ (n < x)
outside-from n x le e =
    ⊎_elim (λ h. inl (eqb-true x 0 h)) (λ h. let lt = ltb-true (min n 15) x h in inr (omega (arith, lt))) (or_cases (eqb x 0) (ltb (min n 15) x) e)

to_outside : (n x : ℕ) → n ≤ 15 → (x ≡ 0) ⊎ (n < x) → outside n x ≡ true
to_outside n x le (inl e) = ap (λ (b : Bool). b || ltb (min n 15) x) (eq-eqb x 0 e)
to_outside n x le (inr lt) = ap (λ (b : Bool). eqb x 0 || b) (lt-ltb (min n 15) x (omega arith)) ∙ or-true (eqb x 0)

any_at : (p : ℕ → Bool) (xs : List ℕ) → list_any p xs ≡ true → (j : ℕ) × (j < length xs) × (p (get_or xs j 0) ≡ true)
any_at p [] e = let z : ◌≡◌ {A = ℕ} 0 1 = cc in absurd (omega arith)
any_at p (x ∷ xs) e =
    ⊎_elim (λ h. (0, omega arith, h)) (λ h. let r = any_at p xs h in (suc r.0, omega (arith, r.1), r.2)) (or_cases (p x) (list_any p xs) e)

unpairable-from : (z : Circle) → Fits z → (watched : List ℕ) → unpairable z watched ≡ true → Unpairable z watched
unpairable-from z fits watched e =
    ⊎_elim (λ h. let r = any_at (outside z.n) watched h in inl (r.0, r.1, outside-from z.n (get_or watched r.0 0) fits.1 r.2))
    (λ h. inr (ltb-true z.t (how_many (among watched) z.n) h))
    (or_cases (list_any (outside z.n) watched) (ltb z.t (how_many (among watched) z.n)) e)

to_unpairable : (z : Circle) → Fits z → (watched : List ℕ) → Unpairable z watched → unpairable z watched ≡ true
to_unpairable z fits watched (inl h) =
    ap (λ (b : Bool). b || ltb z.t (how_many (among watched) z.n)) (list_any_at (outside z.n) watched h.0 0 h.1 (to_outside z.n (get_or watched h.0 0) fits.1 h.2))
to_unpairable z fits watched (inr lt) =
    ap (λ (b : Bool). list_any (outside z.n) watched || b) (lt-ltb z.t (how_many (among watched) z.n) lt) ∙ or-true (list_any (outside z.n) watched)

-- what is told, of whether there is no pairing, what is refused, and the first places that differ
abbrev told_as : Bool → Option Refusal → Option ℕ → Option Place → Verdict
told_as b r d f = cond b Unpaired (first_of r d f)

unpaired_told : (b : Bool) (r : Option Refusal) (d : Option ℕ) (f : Option Place) → told_as b r d f ≡ Unpaired → b ≡ true
unpaired_told true r d f h = refl
unpaired_told false (Some e) d f h = let z : ◌≡◌ {A = ℕ} 0 1 = cc in absurd (omega arith)
unpaired_told false None (Some k) f h = let z : ◌≡◌ {A = ℕ} 0 1 = cc in absurd (omega arith)
unpaired_told false None None (Some p) h = let z : ◌≡◌ {A = ℕ} 0 1 = cc in absurd (omega arith)
unpaired_told false None None None h = let z : ◌≡◌ {A = ℕ} 0 1 = cc in absurd (omega arith)

refused_told : (b : Bool) (r : Option Refusal) (d : Option ℕ) (f : Option Place) (e : Refusal) → told_as b r d f ≡ Refused e → (b ≡ false) × (r ≡ Some e)
refused_told true r d f e h = let z : ◌≡◌ {A = ℕ} 0 1 = cc in absurd (omega arith)
refused_told false (Some e') d f e h = (refl, cc)
refused_told false None (Some k) f e h = let z : ◌≡◌ {A = ℕ} 0 1 = cc in absurd (omega arith)
refused_told false None None (Some p) e h = let z : ◌≡◌ {A = ℕ} 0 1 = cc in absurd (omega arith)
refused_told false None None None e h = let z : ◌≡◌ {A = ℕ} 0 1 = cc in absurd (omega arith)

opened_told : (b : Bool) (r : Option Refusal) (d : Option ℕ) (f : Option Place) (k : ℕ) → told_as b r d f ≡ Opened k → (b ≡ false) × (r ≡ None) × (d ≡ Some k)
opened_told true r d f k h = let z : ◌≡◌ {A = ℕ} 0 1 = cc in absurd (omega arith)
opened_told false (Some e) d f k h = let z : ◌≡◌ {A = ℕ} 0 1 = cc in absurd (omega arith)
opened_told false None (Some j) f k h = (refl, refl, cc)
opened_told false None None (Some p) k h = let z : ◌≡◌ {A = ℕ} 0 1 = cc in absurd (omega arith)
opened_told false None None None k h = let z : ◌≡◌ {A = ℕ} 0 1 = cc in absurd (omega arith)

figure_told : (b : Bool) (r : Option Refusal) (d : Option ℕ) (f : Option Place) (p : Place) → told_as b r d f ≡ Figure p → (b ≡ false) × (r ≡ None) × (d ≡ None) × (f ≡ Some p)
figure_told true r d f p h = let z : ◌≡◌ {A = ℕ} 0 1 = cc in absurd (omega arith)
figure_told false (Some e) d f p h = let z : ◌≡◌ {A = ℕ} 0 1 = cc in absurd (omega arith)
figure_told false None (Some j) f p h = let z : ◌≡◌ {A = ℕ} 0 1 = cc in absurd (omega arith)
figure_told false None None (Some q) p h = (refl, refl, refl, cc)
figure_told false None None None p h = let z : ◌≡◌ {A = ℕ} 0 1 = cc in absurd (omega arith)

paired_told : (b : Bool) (r : Option Refusal) (d : Option ℕ) (f : Option Place) → told_as b r d f ≡ Paired → (b ≡ false) × (r ≡ None) × (d ≡ None) × (f ≡ None)
paired_told true r d f h = let z : ◌≡◌ {A = ℕ} 0 1 = cc in absurd (omega arith)
paired_told false (Some e) d f h = let z : ◌≡◌ {A = ℕ} 0 1 = cc in absurd (omega arith)
paired_told false None (Some j) f h = let z : ◌≡◌ {A = ℕ} 0 1 = cc in absurd (omega arith)
paired_told false None None (Some q) h = let z : ◌≡◌ {A = ℕ} 0 1 = cc in absurd (omega arith)
paired_told false None None None h = (refl, refl, refl, refl)

-- the ways back
opened_from : (b : Bool) (r : Option Refusal) (d : Option ℕ) (f : Option Place) (k : ℕ) → b ≡ false → r ≡ None → d ≡ Some k → told_as b r d f ≡ Opened k
opened_from b r d f k hb hr hd = ap₂ (λ (x : Bool) (y : Option Refusal). told_as x y d f) hb hr ∙ ap (λ (x : Option ℕ). told_as false None x f) hd

nothing_told : (b : Bool) (r : Option Refusal) (d : Option ℕ) (f g : Option Place) → b ≡ false → r ≡ None → d ≡ None → f ≡ g → told_as b r d f ≡ told_as false None None g
nothing_told b r d f g hb hr hd hf =
    ap₂ (λ (x : Bool) (y : Option Refusal). told_as x y d f) hb hr ∙ ap₂ (λ (x : Option ℕ) (y : Option Place). told_as false None x y) hd hf

not_true : (b : Bool) → (b ≡ true → ⊥) → b ≡ false
not_true true h = absurd (h refl)
not_true false h = refl

-- where nothing is refused, each has what the lines take
below_and : (b : Bool) (o : Option Refusal) → cond b o (Some OutOfRange) ≡ None → o ≡ None
below_and true o h = h
below_and false o h = let z : ◌≡◌ {A = ℕ} 0 1 = cc in absurd (omega arith)

served : (z : Circle) (ls : List Line) (coins figures figures' : List (List ℕ)) → refusal z ls coins figures figures' ≡ None → ((i : ℕ) → figures_needed i ls ≤ length (of figures i)) × ((i : ℕ) → figures_needed i ls ≤ length (of figures' i))
served z ls coins figures figures' h =
    let none = either_none z ls (of figures) (of figures') (of coins) (below_and (all_below figures && (all_below figures' && all_below coins)) (runs_out_in_either z ls (of figures) (of figures') (of coins)) h) in
    (((enough z ls (of figures) (of coins)).0 none.0).figures_enough, ((enough z ls (of figures') (of coins)).0 none.1).figures_enough)

figure_at : (c : ℕ → Bool) (ls : List Line) (F F' : ℕ → List ℕ) (w k : ℕ) → At c ls (λ i. 0) F F' w k → FigureAt c ls F F' w k
figure_at c ls F F' w k h = record {
  line = h.line;
  inside = h.inside;
  takes = h.takes;
  watched = h.watched;
  place = h.place ∙ zero-add (figures_needed w (take h.line ls));
  differs = h.differs;
  before = h.before;
}

figure_back : (c : ℕ → Bool) (ls : List Line) (F F' : ℕ → List ℕ) (w k : ℕ) → FigureAt c ls F F' w k → figure_differs c ls (λ i. 0) F F' ≡ Some (record { member = w; place = k })
figure_back c ls F F' w k h =
    to_at c ls (λ i. 0) F F' w k h.line h.inside h.takes h.watched (h.place ∙ sym (zero-add (figures_needed w (take h.line ls)))) h.differs h.before

pub judged : Judged
judged z fits ls watched coins figures figures' =
    let b : Bool = unpairable z watched in
    let r : Option Refusal = refusal z ls coins figures figures' in
    let c : ℕ → Bool = among watched in
    let F : ℕ → List ℕ = of figures in
    let F' : ℕ → List ℕ = of figures' in
    let xs : List ℕ = result ls F in
    let ys : List ℕ = result ls F' in
    let d : Option ℕ = differ 0 xs ys in
    let f : Option Place = figure_differs c ls (λ i. 0) F F' in
    let level = results_level ls F F' in
    let no : b ≡ false → Unpairable z watched → ⊥ = λ e u. both_ways b e (to_unpairable z fits watched u) in
    let isnt : (Unpairable z watched → ⊥) → b ≡ false = λ h. not_true b (λ e. h (unpairable-from z fits watched e)) in
    record {
      unpaired = (λ h. unpairable-from z fits watched (unpaired_told b r d f h), λ u. ap (λ (x : Bool). told_as x r d f) (to_unpairable z fits watched u));
      refused = λ e. (
        λ h. let p = refused_told b r d f e h in (no p.0, p.1),
        λ h. ap₂ (λ (x : Bool) (y : Option Refusal). told_as x y d f) (isnt h.0) h.1,
      );
      opened = λ k. (
        λ h.
            let p = opened_told b r d f k h in
            let q = first_from 0 k xs ys level p.2 in
            (no p.0, p.1, subst (λ (i : ℕ). FirstAt i xs ys) (sym (q.1 ∙ zero-add q.0)) q.2),
        λ h. opened_from b r d f k (isnt h.0) h.1 (to_first 0 k xs ys level h.2 ∙ ap (λ (n : ℕ). Some n) (zero-add k)),
      );
      figure = λ w k. (
        λ h.
            let p = figure_told b r d f (record { member = w; place = k }) h in
            (no p.0, p.1, differ_nowhere 0 xs ys level p.2, figure_at c ls F F' w k (at-from c ls (λ i. 0) F F' w k p.3)),
        λ h. nothing_told b r d f (Some (record { member = w; place = k })) (isnt h.0) h.1 (ap (differ 0 xs) (sym h.2) ∙ nowhere 0 xs) (figure_back c ls F F' w k h.3),
      );
      paired = (
        λ h.
            let p = paired_told b r d f h in
            let has = served z ls coins figures figures' p.1 in
            (no p.0, p.1, differ_nowhere 0 xs ys level p.2, agree c ls (λ i. 0) F F' has.0 has.1 p.3),
        λ h. nothing_told b r d f None (isnt h.0) h.1 (ap (differ 0 xs) (sym h.2) ∙ nowhere 0 xs) (agree_nowhere c ls (λ i. 0) F F' h.3),
      );
    }
