-- What follows where nothing is missing and nothing differs.
use Rattle.std.proofs.Common.{◌≡◌, ℕ, suc, ◌+◌, ◌≤◌, Bool, true, false, cond, not, ◌&&◌, T, eqb, List, [], ◌∷◌, length, get_or, take, drop, Some, None, Option, sym, refl, ap, ◌∙◌, subst, ap₂, zero-add, arith, eqb→eq}
use Rattle.std.proofs.lemmas.List.{length-append}
use Rattle.std.proofs.lemmas.Bool.{and_parts, eqb-true, ltb-true}
use Rattle.shares.specs.Circle.{Circle}
use Rattle.sheets.specs.Lines.{gives, figures_needed}
use Rattle.sheets.specs.Meaning.{Plain, plain_opened, plain_after, plain_run, result, figures_after, has_figure}
use Rattle.sheets.specs.declared.line.Line.{Line}
use Rattle.sheets.specs.declared.line.Line.TheVariants.{Input, Sum, Times, Product, Open}
use Rattle.sheets.specs.declared.refusal.Refusal.{Refusal}
use Rattle.sheets.specs.declared.refusal.Refusal.TheVariants.{NoFigure}
use Rattle.runs.specs.Laws.{Agree}
use Rattle.runs.specs.Run.{coins_after}
use Rattle.runs.specs.Short.{short_at, or_else, runs_out}
use Rattle.runs.proofs.Dealers.{enough-after, enough_now}
use Rattle.runs.proofs.Enough.{has-from, short-from, else_parts}
use Rattle.pairing.specs.declared.differing.Place.{Place}
use Rattle.pairing.specs.Differing.{differ, given_differs, taken_after, or_later, figure_differs}
use Rattle.pairing.specs.Lacking.{short_in_either, runs_out_in_either}

-- nothing is missing in either run
both_figures : (b : Bool) (o : Option Refusal) → cond b o (Some NoFigure) ≡ None → (b ≡ true) × (o ≡ None)
both_figures true o h = (refl, h)
both_figures false o h = let z : ◌≡◌ {A = ℕ} 0 1 = cc in absurd (omega arith)

given_in : (l : Line) (F : ℕ → List ℕ) → has_figure l F ≡ true → (i : ℕ) → T (gives l i) → 1 ≤ length (F i)
given_in (Input w) F h i t = subst (λ (k : ℕ). 1 ≤ length (F k)) (sym (eqb→eq i w t)) (ltb-true 0 (length (F w)) h)
given_in (Sum a e) F h i t = absurd t
given_in (Times k a) F h i t = absurd t
given_in (Product a e) F h i t = absurd t
given_in (Open a) F h i t = absurd t

pub other_has : (z : Circle) (l : Line) (F F' C : ℕ → List ℕ) → short_in_either z l F F' C ≡ None → (short_at z l F C ≡ None) × (short_at z l F' C ≡ None)
other_has z l F F' C h =
    let parts = both_figures (has_figure l F && has_figure l F') (short_at z l F C) h in
    let figures = and_parts (has_figure l F) (has_figure l F') parts.0 in
    (parts.1, short-from z l F' C (record { giver = given_in l F' figures.1; dealer = (has-from z l F C parts.1).dealer }))

pub either_none : (z : Circle) (ls : List Line) (F F' C : ℕ → List ℕ) → runs_out_in_either z ls F F' C ≡ None → (runs_out z ls F C ≡ None) × (runs_out z ls F' C ≡ None)
unfolding runs_out_in_either runs_out
either_none z [] F F' C h = (refl, refl)
either_none z (l ∷ ls) F F' C h =
    let parts = else_parts (short_in_either z l F F' C) (runs_out_in_either z ls (figures_after l F) (figures_after l F') (coins_after z l C)) h in
    let now = other_has z l F F' C parts.0 in
    let later = either_none z ls (figures_after l F) (figures_after l F') (coins_after z l C) parts.1 in (
      ap (λ (o : Option Refusal). or_else o (runs_out z ls (figures_after l F) (coins_after z l C))) now.0 ∙ later.0,
      ap (λ (o : Option Refusal). or_else o (runs_out z ls (figures_after l F') (coins_after z l C))) now.1 ∙ later.1,
    )

-- lists of one length in which nothing differs are the same
pub same_first : (b : Bool) (k : ℕ) (o : Option ℕ) → cond b o (Some k) ≡ None → (b ≡ true) × (o ≡ None)
same_first true k o h = (refl, h)
same_first false k o h = let z : ◌≡◌ {A = ℕ} 0 1 = cc in absurd (omega arith)

pub differ_nowhere : (k : ℕ) (xs ys : List ℕ) → length xs ≡ length ys → differ k xs ys ≡ None → xs ≡ ys
unfolding differ
differ_nowhere k [] [] len h = refl
differ_nowhere k [] (y ∷ ys) len h = absurd (omega arith)
differ_nowhere k (x ∷ xs) [] len h = absurd (omega arith)
differ_nowhere k (x ∷ xs) (y ∷ ys) len h =
    let parts = same_first (eqb x y) k (differ (k + 1) xs ys) h in
    ap₂ (λ (a : ℕ) (as' : List ℕ). a ∷ as') (eqb-true x y parts.0) (differ_nowhere (k + 1) xs ys (omega arith) parts.1)

opened_level : (l : Line) (s s' : Plain) → length (plain_opened l s) ≡ length (plain_opened l s')
opened_level (Input w) s s' = refl
opened_level (Sum a e) s s' = refl
opened_level (Times k a) s s' = refl
opened_level (Product a e) s s' = refl
opened_level (Open a) s s' = refl

run_level : (ls : List Line) (s s' : Plain) → length (plain_run ls s) ≡ length (plain_run ls s')
unfolding plain_run
run_level [] s s' = refl
run_level (l ∷ ls) s s' =
    length-append (plain_opened l s) (plain_run ls (plain_after l s))
    ∙ (ap₂ (λ (a b : ℕ). a + b) (opened_level l s s') (run_level ls (plain_after l s) (plain_after l s'))
    ∙ sym (length-append (plain_opened l s') (plain_run ls (plain_after l s'))))

-- a sheet opens as much of any figures
pub results_level : (ls : List Line) (F F' : ℕ → List ℕ) → length (result ls F) ≡ length (result ls F')
results_level ls F F' = run_level ls (record { values = []; figures = F }) (record { values = []; figures = F' })

-- no figure of the watched differs
pub later_parts : (a b : Option Place) → or_later a b ≡ None → (a ≡ None) × (b ≡ None)
later_parts (Some x) b h = let z : ◌≡◌ {A = ℕ} 0 1 = cc in absurd (omega arith)
later_parts None b h = (refl, h)

test_off : (b d : Bool) (p : Place) → T b → cond (b && not d) (Some p) None ≡ None → d ≡ true
test_off true true p t h = refl
test_off true false p t h = let z : ◌≡◌ {A = ℕ} 0 1 = cc in absurd (omega arith)
test_off false d p t h = absurd t

pub given-same : (c : ℕ → Bool) (l : Line) (taken : ℕ → ℕ) (F F' : ℕ → List ℕ) → given_differs c l taken F F' ≡ None → (i : ℕ) → T (c i) → T (gives l i) → get_or (F i) 0 0 ≡ get_or (F' i) 0 0
given-same c (Input w) taken F F' h i watched t =
    let e : i ≡ w = eqb→eq i w t in
    let same : get_or (F w) 0 0 ≡ get_or (F' w) 0 0 =
    eqb-true (get_or (F w) 0 0) (get_or (F' w) 0 0) (test_off (c w) (eqb (get_or (F w) 0 0) (get_or (F' w) 0 0)) (record { member = w; place = taken w }) (subst (λ (k : ℕ). T (c k)) e watched) h) in
    subst (λ (k : ℕ). get_or (F k) 0 0 ≡ get_or (F' k) 0 0) (sym e) same
given-same c (Sum a e) taken F F' h i watched t = absurd t
given-same c (Times k a) taken F F' h i watched t = absurd t
given-same c (Product a e) taken F F' h i watched t = absurd t
given-same c (Open a) taken F F' h i watched t = absurd t

first_and_rest : (k : ℕ) (xs : List ℕ) → 1 ≤ length xs → take (1 + k) xs ≡ get_or xs 0 0 ∷ take k (drop 1 xs)
first_and_rest k [] le = absurd (omega arith)
first_and_rest k (x ∷ xs) le = let e : 1 + k ≡ suc k = omega arith in ap (λ (j : ℕ). take j (x ∷ xs)) e

agree_at : (b : Bool) (k : ℕ) (xs ys : List ℕ) → (T b → 1 ≤ length xs) → (T b → 1 ≤ length ys) → (T b → get_or xs 0 0 ≡ get_or ys 0 0) → take k (cond b (drop 1 xs) xs) ≡ take k (cond b (drop 1 ys) ys) → take (cond b 1 0 + k) xs ≡ take (cond b 1 0 + k) ys
agree_at true k xs ys lx ly e h =
    first_and_rest k xs (lx tt) ∙ (ap₂ (λ (a : ℕ) (l : List ℕ). a ∷ l) (e tt) h ∙ sym (first_and_rest k ys (ly tt)))
agree_at false k xs ys lx ly e h = simp zero-add h

pub agree : (c : ℕ → Bool) (ls : List Line) (taken : ℕ → ℕ) (F F' : ℕ → List ℕ) → ((i : ℕ) → figures_needed i ls ≤ length (F i)) → ((i : ℕ) → figures_needed i ls ≤ length (F' i)) → figure_differs c ls taken F F' ≡ None → Agree c ls F F'
unfolding figure_differs figures_needed
agree c [] taken F F' enough enough' h i watched = refl
agree c (l ∷ ls) taken F F' enough enough' h i watched =
    let parts = later_parts (given_differs c l taken F F') (figure_differs c ls (taken_after l taken) (figures_after l F) (figures_after l F')) h in
    let rest = agree c ls (taken_after l taken) (figures_after l F) (figures_after l F')
    (λ j. enough-after (gives l j) 1 (figures_needed j ls) (F j) (enough j)) (λ j. enough-after (gives l j) 1 (figures_needed j ls) (F' j) (enough' j)) parts.1 in
    agree_at (gives l i) (figures_needed i ls) (F i) (F' i)
    (λ t. enough_now (gives l i) 1 (figures_needed i ls) (length (F i)) t (enough i)) (λ t. enough_now (gives l i) 1 (figures_needed i ls) (length (F' i)) t (enough' i))
    (given-same c l taken F F' parts.0 i watched) (rest i watched)
