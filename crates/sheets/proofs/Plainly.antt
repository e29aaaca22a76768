-- The plain run with the lines that are left: what was opened, followed by what they open, is the whole.
use Rattle.std.proofs.Common.{◌≡◌, ℕ, zero, suc, ◌+◌, ◌<◌, Bool, true, false, cond, ◌&&◌, T, List, [], ◌∷◌, ◌++◌, length, get_or, drop, sym, refl, ap, ◌∙◌, subst, ap₂}
use Rattle.std.proofs.lemmas.List.{append_assoc, append-nil, length-append, drop_more}
use Rattle.std.proofs.lemmas.Bool.{ltb-true, and_parts}
use Rattle.field.specs.Field.{p, ◌⊕◌, ◌⊗◌, below, all_below}
use Rattle.field.proofs.Below.{both_parts, below-append, below-drop, below-get_or, below-from_all}
use Rattle.field.proofs.Ring.{⊕-below, ⊗-below}
use Rattle.sheets.specs.Families.{of}
use Rattle.sheets.specs.Lines.{made, gives, good_line, good}
use Rattle.sheets.specs.Meaning.{Plain, plain_made, plain_opened, plain_after, plain_run, figures_after, has_figure, have_figures, result}
use Rattle.sheets.specs.Outcome.{Worked}
use Rattle.sheets.specs.declared.line.Line.{Line}
use Rattle.sheets.specs.declared.line.Line.TheVariants.{Input, Sum, Times, Product, Open}

abbrev pub plain : List ℕ → List (List ℕ) → Plain
plain values figures = record { values = values; figures = of figures }

pub record At (n : ℕ) (lines : List Line) (first : List (List ℕ)) (rest : List Line) (figures : List (List ℕ)) (values opened : List ℕ) : Type 0 where
  pub well : T (good n (length values) rest)
  pub small : T (below values)
  pub each : (j : ℕ) → T (below (of figures j))
  pub enough : have_figures lines (of first) ≡ have_figures rest (of figures)
  pub whole : opened ++ plain_run rest (plain values figures) ≡ result lines (of first)

-- all lists are below p at each member
pub each_below : (lists : List (List ℕ)) → all_below lists ≡ true → (j : ℕ) → T (below (of lists j))
each_below lists e zero = tt
each_below [] e (suc j) = tt
each_below (xs ∷ xss) e (suc zero) = (both_parts (below xs) (all_below xss) (rw e tt)).0
each_below (xs ∷ xss) e (suc (suc j)) = each_below xss (and_parts (below xs) (all_below xss) e).1 (suc j)

length-made : (l : Line) (s : Plain) → length (s.values ++ plain_made l s) ≡ made l (length s.values)
length-made (Input w) s = length-append s.values _
length-made (Sum a e) s = length-append s.values _
length-made (Times k a) s = length-append s.values _
length-made (Product a e) s = length-append s.values _
length-made (Open a) s = ap length (append-nil s.values)

one_below : (x : ℕ) → x < p → T (below (x ∷ []))
one_below x lt = below-from_all (x ∷ []) (lt, tt)

made-below : (l : Line) (s : Plain) → ((j : ℕ) → T (below (s.figures j))) → has_figure l s.figures ≡ true → T (below (plain_made l s))
made-below (Input w) s each has = one_below (get_or (s.figures w) 0 0) (below-get_or (s.figures w) 0 (ltb-true 0 (length (s.figures w)) has) (each w))
made-below (Sum a e) s each has = one_below (get_or s.values a 0 ⊕ get_or s.values e 0) (⊕-below (get_or s.values a 0) (get_or s.values e 0))
made-below (Times k a) s each has = one_below (k ⊗ get_or s.values a 0) (⊗-below k (get_or s.values a 0))
made-below (Product a e) s each has = one_below (get_or s.values a 0 ⊗ get_or s.values e 0) (⊗-below (get_or s.values a 0) (get_or s.values e 0))
made-below (Open a) s each has = tt

figures-below : (b : Bool) (xs : List ℕ) → T (below xs) → T (below (cond b (drop 1 xs) xs))
figures-below true xs t = below-drop 1 xs t
figures-below false xs t = t

pub at_step : (n : ℕ) (lines : List Line) (first : List (List ℕ)) (l : Line) (ls : List Line) (figures figures' : List (List ℕ)) (values values' opened opened' : List ℕ) →
    At n lines first (l ∷ ls) figures values opened → Worked l figures figures' values values' opened opened' → At n lines first ls figures' values' opened'
unfolding good have_figures plain_run
at_step n lines first l ls figures figures' values values' opened opened' h w =
    let s : Plain = plain values figures in
    let goods = both_parts (good_line n (length values) l) (good n (made l (length values)) ls) h.well in
    let len : length values' ≡ made l (length values) = ap length w.made ∙ length-made l s in
    record {
      well = subst (λ (k : ℕ). T (good n k ls)) (sym len) goods.1;
      small = subst (λ (xs : List ℕ). T (below xs)) (sym w.made) (below-append values (plain_made l s) h.small (made-below l s h.each w.has));
      each = λ j. subst (λ (f : ℕ → List ℕ). T (below (f j))) (sym w.taken) (figures-below (gives l j) (of figures j) (h.each j));
      enough = h.enough ∙ (ap (λ (b : Bool). b && have_figures ls (figures_after l (of figures))) w.has ∙ ap (have_figures ls) (sym w.taken));
      whole =
          ap₂ (λ (xs : List ℕ) (t : Plain). xs ++ plain_run ls t) w.shown (λ i. record { values = w.made i; figures = w.taken i })
          ∙ (append_assoc opened (plain_opened l s) (plain_run ls (plain_after l s)) ∙ h.whole);
    }

pub at_start : (n : ℕ) (lines : List Line) (first : List (List ℕ)) (values opened : List ℕ) → T (good n 0 lines) → all_below first ≡ true → values ≡ [] → opened ≡ [] → At n lines first lines first values opened
at_start n lines first values opened well small ev eo =
    subst (λ (xs : List ℕ). At n lines first lines first xs opened) (sym ev)
    (subst (λ (xs : List ℕ). At n lines first lines first [] xs) (sym eo)
    (record { well = well; small = tt; each = each_below first small; enough = refl; whole = refl }))

pub at_end : (n : ℕ) (lines : List Line) (first : List (List ℕ)) (rest : List Line) (figures : List (List ℕ)) (values opened : List ℕ) → rest ≡ [] → At n lines first rest figures values opened →
    (have_figures lines (of first) ≡ true) × (opened ≡ result lines (of first))
unfolding have_figures plain_run
at_end n lines first rest figures values opened none h =
    let k : At n lines first [] figures values opened = subst (λ (r : List Line). At n lines first r figures values opened) none h in
    (k.enough, sym (append-nil opened) ∙ k.whole)

pub at_wanting : (n : ℕ) (lines : List Line) (first : List (List ℕ)) (l : Line) (ls : List Line) (figures : List (List ℕ)) (values opened : List ℕ) →
    At n lines first (l ∷ ls) figures values opened → has_figure l (of figures) ≡ false → have_figures lines (of first) ≡ false
unfolding have_figures
at_wanting n lines first l ls figures values opened h e =
    h.enough ∙ ap (λ (b : Bool). b && have_figures ls (figures_after l (of figures))) e

pub at_line : (n : ℕ) (lines : List Line) (first : List (List ℕ)) (l : Line) (ls : List Line) (figures : List (List ℕ)) (values opened : List ℕ) →
    At n lines first (l ∷ ls) figures values opened → T (good_line n (length values) l)
unfolding good
at_line n lines first l ls figures values opened h = (both_parts (good_line n (length values) l) (good n (made l (length values)) ls) h.well).0

-- the line at the head of what is left
pub at_here : (n : ℕ) (lines : List Line) (first : List (List ℕ)) (items : List Line) (i : ℕ) (figures : List (List ℕ)) (values opened : List ℕ) → i < length items →
    At n lines first (drop i items) figures values opened → At n lines first (get_or items i (Input 0) ∷ drop (i + 1) items) figures values opened
at_here n lines first items i figures values opened lt h = subst (λ (rest : List Line). At n lines first rest figures values opened) (drop_more items i (Input 0) lt) h
