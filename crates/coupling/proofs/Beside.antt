-- Both runs, line after line: what was done, followed by what is left, is the whole.
use Rattle.std.proofs.Common.{◌≡◌, ℕ, zero, suc, ◌+◌, ◌<◌, cond, T, List, [], ◌∷◌, ◌++◌, map, length, get_or, take, drop, sym, refl, ap, ◌∙◌, subst, ap₂, ⊎_elim, arith}
use mathlib.Core.Path.{fun_ext}
use Rattle.std.proofs.lemmas.List.{append_assoc, append-nil, length-map, drop_more, get_or_past, nil_from_length}
use Rattle.std.proofs.lemmas.Bool.{cases_lt}
use Rattle.field.proofs.Below.{both_parts}
use Rattle.shares.specs.Circle.{Circle}
use Rattle.sheets.specs.Lines.{made, good, good_line, gives, deals, figures_needed, coins_needed}
use Rattle.sheets.specs.Families.{of}
use Rattle.sheets.specs.Meaning.{figures_after}
use Rattle.sheets.specs.declared.line.Line.{Line}
use Rattle.runs.specs.Row.{row_of}
use Rattle.runs.specs.Laws.{Figures, Coins}
use Rattle.runs.specs.Pairing.{paired_draw, with_coins, paired_coins}
use Rattle.runs.specs.Run.{State, begun, shares, after, drawn, coins_after, opened, opened_by, opens}
use Rattle.runs.proofs.Dealers.{enough-after, enough_now, figures-below-after, coins_after_lem}
use Rattle.runs.proofs.Pairs.{shares-same, paired_coins-same, tail_same, Second, second_draw, second_after, draw_whole, paired-length}
use Rattle.runs.specs.Steps.{in_state}
use Rattle.runs.proofs.Going.{made-is}
use Rattle.coupling.specs.Couples.{Coupled}
use Rattle.coupling.specs.Growing.{Grown}
use Rattle.coupling.specs.Sides.{Side}
use Rattle.coupling.specs.Steps.{Steady, Both}
use Rattle.coupling.proofs.Abreast.{opened-coins, draw_coins}

figures_after_lem : (l : Line) (ls : List Line) (figures : ℕ → List ℕ) → Figures (l ∷ ls) figures → Figures ls (figures_after l figures)
unfolding figures_needed
figures_after_lem l ls figures h = record {
  enough = λ i. enough-after (gives l i) 1 (figures_needed i ls) (figures i) (h.enough i);
  reduced = figures-below-after l figures h.reduced;
}

module _ (z : Circle) (g : List ℕ) (ls : List Line) (F F' C : ℕ → List ℕ) (many : ℕ) where
  -- the coins of the second run
  abbrev pub whole : ℕ → List ℕ
  whole = paired_coins z g ls (begun F C) (begun F' C)

  pub record Beside (left : List Line) (coins figures : ℕ → List ℕ) (rows : List (List ℕ)) (shown : List ℕ) (figures' : ℕ → List ℕ) (rows' : List (List ℕ)) (shown' : List ℕ) (paired : List (List ℕ)) : Type 0 where
    pub values : List (ℕ → ℕ)
    pub values' : List (ℕ → ℕ)
    pub holds : rows ≡ map row_of values
    pub holds' : rows' ≡ map row_of values'
    pub level : length values' ≡ length values
    pub well : T (good z.n (length values) left)
    pub figs : Figures left figures
    pub figs' : Figures left figures'
    pub enough : Coins z left coins
    pub opens_all : shown ++ opened_by z left (in_state values figures coins) ≡ opens z ls F C
    pub opens_all' : shown' ++ opened_by z left (in_state values' figures' (paired_coins z g left (in_state values figures coins) (in_state values' figures' coins))) ≡ opens z ls F' whole
    pub as_many : length paired ≡ many
    pub pairs : (k : ℕ) → k < many → get_or paired k [] ++ paired_coins z g left (in_state values figures coins) (in_state values' figures' coins) (k + 1) ≡ whole (k + 1)

  pub beside_start : (rows rows' : List (List ℕ)) (shown shown' : List ℕ) (paired : List (List ℕ)) → rows ≡ [] → rows' ≡ [] → shown ≡ [] → shown' ≡ [] → length paired ≡ many → ((k : ℕ) → get_or paired k [] ≡ []) →
      T (good z.n 0 ls) → Figures ls F → Figures ls F' → Coins z ls C → Beside ls C F rows shown F' rows' shown' paired
  beside_start rows rows' shown shown' paired er er' es es' len none well figs figs' enough = record {
    values = [];
    values' = [];
    holds = er;
    holds' = er';
    level = refl;
    well = well;
    figs = figs;
    figs' = figs';
    enough = enough;
    opens_all = ap (λ (xs : List ℕ). xs ++ opens z ls F C) es;
    opens_all' = ap (λ (xs : List ℕ). xs ++ opens z ls F' whole) es';
    as_many = len;
    pairs = λ k lt. ap (λ (xs : List ℕ). xs ++ whole (k + 1)) (none k);
  }

  module _ (l : Line) (rest : List Line) (coins figures : ℕ → List ℕ) (rows : List (List ℕ)) (shown : List ℕ) (figures' : ℕ → List ℕ) (rows' : List (List ℕ)) (shown' : List ℕ) (paired : List (List ℕ)) (h : Beside (l ∷ rest) coins figures rows shown figures' rows' shown' paired) where
    abbrev pub s : State
    s = in_state h.values figures coins

    abbrev pub s' : State
    s' = in_state h.values' figures' coins

    both_good : T (good_line z.n (length h.values) l) × T (good z.n (made l (length h.values)) rest)
    unfolding good
    both_good = both_parts (good_line z.n (length h.values) l) (good z.n (made l (length h.values)) rest) h.well

    pub steady : Steady z l coins figures rows figures' rows'
    unfolding figures_needed coins_needed
    steady =
        let long : length rows ≡ length h.values = ap length h.holds ∙ length-map h.values row_of in
        let long' : length rows' ≡ length h.values = ap length h.holds' ∙ (length-map h.values' row_of ∙ h.level) in
        record {
          drawable = record {
            good = subst (λ (n : ℕ). T (good_line z.n n l)) (sym long) both_good.0;
            good' = subst (λ (n : ℕ). T (good_line z.n n l)) (sym long') both_good.0;
            enough = λ i d. enough_now (deals z l i) z.t (coins_needed z i rest) (length (coins i)) d (h.enough.enough i);
          };
          given = λ i d. enough_now (gives l i) 1 (figures_needed i rest) (length (figures i)) d (h.figs.enough i);
          given' = λ i d. enough_now (gives l i) 1 (figures_needed i rest) (length (figures' i)) d (h.figs'.enough i);
        }

    pub side : Side s rows figures
    side = record { same_rows = h.holds; same_figures = refl }

    pub side' : Side s' rows' figures'
    side' = record { same_rows = h.holds'; same_figures = refl }

    -- the second run with its own coins, and with those of this line alone
    abbrev D : ℕ → List ℕ
    D = paired_draw z g l s s'

    abbrev R : ℕ → List ℕ
    R = paired_coins z g (l ∷ rest) s s'

    abbrev S' : State
    S' = with_coins s' R

    abbrev s₁ : State
    s₁ = after z l s

    abbrev X : State
    X = after z l (with_coins s' D)

    abbrev s'₁ : State
    s'₁ = in_state (h.values' ++ shares z l (with_coins s' D)) (figures_after l figures') (coins_after z l coins)

    second : Second z g (l ∷ rest) s S'
    second = sym (paired_coins-same z g (l ∷ rest) s s' R)

    draws_same : (i : ℕ) → T (deals z l i) → take z.t (D i) ≡ drawn z S' i
    draws_same i d =
        draw_whole z g l s s' i
        ∙ (sym (draw_coins z g l s s' R i) ∙ sym (second_draw z g l rest s S' second h.enough i d))

    held_same : shares z l S' ≡ shares z l (with_coins s' D)
    held_same = shares-same z l s' R D (λ i d. sym (draws_same i d))

    rest-same : paired_coins z g rest s₁ X ≡ paired_coins z g rest s₁ s'₁
    rest-same = sym (paired_coins-same z g rest s₁ X (coins_after z l coins))

    coins-same : coins_after z l R ≡ paired_coins z g rest s₁ s'₁
    coins-same =
        second_after z g l rest s S' second h.enough
        ∙ (sym (tail_same z g l rest s₁ S' D draws_same) ∙ rest-same)

    second_next : after z l S' ≡ with_coins s'₁ (paired_coins z g rest s₁ s'₁)
    second_next = ap₂ (λ (fs : List (ℕ → ℕ)) (cs : ℕ → List ℕ). in_state (h.values' ++ fs) (figures_after l figures') cs) held_same coins-same

    left_split : R ≡ (λ i. cond (deals z l i) (D i) [] ++ paired_coins z g rest s₁ X i)
    unfolding paired_coins
    left_split = refl

    opened_split : (t : State) → opened_by z (l ∷ rest) t ≡ opened z l t ++ opened_by z rest (after z l t)
    unfolding opened_by
    opened_split t = refl

    module _ (coins₁ figures₁ : ℕ → List ℕ) (rows₁ : List (List ℕ)) (shown₁ : List ℕ) (figures'₁ : ℕ → List ℕ) (rows'₁ : List (List ℕ)) (shown'₁ : List ℕ) (paired₁ : List (List ℕ)) (b : Both z g l s s' coins₁ figures₁ rows₁ shown shown₁ figures'₁ rows'₁ shown' shown'₁ paired paired₁) where
      next-opens' : shown'₁ ++ opened_by z rest (with_coins s'₁ (paired_coins z g rest s₁ s'₁)) ≡ opens z ls F' whole
      next-opens' =
          ap₂ (λ (xs : List ℕ) (t : State). xs ++ opened_by z rest t) (b.opens' ∙ ap (λ (xs : List ℕ). shown' ++ xs) (sym (opened-coins z l s' R))) (sym second_next)
          ∙ (append_assoc shown' (opened z l S') (opened_by z rest (after z l S'))
          ∙ (ap (λ (xs : List ℕ). shown' ++ xs) (sym (opened_split S')) ∙ h.opens_all'))

      next-pairs : (k : ℕ) → k < many → get_or paired₁ k [] ++ paired_coins z g rest s₁ s'₁ (k + 1) ≡ whole (k + 1)
      next-pairs k lt =
          let piece : List ℕ = cond (deals z l (k + 1)) (D (k + 1)) [] in
          let least : List ℕ = paired_coins z g rest s₁ X (k + 1) in
          ap₂ (λ (xs : List ℕ) (f : ℕ → List ℕ). xs ++ f (k + 1)) (b.noted k (omega (arith, h.as_many))) (sym rest-same)
          ∙ (append_assoc (get_or paired k []) piece least
          ∙ (ap (λ (f : ℕ → List ℕ). get_or paired k [] ++ f (k + 1)) (sym left_split) ∙ h.pairs k lt))

      next : Beside rest (coins_after z l coins) (figures_after l figures) rows₁ shown₁ (figures_after l figures') rows'₁ shown'₁ paired₁
      next = record {
        values = h.values ++ shares z l s;
        values' = h.values' ++ shares z l (with_coins s' D);
        holds = b.held;
        holds' = b.held';
        level = made-is z l (with_coins s' D) ∙ (ap (made l) h.level ∙ sym (made-is z l s));
        well = subst (λ (n : ℕ). T (good z.n n rest)) (sym (made-is z l s)) both_good.1;
        figs = figures_after_lem l rest figures h.figs;
        figs' = figures_after_lem l rest figures' h.figs';
        enough = coins_after_lem z l rest coins h.enough;
        opens_all =
            ap (λ (xs : List ℕ). xs ++ opened_by z rest s₁) b.opens
            ∙ (append_assoc shown (opened z l s) (opened_by z rest s₁) ∙ (ap (λ (xs : List ℕ). shown ++ xs) (sym (opened_split s)) ∙ h.opens_all));
        opens_all' = next-opens';
        as_many = b.as_many ∙ h.as_many;
        pairs = next-pairs;
      }

      pub beside-more : Beside rest coins₁ figures₁ rows₁ shown₁ figures'₁ rows'₁ shown'₁ paired₁
      beside-more =
          subst (λ (f : ℕ → List ℕ). Beside rest coins₁ figures₁ rows₁ shown₁ f rows'₁ shown'₁ paired₁) (sym b.taken')
          (subst (λ (f : ℕ → List ℕ). Beside rest coins₁ f rows₁ shown₁ (figures_after l figures') rows'₁ shown'₁ paired₁) (sym b.taken)
          (subst (λ (f : ℕ → List ℕ). Beside rest f (figures_after l figures) rows₁ shown₁ (figures_after l figures') rows'₁ shown'₁ paired₁) (sym b.drawn) next))

  -- the line at the head of what is left
  pub beside_here : (i : ℕ) (d : Line) (coins figures : ℕ → List ℕ) (rows : List (List ℕ)) (shown : List ℕ) (figures' : ℕ → List ℕ) (rows' : List (List ℕ)) (shown' : List ℕ) (paired : List (List ℕ)) → i < length ls →
      Beside (drop i ls) coins figures rows shown figures' rows' shown' paired → Beside (get_or ls i d ∷ drop (i + 1) ls) coins figures rows shown figures' rows' shown' paired
  beside_here i d coins figures rows shown figures' rows' shown' paired lt h =
      subst (λ (left : List Line). Beside left coins figures rows shown figures' rows' shown' paired) (drop_more ls i d lt) h

-- after the last line
module _ (z : Circle) (g : List ℕ) (ls : List Line) (F F' : ℕ → List ℕ) (C : List (List ℕ)) where
  abbrev all : ℕ → List ℕ
  all = whole z g ls F F' (of C) (length C)

  none_past : (i : ℕ) → of C i ≡ [] → [] ≡ all i
  none_past i e = sym (nil_from_length (all i) (paired-length z g ls (begun F (of C)) (begun F' (of C)) i ∙ ap length e))

  module _ (coins : List (List ℕ)) (figures : ℕ → List ℕ) (rows : List (List ℕ)) (shown : List ℕ) (figures' : ℕ → List ℕ) (rows' : List (List ℕ)) (shown' : List ℕ) (paired paired₁ : List (List ℕ))
      (h : Beside z g ls F F' (of C) (length C) [] (of coins) figures rows shown figures' rows' shown' paired) (grown : Grown paired coins paired₁) where
    all_paired : (i : ℕ) → of paired₁ i ≡ all i
    unfolding paired_coins
    all_paired zero = none_past 0 refl
    all_paired (suc k) =
        ⊎_elim
        (λ lt.
        let e : k + 1 ≡ suc k = omega arith in
        grown.longer k (omega (arith, h.as_many))
        ∙ (ap (λ (i : ℕ). get_or paired k [] ++ of coins i) (sym e) ∙ (h.pairs k lt ∙ ap all e)))
        (λ le. get_or_past paired₁ k [] (omega (arith, h.as_many, grown.as_many)) ∙ none_past (suc k) (get_or_past C k [] le))
        (cases_lt k (length C))

    pub beside_end : Coupled z g ls C F F' shown shown' paired₁
    unfolding opened_by
    beside_end =
        let same : of paired₁ ≡ all = fun_ext all_paired in
        record {
          opens_first = sym (append-nil shown) ∙ h.opens_all;
          opens_second = sym (append-nil shown') ∙ (h.opens_all' ∙ ap (λ (f : ℕ → List ℕ). opens z ls F' f) (sym same));
          pairs = same;
        }
