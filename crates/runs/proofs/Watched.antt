-- Of two runs of which the second has the paired coins, the watched see the same, line by line: what they deal and what
-- they are sent does not differ, since the mask is 0 at their places, and what is opened is the same.
use Rattle.std.proofs.Common.{◌≡◌, ℕ, ◌<◌, ◌≤◌, Bool, true, false, cond, T, List, [], ◌∷◌, map, length, get_or, sym, refl, ap, ◌∙◌, ap₂}
use mathlib.Core.Path.{fun_ext}
use lib.Dec.{eqb_refl}
use Rattle.std.proofs.ByRecursion.{All-weaker}
use Rattle.field.specs.Field.{p, ◌⊕◌, ◌⊗◌}
use Rattle.field.proofs.Below.{below-take}
use Rattle.field.proofs.Ring.{⊕-0, ⊗-0, 0-⊗, reduced}
use Rattle.shares.specs.Circle.{Circle, Fits, members}
use Rattle.shares.specs.Polynomial.{value, scaled}
use Rattle.shares.proofs.Values.{value-below}
use Rattle.sheets.specs.Lines.{deals}
use Rattle.sheets.specs.Meaning.{Plain, plain_opened, plain_run}
use Rattle.sheets.specs.declared.line.Line.{Line}
use Rattle.sheets.specs.declared.line.Line.TheVariants.{Input, Sum, Times, Product, Open}
use Rattle.runs.specs.Run.{State, share, secret, drawn, sent, after}
use Rattle.runs.specs.Seen.{watched_in, dealers, own_figure, own_coins, received, shown, seen_at, seen_by, how_many}
use Rattle.runs.specs.Pairing.{shifted, paired_draw, mask_for}
use Rattle.runs.specs.Laws.{Coins, Agree}
use Rattle.runs.proofs.Apart.{Apart, SentApart, both_apart, apart_at, sent-differs, made_apart}
use Rattle.runs.proofs.Dealers.{Below, agree_now, agree_after, at_member, each_dealer, figures-below-after, coins_after_lem}
use Rattle.runs.proofs.Lists.{both_appended, map_same, flat_map-same, split_append, of_kept}
use Rattle.runs.proofs.Masks.{whole, length-mask_for, watched-zero}
use Rattle.runs.proofs.Pairs.{Second, second_draw, second_after}
use Rattle.runs.proofs.Rightly.{Rows, both_rows, row_at, plain_of, values_after, made_rows}
use Rattle.runs.proofs.Rows.{row_below}
use Rattle.runs.proofs.Shifts.{difference, no_difference, shifted_none}

-- shares that differ by nothing
unmoved : (x y d g : ℕ) → x < p → y ≡ x ⊕ d ⊗ g → d ⊗ g ≡ 0 → x ≡ y
unmoved x y d g lt e o = sym (e ∙ (ap (λ (k : ℕ). x ⊕ k) o ∙ (⊕-0 x ∙ reduced lt)))

where_0 : (d g : ℕ) → g ≡ 0 → d ⊗ g ≡ 0
where_0 d g o = ap (λ (k : ℕ). d ⊗ k) o ∙ ⊗-0 d

where_same : (v v' g : ℕ) → v ≡ v' → difference v v' ⊗ g ≡ 0
where_same v v' g e = ap (λ (k : ℕ). k ⊗ g) (no_difference v v' e) ∙ 0-⊗ g

opened-length : (l : Line) (q q' : Plain) → length (plain_opened l q) ≡ length (plain_opened l q')
opened-length (Input w) q q' = refl
opened-length (Sum a e) q q' = refl
opened-length (Times k a) q q' = refl
opened-length (Product a e) q q' = refl
opened-length (Open a) q q' = refl

watched_part : {A : Type 0} (b : Bool) (x y : List A) → (T b → x ≡ y) → cond b x [] ≡ cond b y []
watched_part true x y e = e tt
watched_part false x y e = refl

module _ (z : Circle) (fits : Fits z) (c : ℕ → Bool) (few : how_many c z.n ≤ z.t) where
  -- what holds of the states of both runs before the lines that are left
  pub record Both (ls : List Line) (s s' : State) (vs vs' : List ℕ) : Type 0 where
    pub rows : Rows z s.held vs
    pub rows' : Rows z s'.held vs'
    pub apart : Apart (whole z c) s.held vs s'.held vs'
    pub figures-below : Below s.figures
    pub figures_below' : Below s'.figures
    pub agree : Agree c ls s.figures s'.figures
    pub coins : Coins z ls s.coins
    pub coins' : Coins z ls s'.coins
    pub second : Second z (mask_for z c) ls s s'
    pub opened : plain_run ls (plain_of vs s) ≡ plain_run ls (plain_of vs' s')

  module _ (ls : List Line) (s s' : State) (vs vs' : List ℕ) where
    share-same : {r : List Line} → Both r s s' vs vs' → (a j : ℕ) → difference (get_or vs a 0) (get_or vs' a 0) ⊗ value (whole z c) j ≡ 0 → share s a j ≡ share s' a j
    share-same h a j o =
        unmoved (share s a j) (share s' a j) (difference (get_or vs a 0) (get_or vs' a 0)) (value (whole z c) j)
        (row_below z (share s a) (get_or vs a 0) (row_at h.rows a) j) (apart_at h.apart a j) o

    -- watched dealers deal the same
    secret-same : (l : Line) → Both (l ∷ ls) s s' vs vs' → (i : ℕ) → T (deals z l i) → T (c i) → secret l s i ≡ secret l s' i
    secret-same (Input u) h i d w = agree_now c (Input u) ls s.figures s'.figures h.agree i w d
    secret-same (Sum a e) h i d w = refl
    secret-same (Times k a) h i d w = refl
    secret-same (Product a e) h i d w =
        let zero : value (whole z c) i ≡ 0 = at_member (λ i. T (c i) → value (whole z c) i ≡ 0) z.n (of_kept c (λ i. value (whole z c) i ≡ 0) (members z.n) (watched-zero z fits c few)) i d w in
        let same : (b : ℕ) → share s b i ≡ share s' b i = λ b.
        share-same h b i (where_0 (difference (get_or vs b 0) (get_or vs' b 0)) (value (whole z c) i) zero) in
        ap₂ (λ (x y : ℕ). x ⊗ y) (same a) (same e)
    secret-same (Open a) h i d w = refl

    figure-same : (l : Line) → Both (l ∷ ls) s s' vs vs' → own_figure c l s ≡ own_figure c l s'
    figure-same (Input u) h =
        watched_part (c u) (get_or (s.figures u) 0 0 ∷ []) (get_or (s'.figures u) 0 0 ∷ []) λ w.
        ap (λ (x : ℕ). x ∷ []) (agree_now c (Input u) ls s.figures s'.figures h.agree u w (eqb_refl u))
    figure-same (Sum a e) h = refl
    figure-same (Times k a) h = refl
    figure-same (Product a e) h = refl
    figure-same (Open a) h = refl

    shown-same : (l : Line) → Both (l ∷ ls) s s' vs vs' → plain_opened l (plain_of vs s) ≡ plain_opened l (plain_of vs' s') → shown z l s ≡ shown z l s'
    shown-same (Input u) h o = refl
    shown-same (Sum a e) h o = refl
    shown-same (Times k a) h o = refl
    shown-same (Product a e) h o = refl
    shown-same (Open a) h o =
        let v : get_or vs a 0 ≡ get_or vs' a 0 = cc in
        ap (λ (f : ℕ → ℕ). map f (members z.n)) (fun_ext λ (j : ℕ). share-same h a j (where_same (get_or vs a 0) (get_or vs' a 0) (value (whole z c) j) v))

    module _ (l : Line) (h : Both (l ∷ ls) s s' vs vs') where
      draws : (i : ℕ) → T (deals z l i) → drawn z s' i ≡ paired_draw z (mask_for z c) l s s' i
      draws = second_draw z (mask_for z c) l ls s s' h.second h.coins

      sents : SentApart z (whole z c) l s s'
      sents = sent-differs z (mask_for z c) l ls s s' (length-mask_for z c) h.figures_below' h.coins draws

      draw-same : (i : ℕ) → T (deals z l i) → T (c i) → drawn z s i ≡ drawn z s' i
      draw-same i d w =
          sym (draws i d
          ∙ (ap (λ (k : ℕ). shifted (scaled k (mask_for z c)) (drawn z s i)) (no_difference (secret l s i) (secret l s' i) (secret-same l h i d w))
          ∙ shifted_none (mask_for z c) (drawn z s i) (below-take z.t (s.coins i) (h.coins.reduced i))))

      coins-same : own_coins z c l s ≡ own_coins z c l s'
      coins-same =
          let own : State → ℕ → List ℕ = λ r i. cond (c i) (drawn z r i) [] in
          flat_map-same (own s) (own s') (dealers z l) (each_dealer (λ i. own s i ≡ own s' i) z l λ i d. watched_part (c i) (drawn z s i) (drawn z s' i) (draw-same i d))

      sent-same : (i : ℕ) → T (deals z l i) → (j : ℕ) → value (whole z c) j ≡ 0 → sent z l s i j ≡ sent z l s' i j
      sent-same i d j o =
          let δ : ℕ = difference (secret l s i) (secret l s' i) in
          unmoved (sent z l s i j) (sent z l s' i j) δ (value (whole z c) j) (value-below (secret l s i ∷ drawn z s i) j) (sents i d j) (where_0 δ (value (whole z c) j) o)

      received-same : received z c l s ≡ received z c l s'
      received-same =
          let came : State → ℕ → List ℕ = λ r i. map (sent z l r i) (watched_in z c) in
          flat_map-same (came s) (came s') (dealers z l) (each_dealer (λ i. came s i ≡ came s' i) z l λ i d.
          map_same (sent z l s i) (sent z l s' i) (watched_in z c)
          (All-weaker (λ j. value (whole z c) j ≡ 0) (λ j. sent z l s i j ≡ sent z l s' i j) (sent-same i d) (watched_in z c) (watched-zero z fits c few)))

      opened-parts : (plain_opened l (plain_of vs s) ≡ plain_opened l (plain_of vs' s')) × (plain_run ls (plain_of (values_after l vs s) (after z l s)) ≡ plain_run ls (plain_of (values_after l vs' s') (after z l s')))
      unfolding plain_run
      opened-parts =
          split_append (plain_opened l (plain_of vs s)) (plain_opened l (plain_of vs' s'))
          (plain_run ls (plain_of (values_after l vs s) (after z l s))) (plain_run ls (plain_of (values_after l vs' s') (after z l s')))
          (opened-length l (plain_of vs s) (plain_of vs' s')) h.opened

      line_same : seen_at z c l s ≡ seen_at z c l s'
      line_same = both_appended (figure-same l h) (both_appended coins-same (both_appended received-same (shown-same l h opened-parts.0)))

      next : Both ls (after z l s) (after z l s') (values_after l vs s) (values_after l vs' s')
      next = record {
        rows = both_rows h.rows (made_rows z fits l ls s vs h.rows h.figures-below h.coins);
        rows' = both_rows h.rows' (made_rows z fits l ls s' vs' h.rows' h.figures_below' h.coins');
        apart = both_apart h.apart (made_apart z fits (whole z c) s s' vs vs' h.rows h.rows' l h.apart sents);
        figures-below = figures-below-after l s.figures h.figures-below;
        figures_below' = figures-below-after l s'.figures h.figures_below';
        agree = agree_after c l ls s.figures s'.figures h.agree;
        coins = coins_after_lem z l ls s.coins h.coins;
        coins' = coins_after_lem z l ls s'.coins h.coins';
        second = second_after z (mask_for z c) l ls s s' h.second h.coins;
        opened = opened-parts.1;
      }

  pub all_same : (ls : List Line) (s s' : State) (vs vs' : List ℕ) → Both ls s s' vs vs' → seen_by z c ls s ≡ seen_by z c ls s'
  unfolding seen_by
  all_same [] s s' vs vs' h = refl
  all_same (l ∷ ls) s s' vs vs' h =
      both_appended (line_same ls s s' vs vs' l h)
      (all_same ls (after z l s) (after z l s') (values_after l vs s) (values_after l vs' s') (next ls s s' vs vs' l h))
