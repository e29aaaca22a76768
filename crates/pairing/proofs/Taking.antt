-- What lines take of all lists, one after the other.
use Rattle.std.proofs.Common.{◌≡◌, ℕ, ◌+◌, ◌<◌, ◌≤◌, Bool, true, false, ◌&&◌, ltb, List, length, get_or, drop, Some, None, Ok, Err, Option, Result, sym, ap, ◌∙◌, subst, ap₂, arith, Bor}
use Rattle.std.proofs.lemmas.List.{at_drop_more, at_drop_all}
use Rattle.std.proofs.lemmas.Bool.{lt-ltb, le-ltb, cond-true, cond-false}
use Rattle.shares.specs.Circle.{Circle, members}
use Rattle.std.specs.Option.{ok_or}
use Rattle.sheets.specs.Drawing.{after, DrawnFrom}
use Rattle.sheets.specs.Families.{of}
use Rattle.sheets.specs.Meaning.{figures_after, has_figure}
use Rattle.std.specs.List.{list_any}
use Rattle.sheets.specs.declared.line.Line.{Line}
use Rattle.sheets.specs.declared.line.Line.TheVariants.{Input, Product}
use Rattle.sheets.specs.declared.refusal.Refusal.{Refusal}
use Rattle.sheets.specs.declared.refusal.Refusal.TheVariants.{NoFigure, NoCoins}
use Rattle.runs.specs.Run.{coins_after}
use Rattle.runs.specs.Short.{short_at, or_else}
use Rattle.runs.specs.Steps.{lacks}
use Rattle.runs.proofs.Entered.{has-enough}
use Rattle.pairing.specs.Lacking.{short_in_either, runs_out_in_either, figures_in, other_figures_in, coins_in, Taken, TakenAs, DealersAs}
use Rattle.pairing.specs.declared.lacking.Left.{Left}
use Rattle.runs.proofs.Coins.{any_no, any_yes, any_done}
use Rattle.runs.proofs.Left.{from}
use Rattle.runs.proofs.Producing.{drawn_by, drawn_more, next_undrawn}

module _ (z : Circle) (coins : ℕ → List ℕ) where
  -- after k members have dealt
  pub record Dealt (k : ℕ) (left : ℕ → List ℕ) : Type 0 where
    pub drawn : left ≡ drawn_by z.t k coins
    pub none : list_any (lacks z coins) (from k z.n) ≡ list_any (lacks z coins) (members z.n)

  -- member w is the next, and k members have dealt before
  module _ (k w : ℕ) (left : ℕ → List ℕ) (next : w ≡ k + 1) where
    own : Dealt k left → left w ≡ coins w
    own h = subst (λ (v : ℕ). left v ≡ coins v) (sym next) (ap (λ (f : ℕ → List ℕ). f (k + 1)) h.drawn ∙ next_undrawn z.t k coins)

    pub dealt_more : (left' : ℕ → List ℕ) (m : ℕ) → m ≡ w → w ≤ z.n → z.t ≤ length (left w) → left' ≡ after w z.t left → Dealt k left → Dealt m left'
    dealt_more left' m same le enough e h =
        let lt : k < z.n = omega arith in
        let has : z.t ≤ length (coins (k + 1)) = subst (λ (v : ℕ). z.t ≤ length (coins v)) next (subst (λ (l : List ℕ). z.t ≤ length l) (own h) enough) in
        subst (λ (i : ℕ). Dealt i left') (sym (same ∙ next)) (record {
          drawn = e ∙ (ap (λ (v : ℕ). after v z.t left) next ∙ (ap (after (k + 1) z.t) h.drawn ∙ drawn_more z.t k coins));
          none = any_no (lacks z coins) k z.n lt (le-ltb (length (coins (k + 1))) z.t has) ∙ h.none;
        })

    pub dealt-short : w ≤ z.n → length (left w) < z.t → Dealt k left → list_any (lacks z coins) (members z.n) ≡ true
    dealt-short le short h =
        let lt : k < z.n = omega arith in
        let lack : length (coins (k + 1)) < z.t = subst (λ (v : ℕ). length (coins v) < z.t) next (subst (λ (l : List ℕ). length l < z.t) (own h) short) in
        sym h.none ∙ any_yes (lacks z coins) k z.n lt (lt-ltb (length (coins (k + 1))) z.t lack)

  pub dealt_all : (k : ℕ) (left : ℕ → List ℕ) → k ≡ z.n → Dealt k left → (list_any (lacks z coins) (members z.n) ≡ false) × (left ≡ coins_after z (Product 0 0) coins)
  dealt_all k left same h =
      (sym h.none ∙ any_done (lacks z coins) k z.n (omega arith), h.drawn ∙ ap (λ (i : ℕ). drawn_by z.t i coins) same)

-- what is drawn, or why not
pub drawn_err : (w t count : ℕ) (before left : List (List ℕ)) (drawn : Option (Bor (List ℕ))) (why e : Refusal) → count ≡ t → DrawnFrom w count before left drawn → ok_or drawn why ≡ Err e →
    (length (of before w) < t) × (e ≡ why)
drawn_err w t count before left None why e is h told = (omega (arith, h.0), cc)
drawn_err w t count before left (Some d) why e is h told = cc

pub drawn_ok : (w t count : ℕ) (before left : List (List ℕ)) (drawn : Option (Bor (List ℕ))) (why : Refusal) (d : Bor (List ℕ)) → count ≡ t → DrawnFrom w count before left drawn → ok_or drawn why ≡ Ok d →
    (t ≤ length (of before w)) × (of left ≡ after w t (of before))
drawn_ok w t count before left None why d is h told = cc
drawn_ok w t count before left (Some r) why d is h told = (omega (arith, h.0), h.2 ∙ ap (λ (k : ℕ). after w k (of before)) is)

-- a line that takes a figure and coins of one member
both_have : (xs ys : List ℕ) → 1 ≤ length xs → 1 ≤ length ys → (ltb 0 (length xs) && ltb 0 (length ys)) ≡ true
both_have xs ys lx ly = ap₂ (λ (a b : Bool). a && b) (lt-ltb 0 (length xs) lx) (lt-ltb 0 (length ys) ly)

taken_input_at : (z : Circle) (w : ℕ) (s s₁ : Left) → 1 ≤ length (figures_in s w) → 1 ≤ length (other_figures_in s w) → z.t ≤ length (coins_in s w) → figures_in s₁ ≡ after w 1 (figures_in s) → other_figures_in s₁ ≡ after w 1 (other_figures_in s) → coins_in s₁ ≡ after w z.t (coins_in s) →
    Taken z (Input w) s s₁
taken_input_at z w s s₁ l l' lc e e' ec = record {
  enough =
      cond-true (has_figure (Input w) (figures_in s) && has_figure (Input w) (other_figures_in s)) (short_at z (Input w) (figures_in s) (coins_in s)) (Some NoFigure) (both_have (figures_in s w) (other_figures_in s w) l l')
      ∙ has-enough z w (figures_in s) (coins_in s) l lc;
  taken = e;
  taken' = e';
  drawn = ec;
}

pub taken_input : (z : Circle) (l : Line) (w : ℕ) (s s₁ : Left) → l ≡ Input w → 1 ≤ length (figures_in s w) → 1 ≤ length (other_figures_in s w) → z.t ≤ length (coins_in s w) → figures_in s₁ ≡ after w 1 (figures_in s) → other_figures_in s₁ ≡ after w 1 (other_figures_in s) → coins_in s₁ ≡ after w z.t (coins_in s) →
    Taken z l s s₁
taken_input z l w s s₁ is a a' ac e e' ec = subst (λ (x : Line). Taken z x s s₁) (sym is) (taken_input_at z w s s₁ a a' ac e e' ec)

-- a line that takes coins of all
taken_product_at : (z : Circle) (a b : ℕ) (s s₁ : Left) (r : Result (Unit {0}) Refusal) → figures_in s₁ ≡ figures_in s → other_figures_in s₁ ≡ other_figures_in s → DealersAs z (coins_in s) (coins_in s₁) r → TakenAs z (Product a b) s s₁ r
taken_product_at z a b s s₁ (Ok u) e e' h = record {
  enough = cond-false (list_any (lacks z (coins_in s)) (members z.n)) (Some NoCoins) None h.0;
  taken = e;
  taken' = e';
  drawn = h.1;
}
taken_product_at z a b s s₁ (Err r) e e' h =
    cond-true (list_any (lacks z (coins_in s)) (members z.n)) (Some NoCoins) None h.0 ∙ ap (λ (x : Refusal). Some x) (sym h.1)

pub taken_product : (z : Circle) (l : Line) (a b : ℕ) (s s₁ : Left) (r : Result (Unit {0}) Refusal) → l ≡ Product a b → figures_in s₁ ≡ figures_in s → other_figures_in s₁ ≡ other_figures_in s → DealersAs z (coins_in s) (coins_in s₁) r → TakenAs z l s s₁ r
taken_product z l a b s s₁ r is e e' h = subst (λ (x : Line). TakenAs z x s s₁ r) (sym is) (taken_product_at z a b s s₁ r e e' h)

-- line after line
abbrev pub missing_in : Circle → List Line → Left → Option Refusal
missing_in z ls s = runs_out_in_either z ls (figures_in s) (other_figures_in s) (coins_in s)

module _ (z : Circle) (ls : List Line) (start : Left) (k : ℕ) (d : Line) (s : Left) (lt : k < length ls) (h : missing_in z (drop k ls) s ≡ missing_in z ls start) where
  abbrev l : Line
  l = get_or ls k d

  abbrev rest : Option Refusal
  rest = runs_out_in_either z (drop (k + 1) ls) (figures_after l (figures_in s)) (figures_after l (other_figures_in s)) (coins_after z l (coins_in s))

  split : missing_in z (drop k ls) s ≡ or_else (short_in_either z l (figures_in s) (other_figures_in s) (coins_in s)) rest
  unfolding runs_out_in_either
  split = at_drop_more (λ (xs : List Line). missing_in z xs s) ls k d lt

  pub left_short : (e : Refusal) → short_in_either z l (figures_in s) (other_figures_in s) (coins_in s) ≡ Some e → missing_in z ls start ≡ Some e
  left_short e is = sym h ∙ (split ∙ ap (λ (o : Option Refusal). or_else o rest) is)

  pub left_more : (s₁ : Left) → Taken z l s s₁ → missing_in z (drop (k + 1) ls) s₁ ≡ missing_in z ls start
  left_more s₁ t =
      ap₂ (λ (x y : ℕ → List ℕ). runs_out_in_either z (drop (k + 1) ls) x y (coins_in s₁)) t.taken t.taken'
      ∙ (ap (runs_out_in_either z (drop (k + 1) ls) (figures_after l (figures_in s)) (figures_after l (other_figures_in s))) t.drawn
      ∙ (sym (ap (λ (o : Option Refusal). or_else o rest) t.enough) ∙ (sym split ∙ h)))

pub left_none : (z : Circle) (ls : List Line) (start : Left) (k : ℕ) (s : Left) → length ls ≤ k → missing_in z (drop k ls) s ≡ missing_in z ls start → missing_in z ls start ≡ None
unfolding runs_out_in_either
left_none z ls start k s le h = sym h ∙ at_drop_all (λ (xs : List Line). missing_in z xs s) ls k le
