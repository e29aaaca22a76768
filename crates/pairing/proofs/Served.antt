-- The answers: each case with what stands before it.
use Rattle.std.proofs.Common.{◌≡◌, ℕ, ◌<◌, ◌≤◌, Bool, true, false, cond, ◌&&◌, ◌||◌, T, ◌⊎◌, List, Some, None, Ok, Err, Option, Result, Vec, sym, refl, ap, ◌∙◌, subst, ap₂, inl, inr, arith}
use mathlib.Core.Path.{fun_ext}
use Rattle.std.specs.declared.alloc.Global.{Global}
use Rattle.std.proofs.lemmas.Bool.{and_parts, lt-ltb, le-ltb, cond-true, cond-false}
use Rattle.field.specs.Field.{all_below}
use Rattle.shares.specs.Circle.{Circle, Fits}
use Rattle.sheets.specs.Families.{of}
use Rattle.sheets.specs.Lines.{good}
use Rattle.sheets.specs.Meaning.{result}
use Rattle.sheets.specs.declared.line.Line.{Line}
use Rattle.sheets.specs.declared.refusal.Refusal.{Refusal}
use Rattle.sheets.specs.declared.refusal.Refusal.TheVariants.{NoMemory, OutOfRange}
use Rattle.coupling.specs.Couples.{Given}
use Rattle.coupling.specs.Growing.{lists}
use Rattle.runs.specs.Laws.{Coins}
use Rattle.runs.specs.Pairing.{there}
use Rattle.runs.specs.Seen.{how_many, sees}
use Rattle.runs.proofs.Alike.{alike}
use Rattle.runs.proofs.Enough.{enough}
use Rattle.sheets.proofs.Checked.{reduced-from}
use Rattle.pairing.specs.Answers.{Serve, PairedAs, ConcludedAs}
use Rattle.pairing.specs.declared.answer.Pairing.{Pairing}
use Rattle.pairing.specs.declared.answer.Pairing.TheVariants.{Coins as PairedCoins, OpenedDiffers, FigureDiffers, NoPairing}
use Rattle.pairing.specs.declared.differing.Place.{Place}
use Rattle.pairing.specs.Differing.{differ, figure_differs}
use Rattle.pairing.specs.Lacking.{runs_out_in_either}
use Rattle.pairing.specs.Verdict.{among, unpairable, refusal, Verdict, Unpaired, Refused, Opened, first_of, verdict}
use Rattle.runs.specs.Watching.{watches}
use Rattle.pairing.proofs.Sets.{Counted}
use Rattle.pairing.proofs.Agreed.{either_none, differ_nowhere, results_level, agree}

in_range : (b : Bool) (o : Option Refusal) → cond b o (Some OutOfRange) ≡ None → (b ≡ true) × (o ≡ None)
in_range true o h = (refl, h)
in_range false o h = let z : ◌≡◌ {A = ℕ} 0 1 = cc in absurd (omega arith)

module _ (z : Circle) (ls : List Line) (watched : List ℕ) (C F F' : List (List ℕ)) where
  abbrev c : ℕ → Bool
  c = among watched

  abbrev the : Verdict
  the = verdict z ls watched C F F'

  abbrev found : Option Place
  found = figure_differs c ls (λ i. 0) (of F) (of F')

  abbrev differs : Option ℕ
  differs = differ 0 (result ls (of F)) (result ls (of F'))

  abbrev rest : Verdict
  rest = first_of (refusal z ls C F F') differs found

  module _ (set : List Bool) (count t : ℕ) (h : Counted z.n watched set count) (is : t ≡ z.t) where
    pub crowded : t < count → the ≡ Unpaired
    crowded many =
        let test : unpairable z watched ≡ true = ap₂ (λ (a b : Bool). a || b) h.in_circle (lt-ltb z.t (how_many c z.n) (omega (arith, h.counts))) in
        cond-true (unpairable z watched) Unpaired rest test

    -- the watched are few, and members
    module _ (le : count ≤ t) where
      pub few : how_many c z.n ≤ z.t
      few = omega (arith, h.counts)

      pairable : the ≡ rest
      pairable =
          let test : unpairable z watched ≡ false = ap₂ (λ (a b : Bool). a || b) h.in_circle (le-ltb z.t (how_many c z.n) few) in
          cond-false (unpairable z watched) Unpaired rest test

      pub refused : (e : Refusal) → (e ≡ NoMemory) ⊎ (refusal z ls C F F' ≡ Some e) → (e ≡ NoMemory) ⊎ (the ≡ Refused e)
      refused e (inl memory) = inl memory
      refused e (inr told) = inr (pairable ∙ ap (λ (o : Option Refusal). first_of o differs found) told)

      module _ (none : refusal z ls C F F' ≡ None) where
        pub opened-at : (k : ℕ) (xs ys : List ℕ) → xs ≡ result ls (of F) → ys ≡ result ls (of F') → Some k ≡ differ 0 xs ys → the ≡ Opened k
        opened-at k xs ys ex ey at =
            pairable ∙ ap₂ (λ (o : Option Refusal) (d : Option ℕ). first_of o d found) none (sym (at ∙ ap₂ (differ 0) ex ey))

        module _ (xs ys : List ℕ) (ex : xs ≡ result ls (of F)) (ey : ys ≡ result ls (of F')) (same : None ≡ differ 0 xs ys) where
          no_difference : differs ≡ None
          no_difference = sym (same ∙ ap₂ (differ 0) ex ey)

          pub then_at : (place : Option Place) → found ≡ place → the ≡ first_of None None place
          then_at place at =
              pairable
              ∙ (ap₂ (λ (o : Option Refusal) (d : Option ℕ). first_of o d found) none no_difference ∙ ap (first_of None None) at)

          pub results_same : result ls (of F) ≡ result ls (of F')
          results_same = differ_nowhere 0 (result ls (of F)) (result ls (of F')) (results_level ls (of F) (of F')) no_difference

-- nothing is refused: all suffices
pub given : (z : Circle) (ls : List Line) (C F F' : List (List ℕ)) → T (good z.n 0 ls) → refusal z ls C F F' ≡ None → Given z ls (of C) (of F) (of F')
given z ls C F F' well none =
    let parts = in_range (all_below F && (all_below F' && all_below C)) (runs_out_in_either z ls (of F) (of F') (of C)) none in
    let first = and_parts (all_below F) (all_below F' && all_below C) parts.0 in
    let second = and_parts (all_below F') (all_below C) first.1 in
    let both = either_none z ls (of F) (of F') (of C) parts.1 in
    let suffices = (enough z ls (of F) (of C)).0 both.0 in
    let suffices' = (enough z ls (of F') (of C)).0 both.1 in
    let small : (lists : List (List ℕ)) → all_below lists ≡ true → T (all_below lists) = λ lists e. subst (λ (b : Bool). T b) (sym e) tt in
    record {
      well = well;
      figs = record { enough = suffices.figures_enough; reduced = reduced-from F (small F first.0) };
      figs' = record { enough = suffices'.figures_enough; reduced = reduced-from F' (small F' second.0) };
      enough = record { enough = suffices.coins_enough; reduced = reduced-from C (small C second.1) };
    }

pub serve : (z : Circle) → Fits z → (ls : List Line) (c : ℕ → Bool) (C F F' paired : ℕ → List ℕ) → how_many c z.n ≤ z.t → Given z ls C F F' → result ls F ≡ result ls F' → figure_differs c ls (λ i. 0) F F' ≡ None →
    paired ≡ there z c ls F F' C → Serve z c ls C F F' paired
serve z fits ls c C F F' paired few g same none is =
    let pairing = alike z fits ls g.well c few F F' g.figs g.figs' (agree c ls (λ i. 0) F F' g.figs.enough g.figs'.enough none) same in
    record {
      is = is;
      figures_suffice = g.figs';
      coins_suffice = subst (Coins z ls) (sym is) (pairing.there_suffices C g.enough);
      back = ap (there z c ls F' F) is ∙ fun_ext (pairing.back_there C g.enough);
      same = pairing.same C g.enough ∙ ap (sees z c ls F') (sym is);
    }

-- the conclusion, with what was found before it
module _ (z : Circle) (fits : Fits z) (ls : List Line) (watched : List ℕ) (C F F' : List (List ℕ)) (set : List Bool) (count t : ℕ) (h : Counted z.n watched set count) (is : t ≡ z.t) (le : count ≤ t) (well : T (good z.n 0 ls)) (none : refusal z ls C F F' ≡ None) (xs ys : List ℕ) (ex : xs ≡ result ls (of F)) (ey : ys ≡ result ls (of F')) (same : None ≡ differ 0 xs ys) (coins : Vec (Vec ℕ Global) Global) (paired : of (lists coins) ≡ there z (watches set) ls (of F) (of F') (of C)) where
  at_end : (place : Option Place) → figure_differs (watches set) ls (λ i. 0) (of F) (of F') ≡ place → verdict z ls watched C F F' ≡ first_of None None place
  at_end place at = then_at z ls watched C F F' set count t h is le none xs ys ex ey same place (ap (λ (w : ℕ → Bool). figure_differs w ls (λ i. 0) (of F) (of F')) (sym h.is) ∙ at)

  pub concluded : (r : Result Pairing Refusal) → ConcludedAs (figure_differs (watches set) ls (λ i. 0) (of F) (of F')) coins r → PairedAs z ls watched C F F' r
  concluded (Ok (PairedCoins lent)) at =
      let c : ℕ → Bool = among watched in
      let results = results_same z ls watched C F F' set count t h is le none xs ys ex ey same in
      let nowhere : figure_differs c ls (λ i. 0) (of F) (of F') ≡ None = ap (λ (w : ℕ → Bool). figure_differs w ls (λ i. 0) (of F) (of F')) (sym h.is) ∙ at.0 in (
        at_end None at.0,
        serve z fits ls c (of C) (of F) (of F') (of (lists lent)) (few z ls watched C F F' set count t h is le) (given z ls C F F' well none) results nowhere
            (ap (λ (v : Vec (Vec ℕ Global) Global). of (lists v)) at.1 ∙ (paired ∙ ap (λ (w : ℕ → Bool). there z w ls (of F) (of F') (of C)) h.is)),
      )
  concluded (Ok (OpenedDiffers k)) at = absurd at
  concluded (Ok (FigureDiffers w k)) at = at_end (Some (record { member = w; place = k })) at
  concluded (Ok NoPairing) at = absurd at
  concluded (Err e) at = inl at
