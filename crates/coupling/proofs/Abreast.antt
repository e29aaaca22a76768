-- One line of both runs: the coins that the second is lent are the paired ones.
use Rattle.std.proofs.Common.{◌≡◌, ℕ, zero, suc, ◌+◌, ◌<◌, ◌≤◌, Bool, true, false, cond, T, ltb, leb, ◌⊎◌, List, [], ◌++◌, map, length, get_or, take, Some, None, Ok, Err, Option, Result, sym, refl, ap, ◌∙◌, subst, ap₂, inl, inr, ⊎_elim, arith, eqb→eq, ltb→lt, leb→le}
use Rattle.std.proofs.lemmas.List.{get_or_past, length-take-le}
use Rattle.std.proofs.lemmas.Bool.{cases_lt}
use Rattle.field.specs.Field.{below, all_below}
use Rattle.field.proofs.Below.{both_parts, below-take}
use Rattle.shares.specs.Circle.{Circle}
use Rattle.shares.specs.Polynomial.{scaled}
use Rattle.sheets.specs.Families.{of}
use Rattle.sheets.proofs.Checked.{below-from-reduced}
use Rattle.sheets.specs.Lines.{good_line, gives, deals}
use Rattle.sheets.specs.declared.line.Line.{Line}
use Rattle.sheets.specs.declared.line.Line.TheVariants.{Input, Sum, Times, Product, Open}
use Rattle.sheets.specs.declared.refusal.Refusal.{Refusal}
use Rattle.sheets.specs.declared.refusal.Refusal.TheVariants.{NoMemory}
use Rattle.runs.specs.Row.{row_of}
use Rattle.runs.specs.Pairing.{shifted, paired_draw, with_coins}
use Rattle.runs.specs.Run.{State, opened, shares, secret, drawn}
use Rattle.runs.specs.Short.{short_at}
use Rattle.runs.proofs.Enough.{short-from}
use Rattle.runs.proofs.Pairs.{secret-coins, shares-same}
use Rattle.runs.proofs.Shifts.{difference, length-shifted}
use Rattle.runs.specs.Steps.{Reduced, in_state, Done, DoneAs}
use Rattle.coupling.specs.Growing.{Grown}
use Rattle.coupling.specs.Sides.{Side, DrawnAs, LentAs}
use Rattle.coupling.specs.Steps.{Steady, BothAs}
use Rattle.coupling.proofs.Draws.{below_at}

-- who deals for a good line is a member
pub deals-member : (z : Circle) (v : ℕ) (l : Line) (i : ℕ) → T (good_line z.n v l) → T (deals z l i) → (0 < i) × (i ≤ z.n)
deals-member z v (Input w) i good d =
    let e : i ≡ w = eqb→eq i w d in
    let b = both_parts (ltb 0 w) (leb w z.n) good in
    (subst (λ (k : ℕ). 0 < k) (sym e) (ltb→lt 0 w b.0), subst (λ (k : ℕ). k ≤ z.n) (sym e) (leb→le w z.n b.1))
deals-member z v (Sum a e) i good d = absurd d
deals-member z v (Times k a) i good d = absurd d
deals-member z v (Product a e) i good d =
    let b = both_parts (ltb 0 i) (leb i z.n) d in (ltb→lt 0 i b.0, leb→le i z.n b.1)
deals-member z v (Open a) i good d = absurd d

-- what a line opens does not depend on coins
pub opened-coins : (z : Circle) (l : Line) (s : State) (coins : ℕ → List ℕ) → opened z l (with_coins s coins) ≡ opened z l s
opened-coins z (Input w) s coins = refl
opened-coins z (Sum a e) s coins = refl
opened-coins z (Times k a) s coins = refl
opened-coins z (Product a e) s coins = refl
opened-coins z (Open a) s coins = refl

-- nor do the paired coins depend on those of the second run
pub draw_coins : (z : Circle) (g : List ℕ) (l : Line) (s s' : State) (coins : ℕ → List ℕ) (i : ℕ) → paired_draw z g l s (with_coins s' coins) i ≡ paired_draw z g l s s' i
draw_coins z g l s s' coins i = ap (λ (v : ℕ). shifted (scaled (difference (secret l s i) v) g) (drawn z s i)) (secret-coins l s' coins i)

-- lists that are all below p
lent_below : (z : Circle) (l : Line) (draws lent : List (List ℕ)) → length lent ≡ 15 → T (all_below draws) → LentAs z l draws lent → (k : ℕ) → T (below (get_or lent k []))
lent_below z l draws lent len small h k =
    ⊎_elim
    (λ lt. subst (λ (xs : List ℕ). T (below xs)) (sym (h k lt)) (below-take (cond (deals z l (k + 1)) z.t 0) (get_or draws k []) (below_at draws k small)))
    (λ le. subst (λ (xs : List ℕ). T (below xs)) (sym (get_or_past lent k [] (omega arith))) tt)
    (cases_lt k 15)

pub lent_reduced : (z : Circle) (l : Line) (draws lent : List (List ℕ)) → length lent ≡ 15 → T (all_below draws) → LentAs z l draws lent → Reduced (of lent)
lent_reduced z l draws lent len small h zero = tt
lent_reduced z l draws lent len small h (suc k) = lent_below z l draws lent len small h k

pub lent_small : (z : Circle) (l : Line) (draws lent : List (List ℕ)) → length lent ≡ 15 → T (all_below draws) → LentAs z l draws lent → T (all_below lent)
lent_small z l draws lent len small h = below-from-reduced lent (lent_reduced z l draws lent len small h)

-- a refusal of a line that can be done is for want of memory
pub only_memory : (e : Refusal) (o : Option Refusal) → o ≡ None → (e ≡ NoMemory) ⊎ (o ≡ Some e) → e ≡ NoMemory
only_memory e o none (inl h) = h
only_memory e o none (inr h) = let z : ◌≡◌ {A = ℕ} 0 1 = cc in absurd (omega arith)

pub first_steady : (z : Circle) (l : Line) (coins figures : ℕ → List ℕ) (rows : List (List ℕ)) (figures' : ℕ → List ℕ) (rows' : List (List ℕ)) → Steady z l coins figures rows figures' rows' → short_at z l figures coins ≡ None
first_steady z l coins figures rows figures' rows' h = short-from z l figures coins (record { giver = h.given; dealer = h.drawable.enough })

at_deal : (b : Bool) (t : ℕ) (xs D : List ℕ) → (T b → take t xs ≡ D) → take (cond b t 0) xs ≡ cond b D []
at_deal true t xs D h = h tt
at_deal false t xs D h = refl

no_deal : (b : Bool) (D : List ℕ) → (T b → ⊥) → [] ≡ cond b D []
no_deal true D h = absurd (h tt)
no_deal false D h = refl

at_dealer : (b : Bool) (D : List ℕ) → T b → cond b D [] ≡ D
at_dealer true D d = refl
at_dealer false D d = absurd d

module _ (z : Circle) (g : List ℕ) (l : Line) (s s' : State) (v : ℕ) (good : T (good_line z.n v l)) (few : z.n ≤ 15) (draws lent : List (List ℕ)) (len : length lent ≡ 15) (is : LentAs z l draws lent) (drew : DrawnAs z g l s s' draws) where
  abbrev D : ℕ → List ℕ
  D = paired_draw z g l s s'

  pub lent_at : (k : ℕ) → get_or lent k [] ≡ cond (deals z l (k + 1)) (D (k + 1)) []
  lent_at k =
      ⊎_elim
      (λ lt. is k lt ∙ at_deal (deals z l (k + 1)) z.t (get_or draws k []) (D (k + 1)) (λ d. let m = deals-member z v l (k + 1) good d in drew k (omega arith) d))
      (λ le. get_or_past lent k [] (omega arith) ∙ no_deal (deals z l (k + 1)) (D (k + 1)) (λ d. let m = deals-member z v l (k + 1) good d in omega arith))
      (cases_lt k 15)

  pub lent_to : (i : ℕ) → T (deals z l i) → of lent i ≡ D i
  lent_to zero d = let m = deals-member z v l 0 good d in absurd (omega arith)
  lent_to (suc k) d =
      let e : k + 1 ≡ suc k = omega arith in
      lent_at k ∙ (ap (λ (i : ℕ). cond (deals z l i) (D i) []) e ∙ at_dealer (deals z l (suc k)) (D (suc k)) d)

  module _ (enough : (i : ℕ) → T (deals z l i) → z.t ≤ length (s.coins i)) where
    draw_long : (i : ℕ) → T (deals z l i) → length (D i) ≡ z.t
    draw_long i d = length-shifted (scaled (difference (secret l s i) (secret l s' i)) g) (drawn z s i) ∙ length-take-le z.t (s.coins i) (enough i d)

    pub second_steady : (figures' : ℕ → List ℕ) → ((i : ℕ) → T (gives l i) → 1 ≤ length (figures' i)) → short_at z l figures' (of lent) ≡ None
    second_steady figures' given = short-from z l figures' (of lent) (record {
      giver = given;
      dealer = λ i d. let e = ap length (lent_to i d) ∙ draw_long i d in omega (arith, e);
    })

    pub second_shares : shares z l (with_coins s' (of lent)) ≡ shares z l (with_coins s' D)
    second_shares = shares-same z l s' (of lent) D (λ i d. ap (take z.t) (lent_to i d))

-- the two lines together
module _ (z : Circle) (c : ℕ → Bool) (g : List ℕ) (l : Line) (s s' : State) (coins figures : ℕ → List ℕ) (rows : List (List ℕ)) (figures' : ℕ → List ℕ) (rows' : List (List ℕ))
    (ec : coins ≡ s.coins) (h : Side s rows figures) (h' : Side s' rows' figures') (steady : Steady z l coins figures rows figures' rows') (few : z.n ≤ 15)
    (draws lent : List (List ℕ)) (len : length lent ≡ 15) (is : LentAs z l draws lent) (drew : DrawnAs z g l s s' draws) where
  first_state : in_state s.held figures coins ≡ s
  first_state = ap₂ (λ (f k : ℕ → List ℕ). in_state s.held f k) h.same_figures ec

  second_state : in_state s'.held figures' (of lent) ≡ with_coins s' (of lent)
  second_state = ap (λ (f : ℕ → List ℕ). in_state s'.held f (of lent)) h'.same_figures

  abbrev good : T (good_line z.n (length rows) l)
  good = steady.drawable.good

  enough : (i : ℕ) → T (deals z l i) → z.t ≤ length (s.coins i)
  enough i d = subst (λ (f : ℕ → List ℕ). z.t ≤ length (f i)) ec (steady.drawable.enough i d)

  module _ (rows₁ : List (List ℕ)) (figures₁ coins₁ : ℕ → List ℕ) (shown shown₁ seen seen₁ : List ℕ) (rows'₁ : List (List ℕ)) (figures'₁ coins'₁ : ℕ → List ℕ) (shown' shown'₁ seen' seen'₁ : List ℕ) (paired paired₁ : List (List ℕ)) where
    both_at : (r : Result (Unit {0}) Refusal) → Done z c l s rows₁ figures₁ coins₁ shown shown₁ seen seen₁ → DoneAs z c l (with_coins s' (of lent)) rows'₁ figures'₁ coins'₁ shown' shown'₁ seen' seen'₁ r → Grown paired lent paired₁ →
        BothAs z g l s s' coins₁ figures₁ rows₁ shown shown₁ figures'₁ rows'₁ shown' shown'₁ paired paired₁ r
    both_at (Ok u) done done' grown = record {
      held = done.held;
      taken = done.taken;
      drawn = done.moved;
      opens = done.opens;
      held' = done'.held ∙ ap (λ (fs : List (ℕ → ℕ)). map row_of (s'.held ++ fs)) (second_shares z g l s s' (length rows) good few draws lent len is drew enough);
      taken' = done'.taken;
      opens' = done'.opens ∙ ap (λ (xs : List ℕ). shown' ++ xs) (opened-coins z l s' (of lent));
      as_many = grown.as_many;
      noted = λ k lt. grown.longer k lt ∙ ap (λ (xs : List ℕ). get_or paired k [] ++ xs) (lent_at z g l s s' (length rows) good few draws lent len is drew k);
    }
    both_at (Err e) done done' grown =
        only_memory e (short_at z l s'.figures (of lent))
        (second_steady z g l s s' (length rows) good few draws lent len is drew enough s'.figures (subst (λ (f : ℕ → List ℕ). (i : ℕ) → T (gives l i) → 1 ≤ length (f i)) h'.same_figures steady.given')) done'

    pub both : (r : Result (Unit {0}) Refusal) → Done z c l (in_state s.held figures coins) rows₁ figures₁ coins₁ shown shown₁ seen seen₁ → DoneAs z c l (in_state s'.held figures' (of lent)) rows'₁ figures'₁ coins'₁ shown' shown'₁ seen' seen'₁ r → Grown paired lent paired₁ →
        BothAs z g l s s' coins₁ figures₁ rows₁ shown shown₁ figures'₁ rows'₁ shown' shown'₁ paired paired₁ r
    both r done done' grown =
        both_at r
        (subst (λ (x : State). Done z c l x rows₁ figures₁ coins₁ shown shown₁ seen seen₁) first_state done)
        (subst (λ (x : State). DoneAs z c l x rows'₁ figures'₁ coins'₁ shown' shown'₁ seen' seen'₁ r) second_state done') grown
