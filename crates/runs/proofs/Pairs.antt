-- Two runs of which the second has the paired coins of the first: that stays so from line to line, and the other way
-- round. The paired coins are as many as the first's, below p, and the same past those that are drawn.
use Rattle.std.proofs.Common.{◌≡◌, ℕ, ◌+◌, ◌≤◌, Bool, true, false, cond, T, List, [], ◌∷◌, ◌++◌, map, length, take, drop, sym, refl, ap, ◌∙◌, subst, ap₂, zero-add, arith}
use mathlib.Core.Path.{fun_ext}
use lib.Dec.{eqb_refl}
use Rattle.std.proofs.lemmas.List.{length-append, length-take, take-append-drop, take_all, take_at, drop_at, drop-drop}
use Rattle.field.specs.Field.{◌⊕◌, neg, below}
use Rattle.field.proofs.Below.{below-append, below-take}
use Rattle.shares.specs.Circle.{Circle, m, members}
use Rattle.shares.specs.Polynomial.{share_of, scaled}
use Rattle.shares.specs.Weights.{joined}
use Rattle.sheets.specs.Lines.{deals, coins_needed}
use Rattle.sheets.specs.Meaning.{figures_after}
use Rattle.sheets.specs.declared.line.Line.{Line}
use Rattle.sheets.specs.declared.line.Line.TheVariants.{Input, Sum, Times, Product, Open}
use Rattle.runs.specs.Run.{State, secret, drawn, sent, shares, coins_after, after}
use Rattle.runs.specs.Pairing.{shifted, paired_draw, with_coins, paired_coins}
use Rattle.runs.specs.Laws.{Coins}
use Rattle.runs.proofs.Dealers.{each_dealer, coins_after_lem, drawn-length}
use Rattle.runs.proofs.Lists.{map_same}
use Rattle.runs.proofs.Shifts.{difference, length-shifted, below-shifted, shifted_back, opposite}

-- the coins play no part in what is dealt
pub secret-coins : (l : Line) (s : State) (coins : ℕ → List ℕ) (i : ℕ) → secret l (with_coins s coins) i ≡ secret l s i
secret-coins (Input w) s coins i = refl
secret-coins (Sum a e) s coins i = refl
secret-coins (Times k a) s coins i = refl
secret-coins (Product a e) s coins i = refl
secret-coins (Open a) s coins i = refl

-- and only the dealers' coins in what a line makes
pub shares-same : (z : Circle) (l : Line) (s : State) (coins coins' : ℕ → List ℕ) → ((i : ℕ) → T (deals z l i) → take z.t (coins i) ≡ take z.t (coins' i)) → shares z l (with_coins s coins) ≡ shares z l (with_coins s coins')
shares-same z (Input w) s coins coins' h = ap (λ (cs : List ℕ). share_of (secret (Input w) s w) cs ∷ []) (h w (eqb_refl w))
shares-same z (Sum a e) s coins coins' h = refl
shares-same z (Times k a) s coins coins' h = refl
shares-same z (Product a e) s coins coins' h =
    let l : Line = Product a e in
    let F : (ℕ → List ℕ) → ℕ → ℕ → ℕ = λ cs j i. sent z l (with_coins s cs) i j in
    let row : (j : ℕ) → map (F coins j) (members z.n) ≡ map (F coins' j) (members z.n) = λ j.
    map_same (F coins j) (F coins' j) (members z.n)
    (each_dealer (λ i. F coins j i ≡ F coins' j i) z l λ i d. ap (λ (cs : List ℕ). share_of (secret l s i) cs j) (h i d)) in
    ap (λ (f : ℕ → ℕ). f ∷ []) (fun_ext λ (j : ℕ). ap (joined (m z)) (row j))
shares-same z (Open a) s coins coins' h = refl

module _ (z : Circle) (g : List ℕ) where
  -- so only the second run's shares and figures matter for the paired coins
  pub paired_coins-same : (ls : List Line) (s s' : State) (coins : ℕ → List ℕ) → paired_coins z g ls s (with_coins s' coins) ≡ paired_coins z g ls s s'
  unfolding paired_coins
  paired_coins-same [] s s' coins = refl
  paired_coins-same (l ∷ ls) s s' coins =
      ap (λ (D : ℕ → List ℕ). λ (i : ℕ). cond (deals z l i) (D i) [] ++ paired_coins z g ls (after z l s) (after z l (with_coins s' D)) i)
      (fun_ext λ (i : ℕ). ap (λ (v : ℕ). shifted (scaled (v ⊕ neg (secret l s i)) g) (drawn z s i)) (secret-coins l s' coins i))

  pub tail_same : (l : Line) (ls : List Line) (s s' : State) (coins : ℕ → List ℕ) → ((i : ℕ) → T (deals z l i) → take z.t (coins i) ≡ drawn z s' i) → paired_coins z g ls s (after z l (with_coins s' coins)) ≡ paired_coins z g ls s (after z l s')
  tail_same l ls s s' coins h =
      ap (λ (rows : List (ℕ → ℕ)). paired_coins z g ls s (record { held = s'.held ++ rows; figures = figures_after l s'.figures; coins = coins_after z l coins })) (shares-same z l s' coins s'.coins h)
      ∙ paired_coins-same ls s (after z l s') (coins_after z l coins)

  -- the second run has the paired coins
  abbrev pub Second : List Line → State → State → Type 0
  Second ls s s' = s'.coins ≡ paired_coins z g ls s s'

  draw_length : (l : Line) (s s' : State) (i : ℕ) → length (paired_draw z g l s s' i) ≡ length (drawn z s i)
  draw_length l s s' i = length-shifted (scaled (difference (secret l s i) (secret l s' i)) g) (drawn z s i)

  at_dealer : (b : Bool) (D R : List ℕ) → T b → length D ≡ z.t → take z.t (cond b D [] ++ R) ≡ D
  at_dealer true D R d e = take_at D R z.t e
  at_dealer false D R d e = absurd d

  pub second_draw : (l : Line) (ls : List Line) (s s' : State) → Second (l ∷ ls) s s' → Coins z (l ∷ ls) s.coins → (i : ℕ) → T (deals z l i) → drawn z s' i ≡ paired_draw z g l s s' i
  unfolding paired_coins
  second_draw l ls s s' h coins i d =
      let D : ℕ → List ℕ = paired_draw z g l s s' in
      ap (λ (cs : ℕ → List ℕ). take z.t (cs i)) h
      ∙ at_dealer (deals z l i) (D i) (paired_coins z g ls (after z l s) (after z l (with_coins s' D)) i) d (draw_length l s s' i ∙ drawn-length z l ls s.coins coins i d)

  rest_of : (b : Bool) (D R : List ℕ) → (T b → length D ≡ z.t) → cond b (drop z.t (cond b D [] ++ R)) (cond b D [] ++ R) ≡ R
  rest_of true D R e = drop_at D R z.t (e tt)
  rest_of false D R e = refl

  pub draw_whole : (l : Line) (s s' : State) (i : ℕ) → take z.t (paired_draw z g l s s' i) ≡ paired_draw z g l s s' i
  draw_whole l s s' i =
      let e = draw_length l s s' i ∙ length-take z.t (s.coins i) in
      take_all z.t (paired_draw z g l s s' i) (omega arith)

  pub second_after : (l : Line) (ls : List Line) (s s' : State) → Second (l ∷ ls) s s' → Coins z (l ∷ ls) s.coins → Second ls (after z l s) (after z l s')
  unfolding paired_coins
  second_after l ls s s' h coins =
      let D : ℕ → List ℕ = paired_draw z g l s s' in
      let R : ℕ → List ℕ = paired_coins z g ls (after z l s) (after z l (with_coins s' D)) in
      ap (coins_after z l) h
      ∙ ((fun_ext λ (i : ℕ). rest_of (deals z l i) (D i) (R i) λ d. draw_length l s s' i ∙ drawn-length z l ls s.coins coins i d)
      ∙ tail_same l ls (after z l s) s' D λ i d. draw_whole l s s' i ∙ sym (second_draw l ls s s' h coins i d))

  put_back : (b : Bool) (D xs : List ℕ) → (T b → D ≡ take z.t xs) → xs ≡ cond b D [] ++ cond b (drop z.t xs) xs
  put_back true D xs e = sym (ap (λ (ys : List ℕ). ys ++ drop z.t xs) (e tt) ∙ take-append-drop z.t xs)
  put_back false D xs e = refl

  pub second_back : (ls : List Line) (s s' : State) → Second ls s s' → Coins z ls s.coins → Second ls s' s
  unfolding paired_coins
  second_back [] s s' h coins = sym h
  second_back (l ∷ ls) s s' h coins =
      let E : ℕ → List ℕ = paired_draw z g l s' s in
      let next = second_back ls (after z l s) (after z l s') (second_after l ls s s' h coins) (coins_after_lem z l ls s.coins coins) in
      let back : (i : ℕ) → T (deals z l i) → E i ≡ drawn z s i = λ i d.
      ap (shifted (scaled (difference (secret l s' i) (secret l s i)) g)) (second_draw l ls s s' h coins i d)
      ∙ shifted_back (difference (secret l s i) (secret l s' i)) (difference (secret l s' i) (secret l s i)) (opposite (secret l s i) (secret l s' i)) g (drawn z s i) (below-take z.t (s.coins i) (coins.reduced i)) in
      let same = next ∙ sym (tail_same l ls (after z l s') s E λ i d. draw_whole l s' s i ∙ back i d) in
      fun_ext λ (i : ℕ).
      put_back (deals z l i) (E i) (s.coins i) (back i)
      ∙ ap (λ (cs : ℕ → List ℕ). cond (deals z l i) (E i) [] ++ cs i) same

  length_parts : (b : Bool) (D R xs : List ℕ) → length D ≡ length (take z.t xs) → length R ≡ length (cond b (drop z.t xs) xs) → length (cond b D [] ++ R) ≡ length xs
  length_parts true D R xs d r =
      length-append D R
      ∙ (ap₂ (λ (x y : ℕ). x + y) d r
      ∙ (sym (length-append (take z.t xs) (drop z.t xs)) ∙ ap length (take-append-drop z.t xs)))
  length_parts false D R xs d r = r

  pub paired-length : (ls : List Line) (s s' : State) (i : ℕ) → length (paired_coins z g ls s s' i) ≡ length (s.coins i)
  unfolding paired_coins
  paired-length [] s s' i = refl
  paired-length (l ∷ ls) s s' i =
      let r : State = after z l (with_coins s' (paired_draw z g l s s')) in
      length_parts (deals z l i) (paired_draw z g l s s' i) (paired_coins z g ls (after z l s) r i) (s.coins i) (draw_length l s s' i) (paired-length ls (after z l s) r i)

  below_parts : (b : Bool) (D R : List ℕ) → T (below D) → T (below R) → T (below (cond b D [] ++ R))
  below_parts true D R d r = below-append D R d r
  below_parts false D R d r = r

  paired-below : (ls : List Line) (s s' : State) → Coins z ls s.coins → (i : ℕ) → T (below (paired_coins z g ls s s' i))
  unfolding paired_coins
  paired-below [] s s' coins i = coins.reduced i
  paired-below (l ∷ ls) s s' coins i =
      let r : State = after z l (with_coins s' (paired_draw z g l s s')) in
      below_parts (deals z l i) (paired_draw z g l s s' i) (paired_coins z g ls (after z l s) r i)
      (below-shifted (scaled (difference (secret l s i) (secret l s' i)) g) (drawn z s i) (below-take z.t (s.coins i) (coins.reduced i)))
      (paired-below ls (after z l s) r (coins_after_lem z l ls s.coins coins) i)

  undrawn_parts : (b : Bool) (k : ℕ) (D R xs : List ℕ) → (T b → length D ≡ z.t) → drop k R ≡ drop k (cond b (drop z.t xs) xs) → drop (cond b z.t 0 + k) (cond b D [] ++ R) ≡ drop (cond b z.t 0 + k) xs
  undrawn_parts true k D R xs d h =
      sym (drop-drop k z.t (D ++ R)) ∙ (ap (drop k) (drop_at D R z.t (d tt)) ∙ (h ∙ drop-drop k z.t xs))
  undrawn_parts false k D R xs d h = simp zero-add h

  pub paired_undrawn : (ls : List Line) (s s' : State) → Coins z ls s.coins → (i : ℕ) → drop (coins_needed z i ls) (paired_coins z g ls s s' i) ≡ drop (coins_needed z i ls) (s.coins i)
  unfolding paired_coins coins_needed
  paired_undrawn [] s s' coins i = refl
  paired_undrawn (l ∷ ls) s s' coins i =
      let r : State = after z l (with_coins s' (paired_draw z g l s s')) in
      let long = drawn-length z l ls s.coins coins i in
      undrawn_parts (deals z l i) (coins_needed z i ls) (paired_draw z g l s s' i) (paired_coins z g ls (after z l s) r i) (s.coins i) (λ d. draw_length l s s' i ∙ long d) (paired_undrawn ls (after z l s) r (coins_after_lem z l ls s.coins coins) i)

  pub paired_suffice : (ls : List Line) (s s' : State) → Coins z ls s.coins → Coins z ls (paired_coins z g ls s s')
  paired_suffice ls s s' coins = record {
    enough = λ i. subst (λ (n : ℕ). coins_needed z i ls ≤ n) (sym (paired-length ls s s' i)) (coins.enough i);
    reduced = paired-below ls s s' coins;
  }
