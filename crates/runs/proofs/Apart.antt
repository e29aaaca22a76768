-- Along two runs of which the second has the paired coins, the shares of each value differ by the difference of the
-- plain values times the mask.
use Rattle.std.proofs.Common.{◌≡◌, ℕ, zero, suc, ◌-◌, T, List, [], ◌∷◌, ◌++◌, map, length, get_or, sym, ap, ◌∙◌, ap₂, arith}
use lib.Dec.{eqb_refl}
use Rattle.std.specs.List.{AllByRecursion as All}
use Rattle.field.specs.Field.{p, ◌⊕◌, ◌⊗◌}
use Rattle.field.proofs.Ring.{ring, ⊕_comm, neg_is}
use Rattle.shares.specs.Circle.{Circle, m, Fits, members}
use Rattle.shares.specs.Polynomial.{value, share_of}
use Rattle.shares.specs.Weights.{weights, dot, joined}
use Rattle.sheets.specs.Lines.{deals}
use Rattle.sheets.specs.Meaning.{plain_made}
use Rattle.sheets.specs.declared.line.Line.{Line}
use Rattle.sheets.specs.declared.line.Line.TheVariants.{Input, Sum, Times, Product, Open}
use Rattle.runs.specs.Run.{State, share, secret, drawn, sent, shares}
use Rattle.runs.specs.Pairing.{paired_draw}
use Rattle.runs.specs.Laws.{Coins}
use Rattle.runs.proofs.Dealers.{Below, each_member, drawn-length}
use Rattle.runs.proofs.Rightly.{Rows, row_at, plain_of, secret-below}
use Rattle.runs.proofs.Rows.{joined_first, products_of_rows_join}
use Rattle.runs.proofs.Shifts.{difference, dealing-shifted}

-- a row of v and a row of v'
abbrev pub Differ : List ℕ → (ℕ → ℕ) → ℕ → (ℕ → ℕ) → ℕ → Type 0
Differ G f v f' v' = (j : ℕ) → f' j ≡ f j ⊕ difference v v' ⊗ value G j

-- the rows of some values in the one run and in the other
pub data Apart (G : List ℕ) : List (ℕ → ℕ) → List ℕ → List (ℕ → ℕ) → List ℕ → Type 0 where
  none : Apart G [] [] [] []
  more : {f f' : ℕ → ℕ} {v v' : ℕ} {fs fs' : List (ℕ → ℕ)} {vs vs' : List ℕ} → Differ G f v f' v' → Apart G fs vs fs' vs' → Apart G (f ∷ fs) (v ∷ vs) (f' ∷ fs') (v' ∷ vs')

pub both_apart : {G : List ℕ} {fs fs' gs gs' : List (ℕ → ℕ)} {vs vs' ws ws' : List ℕ} → Apart G fs vs fs' vs' → Apart G gs ws gs' ws' → Apart G (fs ++ gs) (vs ++ ws) (fs' ++ gs') (vs' ++ ws')
both_apart none k = k
both_apart (more h hs) k = more h (both_apart hs k)

pub apart_at : {G : List ℕ} {fs fs' : List (ℕ → ℕ)} {vs vs' : List ℕ} → Apart G fs vs fs' vs' → (a : ℕ) → Differ G (get_or fs a (λ j. 0)) (get_or vs a 0) (get_or fs' a (λ j. 0)) (get_or vs' a 0)
apart_at none a = λ j. omega arith
apart_at (more h hs) zero = h
apart_at (more h hs) (suc a) = apart_at hs a

-- differences are linear
difference_is : (v v' : ℕ) → difference v v' ≡ (p - 1) ⊗ v ⊕ v'
difference_is v v' = ap (λ (x : ℕ). v' ⊕ x) (neg_is v) ∙ ⊕_comm v' ((p - 1) ⊗ v)

sum_step : (k v v' w w' f h x : ℕ) → f ⊕ (k ⊗ v ⊕ v') ⊗ x ⊕ (h ⊕ (k ⊗ w ⊕ w') ⊗ x) ≡ f ⊕ h ⊕ (k ⊗ (v ⊕ w) ⊕ (v' ⊕ w')) ⊗ x
sum_step k v v' w w' f h x = simp ring

multiple_step : (k c v v' f x : ℕ) → c ⊗ (f ⊕ (k ⊗ v ⊕ v') ⊗ x) ≡ c ⊗ f ⊕ (k ⊗ (c ⊗ v) ⊕ c ⊗ v') ⊗ x
multiple_step k c v v' f x = simp ring

module _ (G : List ℕ) where
  sum_differs : (f h f' h' : ℕ → ℕ) (v w v' w' : ℕ) → Differ G f v f' v' → Differ G h w h' w' → Differ G (λ j. f j ⊕ h j) (v ⊕ w) (λ j. f' j ⊕ h' j) (v' ⊕ w')
  sum_differs f h f' h' v w v' w' d e j =
      let x : ℕ = value G j in
      ap₂ (λ (a b : ℕ). a ⊕ b) (d j) (e j)
      ∙ (ap₂ (λ (a b : ℕ). f j ⊕ a ⊗ x ⊕ (h j ⊕ b ⊗ x)) (difference_is v v') (difference_is w w')
      ∙ (sum_step (p - 1) v v' w w' (f j) (h j) x
      ∙ ap (λ (a : ℕ). f j ⊕ h j ⊕ a ⊗ x) (sym (difference_is (v ⊕ w) (v' ⊕ w')))))

  multiple_differs : (c : ℕ) (f f' : ℕ → ℕ) (v v' : ℕ) → Differ G f v f' v' → Differ G (λ j. c ⊗ f j) (c ⊗ v) (λ j. c ⊗ f' j) (c ⊗ v')
  multiple_differs c f f' v v' d j =
      let x : ℕ = value G j in
      ap (λ (a : ℕ). c ⊗ a) (d j)
      ∙ (ap (λ (a : ℕ). c ⊗ (f j ⊕ a ⊗ x)) (difference_is v v')
      ∙ (multiple_step (p - 1) c v v' (f j) x
      ∙ ap (λ (a : ℕ). c ⊗ f j ⊕ a ⊗ x) (sym (difference_is (c ⊗ v) (c ⊗ v')))))

  -- weighted sums of rows
  weighted_differs : (ws xs : List ℕ) (f f' : ℕ → ℕ → ℕ) (v v' : ℕ → ℕ) → All (λ i. Differ G (f i) (v i) (f' i) (v' i)) xs → Differ G (λ j. dot ws (map (λ i. f i j) xs)) (dot ws (map v xs)) (λ j. dot ws (map (λ i. f' i j) xs)) (dot ws (map v' xs))
  unfolding dot
  weighted_differs [] xs f f' v v' h = λ j. omega arith
  weighted_differs (w ∷ ws) [] f f' v v' h = λ j. omega arith
  weighted_differs (w ∷ ws) (x ∷ xs) f f' v v' h =
      sum_differs (λ j. w ⊗ f x j) (λ j. dot ws (map (λ i. f i j) xs)) (λ j. w ⊗ f' x j) (λ j. dot ws (map (λ i. f' i j) xs))
      (w ⊗ v x) (dot ws (map v xs)) (w ⊗ v' x) (dot ws (map v' xs))
      (multiple_differs w (f x) (f' x) (v x) (v' x) h.0) (weighted_differs ws xs f f' v v' h.1)

-- what the dealers of a line send in the one run and in the other
abbrev pub SentApart : Circle → List ℕ → Line → State → State → Type 0
SentApart z G l s s' = (i : ℕ) → T (deals z l i) → Differ G (sent z l s i) (secret l s i) (sent z l s' i) (secret l s' i)

pub sent-differs : (z : Circle) (g : List ℕ) (l : Line) (ls : List Line) (s s' : State) → length g ≡ z.t → Below s'.figures → Coins z (l ∷ ls) s.coins → ((i : ℕ) → T (deals z l i) → drawn z s' i ≡ paired_draw z g l s s' i) → SentApart z (1 ∷ g) l s s'
sent-differs z g l ls s s' len figs' coins paired i d j =
    ap (λ (cs : List ℕ). share_of (secret l s' i) cs j) (paired i d)
    ∙ dealing-shifted (secret l s i) (secret l s' i) g (drawn z s i) (secret-below l s' figs' i) (len ∙ sym (drawn-length z l ls s.coins coins i d)) j

module _ (z : Circle) (fits : Fits z) (G : List ℕ) (s s' : State) (vs vs' : List ℕ) (h : Rows z s.held vs) (h' : Rows z s'.held vs') where
  -- the dealt products of two values join to the product, so their differences join to its difference
  product_differs : (a e : ℕ) → SentApart z G (Product a e) s s' → Differ G (λ j. joined (m z) (map (λ i. sent z (Product a e) s i j) (members z.n))) (get_or vs a 0 ⊗ get_or vs e 0) (λ j. joined (m z) (map (λ i. sent z (Product a e) s' i j) (members z.n))) (get_or vs' a 0 ⊗ get_or vs' e 0)
  product_differs a e sents j =
      let l : Line = Product a e in
      let rows = each_member (λ i. Differ G (sent z l s i) (secret l s i) (sent z l s' i) (secret l s' i)) z.n (m z) fits.0 sents in
      let joins : (r : State) (us : List ℕ) → Rows z r.held us → dot (weights (m z)) (map (secret l r) (members (m z))) ≡ get_or us a 0 ⊗ get_or us e 0 = λ r us k.
      products_of_rows_join z fits (share r a) (share r e) (get_or us a 0) (get_or us e 0) (row_at k a) (row_at k e) in
      joined_first z fits (λ i. sent z l s' i j)
      ∙ (weighted_differs G (weights (m z)) (members (m z)) (sent z l s) (sent z l s') (secret l s) (secret l s') rows j
      ∙ ap₂ (λ (x d : ℕ). x ⊕ d ⊗ value G j) (sym (joined_first z fits (λ i. sent z l s i j))) (ap₂ difference (joins s vs h) (joins s' vs' h')))

  pub made_apart : (l : Line) → Apart G s.held vs s'.held vs' → SentApart z G l s s' → Apart G (shares z l s) (plain_made l (plain_of vs s)) (shares z l s') (plain_made l (plain_of vs' s'))
  made_apart (Input w) k sents = more (sents w (eqb_refl w)) none
  made_apart (Sum a e) k sents =
      more (sum_differs G (share s a) (share s e) (share s' a) (share s' e) (get_or vs a 0) (get_or vs e 0) (get_or vs' a 0) (get_or vs' e 0) (apart_at k a) (apart_at k e)) none
  made_apart (Times c a) k sents =
      more (multiple_differs G c (share s a) (share s' a) (get_or vs a 0) (get_or vs' a 0) (apart_at k a)) none
  made_apart (Product a e) k sents = more (product_differs a e sents) none
  made_apart (Open a) k sents = none
