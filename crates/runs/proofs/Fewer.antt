-- FEWER. What fewer watched members see of a line is part of what more see of it, in places that the line and those who
-- watch fix.
use Rattle.std.proofs.Common.{◌≡◌, ℕ, Bool, true, false, cond, T, List, [], ◌∷◌, ◌++◌, map, length, get_or, filter, sym, refl, ◌∙◌, append_assoc}
use Rattle.std.proofs.ByRecursion.{All-weaker}
use Rattle.std.proofs.lemmas.List.{length-map}
use Rattle.shares.specs.Circle.{Circle, members}
use Rattle.sheets.specs.declared.line.Line.{Line}
use Rattle.sheets.specs.declared.line.Line.TheVariants.{Input, Sum, Times, Product, Open}
use Rattle.runs.specs.Run.{State, begun, share, drawn, sent, after}
use Rattle.runs.specs.Seen.{watched_in, dealers, own_figure, own_coins, received, shown, seen_at, seen_by}
use Rattle.runs.specs.Laws.{Coins, Fewer}
use Rattle.runs.proofs.Dealers.{each_dealer, coins_after_lem, drawn-length}
use Rattle.runs.proofs.Lists.{both_appended, map_same, map_parts, flat_map-same, split_append, split_flat_map, of_kept, to_kept}

length_part : (b : Bool) (xs ys : List ℕ) → length xs ≡ length ys → length (cond b xs []) ≡ length (cond b ys [])
length_part true xs ys e = e
length_part false xs ys e = refl

fewer_part : (b d : Bool) (xs ys : List ℕ) → (T b → T d) → cond d xs [] ≡ cond d ys [] → cond b xs [] ≡ cond b ys []
fewer_part true true xs ys w e = e
fewer_part true false xs ys w e = absurd (w tt)
fewer_part false true xs ys w e = refl
fewer_part false false xs ys w e = refl

figure-length : (d : ℕ → Bool) (l : Line) (s s' : State) → length (own_figure d l s) ≡ length (own_figure d l s')
figure-length d (Input w) s s' = length_part (d w) (get_or (s.figures w) 0 0 ∷ []) (get_or (s'.figures w) 0 0 ∷ []) refl
figure-length d (Sum a e) s s' = refl
figure-length d (Times k a) s s' = refl
figure-length d (Product a e) s s' = refl
figure-length d (Open a) s s' = refl

length_maps : (f g : ℕ → ℕ) (xs : List ℕ) → length (map f xs) ≡ length (map g xs)
length_maps f g xs = length-map xs f ∙ sym (length-map xs g)

shown-length : (z : Circle) (l : Line) (s s' : State) → length (shown z l s) ≡ length (shown z l s')
shown-length z (Input w) s s' = refl
shown-length z (Sum a e) s s' = refl
shown-length z (Times k a) s s' = refl
shown-length z (Product a e) s s' = refl
shown-length z (Open a) s s' = length_maps (share s a) (share s' a) (members z.n)

module _ (c d : ℕ → Bool) (within : (i : ℕ) → T (c i) → T (d i)) where
  figure_fewer : (l : Line) (s s' : State) → own_figure d l s ≡ own_figure d l s' → own_figure c l s ≡ own_figure c l s'
  figure_fewer (Input w) s s' e = fewer_part (c w) (d w) (get_or (s.figures w) 0 0 ∷ []) (get_or (s'.figures w) 0 0 ∷ []) (within w) e
  figure_fewer (Sum a e) s s' h = refl
  figure_fewer (Times k a) s s' h = refl
  figure_fewer (Product a e) s s' h = refl
  figure_fewer (Open a) s s' h = refl

  map_fewer : (f g : ℕ → ℕ) (xs : List ℕ) → map f (filter d xs) ≡ map g (filter d xs) → map f (filter c xs) ≡ map g (filter c xs)
  map_fewer f g xs e =
      let P : ℕ → Type 0 = λ x. f x ≡ g x in
      map_same f g (filter c xs)
      (to_kept c P xs (All-weaker (λ x. T (d x) → P x) (λ x. T (c x) → P x) (λ x h w. h (within x w)) xs
      (of_kept d P xs (map_parts f g (filter d xs) e))))

  module _ (z : Circle) (l : Line) (ls : List Line) (s s' : State) (coins : Coins z (l ∷ ls) s.coins) (coins' : Coins z (l ∷ ls) s'.coins) where
    line_fewer : (r r' : List ℕ) → seen_at z d l s ++ r ≡ seen_at z d l s' ++ r' → (seen_at z c l s ≡ seen_at z c l s') × (r ≡ r')
    line_fewer r r' e =
        let C : (ℕ → Bool) → State → ℕ → List ℕ = λ b q i. cond (b i) (drawn z q i) [] in
        let R : (ℕ → Bool) → State → ℕ → List ℕ = λ b q i. map (sent z l q i) (watched_in z b) in
        let coins-lengths = each_dealer (λ i. length (C d s i) ≡ length (C d s' i)) z l λ i t.
        length_part (d i) (drawn z s i) (drawn z s' i) (drawn-length z l ls s.coins coins i t ∙ sym (drawn-length z l ls s'.coins coins' i t)) in
        let received-lengths = each_dealer (λ i. length (R d s i) ≡ length (R d s' i)) z l λ i t.
        length_maps (sent z l s i) (sent z l s' i) (watched_in z d) in
        let one = split_append (own_figure d l s) (own_figure d l s') (own_coins z d l s ++ (received z d l s ++ (shown z l s ++ r))) (own_coins z d l s' ++ (received z d l s' ++ (shown z l s' ++ r'))) (figure-length d l s s') (simp append_assoc at e) in
        let two = split_flat_map (C d s) (C d s') (dealers z l) (received z d l s ++ (shown z l s ++ r)) (received z d l s' ++ (shown z l s' ++ r')) coins-lengths one.1 in
        let three = split_flat_map (R d s) (R d s') (dealers z l) (shown z l s ++ r) (shown z l s' ++ r') received-lengths two.1 in
        let four = split_append (shown z l s) (shown z l s') r r' (shown-length z l s s') three.1 in
        let own = All-weaker (λ i. C d s i ≡ C d s' i) (λ i. C c s i ≡ C c s' i) (λ i. fewer_part (c i) (d i) (drawn z s i) (drawn z s' i) (within i)) (dealers z l) two.0 in
        let others = All-weaker (λ i. R d s i ≡ R d s' i) (λ i. R c s i ≡ R c s' i) (λ i. map_fewer (sent z l s i) (sent z l s' i) (members z.n)) (dealers z l) three.0 in (
          both_appended (figure_fewer l s s' one.0)
              (both_appended (flat_map-same (C c s) (C c s') (dealers z l) own)
              (both_appended (flat_map-same (R c s) (R c s') (dealers z l) others) four.0)),
          four.1,
        )

  all_fewer : (z : Circle) (ls : List Line) (s s' : State) → Coins z ls s.coins → Coins z ls s'.coins → seen_by z d ls s ≡ seen_by z d ls s' → seen_by z c ls s ≡ seen_by z c ls s'
  unfolding seen_by
  all_fewer z [] s s' coins coins' e = refl
  all_fewer z (l ∷ ls) s s' coins coins' e =
      let line = line_fewer z l ls s s' coins coins' (seen_by z d ls (after z l s)) (seen_by z d ls (after z l s')) e in
      both_appended line.0
      (all_fewer z ls (after z l s) (after z l s') (coins_after_lem z l ls s.coins coins) (coins_after_lem z l ls s'.coins coins') line.1)

pub fewer : Fewer
fewer z c d within ls figures figures' coins coins' figs figs' enough enough' e =
    all_fewer c d within z ls (begun figures coins) (begun figures' coins') enough enough' e
