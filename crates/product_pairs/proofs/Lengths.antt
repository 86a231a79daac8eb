-- Sups are as many as subs, so that all lists of sound layers with derived sups are twice as long as the subs.
-- Assumes nothing.
use mathlib.Core.Path.{◌≡◌, refl, ◌∙◌}
use mathlib.Core.List.{List, [], ◌∷◌}
use mathlib.Core.Logic.{inl}
use Prim.Native.Nat.{ℕ, suc, ◌*◌, ◌<◌}
use native.Mathlib.Nat.{not-suc-le-zero}
use native.Mathlib.Omega.{arith}
use lib.ListN.{length}
use Rattle.order.specs.Lists.{In, occurs}
use Rattle.order.specs.Sums.{sum}
use Rattle.order.proofs.Sums.{sum_zero, sum_same, sum_plus, sum_first, sum_swap}
use Rattle.listing.specs.Layers.{Layers, Topped, derived}
use Rattle.listing.proofs.Layers.{derived_length}
use Rattle.listing.proofs.Written.{total}
use Rattle.product_pairs.specs.Sound.{Sound}
use Rattle.product_pairs.specs.Lengths.{rank_subs, all_subs}
use Rattle.product_pairs.proofs.Sequences.{occurs_all}

no_member : (l : List ℕ) → ((a : ℕ) → In a l → ⊥) → length l ≡ 0
unfolding In
no_member [] h = refl
no_member (x ∷ l) h = absurd (h x (inl refl))

module _ (M : Layers) (s : Sound M) where
  pub rank_subs_lowest : rank_subs M 0 ≡ 0
  unfolding rank_subs Sound
  rank_subs_lowest = sum_zero _ (M.size 0) (λ b h. no_member _ (λ a m. absurd (not-suc-le-zero (s 0 b a h m).0)))

  -- each sub has its sup
  rank_sups : (r : ℕ) → sum (λ a. length (derived M r a)) (M.size r) ≡ rank_subs M (suc r)
  unfolding rank_subs Sound
  rank_sups r =
      sum_same _ _ (M.size r) (λ a h. derived_length M r a)
      ∙ sum_swap (λ a b. occurs a (M.under (suc r) b)) (M.size r) (M.size (suc r))
      ∙ sum_same _ _ (M.size (suc r)) (λ b h. occurs_all _ (M.size r) (λ a m. (s (suc r) b a h m).1))

pub rank_subs_above : (M : Layers) → Topped M → (r : ℕ) → M.top < r → rank_subs M r ≡ 0
unfolding rank_subs Topped sum
rank_subs_above M t r h = rw (t r h)

module _ (M : Layers) (t : Topped M) (s : Sound M) where
  all_sups : sum (λ r. sum (λ a. length (derived M r a)) (M.size r)) (suc M.top) ≡ all_subs M
  unfolding all_subs sum
  all_sups =
      sum_same _ (λ r. rank_subs M (suc r)) (suc M.top) (λ r h. rank_sups M s r)
      ∙ omega (
        arith,
        sum_first (rank_subs M) (suc M.top),
        rank_subs_lowest M s,
        rank_subs_above M t (suc M.top) (omega arith),
      )

  -- how many incidences there are when the sups are derived
  pub total_derived : total M (derived M) ≡ 2 * all_subs M
  unfolding all_subs rank_subs
  total_derived =
      sum_same _ _ (suc M.top) (λ r h. sum_plus _ _ (M.size r))
      ∙ sum_plus (rank_subs M) (λ r. sum (λ a. length (derived M r a)) (M.size r)) (suc M.top)
      ∙ omega (arith, all_sups)
