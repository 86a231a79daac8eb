-- What is bounded at a line, said of layers that end where the text has come to: cut behind an element, layers have as
-- many incidences as all elements up to it bring, and as many elements as stand there.
-- Assumes nothing.
use mathlib.Core.Path.{◌≡◌, refl, sym, ap, ◌∙◌}
use Prim.Native.Nat.{ℕ, suc, ◌+◌, ◌<◌}
use native.Mathlib.Omega.{arith}
use borrow.Author.Tests.{lt-ltb, le-ltb, eq-eqb, ne_eqb}
use lib.ListN.{length}
use Rattle.order.specs.Sums.{sum}
use Rattle.order.proofs.Sums.{sum_same}
use Rattle.listing.specs.Listing.{Limits}
use Rattle.listing.specs.Layers.{Layers, Topped, derived}
use Rattle.listing.specs.Written.{written}
use Rattle.text_theory.specs.Said.{incidences_to, bound_of}
use Rattle.text_theory.specs.Places.{cut_at}
use Rattle.text_theory.proofs.Incidences.{incidences_total, incidences_to_same}

module _ (M : Layers) (r i : ℕ) where
  -- ---- the sizes of its ranks

  pub cut_below : (q : ℕ) → q < r → (cut_at M r i).size q ≡ M.size q
  unfolding cut_at
  cut_below q h = rw (lt-ltb q r h)

  pub cut_last : (cut_at M r i).size r ≡ i
  unfolding cut_at
  cut_last = rw (le-ltb r r (omega arith), eq-eqb r r refl)

  pub cut_topped : Topped (cut_at M r i)
  unfolding cut_at Topped
  cut_topped q h = rw (le-ltb q r (omega arith), ne_eqb q r (λ e. omega arith))

  -- ---- what it has

  cut_same : incidences_to (cut_at M r i) r i ≡ incidences_to M r i
  unfolding cut_at
  cut_same = incidences_to_same (cut_at M r i) M r i cut_below (λ q b h l. refl) (λ b l. refl)

  pub cut_incidences : length (written (cut_at M r i) (derived (cut_at M r i))).inc ≡ incidences_to M r i
  unfolding cut_at
  cut_incidences =
      incidences_total (cut_at M r i) cut_topped ∙ ap (incidences_to (cut_at M r i) r) cut_last ∙ cut_same

  pub cut_elements : sum (cut_at M r i).size (suc (cut_at M r i).top) ≡ sum M.size r + i
  unfolding cut_at sum
  cut_elements = omega (arith, sum_same _ _ r cut_below, cut_last)

-- ---- what is bounded at a line

module _ (m : Limits) (M : Layers) (r : ℕ) where
  pub count_bound_is : (bound_of m M (r, 0)).amount ≡ sum (cut_at M r (M.size r)).size (suc r)
  unfolding bound_of cut_at sum
  count_bound_is = sym (cut_elements M r (M.size r))

  pub list_bound_is : (i : ℕ)
      → (bound_of m M (r, suc i)).amount ≡ length (written (cut_at M r (suc i)) (derived (cut_at M r (suc i)))).inc
  unfolding bound_of
  list_bound_is i = sym (cut_incidences M r (suc i))
