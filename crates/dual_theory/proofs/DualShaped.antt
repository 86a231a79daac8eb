-- The dual of a shaped listing is shaped; and the dual of a dual is the listing itself, number by number.
-- Assumes nothing.
use mathlib.Core.Path.{◌≡◌, sym, ◌∙◌}
use native.Mathlib.Omega.{arith}
use Rattle.listing.specs.Listing.{Listing, Limits}
use Rattle.listing.specs.Shape.{Shaped}
use Rattle.listing.proofs.ShapeExact.{shaped_ranks}
use Rattle.listing.proofs.Written.{written_ends_length, written_inc_length, written_shaped}
use Rattle.dual_theory.specs.Dual.{dual_layers, dual_over, dual_of}
use Rattle.dual_theory.proofs.Duals.{dual_is, Dual-back, one_dual}
use Rattle.dual_theory.proofs.DualLists.{dual_topped, dual_ends_length, dual_inc_length}

module _ {m : Limits} (L : Listing) (S : Shaped m L) where
  pub dual_shaped : Shaped m (dual_of L)
  unfolding dual_of
  dual_shaped =
      let M = dual_layers L in
      let over = dual_over L in
      let e = sym (written_ends_length M over) ∙ dual_ends_length L S in
      let i = sym (written_inc_length M over) ∙ dual_inc_length L S in
      written_shaped M over (dual_topped L) m (omega (arith, shaped_ranks L S, S.few_ranks))
      (omega (arith, e, S.two_ends_each, S.few_elements)) (omega (arith, i, S.few_incidences))

pub dual_dual : {m : Limits} (L : Listing) → Shaped m L → dual_of (dual_of L) ≡ L
dual_dual L S =
    let D = dual_of L in
    one_dual (dual_shaped D (dual_shaped L S)) S (dual_is D) (Dual-back (dual_is L))
