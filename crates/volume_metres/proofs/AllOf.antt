-- A test of each number of a list, and of each place of it.
-- Assumes nothing.
use Rattle.std.proofs.Common.{◌≡◌, ℕ, zero, suc, ◌≤◌, ◌&&◌, List, length, get_or, take, refl, ap, ◌∙◌, arith}
use native.Mathlib.Numerals.{add-one}
use lib.Ieee.{Float, nan}
use lib.Seq.{take_all}
use Rattle.std.specs.List.{list_all}
use Rattle.std.proofs.lemmas.List.Folds.{list_all_more}
use Rattle.order.specs.Tests.{every}
use Rattle.volume_metres.specs.Whole.{coordinate, all_coordinates}

module _ (xs : List Float) where
  each_place : (n : ℕ) → n ≤ length xs
      → list_all coordinate (take n xs) ≡ every (λ k. coordinate (get_or xs k nan)) n
  unfolding every
  each_place zero h = refl
  each_place (suc n) h =
      let more = rw add-one at (list_all_more coordinate xs n nan (omega arith)) in
      more ∙ ap (λ b. b && coordinate (get_or xs n nan)) (each_place n (omega arith))

  pub all_are : list_all coordinate xs ≡ all_coordinates xs
  unfolding all_coordinates
  all_are = rw (take_all (length xs) xs (omega arith)) at (each_place (length xs) (omega arith))
