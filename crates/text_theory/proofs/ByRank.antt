-- The text of layers, rank by rank: the line of the rank, then the lines of each; and of a rank the line of its count,
-- then one for each element.
-- Assumes nothing.
use mathlib.Core.Path.{◌≡◌, ap, ◌∙◌}
use mathlib.Core.List.{List, [], ◌∷◌, ◌++◌}
use Prim.Native.Nat.{ℕ, suc}
use native.Mathlib.Omega.{arith}
use Rattle.order.specs.Sums.{sum}
use Rattle.listing.specs.Layers.{Layers}
use Rattle.listing.specs.Written.{joined}
use Rattle.listing.proofs.Written.{joined_first, joined_parts}
use Rattle.text_theory.specs.Text.{line, line_bytes, rank_key, count_key, subs_key, lines_in, line_of, rank_bytes, spot}
use Rattle.text_theory.specs.Text.{line_at, line_count, text_to, text_of}

module _ (M : Layers) where
  -- the lines behind the first
  behind : joined (λ k. line_bytes (line_at M (suc k))) (sum (lines_in M) (suc M.top))
      ≡ joined (rank_bytes M) (suc M.top)
  unfolding line_at spot rank_bytes
  behind = joined_parts (λ p. line_bytes (line_of M p)) (lines_in M) (suc M.top) (suc M.top) (omega arith)

  pub text_ranks : text_of M ≡ line_bytes (line rank_key (M.top ∷ [])) ++ joined (rank_bytes M) (suc M.top)
  unfolding text_to line_count line_at
  text_ranks =
      joined_first (λ k. line_bytes (line_at M k)) (sum (lines_in M) (suc M.top))
      ∙ ap (λ (s : List ℕ). line_bytes (line rank_key (M.top ∷ [])) ++ s) behind

  pub rank_lines : (r : ℕ) → rank_bytes M r
      ≡ line_bytes (line count_key (M.size r ∷ [])) ++ joined (λ i. line_bytes (line subs_key (M.under r i))) (M.size r)
  unfolding rank_bytes line_of
  rank_lines r = joined_first (λ i. line_bytes (line_of M (r, i))) (M.size r)
