-- The numbers of layers noted down flat, as they are met from the first line of their text to the last.
--
-- subs_to   how many subs all elements have before element i of rank r
-- Noted     three lists have them: the count of each rank, how many subs each element has, and all subs
use Rattle.std.specs.Prelude.{◌≡◌, List, ℕ, suc, ◌+◌, ◌≤◌, ◌<◌, length, get_or}
use Rattle.order.specs.Sums.{sum}
use Rattle.listing.specs.Layers.{Layers}

unfoldable pub subs_to : Layers → ℕ → ℕ → ℕ
subs_to M r i = sum (λ q. sum (λ k. length (M.under q k)) (M.size q)) r + sum (λ k. length (M.under r k)) i

pub record Noted (M : Layers) (counts many subs : List ℕ) : Type 0 where
  pub ranks : suc M.top ≤ length counts
  pub count : (r : ℕ) → r ≤ M.top → get_or counts r 0 ≡ M.size r
  pub elements : sum M.size (suc M.top) ≤ length many
  pub each : (r i : ℕ) → i < M.size r → get_or many (sum M.size r + i) 0 ≡ length (M.under r i)
  pub room : subs_to M M.top (M.size M.top) ≤ length subs
  pub sub : (r i j : ℕ) → i < M.size r → j < length (M.under r i)
      → get_or subs (subs_to M r i + j) 0 ≡ get_or (M.under r i) j 0
