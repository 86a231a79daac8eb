-- A listing being written into lent slices: the lists that it is to have, and how far they have been written.
--
-- starts         where the tth list begins
-- ElementsLaid   the ends of the first e elements and their subs are written, and nothing past them has changed
-- Put            what has been written for the first e elements is there for the first e', which end at place `at`
use Rattle.std.specs.Prelude.{◌≡◌, List, ℕ, suc, ◌+◌, ◌*◌, ◌≤◌, ◌<◌, length, get_or}
use Rattle.order.specs.Sums.{sum}
use Rattle.listing.specs.Written.{lengths}

abbrev pub starts : (ℕ → List ℕ) → ℕ → ℕ
starts lists t = sum (lengths lists) t

pub record ElementsLaid (lists : ℕ → List ℕ) (e : ℕ) (ends₀ inc₀ ends inc : List ℕ) : Type 0 where
  pub ends_length : length ends ≡ length ends₀
  pub ends_done : (t : ℕ) → t < 2 * e → get_or ends t 0 ≡ starts lists (suc t)
  pub ends_rest : (t : ℕ) → 2 * e ≤ t → get_or ends t 0 ≡ get_or ends₀ t 0
  pub inc_length : length inc ≡ length inc₀
  pub subs_done : (k j : ℕ) → k < e → j < length (lists (2 * k))
      → get_or inc (starts lists (2 * k) + j) 0 ≡ get_or (lists (2 * k)) j 0
  pub inc_rest : (p : ℕ) → starts lists (2 * e) ≤ p → get_or inc p 0 ≡ get_or inc₀ p 0

pub record Put (lists : ℕ → List ℕ) (e e' at : ℕ) (ends inc ends' inc' : List ℕ) : Type 0 where
  pub place : at ≡ starts lists (2 * e')
  pub ends_length : length ends' ≡ length ends
  pub inc_length : length inc' ≡ length inc
  pub laid : (ends₀ inc₀ : List ℕ) → ElementsLaid lists e ends₀ inc₀ ends inc
      → ElementsLaid lists e' ends₀ inc₀ ends' inc'
