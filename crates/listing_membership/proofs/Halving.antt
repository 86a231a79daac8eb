-- What the library's halving answers about a list: where it finds a number, that stands there, and in a list that
-- ascends it finds each number that is there.
-- Assumes nothing.
use mathlib.Core.Path.{◌≡◌, sym}
use mathlib.Core.Bool.{true, false, true≢false}
use mathlib.Core.List.{List}
use Prim.Native.Nat.{ℕ, ◌≤◌, ◌<◌}
use native.Mathlib.Decide.{dec_lt}
use native.Mathlib.Omega.{arith}
use lib.ListN.{length, get_or}
use Rattle.std.specs.Prelude.{Result, Ok, Err, is_ok}
use Rattle.std.specs.List.Sorted.{IsSearchInRange, IsBinarySearchResult}
use Rattle.std.specs.Ordering.{nat_cmp}
use Rattle.std.proofs.lemmas.Map.Lookups.{exact_unsigned}
use Rattle.std.proofs.lemmas.List.Sorted.{searched}
use Rattle.order.specs.Lists.{has, Ascending}
use Rattle.order.proofs.Lists.{has_no}
use Rattle.order.proofs.Positions.{has_at, at_in, ascending_back}

rises : (l : List ℕ) → Ascending l → (i j : ℕ) → i ≤ j → j < length l → get_or l i 0 ≤ get_or l j 0
rises l a i j w h = go (dec_lt (get_or l j 0) (get_or l i 0))
  where
    go : Dec (get_or l j 0 < get_or l i 0) → get_or l i 0 ≤ get_or l j 0
    go (yes e) = absurd (omega (arith, ascending_back l a j i h e))
    go (no n) = omega (arith, n)

module _ (l : List ℕ) (x : ℕ) where
  missing : (i : ℕ) → IsBinarySearchResult (λ y. nat_cmp y x) l (Err i) → Ascending l → has l x ≡ false
  missing i p a =
      let s = searched l x (Err i) p (rises l a) in
      (has_no x l).1 (λ m. let r = at_in l x m in absurd (grind (arith, s.1 r.0, s.2 r.0, r.1, r.2)))

  pub halved : (r : Result ℕ ℕ) → IsSearchInRange r (length l) → IsBinarySearchResult (λ y. nat_cmp y x) l r
      → (is_ok r ≡ true → has l x ≡ true) × (Ascending l → is_ok r ≡ has l x)
  halved (Ok i) h p = let f = has_at l i h (exact_unsigned _ _ (p 0)) in (λ t. f, λ a. sym f)
  halved (Err i) h p = (λ t. absurd (true≢false (sym t)), λ a. sym (missing i p a))
