-- Layers: the order that they make is ranked; what gathering finds, and how often; the same of derived sups.
-- Assumes nothing.
use mathlib.Core.Path.{◌≡◌, refl, ◌∙◌}
use mathlib.Core.Logic.{◌↔◌}
use mathlib.Core.List.{List}
use Prim.Native.Nat.{ℕ, zero, suc, ◌+◌, ◌≤◌, ◌<◌}
use native.Mathlib.Decide.{dec_lt}
use native.Mathlib.Omega.{arith}
use lib.ListN.{length, replicate, length-append, length-replicate, get_or-eq_default}
use Rattle.order.specs.Lists.{In, Ascending, occurs}
use Rattle.order.specs.Sums.{sum}
use Rattle.order.specs.Structure.{Ranked}
use Rattle.order.proofs.Lists.{ascending_append, occurs_some, occurs_append}
use Rattle.listing.specs.Listing.{Listing}
use Rattle.listing.specs.Layers.{Layers, Topped, layers, order, gather, derived}
use Rattle.listing.proofs.Sequences.{in_replicate, replicate_ascending, occurs_same, occurs_other}

-- ---- the top

pub layers_topped : (L : Listing) → Topped (layers L)
unfolding Topped
layers_topped L r h = get_or-eq_default L.counts 0 (omega arith)

-- an element is of a rank up to the top
pub in_range : (M : Layers) → Topped M → (r a : ℕ) → a < M.size r → r ≤ M.top
unfolding Topped
in_range M t r a h = go (dec_lt M.top r)
  where
    go : Dec (M.top < r) → r ≤ M.top
    go (yes l) = absurd (omega (arith, t r l))
    go (no l) = omega arith

pub order_ranked : (M : Layers) → Topped M → Ranked (order M)
order_ranked M t = record {
  exist = λ x y u. (u.0, u.1);
  step = λ x y u. u.2;
  cap = λ x e. in_range M t x.0 x.1 e;
}

-- ---- gathering

-- lists that are alike
pub gather_same : (f g : ℕ → List ℕ) (x n : ℕ) → ((k : ℕ) → k < n → f k ≡ g k) → gather f x n ≡ gather g x n
unfolding gather
gather_same f g x zero h = refl
gather_same f g x (suc n) h = rw (gather_same f g x n (λ k l. h k (omega arith)), h n (omega arith))

module _ (f : ℕ → List ℕ) (x : ℕ) where
  gather_next : (n k : ℕ)
      → occurs k (gather f x (suc n)) ≡ occurs k (gather f x n) + occurs k (replicate (occurs x (f n)) n)
  unfolding gather
  gather_next n k = occurs_append k (gather f x n) _

  -- numbers from n on are not gathered
  gather_none : (n k : ℕ) → n ≤ k → occurs k (gather f x n) ≡ 0
  unfolding gather occurs
  gather_none zero k h = refl
  gather_none (suc n) k h =
      let o = occurs_other (occurs x (f n)) n k (λ e. omega arith) in
      omega (arith, gather_next n k, gather_none n k (omega arith))

  -- a number is gathered as often as x occurs in its list
  gather_occurs : (n k : ℕ) → k < n → occurs k (gather f x n) ≡ occurs x (f k)
  gather_occurs zero k h = absurd (omega arith)
  gather_occurs (suc n) k h = gather_next n k ∙ go (λ l. gather_occurs n k l) (dec_lt k n)
    where
      go : (k < n → occurs k (gather f x n) ≡ occurs x (f k)) → Dec (k < n)
          → occurs k (gather f x n) + occurs k (replicate (occurs x (f n)) n) ≡ occurs x (f k)
      go ih (yes l) = omega (arith, ih l, occurs_other (occurs x (f n)) n k (λ e. omega arith))
      go ih (no l) =
          let e : k ≡ n = omega arith in
          rw e (omega (arith, gather_none n n (omega arith), occurs_same (occurs x (f n)) n))

  in_gather : (n k : ℕ) → k < n → In x (f k) → In k (gather f x n)
  in_gather n k h m = (occurs_some k _).0 (omega (arith, gather_occurs n k h, (occurs_some x (f k)).1 m))

  gather_in : (n k : ℕ) → In k (gather f x n) → (k < n) × In x (f k)
  gather_in n k m = go (dec_lt k n) ((occurs_some k _).1 m)
    where
      go : Dec (k < n) → 0 < occurs k (gather f x n) → (k < n) × In x (f k)
      go (yes l) h = (l, (occurs_some x (f k)).0 (omega (arith, gather_occurs n k l)))
      go (no l) h = absurd (omega (arith, gather_none n k (omega arith)))

  -- enough for it to ascend: x occurs at most once in each list
  gather_ascending : (n : ℕ) → ((k : ℕ) → k < n → occurs x (f k) ≤ 1) → Ascending (gather f x n)
  unfolding gather Ascending
  gather_ascending zero h = tt
  gather_ascending (suc n) h =
      ascending_append (gather f x n) _ (gather_ascending n (λ k l. h k (omega arith)))
      (replicate_ascending (occurs x (f n)) n (h n (omega arith)))
      (λ a b ma mb. omega (arith, (gather_in n a ma).0, in_replicate (occurs x (f n)) n b mb))

  pub gather_length : (n : ℕ) → length (gather f x n) ≡ sum (λ k. occurs x (f k)) n
  unfolding gather sum
  gather_length zero = refl
  gather_length (suc n) =
      omega (
        arith,
        length-append (gather f x n) (replicate (occurs x (f n)) n),
        gather_length n,
        length-replicate (occurs x (f n)) n,
      )

-- ---- derived sups

module _ (M : Layers) (r a : ℕ) where
  pub derived_in : (b : ℕ) → In b (derived M r a) ↔ ((b < M.size (suc r)) × In a (M.under (suc r) b))
  unfolding derived
  derived_in b = (gather_in _ a _ b, λ h. in_gather _ a _ b h.0 h.1)

  pub derived_ascending : ((b : ℕ) → b < M.size (suc r) → occurs a (M.under (suc r) b) ≤ 1)
      → Ascending (derived M r a)
  unfolding derived
  derived_ascending h = gather_ascending _ a _ h

  pub derived_length : length (derived M r a) ≡ sum (λ b. occurs a (M.under (suc r) b)) (M.size (suc r))
  unfolding derived
  derived_length = gather_length _ a _
