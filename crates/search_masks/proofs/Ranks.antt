-- The ranks that a mask asks for: they ascend, they are exactly the set bits, and the first is the lowest set bit.
-- Assumes nothing.
use mathlib.Core.Path.{◌≡◌, refl, sym, ap, ap₂, ◌∙◌}
use mathlib.Core.Bool.{Bool, true, false, true≢false, cond, ◌&&◌, ◌||◌}
use mathlib.Core.List.{[], ◌∷◌}
use mathlib.Core.Logic.{◌↔◌, inl, inr}
use Prim.Native.Nat.{ℕ, zero, suc, ◌+◌, ◌-◌, ◌*◌, ◌/◌, ◌%◌, ◌^◌, ◌≤◌, ◌<◌}
use native.Mathlib.Nat.{div-one, div-div-eq-div-mul, pow-suc, pow-succ', mod-lt}
use native.Mathlib.Omega.{arith}
use borrow.Author.Tests.{eq-eqb, ne_eqb, eqb-true, ltb-true, lt-ltb}
use lib.Dec.{eqb, ltb}
use lib.Count.{count_trailing_zeros, under}
use Rattle.std.proofs.Math.Bool.{and_assoc, and-true}
use Rattle.std.specs.List.{list_all, range_with_len}
use Rattle.order.specs.Lists.{In, Ascending}
use Rattle.order.proofs.Tests.{and_true}
use Rattle.order.specs.Tests.{every}
use Rattle.order.proofs.Tests.{every_stop}
use Rattle.listing.specs.Listing.{width, limits}
use Rattle.search_masks.specs.Masks.{bit_at, InMask, InnerRanks, mask_fits, bits_in, ranks_of}
use Rattle.search_masks.proofs.Low.{low_fits}

-- ---- bits

bit_zero : (n : ℕ) → bit_at n 0 ≡ n % 2
bit_zero n = ap (λ x. x % 2) (div-one n)

-- bit i + 1 of n is bit i of n / 2
bit_suc : (n i : ℕ) → bit_at n (suc i) ≡ bit_at (n / 2) i
bit_suc n i = ap (λ x. n / x % 2) (pow-succ' 2 i) ∙ ap (λ x. x % 2) (sym (div-div-eq-div-mul n 2 (2 ^ i)))

pub bit_unset : (n i : ℕ) → (bit_at n i ≡ 1 → ⊥) → bit_at n i ≡ 0
bit_unset n i h = omega (arith, mod-lt (n / 2 ^ i) {m = 2} (omega arith))

module _ (k b n : ℕ) where
  bits_odd : n % 2 ≡ 1 → bits_in (suc k) b n ≡ b ∷ bits_in k (b + 1) (n / 2)
  unfolding bits_in
  bits_odd e = rw (eq-eqb (n % 2) 1 e)

  bits_even : n % 2 ≡ 0 → bits_in (suc k) b n ≡ bits_in k (b + 1) (n / 2)
  unfolding bits_in
  bits_even e = rw (ne_eqb (n % 2) 1 (λ f. omega arith))

-- ---- they are the set bits

-- r is bit r - b of n, which is set
record Set (k b n r : ℕ) : Type 0 where
  least : b ≤ r
  most : r < b + k
  set : bit_at n (r - b) ≡ 1

Set-first : (k b n r : ℕ) → n % 2 ≡ 1 → r ≡ b → Set (suc k) b n r
Set-first k b n r e q =
    let z : r - b ≡ 0 = omega arith in
    record { least = omega arith; most = omega arith; set = rw z (bit_zero n ∙ e) }

Set-later : (k b n r : ℕ) → Set k (b + 1) (n / 2) r → Set (suc k) b n r
Set-later k b n r s =
    let z : r - b ≡ suc (r - (b + 1)) = omega (arith, s.least) in
    record {
      least = omega (arith, s.least);
      most = omega (arith, s.most);
      set = rw z (bit_suc n (r - (b + 1)) ∙ s.set);
    }

in_set : (k b n r : ℕ) → In r (bits_in k b n) → Set k b n r
unfolding In bits_in
in_set zero b n r m = absurd m
in_set (suc k) b n r m = go (eqb (n % 2) 1) refl m (in_set k (b + 1) (n / 2) r)
  where
    go : (q : Bool) → eqb (n % 2) 1 ≡ q
        → In r (cond q (b ∷ bits_in k (b + 1) (n / 2)) (bits_in k (b + 1) (n / 2)))
        → (In r (bits_in k (b + 1) (n / 2)) → Set k (b + 1) (n / 2) r) → Set (suc k) b n r
    go true e (inl q) ih = Set-first k b n r (eqb-true _ _ e) q
    go true e (inr h) ih = Set-later k b n r (ih h)
    go false e h ih = Set-later k b n r (ih h)

set_in : (k b n i : ℕ) → i < k → bit_at n i ≡ 1 → In (b + i) (bits_in k b n)
unfolding In
set_in zero b n i h e = absurd (omega arith)
set_in (suc k) b n zero h e =
    let z : b + 0 ≡ b = omega arith in
    rw (bits_odd k b n (sym (bit_zero n) ∙ e)) (inl z)
set_in (suc k) b n (suc i) h e = go (n % 2) refl (set_in k (b + 1) (n / 2) i (omega arith) (sym (bit_suc n i) ∙ e))
  where
    z : b + 1 + i ≡ b + suc i
    z = omega arith

    go : (d : ℕ) → n % 2 ≡ d → In (b + 1 + i) (bits_in k (b + 1) (n / 2)) → In (b + suc i) (bits_in (suc k) b n)
    go zero p m = rw (bits_even k b n p) (rw z at m)
    go (suc d) p m = rw (bits_odd k b n (omega arith)) (inr (rw z at m))

pub ranks_exact : (mask r : ℕ) → In r (ranks_of mask) ↔ InMask mask r
ranks_exact mask r = (there, λ p. rw z at (set_in limits.ranks 0 mask r p.0 p.1))
  where
    z : 0 + r ≡ r
    z = omega arith

    y : r - 0 ≡ r
    y = omega arith

    there : In r (ranks_of mask) → InMask mask r
    there m = let s = in_set limits.ranks 0 mask r m in (omega (arith, s.most), rw y at s.set)

bits_ascend : (k b n : ℕ) → Ascending (bits_in k b n)
unfolding Ascending bits_in
bits_ascend zero b n = tt
bits_ascend (suc k) b n = go (eqb (n % 2) 1) (bits_ascend k (b + 1) (n / 2))
  where
    go : (q : Bool) → Ascending (bits_in k (b + 1) (n / 2))
        → Ascending (cond q (b ∷ bits_in k (b + 1) (n / 2)) (bits_in k (b + 1) (n / 2)))
    go true ih = (λ y m. omega (arith, (in_set k (b + 1) (n / 2) y m).least), ih)
    go false ih = ih

pub ranks_ascend : (mask : ℕ) → Ascending (ranks_of mask)
ranks_ascend mask = bits_ascend limits.ranks 0 mask

-- ---- the test of one rank after another is the test of all ranks

all_from : (t : ℕ → Bool) (a n : ℕ)
    → list_all t (range_with_len a (suc n)) ≡ list_all t (range_with_len a n) && t (a + n)
all_from t a zero = let z : a + 0 ≡ a = omega arith in rw z (and-true (t a))
all_from t a (suc n) =
    let z : a + 1 + n ≡ a + suc n = omega arith in
    ap (λ q. t a && q) (rw z at (all_from t (a + 1) n)) ∙ sym (and_assoc (t a) _ _)

pub all_every : (t : ℕ → Bool) (n : ℕ) → list_all t (range_with_len 0 n) ≡ every t n
unfolding every
all_every t zero = refl
all_every t (suc n) = let z : 0 + n ≡ n = omega arith in rw (all_from t 0 n, z, all_every t n)

-- ---- the mask fits exactly if it asks for inner ranks only

module _ (rank mask : ℕ) where
  abbrev pub test : ℕ → Bool
  test r = eqb (bit_at mask r) 0 || (ltb 0 r && ltb r rank)

  test_set : (r : ℕ) → test r ≡ true → bit_at mask r ≡ 1 → (0 < r) × (r < rank)
  test_set r e s =
      let p = and_true (ltb 0 r) (ltb r rank) (rw (ne_eqb (bit_at mask r) 0 (λ z. omega arith)) at e) in
      (ltb-true _ _ p.0, ltb-true _ _ p.1)

  -- the test at a rank that is not asked for, and at one that is
  unset_test : (r : ℕ) → eqb (bit_at mask r) 1 ≡ false → test r ≡ true
  unset_test r e = rw (eq-eqb (bit_at mask r) 0
      (bit_unset mask r (λ s. true≢false (sym (eq-eqb (bit_at mask r) 1 s) ∙ e))))

  set_is : (r : ℕ) → eqb (bit_at mask r) 1 ≡ true → test r ≡ (ltb 0 r && ltb r rank)
  set_is r e =
      let s = eqb-true (bit_at mask r) 1 e in
      rw (ne_eqb (bit_at mask r) 0 (λ z. omega arith))

  set_test : (r : ℕ) → (bit_at mask r ≡ 1 → (0 < r) × (r < rank)) → test r ≡ true
  set_test r h = go (eqb (bit_at mask r) 1) refl
    where
      go : (q : Bool) → eqb (bit_at mask r) 1 ≡ q → test r ≡ true
      go true e =
          let p = h (eqb-true (bit_at mask r) 1 e) in
          set_is r e ∙ rw (lt-ltb 0 r p.0, lt-ltb r rank p.1)
      go false e = unset_test r e

  each : mask_fits rank mask ≡ true → (r : ℕ) → r < limits.ranks → test r ≡ true
  unfolding mask_fits
  each e r h = go (test r) refl
    where
      go : (q : Bool) → test r ≡ q → test r ≡ true
      go true t = t
      go false t = absurd (true≢false (sym e ∙ every_stop test limits.ranks r h t))

  all : (n : ℕ) → ((r : ℕ) → r < n → test r ≡ true) → every test n ≡ true
  unfolding every
  all zero h = refl
  all (suc n) h = rw (all n (λ r m. h r (omega arith)), h n (omega arith))

  pub fits_exact : mask_fits rank mask ≡ true ↔ InnerRanks rank mask
  unfolding mask_fits
  fits_exact = (
    λ e r h. test_set r (each e r h.0) h.1,
    λ f. all limits.ranks (λ r h. set_test r (λ s. f r (h, s))),
  )

-- ---- the walk: the lowest set bit first, and then the ranks of what is left

-- an even number taken off, halved
half_less : (n m : ℕ) → n % 2 ≡ 0 → m ≤ n / 2 → ((n - m * 2) / 2 ≡ n / 2 - m) × ((n - m * 2) % 2 ≡ 0)
half_less n m e h = (omega arith, omega arith)

first_odd : (k b n : ℕ) → 0 < n % 2 → bits_in (suc k) b n ≡ (b + 0) ∷ bits_in (suc k) b (n - 1)
first_odd k b n h =
    let z : (n - 1) % 2 ≡ 0 = omega arith in
    let q : (n - 1) / 2 ≡ n / 2 = omega arith in
    let s : b ≡ b + 0 = omega arith in
    bits_odd k b n (omega arith)
    ∙ ap₂ (λ y l. y ∷ l) s (sym (bits_even k b (n - 1) z ∙ ap (bits_in k (b + 1)) q))

bits_first : (k b n : ℕ) → 0 < n → n < 2 ^ k
    → bits_in k b n ≡ (b + count_trailing_zeros k n) ∷ bits_in k b (n - 2 ^ count_trailing_zeros k n)
unfolding count_trailing_zeros
bits_first zero b n p h = absurd (omega arith)
bits_first (suc k) b n p h = go (n % 2) refl (bits_first k (b + 1) (n / 2)) (low_fits k (n / 2))
  where
    t : ℕ
    t = count_trailing_zeros k (n / 2)

    go : (d : ℕ) → n % 2 ≡ d
        → (0 < n / 2 → n / 2 < 2 ^ k → bits_in k (b + 1) (n / 2) ≡ (b + 1 + t) ∷ bits_in k (b + 1) (n / 2 - 2 ^ t))
        → (0 < n / 2 → n / 2 < 2 ^ k → 2 ^ t ≤ n / 2)
        → bits_in (suc k) b n ≡ (b + under d t) ∷ bits_in (suc k) b (n - 2 ^ under d t)
    go zero e ih f =
        let m : n / 2 < 2 ^ k = omega (arith, pow-suc 2 k) in
        let w = half_less n (2 ^ t) e (f (omega arith) m) in
        let s : b + 1 + t ≡ b + suc t = omega arith in
        let r : bits_in (suc k) b (n - 2 ^ suc t) ≡ bits_in k (b + 1) (n / 2 - 2 ^ t) =
        rw (pow-suc 2 t) (bits_even k b (n - 2 ^ t * 2) w.1 ∙ ap (bits_in k (b + 1)) w.0) in
        bits_even k b n e ∙ ih (omega arith) m ∙ ap₂ (λ y l. y ∷ l) s (sym r)
    go (suc d) e ih f = first_odd k b n (omega arith)

pub ranks_next : (left r : ℕ) → 0 < left → left < width → r ≡ count_trailing_zeros limits.ranks left
    → ranks_of left ≡ r ∷ ranks_of (left - 2 ^ r)
ranks_next left r p h e =
    let z : 0 + count_trailing_zeros limits.ranks left ≡ r = omega arith in
    bits_first limits.ranks 0 left p h ∙ rw (z, e)

bits_none : (k b : ℕ) → bits_in k b 0 ≡ []
unfolding bits_in
bits_none zero b = refl
bits_none (suc k) b = bits_none k (b + 1)

pub ranks_none : ranks_of 0 ≡ []
ranks_none = bits_none limits.ranks 0
