-- The numbers of layers noted down, one element after another: none, one more, all.
-- Assumes nothing.
use mathlib.Core.Path.{◌≡◌, refl, ap, ◌∙◌}
use mathlib.Core.List.{List}
use Prim.Native.Nat.{ℕ, suc, ◌+◌, ◌≤◌, ◌<◌}
use native.Mathlib.Decide.{dec_lt}
use native.Mathlib.Omega.{arith}
use lib.ListN.{length, get_or, set, length-set}
use lib.Seq.{get_or-set_same, get_or-set_other}
use Rattle.order.specs.Sums.{sum}
use Rattle.order.proofs.Sums.{sum_le, sum_lt, part_same}
use Rattle.listing.specs.Listing.{Limits}
use Rattle.listing.specs.Layers.{Layers, Topped}
use Rattle.listing.specs.Laid.{LaidList}
use Rattle.listing.proofs.Layers.{in_range}
use Rattle.text_theory.specs.Notes.{subs_to, Noted}
use Rattle.text_sizes.specs.Measure.{CountsNoted, SubsNoted}

-- ---- how many subs come before an element

module _ (M : Layers) where
  pub subs_to_first : subs_to M 0 0 ≡ 0
  unfolding subs_to sum
  subs_to_first = refl

  pub subs_to_rank : (r : ℕ) → subs_to M (suc r) 0 ≡ subs_to M r (M.size r)
  unfolding subs_to sum
  subs_to_rank r = omega arith

  pub subs_to_next : (r i : ℕ) → subs_to M r (suc i) ≡ subs_to M r i + length (M.under r i)
  unfolding subs_to sum
  subs_to_next r i = omega arith

  -- the subs of an element end before those of a later one begin
  subs_before : (q k r i : ℕ) → k < M.size q → i < M.size r → sum M.size q + k < sum M.size r + i
      → subs_to M q k + length (M.under q k) ≤ subs_to M r i
  unfolding subs_to sum
  subs_before q k r i hk hi h = go (dec_lt q r) (dec_lt r q)
    where
      of : ℕ → ℕ → ℕ
      of p b = sum (λ a. length (M.under p a)) b

      go : Dec (q < r) → Dec (r < q) → subs_to M q k + length (M.under q k) ≤ subs_to M r i
      go (yes l) d =
          let a : of q (suc k) ≤ of q (M.size q) = sum_le _ (suc k) (M.size q) hk in
          let b = sum_le (λ p. of p (M.size p)) (suc q) r l in
          omega (arith, a, b)
      go (no l) (yes d) = absurd (omega (arith, sum_lt M.size r q i d hi))
      go (no l) (no d) =
          let e : q ≡ r = omega arith in
          let b : k < i = omega (arith, ap (sum M.size) e, h) in
          let a : of r (suc k) ≤ of r i = sum_le _ (suc k) i b in
          rw e (omega (arith, a))

-- ---- counts

module _ {m : Limits} {M : Layers} where
  pub counts_none : (noted : List ℕ) → m.ranks ≤ length noted → CountsNoted m M 0 noted
  counts_none noted h = record { long = h; at = λ q l. absurd (omega arith) }

  pub counts_next : {r n : ℕ} {noted : List ℕ} → CountsNoted m M r noted → r < m.ranks → n ≡ M.size r
      → CountsNoted m M (r + 1) (set noted r n)
  counts_next {r} {n} {noted} c h e = record {
    long = omega (arith, length-set noted r n, c.long);
    at = λ q l. go q l (dec_lt q r);
  }
    where
      go : (q : ℕ) → q < r + 1 → Dec (q < r) → get_or (set noted r n) q 0 ≡ M.size q
      go q l (yes b) = get_or-set_other noted r q n 0 (omega arith) ∙ c.at q b
      go q l (no b) =
          let z : q ≡ r = omega arith in
          rw z (get_or-set_same noted r n 0 (omega (arith, c.long)) ∙ e)

-- ---- elements

module _ {m : Limits} {M : Layers} where
  pub elements_none : (many subs : List ℕ) → m.elements ≤ length many → m.incidences ≤ length subs
      → SubsNoted m M 0 many subs
  elements_none many subs h l = record {
    long = h;
    room = l;
    each = λ r i a b. absurd (omega arith);
    sub = λ r i j a b. absurd (omega arith);
  }

  -- one element more, i of rank r
  module _ {e to r i v : ℕ} {many subs subs' : List ℕ} (n : SubsNoted m M e many subs) (z : e ≡ sum M.size r + i)
      (p : to ≡ subs_to M r i) (h : i < M.size r) (b : e < m.elements) (w : v ≡ length (M.under r i))
      (l : LaidList to (M.under r i) subs subs') where
    -- an element that is not before it is the one
    same : (q k : ℕ) → k < M.size q → sum M.size q + k ≡ e → (q ≡ r) × (k ≡ i)
    same q k a c =
        let s : q ≡ r = part_same M.size q r k i a h (c ∙ z) in
        (s, omega (arith, ap (sum M.size) s, z, c))

    each_more : (q k : ℕ) → k < M.size q → sum M.size q + k < e + 1
        → get_or (set many e v) (sum M.size q + k) 0 ≡ length (M.under q k)
    each_more q k a c = go (dec_lt (sum M.size q + k) e)
      where
        go : Dec (sum M.size q + k < e) → get_or (set many e v) (sum M.size q + k) 0 ≡ length (M.under q k)
        go (yes f) = get_or-set_other many e _ v 0 (omega arith) ∙ n.each q k a f
        go (no f) =
            let s = same q k a (omega arith) in
            rw (s.0, s.1, ← z) (get_or-set_same many e v 0 (omega (arith, n.long)) ∙ w)

    sub_more : (q k j : ℕ) → k < M.size q → sum M.size q + k < e + 1 → j < length (M.under q k)
        → get_or subs' (subs_to M q k + j) 0 ≡ get_or (M.under q k) j 0
    sub_more q k j a c d = go (dec_lt (sum M.size q + k) e)
      where
        go : Dec (sum M.size q + k < e) → get_or subs' (subs_to M q k + j) 0 ≡ get_or (M.under q k) j 0
        go (yes f) =
            let o = subs_before M q k r i a h (omega (arith, z)) in
            l.earlier _ (omega (arith, o, p, d)) ∙ n.sub q k j a f d
        go (no f) =
            let s = same q k a (omega arith) in
            let g : j < length (M.under r i) = rw (s.0, s.1) at d in
            rw (s.0, s.1, ← p) (l.inside j g)

    pub elements_next : SubsNoted m M (e + 1) (set many e v) subs'
    elements_next = record {
      long = omega (arith, length-set many e v, n.long);
      room = omega (arith, l.same_length, n.room);
      each = each_more;
      sub = sub_more;
    }

-- ---- all of them

pub all_noted : {m : Limits} {M : Layers} {noted many subs : List ℕ} → Topped M → M.top < m.ranks
    → CountsNoted m M (suc M.top) noted → SubsNoted m M (sum M.size (suc M.top)) many subs
    → sum M.size (suc M.top) ≤ m.elements → subs_to M (suc M.top) 0 ≤ m.incidences → Noted M noted many subs
all_noted {m} {M} t h c n e b = record {
  ranks = omega (arith, c.long);
  count = λ r l. c.at r (omega arith);
  elements = omega (arith, n.long);
  each = λ r i a. n.each r i a (inside r i a);
  room = omega (arith, subs_to_rank M M.top, n.room);
  sub = λ r i j a d. n.sub r i j a (inside r i a) d;
}
  where
    inside : (r i : ℕ) → i < M.size r → sum M.size r + i < sum M.size (suc M.top)
    inside r i a = sum_lt M.size r (suc M.top) i (omega (arith, in_range M t r i a)) a
