-- A plan and a block of pairs: what they say of one pair, its place, its lists and the room for them.
-- Assumes nothing.
use mathlib.Core.Path.{◌≡◌, sym, ap, subst, ◌∙◌}
use mathlib.Core.Bool.{Bool, true, false, cond, ◌&&◌}
use mathlib.Core.List.{List, []}
use Prim.Native.Nat.{ℕ, pred, ◌+◌, ◌-◌, ◌*◌, ◌≤◌, ◌<◌}
use native.Mathlib.Omega.{arith}
use lib.Dec.{eqb}
use lib.ListN.{length, get_or, set}
use Rattle.order.specs.Lists.{In}
use Rattle.listing.specs.Listing.{Listing, held, width, limits, count, entries}
use Rattle.listing.specs.Laid.{LaidList}
use Rattle.listing.proofs.Listing.{some_rank, before_lt, count_le}
use Rattle.listing_sups.specs.Filling.{starts, Put}
use Rattle.listing_sups.proofs.Laying.{starts_room, put_one}
use Rattle.product_places.specs.declared.Poles.{Poles}
use Rattle.product_places.specs.declared.block.Block.{Block}
use Rattle.product_places.specs.declared.put.Shift.{Shift}
use Rattle.product_places.specs.Places.{offset_in, first_at, subs_of}
use Rattle.product_places.specs.Blocks.{BlockOf}
use Rattle.product_places.proofs.Numbers.{bit_le, product_le, number_at, number_more, number_lt, first_le}
use Rattle.product_element.specs.declared.Factors.{Factors}
use Rattle.product_element.specs.Pairs.{subs_in_use, under_pair, over_pair, size_of, Plan}
use Rattle.product_element.specs.Writing.{lists_in, number_in, begins_in, BlockIn, Writable}

cond_le : (b : Bool) → cond b 1 0 ≤ 1
cond_le true = omega arith
cond_le false = omega arith

module _ {f : Factors} {ends inc : List ℕ} (w : Writable f ends inc) where
  abbrev P : Listing
  P = held f.p.slices

  abbrev Q : Listing
  Q = held f.q.slices

  -- the same, with slices of the same size
  pub writable_room : (ends' inc' : List ℕ) → length ends' ≡ length ends → length inc' ≡ length inc
      → Writable f ends' inc'
  writable_room ends' inc' e d = record { plan = rw (e, d) w.plan }

  -- the pairs are few
  pub first_few : (R i : ℕ) → i ≤ R + 1 → R + 2 ≤ length P.counts + length Q.counts
      → begins_in f R i ≤ limits.elements
  unfolding size_of
  first_few R i h k =
      let n = length P.counts + length Q.counts in
      omega (arith, first_le f.poles.min P.counts Q.counts R (n - 1) i h (omega arith), w.plan.elements)

  -- ---- the lists of the first member of a block's pairs

  module _ {B : Block} (block : BlockIn f B) {a : ℕ} (ha : a < count P B.i) where
    pub left_there : 2 * (B.base + B.pbefore + a) + 0 < length P.ends
    left_there =
        omega (arith, block.base, block.p_before, before_lt P.counts B.i a ha, w.plan.ends_p)

    pub left_few : B.base + B.pbefore + a ≤ width
    left_few =
        omega (
          arith,
          block.base,
          block.p_before,
          before_lt P.counts B.i a ha,
          w.plan.few_p,
          bit_le f.poles.min,
        )

    pub left_subs : (left : List ℕ)
        → left ≡ cond (eqb B.i 0) [] (entries P.ends P.inc (2 * (B.base + B.pbefore + a) + 0))
        → left ≡ subs_in_use f.poles.min P B.i a
    unfolding subs_in_use
    left_subs left e = e ∙ rw (block.base, block.p_before)

-- ---- a block, by the ranks that it was made for

module _ {poles : Poles} {p q : List ℕ} {i j : ℕ} {B : Block} (block : BlockOf poles p q i j B) where
  pub block_put : {lists : ℕ → List ℕ} {R at : ℕ} {ends inc ends' inc' : List ℕ} → i + j ≡ R
      → Put lists (first_at poles.min p q (B.i + B.j) B.i) (first_at poles.min p q (B.i + B.j) (B.i + 1)) at
      ends inc ends' inc'
      → Put lists (first_at poles.min p q R i) (first_at poles.min p q R (i + 1)) at ends inc ends' inc'
  block_put e h = rw (block.ranks.0, block.ranks.1, e) at h

-- ---- one pair

-- a pair of a block
pub record PairIn (f : Factors) (ends inc : List ℕ) (B : Block) (a b : ℕ) : Type 0 where
  pub ready : Writable f ends inc
  pub block : BlockIn f B
  pub left : a < count (held f.p.slices) B.i
  pub right : b < count (held f.q.slices) B.j

module _ {f : Factors} {ends inc : List ℕ} {B : Block} {a b : ℕ} (x : PairIn f ends inc B a b) where
  abbrev p : List ℕ
  p = f.p.slices.counts.now

  abbrev q : List ℕ
  q = f.q.slices.counts.now

  abbrev e : ℕ
  e = number_in f B a b

  abbrev lists : ℕ → List ℕ
  lists = lists_in f

  abbrev plan : Plan f.poles.min f.poles.max (held f.p.slices) (held f.q.slices) (length ends) (length inc)
  plan = x.ready.plan

  -- its members' places
  pub right_there : 2 * (B.base + B.qbefore + b) + 0 < length f.q.slices.ends.now
  right_there =
      omega (arith, x.block.base, x.block.q_before, before_lt q B.j b x.right, plan.ends_q)

  pub up_p : B.pbefore + a ≤ limits.elements
  up_p = omega (arith, x.block.p_before, before_lt p B.i a x.left, plan.few_p)

  pub up_q : B.qbefore + b ≤ limits.elements
  up_q = omega (arith, x.block.q_before, before_lt q B.j b x.right, plan.few_q)

  pub cap_few : B.cap ≤ 1
  cap_few = rw x.block.cap (cond_le (f.poles.max && eqb (B.i + B.j + 2) (length p + length q)))

  -- its number
  pub index : B.from + a * B.qcount + b ≡ e
  index =
      let w : a * B.qcount ≡ a * get_or q B.j 0 = ap (λ (n : ℕ). a * n) x.block.q_count in
      omega (arith, x.block.from, number_at f.poles.min p q B.i a B.j b)

  pair_lt : e < size_of f.poles.min f.poles.max p q
  unfolding size_of
  pair_lt = omega (arith, number_lt f.poles.min p q B.i a B.j b x.left x.right)

  pub index_few : e < limits.elements
  index_few = omega (arith, pair_lt, plan.elements)

  -- the numbers of its shift
  offset_few : (h k : ℕ) → h + k ≤ B.i + B.j → offset_in p q h k ≤ limits.elements
  unfolding offset_in
  offset_few h k l =
      let i = some_rank p B.i a x.left in
      let j = some_rank q B.j b x.right in
      omega (arith, first_few x.ready (h + k) h (omega arith) (omega arith))

  pub left_shift_few : B.left + b ≤ width
  left_shift_few =
      omega (
        arith,
        x.block.left,
        offset_few (pred B.i) B.j (omega arith),
        count_le q B.j,
        plan.few_q,
      )

  pub right_shift_few : (a * B.qbelow ≤ width * width) × (B.right ≤ width)
  right_shift_few =
      let s : B.qbelow < width = omega (arith, x.block.q_below, count_le q (pred B.j), plan.few_q) in
      let m = product_le a B.qbelow (omega (arith, x.left, count_le p B.i, plan.few_p)) s in
      (m, omega (arith, x.block.right, offset_few B.i (pred B.j) (omega arith)))

  -- ---- its lists

  over_pair_lem : length (lists (2 * e + 1))
      ≡ get_or f.p.sups.now (B.pbefore + a) 0 + get_or f.q.sups.now (B.qbefore + b) 0 + B.cap
  unfolding over_pair
  over_pair_lem =
      plan.over B.i a B.j b x.left x.right
      ∙ rw (
        ← f.counted_p B.i a x.left,
        ← f.counted_q B.j b x.right,
        x.block.p_before,
        x.block.q_before,
        x.block.cap,
      )

  -- there is room for them
  pair_room : (starts lists (2 * e) + length (lists (2 * e)) + length (lists (2 * e + 1)) ≤ length inc)
      × (starts lists (2 * e) + length (lists (2 * e)) + length (lists (2 * e + 1)) ≤ limits.incidences)
  pair_room =
      let r = starts_room lists _ e pair_lt in
      (omega (arith, plan.room_for_inc), omega (arith, plan.incidences))

  pair_ends : 2 * e + 1 < length ends
  pair_ends = omega (arith, pair_lt, plan.room_for_ends)

-- ---- a pair as it is written

-- how its subs follow from those of its members
abbrev pub shift : Block → ℕ → ℕ → Shift
shift B a b =
    record { low = B.low; left = B.left + b; scale = B.qcount; right = B.right + a * B.qbelow }

-- what the code has in hand: the subs of its members, how many lie over it, its number and its place
pub record InHand (f : Factors) (ends inc : List ℕ) (B : Block) (a b : ℕ) (left right : List ℕ) (sups k at : ℕ)
    : Type 0 where
  pub pair : PairIn f ends inc B a b
  pub left_is : left ≡ subs_in_use f.poles.min (held f.p.slices) B.i a
  pub right_is : right ≡ cond (eqb B.j 0) [] (entries f.q.slices.ends.now f.q.slices.inc.now
      (2 * (B.base + B.qbefore + b) + 0))
  pub sups_is : sups ≡ get_or f.p.sups.now (B.pbefore + a) 0 + get_or f.q.sups.now (B.qbefore + b) 0 + B.cap
  pub k_is : k ≡ B.from + a * B.qcount + b
  pub at_is : at ≡ starts (lists_in f) (2 * number_in f B a b)

module _ {f : Factors} {ends inc : List ℕ} {B : Block} {a b : ℕ} {left right : List ℕ} {sups k at : ℕ}
    (h : InHand f ends inc B a b left right sups k at) where
  -- its subs are those of the plan
  pair_subs_lem : subs_of (shift B a b) left right ≡ lists h.pair (2 * e h.pair)
  unfolding under_pair subs_in_use
  pair_subs_lem =
      let c = h.pair.block in
      rw (
        h.left_is,
        h.right_is,
        c.low,
        c.left,
        c.q_count,
        c.right,
        c.q_below,
        c.base,
        c.q_before,
      )
      (sym (h.pair.ready.plan.under B.i a B.j b h.pair.left h.pair.right))

  pair_sups : sups ≡ length (lists h.pair (2 * e h.pair + 1))
  pair_sups = h.sups_is ∙ sym (over_pair_lem h.pair)

  pair_number : k ≡ e h.pair
  pair_number = h.k_is ∙ index h.pair

  -- what is asked of the code that writes it
  pub pair_asked : let subs = subs_of (shift B a b) left right in
      (at + length subs + sups < width)
      × ((at + length subs + sups ≤ length inc) × ((2 * k + 1 < length ends) × ((x : ℕ) → In x subs → x < width)))
  pair_asked =
      let s = ap length pair_subs_lem in
      let r = pair_room h.pair in
      let n = pair_sups in (
        omega (arith, h.at_is),
        (
          omega (arith, h.at_is),
          (
            omega (arith, pair_number, pair_ends h.pair),
            λ x m.
                let l = subst (λ (t : List ℕ). In x t) pair_subs_lem m in
                omega (arith, h.pair.ready.plan.small (2 * e h.pair) x l),
          ),
        ),
      )

  -- and what that leaves
  pub pair_put : (n : ℕ) (ends' inc' : List ℕ) → n ≡ at + length (subs_of (shift B a b) left right) + sups
      → LaidList at (subs_of (shift B a b) left right) inc inc'
      → ends' ≡ set (set ends (2 * k) (at + length (subs_of (shift B a b) left right))) (2 * k + 1) n
      → Put (lists_in f) (number_in f B a b) (number_in f B a (b + 1)) n ends inc ends' inc'
  pair_put n ends' inc' en l eq =
      rw (number_more f.poles.min f.p.slices.counts.now f.q.slices.counts.now B.i a B.j b)
      (put_one (lists_in f) _ at sups n _ ends inc ends' inc' h.at_is pair_subs_lem pair_sups en
      (pair_ends h.pair) l (rw pair_number at eq))
