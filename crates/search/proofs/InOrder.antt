-- The course of a search over flags: neighbours are the changes at the ranks of a mask, from the lowest upward.
-- Assumes nothing.
use mathlib.Core.Path.{◌≡◌, refl, ap, ◌∙◌}
use mathlib.Core.Logic.{◌≢◌, inl, inr}
use mathlib.Core.List.{List, [], ◌∷◌, map}
use Prim.Native.Nat.{ℕ, zero, suc, ◌-◌, ◌≤◌, ◌<◌}
use native.Mathlib.Decide.{ℕ_discrete}
use native.Mathlib.Omega.{arith}
use lib.ListN.{length, get_or}
use Rattle.order.specs.Lists.{Earlier}
use Rattle.listing.specs.Listing.{Listing}
use Rattle.flag_change.specs.Change.{change_at}
use Rattle.order.proofs.Positions.{ascending_at, ascending_back}
use Rattle.search_theory.specs.Course.{HasNeighbour, nbr, Came, Clash}
use Rattle.search_theory.proofs.Once.{mem_at, at_in}
use Rattle.search_masks.specs.Masks.{InMask, ranks_of}
use Rattle.search_masks.proofs.Ranks.{ranks_exact, ranks_ascend}
use Rattle.search_walk.specs.Searched.{mask_changes}
use Rattle.search.specs.Exact.{FirstMet, Repeat}
use Rattle.search_walk.proofs.Neighbours.{mem_in, in_mem}

-- ---- places in lists

map_length : (f : ℕ → List ℕ) (l : List ℕ) → length (map f l) ≡ length l
map_length f [] = refl
map_length f (x ∷ l) = ap suc (map_length f l)

map_at : (f : ℕ → List ℕ) (l : List ℕ) (i : ℕ) (d : List ℕ) → i < length l → get_or (map f l) i d ≡ f (get_or l i 0)
map_at f [] i d h = absurd (omega arith)
map_at f (x ∷ l) zero d h = refl
map_at f (x ∷ l) (suc i) d h = map_at f l i d (omega arith)

-- ---- the ranks of a mask, by their places

module _ (mask : ℕ) where
  abbrev rank_at : ℕ → ℕ
  rank_at i = get_or (ranks_of mask) i 0

  rank_in : (i : ℕ) → i < length (ranks_of mask) → InMask mask (rank_at i)
  rank_in i h = (ranks_exact mask (rank_at i)).0 (mem_in (rank_at i) (ranks_of mask) (mem_at (ranks_of mask) 0 i h))

  place_of : (r : ℕ) → InMask mask r → (i : ℕ) × (i < length (ranks_of mask)) × (rank_at i ≡ r)
  place_of r h = at_in (ranks_of mask) 0 r (in_mem r (ranks_of mask) ((ranks_exact mask r).1 h))

  earlier_rank : {j i p q : ℕ} → q < length (ranks_of mask) → Earlier j i p q → Earlier j (rank_at i) p (rank_at q)
  earlier_rank h (inl e) = inl e
  earlier_rank {j} {i} {p} {q} h (inr e) = inr (e.0, ascending_at (ranks_of mask) (ranks_ascend mask) i q e.1 h)

  earlier_place : {j i p q : ℕ} → i < length (ranks_of mask) → Earlier j (rank_at i) p (rank_at q) → Earlier j i p q
  earlier_place h (inl e) = inl e
  earlier_place {j} {i} {p} {q} h (inr e) =
      inr (e.0, ascending_back (ranks_of mask) (ranks_ascend mask) i q h e.1)

-- ---- how a flag came, and the first repeat with another byte

module _ (L : Listing) (mask : ℕ) (d : List ℕ) (row : ℕ → List ℕ) (byte : ℕ → ℕ) where
  abbrev N : List ℕ → List (List ℕ)
  N = mask_changes L mask

  many : (j i : ℕ) → HasNeighbour N d row j i → i < length (ranks_of mask)
  unfolding mask_changes
  many j i h = omega (arith, map_length (λ r. change_at L r (row j)) (ranks_of mask), h)

  few : (j i : ℕ) → i < length (ranks_of mask) → HasNeighbour N d row j i
  unfolding mask_changes
  few j i h = omega (arith, map_length (λ r. change_at L r (row j)) (ranks_of mask), h)

  nbr_is : (j i : ℕ) → i < length (ranks_of mask) → nbr N d row j i ≡ change_at L (rank_at mask i) (row j)
  unfolding mask_changes
  nbr_is j i h = map_at (λ r. change_at L r (row j)) (ranks_of mask) i d h

  -- the change at a rank that was met before another, as a neighbour
  met_before : (p q j r : ℕ) → Earlier j r p (rank_at mask q) → InMask mask r
      → (i : ℕ) × Earlier j i p q × HasNeighbour N d row j i × (nbr N d row j i ≡ change_at L r (row j))
  met_before p q j r e a =
      let t = place_of mask r a in (
        t.0,
        earlier_place mask t.1 (rw t.2 e),
        few j t.0 t.1,
        nbr_is j t.0 t.1 ∙ ap (λ x. change_at L x (row j)) t.2,
      )

  pub came_first : (p q k : ℕ) → Came N d row byte p q k → FirstMet L mask row byte k
  came_first p q k c =
      let h = many p q c.there in
      record {
        from = p;
        at = rank_at mask q;
        earlier = c.earlier;
        in_mask = rank_in mask q h;
        is = c.is ∙ nbr_is p q h;
        turned = c.turned;
        first = λ j r e a.
            let t = met_before p q j r e a in
            let s = c.first j t.0 t.1 t.2 in
            record { index = s.index; below = s.below; is = s.is ∙ t.3 };
      }

  -- of two bytes 0 or 1, one that is not the other one is the same
  alike : (a b : ℕ) → a ≤ 1 → b ≤ 1 → a ≢ 1 - b → a ≡ b
  alike a b h k n = go (ℕ_discrete a b)
    where
      go : Dec (a ≡ b) → a ≡ b
      go (yes e) = e
      go (no e) =
          let z : a ≡ 1 - b = omega arith in
          absurd (n z)

  -- a neighbour that was met before another, as the change at a rank
  nbr_before : (p q k : ℕ) → q < length (ranks_of mask)
      → (j : ℕ) × (i : ℕ) × Earlier j i p q × HasNeighbour N d row j i × (row k ≡ nbr N d row j i)
      → (j : ℕ) × (r : ℕ) × Earlier j r p (rank_at mask q) × InMask mask r × (row k ≡ change_at L r (row j))
  nbr_before p q k z t =
      let h = many t.0 t.1 t.3 in (
        t.0,
        rank_at mask t.1,
        earlier_rank mask z t.2,
        rank_in mask t.1 h,
        t.4 ∙ nbr_is t.0 t.1 h,
      )

  pub clash_repeat : (n : ℕ) → ((k : ℕ) → k < n → byte k ≤ 1) → Clash N d row byte n → Repeat L mask row byte n
  clash_repeat n b c =
      let h = many c.from c.at c.there in
      record {
        from = c.from;
        at = rank_at mask c.at;
        known = c.known;
        in_mask = rank_in mask c.at h;
        index = c.index;
        below = c.below;
        is = c.is ∙ nbr_is c.from c.at h;
        alike = alike _ _ (b c.index c.below) (b c.from c.known) c.apart;
        met = λ j r e a.
            let t = met_before c.from c.at j r e a in
            let s = c.met j t.0 t.1 t.2 in
            record { index = s.index; below = s.below; is = s.is ∙ t.3; with = s.with };
        few = λ k z m. nbr_before c.from c.at k h (c.few k z m);
      }
