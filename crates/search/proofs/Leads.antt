-- The neighbours of a flag are the flags that a change leads to, so that the same is reachable, counted and coloured.
-- Assumes nothing.
use mathlib.Core.Path.{◌≡◌}
use mathlib.Core.Bool.{Bool, true, not}
use mathlib.Core.Logic.{◌↔◌}
use mathlib.Core.List.Memᴰ
use mathlib.Core.List.{List}
use Prim.Native.Nat.{ℕ, suc}
use Rattle.order.specs.Steps.{Reach, start, next}
use Rattle.listing.specs.Listing.{Listing, Limits}
use Rattle.flag_change.specs.Flags.{IsFlag}
use Rattle.flag_change.specs.Change.{change_at, Changes}
use Rattle.flag_change.proofs.Changes.{changes}
use Rattle.search_theory.specs.Search.{Neighbour, AtLeast, Colouring}
use Rattle.search_masks.specs.Masks.{InMask, ranks_of}
use Rattle.search_masks.proofs.Ranks.{ranks_exact}
use Rattle.search_theory.proofs.Found.{overflow_exact}
use Rattle.search_index.specs.Rows.{same_list}
use Rattle.search_index.proofs.Rows.{same_decides}
use Rattle.search_walk.specs.Searched.{mask_changes, found_by}
use Rattle.search.specs.Exact.{Searchable, Leads}
use Rattle.search_walk.proofs.Neighbours.{mem_in, in_mem}

pub iff_trans : {A B C : Type 0} → A ↔ B → B ↔ C → A ↔ C
iff_trans p q = (λ a. q.0 (p.0 a), λ c. p.1 (q.1 c))

module _ {m : Limits} {L : Listing} {first : List ℕ} {mask : ℕ} (T : Searchable m L first mask) where
  -- the change at a rank of the mask
  change_of : (f : List ℕ) → IsFlag L f → (r : ℕ) → InMask mask r → Changes L f r
  change_of f F r h = let b = T.inner r h in changes L T.closed r b.0 b.1 f F

  -- ---- one change

  to_leads : (f g : List ℕ) → IsFlag L f → Neighbour (mask_changes L mask) f g → Leads L mask f g
  unfolding mask_changes
  to_leads f g F n =
      let t = Memᴰ.of_map (λ r. change_at L r f) (ranks_of mask) n in
      let p = (ranks_exact mask t.0).0 (mem_in t.0 (ranks_of mask) t.1) in
      rw t.2 at (lead t.0 p (change_of f F t.0 p))
    where
      lead : (r : ℕ) → InMask mask r → Changes L f r → Leads L mask f (change_at L r f)
      lead r h c = record { at = r; in_mask = h; is_flag = c.is_flag; changed = c.changed }

  pub of_leads : (f g : List ℕ) → IsFlag L f → Leads L mask f g → Neighbour (mask_changes L mask) f g
  unfolding mask_changes
  of_leads f g F l =
      let c = change_of f F l.at l.in_mask in
      let i = in_mem l.at (ranks_of mask) ((ranks_exact mask l.at).1 l.in_mask) in
      Memᴰ.cast (c.only g l.is_flag l.changed) (Memᴰ.map (λ r. change_at L r f) i)

  -- ---- what is reachable

  leads_flag : {f : List ℕ} → Reach (Leads L mask) first f → IsFlag L f
  leads_flag start = T.is_flag
  leads_flag (next h l) = l.is_flag

  pub to_reach : {f : List ℕ} → Reach (Neighbour (mask_changes L mask)) first f → Reach (Leads L mask) first f
  to_reach start = start
  to_reach (next {x} {y} h n) =
      let p = to_reach h in
      next p (to_leads x y (leads_flag p) n)

  pub of_reach : {f : List ℕ} → Reach (Leads L mask) first f → Reach (Neighbour (mask_changes L mask)) first f
  of_reach start = start
  of_reach (next {x} {y} h l) = next (of_reach h) (of_leads x y (leads_flag h) l)

  pub reach_flag : {f : List ℕ} → Reach (Neighbour (mask_changes L mask)) first f → IsFlag L f
  reach_flag h = leads_flag (to_reach h)

  -- ---- how many, and whether there are more than room; their colours

  pub least_leads : (n : ℕ) → AtLeast n (Neighbour (mask_changes L mask)) first ↔ AtLeast n (Leads L mask) first
  least_leads n = (
    λ q. record { things = q.things; many = q.many; once = q.once; reached = λ x i. to_reach (q.reached x i) },
    λ q. record { things = q.things; many = q.many; once = q.once; reached = λ x i. of_reach (q.reached x i) },
  )

  pub overflow_more : (room : ℕ)
      → ((found_by L first mask room).overflow ≡ true) ↔ AtLeast (suc room) (Leads L mask) first
  unfolding found_by
  overflow_more room =
      iff_trans (overflow_exact same_list same_decides room (mask_changes L mask) first) (least_leads (suc room))

  pub flips_leads : (colour : List ℕ → Bool)
      → ((x y : List ℕ) → Reach (Leads L mask) first x → Leads L mask x y → colour y ≡ not (colour x))
      → (x y : List ℕ) → Reach (Neighbour (mask_changes L mask)) first x → Neighbour (mask_changes L mask) x y
      → colour y ≡ not (colour x)
  flips_leads colour f x y h n = f x y (to_reach h) (to_leads x y (reach_flag h) n)

  pub colours_leads : Colouring (Neighbour (mask_changes L mask)) first ↔ Colouring (Leads L mask) first
  colours_leads = (
    λ c. record {
      colour = c.colour;
      flips = λ x y h l. c.flips x y (of_reach h) (of_leads x y (leads_flag h) l);
    },
    λ c. record { colour = c.colour; flips = flips_leads c.colour c.flips },
  )
