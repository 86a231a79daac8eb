-- Elements written one after another from their flat notes: what is asked for the next one, and what it leaves.
-- Assumes nothing.
use mathlib.Core.Path.{◌≡◌, refl, sym}
use mathlib.Core.List.{List}
use Prim.Native.Nat.{ℕ, ◌+◌, ◌*◌, ◌≤◌, ◌<◌}
use native.Mathlib.Omega.{arith}
use lib.ListN.{length, get_or}
use Rattle.order.proofs.Sums.{sum_next, sum_le, sum_none}
use Rattle.listing.specs.Listing.{width}
use Rattle.listing.specs.Laid.{LaidList}
use Rattle.listing.proofs.Laying.{laid_list}
use Rattle.listing_sups.specs.Filling.{starts, Put}
use Rattle.listing_sups.proofs.Laying.{starts_room, put_none, put_one, put_then}
use Rattle.text_building.specs.declared.build.FromTo.{FromTo}
use Rattle.text_building.specs.Building.{subs_before, Flat, ElementPut}

-- the first e elements are written, and the next one begins at these places
pub record Reached (lists : ℕ → List ℕ) (e : ℕ) (p : FromTo) (ends inc ends' inc' : List ℕ) : Type 0 where
  pub from : p.from ≡ subs_before lists e
  pub put : Put lists 0 e p.to ends inc ends' inc'

pub none_reached : (lists : ℕ → List ℕ) (ends inc : List ℕ)
    → Reached lists 0 (record { from = 0; to = 0 }) ends inc ends inc
none_reached lists ends inc =
    record { from = sym (sum_none _); put = put_none lists 0 0 0 ends inc (sym (sum_none _)) refl }

module _ {lists : ℕ → List ℕ} {many subs up ends₀ inc₀ : List ℕ} {n : ℕ}
    (f : Flat lists many subs up n (length ends₀) (length inc₀)) (e : ℕ) (h : e < n) (p : FromTo)
    (ends inc : List ℕ) (a : Reached lists e p ends₀ inc₀ ends inc) where
  -- where its subs end among those noted
  subs_end : p.from + get_or many e 0 ≤ length subs
  subs_end =
      let next = sum_next (λ k. length (lists (2 * k))) e in
      let most = sum_le (λ k. length (lists (2 * k))) (e + 1) n (omega arith) in
      omega (arith, a.from, f.each e h, next, most, f.subs_long)

  -- how much of inc it takes
  taken : p.to + get_or many e 0 + get_or up e 0 ≤ starts lists (2 * n)
  taken = omega (arith, a.put.place, f.each e h, f.sups e h, starts_room lists n e h)

  pub element_asked : ((e < length many) × (e < length up) × (2 * e + 1 < length ends))
      × ((p.from + get_or many e 0 ≤ length subs) × ((p.to + get_or many e 0 + get_or up e 0 ≤ length inc)
      × (p.to + get_or many e 0 + get_or up e 0 < width)))
  element_asked = (
    (
      omega (arith, f.many_long),
      omega (arith, f.up_long),
      omega (arith, f.room_ends, a.put.ends_length),
    ),
    (
      subs_end,
      (omega (arith, taken, f.room_inc, a.put.inc_length), omega (arith, taken, f.few)),
    ),
  )

  module _ (ends' inc' : List ℕ) (p' : FromTo)
      (w : ElementPut (get_or many e 0) subs (get_or up e 0) e p ends inc ends' inc' p') where
    subs_laid : LaidList p.to (lists (2 * e)) inc inc'
    subs_laid =
        laid_list p.to inc inc' (lists (2 * e)) (λ j. get_or subs (p.from + j) 0) (get_or many e 0) (sym (f.each e h))
        (λ j l. rw a.from (f.sub e h j (omega (arith, f.each e h)))) w.laid

    element_put : Put lists e (e + 1) p'.to ends inc ends' inc'
    element_put =
        put_one lists e p.to (get_or up e 0) p'.to (lists (2 * e)) ends inc ends' inc' a.put.place refl
        (f.sups e h) (omega (arith, w.to, f.each e h)) element_asked.0.2 subs_laid
        (rw (← f.each e h) w.both_ends)

    pub next_reached : Reached lists (e + 1) p' ends₀ inc₀ ends' inc'
    next_reached = record {
      from =
          omega (arith, w.from, a.from, f.each e h, sum_next (λ k. length (lists (2 * k))) e);
      put = put_then lists 0 e (e + 1) _ _ _ _ _ _ _ _ a.put element_put;
    }
