-- Layers with their counts and all elements written.
-- Assumes nothing.
use mathlib.Core.Path.{◌≡◌, sym, ◌∙◌}
use mathlib.Core.List.{List}
use Prim.Native.Nat.{ℕ, suc, ◌+◌, ◌*◌, ◌≤◌, ◌<◌}
use native.Mathlib.Omega.{arith}
use lib.ListN.{length, get_or}
use Rattle.listing.specs.Listing.{limits}
use Rattle.listing.specs.Layers.{Layers, derived}
use Rattle.listing.specs.Laid.{Laid, LaidList}
use Rattle.listing.specs.Written.{tabulated, written}
use Rattle.listing.proofs.Laying.{laid_list}
use Rattle.listing.proofs.Written.{tabulated_length, tabulated_at, written_counts_length}
use Rattle.listing_sups.specs.Filling.{ElementsLaid}
use Rattle.listing_sups.proofs.Unfilled.{Unfilled}
use Rattle.text_theory.specs.Notes.{Noted}
use Rattle.text_building.specs.Building.{Source, Flat}
use Rattle.text_building.proofs.Flat.{lists, few_ranks, few_elements, room_counts, flat}

counts_laid : (M : Layers) (noted many subs : List ℕ) (ranks : ℕ) → Noted M noted many subs → ranks ≡ suc M.top
    → (d d' : List ℕ) → Laid 0 (λ j. get_or noted (0 + j) 0) ranks d d'
    → LaidList 0 (written M (derived M)).counts d d'
unfolding written
counts_laid M noted many subs ranks o e d d' l =
    laid_list 0 d d' (tabulated M.size (suc M.top)) (λ j. get_or noted (0 + j) 0) ranks
    (tabulated_length M.size (suc M.top) ∙ sym e) same l
  where
    same : (j : ℕ) → j < ranks → get_or noted (0 + j) 0 ≡ get_or (tabulated M.size (suc M.top)) j 0
    same j h =
        let z : 0 + j ≡ j = omega arith in
        let b : j < suc M.top = omega (arith, e) in
        rw z (o.count j (omega arith) ∙ sym (tabulated_at M.size (suc M.top) j b))

module _ {M : Layers} {noted many subs up counts₀ ends₀ inc₀ : List ℕ} {ranks n : ℕ}
    (s : Source M noted many subs up ranks n (length counts₀) (length ends₀) (length inc₀)) where
  pub unfilled_of : (counts₁ ends₁ inc₁ : List ℕ) → Laid 0 (λ j. get_or noted (0 + j) 0) ranks counts₀ counts₁
      → ElementsLaid (lists M) n ends₀ inc₀ ends₁ inc₁ → Unfilled M counts₀ ends₀ inc₀ counts₁ ends₁ inc₁ ranks n
  unfilled_of counts₁ ends₁ inc₁ l d =
      let c = written_counts_length M (derived M) in
      let f = rw s.elements_are at (flat s) in
      record {
        topped = s.topped;
        k_is = s.ranks_are ∙ sym c;
        counts = counts_laid M noted many subs ranks s.notes s.ranks_are counts₀ counts₁ l;
        n_is = s.elements_are;
        elements = rw s.elements_are at d;
        few_counts = omega (arith, few_ranks s);
        few_elements = few_elements s;
        room_counts = omega (arith, room_counts s);
        room_ends = f.room_ends;
        room_inc = f.room_inc;
      }

-- what the copy of the counts and the elements leave, whatever layers the notes are of
module _ {noted many subs up counts₀ ends₀ inc₀ counts₁ ends₁ inc₁ : List ℕ} {ranks n : ℕ}
    (r : (M : Layers) × Source M noted many subs up ranks n (length counts₀) (length ends₀) (length inc₀))
    (l : Laid 0 (λ j. get_or noted (0 + j) 0) ranks counts₀ counts₁)
    (d : (lists : ℕ → List ℕ) → Flat lists many subs up n (length ends₀) (length inc₀)
    → ElementsLaid lists n ends₀ inc₀ ends₁ inc₁) where
  pub unfilled : Unfilled r.0 counts₀ ends₀ inc₀ counts₁ ends₁ inc₁ ranks n
  unfilled = unfilled_of r.1 counts₁ ends₁ inc₁ l (d (lists r.0) (flat r.1))

  pub ranks_inside : ranks ≤ length counts₁
  ranks_inside =
      let w = unfilled in
      omega (arith, w.k_is, w.counts.same_length, w.room_counts)

  pub elements_few : n ≤ limits.elements
  elements_few =
      let w = unfilled in
      omega (arith, w.n_is, w.few_elements)

  pub ends_inside : 2 * n ≤ length ends₁
  ends_inside =
      let w = unfilled in
      omega (arith, w.n_is, w.elements.ends_length, w.room_ends)
