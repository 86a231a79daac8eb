-- What is taken for six times the volume of a cell of rank 4: a sum over even flags.
--
-- cell_rank      the rank of the cells whose volume is asked for
-- even_flags     the even flags that a search with every change finds from a first flag, with room for so many flags
-- vertex_at      the vertex of a flag
-- edge_at        its edge
-- face_at        its face
-- other_vertex   the other vertex of its edge: what the change at rank 1 puts in
-- lowest_of      the lowest-numbered vertex of a face: the least that a walk along its edges meets
-- part_of        what a flag adds: the determinant of where the lowest vertex of its face, its vertex and the other
--                vertex of its edge stand
-- six_of         what flags add together
-- part_formula   what a flag adds, as a formula
-- six_formula    what flags add, as a formula: one after another, to nothing
-- OtherEnd       w is the other vertex of edge e beside v: both lie in e, and nothing else does
-- LowestIn       v is the lowest-numbered vertex of face i
-- Shifted        a second list of coordinates has each vertex moved by t from where the first has it
use Rattle.std.specs.Prelude.{◌≡◌, ◌≢◌, ◌⊎◌, List, map, ℕ, ◌≤◌, ◌<◌, get_or, ℤ, Float}
use Rattle.order.specs.Lists.{In, least_of}
use Rattle.order.specs.Sums.{add_up}
use Rattle.listing.specs.Listing.{Listing, rank, count, subs}
use Rattle.valid_diamond.specs.Dyadic.{walk}
use Rattle.flag_change.specs.Change.{change_at}
use Rattle.search_theory.specs.Search.{evens}
use Rattle.search_masks.specs.Masks.{every_rank}
use Rattle.search_walk.specs.Searched.{found_by}
use Rattle.volume_metres.specs.Points.{Site, det, moved, site_of}
use Rattle.volume_metres.specs.Formulas.{Formula, nothing, det_formula, running_sum}

abbrev pub cell_rank : ℕ
cell_rank = 4

unfoldable pub even_flags : Listing → List ℕ → ℕ → List (List ℕ)
even_flags L first room =
    let s = found_by L first (every_rank (rank L)) room in
    evens s.found s.bytes

abbrev pub vertex_at : List ℕ → ℕ
vertex_at f = get_or f 1 0

abbrev pub edge_at : List ℕ → ℕ
edge_at f = get_or f 2 0

abbrev pub face_at : List ℕ → ℕ
face_at f = get_or f 3 0

abbrev pub other_vertex : Listing → List ℕ → ℕ
other_vertex L f = vertex_at (change_at L 1 f)

unfoldable pub lowest_of : Listing → ℕ → ℕ
lowest_of L i = least_of (walk L 3 i)

abbrev pub part_of : Listing → List Float → List ℕ → ℤ
part_of L xs f = det (site_of xs (lowest_of L (face_at f))) (site_of xs (vertex_at f)) (site_of xs (other_vertex L f))

abbrev pub six_of : Listing → List Float → List (List ℕ) → ℤ
six_of L xs flags = add_up (part_of L xs) flags

abbrev pub part_formula : Listing → List ℕ → Formula
part_formula L f = det_formula (lowest_of L (face_at f)) (vertex_at f) (other_vertex L f)

unfoldable pub six_formula : Listing → List (List ℕ) → Formula
six_formula L flags = running_sum nothing (map (part_formula L) flags)

pub record OtherEnd (L : Listing) (e v w : ℕ) : Type 0 where
  pub this : In v (subs L 2 e)
  pub other : In w (subs L 2 e)
  pub differs : w ≢ v
  pub only : (x : ℕ) → In x (subs L 2 e) → (x ≡ v) ⊎ (x ≡ w)

pub record LowestIn (L : Listing) (i v : ℕ) : Type 0 where
  pub edge : ℕ
  pub in_face : In edge (subs L 3 i)
  pub in_edge : In v (subs L 2 edge)
  pub least : (e w : ℕ) → In e (subs L 3 i) → In w (subs L 2 e) → v ≤ w

abbrev pub Shifted : Listing → Site → List Float → List Float → Type 0
Shifted L t xs xs' = (v : ℕ) → v < count L 1 → site_of xs' v ≡ moved t (site_of xs v)
