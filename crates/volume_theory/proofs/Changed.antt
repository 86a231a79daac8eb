-- What a change of the first flag and a move of all vertices do to the sum over the even flags: the one negates it, the
-- other leaves it as it is. The change at rank 1 exchanges the two vertices of an edge, and so negates the part of a
-- flag. Of what a move adds to the parts, two sums cancel along the changes at 1 and then 2, which keep the face, and
-- the third is its own negative along those at 1 and then 3, which keep the edge.
-- Assumes nothing.
use mathlib.Core.Path.{◌≡◌, sym, ap, ap₂, ◌∙◌}
use mathlib.Core.List.{List, Memᴰ}
use Prim.Native.Nat.{ℕ, ◌<◌}
use native.Mathlib.Omega.{arith}
use lib.IntN.{ℤ, pos, neg_ℤ, ◌+ℤ◌, +ℤ_idr}
use lib.Ieee.{Float}
use Rattle.order.specs.Sums.{add_up}
use Rattle.order.proofs.Integers.{own_negative, neg_plus}
use Rattle.order.proofs.AddUp.{add_up_same, add_up_plus, add_up_neg}
use Rattle.listing.specs.Listing.{Listing, rank}
use Rattle.flag_change.specs.Change.{change_at}
use Rattle.volume_metres.specs.Points.{Site, det, site_of}
use Rattle.volume_metres.proofs.Determinants.{det_swap, det_moved}
use Rattle.volume_theory.specs.Six.{cell_rank, even_flags, vertex_at, face_at, other_vertex, lowest_of, part_of, six_of}
use Rattle.volume_theory.specs.Six.{Shifted}
use Rattle.volume_theory.proofs.EvenFlags.{Oriented, even_flag, evens_same, evens_changed, evens_changed_twice}
use Rattle.volume_theory.proofs.Vertices.{kept, inner, vertex_there, face_there, other_there, other_back}
use Rattle.volume_theory.proofs.Vertices.{other_kept, change_flag}
use Rattle.volume_theory.proofs.Lowest.{lowest_there}

module _ {L : Listing} {first : List ℕ} {n : ℕ} (O : Oriented L first n) (R : rank L ≡ cell_rank) (xs : List Float)
  where
    abbrev E : List (List ℕ)
    E = even_flags L first n

    -- ---- where the three vertices of a flag's part stand

    abbrev low : List ℕ → Site
    low f = site_of xs (lowest_of L (face_at f))

    abbrev here : List ℕ → Site
    here f = site_of xs (vertex_at f)

    abbrev beyond : List ℕ → Site
    beyond f = site_of xs (other_vertex L f)

    -- the change at rank 1 exchanges the vertices of the edge, which a change above it keeps
    abbrev turned : List ℕ → List ℕ
    turned f = change_at L 1 f

    low_kept : (f : List ℕ) (r : ℕ) → r < 3 → low (change_at L r f) ≡ low f
    low_kept f r h = ap (λ x. site_of xs (lowest_of L x)) (kept L f r 3 (λ e. omega arith))

    here_kept : (f : List ℕ) (r : ℕ) → 1 < r → here (change_at L r f) ≡ here f
    here_kept f r h = ap (site_of xs) (kept L f r 1 (λ e. omega arith))

    beyond_turned : (f : List ℕ) → Memᴰ f E → beyond (turned f) ≡ here f
    beyond_turned f m = ap (site_of xs) (other_back O.closed R (even_flag O f m))

    beyond_kept : (f : List ℕ) → Memᴰ f E → beyond (change_at L 3 (turned f)) ≡ here f
    beyond_kept f m =
        let F = change_flag O.closed R (even_flag O f m) 1 (omega arith) (omega arith) in
        ap (site_of xs) (other_kept O.closed R F) ∙ beyond_turned f m

    -- ---- a change of the first flag

    part_turned : (f : List ℕ) → Memᴰ f E → part_of L xs (turned f) ≡ neg_ℤ (part_of L xs f)
    part_turned f m = rw (low_kept f 1 (omega arith), beyond_turned f m) (det_swap (low f) (here f) (beyond f))

    -- Changed once, the first flag leads to the negated sum.
    pub six_negated : {k q : ℕ} → 0 < q → q < cell_rank → Oriented L (change_at L q first) k
        → six_of L xs (even_flags L (change_at L q first) k) ≡ neg_ℤ (six_of L xs E)
    six_negated {k} {q} h i P =
        sym (evens_changed O (inner O.closed R q h i) P (inner O.closed R 1 (omega arith) (omega arith))
        (part_of L xs))
        ∙ add_up_same (λ f. part_of L xs (turned f)) (λ f. neg_ℤ (part_of L xs f)) E part_turned
        ∙ add_up_neg (part_of L xs) E

    -- ---- a move by t: what it adds to a part

    module _ (t : Site) where
      abbrev at_low : List ℕ → ℤ
      at_low f = det (low f) (here f) t

      abbrev at_here : List ℕ → ℤ
      at_here f = det (low f) t (beyond f)

      abbrev at_edge : List ℕ → ℤ
      at_edge f = det t (here f) (beyond f)

      -- along the changes at 1 and 2
      low_turned : (f : List ℕ) → at_low (change_at L 2 (turned f)) ≡ neg_ℤ (at_here f)
      low_turned f =
          rw (low_kept (turned f) 2 (omega arith), low_kept f 1 (omega arith), here_kept (turned f) 2 (omega arith))
          (det_swap (low f) t (beyond f))

      low_cancels : add_up at_low E ≡ neg_ℤ (add_up at_here E)
      low_cancels =
          let i = inner O.closed R in
          sym (evens_changed_twice O (i 1 (omega arith) (omega arith)) (i 2 (omega arith) (omega arith)) at_low)
          ∙ add_up_same (λ f. at_low (change_at L 2 (turned f))) (λ f. neg_ℤ (at_here f)) E (λ f m. low_turned f)
          ∙ add_up_neg at_here E

      -- along the changes at 1 and 3
      edge_turned : (f : List ℕ) → Memᴰ f E → at_edge (change_at L 3 (turned f)) ≡ neg_ℤ (at_edge f)
      edge_turned f m =
          rw (here_kept (turned f) 3 (omega arith), beyond_kept f m) (det_swap t (here f) (beyond f))

      edge_cancels : add_up at_edge E ≡ pos 0
      edge_cancels =
          let i = inner O.closed R in
          own_negative (add_up at_edge E)
          (sym (evens_changed_twice O (i 1 (omega arith) (omega arith)) (i 3 (omega arith) (omega arith)) at_edge)
          ∙ add_up_same (λ f. at_edge (change_at L 3 (turned f))) (λ f. neg_ℤ (at_edge f)) E edge_turned
          ∙ add_up_neg at_edge E)

      nothing_added : add_up (λ f. at_low f +ℤ (at_here f +ℤ at_edge f)) E ≡ pos 0
      nothing_added =
          add_up_plus at_low (λ f. at_here f +ℤ at_edge f) E
          ∙ ap₂ ◌+ℤ◌ low_cancels (add_up_plus at_here at_edge E)
          ∙ neg_plus (add_up at_here E) (add_up at_edge E)
          ∙ edge_cancels

      module _ (ys : List Float) (S : Shifted L t xs ys) where
        part_moved : (f : List ℕ) → Memᴰ f E
            → part_of L ys f ≡ part_of L xs f +ℤ (at_low f +ℤ (at_here f +ℤ at_edge f))
        part_moved f m =
            let F = even_flag O f m in
            let C = O.closed in
            rw (
              S _ (lowest_there L C.incident (face_at f) (face_there C R F)),
              S _ (vertex_there C R F),
              S _ (other_there C R F),
            ) (det_moved t (low f) (here f) (beyond f))

        -- All vertices moved alike, the sum is the same.
        pub six_moved : {k : ℕ} → Oriented L first k → six_of L ys (even_flags L first k) ≡ six_of L xs E
        six_moved P =
            evens_same P O (part_of L ys)
            ∙ add_up_same (part_of L ys) (λ f. part_of L xs f +ℤ (at_low f +ℤ (at_here f +ℤ at_edge f))) E part_moved
            ∙ add_up_plus (part_of L xs) (λ f. at_low f +ℤ (at_here f +ℤ at_edge f)) E
            ∙ ap (λ z. add_up (part_of L xs) E +ℤ z) nothing_added
            ∙ +ℤ_idr (add_up (part_of L xs) E)
