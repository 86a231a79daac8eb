-- The even flags of an orientable cell: the changes lead from even flags to odd ones and back, so that what is added up
-- over them can be taken along a change.
-- Assumes nothing.
use mathlib.Core.Path.{◌≡◌, refl, sym, ap, ◌∙◌}
use mathlib.Core.Bool.{Bool, true, false, not}
use mathlib.Core.Logic.{◌↔◌}
use mathlib.Core.List.{List, Memᴰ}
use Prim.Native.Nat.{ℕ, ◌<◌}
use lib.IntN.{ℤ}
use Rattle.order.specs.Steps.{Reach, start, next}
use Rattle.order.specs.Sums.{add_up}
use Rattle.order.proofs.Steps.{Reach-then}
use Rattle.listing.specs.Listing.{Listing, limits, rank}
use Rattle.valid.specs.Closed.{Closed}
use Rattle.flag_change.specs.Flags.{IsFlag}
use Rattle.flag_change.specs.Change.{change_at, Changes}
use Rattle.flag_change.proofs.Changes.{changes}
use Rattle.search_theory.specs.Search.{Neighbour, Once, Colouring}
use Rattle.search_theory.proofs.Evens.{evens_exact, found_evens_once}
use Rattle.search_theory.proofs.Matched.{Into, matched_sum, same_sum}
use Rattle.search_theory.proofs.Orientation.{place_exact}
use Rattle.search_index.specs.Rows.{same_list}
use Rattle.search_index.proofs.Rows.{same_decides}
use Rattle.search_masks.specs.Masks.{every_rank}
use Rattle.search_walk.specs.Searched.{mask_changes, found_by}
use Rattle.search.proofs.Leads.{of_leads, reach_flag}
use Rattle.search.proofs.EveryChange.{every_asked, every_searchable}
use Rattle.volume_theory.specs.Six.{even_flags}

not_not : (a : Bool) → not (not a) ≡ a
not_not true = refl
not_not false = refl

-- a search with every change from a flag of a closed listing that found all, and found it orientable
pub record Oriented (L : Listing) (first : List ℕ) (room : ℕ) : Type 0 where
  pub closed : Closed limits L
  pub is_flag : IsFlag L first
  pub all : (found_by L first (every_rank (rank L)) room).overflow ≡ false
  pub orientable : (found_by L first (every_rank (rank L)) room).place ≡ 0

-- ---- one step

-- a rank at which there are changes
abbrev Inner : Listing → ℕ → Type 0
Inner L r = (0 < r) × (r < rank L)

-- one change leads from a flag to another
abbrev Step : Listing → List ℕ → List ℕ → Type 0
Step L = Neighbour (mask_changes L (every_rank (rank L)))

module _ {L : Listing} (C : Closed limits L) where
  change : {f : List ℕ} → IsFlag L f → {r : ℕ} → Inner L r → Changes L f r
  change {f} F {r} i = changes L C r i.0 i.1 f F

  change_next : {f : List ℕ} → IsFlag L f → {r : ℕ} → Inner L r → Step L f (change_at L r f)
  change_next {f} F {r} i =
      let c = change F i in
      of_leads (every_searchable C F) f (change_at L r f) F
      (record { at = r; in_mask = every_asked C i; is_flag = c.is_flag; changed = c.changed })

-- ---- the flags of one colour

module _ (L : Listing) {first : List ℕ} (c : Colouring (Step L) first) where
  -- f is reachable and has the colour a
  record Side (a : Bool) (f : List ℕ) : Type 0 where
    reached : Reach (Step L) first f
    colour : c.colour f ≡ a

  -- a list has the flags of that colour, each once
  record Has (a : Bool) (l : List (List ℕ)) : Type 0 where
    once : Once l
    members : (f : List ℕ) → Memᴰ f l ↔ Side a f

module _ {L : Listing} {first : List ℕ} (C : Closed limits L) (F : IsFlag L first) (c : Colouring (Step L) first) where
  side_flag : {a : Bool} {f : List ℕ} → Side L c a f → IsFlag L f
  side_flag s = reach_flag (every_searchable C F) s.reached

  -- a change leads to the other colour, and back
  side_change : {a : Bool} {f : List ℕ} {r : ℕ} → Inner L r → Side L c a f → Side L c (not a) (change_at L r f)
  side_change {f = f} i s =
      let n = change_next C (side_flag s) i in
      record { reached = next s.reached n; colour = c.flips f _ s.reached n ∙ ap not s.colour }

  side_back : {a : Bool} {f : List ℕ} {r : ℕ} → Inner L r → Side L c a f → change_at L r (change_at L r f) ≡ f
  side_back i s = (change C (side_flag s) i).back

  -- the sum over one colour, along a change, is the sum over the other
  sum_changed : {a : Bool} {l m : List (List ℕ)} → Has L c a l → Has L c (not a) m → {r : ℕ} → Inner L r
      → (g : List ℕ → ℤ) → add_up (λ f. g (change_at L r f)) l ≡ add_up g m
  sum_changed {a} {l} {m} H K {r} i g =
      matched_sum (change_at L r) (change_at L r) l m H.once K.once there back g
    where
      there : Into (change_at L r) (change_at L r) l m
      there f h = let s = (H.members f).0 h in ((K.members _).1 (side_change i s), side_back i s)

      back : Into (change_at L r) (change_at L r) m l
      back f h =
          let s = (K.members f).0 h in
          ((H.members _).1 (rw (not_not a) at (side_change i s)), side_back i s)

  -- along two changes it is the sum over the same colour
  sum_changed_twice : {a : Bool} {l : List (List ℕ)} → Has L c a l → {r s : ℕ} → Inner L r → Inner L s
      → (g : List ℕ → ℤ) → add_up (λ f. g (change_at L s (change_at L r f))) l ≡ add_up g l
  sum_changed_twice {a} {l} H {r} {s} i j g =
      matched_sum (λ f. change_at L s (change_at L r f)) (λ f. change_at L r (change_at L s f)) l l H.once H.once
      (both i j) (both j i) g
    where
      both : {p q : ℕ} → Inner L p → Inner L q
          → Into (λ f. change_at L q (change_at L p f)) (λ f. change_at L p (change_at L q f)) l l
      both {p} {q} u v f h =
          let y = (H.members f).0 h in
          let z = side_change u y in (
            (H.members _).1 (rw (not_not a) at (side_change v z)),
            ap (change_at L p) (side_back v z) ∙ side_back u y,
          )

-- ---- the even flags found

module _ {L : Listing} {first : List ℕ} {room : ℕ} (O : Oriented L first room) where
  abbrev C : Closed limits L
  C = O.closed

  colouring : Colouring (Step L) first
  unfolding found_by
  colouring = (place_exact same_list same_decides room (mask_changes L (every_rank (rank L))) first O.all).0
      O.orientable

  -- they are those of the colour of the first flag, by any colouring
  evens_has : (c : Colouring (Step L) first) → Has L c (c.colour first) (even_flags L first room)
  unfolding even_flags found_by
  evens_has c =
      let e = evens_exact same_list same_decides room (mask_changes L (every_rank (rank L))) first O.all c in
      record {
        once = found_evens_once same_list same_decides room (mask_changes L (every_rank (rank L))) first O.all c;
        members = λ f. (
          λ m. let p = (e f).0 m in record { reached = p.0; colour = p.1 },
          λ s. (e f).1 (s.reached, s.colour),
        );
      }

  -- They are flags.
  pub even_flag : (f : List ℕ) → Memᴰ f (even_flags L first room) → IsFlag L f
  even_flag f m = side_flag C O.is_flag colouring (((evens_has colouring).members f).0 m)

  -- What is added up over the even flags is the same along two changes.
  pub evens_changed_twice : {r s : ℕ} → (0 < r) × (r < rank L) → (0 < s) × (s < rank L) → (g : List ℕ → ℤ)
      → add_up (λ f. g (change_at L s (change_at L r f))) (even_flags L first room) ≡ add_up g (even_flags L first room)
  evens_changed_twice i j g = sum_changed_twice C O.is_flag colouring (evens_has colouring) i j g

-- Another search from the same flag finds the same even flags.
pub evens_same : {L : Listing} {first : List ℕ} {n k : ℕ} → Oriented L first n → Oriented L first k → (g : List ℕ → ℤ)
    → add_up g (even_flags L first n) ≡ add_up g (even_flags L first k)
evens_same {L} {first} {n} {k} O P g =
    let c = colouring O in
    let H = evens_has O c in
    let K = evens_has P c in
    same_sum (even_flags L first n) (even_flags L first k) H.once K.once
    (λ f m. (K.members f).1 ((H.members f).0 m)) (λ f m. (H.members f).1 ((K.members f).0 m)) g

-- ---- from a flag one change away

module _ {L : Listing} {first : List ℕ} {n k q : ℕ} (O : Oriented L first n) (i : (0 < q) × (q < rank L))
    (P : Oriented L (change_at L q first) k) where
  abbrev G : List ℕ
  G = change_at L q first

  there : Step L first G
  there = change_next O.closed O.is_flag i

  home : Reach (Step L) G first
  home =
      let c = change O.closed O.is_flag i in
      next start (rw c.back at (change_next O.closed c.is_flag i))

  -- what one of the two reaches the other reaches
  from_first : {f : List ℕ} → Reach (Step L) G f → Reach (Step L) first f
  from_first h = Reach-then (next start there) h

  abbrev colours : Colouring (Step L) G
  colours = record {
    colour = (colouring O).colour;
    flips = λ x y h m. (colouring O).flips x y (from_first h) m;
  }

  -- The even flags found from there are the odd ones.
  odds_has : Has L (colouring O) (not ((colouring O).colour first)) (even_flags L G k)
  odds_has =
      let H = evens_has P colours in
      let e = (colouring O).flips first G start there in
      record {
        once = H.once;
        members = λ f. (
          λ m.
              let s = (H.members f).0 m in
              record { reached = from_first s.reached; colour = s.colour ∙ e },
          λ s. (H.members f).1 (record { reached = Reach-then home s.reached; colour = s.colour ∙ sym e }),
        );
      }

  -- What is added up over these is what is added up over the even flags along a change.
  pub evens_changed : {r : ℕ} → (0 < r) × (r < rank L) → (g : List ℕ → ℤ)
      → add_up (λ f. g (change_at L r f)) (even_flags L first n) ≡ add_up g (even_flags L G k)
  evens_changed j g =
      sum_changed O.closed O.is_flag (colouring O) (evens_has O (colouring O)) odds_has j g
