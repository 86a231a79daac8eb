-- A search along neighbours in the order found, with room for so many, that gives each thing found one of two
-- orientations: a byte, 0 even or 1 odd.
--
-- State         found: what was found, in order. bytes: the byte of each. place: how many were known at the first repeat
--               with another byte than stored, 0 while there was none. overflow: one more was met than there is room for
-- unbegun       the state in which nothing was found
-- add           a new thing is found, with the byte b
-- overfull      one more was met than there is room for
-- place_after   the place after the ith was met again, as one that should have the byte b
-- again         the state after that: all but the place is kept
-- waits         whether the kth is there to be worked
-- index_in      the first index at which a thing stands, the length where it does not
-- meet          a thing is met that should have the byte b: it does nothing after an overflow; a new one is added while
--               there is room
-- meet_all      things are met, in order
-- work          the neighbours of the kth are met, each with the byte that the kth does not have
-- run_for       the kth and those after it are worked, at most d of them
-- run           the kth and those after it are worked, as long as there are any and there was no overflow
-- search        the start is met, with byte 0, and then all are worked
-- Neighbour     y is a neighbour of x
-- Decides       a test of two things says true exactly of equal ones
-- Once          nothing stands twice in a list
-- AtLeast       at least n different things are reachable
-- Beyond        a list has so many things, and one more is reachable
-- Proper        what holds of each state of a search
-- Colouring     two colours that each step from a reachable thing exchanges
-- tone          the byte of a colour, seen from the colour of the start: 0 for the same, 1 for the other
-- evens         the even ones of those found: those whose byte is 0; what stands past the last byte is left out
use Rattle.std.specs.Prelude.{◌≡◌, ◌↔◌, Bool, true, false, cond, not, ◌&&◌, ℕ, zero, suc, ◌-◌, ◌≤◌, ltb, eqb, length, get_or}
use mathlib.Core.List.{List, [], ◌∷◌, ◌++◌, Memᴰ}
use Rattle.order.specs.Steps.{Reach}

pub record State (A : Type 0) : Type 0 where
  pub found : List A
  pub bytes : List ℕ
  pub place : ℕ
  pub overflow : Bool

module _ {A : Type 0} where
  abbrev pub unbegun : State A
  unbegun = record { found = []; bytes = []; place = 0; overflow = false }

  abbrev pub add : ℕ → State A → A → State A
  add b s y = record {
    found = s.found ++ (y ∷ []);
    bytes = s.bytes ++ (b ∷ []);
    place = s.place;
    overflow = s.overflow;
  }

  abbrev pub overfull : State A → State A
  overfull s = record { found = s.found; bytes = s.bytes; place = s.place; overflow = true }

  unfoldable pub place_after : ℕ → State A → ℕ → ℕ
  place_after b s i = cond (eqb s.place 0 && not (eqb (get_or s.bytes i 0) b)) (length s.found) s.place

  abbrev pub again : ℕ → State A → ℕ → State A
  again b s i = record { found = s.found; bytes = s.bytes; place = place_after b s i; overflow = s.overflow }

  unfoldable pub waits : ℕ → State A → Bool
  waits k s = not s.overflow && ltb k (length s.found)

module _ {A : Type 0} (same : A → A → Bool) where
  unfoldable pub index_in : List A → A → ℕ
  index_in [] y = 0
  index_in (x ∷ l) y = cond (same x y) 0 (suc (index_in l y))

  module _ (room : ℕ) where
    unfoldable pub meet : ℕ → State A → A → State A
    meet b s y =
        cond s.overflow s
        (cond (ltb (index_in s.found y) (length s.found)) (again b s (index_in s.found y))
        (cond (ltb (length s.found) room) (add b s y)
        (overfull s)))

    unfoldable pub meet_all : ℕ → State A → List A → State A
    meet_all b s [] = s
    meet_all b s (y ∷ l) = meet_all b (meet b s y) l

    module _ (nbrs : A → List A) (a : A) where
      unfoldable pub work : ℕ → State A → State A
      work k s = meet_all (1 - get_or s.bytes k 0) s (nbrs (get_or s.found k a))

      unfoldable pub run_for : ℕ → ℕ → State A → State A
      run_for zero k s = s
      run_for (suc d) k s = elim (waits k s) [ true ↦ run_for d (suc k) (work k s) | false ↦ s ]

      unfoldable pub run : ℕ → State A → State A
      unfolding run_for
      run k s = run_for (room - k) k s

      unfoldable pub search : State A
      search = run 0 (meet 0 unbegun a)

module _ {A : Type 0} where
  abbrev pub Neighbour : (A → List A) → A → A → Type 0
  Neighbour nbrs x y = Memᴰ y (nbrs x)

  abbrev pub Decides : (A → A → Bool) → Type 0
  Decides same = (x y : A) → (same x y ≡ true) ↔ (x ≡ y)

  unfoldable pub Once : List A → Type 0
  Once [] = Unit {0}
  Once (x ∷ l) = (¬ Memᴰ x l) × Once l

  pub record AtLeast (n : ℕ) (R : A → A → Type 0) (a : A) : Type 0 where
    pub things : List A
    pub many : length things ≡ n
    pub once : Once things
    pub reached : (x : A) → Memᴰ x things → Reach R a x

  pub record Beyond (room : ℕ) (R : A → A → Type 0) (a : A) (l : List A) : Type 0 where
    pub many : length l ≡ room
    pub thing : A
    pub missing : ¬ Memᴰ thing l
    pub reached : Reach R a thing

  pub record Proper (room : ℕ) (R : A → A → Type 0) (a : A) (s : State A) : Type 0 where
    pub once : Once s.found
    pub fits : length s.found ≤ room
    pub reached : (x : A) → Memᴰ x s.found → Reach R a x
    pub paired : length s.bytes ≡ length s.found
    pub binary : (k : ℕ) → get_or s.bytes k 0 ≤ 1
    pub placed : s.place ≤ length s.found
    pub beyond : s.overflow ≡ true → Beyond room R a s.found

  pub record Colouring (R : A → A → Type 0) (a : A) : Type 0 where
    pub colour : A → Bool
    pub flips : (x y : A) → Reach R a x → R x y → colour y ≡ not (colour x)

unfoldable pub tone : Bool → Bool → ℕ
tone true true = 0
tone true false = 1
tone false true = 1
tone false false = 0

module _ {A : Type 0} where
  unfoldable pub evens : List A → List ℕ → List A
  evens [] bytes = []
  evens (x ∷ l) [] = []
  evens (x ∷ l) (b ∷ bytes) = cond (eqb b 0) (x ∷ evens l bytes) (evens l bytes)
