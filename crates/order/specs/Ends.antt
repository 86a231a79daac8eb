-- A structure with an element more, or a rank less, at an end; and the product of two structures.
--
-- Added         the elements of a structure and one more
-- AddedExists, added_rank, AddedUnder   which of these exist, their ranks, and which lies directly under which
-- with_min      an element more, directly under all of the lowest rank
-- with_max      an element more, directly over all of the highest rank
-- without_min   the same elements, those of the lowest rank struck, the ranks one lower
-- without_max   the same elements, those of the highest rank struck
-- trim_min, trim_max, grow_min, grow_max   one end taken off, one element added, where the Boolean says so
-- trim          without the minimal rank where min says so, and without the maximal rank where max does
-- grow          with a maximal element where max says so, and with a minimal one where min does
-- InUse         the pairs of what is left of two structures when they are trimmed
-- Product       these pairs, with the ends added again
-- need          how high a factor must be: a rank for each end that is taken off
-- together      how high the two factors must be together
-- as_trimmed    an element, as one of what is left of the structure when it is trimmed
-- as_grown      an element, as one of the structure when it is grown; a pair, as one of the product
-- added_min     the minimal element that is added
-- added_max     the maximal element that is added
use Rattle.std.specs.Prelude.{◌≡◌, Bool, true, false, ℕ, zero, suc, pred, ◌<◌}
use Rattle.order.specs.Structure.{Order, turned}
use Rattle.order.specs.Pairs.{Pairs}

pub data Added (E : Type 0) : Type 0 where
  end : Added E
  old : E → Added E

abbrev pub AddedExists : (W : Order) → Added W.Elem → Type 0
AddedExists W end = Unit {0}
AddedExists W (old x) = W.Exists x

abbrev pub added_rank : (W : Order) → Added W.Elem → ℕ
added_rank W end = zero
added_rank W (old x) = suc (W.rank x)

abbrev pub AddedUnder : (W : Order) → Added W.Elem → Added W.Elem → Type 0
AddedUnder W end end = ⊥
AddedUnder W end (old y) = W.Exists y × (W.rank y ≡ 0)
AddedUnder W (old x) end = ⊥
AddedUnder W (old x) (old y) = W.Under x y

abbrev pub with_min : Order → Order
with_min W = record {
  Elem = Added W.Elem;
  Exists = AddedExists W;
  rank = added_rank W;
  top = suc W.top;
  Under = AddedUnder W;
}

abbrev pub with_max : Order → Order
with_max W = turned (with_min (turned W))

abbrev pub without_min : Order → Order
without_min W = record {
  Elem = W.Elem;
  Exists = λ x. W.Exists x × (0 < W.rank x);
  rank = λ x. pred (W.rank x);
  top = pred W.top;
  Under = λ x y. W.Under x y × (0 < W.rank x);
}

abbrev pub without_max : Order → Order
without_max W = turned (without_min (turned W))

abbrev pub trim_min : Bool → Order → Order
trim_min true W = without_min W
trim_min false W = W

abbrev pub trim_max : Bool → Order → Order
trim_max true W = without_max W
trim_max false W = W

abbrev pub trim : Bool → Bool → Order → Order
trim min max W = trim_max max (trim_min min W)

abbrev pub grow_min : Bool → Order → Order
grow_min true W = with_min W
grow_min false W = W

abbrev pub grow_max : Bool → Order → Order
grow_max true W = with_max W
grow_max false W = W

abbrev pub grow : Bool → Bool → Order → Order
grow min max W = grow_min min (grow_max max W)

abbrev pub InUse : Bool → Bool → Order → Order → Order
InUse min max A B = Pairs (trim min max A) (trim min max B)

abbrev pub Product : Bool → Bool → Order → Order → Order
Product min max A B = grow min max (InUse min max A B)

abbrev pub need : Bool → Bool → ℕ
need true true = 2
need true false = 1
need false true = 1
need false false = 0

abbrev pub together : Bool → Bool → ℕ
together true true = 5
together true false = 0
together false true = 0
together false false = 0

abbrev pub as_trimmed : (min max : Bool) (W : Order) → W.Elem → (trim min max W).Elem
as_trimmed true true W x = x
as_trimmed true false W x = x
as_trimmed false true W x = x
as_trimmed false false W x = x

abbrev pub as_grown : (min max : Bool) (W : Order) → W.Elem → (grow min max W).Elem
as_grown true true W x = old (old x)
as_grown true false W x = old x
as_grown false true W x = old x
as_grown false false W x = x

abbrev pub added_min : (max : Bool) (W : Order) → (grow true max W).Elem
added_min max W = end

abbrev pub added_max : (min : Bool) (W : Order) → (grow min true W).Elem
added_max true W = old end
added_max false W = end
