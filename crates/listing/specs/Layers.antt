-- A listing as functions: how many elements a rank has, and which lie directly under which. What lies above can be
-- derived.
--
-- Layers    ranks 0 to top, the elements of each, the indices under each element
-- Topped    there are no elements above the top
-- layers    what a listing's counts and subs say
-- order     the structure of layers: elements are a rank and an index
-- gather    the numbers k below n whose list holds x, in order, once per occurrence
-- derived   the sups of an element, gathered from the subs of the rank above: total, also where a sub does not exist
use Rattle.std.specs.Prelude.{◌≡◌, List, [], ◌++◌, ℕ, zero, suc, ◌<◌, replicate}
use Rattle.order.specs.Lists.{In, occurs}
use Rattle.order.specs.Structure.{Order}
use Rattle.listing.specs.Listing.{Listing, rank, count, subs}

pub record Layers : Type 0 where
  pub top : ℕ
  pub size : ℕ → ℕ
  pub under : ℕ → ℕ → List ℕ

unfoldable pub Topped : Layers → Type 0
Topped M = (r : ℕ) → M.top < r → M.size r ≡ 0

abbrev pub layers : Listing → Layers
layers L = record { top = rank L; size = λ r. count L r; under = λ r i. subs L r i }

abbrev pub order : Layers → Order
order M = record {
  Elem = ℕ × ℕ;
  Exists = λ x. x.1 < M.size x.0;
  rank = λ x. x.0;
  top = M.top;
  Under = λ x y.
      (x.1 < M.size x.0) × (y.1 < M.size y.0) × (y.0 ≡ suc x.0) × In x.1 (M.under y.0 y.1);
}

unfoldable pub gather : (ℕ → List ℕ) → ℕ → ℕ → List ℕ
gather f x zero = []
gather f x (suc n) = gather f x n ++ replicate (occurs x (f n)) n

unfoldable pub derived : Layers → ℕ → ℕ → List ℕ
derived M r a = gather (M.under (suc r)) a (M.size (suc r))
