-- Layers written out as a listing.
--
-- joined      the lists f 0 .. f (n - 1), one after another
-- tabulated   the numbers f 0 .. f (n - 1)
-- lengths     how long each list is
-- list_at     a list of an element: what lies under it at side 0, what lies above it at side 1
-- nth         the nth list of the listing: the subs and the sups of each element in turn, by rank and then index
-- written     the listing that says what the layers say, with the sups given
use Rattle.std.specs.Prelude.{cond, List, [], ◌∷◌, ◌++◌, ℕ, zero, suc, ◌*◌, ◌/◌, ◌%◌, eqb, length}
use Rattle.order.specs.Sums.{sum, part_at}
use Rattle.listing.specs.Listing.{Listing}
use Rattle.listing.specs.Layers.{Layers}

unfoldable pub joined : (ℕ → List ℕ) → ℕ → List ℕ
joined f zero = []
joined f (suc n) = joined f n ++ f n

unfoldable pub tabulated : (ℕ → ℕ) → ℕ → List ℕ
unfolding joined
tabulated f n = joined (λ i. f i ∷ []) n

abbrev pub lengths : (ℕ → List ℕ) → ℕ → ℕ
lengths f n = length (f n)

unfoldable pub list_at : Layers → (ℕ → ℕ → List ℕ) → ℕ → ℕ × ℕ → List ℕ
list_at M above s x = cond (eqb s 0) (M.under x.0 x.1) (above x.0 x.1)

unfoldable pub nth : Layers → (ℕ → ℕ → List ℕ) → ℕ → List ℕ
nth M above n = list_at M above (n % 2) (part_at M.size (suc M.top) (n / 2))

unfoldable pub written : Layers → (ℕ → ℕ → List ℕ) → Listing
written M above =
    let lists = 2 * sum M.size (suc M.top) in
    record {
      counts = tabulated M.size (suc M.top);
      ends = tabulated (λ n. sum (lengths (nth M above)) (suc n)) lists;
      inc = joined (nth M above) lists;
    }
