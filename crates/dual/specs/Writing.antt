-- The counts of a dual; its lists, written one after another into lent slices, each with its end.
--
-- reversed      the numbers of a list, the last first
-- turned_from   the lists of the dual that come from the rank which begins at place `here`: the sups of each element,
--               then its subs
-- ListsPut      from place p on, the n lists f 0 .. f (n - 1) are written, and where each ends; all else is as it was,
--               and r is the place after them
use Rattle.std.specs.Prelude.{◌≡◌, List, ℕ, suc, ◌+◌, ◌-◌, ◌*◌, ◌/◌, ◌%◌, length, get_or}
use Rattle.order.specs.Sums.{sum}
use Rattle.listing.specs.Listing.{entries}
use Rattle.listing.specs.Written.{joined, tabulated, lengths}
use Rattle.listing.specs.Laid.{Laid, LaidList}
use Rattle.dual.specs.declared.write.Place.{Place}

unfoldable pub reversed : List ℕ → List ℕ
reversed l = tabulated (λ k. get_or l (length l - 1 - k) 0) (length l)

unfoldable pub turned_from : List ℕ → List ℕ → ℕ → ℕ → List ℕ
turned_from ends inc here j = entries ends inc (2 * (here + j / 2) + (1 - j % 2))

pub record ListsPut (f : ℕ → List ℕ) (n : ℕ) (p : Place) (ends inc ends' inc' : List ℕ) (r : Place) : Type 0 where
  pub inc_laid : LaidList p.inc (joined f n) inc inc'
  pub ends_laid : Laid p.ends (λ j. p.inc + sum (lengths f) (suc j)) n ends ends'
  pub inc_next : r.inc ≡ p.inc + sum (lengths f) n
  pub ends_next : r.ends ≡ p.ends + n
