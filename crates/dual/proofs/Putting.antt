-- Lists put one after another, each with its end: none, one, and some behind others; that there is room for the next
-- ones; and all of them, from the very beginning on.
-- Assumes nothing.
use mathlib.Core.Path.{◌≡◌, refl, sym, ap, ◌∙◌}
use mathlib.Core.List.{List}
use Prim.Native.Nat.{ℕ, zero, suc, ◌+◌, ◌≤◌, ◌<◌}
use native.Mathlib.Omega.{arith}
use lib.ListN.{length, set}
use Rattle.order.specs.Sums.{sum}
use Rattle.order.specs.Lists.{over}
use Rattle.order.proofs.Sums.{sum_none, sum_le, sum_same}
use Rattle.listing.specs.Laid.{Laid, LaidList}
use Rattle.listing.specs.Written.{joined, tabulated, lengths}
use Rattle.listing.proofs.Laying.{laid_none, laid_next, laid_then, laid_list, list_then, list_over}
use Rattle.listing.proofs.Sequences.{sum_add}
use Rattle.listing.proofs.Written.{joined_length, joined_add, joined_same, tabulated_length, tabulated_at}
use Rattle.dual.specs.declared.write.Place.{Place}
use Rattle.dual.specs.Writing.{ListsPut}

-- ---- numbers

-- the same numbers, said otherwise
laid_as : (at n : ℕ) (f g : ℕ → ℕ) (d d' : List ℕ) → ((j : ℕ) → j < n → f j ≡ g j) → Laid at f n d d' → Laid at g n d d'
laid_as at n f g d d' same l = record {
  same_length = l.same_length;
  inside = λ j h. l.inside j h ∙ same j h;
  earlier = l.earlier;
  later = l.later;
}

-- numbers from the very beginning on
pub tabulated_over : (f : ℕ → ℕ) (n : ℕ) (old d : List ℕ) → n ≤ length old → Laid 0 f n old d
    → d ≡ over (tabulated f n) old
tabulated_over f n old d h l =
    let e = tabulated_length f n in
    list_over (tabulated f n) old d (omega arith)
    (laid_list 0 old d (tabulated f n) f n e (λ j k. sym (tabulated_at f n j k)) l)

-- ---- lists

pub lists_none : (f : ℕ → List ℕ) (p : Place) (ends inc : List ℕ) → ListsPut f 0 p ends inc ends inc p
unfolding joined
lists_none f p ends inc = record {
  inc_laid = laid_none _ _ inc;
  ends_laid = laid_none _ _ ends;
  inc_next = omega (arith, sum_none (lengths f));
  ends_next = omega arith;
}

-- one list, and its end
module _ (s : List ℕ) (p : Place) (ends inc inc' : List ℕ) where
  pub lists_one : p.ends < length ends → LaidList p.inc s inc inc'
      → ListsPut (λ j. s) 1 p ends inc (set ends p.ends (p.inc + length s)) inc'
      (record { ends = p.ends + 1; inc = p.inc + length s })
  unfolding joined sum
  lists_one h l =
      let e : p.ends + 0 ≡ p.ends = omega arith in
      let f : ℕ → ℕ = λ j. p.inc + sum (lengths (λ k. s)) (suc j) in
      record {
        inc_laid = l;
        ends_laid =
            rw e at (laid_next p.ends f 0 (p.inc + length s) ends ends (laid_none p.ends f ends) (omega arith)
            (omega arith));
        inc_next = omega arith;
        ends_next = refl;
      }

module _ (f : ℕ → List ℕ) (n : ℕ) (p : Place) (ends inc ends' inc' : List ℕ) (q : Place)
    (a : ListsPut f n p ends inc ends' inc' q) where
  -- the same lists, said otherwise
  module _ (g : ℕ → List ℕ) (same : (j : ℕ) → j < n → f j ≡ g j) where
    sums_as : (k : ℕ) → k ≤ n → sum (lengths f) k ≡ sum (lengths g) k
    sums_as k h = sum_same _ _ k (λ j l. ap length (same j (omega arith)))

    pub lists_as : ListsPut g n p ends inc ends' inc' q
    lists_as = record {
      inc_laid = rw (joined_same f g n same) at a.inc_laid;
      ends_laid = laid_as _ n _ _ ends ends' (λ j h. ap (λ (k : ℕ). p.inc + k) (sums_as (suc j) h)) a.ends_laid;
      inc_next = omega (arith, a.inc_next, sums_as n (omega arith));
      ends_next = a.ends_next;
    }

  -- where k others behind them end
  sums_then : (k : ℕ) → p.inc + sum (lengths f) (n + k) ≡ q.inc + sum (lengths (λ j. f (n + j))) k
  sums_then k = omega (arith, sum_add (lengths f) n k, a.inc_next)

  sums_next : (k : ℕ) → p.inc + sum (lengths f) (suc (n + k)) ≡ q.inc + sum (lengths (λ j. f (n + j))) (suc k)
  sums_next k =
      let e : n + suc k ≡ suc (n + k) = omega arith in
      rw e at (sums_then (suc k))

  -- m others behind them
  module _ (m : ℕ) where
    pub lists_then : (ends'' inc'' : List ℕ) (r : Place) → ListsPut (λ j. f (n + j)) m q ends' inc' ends'' inc'' r
        → ListsPut f (n + m) p ends inc ends'' inc'' r
    lists_then ends'' inc'' r b =
        let e : q.inc ≡ p.inc + length (joined f n) = omega (arith, a.inc_next, joined_length f n) in
        let rest = joined (λ j. f (n + j)) m in
        record {
          inc_laid =
              rw (joined_add f n m)
              (list_then _ inc inc' (joined f n) rest inc'' a.inc_laid (rw e at b.inc_laid));
          ends_laid =
              laid_then _ n m _ _ _ ends ends' ends'' a.ends_laid (rw a.ends_next at b.ends_laid) (λ j h. refl)
              (λ j h. sums_next j);
          inc_next = omega (arith, b.inc_next, sums_then m);
          ends_next = omega (arith, a.ends_next, b.ends_next);
        }

    -- there is room for them, as there is for all
    module _ (k : ℕ) (h : n + m ≤ k) where
      pub ends_room : p.ends + k ≤ length ends → q.ends + m ≤ length ends'
      ends_room room = omega (arith, a.ends_next, a.ends_laid.same_length)

      pub inc_room : q.inc + sum (lengths (λ j. f (n + j))) m ≤ p.inc + sum (lengths f) k
      inc_room = omega (arith, sums_then m, sum_le (lengths f) (n + m) k h)

-- a list, said otherwise
pub lists_is : (s : List ℕ) (p : Place) (ends inc ends' inc' : List ℕ) (q : Place) (g : ℕ → List ℕ) → s ≡ g 0
    → ListsPut (λ j. s) 1 p ends inc ends' inc' q → ListsPut g 1 p ends inc ends' inc' q
lists_is s p ends inc ends' inc' q g e a = lists_as (λ j. s) 1 p ends inc ends' inc' q a g same
  where
    same : (j : ℕ) → j < 1 → s ≡ g j
    same zero h = e
    same (suc j) h = absurd (omega arith)

-- ---- all lists

-- the place where the first list is put
abbrev pub none : Place
none = record { ends = 0; inc = 0 }

module _ (f : ℕ → List ℕ) (n : ℕ) (ends inc ends' inc' : List ℕ) (q : Place)
    (a : ListsPut f n none ends inc ends' inc' q) where
  pub ends_over : n ≤ length ends → ends' ≡ over (tabulated (λ k. sum (lengths f) (suc k)) n) ends
  ends_over h = tabulated_over _ n ends ends' h (laid_as 0 n _ _ ends ends' (λ j l. omega arith) a.ends_laid)

  pub inc_over : sum (lengths f) n ≤ length inc → inc' ≡ over (joined f n) inc
  inc_over h = list_over (joined f n) inc inc' (omega (arith, joined_length f n)) a.inc_laid
