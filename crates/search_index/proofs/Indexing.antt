-- The chained index: the way back along a chain finds the row of a flag, and one more row goes to the front of its
-- chain.
-- Assumes nothing.
use mathlib.Core.Path.{◌≡◌, sym, ap, ◌∙◌}
use mathlib.Core.Bool.{true, false}
use mathlib.Core.List.{List, [], Memᴰ}
use Prim.Native.Nat.{ℕ, ◌+◌, ◌-◌, ◌*◌, ◌≤◌, ◌<◌}
use native.Mathlib.Decide.{ℕ_discrete}
use native.Mathlib.Omega.{arith}
use lib.ListN.{length, get_or, set, length-set}
use lib.Seq.{get_or-set_same, get_or-set_other, paste}
use Rattle.listing.specs.Listing.{limits}
use Rattle.search_theory.specs.Search.{index_in}
use Rattle.search_index.specs.Chain.{latest, WayBack}
use Rattle.search_theory.proofs.Once.{once_snoc}
use Rattle.search_theory.proofs.Lookup.{index_none, index_only, index_in_lem}
use Rattle.search_index.proofs.Chain.{latest_this, latest_other, latest_exact, latest_alike, back_start}
use Rattle.search_index.proofs.Chain.{back_next}
use Rattle.search_index.specs.Rows.{row_of, rows, same_list}
use Rattle.search_index.specs.Hash.{hashes, hash_of}
use Rattle.search_index.specs.Index.{Indexed, entered}
use Rattle.search_index.specs.declared.index.Chains.{Chains}
use Rattle.search_index.proofs.Rows.{same_decides, rows_length, rows_at, put_kept, put_row, put_rows, put_length}

-- ---- the way back

-- it has come down to the number p
pub record Down (w n : ℕ) (table y : List ℕ) (p : ℕ) : Type 0 where
  pub most : p ≤ n
  pub back : WayBack same_list hash_of (row_of w table) n y p

module _ (w n : ℕ) (table : List ℕ) (chains : Chains) (x : Indexed w n table chains) (y : List ℕ) where
  pub down_start : (h : ℕ) → h < hashes → h ≡ hash_of y → Down w n table y (get_or chains.heads h 0)
  down_start h i e =
      rw (x.head h i, e) (record {
        most = (latest_exact hash_of (row_of w table) (hash_of y) n).most;
        back = back_start same_list same_decides hash_of (row_of w table) n y;
      })

  module _ (p : ℕ) (d : Down w n table y p) (z : 0 < p) where
    pub chain_below : get_or chains.next (p - 1) 0 ≤ p - 1
    chain_below =
        rw (x.chain (p - 1) (omega (arith, d.most)))
        (latest_exact hash_of (row_of w table) (hash_of (row_of w table (p - 1))) (p - 1)).most

    pub down_next : same_list (row_of w table (p - 1)) y ≡ false → Down w n table y (get_or chains.next (p - 1) 0)
    down_next e = record {
      most = omega (arith, chain_below, d.most);
      back =
          rw (x.chain (p - 1) (omega (arith, d.most)))
          (back_next same_list same_decides hash_of (row_of w table) n y p d.back z e);
    }

    pub down_found : same_list (row_of w table (p - 1)) y ≡ true → p - 1 ≡ index_in same_list (rows w table n) y
    down_found e =
        let i : p - 1 < n = omega (arith, d.most) in
        sym (index_only same_list same_decides (rows w table n) [] y (p - 1) x.once
        (omega (arith, rows_length w table n))
        (rw (rows_at w table n (p - 1) [] i) e))

  pub down_none : Down w n table y 0 → n ≡ index_in same_list (rows w table n) y
  down_none d =
      sym (index_none same_list (rows w table n) [] y none ∙ rows_length w table n)
    where
      none : (k : ℕ) → k < length (rows w table n) → same_list (get_or (rows w table n) k []) y ≡ false
      none k h =
          let i : k < n = omega (arith, rows_length w table n) in
          rw (rows_at w table n k [] i) (d.back.none k (omega arith) i)

-- ---- one more row

module _ (n : ℕ) (table : List ℕ) (chains : Chains) (flag : List ℕ) (x : Indexed (length flag) n table chains) (h : ℕ)
    (i : h < hashes) (e : h ≡ hash_of flag) (fits : n * length flag + length flag ≤ length table)
    (more : n < limits.flags)
  where
    abbrev w : ℕ
    w = length flag

    -- the table with the flag in row n
    abbrev T : List ℕ
    T = paste table (n * w) flag w

    row_stays : (k : ℕ) → k < n → row_of w T k ≡ row_of w table k
    row_stays k m = put_kept table n flag fits k m

    last : hash_of (row_of w T n) ≡ h
    last = ap hash_of (put_row table n flag fits) ∙ sym e

    alike : (g m : ℕ) → m ≤ n → latest hash_of (row_of w table) g m ≡ latest hash_of (row_of w T) g m
    alike g m l = latest_alike hash_of (row_of w table) (row_of w T) g m (λ k b. sym (row_stays k (omega arith)))

    head_more : (g : ℕ) → g < hashes
        → get_or (entered chains h n).heads g 0 ≡ latest hash_of (row_of w T) g (n + 1)
    head_more g b = go (ℕ_discrete g h)
      where
        go : Dec (g ≡ h) → get_or (set chains.heads h (n + 1)) g 0 ≡ latest hash_of (row_of w T) g (n + 1)
        go (yes q) =
            rw q (get_or-set_same chains.heads h (n + 1) 0 (omega (arith, x.all_heads))
            ∙ sym (latest_this hash_of (row_of w T) h n last))
        go (no q) =
            get_or-set_other chains.heads h g (n + 1) 0 q ∙ x.head g b ∙ alike g n (omega arith)
            ∙ sym (latest_other hash_of (row_of w T) g n (λ l. q (sym l ∙ last)))

    chain_more : (k : ℕ) → k < n + 1
        → get_or (entered chains h n).next k 0 ≡ latest hash_of (row_of w T) (hash_of (row_of w T k)) k
    chain_more k b = go (ℕ_discrete k n)
      where
        -- what row n leads to
        v : ℕ
        v = get_or chains.heads h 0

        go : Dec (k ≡ n) → get_or (set chains.next n v) k 0 ≡ latest hash_of (row_of w T) (hash_of (row_of w T k)) k
        go (yes q) =
            rw (q, last) (get_or-set_same chains.next n v 0 (omega (arith, x.all_next))
            ∙ x.head h i ∙ alike h n (omega arith))
        go (no q) =
            let l : k < n = omega arith in
            get_or-set_other chains.next n k v 0 q ∙ x.chain k l
            ∙ rw (row_stays k l) (alike (hash_of (row_of w table k)) k (omega arith))

    missing : n ≤ index_in same_list (rows w table n) flag → ¬ Memᴰ flag (rows w table n)
    missing l m =
        let i = index_in_lem same_list same_decides (rows w table n) flag m in
        omega (arith, i, rows_length w table n)

    pub index_more : n ≤ index_in same_list (rows w table n) flag → Indexed w (n + 1) T (entered chains h n)
    index_more l = record {
      all_heads = length-set chains.heads h (n + 1) ∙ x.all_heads;
      all_next = length-set chains.next n (get_or chains.heads h 0) ∙ x.all_next;
      few = omega arith;
      fits = omega (arith, put_length table n flag fits);
      once = rw (put_rows table n flag fits) (once_snoc (rows w table n) flag x.once (missing l));
      head = head_more;
      chain = chain_more;
    }
