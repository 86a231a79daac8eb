-- What is read: a text is accepted exactly if it is the text of layers within the limits; it is the text of what it
-- says, and of the listing that is read; and it has no second reading.
-- Assumes nothing.
use mathlib.Core.Path.{◌≡◌, refl, sym, ap, ◌∙◌}
use mathlib.Core.Logic.{◌↔◌}
use mathlib.Core.List.{List, [], ◌++◌, append-nil}
use Prim.Native.Nat.{ℕ, suc, ◌<◌}
use native.Mathlib.Decide.{dec_lt}
use native.Mathlib.Omega.{arith}
use Rattle.listing.specs.Listing.{Limits}
use Rattle.listing.specs.Layers.{Layers, Topped, layers, gather, derived}
use Rattle.listing.specs.Written.{written}
use Rattle.listing.proofs.Layers.{in_range, gather_same}
use Rattle.listing.proofs.Written.{written_rank, written_count, written_subs, written_same}
use Rattle.text_theory.specs.Text.{line_count, text_to, text_of}
use Rattle.text_theory.specs.Said.{said, listing_in, text_test}
use Rattle.text_theory.specs.Places.{Run, Readable}
use Rattle.text_theory.proofs.Spots.{spot_below, rank_spot, said_topped}
use Rattle.text_theory.proofs.Alike.{Alike, text_alike}
use Rattle.text_theory.proofs.Runs.{from_rest, run_alike, run_count}
use Rattle.text_theory.proofs.Good.{passed_run, run_passes}
use Rattle.text_theory.proofs.TextTest.{text_passed, text_passes}
use Rattle.text_theory.proofs.Within.{within_each, each_within}

-- ---- layers whose lines are all alike are written alike

module _ (M N : Layers) (s : Topped M) (t : Topped N) (a : Alike M N (line_count M)) where
  all_tops : M.top ≡ N.top
  unfolding line_count
  all_tops = a.tops (omega arith)

  all_sizes : (r : ℕ) → M.size r ≡ N.size r
  unfolding Topped
  all_sizes r = go (dec_lt M.top r)
    where
      go : Dec (M.top < r) → M.size r ≡ N.size r
      go (yes l) = s r l ∙ sym (t r (omega (arith, all_tops)))
      go (no l) =
          let b = spot_below M _ r 0 (rank_spot M r 0 (omega arith) (omega arith)) in
          a.sizes r (omega arith) (omega arith)

  all_lists : (r i : ℕ) → i < M.size r → M.under r i ≡ N.under r i
  all_lists r i h =
      let l = in_range M s r i h in
      a.lists r i l h (spot_below M _ r (suc i) (rank_spot M r (suc i) l (omega arith)))

  all_sups : (r i : ℕ) → derived M r i ≡ derived N r i
  unfolding derived
  all_sups r i =
      gather_same _ _ i (M.size (suc r)) (λ k h. all_lists (suc r) k h)
      ∙ ap (gather (N.under (suc r)) i) (all_sizes (suc r))

  alike_written : written M (derived M) ≡ written N (derived N)
  alike_written = written_same M N (derived M) (derived N) all_tops all_sizes all_lists (λ r i h. all_sups r i)

-- ---- the text of layers says what they are

module _ (M : Layers) (t : List ℕ) (e : text_of M ≡ t) where
  whole : t ≡ text_to M (line_count M) ++ []
  whole = sym e ∙ sym (append-nil (text_of M))

  pub read_is : Topped M → written M (derived M) ≡ listing_in t
  read_is h = alike_written M (said t) h (said_topped t) (run_alike t M (line_count M) [] whole)

pub one_reading : (M N : Layers) → Topped M → Topped N → text_of M ≡ text_of N
    → written M (derived M) ≡ written N (derived N)
one_reading M N p q e = read_is M (text_of N) e p ∙ sym (read_is N (text_of N) refl q)

-- layers as they are written out have the text that they had
pub written_text : (M : Layers) (above : ℕ → ℕ → List ℕ) → Topped M → text_of (layers (written M above)) ≡ text_of M
written_text M above t = sym (text_alike M (layers (written M above)) same)
  where
    same : Alike M (layers (written M above)) (line_count M)
    same = record {
      tops = λ h. sym (written_rank M above);
      sizes = λ r h l. sym (written_count M above t r);
      lists = λ r i h l g. sym (written_subs M above t r i l);
    }

-- ---- what is accepted

module _ (m : Limits) (t : List ℕ) where
  -- all lines are good, and nothing is left
  read_run : (text_test m t).no ≡ 0 → Run m t (said t) (line_count (said t)) []
  read_run e =
      let p = text_passed m t e in
      rw p.2 at (passed_run m t (line_count (said t)) (omega arith) p.1)

  pub text_back : (text_test m t).no ≡ 0 → text_of (said t) ≡ t
  text_back e = sym ((read_run e).good.text ∙ append-nil (text_of (said t)))

  -- also of the listing that was read
  pub text_again : (text_test m t).no ≡ 0 → text_of (layers (listing_in t)) ≡ t
  text_again e = written_text (said t) (derived (said t)) (said_topped t) ∙ text_back e

  read_readable : (text_test m t).no ≡ 0 → Readable m (said t)
  read_readable e =
      let w = each_within m (said t) (said_topped t) (read_run e).within in
      record {
        topped = said_topped t;
        ranks = w.ranks;
        elements = w.elements;
        incidences = w.incidences;
        fit = (read_run e).good.fit;
        short = rw (text_back e) (text_passed m t e).0;
      }

  readable_run : (M : Layers) → Readable m M → text_of M ≡ t → Run m t M (line_count M) []
  readable_run M R e = record {
    good = record { topped = R.topped; there = omega arith; text = whole M t e; fit = R.fit };
    within = within_each m M R.topped
        (record { ranks = R.ranks; elements = R.elements; incidences = R.incidences });
  }

  readable_read : (M : Layers) → Readable m M → text_of M ≡ t → (text_test m t).no ≡ 0
  readable_read M R e =
      let c = run_count t M (line_count M) [] (omega arith) (whole M t e) refl in
      let p = run_passes m t M (line_count M) [] (readable_run M R e) in
      text_passes m t (rw e at R.short) (λ j h. p j (omega arith))
      (rw c (from_rest t M (line_count M) [] (whole M t e)))

  pub reads_exactly : ((text_test m t).no ≡ 0) ↔ ((M : Layers) × Readable m M × (text_of M ≡ t))
  reads_exactly = (λ e. (said t, read_readable e, text_back e), λ r. readable_read r.0 r.1 r.2)
