-- Numbers stored from a place on: past the end nothing is, a run of one number fills a part, two runs are one, and
-- where they end counts a start of the slice; a run that is stored part by part; and what is read out of a run.
-- Assumes nothing.
use mathlib.Core.Path.{◌≡◌, refl, sym, ap, ◌∙◌}
use mathlib.Core.Bool.{Bool, true, false}
use mathlib.Core.List.{List, [], ◌∷◌, ◌++◌, append-nil, append_assoc}
use Prim.Native.Nat.{ℕ, suc, ◌+◌, ◌-◌, ◌≤◌, ◌<◌, min}
use native.Mathlib.Nat.{add-zero, add-suc, suc-add}
use native.Mathlib.Omega.{arith}
use borrow.Author.Tests.{leb-true, leb-false}
use lib.Dec.{leb}
use lib.ListN.{length, get_or, set, replicate, length-append, length-replicate, length-take}
use lib.ListN.{get_or-replicate, get_or-append, get_or-eq_default, take, drop}
use borrow.Rule.Slice.PartMut.{put_mid}
use Rattle.std.proofs.lemmas.List.{replicate-append-replicate}
use Rattle.std.proofs.lemmas.List.Edits.{paste_all, sets-eq}
use Rattle.std.proofs.lemmas.Slice.{put_mid-paste}
use lib.Seq.{sets, set_out, length-sets, get_or-append-add}
use Rattle.lent_input.specs.Counts.{IsPrefixLen}
use Rattle.replay_reading.specs.declared.text.Item.{Item}
use Rattle.replay_reading.specs.Text.{Stored, pending}

pub sets_out : (l : List ℕ) (i : ℕ) (vs : List ℕ) → length l ≤ i → sets l i vs ≡ l
sets_out l i [] h = refl
sets_out l i (v ∷ vs) h = rw (set_out l i v h) (sets_out l (suc i) vs (omega arith))

sets_append : (l : List ℕ) (i : ℕ) (a b : List ℕ) → sets l i (a ++ b) ≡ sets (sets l i a) (i + length a) b
sets_append l i [] b = rw add-zero
sets_append l i (v ∷ a) b = sets_append (set l i v) (suc i) a b ∙ rw (suc-add, add-suc)

-- a run of one number, as much of it as there is room for
sets_filled : (l : List ℕ) (i n m v : ℕ) → i ≤ length l → m ≡ min n (length l - i)
    → sets l i (replicate m v) ≡ sets l i (replicate n v)
sets_filled l i n m v h e = go (leb n m) refl
  where
    go : (q : Bool) → leb n m ≡ q → sets l i (replicate m v) ≡ sets l i (replicate n v)
    go true t =
        let k : n ≤ m = leb-true n m t in
        let s : m ≡ n = omega arith in
        ap (λ (j : ℕ). sets l i (replicate j v)) s
    go false t =
        let k : m < n = leb-false n m t in
        let whole : replicate m v ++ replicate (n - m) v ≡ replicate n v =
        replicate-append-replicate m (n - m) v ∙ ap (λ (j : ℕ). replicate j v) (omega arith) in
        let past : length (sets l i (replicate m v)) ≤ i + length (replicate m v) =
        omega (arith, length-sets l i (replicate m v), length-replicate m v) in
        sym (
        sym (ap (sets l i) whole)
        ∙ sets_append l i (replicate m v) (replicate (n - m) v)
        ∙ sets_out (sets l i (replicate m v)) (i + length (replicate m v)) (replicate (n - m) v) past
        )

pub filled : (l held : List ℕ) (i n m k v : ℕ) → i ≤ length l → m ≡ min n (length l - i) → k ≡ m
    → held ≡ replicate m v → Stored (replicate n v) i l (put_mid i k l held) (i + m)
filled l held i n m k v h e f g =
    let run : List ℕ = replicate m v in
    let long : length run ≡ m = length-replicate m v in
    let room : i + length run ≤ length l = omega arith in
    record {
      up_to = omega (arith, length-replicate n v);
      holds =
          put_mid-paste i k l held run m g (sym f) (sym long)
          ∙ paste_all l i run m (sym long)
          ∙ ap (λ (j : ℕ). take i l ++ (run ++ drop (i + j) l)) (sym long)
          ∙ sym (append_assoc (take i l) run (drop (i + length run) l))
          ∙ sym (sets-eq run l i room)
          ∙ sets_filled l i n m v h e;
    }

-- a second run goes on where the first came to, or stores nothing
pub sets_on : (l : List ℕ) (i : ℕ) (a b : List ℕ)
    → sets (sets l i a) (min (i + length a) (length l)) b ≡ sets l i (a ++ b)
sets_on l i a b = go (leb (i + length a) (length l)) refl ∙ sym (sets_append l i a b)
  where
    go : (q : Bool) → leb (i + length a) (length l) ≡ q
        → sets (sets l i a) (min (i + length a) (length l)) b ≡ sets (sets l i a) (i + length a) b
    go true e =
        let k : min (i + length a) (length l) ≡ i + length a = omega (arith, leb-true (i + length a) (length l) e) in
        ap (λ (n : ℕ). sets (sets l i a) n b) k
    go false e =
        let f : length l < i + length a = leb-false (i + length a) (length l) e in
        let n : length (sets l i a) ≡ length l = length-sets l i a in
        let k : min (i + length a) (length l) ≡ length l = omega arith in
        let o = sets_out (sets l i a) (i + length a) b (omega arith) in
        rw k (sets_out (sets l i a) (length l) b (omega arith) ∙ sym o)

-- after one run is stored, a second is left as it was before both
module _ {a : List ℕ} {i : ℕ} {l m : List ℕ} {j : ℕ} (p : Stored a i l m j) (b : List ℕ) where
  pub stored_length : length m ≡ length l
  stored_length = ap length p.holds ∙ length-sets l i a

  pub stored_on : sets m j b ≡ sets l i (a ++ b)
  stored_on = rw (p.holds, p.up_to) (sets_on l i a b)

  pub stored_up : min (j + length b) (length l) ≡ min (i + length (a ++ b)) (length l)
  stored_up = omega (arith, p.up_to, length-append a b)

pub stored_counts : {a : List ℕ} {i : ℕ} {l m : List ℕ} {j : ℕ} → Stored a i l m j → IsPrefixLen j m
stored_counts {m = m} {j} p =
    let h : j ≤ length m = omega (arith, p.up_to, stored_length p []) in
    (h, simp length-take (omega arith))

-- a run stored part by part: what is left of it, from place n of what is held by now, makes what is to be stored
pub record Storing (new : List ℕ) (from : ℕ) (old rest : List ℕ) (n : ℕ) (held : List ℕ) : Type 0 where
  pub inside : n ≤ length held
  pub long : length held ≡ length old
  pub up_to : min (n + length rest) (length old) ≡ min (from + length new) (length old)
  pub makes : sets held n rest ≡ sets old from new

module _ (new : List ℕ) (from : ℕ) (old : List ℕ) where
  pub storing_all : from ≤ length old → Storing new from old new from old
  storing_all h = record { inside = h; long = refl; up_to = refl; makes = refl }

  pub storing_on : {rest : List ℕ} {n : ℕ} {held : List ℕ} → Storing new from old rest n held
      → (a more : List ℕ) → rest ≡ a ++ more → {j : ℕ} {m : List ℕ} → Stored a n held m j
      → Storing new from old more j m
  storing_on s a more e p =
      let l = stored_length p more in
      record {
        inside = omega (arith, p.up_to);
        long = l ∙ s.long;
        up_to = rw s.long at (stored_up p more) ∙ rw (← e) s.up_to;
        makes = stored_on p more ∙ rw (← e) s.makes;
      }

  pub storing_end : {rest : List ℕ} {n : ℕ} {held : List ℕ} → Storing new from old rest n held → rest ≡ []
      → Stored new from old held n
  storing_end {n = n} {held} s e =
      let z = rw e at s.up_to in
      record { up_to = omega (arith, s.inside, s.long); holds = rw e at s.makes }

  pub storing_last : {rest : List ℕ} {n : ℕ} {held : List ℕ} → Storing new from old rest n held → {j : ℕ} {m : List ℕ}
      → Stored rest n held m j → Stored new from old m j
  storing_last {rest} s p = storing_end (storing_on s rest [] (sym (append-nil rest)) p) refl

module _ (n v : ℕ) (l : List ℕ) (k : ℕ) where
  pub run_in : k < n → get_or (replicate n v ++ l) k 0 ≡ v
  run_in h = get_or-append (replicate n v) l 0 k (rw length-replicate h) ∙ get_or-replicate n k v 0 h

  pub run_past : n ≤ k → get_or (replicate n v ++ l) k 0 ≡ get_or l (k - n) 0
  run_past h =
      let e : k ≡ length (replicate n v) + (k - n) = omega (arith, length-replicate n v) in
      ap (λ (j : ℕ). get_or (replicate n v ++ l) j 0) e ∙ get_or-append-add (replicate n v) l (k - n) 0

-- a number of the last run
module _ (m : ℕ) (s : Item) (k : ℕ) where
  pub pending_in : k < s.times → get_or (pending m s) k 0 ≡ min s.value m
  pending_in h = get_or-replicate s.times k (min s.value m) 0 h

  pub pending_past : s.times ≤ k → get_or (pending m s) k 0 ≡ 0
  pending_past h = get_or-eq_default (pending m s) 0 (omega (arith, length-replicate s.times (min s.value m)))

-- the laws of numbers that are read out of runs
pub ruleset runs = (run_in, run_past, pending_in, pending_past)
