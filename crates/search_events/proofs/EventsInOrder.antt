-- The events one after another: from a new cursor they are the flags in order, with NonOrientable at its place if it
-- came, and then None, however often one asks.
-- Assumes nothing.
use mathlib.Core.Path.{◌≡◌, refl, ap, ◌∙◌}
use mathlib.Core.Bool.{Bool, true, false}
use mathlib.Core.List.{List, ◌∷◌, ◌++◌}
use Prim.Native.Nat.{ℕ, zero, suc, ◌+◌, ◌-◌, ◌≤◌, ◌<◌}
use native.Mathlib.Nat.{zero-add}
use native.Mathlib.Numerals.{add-one}
use native.Mathlib.Omega.{arith}
use borrow.Author.Tests.{leb-true}
use lib.Dec.{leb}
use lib.ListN.{replicate}
use Rattle.std.specs.Prelude.{map, Option, Some, None}
use Rattle.std.proofs.lemmas.List.{map-append}
use Rattle.order.proofs.Tests.{and_true}
use Rattle.search_events.specs.declared.Event.{Event}
use Rattle.search_events.specs.declared.Event.TheVariants.{Flag, NonOrientable}
use Rattle.search_events.specs.Events.{marked, event_at, events, next_at, up_from, events_of, replies}
use Rattle.search_events.proofs.EventRow.{events_more, events_plain, goes_on, stays}
use Rattle.search_events.proofs.EventRow.{flag_before, at_place, flag_after, past_after, flag_plain, past_plain}

-- ---- values in a row

module _ {A : Type 0} where
  up_add : (f : ℕ → A) (i m n : ℕ) → up_from f i (m + n) ≡ up_from f i m ++ up_from f (i + m) n
  unfolding up_from
  up_add f i zero n =
      let e : 0 + n ≡ n = omega arith in
      let d : i + 0 ≡ i = omega arith in
      rw (e, d)
  up_add f i (suc m) n =
      let e : suc m + n ≡ suc (m + n) = omega arith in
      let d : i + suc m ≡ suc i + m = omega arith in
      rw (e, d) (ap {B = List A} (λ l. f i ∷ l) (up_add f (suc i) m n))

  up_same : (f g : ℕ → A) (i n : ℕ) → ((k : ℕ) → i ≤ k → k < i + n → f k ≡ g k) → up_from f i n ≡ up_from g i n
  unfolding up_from
  up_same f g i zero h = refl
  up_same f g i (suc n) h =
      let p = h i (omega arith) (omega arith) in
      let q = up_same f g (suc i) n (λ k l u. h k (omega arith) (omega arith)) in
      λ j. p j ∷ q j

-- the flags from i on, as the places of a row say them
somes : (i n : ℕ) → up_from (λ k. Some (Flag k)) i n ≡ map Some (up_from Flag i n)
unfolding up_from
somes i zero = refl
somes i (suc n) = ap {B = List (Option Event)} (λ l. Some (Flag i) ∷ l) (somes (suc i) n)

-- the same one place further on
later : (i n : ℕ) → up_from (λ k. Some (Flag (k - 1))) (suc i) n ≡ map Some (up_from Flag i n)
unfolding up_from
later i zero = refl
later i (suc n) =
    let e : suc i - 1 ≡ i = omega arith in
    rw e (ap {B = List (Option Event)} (λ l. Some (Flag i) ∷ l) (later (suc i) n))

-- ---- the events of a row

module _ (n p : ℕ) where
  abbrev at : ℕ → Option Event
  at k = event_at k n p

  inside : marked n p ≡ true → p ≤ n
  inside w = leb-true p n (and_true (leb 1 p) (leb p n) w).1

  more_are : marked n p ≡ true
      → up_from at 0 (n + 1) ≡ map Some (up_from Flag 0 p ++ NonOrientable ∷ up_from Flag p (n - p))
  unfolding up_from
  more_are w =
      let k = inside w in
      let e : n + 1 ≡ p + suc (n - p) = omega arith in
      let b = up_same at (λ k. Some (Flag k)) 0 p (λ k _ h. flag_before k n p w (omega arith)) in
      let c = at_place p n p w refl in
      let d = up_same at (λ k. Some (Flag (k - 1))) (suc p) (n - p) (λ k l h. flag_after k n p w l (omega arith)) in
      let s = map-append Some (up_from Flag 0 p) (NonOrientable ∷ up_from Flag p (n - p)) in
      rw (e, up_add at 0 p (suc (n - p)), zero-add p, s)
      (λ j. (b ∙ somes 0 p) j ++ c j ∷ (d ∙ later p (n - p)) j)

  plain_are : marked n p ≡ false → up_from at 0 n ≡ map Some (up_from Flag 0 n)
  plain_are w = up_same at (λ k. Some (Flag k)) 0 n (λ k _ h. flag_plain k n p w (omega arith)) ∙ somes 0 n

  -- The events at the places of the row are the flags in order, with NonOrientable after the first p flags where p is
  -- from 1 to n.
  events_are : up_from at 0 (events n p) ≡ map Some (events_of n p)
  unfolding events events_of
  events_are = go (marked n p) refl
    where
      go : (b : Bool) → marked n p ≡ b → up_from at 0 (events n p) ≡ map Some (events_of n p)
      go true w = rw w (more_are w)
      go false w = rw w (plain_are w)

  -- ---- from place to place

  past : (a : ℕ) → events n p ≤ a → event_at a n p ≡ None
  past a h = go (marked n p) refl
    where
      go : (b : Bool) → marked n p ≡ b → event_at a n p ≡ None
      go true w =
          let k = inside w in
          past_after a n p w (omega (arith, events_more n p w)) (omega (arith, events_more n p w))
      go false w = past_plain a n p w (omega (arith, events_plain n p w))

  -- Past the last event there is None, and the place stays.
  pub past_last : (a : ℕ) → events n p ≤ a → (event_at a n p ≡ None) × (next_at a n p ≡ a)
  past_last a h = (past a h, stays a n p h)

  replies_past : (a k : ℕ) → events n p ≤ a → replies a n p k ≡ replicate k None
  unfolding replies
  replies_past a zero h = refl
  replies_past a (suc k) h =
      rw (past a h, stays a n p h) (ap {B = List (Option Event)} (λ l. None ∷ l) (replies_past a k h))

  replies_on : (a k j : ℕ) → a + k ≡ events n p → replies a n p (k + j) ≡ up_from at a k ++ replicate j None
  unfolding replies up_from
  replies_on a zero j e =
      let d : 0 + j ≡ j = omega arith in
      rw d (replies_past a j (omega arith))
  replies_on a (suc k) j e =
      let d : suc k + j ≡ suc (k + j) = omega arith in
      rw (d, goes_on a n p (omega arith), add-one a)
      (ap {B = List (Option Event)} (λ l. event_at a n p ∷ l) (replies_on (suc a) k j (omega arith)))

  -- From a new cursor the calls say the events in their order, and after the last of them None, each time.
  pub all_replies : (j : ℕ) → replies 0 n p (events n p + j) ≡ map Some (events_of n p) ++ replicate j None
  all_replies j = replies_on 0 (events n p) j (omega arith) ∙ ap (λ l. l ++ replicate j None) events_are
