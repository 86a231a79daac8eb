-- Numbers written at cursors: none, one, and a run of them after another.
-- Assumes nothing.
use mathlib.Core.Path.{◌≡◌, refl, sym, ap, ◌∙◌}
use mathlib.Core.List.{List, [], ◌∷◌, ◌++◌}
use Prim.Native.Nat.{ℕ, ◌+◌, ◌-◌, ◌≤◌, ◌<◌}
use native.Mathlib.Decide.{dec_lt, ℕ_discrete}
use native.Mathlib.Omega.{arith}
use lib.ListN.{length, get_or, set, replicate, length-append, length-set, length-replicate, get_or-append}
use lib.Seq.{get_or-set_same, get_or-set_other, get_or-append-add}
use Rattle.order.specs.Lists.{occurs}
use Rattle.listing_sups.specs.Sups.{Raised, Strewn, Apart}
use Rattle.order.proofs.Lists.{occurs_own, occurs_apart}

module _ (from n : ℕ) where
  pub strewn_none : (so : ℕ → List ℕ) (next inc : List ℕ) → ((x : ℕ) → x < n → length (so x) ≡ 0)
      → Strewn from n so next inc inc
  strewn_none so next inc z = record {
    same_length = refl;
    at = λ x j h l. absurd (omega (arith, z x h));
    rest = λ p h. refl;
  }

  -- ---- one entry, that names an element or none

  module _ (x k : ℕ) (next inc : List ℕ) where
    abbrev one : ℕ → List ℕ
    one y = replicate (occurs y (x ∷ [])) k

    abbrev place : ℕ
    place = get_or next (from + x) 0

    pub strewn_past : n ≤ x → Strewn from n one next inc inc
    strewn_past h =
        strewn_none one next inc
        (λ y l. length-replicate (occurs y (x ∷ [])) k ∙ occurs_apart y x (omega arith))

    one_at : (y j : ℕ) → place < length inc → j < length (one y)
        → get_or (set inc place k) (get_or next (from + y) 0 + j) 0 ≡ get_or (one y) j 0
    one_at y j r l = go (ℕ_discrete x y)
      where
        m : length (one y) ≡ occurs y (x ∷ [])
        m = length-replicate (occurs y (x ∷ [])) k

        go : Dec (x ≡ y) → get_or (set inc place k) (get_or next (from + y) 0 + j) 0 ≡ get_or (one y) j 0
        go (no d) = absurd (omega (arith, m, occurs_apart y x d))
        go (yes e) =
            let z : j ≡ 0 = omega (arith, m, occurs_own x, ap (λ (t : ℕ). occurs t (x ∷ [])) e) in
            let q : place + 0 ≡ place = omega arith in
            rw (← e, z, q, occurs_own x) (get_or-set_same inc place k 0 r)

    pub strewn_one : x < n → place < length inc → Strewn from n one next inc (set inc place k)
    strewn_one h r = record {
      same_length = length-set inc place k;
      at = λ y j l b. one_at y j r b;
      rest = λ p out.
          let m : length (one x) ≡ 1 = length-replicate (occurs x (x ∷ [])) k ∙ occurs_own x in
          get_or-set_other inc place p k 0 (λ e. out x 0 h (omega arith) (omega arith));
    }

  -- ---- a run after another

  module _ (so so' tot : ℕ → List ℕ) (size g : ℕ → ℕ) (top : ℕ) (next next' inc inc' inc'' : List ℕ)
      (s : Strewn from n so next inc inc') (r : Raised from n size next next')
      (s' : Strewn from n so' next' inc' inc'')
      (apart : Apart from n g top next) (es : (x : ℕ) → size x ≡ length (so x))
      (fit : (x : ℕ) → x < n → length (so x) + length (so' x) ≤ g x) (et : (x : ℕ) → tot x ≡ so x ++ so' x) where
    cursor : (x : ℕ) → x < n → get_or next' (from + x) 0 ≡ get_or next (from + x) 0 + length (so x)
    cursor x h = omega (arith, r.at x h, es x)

    total : (x : ℕ) → length (tot x) ≡ length (so x) + length (so' x)
    total x = ap length (et x) ∙ length-append (so x) (so' x)

    -- what one run wrote, the next leaves
    kept : (x j y i : ℕ) → x < n → y < n → j < length (so x) → i < length (so' y)
        → get_or next (from + x) 0 + j ≡ get_or next' (from + y) 0 + i → ⊥
    kept x j y i hx hy hj hi e = go (dec_lt x y) (dec_lt y x)
      where
        go : Dec (x < y) → Dec (y < x) → ⊥
        go (yes a) b = omega (arith, cursor y hy, apart.order x y a hy, fit x hx)
        go (no a) (yes b) = omega (arith, cursor y hy, apart.order y x b hx, fit y hy)
        go (no a) (no b) =
            let q : y ≡ x = omega arith in
            let c : get_or next' (from + y) 0 ≡ get_or next (from + x) 0 + length (so x) = rw q (cursor x hx) in
            omega arith

    then_at : (x j : ℕ) → x < n → j < length (tot x)
        → get_or inc'' (get_or next (from + x) 0 + j) 0 ≡ get_or (tot x) j 0
    then_at x j h l = go (dec_lt j (length (so x)))
      where
        go : Dec (j < length (so x)) → get_or inc'' (get_or next (from + x) 0 + j) 0 ≡ get_or (tot x) j 0
        go (yes a) =
            s'.rest (get_or next (from + x) 0 + j) (λ y i hy hi e. kept x j y i h hy a hi e) ∙ s.at x j h a
            ∙ sym (ap (λ (t : List ℕ). get_or t j 0) (et x) ∙ get_or-append (so x) (so' x) 0 j a)
        go (no a) =
            let e : get_or next (from + x) 0 + j ≡ get_or next' (from + x) 0 + (j - length (so x)) =
            omega (arith, cursor x h) in
            let f : length (so x) + (j - length (so x)) ≡ j = omega arith in
            ap (λ (p : ℕ). get_or inc'' p 0) e ∙ s'.at x (j - length (so x)) h (omega (arith, total x))
            ∙ sym (ap (λ (t : List ℕ). get_or t j 0) (et x)
            ∙ rw f at (get_or-append-add (so x) (so' x) (j - length (so x)) 0))

    pub strewn_then : Strewn from n tot next inc inc''
    strewn_then = record {
      same_length = s'.same_length ∙ s.same_length;
      at = then_at;
      rest = λ p out.
          s'.rest p
          (λ x j h l e. out x (length (so x) + j) h (omega (arith, total x)) (omega (arith, cursor x h)))
          ∙ s.rest p (λ x j h l e. out x j h (omega (arith, total x)) e);
    }
