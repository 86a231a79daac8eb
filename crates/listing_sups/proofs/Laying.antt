-- Elements written one after another: where their lists begin, and what one more element, and a run of them, leave.
-- Assumes nothing.
use mathlib.Core.Path.{◌≡◌, refl, ap, subst, ◌∙◌}
use mathlib.Core.List.{List}
use Prim.Native.Nat.{ℕ, suc, ◌+◌, ◌*◌, ◌≤◌, ◌<◌}
use native.Mathlib.Decide.{dec_lt}
use native.Mathlib.Omega.{arith}
use lib.ListN.{length, get_or, set, length-set}
use lib.Seq.{get_or-set_same, get_or-set_other}
use Rattle.order.proofs.Sums.{sum_next, sum_le}
use Rattle.listing.specs.Written.{lengths}
use Rattle.listing.specs.Laid.{LaidList}
use Rattle.listing_sups.specs.Filling.{starts, ElementsLaid, Put}

module _ (lists : ℕ → List ℕ) where
  starts_two : (e : ℕ)
      → starts lists (2 * (e + 1)) ≡ starts lists (2 * e) + length (lists (2 * e)) + length (lists (2 * e + 1))
  starts_two e =
      let t : 2 * (e + 1) ≡ 2 * e + 1 + 1 = omega arith in
      rw t (omega (arith, sum_next (lengths lists) (2 * e), sum_next (lengths lists) (2 * e + 1)))

  -- there is room for an element where there is for all n
  pub starts_room : (n e : ℕ) → e < n
      → starts lists (2 * e) + length (lists (2 * e)) + length (lists (2 * e + 1)) ≤ starts lists (2 * n)
  starts_room n e h = omega (arith, starts_two e, sum_le (lengths lists) (2 * (e + 1)) (2 * n) (omega arith))

  pub elements_none : (ends inc : List ℕ) → ElementsLaid lists 0 ends inc ends inc
  elements_none ends inc = record {
    ends_length = refl;
    ends_done = λ t h. absurd (omega arith);
    ends_rest = λ t h. refl;
    inc_length = refl;
    subs_done = λ k j h. absurd (omega arith);
    inc_rest = λ p h. refl;
  }

  -- ---- one element more

  module _ (e c d : ℕ) (ends₀ inc₀ ends inc inc' : List ℕ) (r : ElementsLaid lists e ends₀ inc₀ ends inc)
      (room : 2 * e + 1 < length ends) (hc : c ≡ starts lists (2 * e + 1)) (hd : d ≡ starts lists (2 * (e + 1)))
      (l : LaidList (starts lists (2 * e)) (lists (2 * e)) inc inc') where
    abbrev ends' : List ℕ
    ends' = set (set ends (2 * e) c) (2 * e + 1) d

    next_other : (t : ℕ) → (t ≡ 2 * e → ⊥) → (t ≡ 2 * e + 1 → ⊥) → get_or ends' t 0 ≡ get_or ends t 0
    next_other t f g = get_or-set_other (set ends (2 * e) c) (2 * e + 1) t d 0 g ∙ get_or-set_other ends (2 * e) t c 0 f

    next_first : get_or ends' (2 * e) 0 ≡ c
    next_first =
        get_or-set_other (set ends (2 * e) c) (2 * e + 1) (2 * e) d 0 (omega arith)
        ∙ get_or-set_same ends (2 * e) c 0 (omega arith)

    next_second : get_or ends' (2 * e + 1) 0 ≡ d
    next_second = get_or-set_same (set ends (2 * e) c) (2 * e + 1) d 0 (omega (arith, length-set ends (2 * e) c))

    next_done : (t : ℕ) → t < 2 * (e + 1) → get_or ends' t 0 ≡ starts lists (suc t)
    next_done t h = go (dec_lt t (2 * e)) (dec_lt t (2 * e + 1))
      where
        go : Dec (t < 2 * e) → Dec (t < 2 * e + 1) → get_or ends' t 0 ≡ starts lists (suc t)
        go (yes a) b = next_other t (omega arith) (omega arith) ∙ r.ends_done t a
        go (no a) (yes b) =
            let s : t ≡ 2 * e = omega arith in
            let u : 2 * e + 1 ≡ suc (2 * e) = omega arith in
            rw s (next_first ∙ hc ∙ ap (starts lists) u)
        go (no a) (no b) =
            let s : t ≡ 2 * e + 1 = omega arith in
            let u : 2 * (e + 1) ≡ suc (2 * e + 1) = omega arith in
            rw s (next_second ∙ hd ∙ ap (starts lists) u)

    next_subs : (k j : ℕ) → k < e + 1 → j < length (lists (2 * k))
        → get_or inc' (starts lists (2 * k) + j) 0 ≡ get_or (lists (2 * k)) j 0
    next_subs k j h b = go (dec_lt k e)
      where
        go : Dec (k < e) → get_or inc' (starts lists (2 * k) + j) 0 ≡ get_or (lists (2 * k)) j 0
        go (yes a) = l.earlier _ (omega (arith, starts_room e k a)) ∙ r.subs_done k j a b
        go (no a) =
            let s : e ≡ k = omega arith in
            subst (
            λ (n : ℕ).
            j < length (lists (2 * n)) → get_or inc' (starts lists (2 * n) + j) 0 ≡ get_or (lists (2 * n)) j 0)
            s (λ q. l.inside j q) b

    elements_next : ElementsLaid lists (e + 1) ends₀ inc₀ ends' inc'
    elements_next = record {
      ends_length = length-set (set ends (2 * e) c) (2 * e + 1) d ∙ length-set ends (2 * e) c ∙ r.ends_length;
      ends_done = next_done;
      ends_rest = λ t h. next_other t (omega arith) (omega arith) ∙ r.ends_rest t (omega arith);
      inc_length = l.same_length ∙ r.inc_length;
      subs_done = next_subs;
      inc_rest = λ p h. l.later p (omega (arith, starts_two e)) ∙ r.inc_rest p (omega (arith, starts_two e));
    }

  -- ---- runs of elements

  pub put_none : (e e' at : ℕ) (ends inc : List ℕ) → at ≡ starts lists (2 * e) → e ≡ e'
      → Put lists e e' at ends inc ends inc
  put_none e e' at ends inc h s =
      rw (← s) (record { place = h; ends_length = refl; inc_length = refl; laid = λ ends₀ inc₀ r. r })

  pub put_then : (e e₁ e₂ at₁ at₂ : ℕ) (ends inc ends₁ inc₁ ends₂ inc₂ : List ℕ)
      → Put lists e e₁ at₁ ends inc ends₁ inc₁ → Put lists e₁ e₂ at₂ ends₁ inc₁ ends₂ inc₂
      → Put lists e e₂ at₂ ends inc ends₂ inc₂
  put_then e e₁ e₂ at₁ at₂ ends inc ends₁ inc₁ ends₂ inc₂ p q = record {
    place = q.place;
    ends_length = q.ends_length ∙ p.ends_length;
    inc_length = q.inc_length ∙ p.inc_length;
    laid = λ ends₀ inc₀ r. q.laid ends₀ inc₀ (p.laid ends₀ inc₀ r);
  }

  -- an element whose subs s have been written, with room for its sups, and its two ends
  pub put_one : (e at sups r : ℕ) (s ends inc ends' inc' : List ℕ) → at ≡ starts lists (2 * e) → s ≡ lists (2 * e)
      → sups ≡ length (lists (2 * e + 1)) → r ≡ at + length s + sups → 2 * e + 1 < length ends
      → LaidList at s inc inc' → ends' ≡ set (set ends (2 * e) (at + length s)) (2 * e + 1) r
      → Put lists e (e + 1) r ends inc ends' inc'
  put_one e at sups r s ends inc ends' inc' pa ps pu pr room l pe =
      let n = sum_next (lengths lists) (2 * e) in
      let hc : at + length s ≡ starts lists (2 * e + 1) = omega (arith, n, ap length ps) in
      let hd : r ≡ starts lists (2 * (e + 1)) = omega (arith, starts_two e, ap length ps) in
      let l' : LaidList (starts lists (2 * e)) (lists (2 * e)) inc inc' = rw (pa, ps) at l in
      record {
        place = hd;
        ends_length = ap length pe ∙ simp length-set;
        inc_length = l.same_length;
        laid = λ ends₀ inc₀ k. rw pe (elements_next e (at + length s) r ends₀ inc₀ ends inc inc' k room hc hd l');
      }
