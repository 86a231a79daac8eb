-- The four counts: refused for no ranks, which is the one rule that they have, and else the number asked for; the
-- facets where the rank less one wraps.
-- Assumes nothing.
use Rattle.std.proofs.Common.{◌≡◌, ℕ, ◌+◌, ◌-◌, ◌%◌, ◌^◌, ◌<◌, Bool, true, false, cond, eqb, leb, List, [], ◌∷◌, length, get_or, sym, refl, ap, ◌∙◌, inl, inr, arith, eq-eqb, ne_eqb, eqb-true, leb-false, leb-true}
use borrow.Author.Tests.{eqb-false}
use lib.ListN.{get_or-eq_default}
use Rattle.listing.specs.declared.Number.{Number}
use Rattle.listing.specs.Refusals.{no_ranks}
use Rattle.listing.specs.Rules.{FirstBroken}
use Rattle.listing_shape.specs.Counts.{counted, rank_of, el_count_of, facets, facet_count_of, count_rules}

module _ (counts : List ℕ) (n : ℕ) where
  pub counted_none : length counts ≡ 0 → counted counts n ≡ record { no = no_ranks; value = 0 }
  unfolding counted
  counted_none h = rw (eq-eqb _ _ h)

  pub counted_some : (length counts ≡ 0 → ⊥) → counted counts n ≡ record { no = 0; value = n }
  unfolding counted
  counted_some h = rw (ne_eqb _ _ h)

-- one law for each answer
pub ruleset counts = (counted_none, counted_some)

pub counted_broken : (counts : List ℕ) (n : ℕ) → FirstBroken (count_rules counts) (counted counts n).no
unfolding counted FirstBroken
counted_broken [] n = inl (λ h. omega arith, omega arith, omega arith)
counted_broken (c ∷ counts) n = inr (omega arith, rw (ne_eqb (length (c ∷ counts)) 0 (λ e. omega arith)))

-- how many values a usize can have
abbrev word : ℕ
word = 2 ^ 64

-- the rank less one, wrapped, counts the facets
wrapped : (counts : List ℕ) (v r : ℕ) → (rank_of counts).value ≡ v → length counts < word → r < word
    → (r + 1) % word ≡ v → (length counts ≡ 0 → ⊥) → get_or counts r 0 ≡ facets counts
unfolding facets rank_of
wrapped counts v r e f g h some = go (leb 2 (length counts)) refl
  where
    at : length counts - 1 ≡ v
    at = ap (λ (n : Number). n.value) (sym (counted_some counts (length counts - 1) some)) ∙ e

    go : (q : Bool) → leb 2 (length counts) ≡ q → get_or counts r 0 ≡ cond q (get_or counts (length counts - 2) 0) 0
    go true t =
        let i : r ≡ length counts - 2 = omega (arith, leb-true 2 (length counts) t, at) in
        ap (λ (k : ℕ). get_or counts k 0) i
    go false t = get_or-eq_default counts 0 (omega (arith, leb-false 2 (length counts) t, at))

pub facets_wrapped : (counts : List ℕ) (v r : ℕ) → (rank_of counts).value ≡ v → length counts < word → r < word
    → (r + 1) % word ≡ v → el_count_of counts r ≡ facet_count_of counts
unfolding el_count_of facet_count_of
facets_wrapped counts v r e f g h = go (eqb (length counts) 0) refl
  where
    go : (q : Bool) → eqb (length counts) 0 ≡ q → counted counts (get_or counts r 0) ≡ counted counts (facets counts)
    go true t =
        let z = eqb-true (length counts) 0 t in
        counted_none counts _ z ∙ sym (counted_none counts _ z)
    go false t = ap (counted counts) (wrapped counts v r e f g h (eqb-false (length counts) 0 t))

-- where the rank is refused, so are the facets
pub no_facets : (counts : List ℕ) (n : Number) → n ≡ rank_of counts → (n.no ≡ 0 → ⊥) → n ≡ facet_count_of counts
unfolding rank_of facet_count_of
no_facets counts n e h = go (eqb (length counts) 0) refl
  where
    go : (q : Bool) → eqb (length counts) 0 ≡ q → n ≡ counted counts (facets counts)
    go true t =
        let z = eqb-true (length counts) 0 t in
        e ∙ counted_none counts _ z ∙ sym (counted_none counts _ z)
    go false t =
        let some = counted_some counts (length counts - 1) (eqb-false (length counts) 0 t) in
        absurd (h (ap (λ (k : Number). k.no) (e ∙ some)))
