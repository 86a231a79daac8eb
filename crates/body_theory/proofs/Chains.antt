-- The chains that lead up to an element, one after another in a list: it has them all, each once, and is as long as
-- `chains_to` says.
-- Assumes nothing.
use mathlib.Core.Path.{◌≡◌, refl, sym, ap, ◌∙◌}
use mathlib.Core.Logic.{◌↔◌, inl, inr, ⊎_elim}
use mathlib.Core.List.Memᴰ
use mathlib.Core.List.{List, [], ◌∷◌, ◌++◌, map, Memᴰ}
use Prim.Native.Nat.{ℕ, zero, suc, ◌+◌, ◌≤◌, ◌<◌}
use native.Mathlib.Nat.{eq-or-lt_of_le}
use native.Mathlib.Numerals.{add-one}
use native.Mathlib.Omega.{arith}
use lib.ListN.{length, get_or, take, length-append, length-map, get_or-append}
use lib.Seq.{take_all, take-suc, take_at, get_or_at, get_or-take, length-take-le}
use Rattle.order.specs.Lists.{In, Ascending}
use Rattle.order.specs.Sums.{sum_over}
use Rattle.listing.specs.Listing.{Listing, count, subs}
use Rattle.valid_incidence.specs.Incidence.{Incident}
use Rattle.valid_incidence.proofs.Below.{sub_there}
use Rattle.valid.specs.Ascent.{Ascends}
use Rattle.search_theory.specs.Search.{Once}
use Rattle.search_theory.proofs.Once.{length_snoc, once_append, once_map}
use Rattle.body_theory.specs.InAll.{chains_to}

-- ---- lists of chains

-- a chain, and then element i
abbrev pub with : ℕ → List ℕ → List ℕ
with i f = f ++ (i ∷ [])

-- the chains to each number of a list, and then element i
unfoldable pub extended : (ℕ → List (List ℕ)) → ℕ → List ℕ → List (List ℕ)
extended c i [] = []
extended c i (x ∷ l) = map (with i) (c x) ++ extended c i l

unfoldable pub chains : Listing → ℕ → ℕ → List (List ℕ)
chains L zero i = (i ∷ []) ∷ []
chains L (suc r) i = extended (chains L r) i (subs L (suc r) i)

-- ---- how many

extended_length : (c : ℕ → List (List ℕ)) (n : ℕ → ℕ) → ((x : ℕ) → length (c x) ≡ n x) → (i : ℕ) (l : List ℕ)
    → length (extended c i l) ≡ sum_over n l
unfolding extended sum_over
extended_length c n e i [] = refl
extended_length c n e i (x ∷ l) =
    length-append (map (with i) (c x)) (extended c i l)
    ∙ rw (length-map (c x) (with i), e x, extended_length c n e i l)

pub chains_length : (L : Listing) (r i : ℕ) → length (chains L r i) ≡ chains_to L r i
unfolding chains chains_to
chains_length L zero i = refl
chains_length L (suc r) i =
    extended_length (chains L r) (chains_to L r) (λ x. chains_length L r x) i (subs L (suc r) i)

-- ---- which

-- what a chain in the list is made of
record Part (c : ℕ → List (List ℕ)) (i : ℕ) (l : List ℕ) (f : List ℕ) : Type 0 where
  sub : ℕ
  listed : In sub l
  chain : List ℕ
  stands : Memᴰ chain (c sub)
  is : f ≡ with i chain

extended_part : (c : ℕ → List (List ℕ)) (i : ℕ) (l : List ℕ) {f : List ℕ} → Memᴰ f (extended c i l) → Part c i l f
unfolding extended In
extended_part c i [] h = absurd (Memᴰ.not-nil h)
extended_part c i (x ∷ l) {f} h =
    ⊎_elim first (λ k. later (extended_part c i l k)) (Memᴰ.append_cases (map (with i) (c x)) h)
  where
    first : Memᴰ f (map (with i) (c x)) → Part c i (x ∷ l) f
    first k =
        let t = Memᴰ.of_map (with i) (c x) k in
        record { sub = x; listed = inl refl; chain = t.0; stands = t.1; is = sym t.2 }

    later : Part c i l f → Part c i (x ∷ l) f
    later p = record { sub = p.sub; listed = inr p.listed; chain = p.chain; stands = p.stands; is = p.is }

part_extended : (c : ℕ → List (List ℕ)) (i : ℕ) (l : List ℕ) (x : ℕ) {g : List ℕ} → In x l → Memᴰ g (c x)
    → Memᴰ (with i g) (extended c i l)
unfolding extended In
part_extended c i [] x h k = absurd h
part_extended c i (y ∷ l) x (inl e) k = Memᴰ.append_left (extended c i l) (Memᴰ.map (with i) (rw e at k))
part_extended c i (y ∷ l) x (inr h) k = Memᴰ.append_right (map (with i) (c y)) (part_extended c i l x h k)

-- ---- none twice

with_same : (i : ℕ) (f g : List ℕ) → with i f ≡ with i g → f ≡ g
with_same i f g e =
    let n : length f ≡ length g = omega (arith, length_snoc f i, length_snoc g i, ap length e) in
    sym (take_at f (i ∷ []) (length f) refl) ∙ ap (take (length f)) e ∙ take_at g (i ∷ []) (length f) (sym n)

-- where the lists of chains to different numbers share nothing
extended_once : (c : ℕ → List (List ℕ)) (last : List ℕ → ℕ) (i : ℕ) (l : List ℕ) → Ascending l
    → ((x : ℕ) → In x l → Once (c x)) → ((x : ℕ) → In x l → (f : List ℕ) → Memᴰ f (c x) → last f ≡ x)
    → Once (extended c i l)
unfolding extended In Ascending Once
extended_once c last i [] a o e = tt
extended_once c last i (x ∷ l) a o e =
    once_append (map (with i) (c x)) (extended c i l) (once_map (with i) (with_same i) (c x) (o x (inl refl)))
    (extended_once c last i l a.1 (λ y m. o y (inr m)) (λ y m. e y (inr m))) apart
  where
    apart : (f : List ℕ) → Memᴰ f (map (with i) (c x)) → ¬ Memᴰ f (extended c i l)
    apart f h k =
        let t = Memᴰ.of_map (with i) (c x) h in
        let p = extended_part c i l k in
        let g = with_same i t.0 p.chain (t.2 ∙ p.is) in
        omega (
          arith,
          a.0 p.sub p.listed,
          e x (inl refl) t.0 t.1,
          ap last g,
          e p.sub (inr p.listed) p.chain p.stands,
        )

-- ---- chains of a listing

-- from rank 0 up to element i of rank r, each element one of the subs of the next
pub record ChainTo (L : Listing) (r i : ℕ) (f : List ℕ) : Type 0 where
  pub long : length f ≡ suc r
  pub last : get_or f r 0 ≡ i
  pub exists : (k : ℕ) → k ≤ r → get_or f k 0 < count L k
  pub under : (k : ℕ) → k < r → In (get_or f k 0) (subs L (k + 1) (get_or f (k + 1) 0))

module _ (L : Listing) where
  chain_with : (r x i : ℕ) (g : List ℕ) → ChainTo L r x g → In x (subs L (suc r) i) → i < count L (suc r)
      → ChainTo L (suc r) i (with i g)
  chain_with r x i g c u h = record {
    long = length_snoc g i ∙ ap suc c.long;
    last = end;
    exists = λ k l. ⊎_elim (λ e. rw e (rw end h)) (λ m. rw (at k m) (c.exists k (omega arith))) (eq-or-lt_of_le l);
    under = λ k l. ⊎_elim (λ e. last_under k (omega arith)) (λ m. inner_under k (omega arith)) (eq-or-lt_of_le l);
  }
    where
      end : get_or (with i g) (suc r) 0 ≡ i
      end = get_or_at g i [] 0 (suc r) c.long

      at : (k : ℕ) → k < suc r → get_or (with i g) k 0 ≡ get_or g k 0
      at k l = get_or-append g (i ∷ []) 0 k (omega (arith, c.long))

      inner_under : (k : ℕ) → k < r → In (get_or (with i g) k 0) (subs L (k + 1) (get_or (with i g) (k + 1) 0))
      inner_under k l = rw (at k (omega arith), at (k + 1) (omega arith)) (c.under k l)

      last_under : (k : ℕ) → k ≡ r → In (get_or (with i g) k 0) (subs L (k + 1) (get_or (with i g) (k + 1) 0))
      last_under k e =
          let s : k + 1 ≡ suc r = omega arith in
          rw (s, end, e, at r (omega arith), c.last) u

  -- a chain without its last element
  chain_before : (r i : ℕ) (f : List ℕ) → ChainTo L (suc r) i f → let x = get_or f r 0 in
      ChainTo L r x (take (suc r) f) × In x (subs L (suc r) i) × (with i (take (suc r) f) ≡ f)
  chain_before r i f c = (
    record {
      long = length-take-le (suc r) f (omega (arith, c.long));
      last = at r (omega arith);
      exists = λ k l. rw (at k (omega arith)) (c.exists k (omega arith));
      under = λ k l. rw (at k (omega arith), at (k + 1) (omega arith)) (c.under k (omega arith));
    },
    rw (add-one, c.last) at (c.under r (omega arith)),
    whole,
  )
    where
      at : (k : ℕ) → k < suc r → get_or (take (suc r) f) k 0 ≡ get_or f k 0
      at k l = get_or-take (suc r) f k 0 l

      whole : with i (take (suc r) f) ≡ f
      whole =
          rw c.last at (sym (take-suc f (suc r) 0 (omega (arith, c.long))))
          ∙ take_all (suc (suc r)) f (omega (arith, c.long))

  chain_one : (i : ℕ) (f : List ℕ) → ChainTo L 0 i f → f ≡ i ∷ []
  chain_one i f c = sym (take_all 1 f (omega (arith, c.long))) ∙ take-suc f 0 0 (omega (arith, c.long)) ∙ rw c.last

  module _ (I : Incident L) where
    -- a sub exists
    sub_exists : (r i x : ℕ) → i < count L (suc r) → In x (subs L (suc r) i) → x < count L r
    sub_exists r i x h m = sub_there L I (suc r) r i x (omega arith) h m

    -- The list of chains to an element has exactly the chains to it.
    pub chains_exact : (r i : ℕ) → i < count L r → (f : List ℕ) → Memᴰ f (chains L r i) ↔ ChainTo L r i f
    unfolding chains
    chains_exact zero i h f = (
      λ m. rw (Memᴰ.eq_of_singleton m) (record {
        long = refl;
        last = refl;
        exists = λ k l. let e : k ≡ 0 = omega arith in rw e h;
        under = λ k l. absurd (omega arith);
      }),
      λ c. Memᴰ.head (chain_one i f c),
    )
    chains_exact (suc r) i h f = (
      λ m.
          let p = extended_part (chains L r) i (subs L (suc r) i) m in
          let e = sub_exists r i p.sub h p.listed in
          let c = (chains_exact r p.sub e p.chain).0 p.stands in
          rw p.is (chain_with r p.sub i p.chain c p.listed h),
      λ c.
          let t = chain_before r i f c in
          let e = sub_exists r i (get_or f r 0) h t.1 in
          let k = (chains_exact r (get_or f r 0) e (take (suc r) f)).1 t.0 in
          Memᴰ.cast (sym t.2) (part_extended (chains L r) i (subs L (suc r) i) (get_or f r 0) t.1 k),
    )

    -- None of them stands there twice.
    pub chains_once : Ascends L → (r i : ℕ) → i < count L r → Once (chains L r i)
    unfolding chains Once Ascends
    chains_once A zero i h = (Memᴰ.not-nil, tt)
    chains_once A (suc r) i h =
        extended_once (chains L r) (λ f. get_or f r 0) i (subs L (suc r) i) (A (suc r) i h 0 (omega arith))
        (λ x m. chains_once A r x (sub_exists r i x h m))
        (λ x m f k. ((chains_exact r x (sub_exists r i x h m) f).0 k).last)
