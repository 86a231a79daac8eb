-- Two lists in which nothing stands twice, and two maps between their members that undo each other: what is added up
-- along one is what is added up along the other.
-- Assumes nothing.
use mathlib.Core.Path.{◌≡◌, refl, sym, ap, ◌∙◌}
use mathlib.Core.Logic.{◌≢◌, ⊎_elim}
use mathlib.Core.List.Memᴰ
use mathlib.Core.List.{List, [], ◌∷◌, Memᴰ}
use lib.IntN.{ℤ, ◌+ℤ◌}
use Rattle.order.specs.Sums.{add_up}
use Rattle.order.proofs.AddUp.{add_up_none, add_up_first}
use Rattle.order.proofs.Integers.{+ℤ-left}
use Rattle.search_theory.specs.Search.{Once}

module _ {A : Type 0} where
  -- ---- a list without one of its members

  record Taken (l : List A) (x : A) : Type 0 where
    rest : List A
    once : Once rest
    kept : (z : A) → z ≢ x → Memᴰ z l → Memᴰ z rest
    back : (z : A) → Memᴰ z rest → Memᴰ z l × (z ≢ x)
    added : (f : A → ℤ) → add_up f l ≡ f x +ℤ add_up f rest

  -- it is the first
  taken_first : (x y : A) (l : List A) → x ≡ y → Once (y ∷ l) → Taken (y ∷ l) x
  unfolding Once
  taken_first x y l e o = record {
    rest = l;
    once = o.1;
    kept = λ z d h. ⊎_elim (λ q. absurd (d (q ∙ sym e))) (λ n. n) (Memᴰ.cases_cons h);
    back = λ z h. (Memᴰ.tail h, λ q. o.0 (Memᴰ.cast (sym (q ∙ e)) h));
    added = λ f. add_up_first f y l ∙ ap (λ w. f w +ℤ add_up f l) (sym e);
  }

  -- it stands further on
  taken_later : (x y : A) (l : List A) → Memᴰ x l → Once (y ∷ l) → Taken l x → Taken (y ∷ l) x
  unfolding Once
  taken_later x y l m o t = record {
    rest = y ∷ t.rest;
    once = (λ h. o.0 (t.back y h).0, t.once);
    kept = λ z d k. ⊎_elim Memᴰ.head (λ n. Memᴰ.tail (t.kept z d n)) (Memᴰ.cases_cons k);
    back = λ z h. ⊎_elim (λ q. (Memᴰ.head q, λ w. o.0 (Memᴰ.cast (sym q ∙ w) m)))
        (λ n. let b = t.back z n in (Memᴰ.tail b.0, b.1)) (Memᴰ.cases_cons h);
    added = λ f. add_up_first f y l ∙ ap (λ w. f y +ℤ w) (t.added f) ∙ +ℤ-left (f y) (f x) (add_up f t.rest)
        ∙ ap (λ w. f x +ℤ w) (sym (add_up_first f y t.rest));
  }

  taken : (l : List A) (x : A) → Once l → Memᴰ x l → Taken l x
  unfolding Once
  taken l x o h = go l o h
    where
      go : (l : List A) → Once l → Memᴰ x l → Taken l x
      go l o (Memᴰ.head {x = y} {xs = m} e) = taken_first x y m e o
      go l o (Memᴰ.tail {x = y} {xs = m} h) = taken_later x y m h o (go m o.1 h)

  -- ---- the sum along matched lists

  -- h takes each member of l to one of m, and k takes it back
  abbrev pub Into : (A → A) → (A → A) → List A → List A → Type 0
  Into h k l m = (x : A) → Memᴰ x l → Memᴰ (h x) m × (k (h x) ≡ x)

  -- nothing matches an empty list
  into_none : (h k : A → A) (m : List A) → Into k h m [] → (f : A → ℤ) → add_up f m ≡ add_up f []
  into_none h k [] b f = refl
  into_none h k (y ∷ m) b f = absurd (Memᴰ.not-nil (b y (Memᴰ.head refl)).0)

  pub matched_sum : (h k : A → A) (l m : List A) → Once l → Once m → Into h k l m → Into k h m l → (f : A → ℤ)
      → add_up (λ x. f (h x)) l ≡ add_up f m
  unfolding Once
  matched_sum h k [] m o p a b f = add_up_none (λ x. f (h x)) ∙ sym (add_up_none f) ∙ sym (into_none h k m b f)
  matched_sum h k (x ∷ l) m o p a b f =
      let t = taken m (h x) p (a x (Memᴰ.head refl)).0 in
      add_up_first (λ y. f (h y)) x l
      ∙ ap (λ w. f (h x) +ℤ w) (matched_sum h k l t.rest o.1 t.once (to t) (fro t) f)
      ∙ sym (t.added f)
    where
      to : (t : Taken m (h x)) → Into h k l t.rest
      to t y n =
          let u = a y (Memᴰ.tail n) in
          let apart : h y ≢ h x = λ e. o.0 (Memᴰ.cast (sym (a x (Memᴰ.head refl)).1 ∙ ap k (sym e) ∙ u.1) n) in
          (t.kept (h y) apart u.0, u.1)

      fro : (t : Taken m (h x)) → Into k h t.rest l
      fro t y n =
          let v = t.back y n in
          let u = b y v.0 in
          (⊎_elim (λ q. absurd (v.1 (sym u.1 ∙ ap h q))) (λ w. w) (Memᴰ.cases_cons u.0), u.1)

  -- the same members
  pub same_sum : (l m : List A) → Once l → Once m → ((x : A) → Memᴰ x l → Memᴰ x m)
      → ((x : A) → Memᴰ x m → Memᴰ x l) → (f : A → ℤ) → add_up f l ≡ add_up f m
  same_sum l m o p a b f = matched_sum (λ x. x) (λ x. x) l m o p (λ x h. (a x h, refl)) (λ x h. (b x h, refl)) f
