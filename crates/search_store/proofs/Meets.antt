-- A flag is met: in each case the store and what is answered stand for the state after it.
-- Assumes nothing.
use mathlib.Core.Path.{◌≡◌, refl, sym, ap, subst, ◌∙◌}
use mathlib.Core.Bool.{true}
use mathlib.Core.List.{List, [], ◌∷◌, ◌++◌}
use Prim.Native.Nat.{ℕ, ◌+◌, ◌-◌, ◌*◌, ◌≤◌, ◌<◌}
use native.Mathlib.Nat.{mul-le-mul_right}
use native.Mathlib.Numerals.{add-one}
use native.Mathlib.Omega.{arith}
use lib.ListN.{length, get_or, take, drop, length-set}
use lib.Seq.{get_or-take, take-suc-set, drop-set-lt, drop-drop}
use Rattle.std.specs.Prelude.{Result, Ok, Err, IsErrAnd}
use Rattle.std.proofs.lemmas.Result.{err_from_is_err_and}
use Rattle.search_theory.specs.Search.{State, place_after, again, index_in, meet}
use Rattle.search_theory.proofs.Step.{place_kept, place_same, place_first, meet_again, meet_full, meet_new}
use Rattle.listing.specs.Listing.{limits}
use Rattle.search_store.specs.declared.Found.{Found}
use Rattle.search_store.specs.declared.Full.{Full}
use Rattle.search_store.specs.declared.Store.{Store}
use Rattle.search_index.specs.Rows.{rows, same_list}
use Rattle.search_index.specs.Hash.{hash_of}
use Rattle.search_store.specs.Held.{state_of, state_in, SameLent, Held, AddedRow, Rest, Moved}
use Rattle.search_index.proofs.Hash.{hash_small}
use Rattle.search_index.proofs.Rows.{row_end, rows_length, put_length, put_rest, put_rows}
use Rattle.search_index.proofs.Indexing.{index_more}

-- ---- what the state holds

pub count_is : (w : ℕ) (table bytes : List ℕ) (s : Found) → length (state_of w table bytes s).found ≡ s.count
unfolding state_of
count_is w table bytes s = rows_length w table s.count

again_is : {A : Type 0} (S : State A) (b i p : ℕ) → place_after b S i ≡ p
    → again b S i ≡ record { found = S.found; bytes = S.bytes; place = p; overflow = S.overflow }
again_is S b i p e = ap (λ q. record { found = S.found; bytes = S.bytes; place = q; overflow = S.overflow }) e

-- ---- the state after a flag y is met that should have the byte b and stands first at k

module _ (w room : ℕ) (table bytes : List ℕ) (s : Found) (b : ℕ) (y : List ℕ) (k : ℕ)
    (e : k ≡ index_in same_list (rows w table s.count) y) where
  abbrev S : State (List ℕ)
  S = state_of w table bytes s

  -- the state after it
  abbrev met : State (List ℕ)
  met = meet same_list room b S y

  -- ---- it was found before

  module _ (h : k < s.count) where
    known : met ≡ again b S k
    unfolding state_of
    known =
        meet_again same_list room b S y refl (omega (arith, rows_length w table s.count)) ∙ ap (again b S) (sym e)

    known_after : (s.place ≡ 0 → ⊥) → S ≡ met
    unfolding state_of
    known_after n = sym (known ∙ again_is S b k s.place (place_kept b S k n))

    stored : get_or (take s.count bytes) k 0 ≡ get_or bytes k 0
    stored = get_or-take s.count bytes k 0 h

    known_same : get_or bytes k 0 ≡ b → S ≡ met
    unfolding state_of
    known_same q = sym (known ∙ again_is S b k s.place (place_same b S k (stored ∙ q)))

    known_first : s.place ≡ 0 → (get_or bytes k 0 ≡ b → ⊥)
        → state_of w table bytes (record { count = s.count; place = s.count }) ≡ met
    unfolding state_of
    known_first z n =
        sym (known
        ∙ again_is S b k s.count (place_first b S k z (λ q. n (sym stored ∙ q)) ∙ rows_length w table s.count))

  -- ---- it is new

  module _ (h : s.count ≤ k) where
    unknown : length S.found ≤ index_in same_list S.found y
    unfolding state_of
    unknown = omega (arith, rows_length w table s.count)

    new_full : room ≤ s.count → record {
      found = rows w table s.count;
      bytes = take s.count bytes;
      place = s.place;
      overflow = true;
    } ≡ met
    unfolding state_of
    new_full r = sym (meet_full same_list room b S y refl unknown (omega (arith, rows_length w table s.count)))

    new_added : (table' bytes' : List ℕ) → rows w table' (s.count + 1) ≡ rows w table s.count ++ (y ∷ [])
        → take (s.count + 1) bytes' ≡ take s.count bytes ++ (b ∷ []) → s.count < room
        → state_of w table' bytes' (record { count = s.count + 1; place = s.place }) ≡ met
    unfolding state_of
    new_added table' bytes' p q r =
        rw (p, q)
        (sym (meet_new same_list room b S y refl unknown (omega (arith, rows_length w table s.count))))

-- ---- what is held after it

-- there is a row for one more
pub row_fits : (w : ℕ) (t : Store) (n : ℕ) → Held w t n → n < t.room → n * w + w ≤ length t.table.now
row_fits w t n H h = omega (arith, row_end n t.room w h, H.room_rows)

pub same_lent : (t : Store) → SameLent t t
same_lent t = record { table = refl; bytes = refl; room = refl }

untouched : (w n : ℕ) (table bytes : List ℕ) → Rest w n table bytes table bytes
untouched w n table bytes = record { long = refl; past = refl; bytes_long = refl; bytes_past = refl }

-- something was found
pub moved_ok : {w : ℕ} {t u : Store} {s f : Found} {S : State (List ℕ)} → SameLent t u
    → state_in w u f ≡ S → Held w u f.count → s.count ≤ f.count
    → Rest w f.count t.table.now t.bytes.now u.table.now u.bytes.now → Moved w t s u (Ok f) S
unfolding state_of
moved_ok l e H m R = record {
  same = l;
  state = e;
  held = H;
  more = m;
  rest = R;
}

module _ (w : ℕ) (t : Store) (s : Found) (H : Held w t s.count) where
  -- nothing was written
  pub moved_none : {f : Found} {S : State (List ℕ)} → f.count ≡ s.count → state_in w t f ≡ S
      → Moved w t s t (Ok f) S
  moved_none c e = moved_ok (same_lent t) e (rw c H) (omega arith) (untouched w _ t.table.now t.bytes.now)

  module _ (b : ℕ) (y : List ℕ) (k : ℕ) (e : k ≡ index_in same_list (rows w t.table.now s.count) y) where
    abbrev pub after : State (List ℕ)
    after = meet same_list t.room b (state_in w t s) y

    -- it was found before, and nothing changes
    pub moved_known : k < s.count → (s.place ≡ 0 → ⊥) → Moved w t s t (Ok s) after
    moved_known h n = moved_none refl (known_after w t.room t.table.now t.bytes.now s b y k e h n)

    pub moved_same : k < s.count → get_or t.bytes.now k 0 ≡ b → Moved w t s t (Ok s) after
    moved_same h q = moved_none refl (known_same w t.room t.table.now t.bytes.now s b y k e h q)

    -- it was found before with another byte, for the first time
    pub moved_first : k < s.count → s.place ≡ 0 → (get_or t.bytes.now k 0 ≡ b → ⊥)
        → Moved w t s t (Ok (record { count = s.count; place = s.count })) after
    moved_first h z n = moved_none refl (known_first w t.room t.table.now t.bytes.now s b y k e h z n)

    -- it is new, and there is no room
    pub moved_full : s.count ≤ k → t.room ≤ s.count → Moved w t s t (Err (record { found = s })) after
    moved_full h r = record {
      same = same_lent t;
      state = new_full w t.room t.table.now t.bytes.now s b y k e h r;
      held = H;
      more = omega arith;
      rest = untouched w _ t.table.now t.bytes.now;
    }

-- it is new, and was added
module _ (t : Store) (s : Found) (flag : List ℕ) (H : Held (length flag) t s.count) (h b k : ℕ) (e : h ≡ hash_of flag)
    (d : k ≡ index_in same_list (rows (length flag) t.table.now s.count) flag) (i : s.count ≤ k) (r : s.count < t.room)
    (u : Store) (A : AddedRow t flag h b s.count u)
  where
    abbrev w : ℕ
    w = length flag

    abbrev n : ℕ
    n = s.count

    fits : n * w + w ≤ length t.table.now
    fits = row_fits w t n H r

    -- what was found then
    abbrev f : Found
    f = record { count = n + 1; place = s.place }

    added_held : Held w u (n + 1)
    added_held =
        let few : n < limits.flags = omega (arith, H.room_few) in
        rw (A.table, A.bytes, A.chains, A.same.room) (record {
          room_rows = omega (arith, put_length t.table.now n flag fits, H.room_rows);
          room_bytes = omega (arith, length-set t.bytes.now n b, H.room_bytes);
          room_few = H.room_few;
          fits = omega arith;
          indexed =
              index_more n t.table.now t.chains flag H.indexed h (omega (arith, hash_small flag)) e fits few
              (omega arith);
        })

    added_rest : Rest w (n + 1) t.table.now t.bytes.now u.table.now u.bytes.now
    added_rest =
        rw (A.table, A.bytes) (record {
          long = put_length t.table.now n flag fits;
          past = put_rest t.table.now n flag fits;
          bytes_long = length-set t.bytes.now n b;
          bytes_past = drop-set-lt (n + 1) t.bytes.now n b (omega arith);
        })

    added_state : state_of w u.table.now u.bytes.now f
        ≡ meet same_list t.room b (state_in w t s) flag
    added_state =
        new_added w t.room t.table.now t.bytes.now s b flag k d i u.table.now u.bytes.now
        (rw A.table (put_rows t.table.now n flag fits))
        (rw (A.bytes, add-one) (take-suc-set t.bytes.now n b (omega (arith, H.room_bytes)))) r

    pub moved_added : Moved w t s u (Ok f) (meet same_list t.room b (state_in w t s) flag)
    moved_added = moved_ok A.same added_state added_held (omega arith) added_rest

-- ---- one move after another

same_trans : {t u v : Store} → SameLent t u → SameLent u v → SameLent t v
same_trans a b = record { table = b.table ∙ a.table; bytes = b.bytes ∙ a.bytes; room = b.room ∙ a.room }

drop_more : (n m : ℕ) (l k : List ℕ) → n ≤ m → drop n l ≡ drop n k → drop m l ≡ drop m k
drop_more n m l k h e =
    let z : n + (m - n) ≡ m = omega arith in
    rw z at (sym (drop-drop (m - n) n l) ∙ ap (drop (m - n)) e ∙ drop-drop (m - n) n k)

rest_trans : {w n m : ℕ} {t b t' b' t'' b'' : List ℕ} → n ≤ m → Rest w n t b t' b' → Rest w m t' b' t'' b''
    → Rest w m t b t'' b''
rest_trans {w} {n} {m} {t} {b} {t'} {b'} h R Q = record {
  long = Q.long ∙ R.long;
  past = Q.past ∙ drop_more (n * w) (m * w) t' t (mul-le-mul_right w h) R.past;
  bytes_long = Q.bytes_long ∙ R.bytes_long;
  bytes_past = Q.bytes_past ∙ drop_more n m b' b h R.bytes_past;
}

pub moved_trans : {w : ℕ} {t u v : Store} {s f : Found} {q : Result Found Full} {S T : State (List ℕ)}
    → Moved w t s u (Ok f) S → Moved w u f v q T → Moved w t s v q T
moved_trans M N = record {
  same = same_trans M.same N.same;
  state = N.state;
  held = N.held;
  more = omega (arith, M.more, N.more);
  rest = rest_trans N.more M.rest N.rest;
}

-- the same move, to a state that is the same
pub moved_to : {w : ℕ} {t u : Store} {s : Found} {q : Result Found Full} {S T : State (List ℕ)}
    → Moved w t s u q S → S ≡ T → Moved w t s u q T
moved_to {w} {t} {u} {s} {q} M e = subst (Moved w t s u q) e M

-- the same move, whose end `?` hands on
pub moved_err : {w : ℕ} {t u : Store} {s : Found} {S : State (List ℕ)} (q : Result Found Full) (d : Full)
    → IsErrAnd q (λ x. x ≡ d) → Moved w t s u (Err d) S → Moved w t s u q S
moved_err {w} {t} {u} {s} {S} q d h M =
    let p = err_from_is_err_and q h in
    subst (λ x. Moved w t s u x S) (sym (p.1 ∙ ap Err p.2)) M

-- which is that one more turned up than there is room for
pub moved_over : {w : ℕ} {t u : Store} {s : Found} {d : Full} {S : State (List ℕ)} → Moved w t s u (Err d) S
    → S.overflow ≡ true
moved_over M = sym (ap (λ q. q.overflow) M.state)
