-- Orientations and events by their numbers.
-- Assumes nothing.
use mathlib.Core.Path.{◌≡◌, refl, ap, ◌∙◌}
use mathlib.Core.List.{List, [], ◌∷◌, ◌++◌, map}
use Prim.Native.Nat.{ℕ, ◌+◌, ◌-◌, ◌≤◌}
use native.Mathlib.Omega.{arith}
use borrow.Author.Tests.{eq-eqb, ne_eqb}
use lib.ListN.{length, replicate}
use Rattle.std.proofs.Common.{Option, Some, None}
use Rattle.flag.specs.declared.Orientation.{Orientation}
use Rattle.flag.specs.declared.Orientation.TheVariants.{Even, Odd}
use Rattle.search_events.specs.declared.Event.{Event}
use Rattle.search_events.specs.declared.Said.{Said}
use Rattle.flag.specs.Orientations.{byte_of, of_byte, flip_of, sign_of}
use Rattle.search_events.specs.Events.{events, next_at, events_of, replies, said_of, Stepped, SaidStep}
use Rattle.search_events.proofs.EventsInOrder.{all_replies, past_last}
use Rattle.promises.specs.OfFlags.{SignAt, ByteFor, Calls}

-- ---- orientations

pub byte_flipped : (o : Orientation) → byte_of (flip_of o) ≡ 1 - byte_of o
unfolding byte_of flip_of
byte_flipped Even = refl
byte_flipped Odd = refl

pub sign_of_lem : (o : Orientation) → SignAt (byte_of o) (sign_of o)
unfolding byte_of sign_of
sign_of_lem Even = record { even = λ e. refl; odd = λ e. absurd (omega arith) }
sign_of_lem Odd = record { even = λ e. absurd (omega arith); odd = λ e. refl }

pub byte_of_lem : (b : ℕ) → ByteFor b (byte_of (of_byte b))
unfolding byte_of of_byte
byte_of_lem b = record { even = λ e. rw (eq-eqb b 0 e); odd = λ h. rw (ne_eqb b 0 h) }

-- ---- events

module _ (count place : ℕ) where
  abbrev steps : ℕ → ℕ → Option Event → Type 0
  steps at at' e = Stepped at count place at' e

  abbrev said_steps : ℕ → ℕ → Said → Type 0
  said_steps at at' s = SaidStep at count place at' s

  -- calls one after another take the events from place to place
  calls_take : (at : ℕ) (l : List (Option Event)) → Calls steps at l → l ≡ replies at count place (length l)
  unfolding Calls replies
  calls_take at [] c = refl
  calls_take at (e ∷ l) c =
      let h : c.0 ≡ next_at at count place = c.1.1 in
      let t : l ≡ replies (next_at at count place) count place (length l) = rw h at (calls_take c.0 l c.2) in
      λ i. c.1.0 i ∷ t i

  said_take : (at : ℕ) (l : List Said) → Calls said_steps at l → l ≡ map said_of (replies at count place (length l))
  unfolding Calls replies
  said_take at [] c = refl
  said_take at (s ∷ l) c =
      let h : c.0 ≡ next_at at count place = c.1.1 in
      let t : l ≡ map said_of (replies (next_at at count place) count place (length l)) =
      rw h at (said_take c.0 l c.2) in
      λ i. c.1.0 i ∷ t i

  pub in_order : (n : ℕ) (l : List (Option Event)) → length l ≡ events count place + n → Calls steps 0 l
      → l ≡ map Some (events_of count place) ++ replicate n None
  in_order n l e c = calls_take 0 l c ∙ rw e (all_replies count place n)

  pub said_in_order : (n : ℕ) (l : List Said) → length l ≡ events count place + n → Calls said_steps 0 l
      → l ≡ map said_of (map Some (events_of count place) ++ replicate n None)
  said_in_order n l e c = said_take 0 l c ∙ rw e (ap (map said_of) (all_replies count place n))

  pub stays_past : (at at' : ℕ) (e : Option Event) → events count place ≤ at → Stepped at count place at' e
      → (e ≡ None) × (at' ≡ at)
  stays_past at at' e h s = let p = past_last count place at h in (s.0 ∙ p.0, s.1 ∙ p.1)

  pub said_stays_past : (at at' : ℕ) (s : Said) → events count place ≤ at → SaidStep at count place at' s
      → (s ≡ said_of None) × (at' ≡ at)
  said_stays_past at at' s h q = let p = past_last count place at h in (q.0 ∙ ap said_of p.0, q.1 ∙ p.1)
