-- How a promise speaks of an entry: through P, the reading that the prover makes of a contract in the source. P k a b x
-- says that the contract admits the answer b and the parameters x at exit for the arguments a; k are the lifetimes. The
-- contract is that of the fd_ function of the entry's name, where there is one; OfBoundary says the same of the entry.
--
-- Takes         the contract asks nothing: R k a, the reading of what it asks of a caller, holds for any arguments
-- Says          whatever the contract admits has a property of arguments, answer and exit
-- OneAnswer     two answers that the contract admits for the same arguments are equal
-- OneOutcome    and so is what is left of the parameters that are lent to be written
-- SaysOfTwo     whatever two contracts admit has a property of both calls
-- SaysOfThree the same of three contracts and calls
-- Call          a call of an entry, as its contract admits it: for promises that speak of more calls than three
-- PassesOn      whatever one contract admits another admits too, for the same arguments
-- Told          the contract Q of an entry, with its answer as f tells it: as the record that crosses to C
-- Gathered      the same of an entry that takes one struct in the place of three slices
-- GatheredTwo   the same of one that takes two structs in the place of six slices
-- ByPoles       the same of one that takes before them which product it is, by min and max
-- Slice         a lent slice of numbers
-- Written       a slice of numbers that is lent to be written
-- Three         three slices, and the parameters after them
-- ThreeWritten three slices that are lent to be written, and the parameters after them
-- gathered      three slices as one struct
-- gathered_two  six slices as two structs
-- lent          the listing in the first three parameters
-- in_written    the listing in three slices that are lent to be written
-- right         the right factor of a product, in the next three; the left one is in the first three
-- outputs       the three output slices of a product
-- flag          the flag of a change or a search, in the fourth parameter
-- asked         the number after it, which says what is asked: the rank of a change, the mask of a search
-- metres        the coordinates of a volume, in the same place
-- tables        the table and the orientations of a search or of a volume
-- body_tables   the same of the test for one body, in the fourth and fifth parameter
-- turned_into   the three slices that a dual is written into, in the second three parameters
-- lent_text     the text in the first parameter
-- read_into     the three slices that it is read into, in the next three
-- written_into the slice that a text is written into, in the fourth parameter
use Rattle.std.specs.Prelude.{◌≡◌, Bool, List, ℕ, Float}
use Rattle.std.specs.Borrow.{Bor, MutBor}
use Rattle.listing.specs.declared.Slices.{Slices}
use Rattle.listing.specs.Listing.{Listing, listing}
use Rattle.product_places.specs.declared.Poles.{Poles}

module _ {K A : Type 0} (R : K → A → Type 0) where
  abbrev pub Takes : Type 0
  Takes = (k : K) (a : A) → R k a

module _ {K A B X : Type 0} (P : K → A → B → X → Type 0) where
  abbrev pub Says : (A → B → X → Type 0) → Type 0
  Says Q = (k : K) (a : A) (b : B) (x : X) → P k a b x → Q a b x

  abbrev pub OneAnswer : Type 0
  OneAnswer = (k : K) (a : A) (b c : B) (x y : X) → P k a b x → P k a c y → b ≡ c

  abbrev pub OneOutcome : {Y : Type 0} → (X → Y) → Type 0
  OneOutcome left = (k : K) (a : A) (b c : B) (x y : X) → P k a b x → P k a c y → (b ≡ c) × (left x ≡ left y)

module _ {K A B X : Type 0} (P : K → A → B → X → Type 0) {L C D Y : Type 0} (Q : L → C → D → Y → Type 0) where
  abbrev pub SaysOfTwo : (A → B → X → C → D → Y → Type 0) → Type 0
  SaysOfTwo R =
      (k : K) (l : L) (a : A) (c : C) (b : B) (d : D) (x : X) (y : Y) → P k a b x → Q l c d y → R a b x c d y

module _ {K A B X : Type 0} (P : K → A → B → X → Type 0) {L C D Y : Type 0} (Q : L → C → D → Y → Type 0)
    {M E F Z : Type 0} (R : M → E → F → Z → Type 0) where
  abbrev pub SaysOfThree : (A → B → X → C → D → Y → E → F → Z → Type 0) → Type 0
  SaysOfThree S =
      (k : K) (l : L) (m : M) (a : A) (c : C) (e : E) (b : B) (d : D) (f : F) (x : X) (y : Y) (z : Z) → P k a b x
      → Q l c d y → R m e f z → S a b x c d y e f z

pub record Call {K A B X : Type 0} (P : K → A → B → X → Type 0) : Type 0 where
  pub lifetimes : K
  pub args : A
  pub answer : B
  pub exit : X
  pub admitted : P lifetimes args answer exit

module _ {K L A B X : Type 0} (P : K → A → B → X → Type 0) (Q : L → A → B → X → Type 0) where
  abbrev pub PassesOn : Type 0
  PassesOn = (k : K) (l : L) (a : A) (b : B) (x : X) → P k a b x → Q l a b x

abbrev pub Slice : Type 0
Slice = Bor (List ℕ)

abbrev pub Written : Type 0
Written = MutBor (List ℕ)

abbrev pub Three : Type 0 → Type 0
Three A = Slice × (Slice × (Slice × A))

abbrev pub ThreeWritten : Type 0 → Type 0
ThreeWritten A = Written × (Written × (Written × A))

module _ {A : Type 0} where
  abbrev pub gathered : Three A → Slices × A
  gathered a = (record { counts = a.0; ends = a.1.0; inc = a.1.1.0 }, a.1.1.1)

module _ {A : Type 0} where
  abbrev pub gathered_two : Three (Three A) → Slices × (Slices × A)
  gathered_two a = let b = gathered a in (b.0, gathered b.1)

module _ {K A X B D : Type 0} (f : D → B) where
  abbrev pub Told : (K → A → D → X → Type 0) → K → A → B → X → Type 0
  Told Q k a b x = (d : D) × Q k a d x × (b ≡ f d)

  abbrev pub Gathered : (K → Slices × A → D → Slices × X → Type 0) → K → Three A → B → Three X → Type 0
  Gathered Q k a b x = (d : D) × Q k (gathered a) d (gathered x) × (b ≡ f d)

  abbrev pub GatheredTwo : (K → Slices × (Slices × A) → D → Slices × (Slices × X) → Type 0) → K → Three (Three A) → B
      → Three (Three X) → Type 0
  GatheredTwo Q k a b x = (d : D) × Q k (gathered_two a) d (gathered_two x) × (b ≡ f d)

module _ {K A X B D : Type 0} (min max : Bool) (f : D → B) where
  abbrev pub ByPoles : (K → Poles × (Slices × (Slices × A)) → D → Poles × (Slices × (Slices × X)) → Type 0) → K
      → Three (Three A) → B → Three (Three X) → Type 0
  ByPoles Q k a b x =
      (d : D) × (z : Poles) × Q k (record { min = min; max = max }, gathered_two a) d (z, gathered_two x) × (b ≡ f d)

module _ {A : Type 0} where
  abbrev pub lent : Three A → Listing
  lent a = listing a.0.now a.1.0.now a.1.1.0.now

  abbrev pub right : Three (Three A) → Listing
  right a = lent a.1.1.1

  abbrev pub in_written : ThreeWritten A → Listing
  in_written a = listing a.0.now a.1.0.now a.1.1.0.now

  abbrev pub outputs : Three (Three (ThreeWritten A)) → Listing
  outputs a = in_written a.1.1.1.1.1.1

  abbrev pub flag : Three (Slice × A) → List ℕ
  flag a = a.1.1.1.0.now

  abbrev pub asked : Three (Slice × (ℕ × A)) → ℕ
  asked a = a.1.1.1.1.0

  abbrev pub metres : Three (Slice × (Bor (List Float) × A)) → List Float
  metres a = a.1.1.1.1.0.now

  abbrev pub tables : {B : Type 0} → Three (Slice × (B × (Written × (Written × A)))) → List ℕ × List ℕ
  tables a = (a.1.1.1.1.1.0.now, a.1.1.1.1.1.1.0.now)

  abbrev pub body_tables : Three (Written × (Written × A)) → List ℕ × List ℕ
  body_tables a = (a.1.1.1.0.now, a.1.1.1.1.0.now)

  abbrev pub turned_into : Three (ThreeWritten A) → Listing
  turned_into a = in_written a.1.1.1

  abbrev pub lent_text : Slice × A → List ℕ
  lent_text a = a.0.now

  abbrev pub read_into : Slice × ThreeWritten A → Listing
  read_into a = in_written a.1

  abbrev pub written_into : Three (Written × A) → List ℕ
  written_into a = a.1.1.1.0.now
