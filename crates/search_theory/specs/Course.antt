-- The course of a search: those found are worked in order, and the neighbours of each are met in order. That neighbour
-- i of the jth is met before neighbour q of the pth is `Earlier j i p q`.
--
-- Stands         y stands among the first n
-- Agrees         y stands among the first n, with the byte b
-- HasNeighbour   the jth has a neighbour i
-- nbr            neighbour i of the jth
-- Came           the kth is neighbour `at` of one before it and has the byte that this one does not have, and all that
--                was met before stands before it
-- Clash          neighbour `at` of one of the first n stands among these with another byte than it should have; all
--                that was met before stands among these with the byte that it should have, and these were all met
--                before
use Rattle.std.specs.Prelude.{◌≡◌, ◌≢◌, List, ℕ, ◌-◌, ◌<◌, length, get_or}
use Rattle.order.specs.Lists.{Earlier}

module _ {A : Type 0} (row : ℕ → A) where
  pub record Stands (n : ℕ) (y : A) : Type 0 where
    pub index : ℕ
    pub below : index < n
    pub is : row index ≡ y

  pub record Agrees (byte : ℕ → ℕ) (n : ℕ) (y : A) (b : ℕ) : Type 0 where
    pub index : ℕ
    pub below : index < n
    pub is : row index ≡ y
    pub with : byte index ≡ b

module _ {A : Type 0} (nbrs : A → List A) (d : A) (row : ℕ → A) where
  abbrev pub HasNeighbour : ℕ → ℕ → Type 0
  HasNeighbour j i = i < length (nbrs (row j))

  abbrev pub nbr : ℕ → ℕ → A
  nbr j i = get_or (nbrs (row j)) i d

  module _ (byte : ℕ → ℕ) where
    pub record Came (from at k : ℕ) : Type 0 where
      pub earlier : from < k
      pub there : HasNeighbour from at
      pub is : row k ≡ nbr from at
      pub turned : byte k ≡ 1 - byte from
      pub first : (j i : ℕ) → Earlier j i from at → HasNeighbour j i → Stands row k (nbr j i)

    pub record Clash (n : ℕ) : Type 0 where
      pub from : ℕ
      pub at : ℕ
      pub known : from < n
      pub there : HasNeighbour from at
      pub index : ℕ
      pub below : index < n
      pub is : row index ≡ nbr from at
      pub apart : byte index ≢ 1 - byte from
      pub met : (j i : ℕ) → Earlier j i from at → HasNeighbour j i → Agrees row byte n (nbr j i) (1 - byte j)
      pub few : (k : ℕ) → 0 < k → k < n
          → (j : ℕ) × (i : ℕ) × Earlier j i from at × HasNeighbour j i × (row k ≡ nbr j i)
