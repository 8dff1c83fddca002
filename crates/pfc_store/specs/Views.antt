-- What contracts see of a store and of its two halves.
use Rattle.std.specs.Prelude.{ℕ, Bool, List, Option}
use Rattle.pfc_base.specs.Cinfo.{Head}
use Rattle.pfc_store.specs.declared.broken.Broken.{Broken}

-- the half with the data: which blocks of the file are written, which of them are durable, and the failure that froze it
pub record DataView (D : Type 0) : Type 0 where
  pub device : D
  pub path : List ℕ
  pub size : ℕ
  pub block_size : ℕ
  pub durable : List Bool
  pub written : List Bool
  pub frozen : Option Broken

-- The half with the cinfo: the head that the opening found or made, the blocks that every main file claims, those that
-- the next one is to claim, and the failure that froze it.
pub record InfoView (I : Type 0) : Type 0 where
  pub device : I
  pub path : List ℕ
  pub size : ℕ
  pub block_size : ℕ
  pub head : Head
  pub claimed : List Bool
  pub due : List Bool
  pub frozen : Option Broken

-- The store: both devices, the file, the head that the opening found or made, three sets of blocks, each in the next
-- one, and the failure that froze it.
pub record StoreView (D I : Type 0) : Type 0 where
  pub first : D
  pub second : I
  pub path : List ℕ
  pub size : ℕ
  pub block_size : ℕ
  pub head : Head
  pub claimed : List Bool
  pub durable : List Bool
  pub written : List Bool
  pub frozen : Option Broken

-- a volume without a main file
pub record BareView (D I : Type 0) : Type 0 where
  pub first : D
  pub second : I
