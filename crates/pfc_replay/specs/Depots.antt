-- A depot before and after a run.
use Rattle.std.specs.Prelude.{◌≡◌, ℕ, Bool, List, Option}
use Rattle.pfc_report.specs.Caused.{Disks, disks_of}

-- what a report says of it, and how many of its listings failed
pub record DepotState : Type 1 where
  pub disks : Disks
  pub unlisted : ℕ

abbrev pub state_of : {P : Type 0} → Bool → (P → List ℕ → Option (List ℕ) → Type 0) → (P → ℕ) → (P → ℕ) → P → DepotState
state_of tells main faults unlisted depot = record { disks = disks_of tells main faults depot; unlisted = unlisted depot }

-- no listing failed
abbrev pub IsListed : DepotState → DepotState → Type 0
IsListed depot depot' = depot'.unlisted ≡ depot.unlisted
