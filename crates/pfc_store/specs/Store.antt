-- The store as a pair of halves.
use Rattle.std.specs.Prelude.{◌≡◌, length}
use Rattle.std.specs.Option.{option_or}
use Rattle.pfc_base.specs.BlockSet.{IsWithin}
use Rattle.pfc_store.specs.Views.{DataView, InfoView, StoreView}

abbrev pub data_side : {D I : Type 0} → StoreView D I → DataView D
data_side s = record { device = s.first; path = s.path; size = s.size; block_size = s.block_size; durable = s.durable; written = s.written; frozen = s.frozen }

-- all that is durable is due
abbrev pub info_side : {D I : Type 0} → StoreView D I → InfoView I
info_side s = record { device = s.second; path = s.path; size = s.size; block_size = s.block_size; head = s.head; claimed = s.claimed; due = s.durable; frozen = s.frozen }

-- the store, whose data side is this now
abbrev pub with_data : {D I : Type 0} → StoreView D I → DataView D → StoreView D I
with_data s d = record s { first = d.device; durable = d.durable; written = d.written; frozen = d.frozen }

abbrev pub with_info : {D I : Type 0} → StoreView D I → InfoView I → StoreView D I
with_info s i = record s { second = i.device; claimed = i.claimed; frozen = i.frozen }

-- both halves together, frozen where one is
abbrev pub store_of : {D I : Type 0} → DataView D → InfoView I → StoreView D I
store_of d i = record { first = d.device; second = i.device; path = d.path; size = d.size; block_size = d.block_size; head = i.head; claimed = i.claimed; durable = d.durable; written = d.written; frozen = option_or d.frozen i.frozen }

-- halves of one file, where all that is due is durable
pub record FitTogether {D I : Type 0} (d : DataView D) (i : InfoView I) : Type 0 where
  pub path_is : d.path ≡ i.path
  pub size_is : d.size ≡ i.size
  pub block_is : d.block_size ≡ i.block_size
  pub due_in : IsWithin i.due d.durable

-- what a store keeps of its halves
pub record IsStore {D I : Type 0} (d : DataView D) (i : InfoView I) : Type 0 where
  pub fit : FitTogether d i
  pub frozen_is : d.frozen ≡ i.frozen
  pub bounds : length i.due ≡ length d.durable
