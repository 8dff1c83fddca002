-- A core as it begins.
use Rattle.std.specs.Prelude.{◌≡◌, ℕ, Bool, List, []}
use Rattle.pfc_log.specs.declared.start.Start.TheVariants.{Stored}
use Rattle.pfc_log.specs.declared.start.Start.TheVariants as start
use Rattle.pfc_log.specs.declared.entry.Uncached.{Uncached}
use Rattle.pfc_base.specs.Cinfo.{Head}
use Rattle.pfc_core.specs.Access.{as_found}
use Rattle.pfc_core.specs.View.{CoreView}

-- nothing has happened, these blocks are on disk for good and claimed, the cinfo has this head, and no token is out
pub record IsNew (instance : ℕ) (path : List ℕ) (size k : ℕ) (set : List Bool) (head : Head) (v : CoreView) : Type 0 where
  pub instance_is : v.instance ≡ instance
  pub path_is : v.path ≡ path
  pub size_is : v.size ≡ size
  pub block_size_is : v.block_size ≡ k
  pub start : v.first ≡ Stored set
  pub stored_is : v.stored ≡ set
  pub durable_is : v.durable ≡ set
  pub claimed_is : v.claimed ≡ set
  pub access_is : v.access ≡ as_found head
  pub entries : v.entries ≡ []
  pub out : v.out ≡ []

-- nothing has happened, the file isn't cached for this cause, and no token is out
pub record IsNewUncached (instance : ℕ) (path : List ℕ) (size k : ℕ) (why : Uncached) (v : CoreView) : Type 0 where
  pub instance_is : v.instance ≡ instance
  pub path_is : v.path ≡ path
  pub size_is : v.size ≡ size
  pub block_size_is : v.block_size ≡ k
  pub start : v.first ≡ start.Uncached why
  pub stored_is : v.stored ≡ []
  pub durable_is : v.durable ≡ []
  pub claimed_is : v.claimed ≡ []
  pub entries : v.entries ≡ []
  pub out : v.out ≡ []
