-- Loans of a file's store.
use Rattle.std.specs.Prelude.{◌≡◌, ◌<◌, ◌⊎◌, ◌==◌, ℕ, Bool, true, false, if◌then◌else◌, List, Option, Some, None, IsSome, IsTrue, length, sum_by, count_by, slice_set}
use Rattle.pfc_base.specs.Cinfo.{Head}
use Rattle.pfc_log.specs.declared.entry.Entry.TheVariants.{Wrote, Synced, Claimed, Frozen}
use Rattle.pfc_log.specs.Lawful.{IsCached, IsUnfrozen}
use Rattle.pfc_log.specs.Views.{place, is_here, times, is_frozen}
use Rattle.pfc_store.specs.Views.{StoreView}
use Rattle.pfc_core.specs.declared.loan.Did.{Did}
use Rattle.pfc_core.specs.declared.loan.Did.TheVariants as did
use Rattle.pfc_core.specs.declared.loan.Lent.{Lent}
use Rattle.pfc_core.specs.declared.loan.NoLoan.{NoLoan}
use Rattle.pfc_core.specs.declared.loan.NoLoan.TheVariants.{Out, NoStore}
use Rattle.pfc_core.specs.declared.loan.Turn.{Turn}
use Rattle.pfc_core.specs.declared.loan.Turn.TheVariants as turn
use Rattle.pfc_core.specs.declared.loan.TurnRefusal.{TurnRefusal}
use Rattle.pfc_core.specs.declared.loan.TurnRefusal.TheVariants as refusal
use Rattle.pfc_core.specs.declared.token.Strayed.{Strayed}
use Rattle.pfc_core.specs.Loans.{Aim, ForBlocks, ForSync, ForPut, LoanView}
use Rattle.pfc_core.specs.Marks.{Mark, LoanKind, kind_code, listed, Gains, Loses}
use Rattle.pfc_core.specs.Out.{loan_of, mark_in}
use Rattle.pfc_core.specs.Sets.{SetsView, Fits}
use Rattle.pfc_core.specs.View.{CoreView, home_in, entered}

abbrev pub is_loan : Mark → Bool
is_loan m = kind_code m.kind == kind_code LoanKind

-- how many loans are out
abbrev pub loans_out : List Mark → ℕ
loans_out out = count_by is_loan out

-- the blocks on disk, as the core has them
abbrev pub sets_of : CoreView → SetsView
sets_of v = record { stored = v.stored; durable = v.durable; claimed = v.claimed; frozen = if 0 == times is_frozen v.entries then false else true }

-- the store is of the core's file
pub record IsOfFile {D I : Type 0} (v : CoreView) (s : StoreView D I) : Type 0 where
  pub path_is : s.path ≡ v.path
  pub size_is : s.size ≡ v.size
  pub block_size_is : s.block_size ≡ v.block_size

-- a store of the core's file is at home
abbrev pub IsHome : {D I : Type 0} → CoreView → Option (StoreView D I) → Type 0
IsHome v None = ⊥
IsHome v (Some s) = IsOfFile v s

-- the loan of this number that the core lends now
abbrev pub lent_now : CoreView → ℕ → Bool → Lent
lent_now v number for_turn = record { number = number; at = length v.entries; turn = for_turn }

-- no loan was out, and the store that was at home is lent for this
pub record LendsFor {D I : Type 0} (aim : Aim) (for_turn : Bool) (old : CoreView) (home : Option (StoreView D I)) (loan : LoanView D I) (new : CoreView) : Type 0 where
  pub cached : IsCached old.first
  pub none : loans_out old.out ≡ 0
  pub store_is : home ≡ Some loan.store
  pub aim_is : loan.aim ≡ aim
  pub idle : loan.did ≡ did.Nothing
  pub mine : loan.mark ≡ mark_in LoanKind (home_in old) (loan_of (lent_now old loan.mark.number for_turn))
  pub gains : Gains old.out loan.mark new.out
  pub rest : new ≡ record old { out = new.out }

-- it is lent for reads and one write
abbrev pub Lends : {D I : Type 0} → CoreView → Option (StoreView D I) → LoanView D I → CoreView → Type 0
Lends old home loan new = LendsFor ForBlocks false old home loan new

-- what a turn's loan is for; it carries a copy of the head that the cinfo gets
abbrev pub aim_at : Turn → Head → Aim
aim_at turn.Data head = ForSync
aim_at turn.Info head = ForPut head

-- a working store is lent for a turn
pub record LendsTurn {D I : Type 0} (for_turn : Turn) (old : CoreView) (home : Option (StoreView D I)) (loan : LoanView D I) (new : CoreView) : Type 0 where
  pub unfrozen : IsUnfrozen old.entries
  pub lends : LendsFor (aim_at for_turn old.access.head) true old home loan new

-- the loan of this number is out
abbrev pub IsOut : CoreView → ℕ → Type 0
IsOut v number = (lent : Lent) × (lent.number ≡ number) × (0 < listed (mark_in LoanKind (home_in v) (loan_of lent)) v.out)

-- the first that fits: the file isn't cached; a loan is out; no store of the file is at home
abbrev pub NotLent : {D I : Type 0} → CoreView → Option (StoreView D I) → NoLoan → Type 0
NotLent old home (Out number) = IsCached old.first × IsOut old number
NotLent old home NoStore = (IsCached old.first → ⊥) ⊎ ((loans_out old.out ≡ 0) × (IsHome old home → ⊥))

-- the first that fits: the file isn't cached; the store is frozen; a loan is out; no store of the file is at home; memory
abbrev pub NoTurn : {D I : Type 0} → CoreView → Option (StoreView D I) → TurnRefusal → Type 0
NoTurn old home refusal.NoStore = (IsCached old.first → ⊥) ⊎ (IsUnfrozen old.entries × (loans_out old.out ≡ 0) × (IsHome old home → ⊥))
NoTurn old home refusal.Frozen = IsCached old.first × (IsUnfrozen old.entries → ⊥)
NoTurn old home (refusal.Out number) = IsCached old.first × IsUnfrozen old.entries × IsOut old number
NoTurn old home refusal.Memory = IsCached old.first × IsUnfrozen old.entries × (loans_out old.out ≡ 0) × IsHome old home

-- a block that was written is in memory
abbrev pub IsInMemory : CoreView → Did → Type 0
IsInMemory v (did.Wrote i) = IsTrue (is_here (place i v.entries))
IsInMemory v _ = Unit {0}

-- what the loan did may be entered: it was lent with the core's sets, and what it wrote is in memory
pub record IsEnterable {D I : Type 0} (v : CoreView) (loan : LoanView D I) : Type 0 where
  pub fits : Fits (sets_of v) loan.store loan.did
  pub memory : IsInMemory v loan.did

-- a block was written
abbrev pub with_written : CoreView → ℕ → CoreView
with_written v i = record (entered v (Wrote i) v.out) { stored = slice_set v.stored i true }

-- and what is out stays so, in any order
pub record EntersWrite (old : CoreView) (i : ℕ) (new : CoreView) : Type 0 where
  pub same : (w : Mark → ℕ) → sum_by w new.out ≡ sum_by w old.out
  pub enters : new ≡ record (with_written old i) { out = new.out }

-- the store was frozen: what isn't durable can't be read any more
abbrev pub with_frozen : CoreView → CoreView
with_frozen v = record (entered v Frozen v.out) { stored = v.durable }

-- each written block is durable
abbrev pub with_synced : CoreView → CoreView
with_synced v = record (entered v Synced v.out) { durable = v.stored }

-- the cinfo claims what is durable, by a loan that was lent at this place
abbrev pub with_claimed : CoreView → ℕ → CoreView
with_claimed v at = record (entered v (Claimed at (count_by (λ member. member) v.durable)) v.out) { claimed = v.durable }

abbrev pub with_did : CoreView → ℕ → Did → CoreView
with_did v at did.Nothing = v
with_did v at (did.Wrote i) = with_written v i
with_did v at did.Synced = with_synced v
with_did v at did.Claimed = with_claimed v at
with_did v at did.Broke = with_frozen v

-- the loan comes back, and what it did is entered
pub record Gives {D I : Type 0} (old : CoreView) (loan : LoanView D I) (new : CoreView) : Type 0 where
  pub enterable : IsEnterable old loan
  pub loses : Loses old.out loan.mark new.out
  pub enters : new ≡ record (with_did old loan.mark.flight loan.did) { out = new.out }

-- The core's list has no such loan, or it was lent with other sets, or it wrote a block that isn't in memory, or a store is
-- at home already.
pub record StraysLoan {D I T : Type 0} (old : CoreView) (home : Option (StoreView D I)) (loan : LoanView D I) (token : T) (s : Strayed T) (new : CoreView) : Type 0 where
  pub back : s.token ≡ token
  pub why_is : s.why ≡ record { token = record { instance = loan.mark.instance; number = loan.mark.number }; instance = old.instance }
  pub cause : IsSome home ⊎ ((listed loan.mark old.out ≡ 0) ⊎ (IsEnterable old loan → ⊥))
  pub unchanged : new ≡ old
