-- What a crash leaves of a main file that is replaced.
use Rattle.std.proofs.Common.{◌≡◌, ◌⊎◌, inl, inr, ⊎_elim, ℕ, Bool, true, List, Option, Some, None, refl, sym, subst}
use Rattle.pfc_base.specs.BlockSet.{is_member, IsWithin}
use Rattle.pfc_base.specs.Cinfo.{Cinfo, IsCinfo}
use Rattle.pfc_world.specs.Run.{Run, Goes, moment}
use Rattle.pfc_world.specs.Info.{Info, IsMain, stable, WriteTemp, SyncTemp, Rename}
use Rattle.pfc_world.proofs.Moments.{started, goes_on, since, weaker}
use Rattle.pfc_store.specs.Claims.{ClaimsBetween, MainBetween, WithinNow, WithinSince, Replaces}

module _ (bytes : List ℕ) (old : Run Info) where
  abbrev OldOrNew : Info → Type 0
  OldOrNew info = (main : Option (List ℕ)) → IsMain info main → IsMain old.now main ⊎ (main ≡ Some bytes)

  pub after_write : (ok : Bool) (a : Run Info) → Goes (WriteTemp bytes ok) old a → Replaces (Some bytes) old a
  after_write ok a wrote = goes_on OldOrNew (WriteTemp bytes ok) old old a (started OldOrNew old (λ main is. inl is)) wrote (λ main is. inl (wrote.does.main.fewer main is))

  pub after_sync : (ok : Bool) (a b : Run Info) → Goes (WriteTemp bytes true) old a → Goes (SyncTemp ok) a b → Replaces (Some bytes) old b
  after_sync ok a b wrote synced = goes_on OldOrNew (SyncTemp ok) old a b (after_write true a wrote) synced (λ main is. inl (wrote.does.main.fewer main (synced.does.main.fewer main is)))

  is_stable : (a b : Run Info) → Goes (WriteTemp bytes true) old a → Goes (SyncTemp true) a b → b.now.temporary ≡ stable bytes
  is_stable a b wrote synced = synced.does.stable refl bytes (wrote.does.written refl)

  pub after_rename : (ok : Bool) (a b new : Run Info) → Goes (WriteTemp bytes true) old a → Goes (SyncTemp true) a b → Goes (Rename ok) b new → Replaces (Some bytes) old new
  after_rename ok a b new wrote synced renamed = goes_on OldOrNew (Rename ok) old b new (after_sync true a b wrote synced) renamed (λ main is. ⊎_elim
      (λ was. inl (wrote.does.main.fewer main (synced.does.main.fewer main was)))
      (λ now. inr now)
      (renamed.does.either bytes (is_stable a b wrote synced) main is))

  pub renamed_only : (ok : Bool) (a b new : Run Info) → ok ≡ true → Goes (WriteTemp bytes true) old a → Goes (SyncTemp true) a b → Goes (Rename ok) b new → (main : Option (List ℕ)) → IsMain new.now main → main ≡ Some bytes
  renamed_only ok a b new done wrote synced renamed = renamed.does.done done bytes (is_stable a b wrote synced)

-- a cinfo that claims all that is due
pub due_between : (size k : ℕ) (low due : List Bool) (c : Cinfo) → c.size ≡ size → c.block ≡ k → c.claims ≡ due → IsWithin low due → ClaimsBetween size k low due c
due_between size k low due c size_is block_is claims_is nested = record {
  size_is = size_is;
  block_is = block_is;
  contain = λ i in_low. subst (λ s. is_member s i ≡ true) (sym claims_is) (nested i in_low);
  within = λ i in_claims. subst (λ s. is_member s i ≡ true) claims_is in_claims;
}

module _ (size k : ℕ) (low due : List Bool) (bytes : List ℕ) (c : Cinfo) (old new : Run Info) (is : IsCinfo bytes c) (next : ClaimsBetween size k low due c) (keeps : WithinNow size k low due old.now) where
  is_so : (main : Option (List ℕ)) → IsMain old.now main ⊎ (main ≡ Some bytes) → MainBetween size k low due main
  is_so main either = ⊎_elim (keeps main) (λ same. subst (MainBetween size k low due) (sym same) (c, is, next)) either

  pub put_since : Replaces (Some bytes) old new → WithinSince size k low due new (moment old)
  put_since replaces = since IsMain (MainBetween size k low due) old new
      (weaker (λ info. (main : Option (List ℕ)) → IsMain info main → IsMain old.now main ⊎ (main ≡ Some bytes)) (WithinNow size k low due) old new (λ info all main m. is_so main (all main m)) replaces)

  pub put_now : Replaces (Some bytes) old new → WithinNow size k low due new.now
  put_now replaces main m = is_so main (replaces.now main m)

-- once it is done, each main file claims all that was due
pub put_done : (size k : ℕ) (due : List Bool) (bytes : List ℕ) (c : Cinfo) (info : Info) → IsCinfo bytes c → ClaimsBetween size k due due c → ((main : Option (List ℕ)) → IsMain info main → main ≡ Some bytes) → WithinNow size k due due info
put_done size k due bytes c info is next only main m = subst (MainBetween size k due due) (sym (only main m)) (c, is, next)

-- no call was made
pub within_now : (size k : ℕ) (low high : List Bool) (run : Run Info) → WithinNow size k low high run.now → WithinSince size k low high run (moment run)
within_now size k low high run keeps = since IsMain (MainBetween size k low high) run run (started (WithinNow size k low high) run keeps)

-- more may be claimed
pub may_claim_more : (size k : ℕ) (low high more : List Bool) (info : Info) → IsWithin high more → WithinNow size k low high info → WithinNow size k low more info
may_claim_more size k low high more info wider keeps main m = widen main (keeps main m)
  where
    widen : (main : Option (List ℕ)) → MainBetween size k low high main → MainBetween size k low more main
    widen None so = so
    widen (Some bytes) so = (so.0, so.1, record { size_is = so.2.size_is; block_is = so.2.block_is; contain = so.2.contain; within = λ i in_claims. wider i (so.2.within i in_claims) })
