-- What stands beside a core, where the turn of a sync is made by its loan.
use Rattle.std.proofs.Common.{◌≡◌, ◌⊎◌, ℕ, sym, ap, subst, arith, Bool, inl, inr}
use Rattle.std.specs.Prelude.{Result, Ok, Err}
use Rattle.pfc_world.specs.Disk.{Disk}
use Rattle.pfc_world.specs.Files.{Files}
use Rattle.pfc_world.specs.Info.{Info}
use Rattle.pfc_world.specs.Run.{Run}
use Rattle.pfc_store.specs.declared.broken.SyncRefusal.{SyncRefusal}
use Rattle.pfc_store.specs.declared.broken.SyncRefusal.TheVariants as syncing
use Rattle.pfc_store.specs.declared.broken.InfoPutRefusal.{InfoPutRefusal}
use Rattle.pfc_store.specs.declared.broken.InfoPutRefusal.TheVariants as putting
use Rattle.pfc_store.specs.Data as of_data
use Rattle.pfc_store.specs.Info as of_info
use Rattle.pfc_store.specs.Store.{data_side, info_side}
use Rattle.pfc_core.specs.declared.loan.Did.{Did}
use Rattle.pfc_core.specs.declared.loan.Did.TheVariants as did
use Rattle.pfc_core.specs.Loans.{LoanView, SyncsLent, PutsLent, did_sync, did_put}
use Rattle.pfc_sync.specs.Turns.{TakesTurn}
use Rattle.pfc_actor.specs.Standings.{TurnBreaks, TurnsBy}

module _ {D I : Type 0} (told : Bool) (files : Files) (told_data told_info : Bool) (faults : D → ℕ) (counts : I → ℕ) (seen : D → Run Disk) (shown : I → Run Info) (old new : LoanView D I) where
  abbrev pub now : LoanView D I → ℕ × ℕ
  now l = (faults l.store.first, counts l.store.second)

  sync_breaks : (answer : Result Unit SyncRefusal) → of_data.Syncs faults (data_side old.store) answer (data_side new.store) → TurnBreaks (now old) (now new) (did_sync answer)
  sync_breaks (Ok u) w = tt
  sync_breaks (Err (syncing.Frozen b)) w = tt
  sync_breaks (Err (syncing.Device b)) w = inl w.1.rose

  put_breaks : (answer : Result Unit InfoPutRefusal) → of_info.Puts counts (info_side old.store) answer (info_side new.store) → TurnBreaks (now old) (now new) (did_put answer)
  put_breaks (Ok u) w = tt
  put_breaks (Err putting.Memory) w = tt
  put_breaks (Err (putting.Frozen b)) w = tt
  put_breaks (Err (putting.Device b)) w = inr w.1.rose

  synced : (answer : Result Unit SyncRefusal) → old.did ≡ did.Nothing → SyncsLent told files told_data told_info faults seen shown old answer new → TurnsBy faults counts old new
  synced answer idle w = record {
    idle = idle;
    mark_is = ap (λ (l : LoanView D I). l.mark) w.rest;
    first_rises = w.rising;
    second_rises = let same : counts new.store.second ≡ counts old.store.second = ap (λ (l : LoanView D I). counts l.store.second) w.rest in omega (arith, same);
    breaks = subst (λ (d : Did). TurnBreaks (now old) (now new) d) (sym (ap (λ (l : LoanView D I). l.did) w.rest)) (sync_breaks answer w.syncs);
  }

  put : (answer : Result Unit InfoPutRefusal) → old.did ≡ did.Nothing → PutsLent told files told_data told_info counts seen shown old answer new → TurnsBy faults counts old new
  put answer idle w = record {
    idle = idle;
    mark_is = ap (λ (l : LoanView D I). l.mark) w.rest;
    first_rises = let same : faults new.store.first ≡ faults old.store.first = ap (λ (l : LoanView D I). faults l.store.first) w.rest in omega (arith, same);
    second_rises = w.rising;
    breaks = subst (λ (d : Did). TurnBreaks (now old) (now new) d) (sym (ap (λ (l : LoanView D I). l.did) w.rest)) (put_breaks answer w.puts);
  }

  pub turn_taken : (done : Bool) → TakesTurn told files told_data told_info faults counts seen shown old done new → TurnsBy faults counts old new ⊎ (new ≡ old)
  turn_taken done (inl w) = inl (synced w.answer w.idle w.syncs)
  turn_taken done (inr (inl w)) = inl (put w.answer w.idle w.puts)
  turn_taken done (inr (inr w)) = inr w.same
