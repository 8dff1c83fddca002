-- A loan that came back, by what it did.
use Rattle.std.proofs.Common.{◌≡◌, ℕ, ◌∙◌, sym, subst, ap, List, length, Bool, take, Option, Some}
use Rattle.std.specs.Prelude.{count_by}
use Rattle.pfc_base.specs.BlockSet.{is_member}
use Rattle.pfc_log.specs.declared.entry.Entry.{Entry}
use Rattle.pfc_log.specs.declared.start.Start.{Start}
use Rattle.pfc_log.specs.Lawful.{IsUnfrozen, IsOn, MayClaim}
use Rattle.pfc_log.specs.Views.{bound, durable, count_below}
use Rattle.pfc_log.proofs.Same.{count_below_same}
use Rattle.pfc_core.specs.declared.held.Held.{Held}
use Rattle.pfc_core.specs.declared.loan.Did.{Did}
use Rattle.pfc_core.specs.declared.loan.Did.TheVariants as did
use Rattle.pfc_core.specs.declared.loan.Lent.{Lent}
use Rattle.pfc_core.specs.Kept.{turn_room}
use Rattle.pfc_core.specs.Lending.{IsEnterable, Gives, sets_of, with_did}
use Rattle.pfc_core.specs.Loans.{LoanView}
use Rattle.pfc_core.specs.Marks.{Loses}
use Rattle.pfc_core.specs.Out.{loan_of}
use Rattle.pfc_core.specs.Sets.{FitsDid, FitsBroken, FitsTurned}
use Rattle.pfc_core.specs.Turned.{IsLent, IsLentSince, AreTurns}
use Rattle.pfc_core.specs.View.{CoreView}
use Rattle.pfc_core.proofs.Said.{unfrozen_of}
use Rattle.pfc_core.proofs.Turned.{count_members}

module _ {D I : Type 0} (v : CoreView) (loan : LoanView D I) (may : IsEnterable v loan) where
  pub broke : loan.did ≡ did.Broke → FitsBroken (sets_of v) loan.store
  broke is = subst (λ (d : Did). FitsDid (sets_of v) loan.store d) is may.fits.did_is

  pub broke_cold : loan.did ≡ did.Broke → IsUnfrozen v.entries
  broke_cold is = unfrozen_of _ (broke is).thawed

  synced : loan.did ≡ did.Synced → FitsTurned (sets_of v) loan.store
  synced is = subst (λ (d : Did). FitsDid (sets_of v) loan.store d) is may.fits.did_is

  pub synced_cold : loan.did ≡ did.Synced → IsUnfrozen v.entries
  synced_cold is = unfrozen_of _ (synced is).thawed

  claimed : loan.did ≡ did.Claimed → FitsTurned (sets_of v) loan.store
  claimed is = subst (λ (d : Did). FitsDid (sets_of v) loan.store d) is may.fits.did_is

  pub claimed_cold : loan.did ≡ did.Claimed → IsUnfrozen v.entries
  claimed_cold is = unfrozen_of _ (claimed is).thawed

  -- what was entered is what it did
  pub gives_did : (d : Did) (new : CoreView) → loan.did ≡ d → Loses v.out loan.mark new.out → new ≡ record (with_did v loan.mark.flight d) { out = new.out } → Gives v loan new
  gives_did d new is loses enters = record { enterable = may; loses = loses; enters = subst (λ (k : Did). new ≡ record (with_did v loan.mark.flight k) { out = new.out }) (sym is) enters }

-- the loan that is out was lent so
pub lent_is : (first : Start) (es : List Entry) (set : List Bool) (loan : Option Lent) (claim : Option ℕ) (visited : ℕ) (l : Lent) → AreTurns first es set loan claim visited → loan ≡ Some l → IsLentSince first es l
lent_is first es set loan claim visited l was is = subst (λ (o : Option Lent). IsLent first es o) is was.lent

-- and where its mark is of a turn, its entry has its room
pub turn_has_room : (loan : Option Lent) (l : Lent) (p : Held) → loan ≡ Some l → p ≡ loan_of l → p.owner ≡ 1 → turn_room loan ≡ 1
turn_has_room loan l p is held one = ap turn_room is ∙ sym (ap (λ (q : Held). q.owner) held) ∙ one

-- the cinfo may claim what is durable
pub claim_row : (first : Start) (es : List Entry) (set : List Bool) (l : Lent) → IsLentSince first es l → IsUnfrozen es → IsOn es → length set ≡ bound first → ((i : ℕ) → is_member set i ≡ durable first i es) → MayClaim first es l.at (count_by (λ (member : Bool). member) set)
claim_row first es set l lent cold still long same = record {
  working = record { cached = lent.cached; unfrozen = cold; on = still };
  past = lent.past;
  later = lent.later;
  number = count_members set ∙ ap (count_below (is_member set)) long ∙ count_below_same (is_member set) (λ i. durable first i (take l.at es)) (bound first) (λ i. same i ∙ sym (lent.since i));
}

pub lends_as : {first : Start} {es : List Entry} {set : List Bool} {claim : Option ℕ} {visited : ℕ} (loan : Option Lent) (l : Lent) → loan ≡ Some l → AreTurns first es set loan claim visited → AreTurns first es set (Some l) claim visited
lends_as {first = first} {es = es} {set = set} {claim = claim} {visited = visited} loan l is was = subst (λ (o : Option Lent). AreTurns first es set o claim visited) is was
