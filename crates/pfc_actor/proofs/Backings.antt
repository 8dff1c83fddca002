-- What stands beside a core, as calls go on.
use Rattle.std.proofs.Common.{◌≡◌, ℕ, ◌+◌, List, [], ◌∷◌, ◌++◌, refl, sym, ap, subst, ◌∙◌, arith, Bool, true, false, inl, inr}
use Rattle.std.specs.Prelude.{Result, Ok, Err, Option, Some, None, IfSome, count_by, sum_by, if◌then◌else◌}
use Rattle.pfc_world.specs.Disk.{Disk}
use Rattle.pfc_world.specs.Files.{Files}
use Rattle.pfc_world.specs.Info.{Info}
use Rattle.pfc_world.specs.Run.{Run}
use Rattle.pfc_log.specs.declared.entry.Entry.{Entry}
use Rattle.pfc_log.specs.declared.entry.Entry.TheVariants.{Direct, Wrote, Synced, Claimed, Frozen}
use Rattle.pfc_log.specs.declared.entry.Way.TheVariants.{Device}
use Rattle.pfc_log.specs.declared.start.Start.{Start}
use Rattle.pfc_log.specs.Charges.{charge, charges, is_charged, is_there}
use Rattle.pfc_log.specs.Tallies.{tally}
use Rattle.pfc_log.specs.Views.{times}
use Rattle.pfc_log.proofs.Charging.{charges_more}
use Rattle.pfc_log.proofs.More.{times_none}
use Rattle.pfc_log.proofs.Tallied.{tally_same}
use Rattle.pfc_store.specs.declared.broken.Put.{Put}
use Rattle.pfc_store.specs.declared.broken.Put.TheVariants as put
use Rattle.pfc_store.specs.declared.broken.WriteRefusal.{WriteRefusal}
use Rattle.pfc_store.specs.declared.broken.WriteRefusal.TheVariants as writing
use Rattle.pfc_store.specs.Data.{Writes}
use Rattle.pfc_store.specs.Views.{DataView, StoreView}
use Rattle.pfc_core.specs.declared.loan.Did.{Did}
use Rattle.pfc_core.specs.declared.loan.Did.TheVariants as did
use Rattle.pfc_core.specs.Lending.{LendsFor, Gives, sets_of, with_did}
use Rattle.pfc_core.specs.Loans.{Aim, LoanView, IsLoan, WritesLent, did_by}
use Rattle.pfc_core.specs.Marks.{Mark, LoanKind}
use Rattle.pfc_core.specs.Sets.{claimed_by, durable_by}
use Rattle.pfc_core.specs.Access.{AccessView}
use Rattle.pfc_core.specs.View.{CoreView}
use Rattle.pfc_actor.specs.Backings.{BackingView, Stand, Bare, Taken, Open, Lent, broken_in, written_in, Covers, EntersBy, StandsFor, HasCovered, IsBackingOf, LoanStep, AllowsLeave, Follows}
use Rattle.pfc_actor.specs.Standings.{BreaksBy, WritesBlock, WritesBy, told_by}
use Rattle.pfc_actor.proofs.Growing.{plain_one, plain_same}

abbrev pub beside : Stand → ℕ × ℕ → ℕ × ℕ → ℕ → Option Info → List Bool → List Bool → BackingView
beside s before now unspent info claimed durable = record { stand = s; before = before; now = now; unspent = unspent; info = info; claimed = claimed; durable = durable }

-- ---- by a loan

breaks_by : {D : Type 0} (faults : D → ℕ) (old new : DataView D) (i : ℕ) (result : Result Put WriteRefusal) → Writes faults old i result new → BreaksBy (faults old.device) (faults new.device) (did_by i result)
breaks_by faults old new i (Ok put.Wrote) w = tt
breaks_by faults old new i (Ok put.AlreadyThere) w = tt
breaks_by faults old new i (Err (writing.Frozen b)) w = tt
breaks_by faults old new i (Err (writing.Device b)) w = w.2.rose

pub writes_by : {D I : Type 0} {told : Bool} {files : Files} {told_data told_info : Bool} {faults : D → ℕ} {seen : D → Run Disk} {shown : I → Run Info} (old new : LoanView D I) (i : ℕ) (result : Result Put WriteRefusal) →
    WritesLent told files told_data told_info faults seen shown old i result new → old.did ≡ did.Nothing → WritesBy faults old new
writes_by {D = D} {I = I} {faults = faults} old new i result w idle =
    let is : new.did ≡ did_by i result = ap (λ (l : LoanView D I). l.did) w.rest in record {
      idle = idle;
      mark_is = ap (λ (l : LoanView D I). l.mark) w.rest;
      second_is = ap (λ (l : LoanView D I). l.store.second) w.rest;
      rises = w.rising;
      breaks = subst (λ (d : Did). BreaksBy (faults old.store.first) (faults new.store.first) d) (sym is) (breaks_by faults _ _ i result w.writes);
    }

block_by : (i : ℕ) (result : Result Put WriteRefusal) → WritesBlock i (did_by i result)
block_by i (Ok put.Wrote) = refl
block_by i (Ok put.AlreadyThere) = tt
block_by i (Err (writing.Frozen b)) = tt
block_by i (Err (writing.Device b)) = tt

-- what is written is the block of the job
pub writes_block : {D I : Type 0} {told : Bool} {files : Files} {told_data told_info : Bool} {faults : D → ℕ} {seen : D → Run Disk} {shown : I → Run Info} (old new : LoanView D I) (i : ℕ) (result : Result Put WriteRefusal) →
    WritesLent told files told_data told_info faults seen shown old i result new → WritesBlock i new.did
writes_block {D = D} {I = I} old new i result w = subst (WritesBlock i) (sym (ap (λ (l : LoanView D I). l.did) w.rest)) (block_by i result)

-- ---- loans that go and come

enters_none : (o : Option ℕ) (c : CoreView) → EntersBy o c c
enters_none None c = plain_same c.entries c.entries refl
enters_none (Some i) c = inl refl

stays_written : (o : Option ℕ) (c : CoreView) → IfSome o (λ i. (o ≡ Some i) × (c ≡ c))
stays_written None c = tt
stays_written (Some i) c = (refl, refl)

pub step_none : (c : CoreView) (b : BackingView) → LoanStep c b c b
step_none c b = record {
  tokens = λ w. refl;
  home = refl;
  tallies = λ n. refl;
  theres = refl;
  path = refl;
  before = refl;
  backed = λ old. old;
  follows = λ size k found old. old;
  charges = λ bare. refl;
  enters = enters_none (written_in b.stand) c;
  written = stays_written (written_in b.stand) c;
}

module _ (c : CoreView) (p now : ℕ × ℕ) (u : ℕ) (m : Mark) (path : List ℕ) (size k : ℕ) (info : Option Info) (kept safe_kept : List Bool) (path_is : m.path ≡ path) (size_is : m.size ≡ size) (block_is : m.block_size ≡ k) where
  goes : (o : List Mark) (d : Did) → ((w : Mark → ℕ) → sum_by w o ≡ sum_by w c.out + w m) → d ≡ did.Nothing → m.kind ≡ LoanKind →
      LoanStep c (beside (Open path size k) p now u info kept safe_kept) (record c { out = o }) (beside (Lent m d) p now u info kept safe_kept)
  goes o d gains idle kind = record {
    tokens = λ w. omega (arith, gains w);
    home = refl;
    tallies = λ n. refl;
    theres = refl;
    path = ap Some path_is;
    before = refl;
    backed = λ old. record {
      stands = ((path_is ∙ old.stands.0.0, size_is ∙ old.stands.0.1, block_is ∙ old.stands.0.2), old.stands.1, kind);
      covered = subst (λ (x : Did). Covers (charges c.first c.entries + broken_in (Lent m x) + u) (beside (Lent m d) p now u info kept safe_kept)) (sym idle) old.covered;
    };
    follows = λ n j found old. old.0;
    charges = λ bare. refl;
    enters = plain_same c.entries c.entries refl;
    written = subst (λ (x : Did). IfSome (written_in (Lent m x)) (λ i. (None ≡ Some i) × (record c { out = o } ≡ c))) (sym idle) tt;
  }

  comes : (es : List Entry) (o : List Mark) (stored safe claimed : List Bool) (d : Did) → ((w : Mark → ℕ) → sum_by w o + w m ≡ sum_by w c.out) → ((n : ℕ) → tally n es ≡ tally n c.entries) → times is_there es ≡ times is_there c.entries →
      charges c.first es ≡ charges c.first c.entries + broken_in (Lent m d) → kept ≡ claimed → safe_kept ≡ safe →
      EntersBy (written_in (Lent m d)) c (record c { entries = es; out = o; stored = stored; durable = safe; claimed = claimed }) → LoanStep c (beside (Lent m d) p now u info kept safe_kept) (record c { entries = es; out = o; stored = stored; durable = safe; claimed = claimed }) (beside (Open path size k) p now u info kept safe_kept)
  comes es o stored safe claimed d loses tallies theres charged kept_is safe_is entered = record {
    tokens = λ w. omega (arith, loses w);
    home = refl;
    tallies = tallies;
    theres = theres;
    path = ap Some (sym path_is);
    before = refl;
    backed = λ old. record {
      stands = ((sym path_is ∙ old.stands.0.0, sym size_is ∙ old.stands.0.1, sym block_is ∙ old.stands.0.2), old.stands.1);
      covered = subst (λ (n : ℕ). Covers n (beside (Lent m d) p now u info kept safe_kept)) (omega (arith, charged)) old.covered;
    };
    follows = λ n j found old. (old, kept_is, safe_is);
    charges = λ bare. absurd (cc);
    enters = entered;
    written = tt;
  }

  came : (o : List Mark) (at : ℕ) (d : Did) → ((w : Mark → ℕ) → sum_by w o + w m ≡ sum_by w c.out) → kept ≡ claimed_by (sets_of c) d → safe_kept ≡ durable_by (sets_of c) d →
      LoanStep c (beside (Lent m d) p now u info kept safe_kept) (record (with_did c at d) { out = o }) (beside (Open path size k) p now u info kept safe_kept)
  came o at did.Nothing loses ci di = comes c.entries o c.stored c.durable c.claimed did.Nothing loses (λ n. refl) refl (omega arith) ci di (plain_same c.entries c.entries refl)
  came o at (did.Wrote i) loses ci di = comes (c.entries ++ Wrote i ∷ []) o _ c.durable c.claimed (did.Wrote i) loses (λ n. tally_same n c.entries (Wrote i) refl) (times_none is_there c.entries (Wrote i) refl) (charges_more c.first c.entries (Wrote i)) ci di (inr refl)
  came o at did.Synced loses ci di = comes (c.entries ++ Synced ∷ []) o c.stored c.stored c.claimed did.Synced loses (λ n. tally_same n c.entries Synced refl) (times_none is_there c.entries Synced refl) (charges_more c.first c.entries Synced) ci di (plain_one c.entries (c.entries ++ Synced ∷ []) Synced refl refl)
  came o at did.Claimed loses ci di = let x : Entry = Claimed at (count_by (λ (member : Bool). member) c.durable) in
      comes (c.entries ++ x ∷ []) o c.stored c.durable c.durable did.Claimed loses (λ n. tally_same n c.entries x refl) (times_none is_there c.entries x refl) (charges_more c.first c.entries x) ci di (plain_one c.entries (c.entries ++ x ∷ []) x refl refl)
  came o at did.Broke loses ci di = comes (c.entries ++ Frozen ∷ []) o c.durable c.durable c.claimed did.Broke loses (λ n. tally_same n c.entries Frozen refl) (times_none is_there c.entries Frozen refl) (charges_more c.first c.entries Frozen) ci di (plain_one c.entries (c.entries ++ Frozen ∷ []) Frozen refl refl)

pub lend_step : {D I : Type 0} (c c2 : CoreView) (s : StoreView D I) (loan : LoanView D I) (faults : D → ℕ) (counts : I → ℕ) (told : Bool) (shown : I → Run Info) (p : ℕ × ℕ) (u : ℕ) (aim : Aim) (for_turn : Bool) → LendsFor aim for_turn c (Some s) loan c2 → IsLoan loan.mark loan.store →
    LoanStep c (beside (Open s.path s.size s.block_size) p (faults s.first, counts s.second) u (told_by told (shown s.second).now) s.claimed s.durable) c2 (beside (Lent loan.mark loan.did) p (faults loan.store.first, counts loan.store.second) u (told_by told (shown loan.store.second).now) loan.store.claimed loan.store.durable)
lend_step {D = D} {I = I} c c2 s loan faults counts told shown p u aim for_turn lends is =
    let same : s ≡ loan.store = let e = lends.store_is in cc in
    rw same
    (subst (λ (v : CoreView). LoanStep c (beside (Open loan.store.path loan.store.size loan.store.block_size) p (faults loan.store.first, counts loan.store.second) u (told_by told (shown loan.store.second).now) loan.store.claimed loan.store.durable) v (beside (Lent loan.mark loan.did) p (faults loan.store.first, counts loan.store.second) u (told_by told (shown loan.store.second).now) loan.store.claimed loan.store.durable)) (sym lends.rest)
    (goes c p (faults loan.store.first, counts loan.store.second) u loan.mark loan.store.path loan.store.size loan.store.block_size (told_by told (shown loan.store.second).now) loan.store.claimed loan.store.durable is.path_is is.size_is is.block_size_is c2.out loan.did lends.gains lends.idle (ap (λ (m : Mark). m.kind) lends.mine)))

pub give_step : {D I : Type 0} (c c2 : CoreView) (s : StoreView D I) (loan : LoanView D I) (faults : D → ℕ) (counts : I → ℕ) (told : Bool) (shown : I → Run Info) (p : ℕ × ℕ) (u : ℕ) → Gives c loan c2 → IsLoan loan.mark loan.store → s ≡ loan.store →
    LoanStep c (beside (Lent loan.mark loan.did) p (faults loan.store.first, counts loan.store.second) u (told_by told (shown loan.store.second).now) loan.store.claimed loan.store.durable) c2 (beside (Open s.path s.size s.block_size) p (faults s.first, counts s.second) u (told_by told (shown s.second).now) s.claimed s.durable)
give_step {D = D} {I = I} c c2 s loan faults counts told shown p u gives is same =
    rw same
    (subst (λ (v : CoreView). LoanStep c (beside (Lent loan.mark loan.did) p (faults loan.store.first, counts loan.store.second) u (told_by told (shown loan.store.second).now) loan.store.claimed loan.store.durable) v (beside (Open loan.store.path loan.store.size loan.store.block_size) p (faults loan.store.first, counts loan.store.second) u (told_by told (shown loan.store.second).now) loan.store.claimed loan.store.durable)) (sym gives.enters)
    (came c p (faults loan.store.first, counts loan.store.second) u loan.mark loan.store.path loan.store.size loan.store.block_size (told_by told (shown loan.store.second).now) loan.store.claimed loan.store.durable is.path_is is.size_is is.block_size_is c2.out loan.mark.flight loan.did gives.loses gives.enterable.fits.safe.claimed_is gives.enterable.fits.safe.durable_is))

-- ---- a direct read

charge_is : (first : Start) (es : List Entry) (i n : ℕ) (q : Bool) → is_charged first es i ≡ q → charge first es (Direct i n Device) ≡ (if q then 1 else 0)
charge_is first es i n q h = ap {B = ℕ} (λ (b : Bool). if b then 1 else 0) h

charged : (first : Start) (es : List Entry) (i n : ℕ) (q : Bool) → is_charged first es i ≡ q → charges first (es ++ Direct i n Device ∷ []) ≡ charges first es + (if q then 1 else 0)
charged first es i n q h = charges_more first es (Direct i n Device) ∙ ap (λ (k : ℕ). charges first es + k) (charge_is first es i n q h)

stands_on : (s : Stand) (c : CoreView) (es : List Entry) (o : List Mark) (a : AccessView) → StandsFor s c → StandsFor s (record c { entries = es; out = o; access = a })
stands_on Bare c es o a x = x
stands_on (Taken path size) c es o a x = x
stands_on (Open path size k) c es o a x = x
stands_on (Lent m d) c es o a x = x

covered_on : (s : Stand) (n m u u2 : ℕ) (p now : ℕ × ℕ) (info : Option Info) (kept safe : List Bool) → n ≡ m → HasCovered s n (beside s p now u info kept safe) → HasCovered s m (beside s p now u2 info kept safe)
covered_on Bare n m u u2 p now info kept safe same x = x
covered_on (Taken path size) n m u u2 p now info kept safe same x = subst (λ (k : ℕ). Covers k (beside (Taken path size) p now u info kept safe)) same x
covered_on (Open path size k) n m u u2 p now info kept safe same x = subst (λ (j : ℕ). Covers j (beside (Open path size k) p now u info kept safe)) same x
covered_on (Lent mark d) n m u u2 p now info kept safe same x = subst (λ (k : ℕ). Covers k (beside (Lent mark d) p now u info kept safe)) same x

leaves : (c c2 : CoreView) (es : List Entry) (s : Stand) (p now : ℕ × ℕ) (u u2 k : ℕ) (info : Option Info) (kept safe : List Bool) → c2 ≡ record c { entries = c2.entries; out = c2.out; access = c2.access } → c2.entries ≡ es → charges c.first es ≡ charges c.first c.entries + k → u ≡ u2 + k →
    IsBackingOf c (beside s p now u info kept safe) → IsBackingOf c2 (beside s p now u2 info kept safe)
leaves c c2 es s p now u u2 k info kept safe home enters more spent old =
    let grown : charges c.first c2.entries ≡ charges c.first c.entries + k = ap (charges c.first) enters ∙ more in
    subst (λ (v : CoreView). IsBackingOf v (beside s p now u2 info kept safe)) (sym home) (record {
      stands = stands_on s c c2.entries c2.out c2.access old.stands;
      covered = covered_on s (charges c.first c.entries + broken_in s + u) (charges c.first c2.entries + broken_in s + u2) u u2 p now info kept safe (omega (arith, grown, spent)) old.covered;
    })

follows_on : (s : Stand) (size k : ℕ) (found : Option (Option (List ℕ))) (c : CoreView) (p now : ℕ × ℕ) (u u2 : ℕ) (info : Option Info) (kept safe : List Bool) → Follows size k found c (beside s p now u info kept safe) → Follows size k found c (beside s p now u2 info kept safe)
follows_on Bare size k found c p now u u2 info kept safe x = x
follows_on (Taken path n) size k found c p now u u2 info kept safe x = x
follows_on (Open path n j) size k found c p now u u2 info kept safe x = x
follows_on (Lent mark d) size k found c p now u u2 info kept safe x = x

pub allows_uncharged : (i : ℕ) (c : CoreView) (b : BackingView) → is_charged c.first c.entries i ≡ false → AllowsLeave i c b b
allows_uncharged i c b h = record {
  stand_is = refl;
  before_is = refl;
  backed = λ n c2 home enters old. leaves c c2 (c.entries ++ Direct i n Device ∷ []) b.stand b.before b.now b.unspent b.unspent 0 b.info b.claimed b.durable home enters (charged c.first c.entries i n false h) (omega arith) old;
  follows = λ size k found old. old;
  charges = λ bare n. charged c.first c.entries i n false h ∙ omega arith;
}

pub allows_spent : (i : ℕ) (c : CoreView) (s : Stand) (p now : ℕ × ℕ) (u u2 : ℕ) (info : Option Info) (kept safe : List Bool) → is_charged c.first c.entries i ≡ true → (s ≡ Bare → ⊥) → u ≡ u2 + 1 → AllowsLeave i c (beside s p now u info kept safe) (beside s p now u2 info kept safe)
allows_spent i c s p now u u2 info kept safe h some spent = record {
  stand_is = refl;
  before_is = refl;
  backed = λ n c2 home enters old. leaves c c2 (c.entries ++ Direct i n Device ∷ []) s p now u u2 1 info kept safe home enters (charged c.first c.entries i n true h) spent old;
  follows = λ size k found old. follows_on s size k found c p now u u2 info kept safe old;
  charges = λ bare. absurd (some bare);
}
