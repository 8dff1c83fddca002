-- What is left of the main file that a run found, where its volume is taken, opened and put back.
use Rattle.std.proofs.Common.{◌≡◌, ◌⊎◌, ⊎_elim, ℕ, zero, suc, ◌<◌, List, [], ◌∷◌, Bool, false, true, refl, sym, ap, subst, ◌∙◌, inl, inr, arith, length, get_or}
use Rattle.std.specs.Prelude.{Any, Option, Some, None, IsTrue, replicate, slice_get}
use Rattle.std.proofs.lemmas.Bool.{cases_lt}
use Rattle.std.proofs.lemmas.List.{get_or-replicate, get_or_default, get_or_past, length-replicate}
use Rattle.pfc_base.specs.Block.{count_of}
use Rattle.pfc_base.specs.BlockSet.{is_member}
use Rattle.pfc_base.specs.Cinfo.{Cinfo, Head}
use Rattle.pfc_world.specs.Depot.{Fewer, FewerAtHome, Nothing, SameElsewhere}
use Rattle.pfc_world.specs.Info.{Info, IsMain}
use Rattle.pfc_store.specs.Claims.{Says}
use Rattle.pfc_store.specs.Opens.{IsOurs, Restarts}
use Rattle.pfc_report.specs.Restart.{ClaimsFound, OpensPath}
use Rattle.pfc_actor.specs.Books.{BookView}
use Rattle.pfc_actor.specs.Stages.{Opens}
use Rattle.pfc_actor.specs.Backings.{AreFromHome, AreLeft, BackingView, ClaimsIn, FewerMains, Bare, IsMainIn, OpensFound, PutsMain, PutsMains, Stand, path_in}
use Rattle.pfc_actor.specs.Standings.{PutsVolume, told_by}
use Rattle.pfc_actor.proofs.BackingHomes.{this_or_other}

-- ---- an opening

-- none is not one to be kept
none_ours : (size k : ℕ) (main : Option (List ℕ)) → main ≡ None → IsOurs size k main → ⊥
none_ours size k None e ours = absurd ours.1
none_ours size k (Some bytes) e ours = absurd cc

none_in : (n i : ℕ) → is_member (replicate n false) i ≡ false
none_in n i = ⊎_elim (λ below. get_or-replicate n i false false below) (λ past. get_or_past (replicate n false) i false (omega (arith, past, length-replicate {A = Bool} n false))) (cases_lt i n)

module _ (size k : ℕ) (found : Option (List ℕ)) (info info2 : Info) where
  -- what is there now was there before, or nothing is there
  pub left_after : ((main : Option (List ℕ)) → IsMain info2 main → IsMain info main ⊎ (main ≡ None)) → (IsOurs size k info.shown → (main : Option (List ℕ)) → IsMain info2 main → IsMain info main) →
      AreLeft size k found (Some info) → AreLeft size k found (Some info2)
  left_after takes keeps left main is = let shown = left info.shown (inl refl) in record {
    either = ⊎_elim (λ was. (left main was).either) (λ gone. inr gone) (takes main is);
    kept = λ ours. (left main (keeps (subst (IsOurs size k) (sym (shown.kept ours)) ours) main is)).kept ours;
  }

  -- a store starts with what was found
  pub starts_found : (created : ℕ) (head : Head) (claims : List Bool) → Restarts size k created info.shown head claims info2 → AreLeft size k found (Some info) → ClaimsFound size k found claims
  starts_found created head claims restarts left = let shown = left info.shown (inl refl) in let c : Cinfo = record { block = k; size = size; head = head; claims = claims } in record {
    kept = λ ours. ⊎_elim
        (λ kept. (c, subst (λ (m : Option (List ℕ)). Says m c) (shown.kept ours) kept.says, refl, refl, refl))
        (λ fresh. absurd (fresh.unfit (subst (IsOurs size k) (sym (shown.kept ours)) ours)))
        restarts;
    empty = λ unfit i. ⊎_elim
        (λ kept. let ours : IsOurs size k info.shown = (c, kept.says, refl, refl) in
        absurd (⊎_elim (λ same. unfit (subst (IsOurs size k) same ours)) (λ gone. none_ours size k info.shown gone ours) shown.either))
        (λ fresh. ap (λ (set : List Bool). is_member set i) fresh.claims_is ∙ none_in (count_of size k) i)
        restarts;
  }

-- ---- the depot

module _ (told : Bool) (path : List ℕ) (D NewData : List ℕ → List ℕ → Type 0) (M NewMain : List ℕ → Option (List ℕ) → Type 0) where
  -- a volume was taken, and each other is as it was
  pub mains_away : (IsTrue told → Nothing (NewData path) × Nothing (NewMain path)) → (IsTrue told → SameElsewhere path D M NewData NewMain) → IsTrue told → FewerMains M NewMain
  mains_away away rest t other main is = ⊎_elim
      (λ same. absurd ((away t).1 main (subst (λ (q : List ℕ). NewMain q main) same is)))
      (λ apart. ((rest t other apart).1 main).0 is)
      (this_or_other path other)

  pub mains_fewer : (IsTrue told → FewerAtHome D M NewData NewMain) → IsTrue told → FewerMains M NewMain
  mains_fewer fewer t other = (fewer t other).1

  -- one came home
  pub mains_home : (info : Info) → Fewer (IsMain info) (NewMain path) → SameElsewhere path D M NewData NewMain → PutsVolume path info M NewMain
  mains_home info here rest = record { here = here; elsewhere = λ other apart main. ((rest other apart).1 main).0 }

pub put_mains : (told : Bool) (path : List ℕ) (b : BackingView) (info : Info) (M NewMain : List ℕ → Option (List ℕ) → Type 0) → IsTrue told → path_in b.stand ≡ Some path → b.info ≡ told_by told info → ((main : Option (List ℕ)) → IsMainIn b.info main → ClaimsIn b.stand b.claimed b.durable main) →
    PutsVolume path info M NewMain → PutsMains (path_in b.stand) b M NewMain
put_mains true path b info M NewMain told is info_is claims puts =
    let put : PutsMain path b M NewMain = record {
      here = λ main home. let in_it = subst (λ (o : Option Info). IsMainIn o main) (sym info_is) (puts.here main home) in (in_it, claims main in_it);
      elsewhere = puts.elsewhere;
    } in subst (λ (o : Option (List ℕ)). PutsMains o b M NewMain) (sym is) put
put_mains false path b info M NewMain told is info_is claims puts = absurd cc

pub put_none : (b : BackingView) (M : List ℕ → Option (List ℕ) → Type 0) → b.stand ≡ Bare → PutsMains (path_in b.stand) b M M
put_none b M none = subst (λ (s : Stand). PutsMains (path_in s) b M M) (sym none) (λ path main home. home)

-- ---- where the device tells

pub opens_found : (told : Bool) (size k : ℕ) (info info2 : Info) (s : Stand) (claimed durable : List Bool) → durable ≡ claimed → (IsTrue told → OpensFound size k (Some info) (Some info2) s claimed durable) →
    OpensFound size k (told_by told info) (told_by told info2) s claimed durable
opens_found true size k info info2 s claimed durable same h = h refl
opens_found false size k info info2 s claimed durable same h = record { left = λ found none. absurd none; starts = λ is_open found none. absurd none; durable_is = same }

-- a main file of a device that tells is one that a crash may leave of it
pub main_told : (told : Bool) (info : Info) (main : Option (List ℕ)) → IsMainIn (told_by told info) main → IsTrue told × IsMain info main
main_told true info main is = (refl, is)
main_told false info main is = absurd is

pub from_home : (told : Bool) (info : Info) (IsHome : Option (List ℕ) → Type 0) → IsTrue told → Fewer IsHome (IsMain info) → AreFromHome IsHome (told_by told info)
from_home true info IsHome t h = h
from_home false info IsHome t h = absurd cc

-- ---- what was asked

get_there : (lines : List (List ℕ)) (n : ℕ) → n < length lines → slice_get lines n ≡ Some (get_or lines n [])
get_there [] n l = absurd (omega (arith, l))
get_there (line ∷ lines) zero l = refl
get_there (line ∷ lines) (suc n) l = get_there lines n (omega (arith, l))

-- a client that wants a file opened was asked to
pub opens_asked : (b : BookView) (number : ℕ) (path : List ℕ) → Opens b number path → Any (OpensPath path) b.asked
opens_asked b number path opens = let n = length b.replies in let line = get_or b.asked n [] in let low = opens.asked.next.some in
    (n, line, low, get_or_default b.asked n line [] low, (number, opens.asked.next.is line (get_there b.asked n low)))
