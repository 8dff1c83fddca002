-- What stands beside cores, where a core or its backing goes on.
use Rattle.std.proofs.Common.{◌≡◌, ℕ, zero, suc, ◌+◌, ◌<◌, List, [], ◌∷◌, length, get_or, set, refl, subst, sym, ap, ◌∙◌, arith}
use Rattle.std.specs.Prelude.{Option, Some, None}
use mathlib.Core.Logic.{dite}
use native.Mathlib.Decide.{ℕ_discrete}
use lib.Seq.{set-get_or}
use Rattle.std.proofs.lemmas.List.{length-set, get_or-set_same, get_or-set_other, get_or_default}
use Rattle.pfc_log.specs.Charges.{charges, GrowsCalmly}
use Rattle.pfc_log.proofs.Charging.{charges_calm}
use Rattle.pfc_core.specs.View.{CoreView}
use Rattle.pfc_actor.specs.Backings.{BackingView, Stand, Bare, Taken, Open, Lent, path_in, broken_in, StandsFor, HasCovered, IsBackingOf, DepotView, IsOutAs}
use Rattle.pfc_scene.specs.Scenes.{AreBackings, IsLentBy, settled_in, settled}
use Rattle.pfc_scene.proofs.Casts.{StaysFor, same_rows}

-- ---- a backing of a core

stands_on : (s : Stand) (c c2 : CoreView) → StaysFor c c2 → StandsFor s c → StandsFor s c2
stands_on Bare c c2 st h = h
stands_on (Taken path size) c c2 st h = rw (st.path_is, st.size_is, st.first_is) h
stands_on (Open path size k) c c2 st h = rw (st.path_is, st.size_is, st.block_size_is, st.first_is) h
stands_on (Lent mark done) c c2 st h = rw (st.path_is, st.size_is, st.block_size_is, st.first_is) h

-- what a core's log shows of failed calls stays the same where it grows calmly
pub calm_charges : (c c2 : CoreView) → StaysFor c c2 → GrowsCalmly c.entries c2.entries → charges c2.first c2.entries ≡ charges c.first c.entries
calm_charges c c2 st calm = ap (λ first. charges first c2.entries) st.first_is ∙ charges_calm c.first c.entries c2.entries calm

-- the core of the same file, with as many failed calls in its log
pub backing_on : (c c2 : CoreView) (b : BackingView) → StaysFor c c2 → charges c2.first c2.entries ≡ charges c.first c.entries → IsBackingOf c b → IsBackingOf c2 b
backing_on c c2 b st same was = record {
  stands = stands_on b.stand c c2 st was.stands;
  covered = subst (λ n. HasCovered b.stand (n + broken_in b.stand + b.unspent) b) (sym same) was.covered;
}

pub backing_calm : (c c2 : CoreView) (b : BackingView) → StaysFor c c2 → GrowsCalmly c.entries c2.entries → IsBackingOf c b → IsBackingOf c2 b
backing_calm c c2 b st calm was = backing_on c c2 b st (calm_charges c c2 st calm) was

-- nothing stands beside it
pub bare_backing : (c : CoreView) (b : BackingView) → b.stand ≡ Bare → IsBackingOf c b
bare_backing c b none = record { stands = subst (λ s. StandsFor s c) (sym none) tt; covered = subst (λ s. HasCovered s (charges c.first c.entries + broken_in b.stand + b.unspent) b) (sym none) tt }

-- ---- those of all cores

-- the one of core i
pub backing_at : (cores : List CoreView) (backings : List BackingView) (i : ℕ) (c : CoreView) (b : BackingView) → AreBackings cores backings → i < length cores → c ≡ get_or cores i c → b ≡ get_or backings i b → IsBackingOf c b
backing_at cores backings i c b are li ec eb = subst (λ x. IsBackingOf x b) (sym ec) (subst (λ y. IsBackingOf (get_or cores i c) y) (sym eb) (are.each i c b li))

-- core i and its backing are others
pub backed_set : (cores : List CoreView) (backings : List BackingView) (i : ℕ) (c2 : CoreView) (b2 : BackingView) → AreBackings cores backings → i < length cores → IsBackingOf c2 b2 → AreBackings (set cores i c2) (set backings i b2)
backed_set cores backings i c2 b2 are li new = let long = length-set cores i c2 in let as_long = length-set backings i b2 in let same = are.long in record {
  long = omega (arith, long, as_long, same);
  each = λ x d e lx. let lb : i < length backings = omega (arith, li, same) in
      dite (ℕ_discrete x i)
      (λ q. let at = subst (λ y. get_or (set cores i c2) y d ≡ c2) (sym q) (get_or-set_same cores i c2 d li) in
      let beside = subst (λ y. get_or (set backings i b2) y e ≡ b2) (sym q) (get_or-set_same backings i b2 e lb) in
      subst (λ v. IsBackingOf v (get_or (set backings i b2) x e)) (sym at) (subst (λ v. IsBackingOf c2 v) (sym beside) new))
      (λ far. let at = get_or-set_other cores i x c2 d far in let beside = get_or-set_other backings i x b2 e far in
      subst (λ v. IsBackingOf v (get_or (set backings i b2) x e)) (sym at) (subst (λ v. IsBackingOf (get_or cores x d) v) (sym beside) (are.each x d e (omega (arith, lx, long)))));
}

-- an element in its own place
set_own : {X : Type 0} (xs : List X) (i : ℕ) (x : X) → x ≡ get_or xs i x → set xs i x ≡ xs
set_own xs i x e = ap (set xs i) e ∙ set-get_or xs i x

any_backing : BackingView
any_backing = record { stand = Bare; before = (0, 0); now = (0, 0); unspent = 0; info = None; claimed = []; durable = [] }

-- core i is another
pub backed_core : (cores : List CoreView) (backings : List BackingView) (i : ℕ) (c2 : CoreView) → AreBackings cores backings → i < length cores → ((e : BackingView) → IsBackingOf c2 (get_or backings i e)) → AreBackings (set cores i c2) backings
backed_core cores backings i c2 are li new =
    subst (AreBackings (set cores i c2)) (set-get_or backings i any_backing) (backed_set cores backings i c2 (get_or backings i any_backing) are li (new any_backing))

-- core i stays of its file, and its log shows as many failed calls
pub backed_on : (cores : List CoreView) (backings : List BackingView) (i : ℕ) (c c2 : CoreView) → AreBackings cores backings → i < length cores → c ≡ get_or cores i c → StaysFor c c2 →
    charges c2.first c2.entries ≡ charges c.first c.entries → AreBackings (set cores i c2) backings
backed_on cores backings i c c2 are li ec st same = backed_core cores backings i c2 are li (λ e. backing_on c c2 (get_or backings i e) st same (subst (λ v. IsBackingOf v (get_or backings i e)) (sym ec) (are.each i c e li)))

-- the backing of core i is another
pub backed_by : (cores : List CoreView) (backings : List BackingView) (i : ℕ) (b b2 : BackingView) → AreBackings cores backings → i < length cores → b ≡ get_or backings i b → ((c : CoreView) → IsBackingOf c b → IsBackingOf c b2) →
    AreBackings cores (set backings i b2)
backed_by cores backings i b b2 are li eb keeps = let as_long = length-set backings i b2 in let same = are.long in record {
  long = omega (arith, as_long, same);
  each = λ x d e lx. let lb : i < length backings = omega (arith, li, same) in
      dite (ℕ_discrete x i)
      (λ q. let beside = subst (λ y. get_or (set backings i b2) y e ≡ b2) (sym q) (get_or-set_same backings i b2 e lb) in
      subst (IsBackingOf (get_or cores x d)) (sym beside) (keeps (get_or cores x d) (subst (IsBackingOf (get_or cores x d)) (ap (λ y. get_or backings y b) q ∙ sym eb) (are.each x d b lx))))
      (λ far. subst (IsBackingOf (get_or cores x d)) (sym (get_or-set_other backings i x b2 e far)) (are.each x d e lx));
}

-- ---- what is settled

stand_none : (s : Stand) → path_in s ≡ None → s ≡ Bare
stand_none Bare h = refl
stand_none (Taken path size) h = absurd cc
stand_none (Open path size k) h = absurd cc
stand_none (Lent mark done) h = absurd cc

settled_none : (s : Stand) (path : List ℕ) (c : CoreView) → path_in s ≡ Some path → settled_in s c ≡ 0
settled_none Bare path c h = absurd cc
settled_none (Taken p size) path c h = refl
settled_none (Open p size k) path c h = refl
settled_none (Lent mark done) path c h = refl

settled_by : (o : Option (List ℕ)) (s s2 : Stand) (c c2 : CoreView) → path_in s ≡ o → path_in s2 ≡ o → (s ≡ Bare → charges c2.first c2.entries ≡ charges c.first c.entries) → settled_in s2 c2 ≡ settled_in s c
settled_by None s s2 c c2 was now same = rw (stand_none s was, stand_none s2 now) (same (stand_none s was))
settled_by (Some path) s s2 c c2 was now same = settled_none s2 path c2 now ∙ sym (settled_none s path c was)

-- one core more or less is settled by what stands beside it alone
pub settled_like : (s s2 : Stand) (c c2 : CoreView) → path_in s2 ≡ path_in s → (s ≡ Bare → charges c2.first c2.entries ≡ charges c.first c.entries) → settled_in s2 c2 ≡ settled_in s c
settled_like s s2 c c2 paths same = settled_by (path_in s) s s2 c c2 refl paths same

-- of two lists, as long as each other, one core and its backing are others
pub settled_set : (cores : List CoreView) (backings : List BackingView) (i : ℕ) (c c2 : CoreView) (b b2 : BackingView) → length backings ≡ length cores → i < length cores → c ≡ get_or cores i c → b ≡ get_or backings i b →
    settled (set cores i c2) (set backings i b2) + settled_in b.stand c ≡ settled cores backings + settled_in b2.stand c2
settled_set [] backings i c c2 b b2 long li ec eb = absurd (omega (arith, li))
settled_set (x ∷ cores) [] i c c2 b b2 long li ec eb = absurd (omega (arith, long))
settled_set (x ∷ cores) (y ∷ backings) zero c c2 b b2 long li ec eb = let old = ap (λ v. settled_in v.stand c) eb in let was = ap (settled_in y.stand) ec in omega (arith, old, was)
settled_set (x ∷ cores) (y ∷ backings) (suc i) c c2 b b2 long li ec eb =
    let rest = settled_set cores backings i c c2 b b2 (omega (arith, long)) (omega (arith, li)) ec eb in omega (arith, rest)

pub settled_same : (cores : List CoreView) (backings : List BackingView) (i : ℕ) (c c2 : CoreView) (b b2 : BackingView) → length backings ≡ length cores → i < length cores → c ≡ get_or cores i c → b ≡ get_or backings i b →
    settled_in b2.stand c2 ≡ settled_in b.stand c → settled (set cores i c2) (set backings i b2) ≡ settled cores backings
settled_same cores backings i c c2 b b2 long li ec eb same = let at = settled_set cores backings i c c2 b b2 long li ec eb in omega (arith, at, same)

-- core i alone, whose log shows as many failed calls
pub settled_core : (cores : List CoreView) (backings : List BackingView) (i : ℕ) (c c2 : CoreView) → length backings ≡ length cores → i < length cores → c ≡ get_or cores i c → charges c2.first c2.entries ≡ charges c.first c.entries →
    settled (set cores i c2) backings ≡ settled cores backings
settled_core cores backings i c c2 long li ec same =
    let b = get_or backings i any_backing in let lb : i < length backings = omega (arith, li, long) in
    subst (λ bs. settled (set cores i c2) bs ≡ settled cores backings) (set-get_or backings i any_backing)
    (settled_same cores backings i c c2 b b long li ec (get_or_default backings i any_backing b lb) (settled_like b.stand b.stand c c2 refl (λ h. same)))

-- the backing of core i alone, with the same volume
pub settled_backing : (cores : List CoreView) (backings : List BackingView) (i : ℕ) (d : CoreView) (b b2 : BackingView) → length backings ≡ length cores → i < length cores → b ≡ get_or backings i b → path_in b2.stand ≡ path_in b.stand →
    settled cores (set backings i b2) ≡ settled cores backings
settled_backing cores backings i d b b2 long li eb paths =
    let c = get_or cores i d in
    subst (λ cs. settled cs (set backings i b2) ≡ settled cores backings) (set-get_or cores i d)
    (settled_same cores backings i c c b b2 long li (get_or_default cores i d c li) eb (settled_like b.stand b2.stand c c paths (λ h. refl)))

-- ---- what the depot has lent

out_before : (d : DepotView) (o : Option (List ℕ)) (b b2 : BackingView) → b2.before ≡ b.before → IsOutAs o b d → IsOutAs o b2 d
out_before d None b b2 same h = h
out_before d (Some path) b b2 same h = (h.0, h.1 ∙ sym same)

out_as : (d : DepotView) (o o2 : Option (List ℕ)) (b b2 : BackingView) → o2 ≡ o → b2.before ≡ b.before → IsOutAs o b d → IsOutAs o2 b2 d
out_as d o o2 b b2 paths same h = subst (λ p. IsOutAs p b2 d) (sym paths) (out_before d o b b2 same h)

-- backing i is another, of the same volume
pub lent_set : (d : DepotView) (backings : List BackingView) (i : ℕ) (b b2 : BackingView) → i < length backings → b ≡ get_or backings i b → path_in b2.stand ≡ path_in b.stand → b2.before ≡ b.before → IsLentBy d backings →
    IsLentBy d (set backings i b2)
lent_set d backings i b b2 li eb paths before was =
    let long = length-set backings i b2 in
    let path_at : (x : ℕ) (e : BackingView) → x < length backings → path_in (get_or (set backings i b2) x e).stand ≡ path_in (get_or backings x e).stand = same_rows (λ (v : BackingView). path_in v.stand) backings i b b2 li eb paths in
    let before_at : (x : ℕ) (e : BackingView) → x < length backings → (get_or (set backings i b2) x e).before ≡ (get_or backings x e).before = same_rows (λ (v : BackingView). v.before) backings i b b2 li eb before in record {
      each = λ x e lx. let lx2 : x < length backings = omega (arith, lx, long) in out_as d (path_in (get_or backings x e).stand) (path_in (get_or (set backings i b2) x e).stand) (get_or backings x e) (get_or (set backings i b2) x e) (path_at x e lx2) (before_at x e lx2) (was.each x e lx2);
      only = λ path out. let at = was.only path out in let low = at.low in record {
        place = at.place;
        low = omega (arith, low, long);
        stands = λ e. path_at at.place e at.low ∙ at.stands e;
      };
      once = λ x y e path lx ly px py. let lx2 : x < length backings = omega (arith, lx, long) in let ly2 : y < length backings = omega (arith, ly, long) in
          was.once x y e path lx2 ly2 (sym (path_at x e lx2) ∙ px) (sym (path_at y e ly2) ∙ py);
    }
