-- What stands beside a core whose store isn't lent, what its counts cover, and what the depot has out.
use Rattle.std.proofs.Common.{◌≡◌, ◌≢◌, ◌⊎◌, inl, inr, ⊎_elim, ℕ, ◌+◌, ◌<◌, ◌≤◌, List, [], ◌∷◌, ◌++◌, length, get_or, set, refl, subst, sym, ap, ◌∙◌, arith}
use Rattle.std.specs.Prelude.{Option, Some, None, Contains}
use mathlib.Core.Logic.{dite}
use mathlib.Core.List.{List-discrete}
use native.Mathlib.Decide.{ℕ_discrete}
use Rattle.std.proofs.lemmas.List.{length-set, get_or-set_same, get_or-set_other, length_push, get_or_default, get_or_append_left}
use Rattle.pfc_world.specs.Counts.{Rose, RoseBy, add_count}
use Rattle.pfc_world.specs.declared.refusal.Refusal.{Refusal}
use Rattle.pfc_world.specs.declared.refusal.Refusal.TheVariants.{Fault, Memory}
use Rattle.pfc_core.specs.Marks.{Mark}
use Rattle.pfc_core.specs.View.{CoreView}
use Rattle.pfc_actor.specs.declared.backing.Standing.TheVariants as standing
use Rattle.pfc_actor.specs.Backings.{BackingView, Stand, Bare, Taken, Open, Lent, bare, path_in, loan_weight, standing_of, Covers, HasCovered, IsUnlent, IsOpen, OpensBy, Later, DepotView, IsOutAs, TakesVolume, StaysOut, ReturnsVolume}
use Rattle.pfc_scene.specs.Scenes.{IsLentBy, CoversFault, settled_in}
use Rattle.pfc_scene.proofs.Casts.{below_or, at_end}

-- ---- what stands there

pub stand_bare : (s : Stand) → standing_of s ≡ standing.Bare → s ≡ Bare
stand_bare Bare h = refl
stand_bare (Taken path size) h = absurd cc
stand_bare (Open path size k) h = absurd cc
stand_bare (Lent mark done) h = absurd cc

pub open_unlent : (s : Stand) → IsOpen s → IsUnlent s
open_unlent Bare h = absurd h
open_unlent (Taken path size) h = tt
open_unlent (Open path size k) h = tt
open_unlent (Lent mark done) h = absurd h

pub taken_unlent : (s : Stand) → standing_of s ≡ standing.Taken → IsUnlent s
taken_unlent Bare h = absurd cc
taken_unlent (Taken path size) h = tt
taken_unlent (Open path size k) h = absurd cc
taken_unlent (Lent mark done) h = absurd cc

pub unlent_path : (s : Stand) → IsUnlent s → (path : List ℕ) × (path_in s ≡ Some path)
unlent_path Bare h = absurd h
unlent_path (Taken path size) h = (path, refl)
unlent_path (Open path size k) h = (path, refl)
unlent_path (Lent mark done) h = absurd h

pub unlent_weight : (w : Mark → ℕ) (s : Stand) → IsUnlent s → loan_weight w s ≡ 0
unlent_weight w Bare h = absurd h
unlent_weight w (Taken path size) h = refl
unlent_weight w (Open path size k) h = refl
unlent_weight w (Lent mark done) h = absurd h

pub unlent_settled : (s : Stand) (c : CoreView) → IsUnlent s → settled_in s c ≡ 0
unlent_settled Bare c h = absurd h
unlent_settled (Taken path size) c h = refl
unlent_settled (Open path size k) c h = refl
unlent_settled (Lent mark done) c h = absurd h

pub unlent_covers : (s : Stand) (n : ℕ) (b : BackingView) → IsUnlent s → HasCovered s n b → Covers n b
unlent_covers Bare n b u h = absurd u
unlent_covers (Taken path size) n b u h = h
unlent_covers (Open path size k) n b u h = h
unlent_covers (Lent mark done) n b u h = absurd u

pub has_covered : (s : Stand) (n : ℕ) (b : BackingView) → Covers n b → HasCovered s n b
has_covered Bare n b h = tt
has_covered (Taken path size) n b h = h
has_covered (Open path size k) n b h = h
has_covered (Lent mark done) n b h = h

-- ---- counts

pub covers_less : (m n : ℕ) (b : BackingView) → m ≤ n → Covers n b → Covers m b
covers_less m n b less (inl h) = inl (omega (arith, less, h))
covers_less m n b less (inr h) = inr h

pub covers_later : (n : ℕ) (b b2 : BackingView) → b2.before ≡ b.before → Later b.now b2.now → Covers n b → Covers n b2
covers_later n b b2 same later (inl h) = let one = ap (λ (p : ℕ × ℕ). p.0) same in let two = ap (λ (p : ℕ × ℕ). p.1) same in let l0 = later.0 in let l1 = later.1 in inl (omega (arith, h, one, two, l0, l1))
covers_later n b b2 same later (inr (inl h)) = let l0 = later.0 in inr (inl (omega (arith, h, l0)))
covers_later n b b2 same later (inr (inr h)) = let l1 = later.1 in inr (inr (omega (arith, h, l1)))

covers_rose : (b b2 : BackingView) → b2.before ≡ b.before → Later b.now b2.now → Covers 0 b → Rose b.now.0 b2.now.0 ⊎ Rose b.now.1 b2.now.1 → Covers 1 b2
covers_rose b b2 same later was (inl (inr last)) = inr (inl last)
covers_rose b b2 same later was (inr (inr last)) = inr (inr last)
covers_rose b b2 same later (inr h) (inl (inl rose)) = covers_less 1 1 b2 (omega arith) (inr (⊎_elim (λ l. let l0 = later.0 in inl (omega (arith, l, l0))) (λ l. let l1 = later.1 in inr (omega (arith, l, l1))) h))
covers_rose b b2 same later (inr h) (inr (inl rose)) = covers_less 1 1 b2 (omega arith) (inr (⊎_elim (λ l. let l0 = later.0 in inl (omega (arith, l, l0))) (λ l. let l1 = later.1 in inr (omega (arith, l, l1))) h))
covers_rose b b2 same later (inl h) (inl (inl rose)) =
    let one = ap (λ (p : ℕ × ℕ). p.0) same in let two = ap (λ (p : ℕ × ℕ). p.1) same in let l1 = later.1 in inl (omega (arith, h, one, two, rose, l1))
covers_rose b b2 same later (inl h) (inr (inl rose)) =
    let one = ap (λ (p : ℕ × ℕ). p.0) same in let two = ap (λ (p : ℕ × ℕ). p.1) same in let l0 = later.0 in inl (omega (arith, h, one, two, rose, l0))

pub fault_covers : (why : Refusal) (b b2 : BackingView) → b2.before ≡ b.before → Later b.now b2.now → Covers 0 b → OpensBy b.now b2.now why → CoversFault why b2
fault_covers Fault b b2 same later was rose = covers_rose b b2 same later was rose
fault_covers Memory b b2 same later was rose = tt

pub rose_less : (f n n2 a b : ℕ) → n2 ≤ n → a ≤ b → RoseBy f n a → RoseBy f n2 b
rose_less f n n2 a b less later (inl h) = inl (omega (arith, less, later, h))
rose_less f n n2 a b less later (inr h) = inr (omega (arith, later, h))

pub rose_next : (f n a b : ℕ) → RoseBy a 1 b → a ≤ b → RoseBy f n a → RoseBy f (n + 1) b
rose_next f n a b (inl more) later (inl h) = inl (omega (arith, more, h))
rose_next f n a b (inl more) later (inr h) = inr (omega (arith, later, h))
rose_next f n a b (inr last) later h = inr last

pub add_later : (a b : ℕ) → a ≤ add_count a b
add_later a b = omega arith

-- ---- the depot

out_stays : (o : Option (List ℕ)) (b : BackingView) (d d2 : DepotView) → StaysOut d d2 → IsOutAs o b d → IsOutAs o b d2
out_stays None b d d2 st h = tt
out_stays (Some path) b d d2 st h = (subst (λ (l : List (List ℕ)). Contains l path) (sym st.out_is) h.0, st.lent_is path ∙ h.1)

-- nothing came home or left it
pub lent_stays : (d d2 : DepotView) (backings : List BackingView) → StaysOut d d2 → IsLentBy d backings → IsLentBy d2 backings
lent_stays d d2 backings st l = record {
  each = λ i e li. out_stays (path_in (get_or backings i e).stand) (get_or backings i e) d d2 st (l.each i e li);
  only = λ path h. l.only path (subst (λ (l : List (List ℕ)). Contains l path) st.out_is h);
  once = l.once;
}

-- one stands there bare, behind the others
pub lent_push : (d : DepotView) (backings : List BackingView) → IsLentBy d backings → IsLentBy d (backings ++ bare ∷ [])
lent_push d backings l = let long = length_push backings bare in
    let bare_at : (x : ℕ) (e : BackingView) → x < length (backings ++ bare ∷ []) → length backings ≤ x → path_in (get_or (backings ++ bare ∷ []) x e).stand ≡ None =
    λ x e lx far. ap (λ (b : BackingView). path_in b.stand) (at_end backings bare e x lx far) in
    let left : (x : ℕ) (e : BackingView) → x < length backings → get_or (backings ++ bare ∷ []) x e ≡ get_or backings x e = λ x e lx. get_or_append_left backings (bare ∷ []) e x lx in
    let none : (path : List ℕ) → None ≡ Some path → ⊥ = λ path h. cc in record {
      each = λ i e li.
          ⊎_elim
          (λ low. subst (λ (b : BackingView). IsOutAs (path_in b.stand) b d) (sym (left i e low)) (l.each i e low))
          (λ far. subst (λ (b : BackingView). IsOutAs (path_in b.stand) b d) (sym (at_end backings bare e i li far)) tt)
          (below_or i (length backings));
      only = λ path h. let t = l.only path h in let low = t.low in record {
        place = t.place;
        low = omega (arith, low, long);
        stands = λ e. ap (λ (b : BackingView). path_in b.stand) (left t.place e t.low) ∙ t.stands e;
      };
      once = λ i j e path li lj hi hj.
          ⊎_elim
          (λ low. ⊎_elim
          (λ low2. l.once i j e path low low2 (sym (ap (λ (b : BackingView). path_in b.stand) (left i e low)) ∙ hi) (sym (ap (λ (b : BackingView). path_in b.stand) (left j e low2)) ∙ hj))
          (λ far. absurd (none path (sym (bare_at j e lj far) ∙ hj)))
          (below_or j (length backings)))
          (λ far. absurd (none path (sym (bare_at i e li far) ∙ hi)))
          (below_or i (length backings));
    }

out_gained : (o : Option (List ℕ)) (b b2 : BackingView) (path : List ℕ) (size : ℕ) (d d2 : DepotView) → (o ≡ Some path → ⊥) → TakesVolume path size b2 d d2 → IsOutAs o b d → IsOutAs o b d2
out_gained None b b2 path size d d2 other t h = tt
out_gained (Some q) b b2 path size d d2 other t h = let far : q ≢ path = λ e. other (ap Some e) in ((t.gains.others q far).1 h.0, t.elsewhere q far ∙ h.1)

-- a volume that was home stands there
pub lent_taken : (d d2 : DepotView) (backings : List BackingView) (i : ℕ) (b2 : BackingView) (path : List ℕ) (size : ℕ) → i < length backings → ((e : BackingView) → (get_or backings i e).stand ≡ Bare) →
    (Contains d.out path → ⊥) → TakesVolume path size b2 d d2 → IsLentBy d backings → IsLentBy d2 (set backings i b2)
lent_taken d d2 backings i b2 path size li none home t l = let long = length-set backings i b2 in
    let here : (x : ℕ) (e : BackingView) → x ≡ i → get_or (set backings i b2) x e ≡ b2 = λ x e q. subst (λ y. get_or (set backings i b2) y e ≡ b2) (sym q) (get_or-set_same backings i b2 e li) in
    let there : (x : ℕ) (e : BackingView) → x ≢ i → get_or (set backings i b2) x e ≡ get_or backings x e = λ x e q. get_or-set_other backings i x b2 e q in
    let own : path_in b2.stand ≡ Some path = ap path_in t.stand_is in
    let out_at : (x : ℕ) (e : BackingView) (p : List ℕ) → x < length backings → path_in (get_or backings x e).stand ≡ Some p → Contains d.out p =
    λ x e p lx q. (subst (λ (o : Option (List ℕ)). IsOutAs o (get_or backings x e) d) q (l.each x e lx)).0 in
    let same : (p : List ℕ) → path_in b2.stand ≡ Some p → p ≡ path = λ p q. cc in
    record {
      each = λ x e lx. let lx2 : x < length backings = omega (arith, lx, long) in
          dite (ℕ_discrete x i)
          (λ q. subst (λ (b : BackingView). IsOutAs (path_in b.stand) b d2) (sym (here x e q)) (subst (λ (o : Option (List ℕ)). IsOutAs o b2 d2) (sym own) (t.gains.here, sym t.before_is)))
          (λ far. subst (λ (b : BackingView). IsOutAs (path_in b.stand) b d2) (sym (there x e far))
          (out_gained (path_in (get_or backings x e).stand) (get_or backings x e) b2 path size d d2 (λ q. home (out_at x e path lx2 q)) t (l.each x e lx2)));
      only = λ p h.
          dite (List-discrete ℕ_discrete p path)
          (λ q. record { place = i; low = omega (arith, li, long); stands = λ e. ap (λ (b : BackingView). path_in b.stand) (here i e refl) ∙ own ∙ ap Some (sym q) })
          (λ far. let at = l.only p ((t.gains.others p far).0 h) in let low = at.low in
          let other : at.place ≢ i = λ q. let stands : path_in (get_or backings i b2).stand ≡ Some p = subst (λ (y : ℕ). path_in (get_or backings y b2).stand ≡ Some p) q (at.stands b2) in let bare_there = ap path_in (none b2) in absurd cc in record {
            place = at.place;
            low = omega (arith, low, long);
            stands = λ e. ap (λ (b : BackingView). path_in b.stand) (there at.place e other) ∙ at.stands e;
          });
      once = λ x y e p lx ly px py. let lx2 : x < length backings = omega (arith, lx, long) in let ly2 : y < length backings = omega (arith, ly, long) in
          dite (ℕ_discrete x i)
          (λ q. dite (ℕ_discrete y i)
          (λ q2. q ∙ sym q2)
          (λ far. let is = same p (sym (ap (λ (b : BackingView). path_in b.stand) (here x e q)) ∙ px) in
          absurd (home (out_at y e path ly2 (sym (ap (λ (b : BackingView). path_in b.stand) (there y e far)) ∙ py ∙ ap Some is)))))
          (λ far. dite (ℕ_discrete y i)
          (λ q. let is = same p (sym (ap (λ (b : BackingView). path_in b.stand) (here y e q)) ∙ py) in
          absurd (home (out_at x e path lx2 (sym (ap (λ (b : BackingView). path_in b.stand) (there x e far)) ∙ px ∙ ap Some is))))
          (λ far2. l.once x y e p lx2 ly2 (sym (ap (λ (b : BackingView). path_in b.stand) (there x e far)) ∙ px) (sym (ap (λ (b : BackingView). path_in b.stand) (there y e far2)) ∙ py)));
    }

out_lost : (o : Option (List ℕ)) (b b2 : BackingView) (path : List ℕ) (d d2 : DepotView) → (o ≡ Some path → ⊥) → ReturnsVolume path b2 d d2 → IsOutAs o b d → IsOutAs o b d2
out_lost None b b2 path d d2 other t h = tt
out_lost (Some q) b b2 path d d2 other t h = let far : q ≢ path = λ e. other (ap Some e) in ((t.loses.others q far).1 h.0, t.elsewhere q far ∙ h.1)

-- the one that stood there is home
pub lent_home : (d d2 : DepotView) (backings : List BackingView) (i : ℕ) (b : BackingView) (path : List ℕ) → i < length backings → b ≡ get_or backings i b → path_in b.stand ≡ Some path →
    ReturnsVolume path b d d2 → IsLentBy d backings → IsLentBy d2 (set backings i bare)
lent_home d d2 backings i b path li eb own t l = let long = length-set backings i bare in
    let here : (x : ℕ) (e : BackingView) → x ≡ i → get_or (set backings i bare) x e ≡ bare = λ x e q. subst (λ y. get_or (set backings i bare) y e ≡ bare) (sym q) (get_or-set_same backings i bare e li) in
    let there : (x : ℕ) (e : BackingView) → x ≢ i → get_or (set backings i bare) x e ≡ get_or backings x e = λ x e q. get_or-set_other backings i x bare e q in
    let mine : (e : BackingView) → path_in (get_or backings i e).stand ≡ Some path = λ e. ap (λ (v : BackingView). path_in v.stand) (sym (eb ∙ get_or_default backings i b e li)) ∙ own in
    let none : (x : ℕ) (e : BackingView) (p : List ℕ) → x ≡ i → path_in (get_or (set backings i bare) x e).stand ≡ Some p → ⊥ = λ x e p q h. let is = ap (λ (v : BackingView). path_in v.stand) (here x e q) in absurd cc in
    record {
      each = λ x e lx. let lx2 : x < length backings = omega (arith, lx, long) in
          dite (ℕ_discrete x i)
          (λ q. subst (λ (v : BackingView). IsOutAs (path_in v.stand) v d2) (sym (here x e q)) tt)
          (λ far. subst (λ (v : BackingView). IsOutAs (path_in v.stand) v d2) (sym (there x e far))
          (out_lost (path_in (get_or backings x e).stand) (get_or backings x e) b path d d2 (λ q. far (l.once x i e path lx2 li q (mine e))) t (l.each x e lx2)));
      only = λ p h.
          let away : p ≢ path = λ q. t.loses.gone (subst (Contains d2.out) q h) in
          let at = l.only p ((t.loses.others p away).0 h) in let low = at.low in
          let other : at.place ≢ i = λ q. let stands : path_in (get_or backings i bare).stand ≡ Some p = subst (λ (y : ℕ). path_in (get_or backings y bare).stand ≡ Some p) q (at.stands bare) in let was = mine bare in away cc in record {
            place = at.place;
            low = omega (arith, low, long);
            stands = λ e. ap (λ (v : BackingView). path_in v.stand) (there at.place e other) ∙ at.stands e;
          };
      once = λ x y e p lx ly px py. let lx2 : x < length backings = omega (arith, lx, long) in let ly2 : y < length backings = omega (arith, ly, long) in
          dite (ℕ_discrete x i)
          (λ q. absurd (none x e p q px))
          (λ far. dite (ℕ_discrete y i)
          (λ q. absurd (none y e p q py))
          (λ far2. l.once x y e p lx2 ly2 (sym (ap (λ (v : BackingView). path_in v.stand) (there x e far)) ∙ px) (sym (ap (λ (v : BackingView). path_in v.stand) (there y e far2)) ∙ py)));
    }
