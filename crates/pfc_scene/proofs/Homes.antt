-- Volumes go home, the last first.
use Rattle.std.proofs.Common.{◌≡◌, ◌≢◌, ◌⊎◌, ⊎_elim, inl, inr, ℕ, ◌+◌, ◌<◌, ◌≤◌, List, [], ◌∷◌, ◌++◌, length, get_or, refl, subst, sym, ap, ◌∙◌, arith, append_assoc}
use Rattle.std.specs.Prelude.{Option, Some, None, Contains}
use mathlib.Core.Logic.{dite}
use native.Mathlib.Decide.{ℕ_discrete}
use Rattle.std.proofs.lemmas.List.{append-nil, length_push, length-append, get_or_append_left}
use Rattle.std.proofs.lemmas.List.Sums.{sum_by-cons}
use Rattle.pfc_world.specs.Counts.{RoseBy}
use Rattle.pfc_log.specs.Charges.{charges}
use Rattle.pfc_core.specs.View.{CoreView}
use Rattle.pfc_actor.specs.Backings.{Stand, Bare, Taken, Open, Lent, BackingView, DepotView, Covers, HasCovered, IsBackingOf, IsOutAs, PutsBack, ReturnsVolume, StaysOut, path_in, broken_in, ClaimsIn, IsMainIn, PutsMains}
use Rattle.pfc_actor.proofs.BackingHomes.{this_or_other}
use Rattle.pfc_scene.specs.Scenes.{AreBackings, IsLentBy, StandsThere, all_charges, settled, settled_in}
use Rattle.pfc_scene.specs.Ends.{ComesFrom, PutsFrom}
use Rattle.pfc_scene.proofs.Casts.{below_or, at_end, no_core}

-- ---- what is paid

rose_on : (f n m before after : ℕ) → RoseBy f n before → RoseBy before m after → RoseBy f (n + m) after
rose_on f n m before after was rose = grind (arith, was, rose)

covers_less : (n m : ℕ) (b : BackingView) → m ≤ n → Covers n b → Covers m b
covers_less n m b low covers = grind (arith, covers)

-- one that stands there more
settled_push : (cores : List CoreView) (left : List BackingView) (b : BackingView) (d : CoreView) → length left < length cores →
    settled cores left + settled_in b.stand (get_or cores (length left) d) ≡ settled cores (left ++ b ∷ []) + charges (get_or cores (length left) d).first (get_or cores (length left) d).entries
settled_push [] left b d l = absurd (omega (arith, l))
settled_push (c ∷ cores) [] b d l = omega arith
settled_push (c ∷ cores) (x ∷ left) b d l = let rest = settled_push cores left b d (omega (arith, l)) in omega (arith, rest)

pays_by : (stand : Stand) (c : CoreView) (b : BackingView) (d d2 : DepotView) (f n m most : ℕ) → charges c.first c.entries ≤ most → HasCovered stand most b → PutsBack (path_in stand) b d d2 →
    m + settled_in stand c ≡ n + charges c.first c.entries → RoseBy f n d.faults → RoseBy f m d2.faults
pays_by Bare c b d d2 f n m most low covered back same rose = let is = back.1 in grind (arith, rose, is, same)
pays_by (Taken path size) c b d d2 f n m most low covered back same rose =
    let more = rose_on f n (charges c.first c.entries) d.faults d2.faults rose (back.covers (charges c.first c.entries) (covers_less most (charges c.first c.entries) b low covered)) in
    let is : n + charges c.first c.entries ≡ m = omega (arith, same) in subst (λ k. RoseBy f k d2.faults) is more
pays_by (Open path size k) c b d d2 f n m most low covered back same rose =
    let more = rose_on f n (charges c.first c.entries) d.faults d2.faults rose (back.covers (charges c.first c.entries) (covers_less most (charges c.first c.entries) b low covered)) in
    let is : n + charges c.first c.entries ≡ m = omega (arith, same) in subst (λ k. RoseBy f k d2.faults) is more
pays_by (Lent mark done) c b d d2 f n m most low covered back same rose =
    let more = rose_on f n (charges c.first c.entries) d.faults d2.faults rose (back.covers (charges c.first c.entries) (covers_less most (charges c.first c.entries) b low covered)) in
    let is : n + charges c.first c.entries ≡ m = omega (arith, same) in subst (λ k. RoseBy f k d2.faults) is more

-- it goes home, and what its core's log shows is settled
pop_pays : (cores : List CoreView) (left : List BackingView) (b : BackingView) (d d2 : DepotView) (f : ℕ) → length left < length cores → IsBackingOf (get_or cores (length left) no_core) b → PutsBack (path_in b.stand) b d d2 →
    RoseBy f (settled cores (left ++ b ∷ [])) d.faults → RoseBy f (settled cores left) d2.faults
pop_pays cores left b d d2 f l is back rose =
    let c = get_or cores (length left) no_core in
    pays_by b.stand c b d d2 f (settled cores (left ++ b ∷ [])) (settled cores left) (charges c.first c.entries + broken_in b.stand + b.unspent) (omega arith) is.covered back (settled_push cores left b no_core l) rose

-- these are the first of those
pub record AreFirst (left whole : List BackingView) : Type 0 where
  pub more : List BackingView
  pub is : whole ≡ left ++ more

pub all_first : (whole : List BackingView) → AreFirst whole whole
all_first whole = record { more = []; is = sym (append-nil whole) }

pub fewer_first : (left after whole : List BackingView) (b : BackingView) → left ≡ after ++ b ∷ [] → AreFirst left whole → AreFirst after whole
fewer_first left after whole b e first = record { more = b ∷ first.more; is = first.is ∙ ap (λ l. l ++ first.more) e ∙ append_assoc after (b ∷ []) first.more }

backing_at : (cores : List CoreView) (whole left : List BackingView) (b : BackingView) → AreBackings cores whole → AreFirst (left ++ b ∷ []) whole → (length left < length cores) × IsBackingOf (get_or cores (length left) no_core) b
backing_at cores whole left b backed first =
    let long = ap length first.is in
    let low : length left < length cores = omega (arith, long, length-append (left ++ b ∷ []) first.more, length_push left b, backed.long) in
    let more : length left < length (left ++ b ∷ []) = omega (arith, length_push left b) in
    let at : get_or whole (length left) b ≡ b = ap (λ l. get_or l (length left) b) first.is ∙ get_or_append_left (left ++ b ∷ []) first.more b (length left) more ∙ at_end left b b (length left) more (omega arith) in
    (low, subst (IsBackingOf (get_or cores (length left) no_core)) at (backed.each (length left) no_core b low))

pub pop_paid : (cores : List CoreView) (whole left after : List BackingView) (b : BackingView) (d d2 : DepotView) (f : ℕ) → AreBackings cores whole → AreFirst left whole → left ≡ after ++ b ∷ [] → PutsBack (path_in b.stand) b d d2 →
    RoseBy f (settled cores left) d.faults → RoseBy f (settled cores after) d2.faults
pop_paid cores whole left after b d d2 f backed first e back rose =
    let at = backing_at cores whole after b backed (subst (λ l. AreFirst l whole) e first) in
    pop_pays cores after b d d2 f at.0 at.1 back (subst (λ l. RoseBy f (settled cores l) d.faults) e rose)

-- where nothing stands there any more
pub settled_all : (cores : List CoreView) → settled cores [] ≡ all_charges cores
settled_all [] = refl
settled_all (c ∷ cores) = ap (λ n. charges c.first c.entries + n) (settled_all cores) ∙ sym (sum_by-cons (λ (x : CoreView). charges x.first x.entries) c cores)

-- where there is no core
pub none_paid : (f : ℕ) → RoseBy f (settled [] []) f
none_paid f = let low : f + 0 ≤ f = omega arith in inl low

-- ---- what is out

empty : (xs : List (List ℕ)) → ((x : List ℕ) → Contains xs x → ⊥) → xs ≡ []
empty [] none = refl
empty (x ∷ xs) none = absurd (none x (0, omega arith, refl))

-- nothing is out, and nothing stands there
pub none_lent : (d : DepotView) → d.out ≡ [] → IsLentBy d []
none_lent d none = record {
  each = λ i e l. absurd (omega (arith, l));
  only = λ path held. let low = held.1 in let long = ap length none in absurd (omega (arith, low, long));
  once = λ i j e path li lj ei ej. absurd (omega (arith, li));
}

pub none_out : (d : DepotView) → IsLentBy d [] → d.out ≡ []
none_out d lent = empty d.out (λ path held. let low = (lent.only path held).low in absurd (omega (arith, low)))

as_before : (p : Option (List ℕ)) (x : BackingView) (d d2 : DepotView) → StaysOut d d2 → IsOutAs p x d → IsOutAs p x d2
as_before None x d d2 stays is = tt
as_before (Some path) x d d2 stays is = (subst (λ o. Contains o path) (sym stays.out_is) is.0, stays.lent_is path ∙ is.1)

others_as : (p : Option (List ℕ)) (path : List ℕ) (x b : BackingView) (d d2 : DepotView) → ReturnsVolume path b d d2 → ((other : List ℕ) → p ≡ Some other → other ≢ path) → IsOutAs p x d → IsOutAs p x d2
others_as None path x b d d2 back apart is = tt
others_as (Some other) path x b d d2 back apart is = ((back.loses.others other (apart other refl)).1 is.0, back.elsewhere other (apart other refl) ∙ is.1)

-- it stands there still, since it isn't the last
narrow : (left : List BackingView) (b : BackingView) (path : List ℕ) → StandsThere path (left ++ b ∷ []) → (path_in b.stand ≡ Some path → ⊥) → StandsThere path left
narrow left b path s other = ⊎_elim
    (λ low. record { place = s.place; low = low; stands = λ e. subst (λ (x : BackingView). path_in x.stand ≡ Some path) (get_or_append_left left (b ∷ []) e s.place low) (s.stands e) })
    (λ high. absurd (other (subst (λ (x : BackingView). path_in x.stand ≡ Some path) (at_end left b b s.place s.low high) (s.stands b))))
    (below_or s.place (length left))

-- what stands before the last
before_last : (left : List BackingView) (b : BackingView) (i : ℕ) (e : BackingView) → i < length left → get_or left i e ≡ get_or (left ++ b ∷ []) i e
before_last left b i e l = sym (get_or_append_left left (b ∷ []) e i l)

one_home : (p : Option (List ℕ)) (left : List BackingView) (b : BackingView) (d d2 : DepotView) → p ≡ path_in b.stand → IsLentBy d (left ++ b ∷ []) → PutsBack p b d d2 → IsLentBy d2 left
one_home None left b d d2 is lent back = record {
  each = λ i e l. as_before (path_in (get_or left i e).stand) (get_or left i e) d d2 back.0
      (subst (λ (x : BackingView). IsOutAs (path_in x.stand) x d) (sym (before_last left b i e l)) (lent.each i e (omega (arith, l, length_push left b))));
  only = λ path held. narrow left b path (lent.only path (subst (λ o. Contains o path) back.0.out_is held)) (λ s. let clash = is ∙ s in cc);
  once = λ i j e path li lj ei ej. lent.once i j e path (omega (arith, li, length_push left b)) (omega (arith, lj, length_push left b))
      (ap (λ (x : BackingView). path_in x.stand) (sym (before_last left b i e li)) ∙ ei) (ap (λ (x : BackingView). path_in x.stand) (sym (before_last left b j e lj)) ∙ ej);
}
one_home (Some path) left b d d2 is lent back = record {
  each = λ i e l.
      let low : length left < length (left ++ b ∷ []) = omega (arith, length_push left b) in
      let here : get_or (left ++ b ∷ []) (length left) e ≡ b = at_end left b e (length left) low (omega arith) in
      let apart : (other : List ℕ) → path_in (get_or left i e).stand ≡ Some other → other ≢ path = λ other stands same.
      let same_place : i ≡ length left = lent.once i (length left) e path (omega (arith, l, low)) low
      (ap (λ (x : BackingView). path_in x.stand) (sym (before_last left b i e l)) ∙ stands ∙ ap (λ (q : List ℕ). Some q) same)
      (ap (λ (x : BackingView). path_in x.stand) here ∙ sym is) in
      omega (arith, same_place, l) in
      others_as (path_in (get_or left i e).stand) path (get_or left i e) b d d2 back apart
      (subst (λ (x : BackingView). IsOutAs (path_in x.stand) x d) (sym (before_last left b i e l)) (lent.each i e (omega (arith, l, low))));
  only = λ other held.
      let apart : other ≢ path = λ same. back.loses.gone (subst (Contains d2.out) same held) in
      narrow left b other (lent.only other ((back.loses.others other apart).0 held)) (λ s. let both = is ∙ s in apart (let same : path ≡ other = cc in sym same));
  once = λ i j e other li lj ei ej. lent.once i j e other (omega (arith, li, length_push left b)) (omega (arith, lj, length_push left b))
      (ap (λ (x : BackingView). path_in x.stand) (sym (before_last left b i e li)) ∙ ei) (ap (λ (x : BackingView). path_in x.stand) (sym (before_last left b j e lj)) ∙ ej);
}

-- it goes home, and the others are out as before
pub pop_lent : (left after : List BackingView) (b : BackingView) (d d2 : DepotView) → left ≡ after ++ b ∷ [] → IsLentBy d left → PutsBack (path_in b.stand) b d d2 → IsLentBy d2 after
pop_lent left after b d d2 e lent back = one_home (path_in b.stand) after b d d2 refl (subst (IsLentBy d) e lent) back

-- the last one is out
pub last_out : (left after : List BackingView) (b : BackingView) (d : DepotView) → left ≡ after ++ b ∷ [] → IsLentBy d left → IsOutAs (path_in b.stand) b d
last_out left after b d e lent =
    let low : length after < length (after ++ b ∷ []) = omega (arith, length_push after b) in
    subst (λ (x : BackingView). IsOutAs (path_in x.stand) x d) (at_end after b b (length after) low (omega arith)) ((subst (IsLentBy d) e lent).each (length after) b low)

-- ---- what is home

-- the one that goes home stands behind those that are left
gone_at : (whole left : List BackingView) (b : BackingView) → AreFirst (left ++ b ∷ []) whole → (length left < length whole) × ((e : BackingView) → get_or whole (length left) e ≡ b)
gone_at whole left b first =
    let long = ap length first.is in
    let more : length left < length (left ++ b ∷ []) = omega (arith, length_push left b) in (
      omega (arith, long, length-append (left ++ b ∷ []) first.more, length_push left b),
      λ e. ap (λ l. get_or l (length left) e) first.is ∙ get_or_append_left (left ++ b ∷ []) first.more e (length left) more ∙ at_end left b e (length left) more (omega arith),
    )

module _ (whole : List BackingView) (path : List ℕ) (main : Option (List ℕ)) (IsMain MidMain NewMain : List ℕ → Option (List ℕ) → Type 0) where
  -- no other of those that went home is of this path
  none_more : (left : List BackingView) (b : BackingView) → AreFirst (left ++ b ∷ []) whole → (path_in b.stand ≡ Some path → ⊥) → ((i : ℕ) (e : BackingView) → length (left ++ b ∷ []) ≤ i → i < length whole → path_in (get_or whole i e).stand ≡ Some path → ⊥) →
      (i : ℕ) (e : BackingView) → length left ≤ i → i < length whole → path_in (get_or whole i e).stand ≡ Some path → ⊥
  none_more left b first other none i e low high is = let at = gone_at whole left b first in let more = length_push left b in
      dite (ℕ_discrete i (length left))
      (λ q. other (ap (λ (x : BackingView). path_in x.stand) (sym (ap (λ n. get_or whole n e) q ∙ at.1 e)) ∙ is))
      (λ far. none i e (omega (arith, low, far, more)) high is)

  from_here : (left : List BackingView) (b : BackingView) → AreFirst (left ++ b ∷ []) whole → path_in b.stand ≡ Some path → IsMainIn b.info main × ClaimsIn b.stand b.claimed b.durable main → ComesFrom path main whole
  from_here left b first is puts = let at = gone_at whole left b first in record { place = length left; low = at.0; backing = b; is = at.1; path_is = is; in_it = puts.0; claims = puts.1 }

  one_more : (o : Option (List ℕ)) (left : List BackingView) (b : BackingView) → o ≡ path_in b.stand → AreFirst (left ++ b ∷ []) whole → PutsMains o b MidMain NewMain →
      (MidMain path main → ComesFrom path main whole ⊎ (IsMain path main × ((i : ℕ) (e : BackingView) → length (left ++ b ∷ []) ≤ i → i < length whole → path_in (get_or whole i e).stand ≡ Some path → ⊥))) →
      NewMain path main → ComesFrom path main whole ⊎ (IsMain path main × ((i : ℕ) (e : BackingView) → length left ≤ i → i < length whole → path_in (get_or whole i e).stand ≡ Some path → ⊥))
  one_more None left b is first puts was home = ⊎_elim (λ from. inl from) (λ old. inr (old.0, none_more left b first (λ at. let clash = is ∙ at in cc) old.1)) (was (puts path main home))
  one_more (Some p) left b is first puts was home = ⊎_elim
      (λ same. inl (from_here left b first (sym is ∙ ap Some (sym same)) (puts.here main (subst (λ (q : List ℕ). NewMain q main) same home))))
      (λ apart. ⊎_elim (λ from. inl from) (λ old. inr (old.0, none_more left b first (λ at. apart (let both = is ∙ at in let same : p ≡ path = cc in sym same)) old.1)) (was (puts.elsewhere path apart main home)))
      (this_or_other p path)

-- it goes home, and so may its main files
pub pop_mains : (whole left after : List BackingView) (b : BackingView) (IsMain MidMain NewMain : List ℕ → Option (List ℕ) → Type 0) → AreFirst left whole → left ≡ after ++ b ∷ [] → PutsMains (path_in b.stand) b MidMain NewMain →
    PutsFrom (length left) whole IsMain MidMain → PutsFrom (length after) whole IsMain NewMain
pop_mains whole left after b IsMain MidMain NewMain first e puts was path main home =
    one_more whole path main IsMain MidMain NewMain (path_in b.stand) after b refl (subst (λ l. AreFirst l whole) e first) puts (subst (λ l. PutsFrom (length l) whole IsMain MidMain) e was path main) home

-- none went home yet
pub none_put : (whole : List BackingView) (IsMain : List ℕ → Option (List ℕ) → Type 0) → PutsFrom (length whole) whole IsMain IsMain
none_put whole IsMain path main home = inr (home, λ i e low high is. absurd (omega (arith, low, high)))
