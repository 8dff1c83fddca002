-- Clients and cores, where one of them goes on.
use Rattle.std.proofs.Common.{◌≡◌, ◌≢◌, ◌⊎◌, inl, inr, ⊎_elim, ℕ, zero, suc, ◌+◌, ◌<◌, ◌≤◌, List, [], ◌∷◌, ◌++◌, length, get_or, set, sum_by, refl, subst, sym, ap, ◌∙◌, arith, Bool, true, false, None, ◌==◌, ne_eqb}
use mathlib.Core.Logic.{dite}
use native.Mathlib.Decide.{ℕ_discrete}
use Rattle.std.proofs.lemmas.List.{length-set, get_or-set_same, get_or-set_other, length_push, get_or_default, get_or_push}
use Rattle.std.proofs.lemmas.List.Sums.{sum_by-set, sum_by-cons, sum_by-le-sum_by, get_or-le-sum_by}
use Rattle.pfc_log.specs.declared.start.Start.TheVariants.{Stored}
use Rattle.pfc_log.specs.Charges.{is_there}
use Rattle.pfc_log.specs.Lawful.{IsCached}
use Rattle.pfc_log.specs.Tallies.{Tally, tally, nothing}
use Rattle.pfc_log.specs.Views.{times}
use Rattle.pfc_log.proofs.Places.{by_bool}
use Rattle.pfc_core.specs.Marks.{Mark, same, sees}
use Rattle.pfc_core.specs.Calls.{foreign}
use Rattle.pfc_core.specs.Access.{as_found}
use Rattle.pfc_core.specs.View.{CoreView}
use Rattle.pfc_core.proofs.Weights.{same_instance, unseen}
use Rattle.pfc_core.specs.OpenJobs.{AreJobs}
use Rattle.pfc_writer.specs.Queue.{QueueView}
use Rattle.pfc_actor.specs.StageView.{Rest}
use Rattle.pfc_actor.specs.Stages.{Shares, shares, no_shares}
use Rattle.pfc_actor.specs.Steps.{IsTallied, IsWithin, Shrinks, Knows, Own, Puts, Step}
use Rattle.pfc_actor.specs.Clients.{ClientView, holds, Moves}
use Rattle.pfc_actor.proofs.Holding.{sees_self, shares_held}
use Rattle.pfc_actor.proofs.Cores.{less}
use Rattle.pfc_scene.specs.Scenes.{lists, total, IsCore, IsActor, IsActorAs, IsCast, AreUnique, AreApart}
use Rattle.pfc_scene.proofs.Totals.{rest_of, total_set, total_was, total_same}

-- ---- who knows what

no_both : {C : Type 0} (q : Bool) → q ≡ true → q ≡ false → C
no_both q a b = absurd cc

-- a mark of another core is seen in no list of this one
apart : (m : Mark) (c : CoreView) (x : Mark) → m.instance ≢ c.instance → sees m x ≤ foreign c x
apart m c x far = by_bool (same m x)
    (λ yes.
    let other : (x.instance == c.instance) ≡ false = ne_eqb x.instance c.instance (λ e. far (same_instance m x yes ∙ e)) in
    let one : foreign c x ≡ 1 = rw other refl in
    let at_most : sees m x ≤ 1 = grind arith in omega (arith, one, at_most))
    (λ no. let none = unseen m x (λ yes. no_both (same m x) yes no) in omega (arith, none))

pub foreign_none : (i k : ℕ) (c : CoreView) (m : Mark) → IsCore k i c → m.instance ≢ i → sum_by (sees m) c.out ≡ 0
foreign_none i k c m is far =
    let le = sum_by-le-sum_by (sees m) (foreign c) c.out (λ x. apart m c x (λ e. far (e ∙ is.instance_is))) in let own = is.own in omega (arith, le, own)

-- ---- sums over a list with one term

pub all_zero : {C : Type 0} (f : C → ℕ) (cs : List C) (d : C) → ((j : ℕ) → j < length cs → f (get_or cs j d) ≡ 0) → sum_by f cs ≡ 0
all_zero f [] d h = refl
all_zero f (c ∷ cs) d h = let here = h 0 (omega arith) in let rest = all_zero f cs d (λ j l. h (suc j) (omega (arith, l))) in omega (arith, sum_by-cons f c cs, here, rest)

pub one_term : {C : Type 0} (f : C → ℕ) (cs : List C) (i : ℕ) (d : C) → i < length cs → ((j : ℕ) → j < length cs → j ≢ i → f (get_or cs j d) ≡ 0) → sum_by f cs ≡ f (get_or cs i d)
one_term f [] i d l h = absurd (omega (arith, l))
one_term f (c ∷ cs) zero d l h = let rest = all_zero f cs d (λ j m. h (suc j) (omega (arith, m)) (λ e. omega (arith, e))) in omega (arith, sum_by-cons f c cs, rest)
one_term f (c ∷ cs) (suc i) d l h =
    let here = h 0 (omega arith) (λ e. omega (arith, e)) in
    let rest = one_term f cs i d (omega (arith, l)) (λ j m n. h (suc j) (omega (arith, m)) (λ e. n (omega (arith, e)))) in omega (arith, sum_by-cons f c cs, here, rest)

-- a core knows the tokens that the clients hold
pub knows : (k : ℕ) (rest : (Mark → ℕ) → ℕ) (clients : List ClientView) (cores : List CoreView) (j i : ℕ) (a : ClientView) (c : CoreView) → IsCast k rest clients cores → j < length clients → i < length cores →
    a ≡ get_or clients j a → c ≡ get_or cores i c → Knows a.book a.stage c
knows k rest clients cores j i a c s lj li ea ec =
    let core = subst (IsCore k i) (sym ec) (s.places i c li) in record {
      known = λ m e.
          let le = get_or-le-sum_by (holds (sees m)) clients j a lj in let t = s.tokens (sees m) in
          let one = one_term (lists (sees m)) cores i c li (λ x lx n. foreign_none x k (get_or cores x c) m (s.places x c lx) (λ q. n (sym q ∙ e ∙ core.instance_is))) in
          let at_j = ap (holds (sees m)) ea in let at_i = ap (lists (sees m)) ec in omega (arith, le, t, one, at_j, at_i);
      own = core.own;
    }

none_far : (k : ℕ) (cores : List CoreView) (m : Mark) (d : CoreView) → ((i : ℕ) (d : CoreView) → i < length cores → IsCore k i (get_or cores i d)) → length cores ≤ m.instance → sum_by (lists (sees m)) cores ≡ 0
none_far k cores m d places far = all_zero (lists (sees m)) cores d (λ j lj. foreign_none j k (get_or cores j d) m (places j d lj) (λ e. omega (arith, e, lj, far)))

pub below_or : (a b : ℕ) → (a < b) ⊎ (b ≤ a)
below_or zero zero = inr (omega arith)
below_or zero (suc b) = inl (omega arith)
below_or (suc a) zero = inr (omega arith)
below_or (suc a) (suc b) = ⊎_elim (λ l. inl (omega (arith, l))) (λ l. inr (omega (arith, l))) (below_or a b)

-- a core of a token that a client holds is there
pub there : (k : ℕ) (rest : (Mark → ℕ) → ℕ) (clients : List ClientView) (cores : List CoreView) (j : ℕ) (a : ClientView) (m : Mark) (d : CoreView) → IsCast k rest clients cores → j < length clients →
    a ≡ get_or clients j a → sees m m ≤ holds (sees m) a → m.instance < length cores
there k rest clients cores j a m d s lj ea held =
    let le = get_or-le-sum_by (holds (sees m)) clients j a lj in let t = s.tokens (sees m) in let at_j = ap (holds (sees m)) ea in let one = sees_self m in
    ⊎_elim (λ l. l) (λ far. let none = none_far k cores m d s.places far in absurd (omega (arith, le, t, at_j, none, held, one))) (below_or m.instance (length cores))

-- ---- a core of the same file

-- of the same file, at the same place, whose log starts the same
pub record StaysFor (c c2 : CoreView) : Type 0 where
  pub instance_is : c2.instance ≡ c.instance
  pub path_is : c2.path ≡ c.path
  pub size_is : c2.size ≡ c.size
  pub block_size_is : c2.block_size ≡ c.block_size
  pub first_is : c2.first ≡ c.first

-- by a call that changes no more than the log, what is out and what is on disk
pub stays_for : (c c2 : CoreView) → c2 ≡ record c { entries = c2.entries; out = c2.out; stored = c2.stored; durable = c2.durable; claimed = c2.claimed } → StaysFor c c2
stays_for c c2 home = record {
  instance_is = ap (λ (v : CoreView). v.instance) home;
  path_is = ap (λ (v : CoreView). v.path) home;
  size_is = ap (λ (v : CoreView). v.size) home;
  block_size_is = ap (λ (v : CoreView). v.block_size) home;
  first_is = ap (λ (v : CoreView). v.first) home;
}

-- or no more than the log, what is out and the accesses
pub stays_by : (c c2 : CoreView) → c2 ≡ record c { entries = c2.entries; out = c2.out; access = c2.access } → StaysFor c c2
stays_by c c2 home = record {
  instance_is = ap (λ (v : CoreView). v.instance) home;
  path_is = ap (λ (v : CoreView). v.path) home;
  size_is = ap (λ (v : CoreView). v.size) home;
  block_size_is = ap (λ (v : CoreView). v.block_size) home;
  first_is = ap (λ (v : CoreView). v.first) home;
}

core_stays : (k i : ℕ) (c c2 : CoreView) → StaysFor c c2 → sum_by (foreign c2) c2.out ≡ 0 → AreJobs c2 → times is_there c2.entries ≡ times is_there c.entries → IsCore k i c → IsCore k i c2
core_stays k i c c2 st own jobs theres was = record {
  instance_is = st.instance_is ∙ was.instance_is;
  own = own;
  jobs = jobs;
  block_size_is = st.block_size_is ∙ was.block_size_is;
  start = rw (st.path_is, st.size_is, st.first_is) was.start;
  theres = theres ∙ was.theres;
}

pub less_within : (k : ℕ) (s s2 : Shares) (t : Tally) → Shrinks s s2 → IsWithin s k t → IsWithin s2 k t
less_within k s s2 t sh w = record {
  hit = let m = less k s2.hits s.hits sh.hits in omega (arith, m, w.hit);
  missed = let m = less k s2.waits s.waits sh.waits in omega (arith, m, w.missed);
  bypassed = let m = less k s2.directs s.directs sh.directs in omega (arith, m, w.bypassed);
}

pub placed : (k : ℕ) (cores : List CoreView) (i : ℕ) (c c2 : CoreView) → ((j : ℕ) (d : CoreView) → j < length cores → IsCore k j (get_or cores j d)) → i < length cores → c ≡ get_or cores i c →
    IsCore k i c2 → (j : ℕ) (d : CoreView) → j < length (set cores i c2) → IsCore k j (get_or (set cores i c2) j d)
placed k cores i c c2 places li ec right j d lj = let long = length-set cores i c2 in
    dite (ℕ_discrete j i)
    (λ e. let at = subst (λ x. get_or (set cores i c2) x d ≡ c2) (sym e) (get_or-set_same cores i c2 d li) in
    subst (IsCore k j) (sym at) (subst (λ x. IsCore k x c2) (sym e) right))
    (λ n. subst (IsCore k j) (sym (get_or-set_other cores i j c2 d n)) (places j d (omega (arith, lj, long))))

-- what stands at one place of a list
pub same_at : {X : Type 0} (xs : List X) (i : ℕ) (x y : X) → i < length xs → x ≡ get_or xs i x → y ≡ get_or xs i y → x ≡ y
same_at xs i x y li ex ey = ex ∙ get_or_default xs i x y li ∙ sym ey

-- what a row of a list has keeps, where one element is replaced by one of the same
pub same_rows : {X : Type 0} {Y : Type 0} (f : X → Y) (xs : List X) (i : ℕ) (x y : X) → i < length xs → x ≡ get_or xs i x → f y ≡ f x → (j : ℕ) (d : X) → j < length xs → f (get_or (set xs i y) j d) ≡ f (get_or xs j d)
same_rows f xs i x y li ex same j d lj =
    dite (ℕ_discrete j i)
    (λ e. let at = subst (λ n. get_or (set xs i y) n d ≡ y) (sym e) (get_or-set_same xs i y d li) in
    ap f at ∙ same ∙ ap f (ex ∙ get_or_default xs i x d li ∙ ap (λ n. get_or xs n d) (sym e)))
    (λ n. ap f (get_or-set_other xs i j y d n))

-- what a row of a list has it has where one element is replaced by one of the same
pub row_has : {X : Type 0} {Y : Type 0} (P : Y → Type 0) (f : X → Y) (xs : List X) (i : ℕ) (x y : X) → i < length xs → x ≡ get_or xs i x → f y ≡ f x → (j : ℕ) (d : X) → j < length xs → P (f (get_or (set xs i y) j d)) → P (f (get_or xs j d))
row_has P f xs i x y li ex same j d lj h = subst P (same_rows f xs i x y li ex same j d lj) h

pub one_path : (cores : List CoreView) (i : ℕ) (c c2 : CoreView) → AreApart cores → i < length cores → c ≡ get_or cores i c → c2.path ≡ c.path → c2.first ≡ c.first → AreApart (set cores i c2)
one_path cores i c c2 paths li ec same begins x y d lx ly cx cy e =
    let long = length-set cores i c2 in
    let lx2 : x < length cores = omega (arith, lx, long) in let ly2 : y < length cores = omega (arith, ly, long) in
    paths x y d lx2 ly2 (row_has IsCached (λ (v : CoreView). v.first) cores i c c2 li ec begins x d lx2 cx) (row_has IsCached (λ (v : CoreView). v.first) cores i c c2 li ec begins y d ly2 cy)
    (sym (same_rows (λ (v : CoreView). v.path) cores i c c2 li ec same x d lx2) ∙ e ∙ same_rows (λ (v : CoreView). v.path) cores i c c2 li ec same y d ly2)

pub one_number : (clients : List ClientView) (j : ℕ) (a a2 : ClientView) → AreUnique clients → j < length clients → a ≡ get_or clients j a → a2.book.number ≡ a.book.number → AreUnique (set clients j a2)
one_number clients j a a2 numbers lj ea same x y d lx ly e =
    let long = length-set clients j a2 in
    let lx2 : x < length clients = omega (arith, lx, long) in let ly2 : y < length clients = omega (arith, ly, long) in
    numbers x y d lx2 ly2 (sym (same_rows (λ (v : ClientView). v.book.number) clients j a a2 lj ea same x d lx2) ∙ e ∙ same_rows (λ (v : ClientView). v.book.number) clients j a a2 lj ea same y d ly2)

-- who isn't among the clients wasn't among them
none_was : (n : ℕ) (clients : List ClientView) (j : ℕ) (a a2 : ClientView) → j < length clients → a ≡ get_or clients j a → a2.book.number ≡ a.book.number →
    ((x : ℕ) (d : ClientView) → x < length (set clients j a2) → (n == (get_or (set clients j a2) x d).book.number) ≡ false) →
    (x : ℕ) (d : ClientView) → x < length clients → (n == (get_or clients x d).book.number) ≡ false
none_was n clients j a a2 lj ea same none x d lx = let long = length-set clients j a2 in
    subst (λ m. (n == m) ≡ false) (same_rows (λ (v : ClientView). v.book.number) clients j a a2 lj ea same x d lx) (none x d (omega (arith, lx, long)))

-- the client that steps
pub stepper : (k : ℕ) (cores : List CoreView) (i : ℕ) (a a2 : ClientView) (c c2 : CoreView) → ((j : ℕ) (d : CoreView) → j < length cores → IsCore k j (get_or cores j d)) → i < length cores → c ≡ get_or cores i c →
    Step a.book a.line a.stage c a2.book a2.line a2.stage c2 → IsActor cores a → IsActor (set cores i c2) a2
stepper k cores i a a2 c c2 places li ec st was =
    let n = a.book.number in
    let tallied : IsTallied a2.book a2.line a2.stage (total n (set cores i c2)) =
    subst (IsTallied a2.book a2.line a2.stage) (sym (total_set n cores i c2 li)) (st.tallied (rest_of n cores i) (subst (IsTallied a.book a.line a.stage) (total_was n cores i c li ec) was.tallied)) in
    subst (λ (m : ℕ). IsActorAs m (set cores i c2) a2) (sym st.number) (record {
      tallied = tallied;
      within = λ x d lx. let long = length-set cores i c2 in let lx2 : x < length cores = omega (arith, lx, long) in
          let here = subst (IsCore k i) (sym ec) (places i c li) in
          dite (ℕ_discrete x i)
          (λ e. let at = subst (λ y. get_or (set cores i c2) y d ≡ c2) (sym e) (get_or-set_same cores i c2 d li) in
          let old = subst (λ (v : CoreView). IsWithin (shares i a.stage) v.block_size (tally n v.entries)) (sym ec) (was.within i c li) in
          let now = st.within (subst (λ y. IsWithin (shares y a.stage) c.block_size (tally n c.entries)) (sym here.instance_is) old) in
          subst (λ (v : CoreView). IsWithin (shares x a2.stage) v.block_size (tally n v.entries)) (sym at)
          (subst (λ y. IsWithin (shares x a2.stage) y (tally n c2.entries)) (sym (ap (λ (v : CoreView). v.block_size) st.home))
          (subst (λ y. IsWithin (shares y a2.stage) c.block_size (tally n c2.entries)) (here.instance_is ∙ sym e) now)))
          (λ far. let at = get_or-set_other cores i x c2 d far in
          subst (λ (v : CoreView). IsWithin (shares x a2.stage) v.block_size (tally n v.entries)) (sym at)
          (less_within (get_or cores x d).block_size (shares x a.stage) (shares x a2.stage) (tally n (get_or cores x d).entries) (st.elsewhere x (ne_eqb x c.instance (λ e. far (e ∙ here.instance_is)))) (was.within x d lx2)));
    })

-- a client that doesn't step
pub other_actor : (cores : List CoreView) (i : ℕ) (a : ClientView) (c c2 : CoreView) → i < length cores → c ≡ get_or cores i c → c2.block_size ≡ c.block_size → tally a.book.number c2.entries ≡ tally a.book.number c.entries →
    IsActor cores a → IsActor (set cores i c2) a
other_actor cores i a c c2 li ec size same was = record {
  tallied = subst (IsTallied a.book a.line a.stage) (sym (total_same a.book.number cores i c c2 li ec same)) was.tallied;
  within = λ x d lx. let long = length-set cores i c2 in let lx2 : x < length cores = omega (arith, lx, long) in
      dite (ℕ_discrete x i)
      (λ e. let at = subst (λ y. get_or (set cores i c2) y d ≡ c2) (sym e) (get_or-set_same cores i c2 d li) in
      let old = subst (λ (v : CoreView). IsWithin (shares i a.stage) v.block_size (tally a.book.number v.entries)) (sym ec) (was.within i c li) in
      subst (λ (v : CoreView). IsWithin (shares x a.stage) v.block_size (tally a.book.number v.entries)) (sym at)
      (subst (λ y. IsWithin (shares y a.stage) c2.block_size (tally a.book.number c2.entries)) (sym e)
      (rw (size, same) old)))
      (λ far. let at = get_or-set_other cores i x c2 d far in
      subst (λ (v : CoreView). IsWithin (shares x a.stage) v.block_size (tally a.book.number v.entries)) (sym at) (was.within x d lx2));
}

pub other_log : (cores : List CoreView) (i n : ℕ) (c c2 : CoreView) → i < length cores → c ≡ get_or cores i c → tally n c2.entries ≡ tally n c.entries → ((x : ℕ) (d : CoreView) → x < length cores → tally n (get_or cores x d).entries ≡ nothing) →
    (x : ℕ) (d : CoreView) → x < length (set cores i c2) → tally n (get_or (set cores i c2) x d).entries ≡ nothing
other_log cores i n c c2 li ec same was x d lx = let long = length-set cores i c2 in let lx2 : x < length cores = omega (arith, lx, long) in
    same_rows (λ (v : CoreView). tally n v.entries) cores i c c2 li ec same x d lx2 ∙ was x d lx2

-- ---- a client goes on by itself

-- what is the same of it, but for what it holds
pub record Goes (a a2 : ClientView) : Type 0 where
  pub number : a2.book.number ≡ a.book.number
  pub tallied : (t : Tally) → IsTallied a.book a.line a.stage t → IsTallied a2.book a2.line a2.stage t
  pub elsewhere : (i : ℕ) → Shrinks (shares i a.stage) (shares i a2.stage)

pub own_goes : (a a2 : ClientView) → Own a.book a.line a.stage a2.book a2.line a2.stage → Goes a a2
own_goes a a2 own = record { number = own.number; tallied = own.tallied; elsewhere = own.elsewhere }

pub puts_goes : (a a2 : ClientView) (q q2 : QueueView) → Puts a.book a.line a.stage q a2.book a2.line a2.stage q2 → Goes a a2
puts_goes a a2 q q2 puts = record { number = puts.number; tallied = puts.tallied; elsewhere = puts.elsewhere }

pub moves_goes : (a a2 : ClientView) → Moves a a2 → Goes a a2
moves_goes a a2 moves = record { number = moves.number; tallied = moves.tallied; elsewhere = moves.elsewhere }

goer : (cores : List CoreView) (a a2 : ClientView) → Goes a a2 → IsActor cores a → IsActor cores a2
goer cores a a2 m me = subst (λ n. IsActorAs n cores a2) (sym m.number) (record {
  tallied = m.tallied (total a.book.number cores) me.tallied;
  within = λ y f ly. less_within (get_or cores y f).block_size (shares y a.stage) (shares y a2.stage) (tally a.book.number (get_or cores y f).entries) (m.elsewhere y) (me.within y f ly);
})

-- what it holds more, less is held elsewhere
pub cast_client : (k : ℕ) (rest rest2 : (Mark → ℕ) → ℕ) (clients : List ClientView) (cores : List CoreView) (j : ℕ) (a a2 : ClientView) → IsCast k rest clients cores → j < length clients → a ≡ get_or clients j a →
    Goes a a2 → ((w : Mark → ℕ) → holds w a2 + rest2 w ≡ holds w a + rest w) → IsCast k rest2 (set clients j a2) cores
cast_client k rest rest2 clients cores j a a2 s lj ea m tokens = record {
  block_size = s.block_size;
  tokens = λ w. let t = s.tokens w in let e = tokens w in let l = sum_by-set (holds w) clients j a2 a lj in let at_j = ap (holds w) ea in omega (arith, t, e, l, at_j);
  actors = λ x d lx. let long = length-set clients j a2 in let lx2 : x < length clients = omega (arith, lx, long) in
      dite (ℕ_discrete x j)
      (λ e. let at = subst (λ y. get_or (set clients j a2) y d ≡ a2) (sym e) (get_or-set_same clients j a2 d lj) in
      subst (IsActor cores) (sym at) (goer cores a a2 m (subst (IsActor cores) (sym ea) (s.actors j a lj))))
      (λ far. subst (IsActor cores) (sym (get_or-set_other clients j x a2 d far)) (s.actors x d lx2));
  numbers = one_number clients j a a2 s.numbers lj ea m.number;
  places = s.places;
  paths = s.paths;
  strangers = λ n none. s.strangers n (none_was n clients j a a2 lj ea m.number none);
}

-- a client steps on a core
pub cast_on : (k : ℕ) (rest rest2 : (Mark → ℕ) → ℕ) (clients : List ClientView) (cores : List CoreView) (j i : ℕ) (a a2 : ClientView) (c c2 : CoreView) → IsCast k rest clients cores → j < length clients → i < length cores →
    a ≡ get_or clients j a → c ≡ get_or cores i c → Step a.book a.line a.stage c a2.book a2.line a2.stage c2 → sum_by (foreign c2) c2.out ≡ 0 → AreJobs c2 → times is_there c2.entries ≡ times is_there c.entries →
    ((w : Mark → ℕ) → rest2 w ≡ rest w) → IsCast k rest2 (set clients j a2) (set cores i c2)
cast_on k rest rest2 clients cores j i a a2 c c2 s lj li ea ec st own jobs theres beside = record {
  block_size = s.block_size;
  tokens = λ w.
      let t = s.tokens w in let m = st.tokens w in let l = sum_by-set (holds w) clients j a2 a lj in let r = sum_by-set (lists w) cores i c2 c li in
      let at_j = ap (holds w) ea in let at_i = ap (lists w) ec in let o = beside w in omega (arith, t, m, l, r, at_j, at_i, o);
  actors = λ x d lx. let long = length-set clients j a2 in let lx2 : x < length clients = omega (arith, lx, long) in
      dite (ℕ_discrete x j)
      (λ e. let at = subst (λ y. get_or (set clients j a2) y d ≡ a2) (sym e) (get_or-set_same clients j a2 d lj) in
      let me = subst (IsActor cores) (sym ea) (s.actors j a lj) in
      subst (IsActor (set cores i c2)) (sym at) (stepper k cores i a a2 c c2 s.places li ec st me))
      (λ far. let at = get_or-set_other clients j x a2 d far in
      let number : ((get_or clients x d).book.number == a.book.number) ≡ false =
      ne_eqb (get_or clients x d).book.number a.book.number (λ e. far (s.numbers x j d lx2 lj (e ∙ ap (λ (v : ClientView). v.book.number) (ea ∙ get_or_default clients j a d lj)))) in
      subst (IsActor (set cores i c2)) (sym at)
      (other_actor cores i (get_or clients x d) c c2 li ec (ap (λ (v : CoreView). v.block_size) st.home) (st.others (get_or clients x d).book.number number) (s.actors x d lx2)));
  numbers = one_number clients j a a2 s.numbers lj ea st.number;
  places = placed k cores i c c2 s.places li ec (core_stays k i c c2 (stays_by c c2 st.home) own jobs theres (subst (IsCore k i) (sym ec) (s.places i c li)));
  paths = one_path cores i c c2 s.paths li ec (ap (λ (v : CoreView). v.path) st.home) (ap (λ (v : CoreView). v.first) st.home);
  strangers = λ n none.
      let none2 = none_was n clients j a a2 lj ea st.number none in
      let me = subst (λ (v : ClientView). (n == v.book.number) ≡ false) (sym ea) (none2 j a lj) in
      other_log cores i n c c2 li ec (st.others n me) (s.strangers n none2);
}

-- a core goes on by itself: what it lists more, more is held elsewhere
pub cast_core : (k : ℕ) (rest rest2 : (Mark → ℕ) → ℕ) (clients : List ClientView) (cores : List CoreView) (i : ℕ) (c c2 : CoreView) → IsCast k rest clients cores → i < length cores → c ≡ get_or cores i c → StaysFor c c2 →
    sum_by (foreign c2) c2.out ≡ 0 → AreJobs c2 → times is_there c2.entries ≡ times is_there c.entries → ((n : ℕ) → tally n c2.entries ≡ tally n c.entries) →
    ((w : Mark → ℕ) → sum_by w c2.out + rest w ≡ sum_by w c.out + rest2 w) → IsCast k rest2 clients (set cores i c2)
cast_core k rest rest2 clients cores i c c2 s li ec st own jobs theres tallies tokens = record {
  block_size = s.block_size;
  tokens = λ w. let t = s.tokens w in let m = tokens w in let r = sum_by-set (lists w) cores i c2 c li in let at_i = ap (lists w) ec in omega (arith, t, m, r, at_i);
  actors = λ x d lx. other_actor cores i (get_or clients x d) c c2 li ec st.block_size_is (tallies (get_or clients x d).book.number) (s.actors x d lx);
  numbers = s.numbers;
  places = placed k cores i c c2 s.places li ec (core_stays k i c c2 st own jobs theres (subst (IsCore k i) (sym ec) (s.places i c li)));
  paths = one_path cores i c c2 s.paths li ec st.path_is st.first_is;
  strangers = λ n none. other_log cores i n c c2 li ec (tallies n) (s.strangers n none);
}

-- only what is held elsewhere is another's
pub cast_beside : (k : ℕ) (rest rest2 : (Mark → ℕ) → ℕ) (clients : List ClientView) (cores : List CoreView) → IsCast k rest clients cores → ((w : Mark → ℕ) → rest2 w ≡ rest w) → IsCast k rest2 clients cores
cast_beside k rest rest2 clients cores s beside = record {
  block_size = s.block_size;
  tokens = λ w. let t = s.tokens w in let o = beside w in omega (arith, t, o);
  actors = s.actors;
  numbers = s.numbers;
  places = s.places;
  paths = s.paths;
  strangers = s.strangers;
}

-- ---- a core more

-- no client has a share in a core that isn't there
pub no_share : (k : ℕ) (rest : (Mark → ℕ) → ℕ) (clients : List ClientView) (cores : List CoreView) (j : ℕ) (d : ClientView) (e : CoreView) → IsCast k rest clients cores → j < length clients → shares (length cores) (get_or clients j d).stage ≡ no_shares
no_share k rest clients cores j d e s lj =
    ⊎_elim (λ none. none)
    (λ h. let low = there k rest clients cores j (get_or clients j d) h.mark e s lj (get_or_default clients j d (get_or clients j d) lj) h.held in let is = h.instance_is in absurd (omega (arith, low, is)))
    (shares_held (length cores) (get_or clients j d).book (get_or clients j d).stage)

pub nothing_within : (k : ℕ) (s : Shares) → s ≡ no_shares → IsWithin s k nothing
nothing_within k s none = rw none (record { hit = omega arith; missed = omega arith; bypassed = omega arith })

pub at_end : {C : Type 0} (cs : List C) (c d : C) (x : ℕ) → x < length (cs ++ c ∷ []) → length cs ≤ x → get_or (cs ++ c ∷ []) x d ≡ c
at_end cs c d x lx far = let long = length_push cs c in let e : x ≡ length cs = omega (arith, lx, long, far) in subst (λ y. get_or (cs ++ c ∷ []) y d ≡ c) (sym e) (get_or_push cs c d (length cs) refl)

-- ---- anyone

abbrev pub nobody : ClientView
nobody = record { book = record { number = 0; asked = []; replies = []; stays = []; shut = false }; line = record { number = 0; calls = 0; faults = 0 }; stage = Rest; moment = None }

abbrev pub no_core : CoreView
no_core = record { instance = 0; path = []; size = 0; block_size = 0; first = Stored []; entries = []; out = []; stored = []; durable = []; claimed = []; access = as_found (record { created = 0; accesses = 0; records = [] }) }

-- what holds of each element below i, and of that at i
pub more_rows : {X : Type 0} (P : X → Type 0) (xs : List X) (i : ℕ) (x : X) → i < length xs → x ≡ get_or xs i x → P x → ((j : ℕ) (d : X) → j < i → P (get_or xs j d)) →
    (j : ℕ) (d : X) → j < i + 1 → P (get_or xs j d)
more_rows P xs i x l e p below j d lj =
    dite (ℕ_discrete j i)
    (λ q. subst (λ k. P (get_or xs k d)) (sym q) (subst P (e ∙ get_or_default xs i x d l) p))
    (λ n. below j d (omega (arith, lj, n)))
