-- What is held, weighed by more or less, and what of it is of one core.
use Rattle.std.proofs.Common.{◌≡◌, ◌≢◌, ℕ, zero, suc, ◌+◌, ◌<◌, ◌≤◌, List, [], ◌∷◌, length, get_or, sum_by, refl, subst, sym, ap, ◌∙◌, arith, Bool, true, false, ◌==◌, ◌&&◌, ne_eqb}
use Rattle.std.specs.Prelude.{Option, Some, None, not, if◌then◌else◌}
use Rattle.std.proofs.lemmas.Bool.{eqb-true}
use Rattle.std.proofs.lemmas.List.Sums.{sum_by-cons, sum_by-le-sum_by}
use Rattle.pfc_log.specs.Views.{place}
use Rattle.pfc_log.proofs.Places.{by_bool, eq_self}
use Rattle.pfc_core.specs.Leaves.{is_done_at}
use Rattle.pfc_core.specs.Marks.{Mark}
use Rattle.pfc_core.specs.Calls.{foreign}
use Rattle.pfc_core.specs.View.{CoreView}
use Rattle.pfc_read.specs.OpView.{OpView, held}
use Rattle.pfc_core.specs.OpenJobs.{is_job_mark, a_job, settled, unsettled}
use Rattle.pfc_writer.specs.Writer.{Task, work_weight}
use Rattle.pfc_actor.specs.Backings.{Stand, Bare, Taken, Open, Lent, loan_weight}
use Rattle.pfc_actor.specs.Books.{weight_in}
use Rattle.pfc_actor.specs.StageView.{StageView}
use Rattle.pfc_actor.specs.StageView as st
use Rattle.pfc_actor.specs.Stages.{stage_weight}
use Rattle.pfc_actor.specs.Clients.{ClientView, holds}
use Rattle.pfc_scene.specs.Scenes.{IsCore, IsCast, lists}
use Rattle.pfc_scene.proofs.Casts.{all_zero, one_term}

-- ---- sums

pub sum_add : {X : Type 0} (f g : X → ℕ) (xs : List X) → sum_by (λ x. f x + g x) xs ≡ sum_by f xs + sum_by g xs
sum_add f g [] = refl
sum_add f g (x ∷ xs) = let r = sum_add f g xs in omega (arith, r, sum_by-cons (λ y. f y + g y) x xs, sum_by-cons f x xs, sum_by-cons g x xs)

pub sum_le_add : {X : Type 0} (f g h : X → ℕ) (xs : List X) → ((x : X) → f x ≤ g x + h x) → sum_by f xs ≤ sum_by g xs + sum_by h xs
sum_le_add f g h xs le = let l = sum_by-le-sum_by f (λ x. g x + h x) xs le in let a = sum_add g h xs in omega (arith, l, a)

-- two sums are one where the terms are, but for those that another sum, which is none, weighs
pub sum_own : {X : Type 0} (f w u : X → ℕ) (xs : List X) → sum_by f xs ≡ 0 → ((x : X) → f x ≡ 0 → w x ≡ u x) → sum_by w xs ≡ sum_by u xs
sum_own f w u [] none same = refl
sum_own f w u (x ∷ xs) none same =
    let l = sum_by-cons f x xs in let here = same x (omega (arith, l, none)) in let rest = sum_own f w u xs (omega (arith, l, none)) same in omega (arith, sum_by-cons w x xs, sum_by-cons u x xs, here, rest)

-- or where each of the list's are
pub sum_rows : {X : Type 0} (f g : X → ℕ) (xs : List X) (d : X) → ((i : ℕ) → i < length xs → f (get_or xs i d) ≡ g (get_or xs i d)) → sum_by f xs ≡ sum_by g xs
sum_rows f g [] d same = refl
sum_rows f g (x ∷ xs) d same =
    let here = same 0 (omega arith) in let rest = sum_rows f g xs d (λ i l. same (suc i) (omega (arith, l))) in omega (arith, sum_by-cons f x xs, sum_by-cons g x xs, here, rest)

-- ---- what a client holds

held_le : (w u : Mark → ℕ) → ((m : Mark) → w m ≤ u m) → (op : OpView) → held w op ≤ held u op
held_le w u le op =
    let r = le op.reading in let t = sum_by-le-sum_by w u op.tickets le in let p = sum_by-le-sum_by w u op.pins le in let d = sum_by-le-sum_by w u op.disks le in omega (arith, r, t, p, d)

held_add : (w u : Mark → ℕ) (op : OpView) → held (λ m. w m + u m) op ≡ held w op + held u op
held_add w u op = let t = sum_add w u op.tickets in let p = sum_add w u op.pins in let d = sum_add w u op.disks in omega (arith, t, p, d)

both_le : (w u : Mark → ℕ) → ((m : Mark) → w m ≤ u m) → (op : OpView) (m : Mark) → held w op + w m ≤ held u op + u m
both_le w u le op m = let h = held_le w u le op in let one = le m in omega (arith, h, one)

both_add : (w u : Mark → ℕ) (op : OpView) (m : Mark) → held (λ x. w x + u x) op + (w m + u m) ≡ held w op + w m + (held u op + u m)
both_add w u op m = let h = held_add w u op in omega (arith, h)

stage_le : (w u : Mark → ℕ) → ((m : Mark) → w m ≤ u m) → (s : StageView) → stage_weight w s ≤ stage_weight u s
stage_le w u le (st.Reading op) = held_le w u le op
stage_le w u le (st.Landed op job) = both_le w u le op job
stage_le w u le (st.Full op job capacity) = both_le w u le op job
stage_le w u le (st.Running op ticket) = both_le w u le op ticket
stage_le w u le (st.Directing op leave) = held_le w u le op
stage_le w u le (st.Looking op pin part) = both_le w u le op pin
stage_le w u le (st.Loading op disk part) = both_le w u le op disk
stage_le w u le (st.Borrowing op disk part) = both_le w u le op disk
stage_le w u le (st.Loaded op disk) = both_le w u le op disk
stage_le w u le (st.Refused op disk part) = both_le w u le op disk
stage_le w u le (st.Broken op disk part) = both_le w u le op disk
stage_le w u le (st.Ending op) = held_le w u le op
stage_le w u le _ = omega arith

stage_add : (w u : Mark → ℕ) (s : StageView) → stage_weight (λ m. w m + u m) s ≡ stage_weight w s + stage_weight u s
stage_add w u (st.Reading op) = held_add w u op
stage_add w u (st.Landed op job) = both_add w u op job
stage_add w u (st.Full op job capacity) = both_add w u op job
stage_add w u (st.Running op ticket) = both_add w u op ticket
stage_add w u (st.Directing op leave) = held_add w u op
stage_add w u (st.Looking op pin part) = both_add w u op pin
stage_add w u (st.Loading op disk part) = both_add w u op disk
stage_add w u (st.Borrowing op disk part) = both_add w u op disk
stage_add w u (st.Loaded op disk) = both_add w u op disk
stage_add w u (st.Refused op disk part) = both_add w u op disk
stage_add w u (st.Broken op disk part) = both_add w u op disk
stage_add w u (st.Ending op) = held_add w u op
stage_add w u _ = omega arith

in_le : (w u : Mark → ℕ) → ((m : Mark) → w m ≤ u m) → (o : Option Mark) → weight_in w o ≤ weight_in u o
in_le w u le None = omega arith
in_le w u le (Some m) = le m

in_sum : (w u : Mark → ℕ) (os : List (Option Mark)) → sum_by (weight_in (λ m. w m + u m)) os ≡ sum_by (weight_in w) os + sum_by (weight_in u) os
in_sum w u [] = refl
in_sum w u (None ∷ os) = let r = in_sum w u os in omega (arith, r, sum_by-cons (weight_in (λ m. w m + u m)) None os, sum_by-cons (weight_in w) None os, sum_by-cons (weight_in u) None os)
in_sum w u (Some m ∷ os) = let r = in_sum w u os in omega (arith, r, sum_by-cons (weight_in (λ x. w x + u x)) (Some m) os, sum_by-cons (weight_in w) (Some m) os, sum_by-cons (weight_in u) (Some m) os)

-- what weighs more at each mark weighs more
pub holds_le : (w u : Mark → ℕ) → ((m : Mark) → w m ≤ u m) → (a : ClientView) → holds w a ≤ holds u a
holds_le w u le a = let o = sum_by-le-sum_by (weight_in w) (weight_in u) a.book.stays (in_le w u le) in let s = stage_le w u le a.stage in omega (arith, o, s)

-- two weights add up
pub holds_add : (w u : Mark → ℕ) (a : ClientView) → holds (λ m. w m + u m) a ≡ holds w a + holds u a
holds_add w u a = let o = in_sum w u a.book.stays in let s = stage_add w u a.stage in omega (arith, o, s)

pub clients_le : (w u : Mark → ℕ) (clients : List ClientView) → ((m : Mark) → w m ≤ u m) → sum_by (holds w) clients ≤ sum_by (holds u) clients
clients_le w u clients le = sum_by-le-sum_by (holds w) (holds u) clients (holds_le w u le)

pub clients_add : (w u : Mark → ℕ) (clients : List ClientView) → sum_by (holds (λ m. w m + u m)) clients ≡ sum_by (holds w) clients + sum_by (holds u) clients
clients_add w u [] = refl
clients_add w u (a ∷ clients) =
    let r = clients_add w u clients in let here = holds_add w u a in omega (arith, r, here, sum_by-cons (holds (λ m. w m + u m)) a clients, sum_by-cons (holds w) a clients, sum_by-cons (holds u) a clients)

-- ---- what is lent, and what writers have

pub loan_le : (w u : Mark → ℕ) → ((m : Mark) → w m ≤ u m) → (s : Stand) → loan_weight w s ≤ loan_weight u s
loan_le w u le Bare = omega arith
loan_le w u le (Taken path size) = omega arith
loan_le w u le (Open path size k) = omega arith
loan_le w u le (Lent mark done) = le mark

pub work_le : (w u : Mark → ℕ) → ((m : Mark) → w m ≤ u m) → (x : Option Task) → work_weight w x ≤ work_weight u x
work_le w u le None = omega arith
work_le w u le (Some task) = le task.job

-- ---- what is of one core

-- the marks of the core of this number alone
abbrev pub of_core : ℕ → (Mark → ℕ) → Mark → ℕ
of_core i w m = if i == m.instance then w m else 0

-- each mark, weighed by its core
abbrev pub in_cores : (CoreView → Mark → ℕ) → List CoreView → Mark → ℕ
in_cores f cores m = sum_by (λ c. if c.instance == m.instance then f c m else 0) cores

pub of_yes : (i : ℕ) (w : Mark → ℕ) (m : Mark) → i ≡ m.instance → of_core i w m ≡ w m
of_yes i w m e = let yes : (i == m.instance) ≡ true = subst (λ n. (i == n) ≡ true) e (eq_self i) in rw yes refl

pub of_no : (i : ℕ) (w : Mark → ℕ) (m : Mark) → i ≢ m.instance → of_core i w m ≡ 0
of_no i w m far = let no : (i == m.instance) ≡ false = ne_eqb i m.instance far in rw no refl

pub of_least : (i : ℕ) (w : Mark → ℕ) (m : Mark) → of_core i w m ≤ w m
of_least i w m = by_bool (i == m.instance) (λ yes. rw yes (omega arith)) (λ no. rw no (omega arith))

-- a mark that a core gave out is of its number
pub own_instance : (c : CoreView) (m : Mark) → foreign c m ≡ 0 → m.instance ≡ c.instance
own_instance c m own = by_bool (m.instance == c.instance) (λ yes. eqb-true m.instance c.instance yes) (λ no. let one : foreign c m ≡ 1 = rw no refl in absurd (omega (arith, one, own)))

pub lists_own : (i k : ℕ) (c : CoreView) (w : Mark → ℕ) → IsCore k i c → lists (of_core i w) c ≡ lists w c
lists_own i k c w is = sum_own (foreign c) (of_core i w) w c.out is.own (λ m own. of_yes i w m (sym (own_instance c m own ∙ is.instance_is)))

pub lists_far : (i j k : ℕ) (c : CoreView) (w : Mark → ℕ) → IsCore k j c → j ≢ i → lists (of_core i w) c ≡ 0
lists_far i j k c w is far =
    sum_own (foreign c) (of_core i w) (λ m. 0) c.out is.own (λ m own. of_no i w m (λ e. far (sym (own_instance c m own ∙ is.instance_is) ∙ sym e))) ∙ zeros c.out
  where
    zeros : (ms : List Mark) → sum_by (λ (m : Mark). 0) ms ≡ 0
    zeros [] = refl
    zeros (m ∷ ms) = let r = zeros ms in omega (arith, r, sum_by-cons (λ (x : Mark). 0) m ms)

-- what the core at a place gave out is held by someone
pub held_at : (k : ℕ) (rest : (Mark → ℕ) → ℕ) (clients : List ClientView) (cores : List CoreView) (i : ℕ) (c : CoreView) (w : Mark → ℕ) → IsCast k rest clients cores → i < length cores → c ≡ get_or cores i c →
    sum_by (holds (of_core i w)) clients + rest (of_core i w) ≡ sum_by w c.out
held_at k rest clients cores i c w s li ec =
    let one = one_term (lists (of_core i w)) cores i c li (λ x lx n. lists_far i x k (get_or cores x c) w (s.places x c lx) n) in
    let own = lists_own i k c w (subst (IsCore k i) (sym ec) (s.places i c li)) in
    let at = ap (lists (of_core i w)) ec in let t = s.tokens (of_core i w) in omega (arith, one, own, at, t)

-- ---- what is weighed by its core

-- a mark of the core at a place
pub in_own : (f : CoreView → Mark → ℕ) (k : ℕ) (cores : List CoreView) (i : ℕ) (c : CoreView) (m : Mark) → ((j : ℕ) (d : CoreView) → j < length cores → IsCore k j (get_or cores j d)) → i < length cores → c ≡ get_or cores i c →
    m.instance ≡ i → in_cores f cores m ≡ f c m
in_own f k cores i c m places li ec e =
    let is = subst (IsCore k i) (sym ec) (places i c li) in
    let one = one_term (λ (x : CoreView). of_core x.instance (f x) m) cores i c li
    (λ j lj n. of_no (get_or cores j c).instance (f (get_or cores j c)) m (λ q. n (sym (places j c lj).instance_is ∙ q ∙ e))) in
    one ∙ ap (λ (x : CoreView). of_core x.instance (f x) m) (sym ec) ∙ of_yes c.instance (f c) m (is.instance_is ∙ sym e)

-- and of none
pub in_none : (f : CoreView → Mark → ℕ) (k : ℕ) (cores : List CoreView) (d : CoreView) (m : Mark) → ((j : ℕ) (d : CoreView) → j < length cores → IsCore k j (get_or cores j d)) → length cores ≤ m.instance → in_cores f cores m ≡ 0
in_none f k cores d m places far =
    all_zero (λ (x : CoreView). of_core x.instance (f x) m) cores d (λ j lj. let is = (places j d lj).instance_is in of_no (get_or cores j d).instance (f (get_or cores j d)) m (λ q. omega (arith, q, is, lj, far)))

-- what all cores gave out, each mark weighed by its core
pub lists_in : (f : CoreView → Mark → ℕ) (k : ℕ) (cores : List CoreView) (d : CoreView) → ((j : ℕ) (d : CoreView) → j < length cores → IsCore k j (get_or cores j d)) →
    sum_by (lists (in_cores f cores)) cores ≡ sum_by (λ c. sum_by (f c) c.out) cores
lists_in f k cores d places = sum_rows (lists (in_cores f cores)) (λ c. sum_by (f c) c.out) cores d (λ i li. let c = get_or cores i d in let is = places i d li in
    sum_own (foreign c) (in_cores f cores) (f c) c.out is.own (λ m own. in_own f k cores i c m places li (get_or_any cores i d li) (own_instance c m own ∙ is.instance_is)))
  where
    get_or_any : (cs : List CoreView) (i : ℕ) (d : CoreView) → i < length cs → get_or cs i d ≡ get_or cs i (get_or cs i d)
    get_or_any [] i d l = absurd (omega (arith, l))
    get_or_any (c ∷ cs) zero d l = refl
    get_or_any (c ∷ cs) (suc i) d l = get_or_any cs i d (omega (arith, l))

-- ---- jobs

one_of_two : (a b : Bool) → (if a && b then 1 else 0) + (if a && not b then 1 else 0) ≡ (if a then 1 else 0)
one_of_two true true = refl
one_of_two true false = refl
one_of_two false b = refl

-- a job is settled or not
pub by_settled : (v : CoreView) (m : Mark) → settled v m + unsettled v m ≡ a_job m
by_settled v m = one_of_two (is_job_mark m) (is_done_at m.flight (place m.block v.entries))

pub settled_least : (v : CoreView) (m : Mark) → settled v m ≤ a_job m
settled_least v m = let e = by_settled v m in omega (arith, e)

pub unsettled_least : (v : CoreView) (m : Mark) → unsettled v m ≤ a_job m
unsettled_least v m = let e = by_settled v m in omega (arith, e)

-- all jobs that are out are settled or not
pub sum_settled : (v : CoreView) (ms : List Mark) → sum_by (settled v) ms + sum_by (unsettled v) ms ≡ sum_by a_job ms
sum_settled v [] = refl
sum_settled v (m ∷ ms) = let r = sum_settled v ms in let e = by_settled v m in omega (arith, r, e, sum_by-cons (settled v) m ms, sum_by-cons (unsettled v) m ms, sum_by-cons a_job m ms)
