-- What a client holds its core knows.
use Rattle.std.proofs.Common.{◌≡◌, ℕ, zero, suc, ◌≤◌, ◌<◌, List, [], ◌∷◌, refl, ap, ◌∙◌, arith, Bool, true, false, ◌⊎◌, inl, inr}
use Rattle.std.specs.Prelude.{◌==◌, ◌&&◌, if◌then◌else◌, sum_by, Option, Some}
use Rattle.std.specs.Cmp.Lexicographic.{pointwise}
use Rattle.std.proofs.lemmas.Bool.{eqb-true}
use Rattle.std.proofs.lemmas.List.Sums.{sum_by-cons}
use Rattle.pfc_log.proofs.Places.{eq_self}
use Rattle.pfc_client.specs.Session.{place_at}
use Rattle.pfc_core.specs.Calls.{foreign}
use Rattle.pfc_core.specs.Marks.{Mark, same, sees, listed, kind_code}
use Rattle.pfc_core.specs.View.{CoreView}
use Rattle.pfc_core.proofs.Weights.{same_self, same_instance, same_path, same_size, same_block_size}
use Rattle.pfc_actor.specs.Books.{BookView, open_weight, weight_in}
use Rattle.pfc_read.specs.OpView.{OpView}
use Rattle.pfc_actor.specs.StageView.{StageView}
use Rattle.pfc_actor.specs.StageView as st
use Rattle.pfc_actor.specs.Stages.{weight, shares, no_shares, op_shares}
use Rattle.pfc_actor.specs.Steps.{Knows}
use Rattle.pfc_actor.specs.Clients.{Holds}

pub sees_self : (m : Mark) → sees m m ≡ 1
sees_self m = ap (λ (q : Bool). if q then 1 else 0) (same_self m)

-- a token that is held is no stranger
pub no_stranger : (b : BookView) (st : StageView) (c : CoreView) (m : Mark) → Knows b st c → m.instance ≡ c.instance → sees m m ≤ weight (sees m) b st → listed m c.out ≡ 0 → ⊥
no_stranger b st c m knows here held none = let known = knows.known m here in let one = sees_self m in absurd (omega (arith, known, one, held, none))

-- what is open at a descriptor is held
pub placed_weighs : (w : Mark → ℕ) (stays : List (Option Mark)) (n : ℕ) (m : Mark) → place_at stays n ≡ Some m → w m ≤ open_weight w stays
placed_weighs w [] n m at = absurd (cc)
placed_weighs w (o ∷ stays) zero m at = let e = ap (weight_in w) at in omega (arith, sum_by-cons (weight_in w) o stays, e)
placed_weighs w (o ∷ stays) (suc n) m at = let rest = placed_weighs w stays n m at in omega (arith, sum_by-cons (weight_in w) o stays, rest)

by_test : {C : Type 0} (q : Bool) → (q ≡ true → C) → (q ≡ false → C) → C
by_test true y n = y refl
by_test false y n = n refl

passed : (q : Bool) → ◌≡◌ {A = ℕ} (if q then 0 else 1) 0 → q ≡ true
passed true h = refl
passed false h = absurd (omega (arith, h))

spread : (a b c d : Bool) → (a && b && c && d) ≡ true → (true && a && b && c && d && true && true && true && true && true) ≡ true
spread true true true true h = refl
spread true true true false h = h
spread true true false d h = h
spread true false c d h = h
spread false b c d h = h

-- a mark that is listed in a core that gave all out itself is the core's own
listed_own : (c : CoreView) (m : Mark) (out : List Mark) → sum_by (foreign c) out ≡ 0 → 0 < listed m out → foreign c m ≡ 0
listed_own c m [] own some = absurd (omega (arith, some))
listed_own c m (x ∷ out) own some = by_test (same m x)
    (λ yes. rw (same_instance m x yes, same_path m x yes, same_size m x yes, same_block_size m x yes) (omega (arith, sum_by-cons (foreign c) x out, own)))
    (λ no.
    let unseen : sees m x ≡ 0 = ap {B = ℕ} (λ (q : Bool). if q then 1 else 0) no in
    listed_own c m out (omega (arith, sum_by-cons (foreign c) x out, own)) (omega (arith, sum_by-cons (sees m) x out, unseen, some)))

-- the mark is of the core's file
pub record IsOfFile (c : CoreView) (m : Mark) : Type 0 where
  pub path_is : m.path ≡ c.path
  pub size_is : m.size ≡ c.size
  pub block_size_is : m.block_size ≡ c.block_size

own_file : (c : CoreView) (m : Mark) → foreign c m ≡ 0 → IsOfFile c m
own_file c m own =
    let home : Mark = record m { instance = c.instance; path = c.path; size = c.size; block_size = c.block_size } in
    let one : same m home ≡ true = rw (eq_self (kind_code m.kind), eq_self m.number, eq_self m.client, eq_self m.block, eq_self m.flight, eq_self m.owner)
    (spread (m.instance == c.instance) (pointwise ◌==◌ m.path c.path) (m.size == c.size) (m.block_size == c.block_size) (passed (m.instance == c.instance && pointwise ◌==◌ m.path c.path && m.size == c.size && m.block_size == c.block_size) own)) in record {
      path_is = same_path m home one;
      size_is = same_size m home one;
      block_size_is = same_block_size m home one;
    }

-- what is held of a core is of its file
pub of_file : (b : BookView) (st : StageView) (c : CoreView) (m : Mark) → Knows b st c → m.instance ≡ c.instance → sees m m ≤ weight (sees m) b st → IsOfFile c m
of_file b st c m knows here held = let known = knows.known m here in let one = sees_self m in own_file c m (listed_own c m c.out knows.own (omega (arith, known, one, held)))

-- who has a share in a core holds a token of it
op_held : (i : ℕ) (b : BookView) (st : StageView) (op : OpView) → shares i st ≡ op_shares i op → ((w : Mark → ℕ) → w op.reading ≤ weight w b st) → (shares i st ≡ no_shares) ⊎ Holds i b st
op_held i b st op is heavy = by_test (op.reading.instance == i)
    (λ y. inr (record { mark = op.reading; instance_is = eqb-true op.reading.instance i y; held = heavy (sees op.reading) }))
    (λ n. inl (is ∙ ap (λ (q : Bool). if q then record { hits = op.hits; waits = op.waits; directs = op.directs } else no_shares) n))

pub shares_held : (i : ℕ) (b : BookView) (st : StageView) → (shares i st ≡ no_shares) ⊎ Holds i b st
shares_held i b st.Rest = inl refl
shares_held i b (st.Wanted wanted) = inl refl
shares_held i b (st.Making wanted) = inl refl
shares_held i b (st.Joining wanted) = inl refl
shares_held i b (st.Planning number pieces) = inl refl
shares_held i b (st.Closing number) = inl refl
shares_held i b st.Closed = inl refl
shares_held i b (st.Reading op) = op_held i b (st.Reading op) op refl (λ w. omega arith)
shares_held i b (st.Landed op job) = op_held i b (st.Landed op job) op refl (λ w. omega arith)
shares_held i b (st.Full op job capacity) = op_held i b (st.Full op job capacity) op refl (λ w. omega arith)
shares_held i b (st.Running op ticket) = op_held i b (st.Running op ticket) op refl (λ w. omega arith)
shares_held i b (st.Directing op leave) = op_held i b (st.Directing op leave) op refl (λ w. omega arith)
shares_held i b (st.Looking op pin part) = op_held i b (st.Looking op pin part) op refl (λ w. omega arith)
shares_held i b (st.Loading op disk part) = op_held i b (st.Loading op disk part) op refl (λ w. omega arith)
shares_held i b (st.Borrowing op disk part) = op_held i b (st.Borrowing op disk part) op refl (λ w. omega arith)
shares_held i b (st.Loaded op disk) = op_held i b (st.Loaded op disk) op refl (λ w. omega arith)
shares_held i b (st.Refused op disk part) = op_held i b (st.Refused op disk part) op refl (λ w. omega arith)
shares_held i b (st.Broken op disk part) = op_held i b (st.Broken op disk part) op refl (λ w. omega arith)
shares_held i b (st.Ending op) = op_held i b (st.Ending op) op refl (λ w. omega arith)
