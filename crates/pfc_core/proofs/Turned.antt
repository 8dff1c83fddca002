-- What is kept of claims, of visits and of the loan that is out, after an entry.
use Rattle.std.proofs.Common.{◌≡◌, ℕ, zero, suc, ◌+◌, ◌<◌, ◌≤◌, List, [], ◌∷◌, ◌++◌, length, sym, refl, ap, ◌∙◌, subst, inl, inr, arith, length-append, Bool, true, false, Option, Some, None}
use Rattle.std.specs.Prelude.{IfSome, count_by, nat_lt, take, if◌then◌else◌}
use Rattle.std.proofs.lemmas.Bool.Decides.{nat_tests}
use Rattle.std.proofs.lemmas.List.{take-append-le}
use Rattle.std.proofs.lemmas.List.Sums.{sum_by-cons}
use Rattle.pfc_base.specs.BlockSet.{is_member}
use Rattle.pfc_log.specs.declared.entry.Entry.{Entry}
use Rattle.pfc_log.specs.declared.entry.Entry.TheVariants as e
use Rattle.pfc_log.specs.declared.start.Start.{Start}
use Rattle.pfc_log.specs.declared.start.Start.TheVariants as start
use Rattle.pfc_log.specs.declared.entry.Uncached.{Uncached}
use Rattle.pfc_log.specs.Views.{Kept, kept, keeps, bound, durable, claimed, claimed_at, claiming, last_claim, count_below}
use Rattle.pfc_log.specs.Lawful.{IsCached}
use Rattle.pfc_log.specs.Positions.{StandsAt}
use Rattle.pfc_log.proofs.More.{claim_more, kept_more}
use Rattle.pfc_log.proofs.Places.{stands_old, stands_new, stands_split}
use Rattle.pfc_core.specs.declared.loan.Lent.{Lent}
use Rattle.pfc_core.specs.Kept.{AreSaid, turn_room}
use Rattle.pfc_core.specs.Sets.{SetsView}
use Rattle.pfc_core.specs.Turns.{is_visit, AreClaimed, VisitIsDue}
use Rattle.pfc_core.proofs.Said.{durable_wrote}
use Rattle.pfc_core.specs.Turned.{AreVisits, IsLent, AreTurns}

-- the entry is that of a turn
abbrev pub is_turning : Entry → Bool
is_turning e.Synced = true
is_turning (e.Claimed p c) = true
is_turning _ = false

claiming_same : (last : Option ℕ) (x : Entry) → is_turning x ≡ false → claiming last x ≡ last
claiming_same last (e.Opened m) h = refl
claiming_same last (e.Closed m) h = refl
claiming_same last (e.Begin u j m) h = refl
claiming_same last (e.Join u j m) h = refl
claiming_same last (e.Hit j spot m) h = refl
claiming_same last (e.Direct j m why) h = refl
claiming_same last (e.Landed u) h = refl
claiming_same last (e.Failed u why) h = refl
claiming_same last (e.Dropped j why) h = refl
claiming_same last (e.Wrote j) h = refl
claiming_same last (e.Left j) h = refl
claiming_same last e.Synced h = absurd cc
claiming_same last (e.Claimed q c) h = absurd cc
claiming_same last e.Frozen h = refl
claiming_same last e.WrittenOff h = refl
claiming_same last (e.Served m served) h = refl

keeping_durable : (i : ℕ) (s : Kept) (x : Entry) → is_turning x ≡ false → (keeps i s x).durable ≡ s.durable
keeping_durable i s (e.Opened m) h = refl
keeping_durable i s (e.Closed m) h = refl
keeping_durable i s (e.Begin u j m) h = refl
keeping_durable i s (e.Join u j m) h = refl
keeping_durable i s (e.Hit j spot m) h = refl
keeping_durable i s (e.Direct j m why) h = refl
keeping_durable i s (e.Landed u) h = refl
keeping_durable i s (e.Failed u why) h = refl
keeping_durable i s (e.Dropped j why) h = refl
keeping_durable i s (e.Wrote j) h = durable_wrote j i s
keeping_durable i s (e.Left j) h = refl
keeping_durable i s e.Synced h = absurd cc
keeping_durable i s (e.Claimed q c) h = absurd cc
keeping_durable i s e.Frozen h = refl
keeping_durable i s e.WrittenOff h = refl
keeping_durable i s (e.Served m served) h = refl

-- what is durable stays so, and nothing more is, until the next turn
pub durable_same : (first : Start) (i : ℕ) (es : List Entry) (x : Entry) → is_turning x ≡ false → durable first i (es ++ x ∷ []) ≡ durable first i es
durable_same first i es x h = ap (λ (k : Kept). k.durable) (kept_more first i es x) ∙ keeping_durable i (kept first i es) x h

wider : (last : Option ℕ) (n : ℕ) → IfSome last (λ p. p ≤ n) → IfSome last (λ p. p ≤ n + 1)
wider None n h = h
wider (Some p) n h = omega arith

past_more : (last : Option ℕ) (es : List Entry) (x : Entry) → IfSome last (λ p. p ≤ length es) → IfSome last (λ p. p ≤ length (es ++ x ∷ []))
past_more last es x h = subst (λ (n : ℕ). IfSome last (λ p. p ≤ n)) (sym (length-append es (x ∷ []))) (wider last (length es) h)

claimed_front : (first : Start) (i : ℕ) (es : List Entry) (x : Entry) (last : Option ℕ) → IfSome last (λ p. p ≤ length es) → claimed_at first i (es ++ x ∷ []) last ≡ claimed_at first i es last
claimed_front first i es x None h = refl
claimed_front first i es x (Some p) h = ap (durable first i) (take-append-le p es (x ∷ []) h)

claimed_more : (first : Start) (i : ℕ) (es : List Entry) (x : Entry) → IfSome (last_claim es) (λ p. p ≤ length es) → claiming (last_claim es) x ≡ last_claim es → claimed first i (es ++ x ∷ []) ≡ claimed first i es
claimed_more first i es x past h = ap (claimed_at first i (es ++ x ∷ [])) (claim_more es x ∙ h) ∙ claimed_front first i es x (last_claim es) past

-- ---- visits

visits_more : (es : List Entry) (x : Entry) (n : ℕ) → AreVisits es n → is_visit x ≡ false → AreVisits (es ++ x ∷ []) n
visits_more es x n was still = record {
  past = let longer = length-append es (x ∷ []) in omega (arith, was.past, longer);
  below = λ p y stands visit. elim (stands_split es x y p stands) [
    | inl w ↦ was.below p y w visit
    | inr w ↦ let clash : true ≡ false = sym visit ∙ ap is_visit w.0 ∙ still in absurd cc
  ];
  last = λ p is. let old = was.last p is in (old.0, stands_old es x old.0 p old.1, old.2);
}

pub visits_now : (es : List Entry) (x : Entry) (n : ℕ) → AreVisits es n → is_visit x ≡ true → AreVisits (es ++ x ∷ []) (length (es ++ x ∷ []))
visits_now es x n was visit = let longer : length (es ++ x ∷ []) ≡ length es + 1 = length-append es (x ∷ []) in record {
  past = omega arith;
  below = λ p y stands is. elim (stands_split es x y p stands) [
    | inl w ↦ let low = was.below p y w is in omega (arith, low, was.past, longer)
    | inr w ↦ omega (arith, w.1, longer)
  ];
  last = λ p is. let at : p ≡ length es = omega (arith, is, longer) in (x, subst (λ (q : ℕ). StandsAt (es ++ x ∷ []) q x) (sym at) (stands_new es x), visit);
}

-- ---- the loan that is out

lent_more : (first : Start) (es : List Entry) (x : Entry) (loan : Option Lent) → IsLent first es loan → is_turning x ≡ false → IsLent first (es ++ x ∷ []) loan
lent_more first es x None was h = tt
lent_more first es x (Some l) was h = record {
  cached = was.cached;
  past = let longer = length-append es (x ∷ []) in omega (arith, was.past, longer);
  later = subst (λ (o : Option ℕ). IfSome o (λ q. q ≤ l.at)) (sym (claim_more es x ∙ claiming_same (last_claim es) x h)) was.later;
  since = λ i. ap (durable first i) (take-append-le l.at es (x ∷ []) was.past) ∙ was.since i ∙ sym (durable_same first i es x h);
}

module _ (first : Start) (es : List Entry) (set : List Bool) (loan : Option Lent) (claim : Option ℕ) (visited : ℕ) where
  grown : (x : Entry) (n : ℕ) → AreTurns first es set loan claim visited → is_turning x ≡ false → AreVisits (es ++ x ∷ []) n → AreTurns first (es ++ x ∷ []) set loan claim n
  grown x n was h visits = record {
    length_is = was.length_is;
    claimed_is = λ i. was.claimed_is i ∙ sym (claimed_more first i es x was.past (claiming_same (last_claim es) x h));
    past = subst (λ (o : Option ℕ). IfSome o (λ p. p ≤ length (es ++ x ∷ []))) (sym (claim_more es x ∙ claiming_same (last_claim es) x h)) (past_more (last_claim es) es x was.past);
    claim_is = was.claim_is ∙ sym (claim_more es x ∙ claiming_same (last_claim es) x h);
    visits = visits;
    lent = lent_more first es x loan was.lent h;
  }

  -- an entry that is neither of a turn nor a visit
  pub turns_more : (x : Entry) → AreTurns first es set loan claim visited → is_turning x ≡ false → is_visit x ≡ false → AreTurns first (es ++ x ∷ []) set loan claim visited
  turns_more x was h still = grown x visited was h (visits_more es x visited was.visits still)

  -- a visit
  pub turns_visit : (x : Entry) → AreTurns first es set loan claim visited → is_turning x ≡ false → is_visit x ≡ true → AreTurns first (es ++ x ∷ []) set loan claim (length (es ++ x ∷ []))
  turns_visit x was h visit = grown x (length (es ++ x ∷ [])) was h (visits_now es x visited was.visits visit)

  -- no loan is out any more
  pub turns_home : AreTurns first es set loan claim visited → AreTurns first es set None claim visited
  turns_home was = record { length_is = was.length_is; claimed_is = was.claimed_is; past = was.past; claim_is = was.claim_is; visits = was.visits; lent = tt }

  take_all : (l : List Entry) → take (length l) l ≡ l
  take_all [] = refl
  take_all (x ∷ xs) = ap (λ (r : List Entry). x ∷ r) (take_all xs)

  -- the store is lent now
  pub turns_lent : (l : Lent) → AreTurns first es set loan claim visited → IsCached first → l.at ≡ length es → AreTurns first es set (Some l) claim visited
  turns_lent l was cached at = record {
    length_is = was.length_is;
    claimed_is = was.claimed_is;
    past = was.past;
    claim_is = was.claim_is;
    visits = was.visits;
    lent = record {
      cached = cached;
      past = omega (arith, at);
      later = subst (λ (n : ℕ). IfSome (last_claim es) (λ q. q ≤ n)) (sym at) was.past;
      since = λ i. ap (λ (n : ℕ). durable first i (take n es)) at ∙ ap (durable first i) (take_all es);
    };
  }

  -- the data was synced
  pub turns_synced : AreTurns first es set loan claim visited → AreTurns first (es ++ e.Synced ∷ []) set None claim visited
  turns_synced was = record {
    length_is = was.length_is;
    claimed_is = λ i. was.claimed_is i ∙ sym (claimed_more first i es e.Synced was.past refl);
    past = subst (λ (o : Option ℕ). IfSome o (λ p. p ≤ length (es ++ e.Synced ∷ []))) (sym (claim_more es e.Synced)) (past_more (last_claim es) es e.Synced was.past);
    claim_is = was.claim_is ∙ sym (claim_more es e.Synced);
    visits = visits_more es e.Synced visited was.visits refl;
    lent = tt;
  }

-- a cinfo was put by this loan: it claims what is durable
pub turns_claimed : (first : Start) (es : List Entry) (set safe : List Bool) (l : Lent) (claim : Option ℕ) (visited c : ℕ) → AreTurns first es set (Some l) claim visited → length safe ≡ bound first → ((i : ℕ) → is_member safe i ≡ durable first i es) →
    AreTurns first (es ++ e.Claimed l.at c ∷ []) safe None (Some l.at) visited
turns_claimed first es set safe l claim visited c was long same =
    let x : Entry = e.Claimed l.at c in let last : last_claim (es ++ x ∷ []) ≡ Some l.at = claim_more es x in record {
      length_is = long;
      claimed_is = λ i. same i ∙ sym (was.lent.since i) ∙ sym (ap (claimed_at first i (es ++ x ∷ [])) last ∙ ap (durable first i) (take-append-le l.at es (x ∷ []) was.lent.past));
      past = subst (λ (o : Option ℕ). IfSome o (λ p. p ≤ length (es ++ x ∷ []))) (sym last) (let longer = length-append es (x ∷ []) in omega (arith, was.lent.past, longer));
      claim_is = sym last;
      visits = visits_more es x visited was.visits refl;
      lent = tt;
    }

-- ---- as a core begins

no_visits : AreVisits [] 0
no_visits = record { past = omega arith; below = λ p y stands visit. absurd cc; last = λ p is. absurd (omega arith) }

pub new_turns : (set : List Bool) → AreTurns (start.Stored set) [] set None None 0
new_turns set = record { length_is = refl; claimed_is = λ i. refl; past = tt; claim_is = refl; visits = no_visits; lent = tt }

pub bare_turns : (why : Uncached) → AreTurns (start.Uncached why) [] [] None None 0
bare_turns why = record { length_is = refl; claimed_is = λ i. refl; past = tt; claim_is = refl; visits = no_visits; lent = tt }

-- ---- how many blocks are claimed

count_front : (f : ℕ → Bool) (n : ℕ) → count_below f (suc n) ≡ (if f 0 then 1 else 0) + count_below (λ i. f (suc i)) n
count_front f zero = omega arith
count_front f (suc n) = let rest = count_front f n in omega (arith, rest)

pub count_members : (set : List Bool) → count_by (λ (member : Bool). member) set ≡ count_below (is_member set) (length set)
count_members [] = refl
count_members (b ∷ bs) = let rest = count_members bs in let front = count_front (is_member (b ∷ bs)) (length bs) in omega (arith, sum_by-cons (λ (member : Bool). if member then 1 else 0) b bs, rest, front)

-- ---- room

pub turn_most : (loan : Option Lent) → turn_room loan ≤ 1
turn_most None = omega arith
turn_most (Some l) = elim l.turn as (λ q. (if q then 1 else 0) ≤ 1) [ true ↦ omega arith | false ↦ omega arith ]

-- ---- what is due

pub above_of : (a b : ℕ) → nat_lt a b ≡ true → a < b
above_of a b h = grind (arith, nat_tests)

pub below_of : (a b : ℕ) → nat_lt a b ≡ false → b ≤ a
below_of a b h = grind (arith, nat_tests)

-- sets of the same bound with the same members are one
pub set_is : (a b : List Bool) → length a ≡ length b → ((i : ℕ) → is_member a i ≡ is_member b i) → a ≡ b
set_is [] [] long same = refl
set_is [] (y ∷ ys) long same = absurd (omega (arith, long))
set_is (x ∷ xs) [] long same = absurd (omega (arith, long))
set_is (x ∷ xs) (y ∷ ys) long same = let rest = set_is xs ys (omega (arith, long)) (λ i. same (suc i)) in let front : x ≡ y = same 0 in λ i. front i ∷ rest i

module _ (first : Start) (es : List Entry) (s : SetsView) (loan : Option Lent) (claim : Option ℕ) (visited : ℕ) (said : AreSaid first es s) (was : AreTurns first es s.claimed loan claim visited) where
  pub claimed_all : s.stored ≡ s.claimed → AreClaimed first es
  claimed_all same i = sym (was.claimed_is i) ∙ sym (ap (λ (l : List Bool). is_member l i) same) ∙ said.stored_is i

  pub claimed_not : (s.stored ≡ s.claimed → ⊥) → AreClaimed first es → ⊥
  claimed_not apart all = apart (set_is s.stored s.claimed (said.length_is ∙ sym was.length_is) (λ i. said.stored_is i ∙ sym (all i) ∙ sym (was.claimed_is i)))

  pub visit_due : (n : ℕ) → n + 1 ≡ visited → IfSome (last_claim es) (λ q. q ≤ n) → VisitIsDue es
  visit_due n at since = let last = was.visits.last n at in record { at = n; entry = last.0; stands = last.1; visits = last.2; since = since }

  -- no visit is due where all were before the claim, or there is none
  pub none_due : (n : ℕ) → visited ≤ n → claim ≡ Some n → VisitIsDue es → ⊥
  none_due n low is due = let below = was.visits.below due.at due.entry due.stands due.visits in
      let past : n ≤ due.at = subst (λ (o : Option ℕ). IfSome o (λ q. q ≤ due.at)) (sym was.claim_is ∙ is) due.since in omega (arith, below, past, low)

  pub none_at_all : visited ≡ 0 → VisitIsDue es → ⊥
  none_at_all none due = let below = was.visits.below due.at due.entry due.stands due.visits in omega (arith, below, none)
