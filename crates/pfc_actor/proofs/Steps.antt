-- The steps of a client.
use Rattle.std.proofs.Common.{◌≡◌, ℕ, ◌+◌, ◌≤◌, [], ◌∷◌, ◌++◌, refl, ap, ◌∙◌, arith, Bool, false}
use Rattle.std.specs.Prelude.{Result, Option, Some, None, IfSome, if◌then◌else◌}
use Rattle.pfc_world.specs.Counts.{RoseBy, add_count}
use Rattle.pfc_log.specs.Tallies.{Tally}
use Rattle.pfc_client.specs.declared.request.Request.{Request}
use Rattle.pfc_client.specs.declared.request.RequestRefusal.{RequestRefusal}
use Rattle.pfc_client.specs.declared.reply.Reply.{Reply}
use Rattle.pfc_client.specs.Told.{stats_at, is_size, is_data, bytes_in}
use Rattle.pfc_core.specs.Marks.{Mark}
use Rattle.pfc_core.specs.LineView.{LineView}
use Rattle.pfc_actor.specs.Books.{BookView, IsNext, open_weight}
use Rattle.pfc_actor.specs.StageView.{StageView, Rest}
use Rattle.pfc_actor.specs.Stages.{Shares, no_shares, shares, stage_weight, owed, asking, failing}
use Rattle.pfc_actor.specs.Steps.{Own, Shrinks}
use Rattle.pfc_actor.proofs.Tallied.{Answers, made, told}

pub shrinks_same : (s : Shares) → Shrinks s s
shrinks_same s = record { hits = omega arith; waits = omega arith; directs = omega arith }

-- a reply that tells of nothing in a log
pub answers_none : (t : Tally) (reply : Reply) → is_size reply ≡ false → is_data reply ≡ false → bytes_in reply ≡ 0 → Answers reply t t
answers_none t reply size bare none = record {
  opened = let e = ap (λ (q : Bool). t.opened + (if q then 1 else 0)) size in omega (arith, e);
  served = let e = ap (λ (q : Bool). t.served + (if q then 1 else 0)) bare in omega (arith, e);
  read = omega (arith, none);
}

-- only one that was there stays
pub full_same : {A : Type 0} (x : Option A) → IfSome x (λ full. x ≡ Some full)
full_same None = tt
full_same (Some full) = refl

pub full_on : {A : Type 0} (x y z : Option A) → IfSome y (λ full. x ≡ Some full) → IfSome z (λ full. y ≡ Some full) → IfSome z (λ full. x ≡ Some full)
full_on x y None first later = tt
full_on x None (Some full) first later = absurd cc
full_on x (Some other) (Some full) first later = first ∙ later

rose_later : (n a b : ℕ) → RoseBy 0 n a → a ≤ b → RoseBy 0 n b
rose_later n a b rose le = grind (arith, rose, le)

-- the request at work is answered, and it held nothing
pub own_answered : (b b2 : BookView) (l l2 : LineView) (st : StageView) (said : Result Request RequestRefusal) (reply : Reply) (calls : ℕ) → ((w : Mark → ℕ) → stage_weight w st ≡ 0) → owed st ≡ 0 → failing st ≡ 0 →
    ((i : ℕ) → shares i st ≡ no_shares) → b2 ≡ record b { replies = b.replies ++ reply ∷ [] } → IsNext b said → is_size reply ≡ false → is_data reply ≡ false → bytes_in reply ≡ 0 →
    l2.number ≡ l.number → l2.calls ≡ add_count l.calls calls → l.faults ≤ l2.faults → stats_at said reply ≡ asking st + calls → Own b l st b2 l2 Rest
own_answered b b2 l l2 st said reply calls light unowed whole lone e next size bare none number called faults stat = record {
  number = ap (λ v. v.number) e;
  link = number;
  asked = ap (λ v. v.asked) e;
  tokens = λ w. let same = ap (λ v. open_weight w v.stays) e in let l = light w in omega (arith, same, l);
  tallied = λ t old.
      told b b2 l l2 st Rest t t said reply (ap (λ v. v.asked) e) (ap (λ v. v.replies) e) next (answers_none t reply size bare none)
      (made l l2 st Rest t t (stats_at said reply) calls called (omega (arith, stat, unowed)) refl) (rose_later t.faults l.faults l2.faults old.faults faults) (omega (arith, whole)) old;
  elsewhere = λ i. rw (lone i) (shrinks_same no_shares);
  full = tt;
}

-- a request that is answered at once
pub own_told : (b b2 : BookView) (l l2 : LineView) (said : Result Request RequestRefusal) (reply : Reply) (calls : ℕ) → b2 ≡ record b { replies = b.replies ++ reply ∷ [] } → IsNext b said →
    is_size reply ≡ false → is_data reply ≡ false → bytes_in reply ≡ 0 → l2.number ≡ l.number → l2.calls ≡ add_count l.calls calls → l.faults ≤ l2.faults → stats_at said reply ≡ calls →
    Own b l Rest b2 l2 Rest
own_told b b2 l l2 said reply calls e next size bare none number called faults stat =
    own_answered b b2 l l2 Rest said reply calls (λ w. refl) refl refl (λ i. refl) e next size bare none number called faults (omega (arith, stat))
