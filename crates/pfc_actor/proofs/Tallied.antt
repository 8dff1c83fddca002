-- A client's tally goes on with its replies, its line and its stage.
use Rattle.std.proofs.Common.{◌≡◌, ℕ, ◌+◌, ◌≤◌, ◌<◌, List, [], ◌∷◌, ◌++◌, length, ap, ◌∙◌, arith}
use Rattle.std.specs.Prelude.{Result, if◌then◌else◌}
use Rattle.std.proofs.Math.ListN.{get_or}
use Rattle.std.proofs.lemmas.List.Sums.{sum_by_push}
use Rattle.std.proofs.lemmas.Option.{slice_get-get_or}
use Rattle.pfc_world.specs.Counts.{RoseBy, add_count, last_count}
use Rattle.pfc_log.specs.Tallies.{Tally}
use Rattle.pfc_client.specs.declared.request.Request.{Request}
use Rattle.pfc_client.specs.declared.request.RequestRefusal.{RequestRefusal}
use Rattle.pfc_client.specs.declared.reply.Reply.{Reply}
use Rattle.pfc_client.specs.Told.{stats, lost, stats_at, lost_at, is_size, is_data, bytes_in}
use Rattle.pfc_client.proofs.Telling.{stats_more, lost_more}
use Rattle.pfc_core.specs.LineView.{LineView}
use Rattle.pfc_actor.specs.Books.{BookView, IsNext}
use Rattle.pfc_actor.specs.StageView.{StageView}
use Rattle.pfc_actor.specs.Stages.{owed, asking, failing}
use Rattle.pfc_actor.specs.Steps.{IsTallied}

-- a count that isn't at its end rose by all that was added
pub counted : (a n b : ℕ) → b ≡ add_count a n → b < last_count → b ≡ a + n
counted a n b e low = grind (arith, e, low)

-- what changed of a tally by a reply
pub record Answers (reply : Reply) (t t2 : Tally) : Type 0 where
  pub opened : t2.opened ≡ t.opened + (if is_size reply then 1 else 0)
  pub served : t2.served ≡ t.served + (if is_data reply then 1 else 0)
  pub read : t2.hit + t2.missed + t2.bypassed ≡ t.hit + t.missed + t.bypassed + bytes_in reply

stats_next : (b : BookView) (said : Result Request RequestRefusal) (reply : Reply) → IsNext b said → stats b.asked (b.replies ++ reply ∷ []) ≡ stats b.asked b.replies + stats_at said reply
stats_next b said reply next =
    let line : List ℕ = get_or b.asked (length b.replies) [] in let at = slice_get-get_or b.asked (length b.replies) [] next.some in
    stats_more b.asked b.replies line reply at ∙ ap (λ s. stats b.asked b.replies + stats_at s reply) (next.is line at)

lost_next : (b : BookView) (said : Result Request RequestRefusal) (reply : Reply) → IsNext b said → lost b.asked (b.replies ++ reply ∷ []) ≡ lost b.asked b.replies + lost_at said reply
lost_next b said reply next =
    let line : List ℕ = get_or b.asked (length b.replies) [] in let at = slice_get-get_or b.asked (length b.replies) [] next.some in
    lost_more b.asked b.replies line reply at ∙ ap (λ s. lost b.asked b.replies + lost_at s reply) (next.is line at)

abbrev pub ends : Tally → ℕ
ends t = t.landed + t.faults + t.directs

-- the calls that were made, and those that the logs and the request at work account for, went on together
pub record GoesOn (l l2 : LineView) (st st2 : StageView) (t t2 : Tally) (asks : ℕ) : Type 0 where
  pub before : l2.calls < last_count → l.calls < last_count
  pub least : l2.calls < last_count → asks + asking st2 + ends t2 + l.calls + owed st ≤ asking st + ends t + l2.calls + owed st2
  pub most : l2.calls < last_count → l2.calls + owed st2 + asking st + ends t + t.wants ≤ l.calls + owed st + asks + asking st2 + ends t2 + t2.wants

-- so many calls were made
pub made : (l l2 : LineView) (st st2 : StageView) (t t2 : Tally) (asks calls : ℕ) → l2.calls ≡ add_count l.calls calls → asks + asking st2 + ends t2 + owed st ≡ asking st + ends t + calls + owed st2 →
    t2.wants ≡ t.wants → GoesOn l l2 st st2 t t2 asks
made l l2 st st2 t t2 asks calls is same wants = record {
  before = λ low. let now = counted l.calls calls l2.calls is low in omega (arith, low, now);
  least = λ low. let now = counted l.calls calls l2.calls is low in omega (arith, now, same);
  most = λ low. let now = counted l.calls calls l2.calls is low in omega (arith, now, same, wants);
}

-- the request at work is answered
pub told : (b b2 : BookView) (l l2 : LineView) (st st2 : StageView) (t t2 : Tally) (said : Result Request RequestRefusal) (reply : Reply) → b2.asked ≡ b.asked → b2.replies ≡ b.replies ++ reply ∷ [] → IsNext b said →
    Answers reply t t2 → GoesOn l l2 st st2 t t2 (stats_at said reply) → RoseBy 0 t2.faults l2.faults → t2.faults + t2.wants + failing st ≤ t.faults + t.wants + failing st2 + lost_at said reply →
    IsTallied b l st t → IsTallied b2 l2 st2 t2
told b b2 l l2 st st2 t t2 said reply asked replies next answers goes faults fails old = record {
  opened = rw replies (let e = sum_by_push (λ x. if is_size x then 1 else 0) b.replies reply in omega (arith, answers.opened, old.opened, e));
  served = rw replies (let e = sum_by_push (λ x. if is_data x then 1 else 0) b.replies reply in omega (arith, answers.served, old.served, e));
  read = rw replies (let e = sum_by_push bytes_in b.replies reply in omega (arith, answers.read, old.read, e));
  least = λ low. rw (asked, replies) (let s = stats_next b said reply next in let was = old.least (goes.before low) in omega (arith, s, was, goes.least low));
  most = λ low. rw (asked, replies) (let s = stats_next b said reply next in let was = old.most (goes.before low) in omega (arith, s, was, goes.most low));
  faults = faults;
  failed = rw (asked, replies) (let s = lost_next b said reply next in omega (arith, s, old.failed, fails));
}

-- the request goes on without a reply
pub quiet : (b b2 : BookView) (l l2 : LineView) (st st2 : StageView) (t t2 : Tally) → b2.asked ≡ b.asked → b2.replies ≡ b.replies → t2.opened ≡ t.opened → t2.served ≡ t.served →
    t2.hit + t2.missed + t2.bypassed ≡ t.hit + t.missed + t.bypassed → GoesOn l l2 st st2 t t2 0 → RoseBy 0 t2.faults l2.faults → t2.faults + t2.wants + failing st ≤ t.faults + t.wants + failing st2 →
    IsTallied b l st t → IsTallied b2 l2 st2 t2
quiet b b2 l l2 st st2 t t2 asked replies opened served read goes faults fails old = record {
  opened = rw replies (opened ∙ old.opened);
  served = rw replies (served ∙ old.served);
  read = rw replies (read ∙ old.read);
  least = λ low. rw (asked, replies) (let was = old.least (goes.before low) in omega (arith, was, goes.least low));
  most = λ low. rw (asked, replies) (let was = old.most (goes.before low) in omega (arith, was, goes.most low));
  faults = faults;
  failed = rw (asked, replies) (omega (arith, old.failed, fails));
}
