-- The steps of a client that open and close a file.
use Rattle.std.proofs.Common.{◌≡◌, ℕ, ◌+◌, ◌*◌, ◌≤◌, List, [], ◌∷◌, ◌++◌, refl, sym, ap, ◌∙◌, subst, arith, Bool}
use Rattle.std.specs.Prelude.{Ok, None, if◌then◌else◌}
use Rattle.pfc_world.specs.Counts.{RoseBy}
use Rattle.pfc_log.specs.declared.entry.Entry.{Entry}
use Rattle.pfc_log.specs.declared.entry.Entry.TheVariants as e
use Rattle.pfc_log.specs.Owners.{owners}
use Rattle.pfc_log.specs.Tallies.{Tally, tally, together, gain}
use Rattle.pfc_log.proofs.Places.{eq_self}
use Rattle.pfc_client.specs.declared.request.Request.TheVariants as q
use Rattle.pfc_client.specs.declared.reply.Reply.TheVariants as r
use Rattle.pfc_core.specs.Calls.{Attaches, Detaches}
use Rattle.pfc_core.specs.LineView.{LineView}
use Rattle.pfc_core.specs.Marks.{Mark}
use Rattle.pfc_core.specs.Access.{AccessView, come_in, go_out}
use Rattle.pfc_core.specs.View.{CoreView, entered}
use Rattle.pfc_actor.specs.Books.{BookView, IsNext, open_weight}
use Rattle.pfc_actor.specs.StageView.{StageView, Rest, Closing}
use Rattle.pfc_actor.specs.StageView as st
use Rattle.pfc_actor.specs.Stages.{shares, no_shares, stage_weight, owed, asking, failing}
use Rattle.pfc_actor.specs.Steps.{Own, Step, full_in}
use Rattle.pfc_actor.proofs.Tallied.{made, quiet, told}
use Rattle.pfc_actor.proofs.Growing.{plain_grows, plain_one, still_grows}
use Rattle.pfc_actor.proofs.Giving.{fresh_attached, fresh_lost}
use Rattle.pfc_actor.proofs.Steps.{shrinks_same}
use Rattle.pfc_actor.proofs.Entering.{gained_one, no_room, step_on}

pub still_home : (c c2 : CoreView) (x : Entry) (out : List Mark) → c2 ≡ entered c x out → c2 ≡ record c { entries = c2.entries; out = c2.out }
still_home c c2 x out same = subst (λ (v : CoreView). v ≡ record c { entries = v.entries; out = v.out }) (sym same) refl

still_visited : (c c2 : CoreView) (x : Entry) (out : List Mark) (a : AccessView) → c2 ≡ record (entered c x out) { access = a } → c2 ≡ record c { entries = c2.entries; out = c2.out; access = c2.access }
still_visited c c2 x out a same = subst (λ (v : CoreView). v ≡ record c { entries = v.entries; out = v.out; access = v.access }) (sym same) refl

pub less : (k a b : ℕ) → a ≤ b → k * a ≤ k * b
less k a b le = grind (arith, le)

subst_faults : (n a : ℕ) → RoseBy 0 n a → RoseBy 0 (n + 0) a
subst_faults n a rose = grind (arith, rose)

-- a step on no core leaves a core as it is
pub own_step : (b b2 : BookView) (l l2 : LineView) (st st2 : StageView) (c c2 : CoreView) → Own b l st b2 l2 st2 → c2 ≡ c → Step b l st c b2 l2 st2 c2
own_step b b2 l l2 st st2 c c2 own same = rw same (record {
  number = own.number;
  link = own.link;
  asked = own.asked;
  home = refl;
  tokens = λ w. let t = own.tokens w in omega (arith, t);
  tallied = λ rest old. own.tallied (together rest (tally b.number c.entries)) old;
  within = λ old.
      let s = own.elsewhere c.instance in
      record {
        hit = let m = less c.block_size (shares c.instance st2).hits (shares c.instance st).hits s.hits in omega (arith, m, old.hit);
        missed = let m = less c.block_size (shares c.instance st2).waits (shares c.instance st).waits s.waits in omega (arith, m, old.missed);
        bypassed = let m = less c.block_size (shares c.instance st2).directs (shares c.instance st).directs s.directs in omega (arith, m, old.bypassed);
      };
  elsewhere = λ i other. own.elsewhere i;
  grows = still_grows (full_in st) c c refl;
  fresh = omega arith;
  full = own.full;
  others = λ m other. refl;
})

-- the file is open
pub opened_step : (b b2 : BookView) (l : LineView) (st : StageView) (c c2 : CoreView) (number n now size : ℕ) (path : List ℕ) (stay : Mark) → ((w : Mark → ℕ) → stage_weight w st ≡ 0) → owed st ≡ 0 → failing st ≡ 0 → asking st ≡ 1 →
    ((i : ℕ) → shares i st ≡ no_shares) → full_in st ≡ None → IsNext b (Ok (q.Open number path)) → n ≡ b.number → Attaches c n now stay c2 → ((w : Mark → ℕ) → open_weight w b2.stays ≡ open_weight w b.stays + w stay) →
    b2.number ≡ b.number → b2.asked ≡ b.asked → b2.replies ≡ b.replies ++ r.Size size ∷ [] → Step b l st c b2 l Rest c2
opened_step b b2 l st c c2 number n now size path stay light unowed whole asks lone none next mine attaches weighs num asked replies =
    let g : Tally = gain b.number (owners c.entries) (e.Opened b.number) in
    let a : AccessView = come_in now c.out c.access in
    let enters : c2 ≡ record (entered c (e.Opened b.number) c2.out) { access = a } = attaches.enters ∙ ap (λ (m : ℕ). record (entered c (e.Opened m) c2.out) { access = a }) mine in
    let one : g.opened ≡ 1 = ap (λ (q : Bool). if q then 1 else 0) (eq_self b.number) in
    step_on b b2 l l st Rest c c2 g num refl asked (still_visited c c2 (e.Opened b.number) c2.out a enters)
    (λ w. let h = weighs w in let m = attaches.gains w in let z = light w in omega (arith, h, m, z))
    (gained_one b.number c.entries c2.entries (e.Opened b.number) (ap (λ (v : CoreView). v.entries) enters) refl)
    (λ t old. told b b2 l l st Rest t (together t g) (Ok (q.Open number path)) (r.Size size) asked replies next
    (record { opened = omega (arith, one); served = omega arith; read = omega arith })
    (made l l st Rest t (together t g) 1 0 (omega arith) (omega (arith, unowed, asks)) (omega arith)) (subst_faults t.faults l.faults old.faults) (omega (arith, whole)) old)
    (rw (lone c.instance) (no_room c.block_size g refl refl refl))
    (λ i other. rw (lone i) (shrinks_same no_shares))
    (plain_grows (full_in st) c c2 none (plain_one c.entries c2.entries (e.Opened b.number) (ap (λ (v : CoreView). v.entries) enters) refl))
    (fresh_attached c c2 n now stay attaches) tt

-- the file is closed
pub closed_step : (b b2 : BookView) (l : LineView) (c c2 : CoreView) (number now : ℕ) (stay : Mark) → IsNext b (Ok (q.Close number)) → stay.client ≡ b.number → Detaches c now stay c2 →
    ((w : Mark → ℕ) → open_weight w b2.stays + w stay ≡ open_weight w b.stays) → b2.number ≡ b.number → b2.asked ≡ b.asked → b2.replies ≡ b.replies ++ r.Closed ∷ [] →
    Step b l (Closing number) c b2 l st.Closed c2
closed_step b b2 l c c2 number now stay next mine detaches weighs num asked replies =
    let g : Tally = gain b.number (owners c.entries) (e.Closed b.number) in
    let a : AccessView = go_out now c2.out c.access in
    let enters : c2 ≡ record (entered c (e.Closed b.number) c2.out) { access = a } = detaches.enters ∙ ap (λ (m : ℕ). record (entered c (e.Closed m) c2.out) { access = a }) mine in
    step_on b b2 l l (Closing number) st.Closed c c2 g num refl asked (still_visited c c2 (e.Closed b.number) c2.out a enters)
    (λ w. let h = weighs w in let m = detaches.loses w in omega (arith, h, m))
    (gained_one b.number c.entries c2.entries (e.Closed b.number) (ap (λ (v : CoreView). v.entries) enters) refl)
    (λ t old. told b b2 l l (Closing number) st.Closed t (together t g) (Ok (q.Close number)) r.Closed asked replies next
    (record { opened = omega arith; served = omega arith; read = omega arith })
    (made l l (Closing number) st.Closed t (together t g) 0 0 (omega arith) (omega arith) (omega arith)) (subst_faults t.faults l.faults old.faults) (omega arith) old)
    (no_room c.block_size g refl refl refl)
    (λ i other. shrinks_same no_shares)
    (plain_one c.entries c2.entries (e.Closed b.number) (ap (λ (v : CoreView). v.entries) enters) refl)
    (fresh_lost c c2 stay detaches.loses) tt

-- the file is closed without a reply
pub shut_step : (b b2 : BookView) (l : LineView) (c c2 : CoreView) (now : ℕ) (stay : Mark) → stay.client ≡ b.number → Detaches c now stay c2 → ((w : Mark → ℕ) → open_weight w b2.stays + w stay ≡ open_weight w b.stays) →
    b2.number ≡ b.number → b2.asked ≡ b.asked → b2.replies ≡ b.replies → Step b l Rest c b2 l Rest c2
shut_step b b2 l c c2 now stay mine detaches weighs num asked replies =
    let g : Tally = gain b.number (owners c.entries) (e.Closed b.number) in
    let a : AccessView = go_out now c2.out c.access in
    let enters : c2 ≡ record (entered c (e.Closed b.number) c2.out) { access = a } = detaches.enters ∙ ap (λ (m : ℕ). record (entered c (e.Closed m) c2.out) { access = a }) mine in
    step_on b b2 l l Rest Rest c c2 g num refl asked (still_visited c c2 (e.Closed b.number) c2.out a enters)
    (λ w. let h = weighs w in let m = detaches.loses w in omega (arith, h, m))
    (gained_one b.number c.entries c2.entries (e.Closed b.number) (ap (λ (v : CoreView). v.entries) enters) refl)
    (λ t old. quiet b b2 l l Rest Rest t (together t g) asked replies (omega arith) (omega arith) (omega arith) (made l l Rest Rest t (together t g) 0 0 (omega arith) (omega arith) (omega arith))
    (subst_faults t.faults l.faults old.faults) (omega arith) old)
    (no_room c.block_size g refl refl refl)
    (λ i other. shrinks_same no_shares)
    (plain_one c.entries c2.entries (e.Closed b.number) (ap (λ (v : CoreView). v.entries) enters) refl)
    (fresh_lost c c2 stay detaches.loses) tt
