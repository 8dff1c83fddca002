-- What a core's entries add to tallies, and a step on a core from that.
use Rattle.std.proofs.Common.{◌≡◌, ℕ, ◌+◌, ◌*◌, ◌≤◌, List, [], ◌∷◌, ◌++◌, refl, sym, ap, ◌∙◌, subst, arith, false}
use Rattle.std.specs.Prelude.{Some, ◌==◌, sum_by}
use Rattle.pfc_log.specs.declared.entry.Entry.{Entry}
use Rattle.pfc_log.specs.Owners.{owners, is_client}
use Rattle.pfc_log.specs.Tallies.{Tally, tally, together, gain, nothing, client_in}
use Rattle.pfc_log.proofs.Places.{eq_sym}
use Rattle.pfc_log.proofs.Tallied.{tally_more, tally_same, together_assoc, nothing_more}
use Rattle.pfc_core.specs.LineView.{LineView}
use Rattle.pfc_core.specs.Marks.{Mark}
use Rattle.pfc_core.specs.OpenJobs.{settled}
use Rattle.pfc_core.specs.Access.{AccessView}
use Rattle.pfc_core.specs.View.{CoreView}
use Rattle.pfc_actor.specs.Books.{BookView}
use Rattle.pfc_actor.specs.StageView.{StageView}
use Rattle.pfc_actor.specs.Stages.{Shares, shares, no_shares, weight}
use Rattle.pfc_actor.specs.Steps.{IsTallied, IsWithin, Shrinks, StaysFull, GrowsBy, Step, full_in}

-- the client's tally has so much more, and no other tally has
pub record Gained (n : ℕ) (es es2 : List Entry) (g : Tally) : Type 0 where
  pub mine : tally n es2 ≡ together (tally n es) g
  pub others : (m : ℕ) → (m == n) ≡ false → tally m es2 ≡ tally m es

pub gained_one : (n : ℕ) (es es2 : List Entry) (x : Entry) → es2 ≡ es ++ x ∷ [] → client_in (owners es) x ≡ Some n → Gained n es es2 (gain n (owners es) x)
gained_one n es es2 x e of = rw e (record {
  mine = tally_more n es x;
  others = λ m ne. tally_same m es x (ap (is_client m) of ∙ eq_sym m n ne);
})

pub gained_same : (n : ℕ) (es es2 : List Entry) → es2 ≡ es → Gained n es es2 nothing
gained_same n es es2 e = rw e (record { mine = sym (nothing_more (tally n es)); others = λ m ne. refl })

-- room for the shares, behind what was gained
pub record HasRoom (s s2 : Shares) (k : ℕ) (g : Tally) : Type 0 where
  pub hit : g.hit + k * s2.hits ≤ k * s.hits + k * g.hits
  pub missed : g.missed + k * s2.waits ≤ k * s.waits + k * g.waits
  pub bypassed : g.bypassed + k * s2.directs ≤ k * s.directs + k * g.directs

room_on : (k a b : ℕ) → k * (a + b) ≡ k * a + k * b
room_on k a b = grind arith

pub within_on : (s s2 : Shares) (k : ℕ) (t g : Tally) → HasRoom s s2 k g → IsWithin s k t → IsWithin s2 k (together t g)
within_on s s2 k t g room old = record {
  hit = let e = room_on k t.hits g.hits in omega (arith, e, room.hit, old.hit);
  missed = let e = room_on k t.waits g.waits in omega (arith, e, room.missed, old.missed);
  bypassed = let e = room_on k t.directs g.directs in omega (arith, e, room.bypassed, old.bypassed);
}

pub no_room : (k : ℕ) (g : Tally) → g.hit ≡ 0 → g.missed ≡ 0 → g.bypassed ≡ 0 → HasRoom no_shares no_shares k g
no_room k g hit missed bypassed = record { hit = omega (arith, hit); missed = omega (arith, missed); bypassed = omega (arith, bypassed) }

-- a core that changes by no more than this
pub still : (c c2 : CoreView) (a : AccessView) → c2 ≡ record c { entries = c2.entries; out = c2.out; access = a } → c2 ≡ record c { entries = c2.entries; out = c2.out; access = c2.access }
still c c2 a home = home ∙ ap (λ (x : AccessView). record c { entries = c2.entries; out = c2.out; access = x }) (sym (ap (λ (v : CoreView). v.access) home))

pub step_on : (b b2 : BookView) (l l2 : LineView) (st st2 : StageView) (c c2 : CoreView) (g : Tally) → b2.number ≡ b.number → l2.number ≡ l.number → b2.asked ≡ b.asked →
    c2 ≡ record c { entries = c2.entries; out = c2.out; access = c2.access } → ((w : Mark → ℕ) → weight w b2 st2 + sum_by w c.out ≡ weight w b st + sum_by w c2.out) → Gained b.number c.entries c2.entries g →
    ((t : Tally) → IsTallied b l st t → IsTallied b2 l2 st2 (together t g)) → HasRoom (shares c.instance st) (shares c.instance st2) c.block_size g →
    ((i : ℕ) → (i == c.instance) ≡ false → Shrinks (shares i st) (shares i st2)) → GrowsBy (full_in st) c c2 → sum_by (settled c2) c2.out ≤ sum_by (settled c2) c.out → StaysFull st st2 → Step b l st c b2 l2 st2 c2
step_on b b2 l l2 st st2 c c2 g number link asked home tokens gained tallied room elsewhere grows fresh full = record {
  number = number;
  link = link;
  asked = asked;
  home = home;
  tokens = tokens;
  tallied = λ rest old. subst (IsTallied b2 l2 st2) (sym (together_assoc rest (tally b.number c.entries) g) ∙ ap (together rest) (sym gained.mine)) (tallied (together rest (tally b.number c.entries)) old);
  within = λ old. subst (IsWithin (shares c.instance st2) c.block_size) (sym gained.mine) (within_on (shares c.instance st) (shares c.instance st2) c.block_size (tally b.number c.entries) g room old);
  elsewhere = elsewhere;
  grows = grows;
  fresh = fresh;
  full = full;
  others = gained.others;
}
