use Rattle.std.proofs.Common.{◌∙◌, ℕ, ◌-◌, ◌<◌, ◌≤◌, Option, sym, subst, ap, inl, inr, arith}
use Rattle.std.specs.Prelude.{nat_lt, IfSome}
use Rattle.std.specs.Option.{is_some}
use Rattle.pfc_log.specs.Lawful.{IsCached, IsUnfrozen}
use Rattle.pfc_core.specs.Kept.{view_of}
use Rattle.pfc_core.specs.Turns.{AreClaimed, NeedsSync}
use Rattle.pfc_core.specs.View.{CoreView, why_of}
use Rattle.pfc_core.proofs.Lent.{cached_of, match_of}
use Rattle.pfc_core.proofs.Said.{thawed_is}
use Rattle.pfc_core.proofs.Turned.{above_of, below_of, claimed_all, claimed_not, none_at_all, none_due, visit_due}
use Rattle.pfc_core.proofs.file.FileCore.needs_sync.Goals as goal

pub returns-then-not-are_claimed : goal.returns-then-not-are_claimed
returns-then-not-are_claimed g c = let s = c.self.inside in let was = c.self.invariant in
    let cached : IsCached s.log.first = cached_of s.log.first (c.if-is_some.ensures ∙ ap is_some (c.uncached.ensures ∙ sym (ap (λ (v : CoreView). why_of v.first) c.self.view_is))) in
    let cold : IsUnfrozen s.log.entries = thawed_is _ _ s.sets was.said (sym c.if-is_frozen.ensures) in
    rw (← c.self.view_is) (record { cached = cached; unfrozen = cold; due = inl (claimed_not _ _ s.sets _ _ _ was.said was.turns (λ same. let yes = c.if-not-are_claimed.ensures.1 same in cc)) })

pub returns-in-None : goal.returns-in-None
returns-in-None g c = let s = c.self.inside in let was = c.self.invariant in
    let cached : IsCached s.log.first = cached_of s.log.first (c.if-is_some.ensures ∙ ap is_some (c.uncached.ensures ∙ sym (ap (λ (v : CoreView). why_of v.first) c.self.view_is))) in
    let cold : IsUnfrozen s.log.entries = thawed_is _ _ s.sets was.said (sym c.if-is_frozen.ensures) in
    let all : AreClaimed s.log.first s.log.entries = claimed_all _ _ s.sets _ _ _ was.said was.turns (c.are_claimed.ensures.0 c.if-not-are_claimed.false) in
    rw (← c.self.view_is) (match_of (nat_lt 0 s.visited) (NeedsSync (view_of s)) (NeedsSync (view_of s) → ⊥)
    (λ above. let some : 0 < s.visited = above_of 0 s.visited above in record {
      cached = cached;
      unfrozen = cold;
      due = inr (visit_due _ _ s.sets _ _ s.visited was.said was.turns (s.visited - 1) (omega (arith, some)) (subst (λ (o : Option ℕ). IfSome o (λ q. q ≤ s.visited - 1)) (sym c.in-None.is ∙ was.turns.claim_is) tt));
    })
    (λ below needs. elim needs.due [
      | inl not ↦ not all
      | inr due ↦ none_at_all _ _ s.sets _ _ s.visited was.said was.turns (let low = below_of 0 s.visited below in omega (arith, low)) due
    ]))

pub returns-in-Some : goal.returns-in-Some
returns-in-Some g c = let s = c.self.inside in let was = c.self.invariant in
    let cached : IsCached s.log.first = cached_of s.log.first (c.if-is_some.ensures ∙ ap is_some (c.uncached.ensures ∙ sym (ap (λ (v : CoreView). why_of v.first) c.self.view_is))) in
    let cold : IsUnfrozen s.log.entries = thawed_is _ _ s.sets was.said (sym c.if-is_frozen.ensures) in
    let at : ℕ = c.in-Some.at in
    let all : AreClaimed s.log.first s.log.entries = claimed_all _ _ s.sets _ _ _ was.said was.turns (c.are_claimed.ensures.0 c.if-not-are_claimed.false) in
    rw (← c.self.view_is) (match_of (nat_lt at s.visited) (NeedsSync (view_of s)) (NeedsSync (view_of s) → ⊥)
    (λ above. let some : at < s.visited = above_of at s.visited above in record {
      cached = cached;
      unfrozen = cold;
      due = inr (visit_due _ _ s.sets _ _ s.visited was.said was.turns (s.visited - 1) (omega (arith, some)) (subst (λ (o : Option ℕ). IfSome o (λ q. q ≤ s.visited - 1)) (sym c.in-Some.is ∙ was.turns.claim_is) (omega (arith, some))));
    })
    (λ below needs. elim needs.due [
      | inl not ↦ not all
      | inr due ↦ none_due _ _ s.sets _ _ s.visited was.said was.turns at (below_of at s.visited below) c.in-Some.is due
    ]))
