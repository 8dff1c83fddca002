use Rattle.std.proofs.Common.{◌∙◌, sym, ap}
use Rattle.std.specs.Option.{is_some}
use Rattle.pfc_core.specs.Kept.{view_of}
use Rattle.pfc_core.specs.Turns.{IsSettled}
use Rattle.pfc_core.specs.View.{CoreView, why_of}
use Rattle.pfc_core.proofs.Lent.{match_of}
use Rattle.pfc_core.proofs.Said.{thawed_is}
use Rattle.pfc_core.proofs.Lent.{cached_of}
use Rattle.pfc_core.proofs.Turned.{claimed_all, claimed_not}
use Rattle.pfc_core.proofs.file.FileCore.settled.Goals as goal

pub returns : goal.returns
returns g c = let s = c.self.inside in let was = c.self.invariant in
    rw (← c.self.view_is) (match_of c.are_claimed.result (IsSettled (view_of s)) (IsSettled (view_of s) → ⊥)
    (λ yes cached cold. claimed_all _ _ s.sets _ _ _ was.said was.turns (c.are_claimed.ensures.0 yes))
    (λ off all. claimed_not _ _ s.sets _ _ _ was.said was.turns (λ same. let yes = c.are_claimed.ensures.1 same in cc) (all (cached_of s.log.first (c.if-is_some.ensures ∙ ap is_some (c.uncached.ensures ∙ sym (ap (λ (v : CoreView). why_of v.first) c.self.view_is)))) (thawed_is _ _ s.sets was.said (sym c.if-is_frozen.ensures)))))
