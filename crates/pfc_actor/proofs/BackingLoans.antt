-- What stands beside a core, where its store is lent or comes back.
use Rattle.std.proofs.Common.{◌≡◌, ℕ, refl, sym, subst, Bool, true, false}
use Rattle.std.specs.Prelude.{Option, Some, None, IsSome, MatchBool}
use Rattle.pfc_core.specs.View.{CoreView}
use Rattle.pfc_world.specs.Info.{Info}
use Rattle.pfc_world.specs.Run.{Run}
use Rattle.pfc_writer.specs.Writer.{Task}
use Rattle.pfc_actor.specs.declared.backing.Held.{Held}
use Rattle.pfc_actor.specs.declared.backing.Held.TheVariants as held
use Rattle.pfc_actor.specs.Backings.{LoanStep}
use Rattle.pfc_actor.specs.Standings.{backing_of, GivenBy, LentBy}
use Rattle.pfc_actor.proofs.Backings.{give_step, lend_step, step_none}

module _ {W D I : Type 0} (c c2 : CoreView) (faults : D → ℕ) (counts : I → ℕ) (told : Bool) (shown : I → Run Info) (p : ℕ × ℕ) (u : ℕ) where
  same_step : (h h2 : Held W D I) → (c2 ≡ c) × (h2 ≡ h) → LoanStep c (backing_of faults counts told shown h p u) c2 (backing_of faults counts told shown h2 p u)
  same_step h h2 is =
      subst (λ (v : CoreView). LoanStep c (backing_of faults counts told shown h p u) v (backing_of faults counts told shown h2 p u)) (sym is.0)
      (subst (λ (x : Held W D I). LoanStep c (backing_of faults counts told shown h p u) c (backing_of faults counts told shown x p u)) (sym is.1)
      (step_none c (backing_of faults counts told shown h p u)))

  lent_step : (h h2 : Held W D I) → LentBy c h c2 h2 → LoanStep c (backing_of faults counts told shown h p u) c2 (backing_of faults counts told shown h2 p u)
  lent_step held.Bare h2 is = absurd is
  lent_step (held.Taken v) h2 is = absurd is
  lent_step (held.Lent l) h2 is = absurd is
  lent_step (held.Open s) held.Bare is = absurd is
  lent_step (held.Open s) (held.Taken v) is = absurd is
  lent_step (held.Open s) (held.Open x) is = absurd is
  lent_step (held.Open s) (held.Lent l) is = lend_step c c2 s l faults counts told shown p u is.aim is.for_turn is.lends is.of

  given_step : (h h2 : Held W D I) → GivenBy c h c2 h2 → LoanStep c (backing_of faults counts told shown h p u) c2 (backing_of faults counts told shown h2 p u)
  given_step held.Bare h2 is = absurd is
  given_step (held.Taken v) h2 is = absurd is
  given_step (held.Open s) h2 is = absurd is
  given_step (held.Lent l) held.Bare is = absurd is
  given_step (held.Lent l) (held.Taken v) is = absurd is
  given_step (held.Lent l) (held.Lent x) is = absurd is
  given_step (held.Lent l) (held.Open s) is = give_step c c2 s l faults counts told shown p u is.0 is.1 is.2

  pub lends_or_not : (h h2 : Held W D I) (q : Bool) → MatchBool q (LentBy c h c2 h2) ((c2 ≡ c) × (h2 ≡ h)) → LoanStep c (backing_of faults counts told shown h p u) c2 (backing_of faults counts told shown h2 p u)
  lends_or_not h h2 true is = lent_step h h2 is
  lends_or_not h h2 false is = same_step h h2 is

  pub gives_or_not : (h h2 : Held W D I) (q : Bool) → MatchBool q (GivenBy c h c2 h2) ((c2 ≡ c) × (h2 ≡ h)) → LoanStep c (backing_of faults counts told shown h p u) c2 (backing_of faults counts told shown h2 p u)
  gives_or_not h h2 true is = given_step h h2 is
  gives_or_not h h2 false is = same_step h h2 is

-- what holds of a writer's task, where it has one
pub with_task : {P : Type 0} (o : Option Task) → IsSome o → ((task : Task) → o ≡ Some task → P) → P
with_task None some of_task = absurd cc
with_task (Some task) some of_task = of_task task refl
