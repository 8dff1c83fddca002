use Rattle.std.proofs.Common.{rules, ap, arith}
use Rattle.pfc_budget.specs.Rule.{pending_of, places_of, limit_of}
use Rattle.pfc_budget.proofs.Keeps.{claims, withdraws}
use Rattle.pfc_budget.proofs.seat.Seat.claim.Goals as goal

pub fetch_add-found-requires : goal.fetch_add-found-requires
fetch_add-found-requires c = (
  search rules,
  search rules,
  claims _ _ _ _ c.self.invariant.counts _ (ap pending_of c.self.invariant.knows) c.requires.1,
)

pub fetch_sub-requires : goal.fetch_sub-requires
fetch_sub-requires c =
    let limit = ap limit_of c.self.invariant.knows in let over = c.if-fits.false in
    let full = c.fetch_add-found.ensures.2.full (omega arith) in let live = c.self.invariant.counts in let same = ap places_of full in (
      search rules,
      search rules,
      withdraws _ _ _ _ (omega arith) _ (ap pending_of full),
    )
