use Rattle.pfc_catalog.proofs.Orders.{found-put, sum-put}
use Rattle.pfc_catalog.proofs.laws.a_put_changes_one_file.Goals as goal

pub returns-clause-found : goal.returns-clause-found
returns-clause-found c = found-put

pub returns-clause-sums : goal.returns-clause-sums
returns-clause-sums c = sum-put
