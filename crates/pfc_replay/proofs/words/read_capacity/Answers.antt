use Rattle.std.proofs.Common.{arith}
use Rattle.pfc_replay.specs.Words.{capacity_of}
use Rattle.pfc_replay.proofs.Capacities.{capacity-none, capacity-some, capacity-low, capacity-high}
use Rattle.pfc_replay.proofs.words.read_capacity.Goals as goal

pub returns-in-None : goal.returns-in-None
unfolding capacity_of
returns-in-None c = capacity-none _ c.in-None.ensures

pub returns-then-n-lt1000 : goal.returns-then-n-lt1000
unfolding capacity_of
returns-then-n-lt1000 c = capacity-low _ c.in-Some.n c.in-Some.ensures c.if-n-lt1000.true

pub returns-then-n-gt4611686018427387904 : goal.returns-then-n-gt4611686018427387904
unfolding capacity_of
returns-then-n-gt4611686018427387904 c = capacity-high _ c.in-Some.n c.in-Some.ensures c.if-n-gt4611686018427387904.true

pub returns-else-n-gt4611686018427387904 : goal.returns-else-n-gt4611686018427387904
unfolding capacity_of
returns-else-n-gt4611686018427387904 c = capacity-some _ c.in-Some.n c.in-Some.ensures (omega (arith, c.if-n-lt1000.false)) (omega (arith, c.if-n-gt4611686018427387904.false))
