-- Counts of calls and of faults, which stay at 2 ^ 64 - 1 once they stand there.
use Rattle.std.specs.Prelude.{ℕ, ◌+◌, ◌-◌, ◌^◌, ◌<◌, ◌≤◌, ◌⊎◌, ◌==◌, if◌then◌else◌, min, max, Result, Ok, Err}
use Rattle.std.proofs.Common.{arith}
use Rattle.pfc_world.specs.declared.refusal.Refusal.{Refusal}
use Rattle.pfc_world.specs.declared.refusal.Refusal.TheVariants.{Fault, Memory}

abbrev pub last_count : ℕ
last_count = 2 ^ 64 - 1

-- the sum, or the last count where it is past that. The `max` changes nothing at counts of 64 bits, and
-- says of every number that it doesn't fall.
abbrev pub add_count : ℕ → ℕ → ℕ
add_count a b = max a (min (a + b) last_count)

-- how far a count rose from one value to another; at its last value it may stand for any rise
abbrev pub rise : ℕ → ℕ → ℕ
rise before after = if after == last_count then last_count else after - before

-- rose, or stands at its last value
abbrev pub Rose : ℕ → ℕ → Type 0
Rose before after = (before < after) ⊎ (last_count ≤ after)

-- rose by at least so many, or stands at its last value
abbrev pub RoseBy : ℕ → ℕ → ℕ → Type 0
RoseBy before n after = (before + n ≤ after) ⊎ (last_count ≤ after)

-- neither rose nor stands at its last value
abbrev pub Stayed : ℕ → ℕ → Type 0
Stayed before after = (after ≤ before) × (after < last_count)

-- a count never falls, and an Err comes only where it rose
abbrev pub HasCause : {T E : Type 0} → ℕ → ℕ → Result T E → Type 0
HasCause before after (Ok x) = before ≤ after
HasCause before after (Err e) = (before ≤ after) × Rose before after

-- a count never falls, and a refusal that is no want of memory comes only where it rose
abbrev pub RefusalCause : {T : Type 0} → ℕ → ℕ → Result T Refusal → Type 0
RefusalCause before after (Ok x) = before ≤ after
RefusalCause before after (Err Fault) = (before ≤ after) × Rose before after
RefusalCause before after (Err Memory) = before ≤ after

-- a count that stayed did not rise
pub stayed-rose : (before after : ℕ) → Rose before after → Stayed before after → ⊥
stayed-rose before after rose stayed = grind (arith, rose, stayed)
