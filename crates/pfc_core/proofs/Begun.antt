-- A core as it begins.
use Rattle.std.proofs.Common.{List, [], refl, arith, Bool, false}
use Rattle.pfc_log.specs.declared.entry.Uncached.{Uncached}
use Rattle.pfc_log.specs.declared.start.Start.{Start}
use Rattle.pfc_log.specs.declared.start.Start.TheVariants.{Stored}
use Rattle.pfc_log.specs.declared.start.Start.TheVariants as start
use Rattle.pfc_core.specs.Kept.{IsHeld, AreIn, AreFound, AreSaid}

pub new_held : (first : Start) → IsHeld first [] 0 [] []
new_held first = record {
  well = record { lawful = record { rows = λ p e at. absurd cc }; is_on = refl; begun_is = refl };
  tied = record { fine = λ i. refl; unique = λ i j t a b. absurd cc; once = λ t. omega arith; late = λ t low. refl; young = λ i t low. refl; at = λ i t low. absurd (omega arith); owed = λ i m t none. omega arith };
  alive = λ i. tt;
  owned = record { slot = λ i s at. absurd cc; pin = refl };
  saved = λ i. tt;
}

pub new_in : AreIn [] []
new_in = record { each = λ n. refl }

pub new_found : AreFound [] []
new_found = record { each = λ i n. omega arith }

pub new_said : (set : List Bool) → AreSaid (Stored set) [] (record { stored = set; durable = set; claimed = set; frozen = false })
new_said set = record { length_is = refl; long_is = refl; stored_is = λ i. refl; durable_is = λ i. refl; frozen_is = refl }

pub new_bare : (why : Uncached) → AreSaid (start.Uncached why) [] (record { stored = []; durable = []; claimed = []; frozen = false })
new_bare why = record { length_is = refl; long_is = refl; stored_is = λ i. refl; durable_is = λ i. refl; frozen_is = refl }
