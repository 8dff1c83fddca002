-- Blocks that wait to be written, and what it means that a write queue was full.
use Rattle.std.specs.Prelude.{◌≡◌, ℕ, ◌<◌, not, Bool, true, false, List, [], ◌∷◌, ◌++◌, All, length, sum_by, slice_index_or}
use Rattle.pfc_log.specs.declared.entry.Entry.{Entry}
use Rattle.pfc_log.specs.declared.entry.Entry.TheVariants.{Wrote, Dropped}
use Rattle.pfc_log.specs.declared.entry.DropCause.{DropCause}
use Rattle.pfc_log.specs.declared.entry.DropCause.TheVariants as cause
use Rattle.pfc_log.specs.Views.{Place, Here, place, count_below}

-- a block in memory waits until it is written or dropped
abbrev pub is_waiting : Place → Bool
is_waiting (Here t done) = not done
is_waiting _ = false

-- how many blocks of a number below n wait
abbrev pub waiting : ℕ → List Entry → ℕ
waiting n es = count_below (λ i. is_waiting (place i es)) n

-- the entry ends no block's waiting
abbrev pub is_plain : Entry → Bool
is_plain (Wrote i) = false
is_plain (Dropped i why) = false
is_plain _ = true

-- the log grew by such entries alone
pub record GrowsPlainly (old new : List Entry) : Type 0 where
  pub more : List Entry
  pub is : new ≡ old ++ more
  pub plain : All (λ e. is_plain e ≡ true) more

abbrev pub is_frozen_cause : DropCause → Bool
is_frozen_cause cause.Frozen = true
is_frozen_cause _ = false

-- a writer came to an end with a block: it was written, or dropped since its store is frozen
abbrev pub is_worked : Entry → Bool
is_worked (Wrote i) = true
is_worked (Dropped i why) = is_frozen_cause why
is_worked _ = false

-- ---- a full queue

-- the second list of entries begins with the first
pub record Begins (old new : List Entry) : Type 0 where
  pub more : List Entry
  pub is : new ≡ old ++ more

-- Logs as they stood at an earlier moment. Those that come last may not have begun by then.
abbrev pub AreEarlier : List (List Entry) → List (List Entry) → Type 0
AreEarlier [] logs = Unit {0}
AreEarlier (old ∷ past) [] = ⊥
AreEarlier (old ∷ past) (log ∷ logs) = Begins old log × AreEarlier past logs

-- At an earlier moment block i waited in the log at place x, in memory by flight t, and beside it at least c other blocks in all
-- logs together.
pub record FoundFull (c x i t : ℕ) (logs : List (List Entry)) : Type 0 where
  pub past : List (List Entry)
  pub earlier : AreEarlier past logs
  pub low : x < length past
  pub waits : (d : List Entry) → place i (slice_index_or past x d) ≡ Here t false
  pub below : ℕ
  pub full : c < sum_by (waiting below) past

-- It did so, and was in memory by the same flight until these entries of its log.
pub record WasFull (c x i : ℕ) (before : List Entry) (logs : List (List Entry)) : Type 0 where
  pub flight : ℕ
  pub found : FoundFull c x i flight logs
  pub since : (d : List Entry) → Begins (slice_index_or found.past x d) before
  pub stays : place i before ≡ Here flight false
