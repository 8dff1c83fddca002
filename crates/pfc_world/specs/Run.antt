-- What a device is now and was before each of its calls, and what was so since a moment.
use Rattle.std.specs.Prelude.{◌≡◌, ◌⊎◌, List, [], ◌∷◌, ◌++◌, ℕ, Any, All, length, drop}

-- a state, and those before it, the oldest first
pub record Run (S : Type 0) : Type 0 where
  pub now : S
  pub past : List S

-- the device's own clock
abbrev pub moment : {S : Type 0} → Run S → ℕ
moment run = length run.past

-- it is so now, or was so at that moment or later
abbrev pub WasSince : {S : Type 0} → (S → Type 0) → Run S → ℕ → Type 0
WasSince P run t = P run.now ⊎ Any P (drop t run.past)

-- One call. A device may also answer Fault before it did anything, and then no moment passes.
pub record Goes {S : Type 0} (call : S → S → Type 0) (old new : Run S) : Type 0 where
  pub time : (new.past ≡ old.past ++ old.now ∷ []) ⊎ (new ≡ old)
  pub does : call old.now new.now

-- from the moment of old on, up to new, each state has P
pub record Throughout {S : Type 0} (P : S → Type 0) (old new : Run S) : Type 0 where
  pub since : List S
  pub time : new.past ≡ old.past ++ since
  pub now : P new.now
  pub each : All P since
