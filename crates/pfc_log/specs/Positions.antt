-- Places in a log. The place of an entry is the number of entries before it.
use Rattle.std.specs.Prelude.{◌≡◌, ℕ, ◌<◌, ◌==◌, ⊤, Bool, true, false, List, slice_get, Some}
use Rattle.pfc_log.specs.declared.entry.Entry.{Entry}
use Rattle.pfc_log.specs.declared.entry.Entry.TheVariants.{Opened, Closed, Begin, Join, Hit, Direct, Landed, Dropped, Wrote, Left, Synced, Claimed, Frozen, WrittenOff, Served}
use Rattle.pfc_log.specs.declared.entry.Uncached.{Uncached}
use Rattle.pfc_log.specs.declared.entry.Way.TheVariants as way
use Rattle.pfc_log.specs.Views.{is_ended}

abbrev pub StandsAt : List Entry → ℕ → Entry → Type 0
StandsAt es p e = slice_get es p ≡ Some e

-- no entry behind place p passes the test
pub record NoneAfter (test : Entry → Bool) (es : List Entry) (p : ℕ) : Type 0 where
  pub none : (q : ℕ) (e : Entry) → p < q → StandsAt es q e → test e ≡ false

-- some entry behind place p passes the test
pub record SomeAfter (test : Entry → Bool) (es : List Entry) (p : ℕ) : Type 0 where
  pub at : ℕ
  pub entry : Entry
  pub behind : p < at
  pub stands : StandsAt es at entry
  pub passes : test entry ≡ true

-- flight t of block i began at place p for client n, and neither landed nor failed since
pub record IsOutSince (es : List Entry) (i t n p : ℕ) : Type 0 where
  pub begun : StandsAt es p (Begin t i n)
  pub out : NoneAfter (is_ended t) es p

-- flight t of block i began before place p
pub record BeganBefore (es : List Entry) (i t p : ℕ) : Type 0 where
  pub at : ℕ
  pub client : ℕ
  pub before : at < p
  pub stands : StandsAt es at (Begin t i client)

-- block i left
abbrev pub is_left : ℕ → Entry → Bool
is_left i (Left j) = j == i
is_left i _ = false

-- block i was written or dropped
abbrev pub is_done : ℕ → Entry → Bool
is_done i (Wrote j) = j == i
is_done i (Dropped j why) = j == i
is_done i _ = false

-- block i came by flight t, which landed at place p, and hasn't left since
pub record IsInSince (es : List Entry) (i t p : ℕ) : Type 0 where
  pub landed : StandsAt es p (Landed t)
  pub begun : BeganBefore es i t p
  pub stays : NoneAfter (is_left i) es p

-- block i was written or dropped behind place p, or it wasn't
abbrev pub IsDoneSince : Bool → List Entry → ℕ → ℕ → Type 0
IsDoneSince true es i p = SomeAfter (is_done i) es p
IsDoneSince false es i p = NoneAfter (is_done i) es p

-- a `wrote` of block i stands
pub record IsWritten (es : List Entry) (i : ℕ) : Type 0 where
  pub at : ℕ
  pub stands : StandsAt es at (Wrote i)

-- a `wrote` of block i stands before a `synced`
pub record IsSynced (es : List Entry) (i : ℕ) : Type 0 where
  pub at : ℕ
  pub sync : ℕ
  pub before : at < sync
  pub stands : StandsAt es at (Wrote i)
  pub synced : StandsAt es sync Synced

-- flight t began before place p
pub record IsBegun (es : List Entry) (t p : ℕ) : Type 0 where
  pub block : ℕ
  pub begun : BeganBefore es block t p

-- flight t landed or failed between two places
pub record EndsBetween (es : List Entry) (t p q : ℕ) : Type 0 where
  pub at : ℕ
  pub entry : Entry
  pub behind : p < at
  pub before : at < q
  pub stands : StandsAt es at entry
  pub ends : is_ended t entry ≡ true

-- what may stand in a log that starts uncached for this cause
abbrev pub IsOfUncached : Uncached → Entry → Type 0
IsOfUncached why (Opened n) = ⊤
IsOfUncached why (Closed n) = ⊤
IsOfUncached why (Served n served) = ⊤
IsOfUncached why (Direct i n cause) = cause ≡ way.Uncached why
IsOfUncached why _ = ⊥

-- what may stand behind `written_off`
abbrev pub IsOfOff : Entry → Type 0
IsOfOff (Begin t i n) = ⊥
IsOfOff (Join t i n) = ⊥
IsOfOff (Hit i spot n) = ⊥
IsOfOff (Wrote i) = ⊥
IsOfOff Synced = ⊥
IsOfOff (Claimed p c) = ⊥
IsOfOff Frozen = ⊥
IsOfOff WrittenOff = ⊥
IsOfOff _ = ⊤
