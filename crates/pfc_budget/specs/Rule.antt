-- The rule of a budget, and what each kind of step tells.
use Rattle.std.specs.Prelude.{◌≡◌, ℕ, ◌+◌, ◌-◌, ◌*◌, ◌^◌, ◌<◌, ◌≤◌, List, [], ◌∷◌, length, slice_index}
use mathlib.Core.Option.{some}
use lib.ListN.{get_elem?}
use Rattle.atomic_table.specs.Table.{State, Me, Step}
use Rattle.pfc_budget.specs.declared.rule.View.{View}

abbrev pub view : ℕ → ℕ → ℕ → ℕ → View
view limit held pending places = record { limit = limit; held = held; pending = pending; places = places }

abbrev pub total : (View → ℕ) → List View → ℕ
total f [] = 0
total f (v ∷ vs) = f v + total f vs

abbrev pub limit_of : View → ℕ
limit_of v = v.limit

abbrev pub held_of : View → ℕ
held_of v = v.held

abbrev pub pending_of : View → ℕ
pending_of v = v.pending

abbrev pub places_of : View → ℕ
places_of v = v.places

-- a seat that wasn't joined to another has the budget's limit, a joined one holds nothing and has nothing pending
pub record Fits (limit : ℕ) (v : View) : Type 0 where
  pub one_limit : 0 < v.places → v.limit ≡ limit
  pub small : v.pending ≤ 16777216
  pub spent : v.places ≡ 0 → (v.held ≡ 0) × (v.pending ≡ 0)

-- the word is what all seats hold and have pending, and what they hold is at most the limit
pub record IsBudget (limit : ℕ) (s : State (Unit {0}) View) : Type 0 where
  pub one_word : length s.words ≡ 1
  pub word : slice_index s.words 0 ≡ total held_of s.views + total pending_of s.views
  pub within : total held_of s.views ≤ limit
  pub bounded : limit ≤ 2 ^ 60
  pub seats : total places_of s.views ≡ 65537
  pub each : (k : ℕ) (v : View) → get_elem? s.views k ≡ some v → Fits limit v

-- a seat as its steps see it: its view, and the slots that it holds, which are none
abbrev pub Sitter : Type 0
Sitter = Me (Unit {0}) View

-- what a word says to a seat: at least what it holds, and exactly that where it is the only seat
pub record Shows (v : View) (found : ℕ) : Type 0 where
  pub own : v.held ≤ found
  pub within : v.held ≤ v.limit
  pub most : found ≤ v.limit + 16777216 * (65537 - v.places)
  pub alone : v.places ≡ 65537 → found ≡ v.held

-- the step of a claim: the bytes are held where they fit, and else pending
pub record Claimed (st : Step (Unit {0})) (m : Sitter) (found : ℕ) (m' : Sitter) : Type 0 where
  pub shows : Shows m.0 found
  pub fits : found + st.first ≤ m.0.limit → m'.0 ≡ view m.0.limit (m.0.held + st.first) 0 m.0.places
  pub full : m.0.limit < found + st.first → m'.0 ≡ view m.0.limit m.0.held st.first m.0.places
  pub slots : m'.1 ≡ m.1

abbrev pub Withdrawn : Step (Unit {0}) → Sitter → ℕ → Sitter → Type 0
Withdrawn st m found m' = (m'.0 ≡ view m.0.limit m.0.held 0 m.0.places) × (m'.1 ≡ m.1)

abbrev pub Given : Step (Unit {0}) → Sitter → ℕ → Sitter → Type 0
Given st m found m' = (m'.0 ≡ view m.0.limit (m.0.held - st.first) 0 m.0.places) × (m'.1 ≡ m.1)

abbrev pub Loaded : Step (Unit {0}) → Sitter → ℕ → Sitter → Type 0
Loaded st m found m' = (m' ≡ m) × Shows m.0 found

-- a split: the seat keeps what it has, but for one place, and the new one has that place alone
abbrev pub keeper : View → View
keeper v = view v.limit v.held v.pending (v.places - 1)

abbrev pub newcomer : View → View
newcomer v = view v.limit 0 0 1

-- a join
abbrev pub joined : View → View → View
joined v w = view v.limit (v.held + w.held) v.pending (v.places + w.places)
