-- What a token says, and lists of such marks, weighed.
use Rattle.std.specs.Prelude.{◌≡◌, ℕ, ◌+◌, ◌==◌, ◌&&◌, Bool, List, sum_by, if◌then◌else◌}
use Rattle.std.specs.Cmp.Lexicographic.{pointwise}

pub data Kind : Type 0 where
  StayKind : Kind
  ReadingKind : Kind
  TicketKind : Kind
  PinKind : Kind
  JobKind : Kind
  DiskKind : Kind
  LoanKind : Kind

abbrev pub kind_code : Kind → ℕ
kind_code StayKind = 0
kind_code ReadingKind = 1
kind_code TicketKind = 2
kind_code PinKind = 3
kind_code JobKind = 4
kind_code DiskKind = 5
kind_code LoanKind = 6

-- The core that gave it out, its number among those of its kind, whose it is, the file with its block size, the block and
-- the flight that it is about, and the client that began the flight. For a ticket and a job the number is the flight's; for a
-- loan the flight is how many entries the log had as it was lent, and the owner is 1 where it was lent for a turn.
pub record Mark : Type 0 where
  pub kind : Kind
  pub instance : ℕ
  pub number : ℕ
  pub client : ℕ
  pub path : List ℕ
  pub size : ℕ
  pub block_size : ℕ
  pub block : ℕ
  pub flight : ℕ
  pub owner : ℕ

-- whether two marks are one, whole
abbrev pub same : Mark → Mark → Bool
same m x = kind_code m.kind == kind_code x.kind && m.instance == x.instance && pointwise ◌==◌ m.path x.path && m.size == x.size && m.block_size == x.block_size && m.number == x.number && m.client == x.client && m.block == x.block && m.flight == x.flight && m.owner == x.owner

-- 1 where it is this mark
abbrev pub sees : Mark → Mark → ℕ
sees m x = if same m x then 1 else 0

-- how often the list has this mark
abbrev pub listed : Mark → List Mark → ℕ
listed m out = sum_by (sees m) out

-- new is old with m once more, in any order
abbrev pub Gains : List Mark → Mark → List Mark → Type 0
Gains old m new = (w : Mark → ℕ) → sum_by w new ≡ sum_by w old + w m

-- new is old without m once, in any order
abbrev pub Loses : List Mark → Mark → List Mark → Type 0
Loses old m new = (w : Mark → ℕ) → sum_by w new + w m ≡ sum_by w old

-- new is old with x in the place of m, in any order
abbrev pub Swaps : List Mark → Mark → Mark → List Mark → Type 0
Swaps old m x new = (w : Mark → ℕ) → sum_by w new + w m ≡ sum_by w old + w x
