-- Whose a flight is. Flights are numbered by their begins, so the owner of flight t is the client of begin number t.
use Rattle.std.specs.Prelude.{ℕ, ◌+◌, ◌==◌, Bool, false, if◌then◌else◌, List, [], ◌∷◌, ◌++◌, fold, slice_get, Option, Some, None}
use Rattle.pfc_log.specs.declared.entry.Entry.{Entry}
use Rattle.pfc_log.specs.declared.entry.Entry.TheVariants.{Begin, Landed, Failed}
use Rattle.pfc_log.specs.declared.entry.Fell.TheVariants.{Fault, Memory}

abbrev pub owning : List ℕ → Entry → List ℕ
owning ns (Begin t i n) = ns ++ n ∷ []
owning ns _ = ns

-- the clients of the begins, in their order
abbrev pub owners : List Entry → List ℕ
owners es = fold owning [] es

-- the client that began flight t
abbrev pub owner : ℕ → List Entry → Option ℕ
owner t es = slice_get (owners es) t

abbrev pub is_client : ℕ → Option ℕ → Bool
is_client n None = false
is_client n (Some m) = m == n

-- how many entries pass a test that sees the owners of the flights begun before them
abbrev pub count_after : (List ℕ → Entry → Bool) → List ℕ → List Entry → ℕ
count_after p ns [] = 0
count_after p ns (e ∷ es) = (if p ns e then 1 else 0) + count_after p (owning ns e) es

abbrev pub is_landed_of : ℕ → List ℕ → Entry → Bool
is_landed_of n ns (Landed t) = is_client n (slice_get ns t)
is_landed_of n ns _ = false

-- how many flights of client n landed
abbrev pub landed_of : ℕ → List Entry → ℕ
landed_of n es = count_after (is_landed_of n) [] es

abbrev pub is_fault_of : ℕ → List ℕ → Entry → Bool
is_fault_of n ns (Failed t Fault) = is_client n (slice_get ns t)
is_fault_of n ns _ = false

-- how many flights of client n failed by a fault
abbrev pub faults_of : ℕ → List Entry → ℕ
faults_of n es = count_after (is_fault_of n) [] es

abbrev pub is_want_of : ℕ → List ℕ → Entry → Bool
is_want_of n ns (Failed t Memory) = is_client n (slice_get ns t)
is_want_of n ns _ = false

-- how many flights of client n failed for want of memory
abbrev pub wants_of : ℕ → List Entry → ℕ
wants_of n es = count_after (is_want_of n) [] es
