-- How many pins there are.
use Rattle.std.specs.Prelude.{ℕ, Bool, ◌==◌, ◌&&◌, List, count_by}
use Rattle.pfc_core.specs.declared.held.Held.{Held}

abbrev pub is_on : ℕ → ℕ → Held → Bool
is_on i t p = p.block == i && p.flight == t

abbrev pub is_wait : ℕ → ℕ → ℕ → Held → Bool
is_wait i n t p = p.block == i && p.flight == t && p.client == n

-- pins on flight t of block i
abbrev pub on : ℕ → ℕ → List Held → ℕ
on i t pins = count_by (is_on i t) pins

-- those of client n
abbrev pub waits : ℕ → ℕ → ℕ → List Held → ℕ
waits i n t pins = count_by (is_wait i n t) pins

abbrev pub is_guest : ℕ → Held → Bool
is_guest n p = p.client == n
