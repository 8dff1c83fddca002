-- How a read ends.
use Rattle.std.specs.Prelude.{◌≡◌, ◌<◌, ◌≤◌, ◌+◌, ◌*◌, ◌==◌, ℕ, Bool, false, IsTrue, List, length, Option, Some, None, IsSomeAnd, sum_by}
use Rattle.pfc_log.specs.declared.entry.Fell.TheVariants.{Fault, Memory}
use Rattle.pfc_log.specs.declared.entry.Served.{Served}
use Rattle.pfc_log.specs.Tallies.{Tally, tally}
use Rattle.pfc_world.specs.Files.{Files, file_at}
use Rattle.pfc_span.specs.Pieces.{pieces_in, total_of, bytes_of}
use Rattle.pfc_core.specs.Finishes.{Finishes}
use Rattle.pfc_core.specs.Marks.{Mark, listed, sees}
use Rattle.pfc_core.specs.Access.{with_read}
use Rattle.pfc_core.specs.View.{CoreView}
use Rattle.pfc_read.specs.declared.action.Answer.{Answer}
use Rattle.pfc_read.specs.declared.action.Answer.TheVariants as answer
use Rattle.pfc_read.specs.OpView.{OpView, held}

-- how many bytes the read has, each piece cut at the file's end
abbrev pub op_len : OpView → ℕ
op_len op = total_of op.reading.size (pieces_in op.pieces)

-- the bytes of the pieces, one behind the other, and by where they came from, each within whole blocks
pub record IsData (told : Bool) (files : Files) (op : OpView) (bytes : List ℕ) (served : Served) : Type 0 where
  pub long : length bytes ≡ op_len op
  pub right : IsTrue told → IsSomeAnd (file_at files op.reading.path) (λ file. bytes ≡ bytes_of file (pieces_in op.pieces))
  pub sum : served.hit + served.missed + served.bypassed ≡ length bytes
  pub hit : served.hit ≤ op.reading.block_size * op.hits
  pub missed : served.missed ≤ op.reading.block_size * op.waits
  pub bypassed : served.bypassed ≤ op.reading.block_size * op.directs

-- the answer is what came first, and data with its pieces and the size that cuts them where nothing came; the origin fails
-- only where there are bytes to read
abbrev pub Answers : Bool → Files → OpView → Answer → Type 0
Answers told files op (answer.Bytes bytes pieces size served) = (op.met ≡ None) × (pieces ≡ op.pieces) × (size ≡ op.reading.size) × IsData told files op bytes.items served
Answers told files op answer.Fetch = (op.met ≡ Some Fault) × (0 < op_len op)
Answers told files op answer.Memory = op.met ≡ Some Memory

abbrev pub served_in : Answer → Option Served
served_in (answer.Bytes bytes pieces size served) = Some served
served_in answer.Fetch = None
served_in answer.Memory = None

-- one more read with data
abbrev pub with_served : Tally → Option Served → Tally
with_served t None = t
with_served t (Some s) = record t { served = t.served + 1; hit = t.hit + s.hit; missed = t.missed + s.missed; bypassed = t.bypassed + s.bypassed }

-- the core has all that the read holds
pub record Knows (v : CoreView) (op : OpView) : Type 0 where
  pub instance_is : op.reading.instance ≡ v.instance
  pub each : (m : Mark) → m.instance ≡ v.instance → held (sees m) op ≤ listed m v.out

-- what the end of a reading with these pins, and these rights to read from disk, changes
pub record GivesBack (old : CoreView) (reading : Mark) (pins disks : List Mark) (served : Option Served) (new : CoreView) : Type 0 where
  pub known : 0 < listed reading old.out → Finishes old reading pins disks served new
  pub strange : listed reading old.out ≡ 0 → new ≡ old
  pub unchanged : 0 < listed reading old.out → new ≡ record old { entries = new.entries; out = new.out; access = with_read served old.access }
  pub spends : 0 < listed reading old.out → ((m : Mark) → sees m reading + listed m pins + listed m disks ≤ listed m old.out) → (w : Mark → ℕ) → sum_by w new.out + w reading + sum_by w pins + sum_by w disks ≡ sum_by w old.out

-- the reading ends with its entry, and the pins and the rights to read from disk go back, in some order
pub record Closes (old : CoreView) (op : OpView) (served : Option Served) (new : CoreView) : Type 0 where
  pub pins : List Mark
  pub disks : List Mark
  pub same_pins : (w : Mark → ℕ) → sum_by w pins ≡ sum_by w op.pins
  pub same_disks : (w : Mark → ℕ) → sum_by w disks ≡ sum_by w op.disks
  pub finishes : Finishes old op.reading pins disks served new
  pub unchanged : new ≡ record old { entries = new.entries; out = new.out; access = with_read served old.access }
  pub mine : tally op.reading.client new.entries ≡ with_served (tally op.reading.client old.entries) served
  pub others : (m : ℕ) → (op.reading.client == m) ≡ false → tally m new.entries ≡ tally m old.entries

-- Nothing changes where the core doesn't know the reading. Where it has all that the read holds, all of it is taken back.
pub record EndsRead (old : CoreView) (op : OpView) (served : Option Served) (new : CoreView) : Type 0 where
  pub known : 0 < listed op.reading old.out → Closes old op served new
  pub strange : listed op.reading old.out ≡ 0 → new ≡ old
  pub lists : Knows old op → 0 < listed op.reading old.out
  pub spends : Knows old op → (w : Mark → ℕ) → sum_by w new.out + held w op ≡ sum_by w old.out
