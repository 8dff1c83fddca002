-- How a read ends.
use Rattle.std.proofs.Common.{◌≡◌, ℕ, zero, suc, ◌+◌, ◌*◌, ◌≤◌, ◌<◌, List, [], ◌∷◌, ◌++◌, length, refl, sym, ap, ◌∙◌, subst, arith, Bool, false}
use Rattle.std.specs.Prelude.{Option, Some, None, Ok, ◌==◌, if◌then◌else◌, IsTrue, IsSomeAnd}
use Rattle.pfc_span.specs.declared.pieces.Pieces.{Pieces}
use Rattle.pfc_span.specs.declared.pieces.Pieces.TheVariants as pieces
use Rattle.pfc_span.specs.Pieces.{pieces_in, asked_of, total_of, bytes_of}
use Rattle.pfc_world.specs.Files.{Files, file_at, HasSize}
use Rattle.pfc_log.specs.declared.entry.Served.{Served}
use Rattle.pfc_log.specs.Tallies.{Tally, tally, together, nothing}
use Rattle.pfc_log.proofs.Places.{eq_sym}
use Rattle.pfc_log.proofs.Tallied.{nothing_more}
use Rattle.pfc_client.specs.declared.reply.Reply.{Reply}
use Rattle.pfc_client.specs.declared.reply.Reply.TheVariants as r
use Rattle.pfc_client.specs.declared.request.Request.TheVariants as q
use Rattle.pfc_client.specs.Permitted.{Plain, Permits, files_of, most_bytes}
use Rattle.pfc_client.specs.Session.{place_at}
use Rattle.pfc_client.specs.Told.{is_size, is_data, bytes_in, lost_at}
use Rattle.pfc_client.specs.Replies.{reply_with}
use Rattle.pfc_client.proofs.Permitting.{read-fetch, read-gives, data-permitted, bytes-in-cut}
use Rattle.pfc_core.specs.LineView.{LineView}
use Rattle.pfc_core.specs.Marks.{Mark}
use Rattle.pfc_core.specs.View.{CoreView}
use Rattle.pfc_read.specs.Ends.{EndsRead, IsData, op_len, with_served}
use Rattle.pfc_read.specs.Ends as ends
use Rattle.pfc_read.specs.OpView.{OpView}
use Rattle.pfc_actor.specs.Books.{BookView, IsNext, file_in}
use Rattle.pfc_actor.specs.StageView.{Rest, Ending}
use Rattle.pfc_actor.specs.Steps.{Step, Knows}
use Rattle.pfc_actor.proofs.Entering.{Gained, still}
use Rattle.pfc_actor.proofs.Growing.{quiet_plainly}
use Rattle.pfc_actor.proofs.Calm.{quiet_ended}
use Rattle.pfc_core.specs.Access.{with_read}
use Rattle.pfc_actor.proofs.Going.{EndsWith, ended_step, shares_here, none_more}
use Rattle.pfc_actor.proofs.Holding.{of_file}

abbrev pub served_gain : Served → Tally
served_gain s = record nothing { served = 1; hit = s.hit; missed = s.missed; bypassed = s.bypassed }

served_more : (t : Tally) (s : Served) → with_served t (Some s) ≡ together t (served_gain s)
served_more t s = rw (none_more t.opened, none_more t.hits, none_more t.waits, none_more t.directs, none_more t.landed, none_more t.faults, none_more t.wants) refl

-- the core has all that the read holds
reading_known : (b : BookView) (op : OpView) (c : CoreView) → Knows b (Ending op) c → op.reading.instance ≡ c.instance → ends.Knows c op
reading_known b op c knows here = record { instance_is = here; each = λ m at. let k = knows.known m at in omega (arith, k) }

-- its reading is of the core's file
reading_blocks : (b : BookView) (op : OpView) (c : CoreView) → Knows b (Ending op) c → op.reading.instance ≡ c.instance → op.reading.block_size ≡ c.block_size
reading_blocks b op c knows here = (of_file b (Ending op) c op.reading knows here (omega arith)).block_size_is

its_tally : (b : BookView) (op : OpView) (c c2 : CoreView) (g : Tally) → op.reading.client ≡ b.number → tally op.reading.client c2.entries ≡ together (tally op.reading.client c.entries) g →
    ((m : ℕ) → (op.reading.client == m) ≡ false → tally m c2.entries ≡ tally m c.entries) → Gained b.number c.entries c2.entries g
its_tally b op c c2 g mine more others = record {
  mine = subst (λ (m : ℕ). tally m c2.entries ≡ together (tally m c.entries) g) mine more;
  others = λ m other. others m (eq_sym m op.reading.client (ap (λ (k : ℕ). m == k) mine ∙ other));
}

-- what the log gained tells of a reply with data
data_ends : (pieces : Pieces) (size : ℕ) (bytes : List ℕ) (s : Served) → length bytes ≡ total_of size (pieces_in pieces) → s.hit + s.missed + s.bypassed ≡ length bytes →
    EndsWith (reply_with pieces size bytes) (served_gain s)
data_ends (pieces.One piece) size bytes s long sum = record { size = refl; opened = refl; served = refl; read = sum; landed = refl; faults = refl; wants = refl; directs = refl }
data_ends (pieces.Vector list) size bytes s long sum = record { size = refl; opened = refl; served = refl; read = sum ∙ sym (bytes-in-cut size list bytes long); landed = refl; faults = refl; wants = refl; directs = refl }

-- the read ends with data
pub served_step : (told : Bool) (files : Files) (b b2 : BookView) (l : LineView) (op : OpView) (c c2 : CoreView) (number : ℕ) (bytes : List ℕ) (s : Served) → IsNext b (Ok (q.Read number op.pieces)) →
    b2 ≡ record b { replies = b.replies ++ reply_with op.pieces op.reading.size bytes ∷ [] } → Knows b (Ending op) c → op.reading.instance ≡ c.instance → op.leaves ≡ 0 → op.reading.client ≡ b.number → EndsRead c op (Some s) c2 →
    IsData told files op bytes s → op.failed ≡ 0 → Step b l (Ending op) c b2 l Rest c2
served_step told files b b2 l op c c2 number bytes s next answered knows here none mine ended brought whole =
    let known = reading_known b op c knows here in let closes = ended.known (ended.lists known) in let size = ap (λ (k : ℕ). k * op.hits) (reading_blocks b op c knows here) in
    let size2 = ap (λ (k : ℕ). k * op.waits) (reading_blocks b op c knows here) in let size3 = ap (λ (k : ℕ). k * op.directs) (reading_blocks b op c knows here) in
    ended_step b b2 l op c c2 (served_gain s) number (reply_with op.pieces op.reading.size bytes) next answered here none (still c c2 (with_read (Some s) c.access) closes.unchanged) (ended.spends known)
    (its_tally b op c c2 (served_gain s) mine (closes.mine ∙ served_more (tally op.reading.client c.entries) s) closes.others)
    (data_ends op.pieces op.reading.size bytes s brought.long brought.sum)
    (omega (arith, whole))
    (rw (shares_here c.instance op here) (record { hit = omega (arith, brought.hit, size); missed = omega (arith, brought.missed, size2); bypassed = omega (arith, brought.bypassed, size3) }))
    (quiet_plainly c.entries c2.entries (quiet_ended c c2 op (Some s) ended))

-- the read ends without
pub unserved_step : (b b2 : BookView) (l : LineView) (op : OpView) (c c2 : CoreView) (number : ℕ) (reply : Reply) → IsNext b (Ok (q.Read number op.pieces)) →
    b2 ≡ record b { replies = b.replies ++ reply ∷ [] } → Knows b (Ending op) c → op.reading.instance ≡ c.instance → op.leaves ≡ 0 → op.reading.client ≡ b.number → EndsRead c op None c2 →
    is_size reply ≡ false → is_data reply ≡ false → bytes_in reply ≡ 0 → lost_at (Ok (q.Read number op.pieces)) reply ≡ asked_of (pieces_in op.pieces) → op.failed ≤ asked_of (pieces_in op.pieces) → Step b l (Ending op) c b2 l Rest c2
unserved_step b b2 l op c c2 number reply next answered knows here none mine ended size bare empty loses few =
    let known = reading_known b op c knows here in let closes = ended.known (ended.lists known) in
    ended_step b b2 l op c c2 nothing number reply next answered here none (still c c2 c.access closes.unchanged) (ended.spends known)
    (its_tally b op c c2 nothing mine (closes.mine ∙ sym (nothing_more (tally op.reading.client c.entries))) closes.others)
    (record { size = size; opened = refl; served = sym (ap {B = ℕ} (λ (q : Bool). if q then 1 else 0) bare); read = sym empty; landed = refl; faults = refl; wants = refl; directs = refl })
    (omega (arith, loses, few))
    (rw (shares_here c.instance op here) (record { hit = omega arith; missed = omega arith; bypassed = omega arith }))
    (quiet_plainly c.entries c2.entries (quiet_ended c c2 op None ended))

sized_stay : (told : Bool) (files : Files) (op : OpView) (stay : Mark) → op.reading.path ≡ stay.path → op.reading.size ≡ stay.size → HasSize told files op.reading.path op.reading.size → HasSize told files stay.path stay.size
sized_stay told files op stay path size right = subst (λ (p : List ℕ). HasSize told files p stay.size) path (subst (λ (n : ℕ). HasSize told files op.reading.path n) size right)

-- the bytes are the plain reply
pub its_bytes : (kept : List (Option Mark)) (told : Bool) (files : Files) (number : ℕ) (op : OpView) (stay : Mark) (bytes : List ℕ) (s : Served) → place_at kept number ≡ Some stay → op.reading.path ≡ stay.path → op.reading.size ≡ stay.size →
    asked_of (pieces_in op.pieces) ≤ most_bytes → HasSize told files op.reading.path op.reading.size → IsData told files op bytes s →
    Plain told files (files_of file_in kept) (Ok (q.Read number op.pieces)) (reply_with op.pieces op.reading.size bytes) (files_of file_in kept)
its_bytes kept told files number op stay bytes s at path size short right brought =
    let list = pieces_in op.pieces in
    let long : length bytes ≡ total_of stay.size list = brought.long ∙ ap (λ (n : ℕ). total_of n list) size in
    let same : IsTrue told → IsSomeAnd (file_at files stay.path) (λ file. bytes ≡ bytes_of file list) =
    λ t. subst (λ (p : List ℕ). IsSomeAnd (file_at files p) (λ file. bytes ≡ bytes_of file list)) path (brought.right t) in
    let plain = read-gives file_in kept told files number op.pieces stay bytes (sym at) short (sized_stay told files op stay path size right) long same in
    subst (λ (n : ℕ). Plain told files (files_of file_in kept) (Ok (q.Read number op.pieces)) (reply_with op.pieces n bytes) (files_of file_in kept)) (sym size) plain

-- it is neither a failed fetch nor want of memory, so it is permitted
pub its_reply : (kept : List (Option Mark)) (told : Bool) (files : Files) (number : ℕ) (op : OpView) (stay : Mark) (bytes : List ℕ) (s : Served) → place_at kept number ≡ Some stay → op.reading.path ≡ stay.path → op.reading.size ≡ stay.size →
    asked_of (pieces_in op.pieces) ≤ most_bytes → HasSize told files op.reading.path op.reading.size → IsData told files op bytes s →
    Permits told files (files_of file_in kept) (Ok (q.Read number op.pieces)) (reply_with op.pieces op.reading.size bytes) (files_of file_in kept)
its_reply kept told files number op stay bytes s at path size short right brought =
    data-permitted told files (files_of file_in kept) (Ok (q.Read number op.pieces)) op.pieces op.reading.size bytes (files_of file_in kept) (its_bytes kept told files number op stay bytes s at path size short right brought)

-- a failed fetch may stand in the place of bytes
pub its_fetch : (kept : List (Option Mark)) (told : Bool) (files : Files) (number : ℕ) (op : OpView) (stay : Mark) → place_at kept number ≡ Some stay → op.reading.path ≡ stay.path → op.reading.size ≡ stay.size →
    asked_of (pieces_in op.pieces) ≤ most_bytes → HasSize told files op.reading.path op.reading.size → 0 < op_len op → Permits told files (files_of file_in kept) (Ok (q.Read number op.pieces)) r.Fetch (files_of file_in kept)
its_fetch kept told files number op stay at path size short right some =
    let long : 0 < total_of stay.size (pieces_in op.pieces) = subst (λ (n : ℕ). 0 < total_of n (pieces_in op.pieces)) size some in
    read-fetch file_in kept told files number op.pieces stay (sym at) (sized_stay told files op stay path size right) short long

pub none_of : (n : ℕ) → (0 < n → ⊥) → n ≡ 0
none_of zero some = refl
none_of (suc n) some = absurd (some (omega arith))
