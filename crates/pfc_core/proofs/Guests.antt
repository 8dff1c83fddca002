-- Who is in, after an entry.
use Rattle.std.proofs.Common.{◌≡◌, ℕ, ◌+◌, ◌<◌, List, [], ◌∷◌, ◌++◌, refl, subst, arith, Bool, false, if◌then◌else◌, ◌==◌, eq-eqb}
use Rattle.std.specs.Prelude.{count_by}
use Rattle.pfc_log.specs.declared.entry.Entry.{Entry}
use Rattle.pfc_log.specs.declared.entry.Entry.TheVariants.{Opened, Closed}
use Rattle.pfc_log.specs.Views.{is_opened, is_closed, opened, closed}
use Rattle.pfc_log.proofs.More.{times_more, times_none}
use Rattle.pfc_core.specs.declared.held.Held.{Held}
use Rattle.pfc_core.specs.Held.{Puts, Takes}
use Rattle.pfc_core.specs.Pins.{is_guest}
use Rattle.pfc_core.specs.Kept.{AreIn}

pub in_more : (es : List Entry) (e : Entry) (stays : List Held) → AreIn es stays → ((n : ℕ) → (is_opened n e ≡ false) × (is_closed n e ≡ false)) → AreIn (es ++ e ∷ []) stays
in_more es e stays was none = record { each = λ n. let w = was.each n in let o = times_none (is_opened n) es e (none n).0 in let c = times_none (is_closed n) es e (none n).1 in omega arith }

pub in_open : (es : List Entry) (n : ℕ) (s : Held) (stays more : List Held) → AreIn es stays → Puts stays s more → s.client ≡ n → AreIn (es ++ Opened n ∷ []) more
in_open es m s stays more was put is = record { each = λ n. let w = was.each n in let c = times_none (is_closed n) es (Opened m) refl in let o = times_more (is_opened n) es (Opened m) in let p : count_by (is_guest n) more ≡ count_by (is_guest n) stays + (if m == n then 1 else 0) = subst (λ (k : ℕ). count_by (is_guest n) more ≡ count_by (is_guest n) stays + (if k == n then 1 else 0)) is (put.each (λ (x : Held). if is_guest n x then 1 else 0)) in omega arith }

pub in_close : (es : List Entry) (s : Held) (stays more : List Held) → AreIn es stays → Takes s stays more → AreIn (es ++ Closed s.client ∷ []) more
in_close es s stays more was take = record { each = λ n. let w = was.each n in let o = times_none (is_opened n) es (Closed s.client) refl in let c = times_more (is_closed n) es (Closed s.client) in let p : count_by (is_guest n) more + (if s.client == n then 1 else 0) ≡ count_by (is_guest n) stays = take.each (λ (x : Held). if is_guest n x then 1 else 0) in omega arith }

pub close_row : (es : List Entry) (s : Held) (stays more : List Held) → AreIn es stays → Takes s stays more → closed s.client es < opened s.client es
close_row es s stays more was take = let w = was.each s.client in let p : count_by (is_guest s.client) more + 1 ≡ count_by (is_guest s.client) stays = subst (λ (q : Bool). count_by (is_guest s.client) more + (if q then 1 else 0) ≡ count_by (is_guest s.client) stays) (eq-eqb s.client s.client refl) (take.each (λ (x : Held). if is_guest s.client x then 1 else 0)) in omega arith
