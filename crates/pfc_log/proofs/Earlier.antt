-- Logs at an earlier moment, and what was found full then.
use Rattle.std.proofs.Common.{ℕ, zero, suc, ◌<◌, ◌≤◌, List, [], ◌∷◌, ◌++◌, length, get_or, set, refl, sym, ap, ◌∙◌, arith}
use Rattle.std.proofs.lemmas.List.{append-nil, append_assoc}
use Rattle.pfc_log.specs.declared.entry.Entry.{Entry}
use Rattle.pfc_log.specs.Waiting.{Begins, AreEarlier, FoundFull, WasFull}

pub begins_same : (es : List Entry) → Begins es es
begins_same es = record { more = []; is = sym (append-nil es) }

pub begins_on : (a b c : List Entry) → Begins a b → Begins b c → Begins a c
begins_on a b c first later = record { more = first.more ++ later.more; is = later.is ∙ ap (λ es. es ++ later.more) first.is ∙ append_assoc a first.more later.more }

pub begins_by : (a more : List Entry) → Begins a (a ++ more)
begins_by a more = record { more = more; is = refl }

-- ---- all logs

pub earlier_same : (logs : List (List Entry)) → AreEarlier logs logs
earlier_same [] = tt
earlier_same (log ∷ logs) = (begins_same log, earlier_same logs)

pub earlier_on : (a b c : List (List Entry)) → AreEarlier a b → AreEarlier b c → AreEarlier a c
earlier_on [] b c first later = tt
earlier_on (x ∷ a) [] c first later = absurd first
earlier_on (x ∷ a) (y ∷ b) [] first later = absurd later
earlier_on (x ∷ a) (y ∷ b) (z ∷ c) first later = (begins_on x y z first.0 later.0, earlier_on a b c first.1 later.1)

-- one log grows
pub earlier_set : (logs : List (List Entry)) (i : ℕ) (es : List Entry) → i < length logs → Begins (get_or logs i es) es → AreEarlier logs (set logs i es)
earlier_set [] i es low begins = absurd (omega (arith, low))
earlier_set (log ∷ logs) zero es low begins = (begins, earlier_same logs)
earlier_set (log ∷ logs) (suc i) es low begins = (begins_same log, earlier_set logs i es (omega (arith, low)) begins)

-- others begin
pub earlier_more : (logs more : List (List Entry)) → AreEarlier logs (logs ++ more)
earlier_more [] more = tt
earlier_more (log ∷ logs) more = (begins_same log, earlier_more logs more)

pub earlier_at : (past logs : List (List Entry)) (x : ℕ) (d : List Entry) → AreEarlier past logs → x < length past → Begins (get_or past x d) (get_or logs x d)
earlier_at [] logs x d earlier low = absurd (omega (arith, low))
earlier_at (old ∷ past) [] x d earlier low = absurd earlier
earlier_at (old ∷ past) (log ∷ logs) zero d earlier low = earlier.0
earlier_at (old ∷ past) (log ∷ logs) (suc x) d earlier low = earlier_at past logs x d earlier.1 (omega (arith, low))

pub earlier_long : (past logs : List (List Entry)) → AreEarlier past logs → length past ≤ length logs
earlier_long [] logs earlier = omega arith
earlier_long (old ∷ past) [] earlier = absurd earlier
earlier_long (old ∷ past) (log ∷ logs) earlier = let rest = earlier_long past logs earlier.1 in omega (arith, rest)

-- ---- what was found full

abbrev pub found_later : (c x i t : ℕ) (logs logs2 : List (List Entry)) → AreEarlier logs logs2 → FoundFull c x i t logs → FoundFull c x i t logs2
found_later c x i t logs logs2 grown found = record {
  past = found.past;
  earlier = earlier_on found.past logs logs2 found.earlier grown;
  low = found.low;
  waits = found.waits;
  below = found.below;
  full = found.full;
}

pub was_later : (c x i : ℕ) (before : List Entry) (logs logs2 : List (List Entry)) → AreEarlier logs logs2 → WasFull c x i before logs → WasFull c x i before logs2
was_later c x i before logs logs2 grown was = record {
  flight = was.flight;
  found = found_later c x i was.flight logs logs2 grown was.found;
  since = was.since;
  stays = was.stays;
}
