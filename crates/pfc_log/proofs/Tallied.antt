-- What a client's tally is after one more entry.
use Rattle.std.proofs.Common.{◌≡◌, ℕ, List, [], ◌∷◌, ◌++◌, refl, ap, ◌∙◌, arith, false}
use Rattle.std.proofs.lemmas.List.Sums.{sum_by_push}
use Rattle.pfc_log.specs.declared.entry.Entry.{Entry}
use Rattle.pfc_log.specs.declared.entry.Entry.TheVariants as e
use Rattle.pfc_log.specs.declared.entry.Fell.TheVariants.{Fault, Memory}
use Rattle.pfc_log.specs.Views.{is_opened}
use Rattle.pfc_log.specs.Owners.{owners, is_client, is_landed_of, is_fault_of, is_want_of}
use Rattle.pfc_log.specs.Tallies.{client_in, Tally, nothing, together, tally, gain, is_served_to, hit_of, missed_of, bypassed_of, is_hit_of, is_wait_of, is_direct_of}
use Rattle.pfc_log.proofs.More.{times_more, count_after_more}

abbrev build : ℕ → ℕ → ℕ → ℕ → ℕ → ℕ → ℕ → ℕ → ℕ → ℕ → ℕ → Tally
build a b c d f g h i j k l = record { opened = a; served = b; hit = c; missed = d; bypassed = f; hits = g; waits = h; directs = i; landed = j; faults = k; wants = l }

make : {a b c d f g h i j k l a2 b2 c2 d2 f2 g2 h2 i2 j2 k2 l2 : ℕ} → a ≡ a2 → b ≡ b2 → c ≡ c2 → d ≡ d2 → f ≡ f2 → g ≡ g2 → h ≡ h2 → i ≡ i2 → j ≡ j2 → k ≡ k2 → l ≡ l2 →
    build a b c d f g h i j k l ≡ build a2 b2 c2 d2 f2 g2 h2 i2 j2 k2 l2
make a b c d f g h i j k l = rw (a, b, c, d, f, g, h, i, j, k, l) refl

pub tally_more : (n : ℕ) (es : List Entry) (x : Entry) → tally n (es ++ x ∷ []) ≡ together (tally n es) (gain n (owners es) x)
tally_more n es x =
    make (times_more (is_opened n) es x) (times_more (is_served_to n) es x) (sum_by_push (hit_of n) es x) (sum_by_push (missed_of n) es x) (sum_by_push (bypassed_of n) es x)
    (times_more (is_hit_of n) es x) (times_more (is_wait_of n) es x) (times_more (is_direct_of n) es x) (count_after_more (is_landed_of n) [] es x)
    (count_after_more (is_fault_of n) [] es x) (count_after_more (is_want_of n) [] es x)

-- an entry that is another's adds nothing
pub strange : (m : ℕ) (ns : List ℕ) (x : Entry) → is_client m (client_in ns x) ≡ false → gain m ns x ≡ nothing
strange m ns (e.Opened n) h = rw h refl
strange m ns (e.Closed n) h = refl
strange m ns (e.Begin t i n) h = rw h refl
strange m ns (e.Join t i n) h = rw h refl
strange m ns (e.Hit i spot n) h = rw h refl
strange m ns (e.Direct i n why) h = rw h refl
strange m ns (e.Landed t) h = rw h refl
strange m ns (e.Failed t Fault) h = rw h refl
strange m ns (e.Failed t Memory) h = rw h refl
strange m ns (e.Dropped i why) h = refl
strange m ns (e.Wrote i) h = refl
strange m ns (e.Left i) h = refl
strange m ns e.Synced h = refl
strange m ns (e.Claimed p c) h = refl
strange m ns e.Frozen h = refl
strange m ns e.WrittenOff h = refl
strange m ns (e.Served n served) h = rw h refl

pub nothing_more : (a : Tally) → together a nothing ≡ a
nothing_more a = make (omega arith) (omega arith) (omega arith) (omega arith) (omega arith) (omega arith) (omega arith) (omega arith) (omega arith) (omega arith) (omega arith)

-- so it leaves the tally as it is
pub tally_same : (m : ℕ) (es : List Entry) (x : Entry) → is_client m (client_in (owners es) x) ≡ false → tally m (es ++ x ∷ []) ≡ tally m es
tally_same m es x h = tally_more m es x ∙ ap (together (tally m es)) (strange m (owners es) x h) ∙ nothing_more (tally m es)

pub together_assoc : (a b c : Tally) → together a (together b c) ≡ together (together a b) c
together_assoc a b c = make (omega arith) (omega arith) (omega arith) (omega arith) (omega arith) (omega arith) (omega arith) (omega arith) (omega arith) (omega arith) (omega arith)
