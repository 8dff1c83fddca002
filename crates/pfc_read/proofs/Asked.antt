-- The decisions so far, with one more.
use Rattle.std.proofs.Common.{◌≡◌, ◌+◌, ◌*◌, ◌<◌, ◌≤◌, ℕ, List, [], ◌∷◌, ◌++◌, length, take, map, refl, sym, ap, ◌∙◌, arith, subst, get_or, length-append, inl, inr}
use Rattle.std.specs.Prelude.{sum_by, All}
use Rattle.std.proofs.lemmas.Bool.{cases_lt, le-leb, lt-ltb}
use Rattle.std.proofs.lemmas.List.{take_more, map-append, length-reverse}
use Rattle.std.proofs.lemmas.List.Elements.{All-append}
use Rattle.std.proofs.lemmas.List.Sums.{sum_by-append, sum_by_push, sum_by-take-le}
use Rattle.pfc_base.specs.Block.{IsPartOf}
use Rattle.pfc_base.specs.declared.block.Part.{Part}
use Rattle.pfc_log.specs.Tallies.{Tally, tally}
use Rattle.pfc_span.specs.Tiling.{part_len}
use Rattle.pfc_core.specs.declared.token.Decision.{Decision}
use Rattle.pfc_core.specs.Calls.{Decides, IsOf}
use Rattle.pfc_core.specs.Marks.{TicketKind, Mark}
use Rattle.pfc_core.specs.View.{CoreView}
use Rattle.pfc_read.specs.declared.segment.Counts.{Counts}
use Rattle.pfc_read.specs.declared.segment.Source.{Source}
use Rattle.pfc_read.specs.declared.segment.Source.TheVariants as source
use Rattle.pfc_read.specs.declared.segment.Segment.{Segment}
use Rattle.pfc_read.specs.declared.draft.Draft.{Draft}
use Rattle.pfc_read.specs.Segments.{IsPlaced, len_in, covers, len_from, Waiting, weigh, pin_in, disk_in}
use Rattle.pfc_read.specs.Draft.{segment_at, tickets_of, pendings_of, disks_of, owed_of, hits_of, waits_of, directs_of, waiting_in, IsAsked, IsStored, IsSent, AreAll, Asks, IsTurned, StandAt, AreAsked}
use Rattle.pfc_read.specs.Plans.{DecidesAll, with_asked}
use Rattle.pfc_read.proofs.Decided.{IsDecided, waiting_by, source_of, decided, plain, decides-plain, tickets-again, all-again, cache_len, flight_len, origin_len}
use Rattle.pfc_read.proofs.Turned.{All-reverse, sum_by-reverse, sum_by-map-reverse, AreTurned, weigh-turned, HasMore, weigh-more}

decides_all-push : (old : CoreView) (n : ℕ) (parts : List Part) (part : Part) (mid new : CoreView) (x : Decision (Unit {0})) → DecidesAll old n parts mid → Decides mid n part x new →
    DecidesAll old n (parts ++ part ∷ []) new
decides_all-push old n [] part mid new x same h = (x, new, subst (λ v. Decides v n part x new) same h, refl)
decides_all-push old n (p ∷ ps) part mid new x chain h = (chain.0, chain.1, chain.2, decides_all-push chain.1 n ps part mid new x chain.3 h)

rest-again : (old mid new : CoreView) → mid ≡ record old { entries = mid.entries; out = mid.out } → new ≡ record mid { entries = new.entries; out = new.out } → new ≡ record old { entries = new.entries; out = new.out }
rest-again old mid new was is = is ∙ ap (λ (v : CoreView). record v { entries = new.entries; out = new.out }) was

product : (k a b c : ℕ) → c ≡ a + b → k * c ≡ k * a + k * b
product k a b c e = ap (λ n. k * n) e ∙ omega arith

pub covers-in : (j : ℕ) (s : Segment) → s.at ≤ j → j < s.at + s.part.len → covers j s ≡ 1
covers-in j s low high = rw (le-leb s.at j low, lt-ltb j (s.at + s.part.len) high) refl

mine-again : (t : Tally) (a b c e f g : ℕ) → with_asked (with_asked t a b c) e f g ≡ with_asked t (a + e) (b + f) (c + g)
mine-again t a b c e f g = λ i. record t { hits = (let h : t.hits + a + e ≡ t.hits + (a + e) = omega arith in h) i; waits = (let h : t.waits + b + f ≡ t.waits + (b + f) = omega arith in h) i; directs = (let h : t.directs + c + g ≡ t.directs + (c + g) = omega arith in h) i }

part-within : (size k : ℕ) (p : Part) → IsPartOf size k p → p.len ≤ k
part-within size k p is = omega (arith, is.within)

covered-more : {W : Type 0} (all : List Part) (i : ℕ) (part : Part) (seg : Segment) (before after : Waiting W) {j : ℕ} → sum_by part_len (take (i + 1) all) ≡ sum_by part_len (take i all) + part.len →
    seg.at ≡ sum_by part_len (take i all) → seg.part ≡ part → weigh (covers j) after ≡ weigh (covers j) before + covers j seg →
    (j < sum_by part_len (take i all) → 0 < weigh (covers j) before) → j < sum_by part_len (take (i + 1) all) → 0 < weigh (covers j) after
covered-more all i part seg before after {j = j} more at same sums was h = elim (cases_lt j (sum_by part_len (take i all))) [
  | inl low ↦ let w = was low in omega (arith, w, sums)
  | inr high ↦
      let len : seg.part.len ≡ part.len = ap (λ (p : Part). p.len) same in
      let one : covers j seg ≡ 1 = covers-in j seg (omega (arith, at, high)) (omega (arith, at, len, more, h)) in
      omega (arith, one, sums)
]

all-more : {W : Type 0} (v : CoreView) (n : ℕ) (spot_at : ℕ → ℕ) (total : ℕ) (before more after : Waiting W) → HasMore before more after → AreAll v n spot_at total before → AreAll v n spot_at total more → AreAll v n spot_at total after
all-more v n spot_at total before more after is was all = record {
  pendings = subst (All (IsAsked v n spot_at total)) (sym is.pendings) (All-append (IsAsked v n spot_at total) before.pendings more.pendings was.pendings all.pendings);
  disks = subst (All (IsStored v n spot_at total)) (sym is.disks) (All-append (IsStored v n spot_at total) before.disks more.disks was.disks all.disks);
  owed = subst (All (IsSent v n spot_at total)) (sym is.owed) (All-append (IsSent v n spot_at total) before.owed more.owed was.owed all.owed);
}

sum-more : {X : Type 0} (w : Mark → ℕ) (f : X → Mark) (before more after : List X) → after ≡ before ++ more → sum_by w (map f after) ≡ sum_by w (map f before) + sum_by w (map f more)
sum-more w f before more after is = ap (sum_by w) (ap (map f) is ∙ map-append f before more) ∙ sum_by-append w (map f before) (map f more)

long-more : {X : Type 0} (before more after : List X) → after ≡ before ++ more → length after ≡ length before + length more
long-more before more after is = ap length is ∙ length-append before more

pub asked-more : {W : Type 0} (old : CoreView) (n : ℕ) (all : List Part) (i : ℕ) (d : Part) (before after : Draft W) (mid new : CoreView) → i < length all → All (IsPartOf old.size old.block_size) all →
    AreAsked old n all i before mid → Asks mid n (get_or all i d) (sum_by part_len (take i all)) before after new → AreAsked old n all (i + 1) after new
asked-more {W = W} old n all i d before after mid new low inside was is =
    let part : Part = get_or all i d in
    let x = is.decision in
    let at : ℕ = sum_by part_len (take i all) in
    let one : IsDecided mid n part at x new = decided mid n part at x new is.decides in
    let seg : Segment = segment_at part at (source_of x) in
    let more : take (i + 1) all ≡ take i all ++ part ∷ [] = take_more all i d low in
    let sum_more : sum_by part_len (take (i + 1) all) ≡ at + part.len = ap (sum_by part_len) more ∙ sum_by_push part_len (take i all) part in
    let part_of : IsPartOf old.size old.block_size part = inside i d low in
    let len_most : part.len ≤ old.block_size = part-within old.size old.block_size part part_of in
    let whole : sum_by part_len (take (i + 1) all) ≤ sum_by part_len all = sum_by-take-le part_len all (i + 1) in
    let has : HasMore (waiting_in before) (waiting_by x part at) (waiting_in after) = record { pendings = is.pendings; disks = is.disks; owed = is.owed } in
    let sums : (f : Segment → ℕ) → weigh f (waiting_in after) ≡ weigh f (waiting_in before) + f seg = λ f. let m = weigh-more f (waiting_in before) (waiting_by x part at) (waiting_in after) has in let o = one.weighs f in omega (arith, m, o) in
    let home = was.unchanged in
    let placed : (spot_at : ℕ → ℕ) → StandAt old.block_size spot_at all → (from : Source) → IsPlaced old.size old.block_size spot_at (sum_by part_len all) (segment_at part at from) = λ spot_at stand from. record { part_of = part_of; place = λ x h. stand i d x low h; within = omega (arith, whole, sum_more) } in
    let pendings = long-more before.pendings.items (pendings_of x part at) after.pendings.items is.pendings in
    let disks = long-more before.disks.items (disks_of x part at) after.disks.items is.disks in
    let owed = long-more before.owed.items (owed_of x part at) after.owed.items is.owed in
    record {
      decides = subst (λ ps. DecidesAll old n ps new) (sym more) (decides_all-push old n (take i all) part mid new (plain x) was.decides (decides-plain mid n part x new is.decides));
      unchanged = rest-again old mid new home one.rest;
      tickets_are = subst (All (IsOf old TicketKind n)) (sym is.tickets) (All-append (IsOf old TicketKind n) before.tickets.items (tickets_of x) was.tickets_are (tickets-again old mid n part x new home is.decides));
      waiting_are = λ spot_at stand. all-more old n spot_at (sum_by part_len all) (waiting_in before) (waiting_by x part at) (waiting_in after) has (was.waiting_are spot_at stand) (all-again old mid n spot_at (sum_by part_len all) part at x new home (placed spot_at stand) is.decides);
      gains = λ w.
          let a = one.gains w in
          let b = was.gains w in
          let t : sum_by w after.tickets.items ≡ sum_by w before.tickets.items + sum_by w (tickets_of x) = ap (sum_by w) is.tickets ∙ sum_by-append w before.tickets.items (tickets_of x) in
          let p = sum-more w pin_in before.pendings.items (pendings_of x part at) after.pendings.items is.pendings in
          let q = sum-more w disk_in before.disks.items (disks_of x part at) after.disks.items is.disks in
          omega (arith, a, b, t, p, q);
      number_is = let c = was.number_is in let o = one.number in omega (arith, c, o, pendings, disks, owed);
      counts = let o = one.one in let c = was.counts in omega (arith, o, c, is.hits, is.waits, is.directs);
      leaves_is = let o = one.leaves_is in let c = was.leaves_is in omega (arith, o, c, owed, is.directs);
      failed_is = is.failed ∙ was.failed_is;
      few = let l = long-more before.tickets.items (tickets_of x) after.tickets.items is.tickets in omega (arith, l, was.few, one.few, is.waits);
      lens = sums len_in ∙ (λ j. was.lens j + part.len) ∙ sym sum_more;
      cache_lens = let l = cache_len old.block_size part.len x len_most in let m = sums (len_from source.Cache) in let p = product old.block_size before.counts.hits (hits_of x) after.counts.hits is.hits in omega (arith, l, m, p, was.cache_lens);
      flight_lens = let l = flight_len old.block_size part.len x len_most in let m = sums (len_from source.Flight) in let p = product old.block_size before.counts.waits (waits_of x) after.counts.waits is.waits in omega (arith, l, m, p, was.flight_lens);
      origin_lens = let l = origin_len old.block_size part.len x len_most in let m = sums (len_from source.Origin) in let p = product old.block_size before.counts.directs (directs_of x) after.counts.directs is.directs in omega (arith, l, m, p, was.origin_lens);
      covered = λ j h. covered-more all i part seg (waiting_in before) (waiting_in after) sum_more refl refl (sums (covers j)) (was.covered j) h;
      mine = one.mine ∙ ap (λ t. with_asked t (hits_of x) (waits_of x) (directs_of x)) was.mine ∙ mine-again (tally n old.entries) before.counts.hits before.counts.waits before.counts.directs (hits_of x) (waits_of x) (directs_of x)
          ∙ (λ j. with_asked (tally n old.entries) (sym is.hits j) (sym is.waits j) (sym is.directs j));
      others = λ m ne. one.others m ne ∙ was.others m ne;
    }

pub asked-turned : {W : Type 0} (old : CoreView) (n : ℕ) (parts : List Part) (number : ℕ) (before after : Draft W) (new : CoreView) → IsTurned before after → AreAsked old n parts number before new → AreAsked old n parts number after new
asked-turned {W = W} old n parts number before after new is was =
    let turned : AreTurned (waiting_in before) (waiting_in after) = record { pendings = is.pendings; disks = is.disks; owed = is.owed } in
    let sums : (f : Segment → ℕ) → weigh f (waiting_in after) ≡ weigh f (waiting_in before) = λ f. weigh-turned f (waiting_in before) (waiting_in after) turned in
    let hits : after.counts.hits ≡ before.counts.hits = ap (λ (c : Counts). c.hits) is.counts in
    let waits : after.counts.waits ≡ before.counts.waits = ap (λ (c : Counts). c.waits) is.counts in
    let directs : after.counts.directs ≡ before.counts.directs = ap (λ (c : Counts). c.directs) is.counts in
    let pendings : length after.pendings.items ≡ length before.pendings.items = ap length is.pendings ∙ length-reverse before.pendings.items in
    let disks : length after.disks.items ≡ length before.disks.items = ap length is.disks ∙ length-reverse before.disks.items in
    let owed : length after.owed.items ≡ length before.owed.items = ap length is.owed ∙ length-reverse before.owed.items in
    record {
      decides = was.decides;
      unchanged = was.unchanged;
      tickets_are = subst (All (IsOf old TicketKind n)) (sym is.tickets) (All-reverse (IsOf old TicketKind n) before.tickets.items was.tickets_are);
      waiting_are = λ spot_at stand.
          let w = was.waiting_are spot_at stand in
          let total : ℕ = sum_by part_len parts in
          record {
            pendings = subst (All (IsAsked old n spot_at total)) (sym is.pendings) (All-reverse (IsAsked old n spot_at total) before.pendings.items w.pendings);
            disks = subst (All (IsStored old n spot_at total)) (sym is.disks) (All-reverse (IsStored old n spot_at total) before.disks.items w.disks);
            owed = subst (All (IsSent old n spot_at total)) (sym is.owed) (All-reverse (IsSent old n spot_at total) before.owed.items w.owed);
          };
      gains = λ w.
          let g = was.gains w in
          let t : sum_by w after.tickets.items ≡ sum_by w before.tickets.items = ap (sum_by w) is.tickets ∙ sum_by-reverse w before.tickets.items in
          let p : sum_by w (map pin_in after.pendings.items) ≡ sum_by w (map pin_in before.pendings.items) = ap (λ ps. sum_by w (map pin_in ps)) is.pendings ∙ sum_by-map-reverse w pin_in before.pendings.items in
          let q : sum_by w (map disk_in after.disks.items) ≡ sum_by w (map disk_in before.disks.items) = ap (λ ps. sum_by w (map disk_in ps)) is.disks ∙ sum_by-map-reverse w disk_in before.disks.items in
          omega (arith, g, t, p, q);
      number_is = let c = was.number_is in omega (arith, c, pendings, disks, owed);
      counts = let c = was.counts in omega (arith, c, hits, waits, directs);
      leaves_is = let c = was.leaves_is in omega (arith, c, owed, directs);
      failed_is = ap (λ (c : Counts). c.failed) is.counts ∙ was.failed_is;
      few = let f = was.few in let l : length after.tickets.items ≡ length before.tickets.items = ap length is.tickets ∙ length-reverse before.tickets.items in omega (arith, f, l, waits);
      lens = sums len_in ∙ was.lens;
      cache_lens = let m = sums (len_from source.Cache) in let p = ap (λ n. old.block_size * n) hits in let l = was.cache_lens in omega (arith, l, m, p);
      flight_lens = let m = sums (len_from source.Flight) in let p = ap (λ n. old.block_size * n) waits in let l = was.flight_lens in omega (arith, l, m, p);
      origin_lens = let m = sums (len_from source.Origin) in let p = ap (λ n. old.block_size * n) directs in let l = was.origin_lens in omega (arith, l, m, p);
      covered = λ j h. let c = was.covered j h in let m = sums (covers j) in omega (arith, c, m);
      mine = was.mine ∙ (λ j. with_asked (tally n old.entries) (sym hits j) (sym waits j) (sym directs j));
      others = was.others;
    }
