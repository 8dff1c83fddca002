-- What a read keeps when the part that is given out comes, or won't come.
use Rattle.std.proofs.Common.{Vec, Global, ◌≡◌, ◌+◌, ◌*◌, ◌≤◌, ℕ, Bool, List, [], ◌∷◌, ◌++◌, length, refl, sym, ap, ◌∙◌, arith, subst, Option, None, length-append}
use Rattle.std.specs.Prelude.{sum_by, All, vec_capacity}
use Rattle.std.proofs.lemmas.List.Elements.{All-push}
use Rattle.std.proofs.lemmas.List.Sums.{sum_by_push}
use Rattle.pfc_base.specs.declared.block.Part.{Part}
use Rattle.pfc_log.specs.declared.entry.Fell.{Fell}
use Rattle.pfc_log.specs.declared.entry.Fell.TheVariants.{Fault, Memory}
use Rattle.pfc_log.specs.declared.entry.Served.{Served}
use Rattle.pfc_world.specs.Files.{Files, Holds}
use Rattle.pfc_core.specs.Leave.{LeaveView, leave_of}
use Rattle.pfc_core.specs.Marks.{Mark, PinKind}
use Rattle.pfc_read.specs.declared.segment.Segment.{Segment}
use Rattle.pfc_read.specs.declared.segment.Hand.{Hand}
use Rattle.pfc_read.specs.declared.segment.Hand.TheVariants as hand
use Rattle.pfc_read.specs.declared.segment.Counts.{Counts}
use Rattle.pfc_read.specs.declared.segment.Owed.{Owed}
use Rattle.pfc_read.specs.declared.segment.Pending.{Pending}
use Rattle.pfc_read.specs.declared.op.ReadOp.TheInside.{Inside}
use Rattle.pfc_read.specs.OpView.{ToFill, ToLook, ToRead, first_met}
use Rattle.pfc_read.specs.Segments.{IsPlaced, covers, Waiting, weigh, in_pending, in_owed, in_hand, with_part, owed_segment}
use Rattle.pfc_read.specs.Steps.{IsTokenOf, IsLeaveOf, IsPinFor}
use Rattle.pfc_read.specs.Kept.{spots_of, waiting_of, weight_in, AreOwn, AreCounted, IsSound, IsKept, IsFit, IsOwed}
use Rattle.pfc_read.proofs.Weights.{SameParts, counted-same}
use Rattle.pfc_read.proofs.Written.{IsWritten}
use Rattle.pfc_read.proofs.Filled.{IsGiven, IsPutOff, counted-filled, counted-lacking, counted-owed, sound-written, sound-filled, sound-lacking, met-some, met-memory}

pub given-leave : (s : Segment) → IsGiven (hand.Leave s) s
given-leave s = record { each = λ f. refl; run = refl }

pub given-pin : (s : Segment) → IsGiven (hand.Pin s) s
given-pin s = record { each = λ f. refl; run = refl }

pub given-disk : (s : Segment) → IsGiven (hand.Disk s) s
given-disk s = record { each = λ f. refl; run = refl }

-- the same for a reply of the same length
own-long : {W : Type 0} (reading : Mark) (spot_at : ℕ → ℕ) (total more : ℕ) (tickets pins : List Mark) (w : Waiting W) (h : Hand) → more ≡ total → AreOwn reading spot_at total tickets pins w h → AreOwn reading spot_at more tickets pins w hand.Nothing
own-long {W = W} reading spot_at total more tickets pins w h e was =
    let now : AreOwn reading spot_at total tickets pins w hand.Nothing = record { tickets_are = was.tickets_are; pins_are = was.pins_are; pendings_are = was.pendings_are; disks_are = was.disks_are; owed_are = was.owed_are; hand_is = tt } in
    subst (λ t. AreOwn reading spot_at t tickets pins w hand.Nothing) (sym e) now

counted-long : {W : Type 0} (k total more : ℕ) (tickets : List Mark) (w : Waiting W) (h : Hand) (counts : Counts) (served : Served) (met : Option Fell) → more ≡ total → AreCounted k total tickets w h counts served met → AreCounted k more tickets w h counts served met
counted-long k total more tickets w h counts served met e was = subst (λ t. AreCounted k t tickets w h counts served met) (sym e) was

at-hand : {W : Type 0} (told : Bool) (files : Files) (s : Inside W) (h : Hand) → s.hand ≡ h → IsKept told files s → IsKept told files (record s { hand = h })
at-hand told files s h e was = subst (λ x. IsKept told files (record s { hand = x })) e was

-- where the part that is given out lies
pub placed-leave : {W : Type 0} (told : Bool) (files : Files) (s : Inside W) (seg : Segment) → s.hand ≡ hand.Leave seg → IsKept told files s → IsPlaced s.reading.size s.reading.block_size (spots_of s) (length s.bytes.items) seg
placed-leave told files s seg e kept = (at-hand told files s (hand.Leave seg) e kept).own.hand_is.0

pub placed-pin : {W : Type 0} (told : Bool) (files : Files) (s : Inside W) (seg : Segment) → s.hand ≡ hand.Pin seg → IsKept told files s → IsPlaced s.reading.size s.reading.block_size (spots_of s) (length s.bytes.items) seg
placed-pin told files s seg e kept = (at-hand told files s (hand.Pin seg) e kept).own.hand_is

pub placed-disk : {W : Type 0} (told : Bool) (files : Files) (s : Inside W) (seg : Segment) → s.hand ≡ hand.Disk seg → IsKept told files s → IsPlaced s.reading.size s.reading.block_size (spots_of s) (length s.bytes.items) seg
placed-disk told files s seg e kept = (at-hand told files s (hand.Disk seg) e kept).own.hand_is

-- a part came, straight from the origin or from disk
pub kept-came : {W : Type 0} (told : Bool) (files : Files) (s : Inside W) (h : Hand) (seg : Segment) (bytes : Vec ℕ Global) (into : List ℕ) (now : Served) → s.hand ≡ h → IsGiven h seg →
    IsPlaced s.reading.size s.reading.block_size (spots_of s) (length s.bytes.items) seg → length into ≡ seg.part.len → IsWritten s.bytes.items seg.at into bytes.items →
    Holds told files s.reading.path (seg.part.block * s.reading.block_size + seg.part.from) into → now ≡ with_part s.served seg.source seg.part.len → IsKept told files s →
    IsKept told files (record s { bytes = bytes; hand = hand.Nothing; served = now })
kept-came {W = W} told files s h seg bytes into now e given placed long w holds sum kept =
    let was = at-hand told files s h e kept in
    record {
      own = own-long _ _ _ _ _ _ (waiting_of s) h w.long was.own;
      counted = counted-long _ _ _ _ (waiting_of s) _ _ _ _ w.long (counted-filled _ _ _ (waiting_of s) h _ s.served now _ seg given sum was.counted);
      sound = sound-filled _ _ _ _ (length s.bytes.items) s.bytes.items _ into (waiting_of s) h _ seg given placed w long holds was.sound;
      size_is = was.size_is;
      staged = record { hurt = was.staged.hurt; fetch = λ f. let h = was.staged.fetch f in let l = w.long in omega (arith, h, l); stands = tt };
      roomy = record { back = let b = was.roomy.back in omega (arith, b); on = let o = was.roomy.on in omega (arith, o); late = let l = was.roomy.late in omega (arith, l); none = was.roomy.none; unread = was.roomy.unread };
    }

-- the origin failed
pub kept-fault : {W : Type 0} (told : Bool) (files : Files) (s : Inside W) (seg : Segment) (bytes : Vec ℕ Global) (into : List ℕ) (now : Option Fell) → s.hand ≡ hand.Leave seg →
    IsWritten s.bytes.items seg.at into bytes.items → now ≡ first_met s.met Fault → IsKept told files s → IsKept told files (record s { bytes = bytes; hand = hand.Nothing; met = now })
kept-fault {W = W} told files s seg bytes into now e w first kept =
    let was = at-hand told files s (hand.Leave seg) e kept in
    let placed = was.own.hand_is.0 in
    let hurt : now ≡ None → ⊥ = λ n. met-some s.met Fault (sym first ∙ n) in
    record {
      own = own-long _ _ _ _ _ _ (waiting_of s) (hand.Leave seg) w.long was.own;
      counted = counted-long _ _ _ _ (waiting_of s) _ _ _ _ w.long (counted-lacking _ _ _ (waiting_of s) (hand.Leave seg) _ _ s.met now hurt was.counted);
      sound = sound-lacking _ _ _ _ s.bytes.items _ into seg.at (waiting_of s) (hand.Leave seg) s.met now w hurt was.sound;
      size_is = was.size_is;
      staged = record { hurt = λ f n. hurt n; fetch = λ f. let a = placed.within in let b = placed.part_of.some in let l = w.long in omega (arith, a, b, l); stands = tt };
      roomy = record { back = was.roomy.back; on = was.roomy.on; late = was.roomy.late; none = was.roomy.none; unread = was.roomy.unread };
    }

-- the disk failed: the part is still to be read
pub kept-broken : {W : Type 0} (told : Bool) (files : Files) (s : Inside W) (seg : Segment) (bytes : Vec ℕ Global) (into : List ℕ) → s.hand ≡ hand.Disk seg → length into ≡ seg.part.len →
    IsWritten s.bytes.items seg.at into bytes.items → IsKept told files s → IsKept told files (record s { bytes = bytes })
kept-broken {W = W} told files s seg bytes into e long w was =
    let own : (j : ℕ) → covers j seg ≤ weight_in (covers j) (waiting_of s) s.hand = λ j. let h : in_hand (covers j) s.hand ≡ covers j seg = ap (in_hand (covers j)) e in omega (arith, h) in
    record {
      own = subst (λ t. AreOwn s.reading (spots_of s) t s.tickets.items s.pins.items (waiting_of s) s.hand) (sym w.long) was.own;
      counted = counted-long _ _ _ _ (waiting_of s) _ _ _ _ w.long was.counted;
      sound = sound-written _ _ _ _ s.bytes.items _ into (waiting_of s) (waiting_of s) s.hand s.hand _ seg w long own (λ j. refl) was.sound;
      size_is = was.size_is;
      staged = record { hurt = was.staged.hurt; fetch = λ f. let h = was.staged.fetch f in let l = w.long in omega (arith, h, l); stands = was.staged.stands };
      roomy = record { back = was.roomy.back; on = was.roomy.on; late = was.roomy.late; none = was.roomy.none; unread = was.roomy.unread };
    }

-- the flight of the part is still out
pub kept-flying : {W : Type 0} (told : Bool) (files : Files) (s : Inside W) (seg : Segment) (bytes : Vec ℕ Global) (into : List ℕ) (pin : Mark) (more : Vec (Pending W) Global) → s.hand ≡ hand.Pin seg → length into ≡ seg.part.len →
    IsWritten s.bytes.items seg.at into bytes.items → IsPinFor s.reading seg.part pin → more.items ≡ s.pendings.items ++ record { pin = pin; segment = seg } ∷ [] → vec_capacity more ≡ vec_capacity s.pendings → IsKept told files s →
    IsKept told files (record s { bytes = bytes; pendings = more; hand = hand.Nothing })
kept-flying {W = W} told files s seg bytes into pin more e long w pin_for push room kept =
    let was = at-hand told files s (hand.Pin seg) e kept in
    let p : Pending W = record { pin = pin; segment = seg } in
    let after : Waiting W = record { pendings = more.items; disks = s.disks.items; owed = s.owed.items } in
    let sums : (f : Segment → ℕ) → sum_by (in_pending f) more.items ≡ sum_by (in_pending f) s.pendings.items + f seg = λ f. ap (sum_by (in_pending f)) push ∙ sum_by_push (in_pending f) s.pendings.items p in
    let same : SameParts (waiting_of s) after (hand.Pin seg) hand.Nothing = record { each = λ f. let m = sums f in omega (arith, m) } in
    let count : length more.items ≡ length s.pendings.items + 1 = ap length push ∙ length-append s.pendings.items (p ∷ []) in
    let fits : All (IsFit s.reading (spots_of s) (length s.bytes.items)) more.items = subst (All (IsFit s.reading (spots_of s) (length s.bytes.items))) (sym push)
    (All-push (IsFit s.reading (spots_of s) (length s.bytes.items)) s.pendings.items p was.own.pendings_are (record { pin_for = pin_for; placed = was.own.hand_is })) in
    let own : AreOwn s.reading (spots_of s) (length s.bytes.items) s.tickets.items s.pins.items after hand.Nothing = record { tickets_are = was.own.tickets_are; pins_are = was.own.pins_are; pendings_are = fits; disks_are = was.own.disks_are; owed_are = was.own.owed_are; hand_is = tt } in
    record {
      own = own-long _ _ _ _ _ _ after hand.Nothing w.long own;
      counted = counted-long _ _ _ _ after _ _ _ _ w.long (counted-same _ _ s.tickets.items s.tickets.items (waiting_of s) after (hand.Pin seg) hand.Nothing s.counts _ _ same was.counted.flights (let d = was.counted.directs in omega (arith, d, count)) was.counted);
      sound = sound-written _ _ _ _ s.bytes.items _ into (waiting_of s) after (hand.Pin seg) hand.Nothing _ seg w long (λ j. let m = sums (covers j) in omega (arith, m)) (λ j. same.each (covers j)) was.sound;
      size_is = was.size_is;
      staged = record { hurt = was.staged.hurt; fetch = λ f. let h = was.staged.fetch f in let l = w.long in omega (arith, h, l); stands = tt };
      roomy = record { back = let b = was.roomy.back in omega (arith, b, count, room); on = let o = was.roomy.on in omega (arith, o, count); late = let l = was.roomy.late in omega (arith, l, count); none = was.roomy.none; unread = was.roomy.unread };
    }

-- the part was in memory
pub kept-ready : {W : Type 0} (told : Bool) (files : Files) (s : Inside W) (seg : Segment) (bytes : Vec ℕ Global) (into : List ℕ) (pin : Mark) (more : Vec Mark Global) (now : Served) → s.hand ≡ hand.Pin seg → length into ≡ seg.part.len →
    IsWritten s.bytes.items seg.at into bytes.items → Holds told files s.reading.path (seg.part.block * s.reading.block_size + seg.part.from) into → IsTokenOf s.reading PinKind pin → more.items ≡ s.pins.items ++ pin ∷ [] →
    vec_capacity more ≡ vec_capacity s.pins → now ≡ with_part s.served seg.source seg.part.len → IsKept told files s →
    IsKept told files (record s { bytes = bytes; pins = more; hand = hand.Nothing; served = now })
kept-ready {W = W} told files s seg bytes into pin more now e long w holds token push room sum kept =
    let was = at-hand told files s (hand.Pin seg) e kept in
    let count : length more.items ≡ length s.pins.items + 1 = ap length push ∙ length-append s.pins.items (pin ∷ []) in
    let pins : All (IsTokenOf s.reading PinKind) more.items = subst (All (IsTokenOf s.reading PinKind)) (sym push) (All-push (IsTokenOf s.reading PinKind) s.pins.items pin was.own.pins_are token) in
    let own : AreOwn s.reading (spots_of s) (length s.bytes.items) s.tickets.items more.items (waiting_of s) hand.Nothing = record { tickets_are = was.own.tickets_are; pins_are = pins; pendings_are = was.own.pendings_are; disks_are = was.own.disks_are; owed_are = was.own.owed_are; hand_is = tt } in
    record {
      own = own-long _ _ _ _ _ _ (waiting_of s) hand.Nothing w.long own;
      counted = counted-long _ _ _ _ (waiting_of s) _ _ _ _ w.long (counted-filled _ _ _ (waiting_of s) (hand.Pin seg) _ s.served now _ seg (given-pin seg) sum was.counted);
      sound = sound-filled _ _ _ _ (length s.bytes.items) s.bytes.items _ into (waiting_of s) (hand.Pin seg) _ seg (given-pin seg) was.own.hand_is w long holds was.sound;
      size_is = was.size_is;
      staged = record { hurt = was.staged.hurt; fetch = λ f. let h = was.staged.fetch f in let l = w.long in omega (arith, h, l); stands = tt };
      roomy = record { back = let b = was.roomy.back in omega (arith, b); on = let o = was.roomy.on in omega (arith, o, count, room); late = let l = was.roomy.late in omega (arith, l); none = was.roomy.none; unread = was.roomy.unread };
    }

-- the client's own flight failed
pub kept-own : {W : Type 0} (told : Bool) (files : Files) (s : Inside W) (seg : Segment) (bytes : Vec ℕ Global) (into : List ℕ) (pin : Mark) (more : Vec Mark Global) (now : Option Fell) → s.hand ≡ hand.Pin seg →
    IsWritten s.bytes.items seg.at into bytes.items → IsTokenOf s.reading PinKind pin → more.items ≡ s.pins.items ++ pin ∷ [] → vec_capacity more ≡ vec_capacity s.pins → now ≡ first_met s.met Memory → IsKept told files s →
    IsKept told files (record s { bytes = bytes; pins = more; hand = hand.Nothing; met = now })
kept-own {W = W} told files s seg bytes into pin more now e w token push room first kept =
    let was = at-hand told files s (hand.Pin seg) e kept in
    let hurt : now ≡ None → ⊥ = λ n. met-some s.met Memory (sym first ∙ n) in
    let count : length more.items ≡ length s.pins.items + 1 = ap length push ∙ length-append s.pins.items (pin ∷ []) in
    let pins : All (IsTokenOf s.reading PinKind) more.items = subst (All (IsTokenOf s.reading PinKind)) (sym push) (All-push (IsTokenOf s.reading PinKind) s.pins.items pin was.own.pins_are token) in
    let own : AreOwn s.reading (spots_of s) (length s.bytes.items) s.tickets.items more.items (waiting_of s) hand.Nothing = record { tickets_are = was.own.tickets_are; pins_are = pins; pendings_are = was.own.pendings_are; disks_are = was.own.disks_are; owed_are = was.own.owed_are; hand_is = tt } in
    record {
      own = own-long _ _ _ _ _ _ (waiting_of s) hand.Nothing w.long own;
      counted = counted-long _ _ _ _ (waiting_of s) _ _ _ _ w.long (counted-lacking _ _ _ (waiting_of s) (hand.Pin seg) _ _ s.met now hurt was.counted);
      sound = sound-lacking _ _ _ _ s.bytes.items _ into seg.at (waiting_of s) (hand.Pin seg) s.met now w hurt was.sound;
      size_is = was.size_is;
      staged = record { hurt = λ f n. hurt n; fetch = λ f. let h = was.staged.fetch (met-memory s.met (sym first ∙ f)) in let l = w.long in omega (arith, h, l); stands = tt };
      roomy = record { back = let b = was.roomy.back in omega (arith, b); on = let o = was.roomy.on in omega (arith, o, count, room); late = let l = was.roomy.late in omega (arith, l); none = was.roomy.none; unread = was.roomy.unread };
    }

put-off : {W : Type 0} (s : Inside W) (more : List (Owed W)) (leave : LeaveView) (seg : Segment) → more ≡ s.owed.items ++ record { leave = leave; segment = owed_segment seg } ∷ [] →
    IsPutOff (waiting_of s) (record { pendings = s.pendings.items; disks = s.disks.items; owed = more }) seg
put-off {W = W} s more leave seg put =
    let x : Owed W = record { leave = leave; segment = owed_segment seg } in
    record {
      each = λ f. let m : sum_by (in_owed f) more ≡ sum_by (in_owed f) s.owed.items + f (owed_segment seg) = ap (sum_by (in_owed f)) put ∙ sum_by_push (in_owed f) s.owed.items x in omega (arith, m);
      pendings = refl;
      disks = refl;
    }

own-put : {W : Type 0} (reading : Mark) (spot_at : ℕ → ℕ) (total : ℕ) (tickets pins : List Mark) (w : Waiting W) (more : List (Owed W)) (leave : LeaveView) (seg : Segment) (h : Hand) → more ≡ w.owed ++ record { leave = leave; segment = owed_segment seg } ∷ [] →
    IsLeaveOf reading leave → leave.part ≡ seg.part → IsPlaced reading.size reading.block_size spot_at total seg → AreOwn reading spot_at total tickets pins w h →
    AreOwn reading spot_at total tickets pins (record { pendings = w.pendings; disks = w.disks; owed = more }) hand.Nothing
own-put {W = W} reading spot_at total tickets pins w more leave seg h put fits part placed was =
    let x : Owed W = record { leave = leave; segment = owed_segment seg } in
    let owed : IsOwed reading spot_at total x = record { leave_of = fits; part_is = part; placed = record { part_of = placed.part_of; place = placed.place; within = placed.within }; source_is = refl } in
    record {
      tickets_are = was.tickets_are;
      pins_are = was.pins_are;
      pendings_are = was.pendings_are;
      disks_are = was.disks_are;
      owed_are = subst (All (IsOwed reading spot_at total)) (sym put) (All-push (IsOwed reading spot_at total) w.owed x was.owed_are owed);
      hand_is = tt;
    }

-- a leave came in the place of the pin
pub kept-owes : {W : Type 0} (told : Bool) (files : Files) (s : Inside W) (seg : Segment) (bytes : Vec ℕ Global) (into : List ℕ) (pin : Mark) (leave : LeaveView) (more : Vec (Owed W) Global) → s.hand ≡ hand.Pin seg → length into ≡ seg.part.len →
    IsWritten s.bytes.items seg.at into bytes.items → IsTokenOf s.reading PinKind pin → leave ≡ leave_of pin seg.part → more.items ≡ s.owed.items ++ record { leave = leave; segment = owed_segment seg } ∷ [] →
    vec_capacity more ≡ vec_capacity s.owed → IsKept told files s → IsKept told files (record s { bytes = bytes; owed = more; hand = hand.Nothing; counts = record s.counts { directs = s.counts.directs + 1 } })
kept-owes {W = W} told files s seg bytes into pin leave more e long w token is put room kept =
    let was = at-hand told files s (hand.Pin seg) e kept in
    let placed = was.own.hand_is in
    let x : Owed W = record { leave = leave; segment = owed_segment seg } in
    let after : Waiting W = record { pendings = s.pendings.items; disks = s.disks.items; owed = more.items } in
    let fits : IsLeaveOf s.reading leave = record {
      client_is = ap (λ (l : LeaveView). l.client) is ∙ token.client_is;
      path_is = ap (λ (l : LeaveView). l.path) is ∙ token.path_is;
      size_is = ap (λ (l : LeaveView). l.size) is ∙ token.size_is;
      block_size_is = ap (λ (l : LeaveView). l.block_size) is ∙ token.block_size_is;
    } in
    let off = put-off s more.items leave seg put in
    let count : length more.items ≡ length s.owed.items + 1 = ap length put ∙ length-append s.owed.items (x ∷ []) in
    record {
      own = own-long _ _ _ _ _ _ after hand.Nothing w.long (own-put _ _ _ _ _ (waiting_of s) more.items leave seg (hand.Pin seg) put fits (ap (λ (l : LeaveView). l.part) is) placed was.own);
      counted = counted-long _ _ _ _ after _ _ _ _ w.long (counted-owed s.reading.size _ (spots_of s) _ _ (waiting_of s) after (hand.Pin seg) s.counts _ _ seg placed (given-pin seg) refl off was.counted);
      sound = sound-written _ _ _ _ s.bytes.items _ into (waiting_of s) after (hand.Pin seg) hand.Nothing _ seg w long
          (λ j. let m : weigh (covers j) after ≡ weigh (covers j) (waiting_of s) + covers j seg = off.each (covers j) in omega (arith, m)) (λ j. let m : weigh (covers j) after ≡ weigh (covers j) (waiting_of s) + covers j seg = off.each (covers j) in omega (arith, m)) was.sound;
      size_is = was.size_is;
      staged = record { hurt = was.staged.hurt; fetch = λ f. let h = was.staged.fetch f in let l = w.long in omega (arith, h, l); stands = tt };
      roomy = record { back = let b = was.roomy.back in omega (arith, b); on = let o = was.roomy.on in omega (arith, o); late = let l = was.roomy.late in omega (arith, l, count, room); none = was.roomy.none; unread = was.roomy.unread };
    }

-- a leave came in the place of the right to read from disk
pub kept-left : {W : Type 0} (told : Bool) (files : Files) (s : Inside W) (seg : Segment) (leave : LeaveView) (more : Vec (Owed W) Global) → s.hand ≡ hand.Disk seg → IsLeaveOf s.reading leave → leave.part ≡ seg.part →
    more.items ≡ s.owed.items ++ record { leave = leave; segment = owed_segment seg } ∷ [] → vec_capacity more ≡ vec_capacity s.owed → IsKept told files s →
    IsKept told files (record s { owed = more; hand = hand.Nothing; counts = record s.counts { directs = s.counts.directs + 1 } })
kept-left {W = W} told files s seg leave more e fits part put room kept =
    let was = at-hand told files s (hand.Disk seg) e kept in
    let placed = was.own.hand_is in
    let x : Owed W = record { leave = leave; segment = owed_segment seg } in
    let after : Waiting W = record { pendings = s.pendings.items; disks = s.disks.items; owed = more.items } in
    let off = put-off s more.items leave seg put in
    let count : length more.items ≡ length s.owed.items + 1 = ap length put ∙ length-append s.owed.items (x ∷ []) in
    let sound : IsSound told files s.reading s.pieces s.bytes.items (waiting_of s) (hand.Disk seg) s.met = was.sound in
    record {
      own = own-put _ _ _ _ _ (waiting_of s) more.items leave seg (hand.Disk seg) put fits part placed was.own;
      counted = counted-owed s.reading.size _ (spots_of s) _ _ (waiting_of s) after (hand.Disk seg) s.counts _ _ seg placed (given-disk seg) refl off was.counted;
      sound = record {
        short = sound.short;
        least = sound.least;
        most = sound.most;
        sized = sound.sized;
        long = sound.long;
        agrees = λ t none file at j low zero. let m : weigh (covers j) after ≡ weigh (covers j) (waiting_of s) + covers j seg = off.each (covers j) in sound.agrees t none file at j low (omega (arith, m, zero));
      };
      size_is = was.size_is;
      staged = record { hurt = was.staged.hurt; fetch = was.staged.fetch; stands = tt };
      roomy = record { back = let b = was.roomy.back in omega (arith, b); on = let o = was.roomy.on in omega (arith, o); late = let l = was.roomy.late in omega (arith, l, count, room); none = was.roomy.none; unread = was.roomy.unread };
    }

pub same-fill : (a b : Part) → ToFill a ≡ ToFill b → a ≡ b
same-fill a b e = cc

pub same-look : (a b : Part) → ToLook a ≡ ToLook b → a ≡ b
same-look a b e = cc

pub same-read : (a b : Part) → ToRead a ≡ ToRead b → a ≡ b
same-read a b e = cc
