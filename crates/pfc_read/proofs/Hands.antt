-- What is given out leaves its list.
use Rattle.std.proofs.Common.{Vec, Global, ◌≡◌, ◌+◌, ℕ, List, [], ◌∷◌, ◌++◌, length, map, refl, sym, ap, ◌∙◌, arith, subst, length-append, append-nil, inl, Some, Bool}
use Rattle.std.specs.Prelude.{sum_by, All, vec_capacity}
use Rattle.std.proofs.lemmas.List.{map-append}
use Rattle.std.proofs.lemmas.List.Elements.{All-pop}
use Rattle.std.proofs.lemmas.List.Sums.{sum_by-append, sum_by_push}
use Rattle.pfc_base.specs.Block.{IsPartOf}
use Rattle.pfc_core.specs.Marks.{Mark, TicketKind}
use Rattle.pfc_read.specs.declared.segment.Hand.{Hand}
use Rattle.pfc_read.specs.declared.segment.Hand.TheVariants as hand
use Rattle.pfc_read.specs.declared.segment.Found.{Found}
use Rattle.pfc_read.specs.declared.segment.Owed.{Owed}
use Rattle.pfc_read.specs.declared.segment.Pending.{Pending}
use Rattle.pfc_read.specs.declared.op.ReadOp.TheInside.{Inside}
use Rattle.pfc_read.specs.OpView.{Nothing}
use Rattle.pfc_read.specs.Segments.{in_pending, in_found, in_owed, pin_in, disk_in}
use Rattle.pfc_read.specs.Steps.{IsTokenOf}
use Rattle.pfc_read.specs.Kept.{given_of, spots_of, waiting_of, IsFit, IsFound, IsOwed, IsKept}
use Rattle.pfc_world.specs.Files.{Files}
use Rattle.pfc_read.proofs.Weights.{SameParts, counted-same, sound-same}

pub hand-empty : (h : Hand) → given_of h ≡ Nothing → h ≡ hand.Nothing
hand-empty hand.Nothing e = refl
hand-empty hand.Ticket e = cc
hand-empty (hand.Leave s) e = cc
hand-empty (hand.Pin s) e = cc
hand-empty (hand.Disk s) e = cc
hand-empty hand.End e = cc

-- nothing is given out
pub idle-kept : {W : Type 0} (told : Bool) (files : Files) (s : Inside W) → given_of s.hand ≡ Nothing → IsKept told files s → IsKept told files (record s { hand = hand.Nothing })
idle-kept told files s idle was = subst (λ h. IsKept told files (record s { hand = h })) (hand-empty s.hand idle) was

pub loses-last : (w : Mark → ℕ) (old new : List Mark) (m : Mark) → old ≡ new ++ m ∷ [] → sum_by w new + w m ≡ sum_by w old
loses-last w old new m e = sym (ap (sum_by w) e ∙ sum_by_push w new m)

pub last-long : {X : Type 0} (old new : List X) (x : X) → old ≡ new ++ x ∷ [] → length old ≡ length new + 1
last-long old new x e = ap length e ∙ length-append new (x ∷ [])

-- a ticket is given out
pub kept-run : {W : Type 0} (told : Bool) (files : Files) (s : Inside W) (rest : Vec Mark Global) (ticket : Mark) → given_of s.hand ≡ Nothing → s.tickets.items ≡ rest.items ++ ticket ∷ [] → IsKept told files s →
    IsKept told files (record s { tickets = rest; hand = hand.Ticket }) × IsTokenOf s.reading TicketKind ticket
kept-run {W = W} told files s rest ticket idle e kept =
    let was = idle-kept told files s idle kept in
    let split = All-pop (IsTokenOf s.reading TicketKind) s.tickets.items rest.items (Some ticket) e was.own.tickets_are in
    let same : SameParts (waiting_of s) (waiting_of s) hand.Nothing hand.Ticket = record { each = λ f. refl } in
    let long = last-long s.tickets.items rest.items ticket e in (
      record {
        own = record { tickets_are = split.0; pins_are = was.own.pins_are; pendings_are = was.own.pendings_are; disks_are = was.own.disks_are; owed_are = was.own.owed_are; hand_is = tt };
        counted = counted-same _ _ s.tickets.items rest.items (waiting_of s) (waiting_of s) hand.Nothing hand.Ticket s.counts _ _ same (let f = was.counted.flights in omega (arith, f, long)) was.counted.directs was.counted;
        sound = sound-same _ _ _ _ _ (waiting_of s) (waiting_of s) hand.Nothing hand.Ticket _ same was.sound;
        size_is = was.size_is;
        staged = record { hurt = was.staged.hurt; fetch = was.staged.fetch; stands = tt };
        roomy = record { back = was.roomy.back; on = was.roomy.on; late = was.roomy.late; none = was.roomy.none; unread = was.roomy.unread };
      },
      split.1,
    )

-- there is no ticket, and the list of tickets is another one that is empty
pub kept-flown : {W : Type 0} (told : Bool) (files : Files) (s : Inside W) (rest : Vec Mark Global) → s.tickets.items ≡ rest.items ++ [] → IsKept told files s → IsKept told files (record s { tickets = rest })
kept-flown {W = W} told files s rest e was =
    let tickets : s.tickets.items ≡ rest.items = e ∙ append-nil rest.items in
    let same : SameParts (waiting_of s) (waiting_of s) s.hand s.hand = record { each = λ f. refl } in
    record {
      own = record { tickets_are = subst (All (IsTokenOf s.reading TicketKind)) tickets was.own.tickets_are; pins_are = was.own.pins_are; pendings_are = was.own.pendings_are; disks_are = was.own.disks_are; owed_are = was.own.owed_are; hand_is = was.own.hand_is };
      counted = counted-same _ _ s.tickets.items rest.items (waiting_of s) (waiting_of s) s.hand s.hand s.counts _ _ same (let f = was.counted.flights in let l = ap length tickets in omega (arith, f, l)) was.counted.directs was.counted;
      sound = was.sound;
      size_is = was.size_is;
      staged = record { hurt = was.staged.hurt; fetch = was.staged.fetch; stands = subst (λ ts. Rattle.pfc_read.specs.Kept.Stands ts (waiting_of s) s.counts.failed s.hand) tickets was.staged.stands };
      roomy = record { back = was.roomy.back; on = was.roomy.on; late = was.roomy.late; none = was.roomy.none; unread = was.roomy.unread };
    }

-- a leave is given out
pub kept-fill : {W : Type 0} (told : Bool) (files : Files) (s : Inside W) (left : Vec (Owed W) Global) (owed : Owed W) → given_of s.hand ≡ Nothing → s.owed.items ≡ left.items ++ owed ∷ [] → vec_capacity left ≡ vec_capacity s.owed → IsKept told files s →
    IsKept told files (record s { owed = left; hand = hand.Leave owed.segment }) × IsOwed s.reading (spots_of s) (length s.bytes.items) owed
kept-fill {W = W} told files s left owed idle last room kept =
    let was = idle-kept told files s idle kept in
    let P : Owed W → Type 0 = IsOwed s.reading (spots_of s) (length s.bytes.items) in
    let split = All-pop P s.owed.items left.items (Some owed) last was.own.owed_are in
    let long = last-long s.owed.items left.items owed last in
    let after : Inside W = record s { owed = left; hand = hand.Leave owed.segment } in
    let same : SameParts (waiting_of s) (waiting_of after) hand.Nothing (hand.Leave owed.segment) = record {
      each = λ f. let l : sum_by (in_owed f) s.owed.items ≡ sum_by (in_owed f) left.items + f owed.segment = ap (sum_by (in_owed f)) last ∙ sum_by_push (in_owed f) left.items owed in omega (arith, l);
    } in (
      record {
        own = record { tickets_are = was.own.tickets_are; pins_are = was.own.pins_are; pendings_are = was.own.pendings_are; disks_are = was.own.disks_are; owed_are = split.0; hand_is = (split.1.placed, split.1.source_is) };
        counted = counted-same _ _ s.tickets.items s.tickets.items (waiting_of s) (waiting_of after) hand.Nothing (hand.Leave owed.segment) s.counts _ _ same was.counted.flights was.counted.directs was.counted;
        sound = sound-same _ _ _ _ _ (waiting_of s) (waiting_of after) hand.Nothing (hand.Leave owed.segment) _ same was.sound;
        size_is = was.size_is;
        staged = record { hurt = was.staged.hurt; fetch = was.staged.fetch; stands = tt };
        roomy = record { back = was.roomy.back; on = was.roomy.on; late = let l = was.roomy.late in omega (arith, l, long, room); none = was.roomy.none; unread = was.roomy.unread };
      },
      split.1,
    )

-- a pin is given out
pub kept-look : {W : Type 0} (told : Bool) (files : Files) (s : Inside W) (left : Vec (Pending W) Global) (p : Pending W) → given_of s.hand ≡ Nothing → s.pendings.items ≡ left.items ++ p ∷ [] → vec_capacity left ≡ vec_capacity s.pendings → IsKept told files s →
    IsKept told files (record s { pendings = left; hand = hand.Pin p.segment }) × IsFit s.reading (spots_of s) (length s.bytes.items) p
kept-look {W = W} told files s left p idle last room kept =
    let was = idle-kept told files s idle kept in
    let split = All-pop (IsFit s.reading (spots_of s) (length s.bytes.items)) s.pendings.items left.items (Some p) last was.own.pendings_are in
    let long = last-long s.pendings.items left.items p last in
    let after : Inside W = record s { pendings = left; hand = hand.Pin p.segment } in
    let same : SameParts (waiting_of s) (waiting_of after) hand.Nothing (hand.Pin p.segment) = record {
      each = λ f. let l : sum_by (in_pending f) s.pendings.items ≡ sum_by (in_pending f) left.items + f p.segment = ap (sum_by (in_pending f)) last ∙ sum_by_push (in_pending f) left.items p in omega (arith, l);
    } in (
      record {
        own = record { tickets_are = was.own.tickets_are; pins_are = was.own.pins_are; pendings_are = split.0; disks_are = was.own.disks_are; owed_are = was.own.owed_are; hand_is = split.1.placed };
        counted = counted-same _ _ s.tickets.items s.tickets.items (waiting_of s) (waiting_of after) hand.Nothing (hand.Pin p.segment) s.counts _ _ same was.counted.flights (let d = was.counted.directs in omega (arith, d, long)) was.counted;
        sound = sound-same _ _ _ _ _ (waiting_of s) (waiting_of after) hand.Nothing (hand.Pin p.segment) _ same was.sound;
        size_is = was.size_is;
        staged = record { hurt = was.staged.hurt; fetch = was.staged.fetch; stands = tt };
        roomy = record { back = let b = was.roomy.back in omega (arith, b, long, room); on = let o = was.roomy.on in omega (arith, o, long); late = let l = was.roomy.late in omega (arith, l, long); none = was.roomy.none; unread = was.roomy.unread };
      },
      split.1,
    )

-- the list of pins to look at is another one with the same pins
pub kept-looked : {W : Type 0} (told : Bool) (files : Files) (s : Inside W) (left : Vec (Pending W) Global) → s.pendings.items ≡ left.items ++ [] → vec_capacity left ≡ vec_capacity s.pendings → given_of s.hand ≡ Nothing → IsKept told files s →
    IsKept told files (record s { pendings = left; hand = hand.Nothing })
kept-looked {W = W} told files s left e room idle kept =
    let was = idle-kept told files s idle kept in
    let pendings : s.pendings.items ≡ left.items = e ∙ append-nil left.items in
    let long = ap length pendings in
    let after : Inside W = record s { pendings = left; hand = hand.Nothing } in
    let same : SameParts (waiting_of s) (waiting_of after) hand.Nothing hand.Nothing = record { each = λ f. let l = ap (sum_by (in_pending f)) pendings in omega (arith, l) } in
    record {
      own = record { tickets_are = was.own.tickets_are; pins_are = was.own.pins_are; pendings_are = subst (All (IsFit s.reading (spots_of s) (length s.bytes.items))) pendings was.own.pendings_are; disks_are = was.own.disks_are; owed_are = was.own.owed_are; hand_is = tt };
      counted = counted-same _ _ s.tickets.items s.tickets.items (waiting_of s) (waiting_of after) hand.Nothing hand.Nothing s.counts _ _ same was.counted.flights (let d = was.counted.directs in omega (arith, d, long)) was.counted;
      sound = sound-same _ _ _ _ _ (waiting_of s) (waiting_of after) hand.Nothing hand.Nothing _ same was.sound;
      size_is = was.size_is;
      staged = record { hurt = was.staged.hurt; fetch = was.staged.fetch; stands = tt };
      roomy = record { back = let b = was.roomy.back in omega (arith, b, long, room); on = let o = was.roomy.on in omega (arith, o, long); late = let l = was.roomy.late in omega (arith, l, long); none = was.roomy.none; unread = was.roomy.unread };
    }

-- a part on disk is given out
pub kept-read : {W : Type 0} (told : Bool) (files : Files) (s : Inside W) (left : Vec (Found W) Global) (x : Found W) → given_of s.hand ≡ Nothing → s.disks.items ≡ left.items ++ x ∷ [] → IsKept told files s →
    IsKept told files (record s { disks = left; hand = hand.Disk x.segment }) × IsFound s.reading (spots_of s) (length s.bytes.items) x
kept-read {W = W} told files s left x idle last kept =
    let was = idle-kept told files s idle kept in
    let split = All-pop (IsFound s.reading (spots_of s) (length s.bytes.items)) s.disks.items left.items (Some x) last was.own.disks_are in
    let long = last-long s.disks.items left.items x last in
    let after : Inside W = record s { disks = left; hand = hand.Disk x.segment } in
    let same : SameParts (waiting_of s) (waiting_of after) hand.Nothing (hand.Disk x.segment) = record {
      each = λ f. let l : sum_by (in_found f) s.disks.items ≡ sum_by (in_found f) left.items + f x.segment = ap (sum_by (in_found f)) last ∙ sum_by_push (in_found f) left.items x in omega (arith, l);
    } in (
      record {
        own = record { tickets_are = was.own.tickets_are; pins_are = was.own.pins_are; pendings_are = was.own.pendings_are; disks_are = split.0; owed_are = was.own.owed_are; hand_is = split.1.placed };
        counted = counted-same _ _ s.tickets.items s.tickets.items (waiting_of s) (waiting_of after) hand.Nothing (hand.Disk x.segment) s.counts _ _ same was.counted.flights (let d = was.counted.directs in omega (arith, d, long)) was.counted;
        sound = sound-same _ _ _ _ _ (waiting_of s) (waiting_of after) hand.Nothing (hand.Disk x.segment) _ same was.sound;
        size_is = was.size_is;
        staged = record { hurt = was.staged.hurt; fetch = was.staged.fetch; stands = tt };
        roomy = record { back = was.roomy.back; on = was.roomy.on; late = let l = was.roomy.late in omega (arith, l, long); none = was.roomy.none; unread = let u = was.roomy.unread in omega (arith, u, long) };
      },
      split.1,
    )

-- there is nothing more to do
pub kept-end : {W : Type 0} (told : Bool) (files : Files) (s : Inside W) (left : Vec (Found W) Global) → s.tickets.items ≡ [] → s.owed.items ≡ [] → s.pendings.items ≡ [] → s.disks.items ≡ left.items ++ [] → left.items ≡ [] → given_of s.hand ≡ Nothing →
    IsKept told files s → IsKept told files (record s { disks = left; hand = hand.End })
kept-end {W = W} told files s left flown filled looked e none idle kept =
    let was = idle-kept told files s idle kept in
    let disks : s.disks.items ≡ left.items = e ∙ append-nil left.items in
    let long = ap length disks in
    let after : Inside W = record s { disks = left; hand = hand.End } in
    let same : SameParts (waiting_of s) (waiting_of after) hand.Nothing hand.End = record { each = λ f. let l = ap (sum_by (in_found f)) disks in omega (arith, l) } in
    record {
      own = record { tickets_are = was.own.tickets_are; pins_are = was.own.pins_are; pendings_are = was.own.pendings_are; disks_are = subst (All (IsFound s.reading (spots_of s) (length s.bytes.items))) disks was.own.disks_are; owed_are = was.own.owed_are; hand_is = tt };
      counted = counted-same _ _ s.tickets.items s.tickets.items (waiting_of s) (waiting_of after) hand.Nothing hand.End s.counts _ _ same was.counted.flights (let d = was.counted.directs in omega (arith, d, long)) was.counted;
      sound = sound-same _ _ _ _ _ (waiting_of s) (waiting_of after) hand.Nothing hand.End _ same was.sound;
      size_is = was.size_is;
      staged = record { hurt = was.staged.hurt; fetch = was.staged.fetch; stands = (flown, filled, inl (looked, none)) };
      roomy = record { back = was.roomy.back; on = was.roomy.on; late = let l = was.roomy.late in omega (arith, l, long); none = was.roomy.none; unread = let u = was.roomy.unread in omega (arith, u, long) };
    }

pub pins-look : {W : Type 0} (w : Mark → ℕ) (pendings rest : List (Pending W)) (p : Pending W) (pins : List Mark) → pendings ≡ rest ++ p ∷ [] →
    sum_by w (map pin_in rest ++ pins) + w p.pin ≡ sum_by w (map pin_in pendings ++ pins)
pins-look w pendings rest p pins e =
    let a = sum_by-append w (map pin_in rest) pins in
    let b = sum_by-append w (map pin_in pendings) pins in
    let s : sum_by w (map pin_in pendings) ≡ sum_by w (map pin_in rest) + w p.pin = ap (sum_by w) (ap (map pin_in) e ∙ map-append pin_in rest (p ∷ [])) ∙ sum_by_push w (map pin_in rest) p.pin in
    omega (arith, a, b, s)

pub disks-read : {W : Type 0} (w : Mark → ℕ) (disks rest : List (Found W)) (x : Found W) → disks ≡ rest ++ x ∷ [] → sum_by w (map disk_in rest) + w x.disk ≡ sum_by w (map disk_in disks)
disks-read w disks rest x e = sym (ap (sum_by w) (ap (map disk_in) e ∙ map-append disk_in rest (x ∷ [])) ∙ sum_by_push w (map disk_in rest) x.disk)

-- in the token's own terms
pub found-part : {W : Type 0} (reading : Mark) (spot_at : ℕ → ℕ) (total : ℕ) (x : Found W) → IsFound reading spot_at total x → IsPartOf x.disk.size x.disk.block_size x.segment.part
found-part reading spot_at total x is =
    let token = is.disk_for.token in
    subst (λ s. IsPartOf s x.disk.block_size x.segment.part) (sym token.size_is) (subst (λ k. IsPartOf reading.size k x.segment.part) (sym token.block_size_is) is.placed.part_of)
