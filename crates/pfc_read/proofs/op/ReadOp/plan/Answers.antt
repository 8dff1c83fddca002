use Rattle.std.proofs.Common.{◌≡◌, ◌+◌, ◌∙◌, ℕ, List, length, map, take, drop, refl, sym, ap, arith, subst}
use Rattle.std.proofs.lemmas.List.{length-map, length-take, take-append-drop}
use Rattle.pfc_base.specs.declared.block.Part.{Part}
use Rattle.pfc_world.specs.Files.{HasSize}
use Rattle.pfc_base.specs.declared.block.Piece.{Piece}
use Rattle.pfc_span.specs.Pieces.{pieces_in, total_of, spot}
use Rattle.pfc_span.specs.Tiling.{TileInTurn}
use Rattle.pfc_log.specs.Tallies.{tally}
use Rattle.pfc_core.specs.View.{CoreView}
use Rattle.pfc_read.specs.declared.segment.Hand.TheVariants as hand
use Rattle.pfc_read.specs.Draft.{AsksAll, waiting_in}
use Rattle.pfc_read.specs.Kept.{AreOwn}
use Rattle.pfc_read.specs.Plans.{with_asked}
use Rattle.pfc_read.proofs.Planned.{IsPlanned, planned-own, planned-counted, planned-sound, planned-staged, drop-all, pins-number, disks-number, pins-alone}
use Rattle.pfc_read.proofs.op.ReadOp.plan.Goals as goal

pub invariant_of-result : goal.invariant_of-result
invariant_of-result g c =
    let old = c.args.core.now in
    let parts : List Part = map (λ x. x.1) c.in_ok-parts.parts.items in
    let bytes = c.in_ok-parts.bytes.items in
    let draft = c.ask_all-met.new.self in
    let asks = subst (λ ps. AsksAll c.begin_read.new.self c.args.n (map (λ x. x.1) ps) draft c.ask_all-met.result c.ask_all-met.new.core) c.deref.ensures.value c.ask_all-met.ensures in
    let size : c.size-size.result ≡ old.size = c.size-size.ensures ∙ c.known.ensures.size in
    let list : List Piece = pieces_in c.args.pieces in
    let shown : c.as_slice.result.now ≡ list = c.as_slice.ensures.all in
    let laid : TileInTurn c.size-size.result c.block_size.result list parts = subst (λ ps. TileInTurn c.size-size.result c.block_size.result ps parts) shown c.in_ok-parts.ensures.parts in
    let plan : IsPlanned g.W.World.told g.W.World.files old c.begin_read.new.self c.args.n c.args.pieces c.in-Ok-begin_read.reading parts (length bytes) asks.number draft c.ask_all-met.result c.ask_all-met.new.core = record {
      short = c.requires.pieces;
      least = c.requires.least;
      most = let m = c.block_size.ensures.most in let i = c.block_size.ensures.is in omega (arith, m, i);
      sized = subst (λ p. HasSize g.W.World.told g.W.World.files p old.size) c.known.ensures.path (subst (λ s. HasSize g.W.World.told g.W.World.files c.known.result.now.path s) c.known.ensures.size c.known.result.now.right);
      begins = c.in-Ok-begin_read.ensures.ok;
      tiles = subst (λ s. TileInTurn s old.block_size list parts) size (subst (λ k. TileInTurn c.size-size.result k list parts) c.block_size.ensures.is laid);
      long = sym c.in_ok-parts.bytes.ok.0 ∙ c.in_ok-parts.ensures.bytes ∙ (λ i. total_of (size i) (shown i));
      within = asks.within;
      asked = asks.asked;
      all = asks.all;
      met_is = asks.met_is;
    } in
    let told = g.W.World.told in
    let files = g.W.World.files in
    let mid = c.begin_read.new.self in
    let new = c.ask_all-met.new.core in
    let n = c.args.n in
    let r = c.in-Ok-begin_read.reading in
    let spot_at : ℕ → ℕ = spot r.size list in
    let met = c.ask_all-met.result in
    let own = planned-own told files old mid n c.args.pieces r parts (length bytes) asks.number draft met new plan in
    let none = c.in_ok-pins.ensures.items in
    let all : length parts ≡ length c.in_ok-parts.parts.items = length-map c.in_ok-parts.parts.items (λ x. x.1) in
    let len = c.in_ok-parts.parts.ok in
    let asked = asks.asked.number_is in
    let most = asks.within in
    record {
      size_is = size ∙ sym c.in-Ok-begin_read.ensures.ok.reads.size_is;
      own = subst (λ qs. AreOwn r spot_at (length bytes) draft.tickets.items qs (waiting_in draft) hand.Nothing) (sym none) own;
      counted = planned-counted told files old mid n c.args.pieces r parts (length bytes) asks.number draft met new plan;
      sound = planned-sound told files old mid n c.args.pieces r parts bytes asks.number draft met new plan;
      staged = planned-staged (length bytes) draft.tickets.items (waiting_in draft) draft.counts.failed met asks.asked.failed_is asks.met_is;
      roomy = record {
        back = let room = asks.pending_room in omega (arith, asked, most, room);
        on = let count = c.len.ensures in let exact = c.in_ok-pins.ensures.exact in let zero = ap length none in omega (arith, asked, most, all, len, count, exact, zero);
        late = let room = asks.owed_room in omega (arith, asked, most, room);
        none = c.in-Ok.ensures.items;
        unread = let count = c.len-3.ensures in let exact = c.in-Ok.ensures.exact in omega (arith, asked, most, all, len, count, exact);
      };
    }

pub returns-clause-ok : goal.returns-clause-ok
returns-clause-ok g c =
    let old = c.args.core.now in
    let parts : List Part = map (λ x. x.1) c.in_ok-parts.parts.items in
    let draft = c.ask_all-met.new.self in
    let asks = subst (λ ps. AsksAll c.begin_read.new.self c.args.n (map (λ x. x.1) ps) draft c.ask_all-met.result c.ask_all-met.new.core) c.deref.ensures.value c.ask_all-met.ensures in
    let size : c.size-size.result ≡ old.size = c.size-size.ensures ∙ c.known.ensures.size in
    let list : List Piece = pieces_in c.args.pieces in
    let shown : c.as_slice.result.now ≡ list = c.as_slice.ensures.all in
    let laid : TileInTurn c.size-size.result c.block_size.result list parts = subst (λ ps. TileInTurn c.size-size.result c.block_size.result ps parts) shown c.in_ok-parts.ensures.parts in
    let tiles = subst (λ s. TileInTurn s old.block_size list parts) size (subst (λ k. TileInTurn c.size-size.result k list parts) c.block_size.ensures.is laid) in
    let begins = c.in-Ok-begin_read.ensures.ok in
    let asked = asks.asked in
    let entries : c.begin_read.new.self.entries ≡ old.entries = ap (λ (v : CoreView). v.entries) begins.rest in
    let front : length (take asks.number parts) ≡ asks.number = (let t = length-take asks.number parts in let w = asks.within in omega (arith, t, w)) in
    record {
      pieces_is = refl;
      idle = refl;
      failed_is = asked.failed_is;
      leaves_is = asked.leaves_is;
      met_is = asks.met_is;
      decided = take asks.number parts;
      rest = drop asks.number parts;
      tiles = subst (TileInTurn old.size old.block_size list) (sym (take-append-drop asks.number parts)) tiles;
      all = λ none. drop-all asks.number parts (asks.all none);
      number = asked.counts ∙ sym front;
      looks_is = (λ i. length draft.pendings.items + disks-number draft.disks.items i + length draft.owed.items) ∙ asked.number_is ∙ sym front;
      pins_are = pins-number draft.pendings.items c.in_ok-pins.pins.items c.in_ok-pins.ensures.items;
      mid = c.begin_read.new.self;
      begins = begins;
      decides = asked.decides;
      gains = λ w.
          let b = begins.gains w in
          let a = asked.gains w in
          let p = pins-alone w draft.pendings.items c.in_ok-pins.pins.items c.in_ok-pins.ensures.items in
          omega (arith, a, b, p);
      unchanged = asked.unchanged ∙ ap (λ (v : CoreView). record v { entries = c.ask_all-met.new.core.entries; out = c.ask_all-met.new.core.out }) begins.rest;
      mine = asked.mine ∙ ap (λ es. with_asked (tally c.args.n es) draft.counts.hits draft.counts.waits draft.counts.directs) entries;
      others = λ m ne. asked.others m ne ∙ ap (tally m) entries;
    }
