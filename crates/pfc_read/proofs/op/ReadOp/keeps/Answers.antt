use Rattle.std.proofs.Common.{◌≤◌, length, arith, subst}
use Rattle.std.specs.Prelude.{All}
use Rattle.pfc_span.specs.Pieces.{pieces_in, asked_of}
use Rattle.pfc_span.proofs.Spots.{total-asked}
use Rattle.pfc_core.specs.Marks.{PinKind, DiskKind}
use Rattle.pfc_read.specs.OpView.{OpView}
use Rattle.pfc_read.specs.Steps.{IsTokenOf}
use Rattle.pfc_read.specs.Kept.{spots_of}
use Rattle.pfc_read.proofs.Ended.{pins-own, disks-own}
use Rattle.pfc_read.proofs.op.ReadOp.keeps.Goals as goal

pub returns-clause-pins : goal.returns-clause-pins
returns-clause-pins g c =
    let s = c.self.inside in
    let own = c.self.invariant.own in
    subst (λ (v : OpView). All (IsTokenOf v.reading PinKind) v.pins) c.self.view_is (pins-own s.reading (spots_of s) (length s.bytes.items) s.pendings.items s.pins.items own.pendings_are own.pins_are)

pub returns-clause-disks : goal.returns-clause-disks
returns-clause-disks g c =
    let s = c.self.inside in
    subst (λ (v : OpView). All (IsTokenOf v.reading DiskKind) v.disks) c.self.view_is (disks-own s.reading (spots_of s) (length s.bytes.items) s.disks.items c.self.invariant.own.disks_are)

pub returns-clause-few : goal.returns-clause-few
returns-clause-few g c =
    let s = c.self.inside in
    let counted = c.self.invariant.counted in
    let flights = counted.flights in
    let parts = counted.parts in
    let long = c.self.invariant.sound.long in
    let most = total-asked s.reading.size (pieces_in s.pieces) in
    let few : s.counts.failed ≤ asked_of (pieces_in s.pieces) = omega (arith, flights, parts, long, most) in
    subst (λ (v : OpView). v.failed ≤ asked_of (pieces_in v.pieces)) c.self.view_is few
