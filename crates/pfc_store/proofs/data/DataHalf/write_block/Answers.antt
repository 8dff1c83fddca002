use Rattle.std.proofs.Common.{◌≡◌, ◌<◌, ◌*◌, Bool, List, Option, true, false, length, sym, ◌∙◌, ap, subst, slice_set, is_none, arith}
use Rattle.std.proofs.lemmas.List.{length-set}
use Rattle.pfc_base.specs.Block.{block_of, count_of}
use Rattle.pfc_base.specs.BlockSet.{is_member}
use Rattle.pfc_store.specs.Blocks.{HasStored, IsDataHalf}
use Rattle.pfc_store.specs.declared.broken.Broken.{Broken}
use Rattle.pfc_store.proofs.Stored.{solid_now, solid_done, solid_broke, stored_done, stored_broke, within_set, block_bytes}
use Rattle.pfc_store.proofs.data.DataHalf.write_block.Goals as goal

pub returns-in-Some-clause-solid : goal.returns-in-Some-clause-solid
returns-in-Some-clause-solid g c = rw (← c.self.view_is) (λ told file is tells. let s = c.self.inside in solid_now file s.block_size s.durable s.written _ (g.D.DataDev.seen s.device) (c.self.invariant.stored told file is tells))

pub returns-then-test-clause-solid : goal.returns-then-test-clause-solid
returns-then-test-clause-solid g c = rw (← c.self.view_is) (λ told file is tells. let s = c.self.inside in solid_now file s.block_size s.durable s.written _ (g.D.DataDev.seen s.device) (c.self.invariant.stored told file is tells))

pub returns-in-Ok-clause-solid : goal.returns-in-Ok-clause-solid
returns-in-Ok-clause-solid g c =
    let s = c.self.inside in
    let j = c.args.block.now.number in
    let b = c.args.block.now in
    let path : b.known.path ≡ s.known.path = c.requires.path ∙ sym (ap (λ v. v.path) c.self.view_is) in
    let size : b.known.size ≡ s.known.size = c.requires.size ∙ sym (ap (λ v. v.size) c.self.view_is) in
    let block_size : b.block_size ≡ s.block_size = c.requires.block_size ∙ sym (ap (λ v. v.block_size) c.self.view_is) in
    rw (← c.self.view_is) (λ told file is tells.
    let same : c.bytes.result.now ≡ block_of file s.block_size j = c.bytes.ensures.bytes ∙ block_bytes g.W.World.told g.W.World.files s.known.path b.known.path b.bytes.items file s.known.size b.known.size s.block_size b.block_size j s.known.right b.whole b.right path size block_size told is in
    let place : c.place_of-at.result ≡ j * s.block_size = omega (arith, c.place_of-at.ensures, ap (λ n. n * s.block_size) c.number-number.ensures) in
    let fresh : is_member s.written j ≡ false = ap (is_member s.written) (sym c.number-number.ensures) ∙ sym c.test.ensures ∙ c.if-test.false in
    let keeps : HasStored file s.block_size s.durable s.written true (g.D.DataDev.seen s.device).now = subst (λ (f : Option Broken). HasStored file s.block_size s.durable s.written (is_none f) (g.D.DataDev.seen s.device).now) c.in-None.is (c.self.invariant.stored told file is tells) in
    solid_done file s.block_size j c.place_of-at.result c.bytes.result.now s.durable s.written (g.D.DataDev.seen s.device) (g.D.DataDev.seen c.write_at.new.self) c.self.invariant.nested place same fresh keeps (c.in-Ok.ensures.write tells))

pub returns-in-Err-clause-solid : goal.returns-in-Err-clause-solid
returns-in-Err-clause-solid g c =
    let s = c.self.inside in
    let j = c.args.block.now.number in
    let b = c.args.block.now in
    let path : b.known.path ≡ s.known.path = c.requires.path ∙ sym (ap (λ v. v.path) c.self.view_is) in
    let size : b.known.size ≡ s.known.size = c.requires.size ∙ sym (ap (λ v. v.size) c.self.view_is) in
    let block_size : b.block_size ≡ s.block_size = c.requires.block_size ∙ sym (ap (λ v. v.block_size) c.self.view_is) in
    rw (← c.self.view_is) (λ told file is tells.
    let same : c.bytes.result.now ≡ block_of file s.block_size j = c.bytes.ensures.bytes ∙ block_bytes g.W.World.told g.W.World.files s.known.path b.known.path b.bytes.items file s.known.size b.known.size s.block_size b.block_size j s.known.right b.whole b.right path size block_size told is in
    let place : c.place_of-at.result ≡ j * s.block_size = omega (arith, c.place_of-at.ensures, ap (λ n. n * s.block_size) c.number-number.ensures) in
    let fresh : is_member s.written j ≡ false = ap (is_member s.written) (sym c.number-number.ensures) ∙ sym c.test.ensures ∙ c.if-test.false in
    let keeps : HasStored file s.block_size s.durable s.written true (g.D.DataDev.seen s.device).now = subst (λ (f : Option Broken). HasStored file s.block_size s.durable s.written (is_none f) (g.D.DataDev.seen s.device).now) c.in-None.is (c.self.invariant.stored told file is tells) in
    solid_broke file s.block_size j c.place_of-at.result c.bytes.result.now s.durable s.written (g.D.DataDev.seen s.device) (g.D.DataDev.seen c.write_at.new.self) c.self.invariant.nested place same fresh keeps (c.in-Err.ensures.write tells))

pub invariant_of-self-in-Err : goal.invariant_of-self-in-Err
invariant_of-self-in-Err g c =
    let s = c.self.inside in
    let j = c.args.block.now.number in
    let b = c.args.block.now in
    let path : b.known.path ≡ s.known.path = c.requires.path ∙ sym (ap (λ v. v.path) c.self.view_is) in
    let size : b.known.size ≡ s.known.size = c.requires.size ∙ sym (ap (λ v. v.size) c.self.view_is) in
    let block_size : b.block_size ≡ s.block_size = c.requires.block_size ∙ sym (ap (λ v. v.block_size) c.self.view_is) in
    record {
      tiled = c.self.invariant.tiled;
      bounds = c.self.invariant.bounds;
      nested = c.self.invariant.nested;
      stored = λ told file is tells.
          let same : c.bytes.result.now ≡ block_of file s.block_size j = c.bytes.ensures.bytes ∙ block_bytes g.W.World.told g.W.World.files s.known.path b.known.path b.bytes.items file s.known.size b.known.size s.block_size b.block_size j s.known.right b.whole b.right path size block_size told is in
          let place : c.place_of-at.result ≡ j * s.block_size = omega (arith, c.place_of-at.ensures, ap (λ n. n * s.block_size) c.number-number.ensures) in
          let fresh : is_member s.written j ≡ false = ap (is_member s.written) (sym c.number-number.ensures) ∙ sym c.test.ensures ∙ c.if-test.false in
          let keeps : HasStored file s.block_size s.durable s.written true (g.D.DataDev.seen s.device).now = subst (λ (f : Option Broken). HasStored file s.block_size s.durable s.written (is_none f) (g.D.DataDev.seen s.device).now) c.in-None.is (c.self.invariant.stored told file is tells) in
          stored_broke file s.block_size j c.place_of-at.result c.bytes.result.now s.durable s.written (g.D.DataDev.seen s.device) (g.D.DataDev.seen c.write_at.new.self) c.self.invariant.nested place same fresh keeps (c.in-Err.ensures.write tells);
    }

pub invariant_of-self : goal.invariant_of-self
invariant_of-self g c =
    let s = c.self.inside in
    let j = c.args.block.now.number in
    let b = c.args.block.now in
    let path : b.known.path ≡ s.known.path = c.requires.path ∙ sym (ap (λ v. v.path) c.self.view_is) in
    let size : b.known.size ≡ s.known.size = c.requires.size ∙ sym (ap (λ v. v.size) c.self.view_is) in
    let block_size : b.block_size ≡ s.block_size = c.requires.block_size ∙ sym (ap (λ v. v.block_size) c.self.view_is) in
    let below : j < length s.written = subst (λ n. j < n) (sym c.self.invariant.tiled.whole) (subst (λ n. j < count_of n s.block_size) size (subst (λ n. j < count_of b.known.size n) block_size b.whole.1)) in
    let set : c.set.new.self ≡ slice_set s.written j true = c.set.ensures ∙ ap (λ n. slice_set s.written n true) c.number-number.ensures in
    let all : IsDataHalf g.W.World.told g.W.World.files g.D.DataDev.told s.known.path s.known.size s.block_size s.durable (slice_set s.written j true) s.frozen (g.D.DataDev.seen c.write_at.new.self).now = record {
      tiled = rw length-set c.self.invariant.tiled;
      bounds = c.self.invariant.bounds ∙ sym (length-set s.written j true);
      nested = within_set s.durable s.written j below c.self.invariant.nested;
      stored = λ told file is tells.
          let same : c.bytes.result.now ≡ block_of file s.block_size j = c.bytes.ensures.bytes ∙ block_bytes g.W.World.told g.W.World.files s.known.path b.known.path b.bytes.items file s.known.size b.known.size s.block_size b.block_size j s.known.right b.whole b.right path size block_size told is in
          let place : c.place_of-at.result ≡ j * s.block_size = omega (arith, c.place_of-at.ensures, ap (λ n. n * s.block_size) c.number-number.ensures) in
          let fresh : is_member s.written j ≡ false = ap (is_member s.written) (sym c.number-number.ensures) ∙ sym c.test.ensures ∙ c.if-test.false in
          let keeps : HasStored file s.block_size s.durable s.written true (g.D.DataDev.seen s.device).now = subst (λ (f : Option Broken). HasStored file s.block_size s.durable s.written (is_none f) (g.D.DataDev.seen s.device).now) c.in-None.is (c.self.invariant.stored told file is tells) in
          subst (λ (f : Option Broken). HasStored file s.block_size s.durable (slice_set s.written j true) (is_none f) (g.D.DataDev.seen c.write_at.new.self).now) (sym c.in-None.is) (stored_done file s.block_size j c.place_of-at.result c.bytes.result.now s.durable s.written (g.D.DataDev.seen s.device) (g.D.DataDev.seen c.write_at.new.self) c.self.invariant.nested place same fresh keeps (c.in-Ok.ensures.write tells));
    } in
    subst (λ (w : List Bool). IsDataHalf g.W.World.told g.W.World.files g.D.DataDev.told s.known.path s.known.size s.block_size s.durable w s.frozen (g.D.DataDev.seen c.write_at.new.self).now) (sym set) all
