use Rattle.std.proofs.Common.{◌≡◌, ◌≤◌, [], ◌∷◌, ◌++◌, length, ◌∙◌, arith}
use Rattle.std.proofs.lemmas.Grind.{common_steps}
use Rattle.pfc_cinfo.proofs.RecordsRead.{read-step, read-all}
use Rattle.pfc_cinfo.proofs.Reserved.{room-step}
use Rattle.pfc_cinfo.proofs.decoding.read_records.Goals as goal

pub loop-preserved : goal.loop-preserved
loop-preserved c =
    let bytes = c.loop.rest.now in
    let room : 64 ≤ length bytes = omega (arith, c.loop-test.true, c.loop.invariant.room) in
    let pushed : c.push.new.self.items ≡ c.loop.records.items ++ c.read_record.result ∷ [] = grind (arith, common_steps) in
    record {
      whole = read-step c.args.count c.loop.counter c.loop.records.items c.push.new.self.items c.read_record.result bytes c.loop-test.true c.read_record.ensures pushed ∙ c.loop.invariant.whole;
      room = omega (arith, room-step c.args.count c.loop.counter bytes c.loop-test.true room, c.loop.invariant.room);
    }

pub returns : goal.returns
returns c = read-all c.args.count c.loop.counter c.loop.records.items c.loop.rest.now c.loop-test.false ∙ c.loop.invariant.whole
