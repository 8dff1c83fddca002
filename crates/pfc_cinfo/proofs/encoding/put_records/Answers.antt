use Rattle.pfc_cinfo.proofs.Encoded.{written-step, fits-step}
use Rattle.pfc_cinfo.proofs.encoding.put_records.Goals as goal

pub loop-record-preserved : goal.loop-record-preserved
loop-record-preserved c =
    let records = c.args.records.now in
    let i = c.loop-record.record-index in
    let record' = c.record-item.result in
    record {
      written = written-step c.args.out.now.items c.loop-record.out.items c.put_record.new.out.items records i record' c.loop-record-test.true c.record-item.is c.loop-record.invariant.written c.in_ok-put_record.ensures.written;
      fits = fits-step records i record' c.loop-record-test.true c.record-item.is c.loop-record.invariant.fits c.in_ok-put_record.ensures.fits;
    }
