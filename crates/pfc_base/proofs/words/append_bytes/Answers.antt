use Rattle.std.proofs.Common.{◌++◌, ◌%◌, ◌∙◌, ap, arith, take, is_ok, if◌then◌else◌}
use Rattle.pfc_base.specs.Words.{bytes_of}
use Rattle.pfc_base.proofs.Bytes.{appended-whole, appended-part}
use Rattle.pfc_base.proofs.words.append_bytes.Goals as goal

pub returns-in_default-clause-ok : goal.returns-in_default-clause-ok
returns-in_default-clause-ok c =
    let at = c.split_at.ensures in
    appended-whole c.args.words.now c.split_at.result.0.now c.split_at.result.1.now c.args.into.now.items c.loop-w.into.items c.args.count c.loop-w.w-index
    at.front at.back (omega (arith, at.back_len)) c.in_default.len_below c.loop-w-test.false (c.loop-w.invariant.written ∙ ap (λ b. b ++ bytes_of (take c.loop-w.w-index c.split_at.result.0.now)) c.reserve.ensures.items)

pub returns-in-len1-up-clause-ok : goal.returns-in-len1-up-clause-ok
returns-in-len1-up-clause-ok c =
    let at = c.split_at.ensures in
    let added = c.extend_from_slice-in-len1-up.ensures.items ∙ ap (λ r. (if is_ok r then c.loop-w.into.items ++ take (c.args.count % 8) c.to_le_bytes-in-len1-up.result else c.loop-w.into.items)) c.unwrap-in-len1-up.ensures
    ∙ ap (λ b. c.loop-w.into.items ++ take (c.args.count % 8) b) c.to_le_bytes-in-len1-up.ensures in
    appended-part c.args.words.now c.split_at.result.0.now c.split_at.result.1.now c.args.into.now.items c.loop-w.into.items c.extend_from_slice-in-len1-up.new.self.items c.args.count c.loop-w.w-index
    at.front at.back (omega (arith, at.back_len)) c.in-len1-up.len_at_least c.loop-w-test.false (c.loop-w.invariant.written ∙ ap (λ b. b ++ bytes_of (take c.loop-w.w-index c.split_at.result.0.now)) c.reserve.ensures.items) added
