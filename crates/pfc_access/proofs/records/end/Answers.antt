use Rattle.std.proofs.Common.{◌≡◌, suc, ◌-◌, ◌∙◌, length, set, sym, ap, arith}
use Rattle.pfc_access.specs.Records as access
use Rattle.pfc_access.proofs.Newest.{newest_end}
use Rattle.pfc_access.proofs.records.end.Goals as goal

pub returns-clause-ended : goal.returns-clause-ended
returns-clause-ended c =
    let xs = c.args.items.now.items in let n = c.len-last.result - 1 in
    let long : length xs ≡ suc n = omega (arith, c.len-last.ensures, c.requires) in
    let end = access.ended c.args.now c.args.served.now c.args.ios in
    ap (set xs n) (c.ended.ensures ∙ ap end c.index.ensures) ∙ sym (newest_end end xs n c.index.result.now long)
