use Rattle.std.proofs.Common.{sym, ap, ◌∙◌}
use Rattle.pfc_base.specs.Crc.{all_ones, after_bytes}
use Rattle.pfc_base.proofs.CrcLinear.{after_bytes_append}
use Rattle.pfc_base.proofs.crc.Crc.feed.Goals as goal

pub returns-clause-fed : goal.returns-clause-fed
returns-clause-fed c = λ before fed.
    c.run-self-inside.ensures ∙ ap (λ k. after_bytes k c.args.bytes.now) (c.self.view_is ∙ fed)
    ∙ sym (after_bytes_append before c.args.bytes.now all_ones)
