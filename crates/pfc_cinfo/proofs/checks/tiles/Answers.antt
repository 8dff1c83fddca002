use Rattle.std.proofs.Common.{Some, None, if◌then◌else◌, sym, ap, ◌∙◌}
use Rattle.pfc_base.specs.Block.{count_of}
use Rattle.pfc_cinfo.proofs.Counts.{is_tiled-true}
use Rattle.pfc_cinfo.proofs.checks.tiles.Goals as goal

pub returns : goal.returns
returns c =
    let is = sym c.block_size_fits.ensures ∙ c.if-not-block_size_fits.false in
    sym (ap (λ b. if b then Some (count_of c.args.size c.args.k) else None) (is_tiled-true c.args.k c.args.size is c.if-size-k.false))
