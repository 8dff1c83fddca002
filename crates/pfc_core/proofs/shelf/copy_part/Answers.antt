use Rattle.std.proofs.Common.{◌≡◌, ◌+◌, ◌-◌, ◌*◌, ℕ, List, take, drop, arith, rules, ap, ◌∙◌}
use Rattle.pfc_core.proofs.Parts.{holds_part}
use Rattle.pfc_core.proofs.shelf.copy_part.Goals as goal

pub returns-clause-bytes : goal.returns-clause-bytes
returns-clause-bytes g c = let part = c.args.part in let block = c.args.block.now in let bytes = block.bytes.items in
    let from_len : (part.from + part.len) - part.from ≡ part.len = omega arith in
    let is : c.copy_from_slice.new.self ≡ take part.len (drop part.from bytes) = c.copy_from_slice.ensures.after ∙ ap (λ (b : List ℕ). take ((part.from + part.len) - part.from) (drop part.from b)) c.bytes.ensures.bytes ∙ ap (λ (n : ℕ). take n (drop part.from bytes)) from_len in
    rw (is, ← c.requires.block) (holds_part g.W.World.told g.W.World.files block.known.path (block.number * block.block_size) part.from part.len bytes (search rules) block.right)
