use Rattle.std.proofs.Common.{◌++◌, ap, ◌∙◌}
use Rattle.pfc_client.specs.Vectors.{vector_text}
use Rattle.pfc_client.proofs.Vectors.{vector-told}
use Rattle.pfc_client.proofs.vector.push_vector.Goals as goal

pub returns : goal.returns
returns c =
    let inside = c.vector.inside in
    let old = c.args.out.now.items in
    let third = rw (c.as_slice-pieces.ensures.all, c.deref.ensures.value) at c.in_ok-push_pieces.ensures in
    let second = rw c.as_slice-pieces.ensures.all at c.in_ok-push_number.ensures.ok in
    vector-told inside.size inside.pieces inside.bytes.items old c.push_word.new.out.items c.push_number.new.out.items c.push_pieces.new.out.items c.in_ok-push_word.ensures.ok second third
    ∙ ap (λ parts. old ++ vector_text parts) c.vector.view_is
