use Rattle.std.proofs.Common.{sym, subst, ◌∙◌}
use Rattle.pfc_base.specs.Number.{decimal_of}
use Rattle.pfc_base.specs.Pieces.{pieces_of}
use Rattle.pfc_client.specs.Requests.{few_pieces, request_of, OpensNothing}
use Rattle.pfc_client.proofs.Vectors.{opens-nothing, short-line, any-err}
use Rattle.pfc_client.proofs.request.read_request.Goals as goal

pub returns-in-Some-clause-memory : goal.returns-in-Some-clause-memory
returns-in-Some-clause-memory c =
    let line = c.args.line.now in
    let said = short-line line c.if-line-gt65536.false ∙ c.in-Some.ensures in
    any-err c.vector_request.result (OpensNothing (request_of line))
    (subst OpensNothing (sym said) (opens-nothing (decimal_of c.in-Some.number.now) (few_pieces (pieces_of 32 c.in-Some.words.now))))
