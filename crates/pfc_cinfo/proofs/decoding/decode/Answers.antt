use Rattle.std.proofs.Common.{Ok, sym, ◌∙◌}
use Rattle.std.proofs.lemmas.Result.{err_from_is_err_and}
use Rattle.pfc_cinfo.proofs.Passing.{passes-from_none}
use Rattle.pfc_cinfo.proofs.Decoded.{no-cinfo, is-cinfo, gives-from_decodes}
use Rattle.pfc_cinfo.proofs.decoding.decode.Goals as goal

pub returns-in-Some : goal.returns-in-Some
returns-in-Some c =
    let bytes = c.args.bytes.now in
    let first = sym c.damage.ensures ∙ c.in-Some.is in
    let none = no-cinfo bytes c.in-Some.damage (λ i. (c.type_inv.bytes i).fits) first in
    record { exact = (first, none); again = none }

pub read-requires : goal.read-requires
read-requires c = passes-from_none c.args.bytes.now (sym c.damage.ensures ∙ c.in_default.is)

pub returns-in_err-read : goal.returns-in_err-read
returns-in_err-read c =
    let p = err_from_is_err_and c.from_residual.result c.from_residual.ensures.1 in
    rw (p.1, p.2) (record { exact = tt; again = λ cinfo is. tt })

pub returns : goal.returns
returns c =
    let bytes = c.args.bytes.now in
    let none = sym c.damage.ensures ∙ c.in_default.is in
    let is = is-cinfo bytes c.in_ok-read.field-0 (λ i. (c.type_inv.bytes i).fits) (passes-from_none bytes none) c.in_ok-read.ensures in
    record { exact = (is, none); again = gives-from_decodes bytes (Ok c.in_ok-read.field-0) (is, none) }
