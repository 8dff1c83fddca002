use Rattle.std.proofs.Common.{arith}
use Rattle.std.proofs.lemmas.Grind.{common_steps}
use Rattle.pfc_client.specs.Requests.{plain_words-long}
use Rattle.pfc_client.proofs.request.request_in_words.Goals as goal

pub returns-in-Some-rest-3 : goal.returns-in-Some-rest-3
returns-in-Some-rest-3 c = grind (arith, common_steps, plain_words-long)
