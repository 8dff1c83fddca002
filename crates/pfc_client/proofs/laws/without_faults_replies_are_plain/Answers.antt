use Rattle.pfc_client.proofs.Walks.{plain_permitted}
use Rattle.pfc_client.proofs.laws.without_faults_replies_are_plain.Goals as goal

pub returns : goal.returns
returns c = plain_permitted
