-- Lines that ask nothing of a core.
use Rattle.std.proofs.Common.{◌≡◌, refl}
use Rattle.std.specs.Prelude.{Result, Ok, Err}
use Rattle.pfc_client.specs.declared.request.Request.{Request}
use Rattle.pfc_client.specs.declared.request.Request.TheVariants as q
use Rattle.pfc_client.specs.declared.request.RequestRefusal.{RequestRefusal}
use Rattle.pfc_client.specs.declared.reply.Reply.{Reply}
use Rattle.pfc_client.specs.Requests.{OpensNothing}
use Rattle.pfc_client.specs.Told.{stats_at}

-- where nothing is opened no size is asked for
pub no_stats : (said : Result Request RequestRefusal) (reply : Reply) → OpensNothing said → stats_at said reply ≡ 0
no_stats (Err refusal) reply nothing = refl
no_stats (Ok (q.Open number path)) reply nothing = absurd nothing
no_stats (Ok (q.Read number pieces)) reply nothing = refl
no_stats (Ok (q.Close number)) reply nothing = refl
