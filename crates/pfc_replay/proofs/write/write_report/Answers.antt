use Rattle.std.proofs.Common.{refl, sym, ap, ◌++◌, []}
use Rattle.std.specs.List.{flat_map}
use Rattle.std.proofs.lemmas.List.{append-nil}
use Rattle.pfc_report.specs.Report.{told_text, section_text}
use Rattle.pfc_replay.proofs.Fronts.{front-of_part, nothing-more}
use Rattle.pfc_replay.proofs.write.write_report.Goals as goal

pub returns-in_err-write_clients-clause-front : goal.returns-in_err-write_clients-clause-front
returns-in_err-write_clients-clause-front g c =
    front-of_part _ _ _ _ [] (flat_map told_text c.args.report.now.clients) (flat_map section_text c.args.report.now.logs) _ refl (nothing-more _ _)
    (rw c.clients.ensures at c.in_err-write_clients.ensures.front)

pub returns-in_err-write_logs-clause-front : goal.returns-in_err-write_logs-clause-front
returns-in_err-write_logs-clause-front g c =
    front-of_part _ _ _ _ (flat_map told_text c.args.report.now.clients) (flat_map section_text c.args.report.now.logs) [] _
    (ap (λ t. flat_map told_text c.args.report.now.clients ++ t) (sym (append-nil (flat_map section_text c.args.report.now.logs))))
    (rw c.clients.ensures at c.in_ok-write_clients.ensures.ok) (rw c.logs.ensures at c.in_err-write_logs.ensures.front)

pub returns-clause-front : goal.returns-clause-front
returns-clause-front g c =
    front-of_part _ _ _ _ (flat_map told_text c.args.report.now.clients) (flat_map section_text c.args.report.now.logs) [] _
    (ap (λ t. flat_map told_text c.args.report.now.clients ++ t) (sym (append-nil (flat_map section_text c.args.report.now.logs))))
    (rw c.clients.ensures at c.in_ok-write_clients.ensures.ok) (rw c.logs.ensures at c.in_ok-write_logs.ensures.front)
