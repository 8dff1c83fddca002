-- What a run reports, and its text.
use Rattle.std.specs.Prelude.{ℕ, List, ◌++◌}
use Rattle.std.specs.List.{flat_map}
use Rattle.pfc_client.specs.Replies.{client_text}
use Rattle.pfc_log.specs.Text.{log_text}
use Rattle.pfc_report.specs.declared.report.Told.{Told}
use Rattle.pfc_report.specs.declared.report.Section.{Section}

-- what each client that was asked anything was told, and the log of each file's core
pub record ReportView : Type 0 where
  pub clients : List Told
  pub logs : List Section

abbrev pub told_text : Told → List ℕ
told_text told = client_text told.number told.replies

abbrev pub section_text : Section → List ℕ
section_text section = log_text section.path section.log.first section.log.entries

-- the clients, then the logs
abbrev pub report_text : ReportView → List ℕ
report_text report = flat_map told_text report.clients ++ flat_map section_text report.logs
