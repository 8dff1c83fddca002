use Rattle.std.proofs.Common.{◌∙◌}
use Rattle.indexmap.proofs.CallerLemmas.{insert_entry-new}
use Rattle.pfc_catalog.specs.Files.{same_path}
use Rattle.pfc_catalog.proofs.files.Files.add.Goals as goal

pub returns-clause-ok : goal.returns-clause-ok
returns-clause-ok c = rw (← c.self.view_is) (c.in_ok-insert.ensures.entries ∙ insert_entry-new same_path c.self.inside.map c.args.path c.args.entry (rw (c.self.view_is) c.requires))
