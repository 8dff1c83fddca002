use Rattle.std.proofs.Common.{refl}
use Rattle.pfc_replay.proofs.outside.run_by.Goals as goal

pub run_replay-requires-clause-sound : goal.run_replay-requires-clause-sound
run_replay-requires-clause-sound c = λ κs told tells path. c.requires.sound path

pub returns-clause-sound : goal.returns-clause-sound
returns-clause-sound c = λ path. c.run_replay.ensures.sound refl refl path
