use Rattle.std.proofs.Common.{false}
use Rattle.std.specs.Prelude.{is_ok}
use Rattle.pfc_store.proofs.Mains.{after_write, after_sync, after_rename, renamed_only}
use Rattle.pfc_store.proofs.info.replace_main.Goals as goal

pub returns-in_err-write_temp-clause-moments : goal.returns-in_err-write_temp-clause-moments
returns-in_err-write_temp-clause-moments g c tells = after_write c.args.bytes.now (g.I.InfoDev.seen c.args.device.now) false (g.I.InfoDev.seen c.write_temp.new.self) (c.in_err-write_temp.ensures.write tells)

pub returns-in_err-sync_temp-clause-moments : goal.returns-in_err-sync_temp-clause-moments
returns-in_err-sync_temp-clause-moments g c tells = after_sync c.args.bytes.now (g.I.InfoDev.seen c.args.device.now) false (g.I.InfoDev.seen c.write_temp.new.self) (g.I.InfoDev.seen c.sync_temp.new.self) (c.in_ok-write_temp.ensures.write tells) (c.in_err-sync_temp.ensures.sync tells)

pub returns-clause-moments : goal.returns-clause-moments
returns-clause-moments g c tells = after_rename c.args.bytes.now (g.I.InfoDev.seen c.args.device.now) (is_ok c.rename.result) (g.I.InfoDev.seen c.write_temp.new.self) (g.I.InfoDev.seen c.sync_temp.new.self) (g.I.InfoDev.seen c.rename.new.self) (c.in_ok-write_temp.ensures.write tells) (c.in_ok-sync_temp.ensures.sync tells) (c.rename.ensures.rename tells)

pub returns-clause-done : goal.returns-clause-done
returns-clause-done g c done tells = renamed_only c.args.bytes.now (g.I.InfoDev.seen c.args.device.now) (is_ok c.rename.result) (g.I.InfoDev.seen c.write_temp.new.self) (g.I.InfoDev.seen c.sync_temp.new.self) (g.I.InfoDev.seen c.rename.new.self) done (c.in_ok-write_temp.ensures.write tells) (c.in_ok-sync_temp.ensures.sync tells) (c.rename.ensures.rename tells)
