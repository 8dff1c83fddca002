use Rattle.std.proofs.Common.{arith}
use Rattle.pfc_core.proofs.Begun.{new_held, new_in, new_found, new_said}
use Rattle.pfc_core.proofs.Turned.{new_turns}
use Rattle.pfc_core.proofs.file.FileCore.new.Goals as goal

pub invariant_of-result : goal.invariant_of-result
invariant_of-result g c = record {
  held = rw (c.in_ok-reserve.ensures.ok, c.new-log.ensures, c.new-2.ensures, c.new-5.ensures) (new_held _);
  guests = rw (c.in_ok-reserve.ensures.ok, c.new-log.ensures, c.new-3.ensures) new_in;
  found = rw (c.in_ok-reserve.ensures.ok, c.new-log.ensures, c.new-6.ensures) new_found;
  said = rw (c.in_ok-reserve.ensures.ok, c.new-log.ensures, c.in_ok-sets.ensures) (new_said _);
  room = rw (c.in_ok-reserve.ensures.ok, c.new-log.ensures, c.in_ok-sets.ensures, c.new-2.ensures, c.new-3.ensures, c.new-4.ensures, c.new-5.ensures, c.new-6.ensures) (omega arith);
  sized = rw (c.in_ok-reserve.ensures.ok, c.new-log.ensures, c.new-2.ensures) (record { some = c.requires.some; most = c.requires.most; blocks = λ is. c.requires.blocks; start = λ is. c.requires.bound });
  turns = rw (c.in_ok-reserve.ensures.ok, c.new-log.ensures, c.in_ok-sets.ensures) (new_turns _);
}
