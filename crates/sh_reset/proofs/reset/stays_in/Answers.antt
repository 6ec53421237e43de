-- `sh_reset::reset::stays_in`: no bit of a register stays by the pin.
use Rattle.sh_reset.proofs.Laws.{pin_register}
use Rattle.sh_reset.specs.Reset.{stays_in}
use Rattle.sh_reset.proofs.reset.stays_in.Goals as goal

pub returns-in-Register-Pin : goal.returns-in-Register-Pin
unfolding stays_in
returns-in-Register-Pin c = rw (c.in-Register-Pin.is-0, c.in-Register-Pin.is-1) (pin_register c.args.a)
