-- Each arm is its line of the definition. Assumes nothing.
use Rattle.columns.specs.Patterns.{codes}
use Rattle.leg.specs.Terminator.{needed, needs}
use Rattle.leg.proofs.terminator.Terminator.letters.Goals as goal

pub returns-in-Af : goal.returns-in-Af
unfolding needed needs codes
returns-in-Af c = rw c.in-Af.is

pub returns-in-Ca : goal.returns-in-Ca
unfolding needed needs codes
returns-in-Ca c = rw c.in-Ca.is

pub returns-in-Cd : goal.returns-in-Cd
unfolding needed needs codes
returns-in-Cd c = rw c.in-Cd.is

pub returns-in-Cf : goal.returns-in-Cf
unfolding needed needs codes
returns-in-Cf c = rw c.in-Cf.is

pub returns-in-Ci : goal.returns-in-Ci
unfolding needed needs codes
returns-in-Ci c = rw c.in-Ci.is

pub returns-in-Cr : goal.returns-in-Cr
unfolding needed needs codes
returns-in-Cr c = rw c.in-Cr.is

pub returns-in-Df : goal.returns-in-Df
unfolding needed needs codes
returns-in-Df c = rw c.in-Df.is

pub returns-in-Fa : goal.returns-in-Fa
unfolding needed needs codes
returns-in-Fa c = rw c.in-Fa.is

pub returns-in-Fc : goal.returns-in-Fc
unfolding needed needs codes
returns-in-Fc c = rw c.in-Fc.is

pub returns-in-Fd : goal.returns-in-Fd
unfolding needed needs codes
returns-in-Fd c = rw c.in-Fd.is

pub returns-in-Fm : goal.returns-in-Fm
unfolding needed needs codes
returns-in-Fm c = rw c.in-Fm.is

pub returns-in-Ha : goal.returns-in-Ha
unfolding needed needs codes
returns-in-Ha c = rw c.in-Ha.is

pub returns-in-Hf : goal.returns-in-Hf
unfolding needed needs codes
returns-in-Hf c = rw c.in-Hf.is

pub returns-in-Hm : goal.returns-in-Hm
unfolding needed needs codes
returns-in-Hm c = rw c.in-Hm.is

pub returns-in-If : goal.returns-in-If
unfolding needed needs codes
returns-in-If c = rw c.in-If.is

pub returns-in-Pi : goal.returns-in-Pi
unfolding needed needs codes
returns-in-Pi c = rw c.in-Pi.is

pub returns-in-Rf : goal.returns-in-Rf
unfolding needed needs codes
returns-in-Rf c = rw c.in-Rf.is

pub returns-in-Tf : goal.returns-in-Tf
unfolding needed needs codes
returns-in-Tf c = rw c.in-Tf.is

pub returns-in-Va : goal.returns-in-Va
unfolding needed needs codes
returns-in-Va c = rw c.in-Va.is

pub returns-in-Vd : goal.returns-in-Vd
unfolding needed needs codes
returns-in-Vd c = rw c.in-Vd.is

pub returns-in-Vi : goal.returns-in-Vi
unfolding needed needs codes
returns-in-Vi c = rw c.in-Vi.is

pub returns-in-Vm : goal.returns-in-Vm
unfolding needed needs codes
returns-in-Vm c = rw c.in-Vm.is

pub returns-in-Vr : goal.returns-in-Vr
unfolding needed needs codes
returns-in-Vr c = rw c.in-Vr.is
