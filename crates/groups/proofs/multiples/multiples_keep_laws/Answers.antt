use Rattle.groups.proofs.Times.{multiple_laws}
use Rattle.groups.proofs.multiples.multiples_keep_laws.Goals as goal

pub returns : goal.returns
returns g c =
    let device = c.args.device.now in
    multiple_laws (g.D.GroupDevice.group device) (g.met.D.GroupDevice.lawful device)
