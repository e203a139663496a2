use Rattle.usb_kernel.proofs.Extends.{extends-same}
use Rattle.usb_session.proofs.session.Session.call.Goals as goal

pub returns-in-Setup-clause-later : goal.returns-in-Setup-clause-later
returns-in-Setup-clause-later c = extends-same c.args.self.now.host.kernel.past

pub returns-in-Now-clause-later : goal.returns-in-Now-clause-later
returns-in-Now-clause-later c = extends-same c.args.self.now.host.kernel.past
