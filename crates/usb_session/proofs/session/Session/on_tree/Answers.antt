use Rattle.usb_kernel.proofs.Extends.{extends-same}
use Rattle.usb_session.proofs.session.Session.on_tree.Goals as goal

pub returns-in-List-clause-later : goal.returns-in-List-clause-later
returns-in-List-clause-later c = extends-same c.args.self.now.host.kernel.past

pub returns-in-Buses-clause-later : goal.returns-in-Buses-clause-later
returns-in-Buses-clause-later c = extends-same c.args.self.now.host.kernel.past

pub returns-in-Probe-clause-later : goal.returns-in-Probe-clause-later
returns-in-Probe-clause-later c = extends-same c.args.self.now.host.kernel.past

pub returns-in-Match-clause-later : goal.returns-in-Match-clause-later
returns-in-Match-clause-later c = extends-same c.args.self.now.host.kernel.past
