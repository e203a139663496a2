-- Each turn is one more ticket, whose packet is added where it is a report.
use Rattle.std.proofs.Common.{◌≤◌, ◌∙◌, ap, sym, subst, refl}
use Rattle.std.specs.Prelude.{option_and_then}
use Rattle.usb_device_endpoint.specs.EndpointState.{EndpointState}
use Rattle.example_keyboard.specs.Reading.{report_in}
use Rattle.example_keyboard.proofs.ReportLemmas.{follows-start, follows-on, follows-end, failed-last, failed-none, more-asked, report-added}
use Rattle.example_keyboard.proofs.OpenHandles.{none-refl, none-trans}
use Rattle.example_keyboard.proofs.driver.read_all.Goals as goal

pub reports-init : goal.reports-init
reports-init c =
    record {
      none = c.requires.none;
      stands = c.requires.stands;
      key = refl;
      closed = none-refl c.args.host.now;
      input = c.requires.input;
      follows = follows-start c.args.host.now.kernel.past c.args.reports.now.items;
    }

pub returns-in_default-clause-reports : goal.returns-in_default-clause-reports
returns-in_default-clause-reports c =
    let one = c.in_ok-packet.ensures.packet in
    c.reserve.ensures.items
    ∙ follows-end _ _ _ _ _ _ c.reports.invariant.follows one.past one.ticket one.completion
    (ap (option_and_then report_in) c.in_default.is)

pub returns-in_err-packet-clause-closed : goal.returns-in_err-packet-clause-closed
returns-in_err-packet-clause-closed c = none-trans _ _ _ c.reports.invariant.closed c.next_packet.ensures.closed

pub returns-in_default-clause-asked : goal.returns-in_default-clause-asked
returns-in_default-clause-asked c =
    more-asked _ _ c.next_packet.new.host.kernel.past _ _ c.reports.invariant.follows c.in_ok-packet.ensures.packet.ticket

pub returns-in-Err-Disconnected-clause-asked : goal.returns-in-Err-Disconnected-clause-asked
returns-in-Err-Disconnected-clause-asked c =
    more-asked _ _ c.next_packet.new.host.kernel.past _ _ c.reports.invariant.follows c.in_ok-packet.ensures.packet.ticket

pub returns-in_default-clause-closed : goal.returns-in_default-clause-closed
returns-in_default-clause-closed c = none-trans _ _ _ c.reports.invariant.closed c.next_packet.ensures.closed

pub returns-in-Err-Disconnected-clause-closed : goal.returns-in-Err-Disconnected-clause-closed
returns-in-Err-Disconnected-clause-closed c = none-trans _ _ _ c.reports.invariant.closed c.next_packet.ensures.closed

pub returns-in-Err-Disconnected-clause-reports : goal.returns-in-Err-Disconnected-clause-reports
returns-in-Err-Disconnected-clause-reports c =
    let one = c.in_ok-packet.ensures.packet in
    c.reserve.ensures.items
    ∙ follows-end _ _ _ _ _ _ c.reports.invariant.follows one.past one.ticket one.completion
    (failed-none _ _ _ c.in-Some.is c.in-Err-Disconnected.is)

pub returns-in-Err : goal.returns-in-Err
returns-in-Err c =
    let one = c.in_ok-packet.ensures.packet in
    record {
      reports = c.reserve.ensures.items
          ∙ follows-end _ _ _ _ _ _ c.reports.invariant.follows one.past one.ticket one.completion
          (failed-none _ _ _ c.in-Some.is c.in-Err.is);
      end = failed-last c.reports.host.kernel.past _ _ _ _ one.ticket one.completion c.in-Some.is c.in-Err.is;
      asked = more-asked _ _ c.next_packet.new.host.kernel.past _ _ c.reports.invariant.follows one.ticket;
      stands = c.next_packet.ensures.stands;
      key = c.next_packet.ensures.key ∙ c.reports.invariant.key;
      closed = none-trans _ _ _ c.reports.invariant.closed c.next_packet.ensures.closed;
    }

pub reports-preserved : goal.reports-preserved
reports-preserved c =
    let one = c.in_ok-packet.ensures.packet in
    let same = rw c.in-Some.is at c.in_ok-packet.ensures.taken in
    record {
      none = ap (λ (e : EndpointState). e.pending) same ∙ c.reports.invariant.none;
      stands = c.next_packet.ensures.stands;
      key = c.next_packet.ensures.key ∙ c.reports.invariant.key;
      closed = none-trans _ _ _ c.reports.invariant.closed c.next_packet.ensures.closed;
      input = subst (λ (e : EndpointState). 128 ≤ e.address) (sym same) c.reports.invariant.input;
      follows = follows-on _ _ _ _ _ _ c.in-Some.packet c.reports.invariant.follows one.past one.ticket (one.completion ∙ c.in-Some.is)
          (report-added _ _ _ _ c.in-Some.packet _ c.add_report.ensures.added c.reserve.ensures.items c.as_slice.ensures.bytes c.in-Ok.is);
    }
