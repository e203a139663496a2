use Rattle.std.proofs.Common.{◌∙◌, ap, sym, refl}
use Rattle.usb_kernel.specs.Value.{KernelState}
use Rattle.usb_kernel.specs.Info.{info_of}
use Rattle.usb_session_text.specs.Tickets.{ticket_line}
use Rattle.usb_session.specs.EndWords.{word_of}
use Rattle.usb_session.proofs.FateLemmas.{fate_line-is}
use Rattle.usb_session.proofs.fates.write_fate.Goals as goal

pub returns : goal.returns
returns c =
    let how = c.word_of-how.result.now in
    let is = fate_line-is c.args.host.now c.args.ticket c.ticket-info.result how (ticket_line c.args.ticket c.ticket-info.result how)
    (ap (λ (k : KernelState). info_of k.past c.args.ticket) (sym c.kernel.ensures.kernel) ∙ c.ticket-info.ensures.info)
    (c.word_of-how.ensures.word ∙ ap word_of c.ticket_end.ensures.end)
    refl in
    record { line = rw is at c.write_ticket.ensures.text }
