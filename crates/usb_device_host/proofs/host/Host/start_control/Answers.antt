use Rattle.std.proofs.Common.{ℕ, ◌≡◌, ◌-◌, ◌++◌, ◌∷◌, [], length, ap, sym, ◌∙◌, arith, Option, Some}
use Rattle.std.proofs.lemmas.Option.{same_Some}
use Rattle.usb_xfer.specs.declared.transfer.TransferData.{TransferData}
use Rattle.usb_kernel.specs.declared.submission.Submission.{Submission}
use Rattle.usb_kernel.specs.Value.{KernelState}
use Rattle.usb_kernel.specs.Tickets.{tickets}
use Rattle.usb_kernel.specs.Submits.{submit_refusal, submit_or_refuse, kernel_submitted, queued_or_refused}
use Rattle.usb_kernel.specs.Timers.{deadline_after}
use Rattle.usb_kernel.specs.Holds.{held_at_once}
use Rattle.usb_device_tables.specs.History.{value_at}
use Rattle.usb_device_tables.proofs.ValueLemmas.{is-some, value-last, value-of_last}
use Rattle.usb_device_ledger.specs.TicketStates as slot
use Rattle.usb_device_ledger.specs.Entries.{HostEndpoint, control_endpoint}
use Rattle.usb_device_ledger.specs.Slots.{slots_with}
use Rattle.usb_device_ledger.specs.LedgerState.{LedgerState, tickets_in}
use Rattle.usb_device_host.specs.HostState.{HostState}
use Rattle.usb_device_host.specs.Controls.{host_started, control_submission}
use Rattle.usb_device_host.proofs.EnterLemmas.{TicketsAgree-enter}
use Rattle.usb_device_host.proofs.ControlLemmas.{whole-once, started-made}
use Rattle.usb_device_host.proofs.host.Host.start_control.Goals as goal

pub submit-requires : goal.submit-requires
submit-requires c =
    let s = c.submission_from-submission.result in
    record { whole = whole-once s (ap (λ (s : Submission). s.maximum) c.submission_from-submission.ensures.submission ∙ ap (λ (s : Submission). s.buffer.requested) (sym c.submission_from-submission.ensures.submission)) }

pub hold-requires-clause-there : goal.hold-requires-clause-there
hold-requires-clause-there c =
    let es = c.self.inside.ledger.endpoints in
    let e = control_endpoint c.args.request.endpoint in
    let reserved = c.reserve.ensures.rest in
    let endpoints : c.open_control.new.self.endpoints ≡ es ++ Some e ∷ [] = ap (λ (l : LedgerState). l.endpoints) c.in_ok-key.ensures.endpoints ∙ ap (λ (l : LedgerState). l.endpoints ++ Some e ∷ []) reserved in
    let key : c.in_ok-key.key ≡ length es = c.in_ok-key.ensures.key ∙ ap (λ (l : LedgerState). length l.endpoints) reserved in
    is-some _ e (ap (λ xs. value_at xs c.in_ok-key.key) endpoints ∙ (ap (value_at (es ++ Some e ∷ [])) key ∙ value-last es (Some e)))

pub hold-requires-clause-open : goal.hold-requires-clause-open
hold-requires-clause-open c = λ x at.
    let es = c.self.inside.ledger.endpoints in
    let e = control_endpoint c.args.request.endpoint in
    let reserved = c.reserve.ensures.rest in
    let endpoints : c.open_control.new.self.endpoints ≡ es ++ Some e ∷ [] = ap (λ (l : LedgerState). l.endpoints) c.in_ok-key.ensures.endpoints ∙ ap (λ (l : LedgerState). l.endpoints ++ Some e ∷ []) reserved in
    let key : c.in_ok-key.key ≡ length es = c.in_ok-key.ensures.key ∙ ap (λ (l : LedgerState). length l.endpoints) reserved in
    let here : value_at c.open_control.new.self.endpoints c.in_ok-key.key ≡ Some e = ap (λ xs. value_at xs c.in_ok-key.key) endpoints ∙ (ap (value_at (es ++ Some e ∷ [])) key ∙ value-last es (Some e)) in
    ap (λ (e : HostEndpoint). e.is_open) (same_Some x e (sym at ∙ here))

pub take_control_back-requires-clause-control : goal.take_control_back-requires-clause-control
take_control_back-requires-clause-control c = λ x at.
    let es = c.reserve.new.self.endpoints in
    let e = control_endpoint c.args.request.endpoint in
    let endpoints : c.open_control.new.self.endpoints ≡ es ++ Some e ∷ [] = ap (λ (l : LedgerState). l.endpoints) c.in_ok-key.ensures.endpoints in
    let here : value_at c.open_control.new.self.endpoints (length c.open_control.new.self.endpoints - 1) ≡ Some e = ap (λ xs. value_at xs (length xs - 1)) endpoints ∙ value-of_last es (Some e) in
    ap (λ (e : HostEndpoint). e.interface) (same_Some x e (sym at ∙ here))

pub invariant_of-self-in-Ok : goal.invariant_of-self-in-Ok
invariant_of-self-in-Ok c =
    let k = c.self.inside.kernel in
    let l = c.self.inside.ledger in
    let held = c.ticket_from-entry.result.held in
    let sub = c.submission_from-submission.result in
    let transfer : TransferData = record { endpoint = c.args.request.endpoint; kind = c.args.request.kind; held = held } in
    let refusal : Option ℕ = submit_refusal k.devices k.armed sub.device in
    let slots : c.hold.new.self.slots ≡ l.slots ++ slot.HeldBy c.in_ok-key.key transfer ∷ [] =
    ap (λ (x : LedgerState). x.slots) c.hold.ensures.slots ∙ ap (λ (t : TransferData). c.open_control.new.self.slots ++ slot.HeldBy c.in_ok-key.key (record t { held = held }) ∷ []) c.submission_from-submission.ensures.rest ∙ ap (λ (x : LedgerState). x.slots ++ slot.HeldBy c.in_ok-key.key transfer ∷ []) (c.in_ok-key.ensures.endpoints ∙ ap (λ (x : LedgerState). record x { endpoints = x.endpoints ++ Some (control_endpoint c.args.request.endpoint) ∷ [] }) c.reserve.ensures.rest) in
    let past : c.submit.new.self.past ≡ submit_or_refuse (length (tickets k.past)) sub refusal ∷ k.past = c.in-Ok.ensures.past in
    let held_is : held ≡ held_at_once (queued_or_refused (length (tickets k.past)) sub refusal) = c.ticket_from-entry.ensures.held ∙ ap held_at_once c.in-Ok.ensures.submitted in
    record {
      agree = rw (slots, past) (TicketsAgree-enter k.past l.slots sub refusal c.in_ok-key.key transfer c.self.invariant.agree held_is);
      room = omega (arith, ap (λ (x : KernelState). x.spare) c.submit.ensures.rest, c.self.invariant.room);
      errnos = c.self.invariant.errnos;
    }

pub returns-in-Ok-clause-ok : goal.returns-in-Ok-clause-ok
returns-in-Ok-clause-ok c =
    let k = c.self.inside.kernel in
    let l = c.self.inside.ledger in
    let held = c.ticket_from-entry.result.held in
    let sub = c.submission_from-submission.result in
    let now = c.args.self.now in
    let address = c.args.request.endpoint in
    let e = control_endpoint address in
    let transfer : TransferData = record { endpoint = address; kind = c.args.request.kind; held = held } in
    let room = c.hold.new.self.room in
    let count = slots_with (tickets_in l) l.slot_count in
    let key : c.in_ok-key.key ≡ length l.endpoints = c.in_ok-key.ensures.key ∙ ap (λ (x : LedgerState). length x.endpoints) c.reserve.ensures.rest in
    let opened : c.open_control.new.self ≡ record l { endpoints = l.endpoints ++ Some e ∷ []; room = c.reserve.new.self.room } =
    c.in_ok-key.ensures.endpoints ∙ ap (λ (x : LedgerState). record x { endpoints = x.endpoints ++ Some e ∷ [] }) c.reserve.ensures.rest in
    let ledger : c.hold.new.self ≡ record l { endpoints = l.endpoints ++ Some e ∷ []; slots = l.slots ++ slot.HeldBy c.in_ok-key.key transfer ∷ []; room = room; slot_count = count } =
    c.hold.ensures.slots ∙ ap (λ (t : TransferData). record c.open_control.new.self { slots = c.open_control.new.self.slots ++ slot.HeldBy c.in_ok-key.key (record t { held = held }) ∷ []; room = room; slot_count = slots_with (tickets_in c.open_control.new.self) c.open_control.new.self.slot_count }) c.submission_from-submission.ensures.rest ∙ ap (λ (x : LedgerState). record x { slots = x.slots ++ slot.HeldBy c.in_ok-key.key transfer ∷ []; room = room; slot_count = slots_with (tickets_in x) x.slot_count }) opened in
    let endpoint : sub.endpoint ≡ address = ap (λ (s : Submission). s.endpoint) c.submission_from-submission.ensures.submission in
    let kind : sub.kind ≡ c.args.request.kind = ap (λ (s : Submission). s.kind) c.submission_from-submission.ensures.submission in
    let kernel : c.submit.new.self ≡ kernel_submitted k sub =
    c.submit.ensures.rest ∙ (ap (λ p. record k { past = p; armed = c.submit.new.self.armed }) c.in-Ok.ensures.past ∙ ap (λ a. record k { past = (kernel_submitted k sub).past; armed = a }) c.in-Ok.ensures.armed) in
    let made : c.hold.new.self ≡ record l { endpoints = l.endpoints ++ Some (control_endpoint sub.endpoint) ∷ []; slots = l.slots ++ slot.HeldBy (length l.endpoints) (record { endpoint = sub.endpoint; kind = sub.kind; held = held }) ∷ []; room = room; slot_count = count } = rw (endpoint, kind, sym key) ledger in
    let submission : sub ≡ control_submission now c.args.device c.args.request c.args.timeout =
    c.submission_from-submission.ensures.submission ∙ ap (λ d. record (control_submission now c.args.device c.args.request c.args.timeout) { deadline = Some d }) (c.deadline_after-deadline.ensures.deadline ∙ (ap (λ clock. deadline_after clock c.args.timeout) c.now.ensures.clock ∙ ap (λ (h : HostState). deadline_after h.kernel.clock c.args.timeout) c.self.view_is)) in
    started-made k c.submit.new.self c.self.inside.devices l c.hold.new.self c.self.inside.steps.items sub held room kernel made
    ∙ (ap (λ (h : HostState). host_started h sub) c.self.view_is ∙ ap (host_started now) submission)
