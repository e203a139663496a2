use Rattle.std.proofs.Common.{◌≡◌, ◌∙◌, ℕ, arith, ap, false, subst, sym, Some}
use Rattle.std.proofs.lemmas.Result.{IfOk-weaker, on_ok_weaker, on_err_weaker}
use Rattle.usb_kernel.specs.Value.{KernelState}
use Rattle.usb_kernel.specs.ClaimLaws.{is_claimed}
use Rattle.usb_kernel.specs.Legal.{IsLawful}
use Rattle.usb_device_host.specs.HostState.{HostState}
use Rattle.usb_device_host.specs.Finishes.{HasEnds, HasCompletions, KeepsNothing}
use Rattle.usb_session.specs.Output.{output}
use Rattle.usb_session.specs.Sums.{counts_of, sum_of}
use Rattle.usb_session.proofs.HandleLemmas.{served-handles, final-counted, fates-of_scripts}
use Rattle.usb_session.proofs.PlaceLemmas.{polls-of_scripts}
use Rattle.usb_session.proofs.PrintedLaw.{scripts-print}
use Rattle.usb_session.proofs.ControlsLaw.{scripts-serve_controls}
use Rattle.usb_session.proofs.ClientsLaw.{served-clients}
use Rattle.usb_session.proofs.FramedScripts.{framed-scripts}
use Rattle.usb_session.proofs.HandedScripts.{handed-scripts}
use Rattle.usb_session.proofs.WrittenLaw.{written-scripts}
use Rattle.usb_session_run.specs.Stops.{StoppedBehind, KeepsAnswered}
use Rattle.usb_session_run.proofs.Exchanges.{messages-arrive, messages-keep-arriving}
use Rattle.usb_session_run.proofs.RunLemmas.{running-none, answered-but_fates, host-final, answered-end, answered-cut, answered-sum, always-ok}
use Rattle.usb_session_run.proofs.StopLemmas.{stopped-ended, stopped-keeps, final-keeps, some-has, always-on_ok}
use Rattle.usb_session_run.proofs.run.answer_items.Goals as goal

pub write_summary-result-requires : goal.write_summary-result-requires
write_summary-result-requires g c =
    record { ended = c.end-host.ensures.ended }

pub answer_each-requires-clause-room : goal.answer_each-requires-clause-room
answer_each-requires-clause-room g c =
    omega (arith, c.in-Ok.ensures.spare, c.requires.places)

pub returns-in-Ok-answer_each-clause-ok : goal.returns-in-Ok-answer_each-clause-ok
returns-in-Ok-answer_each-clause-ok g c =
    let wrote = answered-but_fates c.answer_each.new.session c.end-host.result c.args.items.items c.in-Ok-answer_each.ensures.ok c.end-host.ensures.host in
    on_ok_weaker c.write_summary-result.result (λ appends. answered-end (g.K.Sink.written c.write_summary-result.new.sink) c.end-host.result c.args.items.items wrote appends) c.write_summary-result.ensures.ok

pub returns-in-Ok-answer_each-clause-err : goal.returns-in-Ok-answer_each-clause-err
returns-in-Ok-answer_each-clause-err g c =
    let wrote = answered-but_fates c.answer_each.new.session c.end-host.result c.args.items.items c.in-Ok-answer_each.ensures.ok c.end-host.ensures.host in
    on_err_weaker c.write_summary-result.result (λ cut. answered-cut (g.K.Sink.written c.write_summary-result.new.sink) c.end-host.result c.args.items.items wrote cut) c.write_summary-result.ensures.err

pub returns-in-Ok-answer_each-clause-summary : goal.returns-in-Ok-answer_each-clause-summary
returns-in-Ok-answer_each-clause-summary g c =
    let final = host-final c.answer_each.new.session c.end-host.result c.args.items.items c.in-Ok-answer_each.ensures.ok c.end-host.ensures.host in
    IfOk-weaker c.write_summary-result.result (λ s. s ≡ counts_of c.in-Ok-answer_each.calls c.end-host.result) (λ s. s ≡ sum_of c.args.items.items)
    (λ s sums. answered-sum c.end-host.result c.args.items.items c.in-Ok-answer_each.calls s final sums c.in-Ok-answer_each.ensures.calls) c.write_summary-result.ensures.summary

pub returns-in-Ok-answer_each-clause-ended : goal.returns-in-Ok-answer_each-clause-ended
returns-in-Ok-answer_each-clause-ended g c =
    let final = host-final c.answer_each.new.session c.end-host.result c.args.items.items c.in-Ok-answer_each.ensures.ok c.end-host.ensures.host in
    let ends = subst (λ (h : HostState). HasEnds h.tickets) (final) c.end-host.ensures.ended in
    always-ok c.write_summary-result.result ends

pub returns-in-Ok-answer_each-clause-last_reaped : goal.returns-in-Ok-answer_each-clause-last_reaped
returns-in-Ok-answer_each-clause-last_reaped g c =
    let final = host-final c.answer_each.new.session c.end-host.result c.args.items.items c.in-Ok-answer_each.ensures.ok c.end-host.ensures.host in
    let reaped = subst (λ (h : HostState). HasCompletions h.kernel.past) (final) c.end-host.ensures.reaped in
    always-ok c.write_summary-result.result reaped

pub returns-in-Ok-answer_each-clause-keeps_nothing : goal.returns-in-Ok-answer_each-clause-keeps_nothing
returns-in-Ok-answer_each-clause-keeps_nothing g c =
    let final = host-final c.answer_each.new.session c.end-host.result c.args.items.items c.in-Ok-answer_each.ensures.ok c.end-host.ensures.host in
    always-ok c.write_summary-result.result (subst KeepsNothing final c.end-host.ensures.keeps_nothing)

pub returns-in-Ok-answer_each-clause-counted : goal.returns-in-Ok-answer_each-clause-counted
returns-in-Ok-answer_each-clause-counted g c =
    always-ok c.write_summary-result.result (final-counted c.args.items.items)

pub returns-in-Ok-answer_each-clause-served : goal.returns-in-Ok-answer_each-clause-served
returns-in-Ok-answer_each-clause-served g c =
    let final = host-final c.answer_each.new.session c.end-host.result c.args.items.items c.in-Ok-answer_each.ensures.ok c.end-host.ensures.host in
    let ends = subst (λ (h : HostState). HasEnds h.tickets) (final) c.end-host.ensures.ended in
    always-ok c.write_summary-result.result (served-handles c.args.items.items ends)

pub returns-in-Ok-answer_each-clause-printed : goal.returns-in-Ok-answer_each-clause-printed
returns-in-Ok-answer_each-clause-printed g c =
    always-ok c.write_summary-result.result (scripts-print c.args.items.items)

pub returns-in-Ok-answer_each-clause-controls : goal.returns-in-Ok-answer_each-clause-controls
returns-in-Ok-answer_each-clause-controls g c =
    let final = host-final c.answer_each.new.session c.end-host.result c.args.items.items c.in-Ok-answer_each.ensures.ok c.end-host.ensures.host in
    let ends = subst (λ (h : HostState). HasEnds h.tickets) (final) c.end-host.ensures.ended in
    always-ok c.write_summary-result.result (scripts-serve_controls c.args.items.items ends)

pub returns-in-Ok-answer_each-clause-fates : goal.returns-in-Ok-answer_each-clause-fates
returns-in-Ok-answer_each-clause-fates g c =
    let final = host-final c.answer_each.new.session c.end-host.result c.args.items.items c.in-Ok-answer_each.ensures.ok c.end-host.ensures.host in
    let ends = subst (λ (h : HostState). HasEnds h.tickets) (final) c.end-host.ensures.ended in
    let reaped = subst (λ (h : HostState). HasCompletions h.kernel.past) (final) c.end-host.ensures.reaped in
    always-ok c.write_summary-result.result (fates-of_scripts c.args.items.items ends reaped)

pub returns-in-Ok-answer_each-clause-polled : goal.returns-in-Ok-answer_each-clause-polled
returns-in-Ok-answer_each-clause-polled g c =
    always-ok c.write_summary-result.result (polls-of_scripts c.args.items.items)

pub returns-in-Ok-answer_each-clause-framed : goal.returns-in-Ok-answer_each-clause-framed
returns-in-Ok-answer_each-clause-framed g c =
    let final = host-final c.answer_each.new.session c.end-host.result c.args.items.items c.in-Ok-answer_each.ensures.ok c.end-host.ensures.host in
    let lawful = subst (λ (h : HostState). IsLawful h.kernel.past) (final) c.end-host.ensures.lawful in
    always-ok c.write_summary-result.result (framed-scripts c.args.items.items lawful)

pub returns-in-Ok-answer_each-clause-handed : goal.returns-in-Ok-answer_each-clause-handed
returns-in-Ok-answer_each-clause-handed g c =
    always-ok c.write_summary-result.result (handed-scripts c.args.items.items)

pub returns-in-Ok-answer_each-clause-told : goal.returns-in-Ok-answer_each-clause-told
returns-in-Ok-answer_each-clause-told g c =
    always-ok c.write_summary-result.result (written-scripts c.args.items.items)

pub returns-in-Ok-answer_each-clause-exchanged : goal.returns-in-Ok-answer_each-clause-exchanged
returns-in-Ok-answer_each-clause-exchanged g c =
    let final = host-final c.answer_each.new.session c.end-host.result c.args.items.items c.in-Ok-answer_each.ensures.ok c.end-host.ensures.host in
    let lawful = subst (λ (h : HostState). IsLawful h.kernel.past) (final) c.end-host.ensures.lawful in
    always-ok c.write_summary-result.result (messages-arrive c.args.items.items lawful)

pub returns-in-Ok-answer_each-clause-keeps_arriving : goal.returns-in-Ok-answer_each-clause-keeps_arriving
returns-in-Ok-answer_each-clause-keeps_arriving g c =
    let final = host-final c.answer_each.new.session c.end-host.result c.args.items.items c.in-Ok-answer_each.ensures.ok c.end-host.ensures.host in
    let lawful = subst (λ (h : HostState). IsLawful h.kernel.past) (final) c.end-host.ensures.lawful in
    always-ok c.write_summary-result.result (messages-keep-arriving c.args.items.items lawful)

pub returns-in-Ok-answer_each-clause-clients : goal.returns-in-Ok-answer_each-clause-clients
returns-in-Ok-answer_each-clause-clients g c =
    let final = host-final c.answer_each.new.session c.end-host.result c.args.items.items c.in-Ok-answer_each.ensures.ok c.end-host.ensures.host in
    let lawful = subst (λ (h : HostState). IsLawful h.kernel.past) (final) c.end-host.ensures.lawful in
    always-ok c.write_summary-result.result (served-clients c.args.items.items lawful)

pub returns-in-Ok-answer_each-clause-kernel : goal.returns-in-Ok-answer_each-clause-kernel
returns-in-Ok-answer_each-clause-kernel g c =
    let final = host-final c.answer_each.new.session c.end-host.result c.args.items.items c.in-Ok-answer_each.ensures.ok c.end-host.ensures.host in
    always-on_ok c.write_summary-result.result (ap (λ k. Some k) (c.into_kernel.ensures.kernel ∙ ap (λ (h : HostState). h.kernel) final))

pub returns-in-Ok-answer_each-clause-reaped : goal.returns-in-Ok-answer_each-clause-reaped
returns-in-Ok-answer_each-clause-reaped g c =
    some-has (λ (k : KernelState). HasCompletions k.past) c.into_kernel.result (subst (λ (k : KernelState). HasCompletions k.past) (sym c.into_kernel.ensures.kernel) c.end-host.ensures.reaped)

pub returns-in-Ok-answer_each-clause-lawful : goal.returns-in-Ok-answer_each-clause-lawful
returns-in-Ok-answer_each-clause-lawful g c =
    some-has (λ (k : KernelState). IsLawful k.past) c.into_kernel.result (subst (λ (k : KernelState). IsLawful k.past) (sym c.into_kernel.ensures.kernel) c.end-host.ensures.lawful)

pub returns-clause-reaped : goal.returns-clause-reaped
returns-clause-reaped g c =
    some-has (λ (k : KernelState). HasCompletions k.past) c.into_kernel-in-Err.result (subst (λ (k : KernelState). HasCompletions k.past) (sym c.into_kernel-in-Err.ensures.kernel) c.end-host-in-Err.ensures.reaped)

pub returns-clause-lawful : goal.returns-clause-lawful
returns-clause-lawful g c =
    some-has (λ (k : KernelState). IsLawful k.past) c.into_kernel-in-Err.result (subst (λ (k : KernelState). IsLawful k.past) (sym c.into_kernel-in-Err.ensures.kernel) c.end-host-in-Err.ensures.lawful)

pub returns-in-Ok-answer_each-clause-goes_on : goal.returns-in-Ok-answer_each-clause-goes_on
returns-in-Ok-answer_each-clause-goes_on g c =
    let old = g.K.Sink.written c.args.sink.now in
    let now = g.K.Sink.written c.write_summary-result.new.sink in
    let final = host-final c.answer_each.new.session c.end-host.result c.args.items.items c.in-Ok-answer_each.ensures.ok c.end-host.ensures.host in
    some-has (λ (k : KernelState). KeepsAnswered old now c.args.items.items k.past) c.into_kernel.result
    (final-keeps old now c.args.items.items c.into_kernel.result.past (ap (λ (k : KernelState). k.past) c.into_kernel.ensures.kernel ∙ ap (λ (h : HostState). h.kernel.past) final))

pub returns-clause-goes_on : goal.returns-clause-goes_on
returns-clause-goes_on g c =
    let old = g.K.Sink.written c.args.sink.now in
    let now = g.K.Sink.written c.answer_each.new.sink in
    let ended = stopped-ended c.answer_each.new.session.host.kernel.past c.end-host-in-Err.result.kernel.past c.in-Err.ensures.stopped c.end-host-in-Err.ensures.goes_on in
    some-has (λ (k : KernelState). KeepsAnswered old now c.args.items.items k.past) c.into_kernel-in-Err.result
    (stopped-keeps old now c.args.items.items c.into_kernel-in-Err.result.past (subst (λ (k : KernelState). StoppedBehind old now c.args.items.items k.past) (sym c.into_kernel-in-Err.ensures.kernel) ended))

pub returns-in_default-clause-err : goal.returns-in_default-clause-err
returns-in_default-clause-err g c =
    running-none (g.K.Sink.written c.args.sink.now) (output c.args.items.items)

pub returns-in-Ok-answer_each-clause-unclaimed : goal.returns-in-Ok-answer_each-clause-unclaimed
returns-in-Ok-answer_each-clause-unclaimed g c =
    some-has (λ (k : KernelState). (d n : ℕ) → is_claimed k.devices d n ≡ false) c.into_kernel.result (subst (λ (k : KernelState). (d n : ℕ) → is_claimed k.devices d n ≡ false) (sym c.into_kernel.ensures.kernel) c.end-host.ensures.unclaimed)

pub returns-clause-unclaimed : goal.returns-clause-unclaimed
returns-clause-unclaimed g c =
    some-has (λ (k : KernelState). (d n : ℕ) → is_claimed k.devices d n ≡ false) c.into_kernel-in-Err.result (subst (λ (k : KernelState). (d n : ℕ) → is_claimed k.devices d n ≡ false) (sym c.into_kernel-in-Err.ensures.kernel) c.end-host-in-Err.ensures.unclaimed)
