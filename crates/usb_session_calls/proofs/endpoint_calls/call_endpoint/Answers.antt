use Rattle.usb_session_calls.proofs.endpoint_calls.call_endpoint.Goals as goal

pub returns-in_ok-buffer-in-SubmitIn-clause-answered : goal.returns-in_ok-buffer-in-SubmitIn-clause-answered
returns-in_ok-buffer-in-SubmitIn-clause-answered c = rw c.in-SubmitIn.is (rw c.in_ok-buffer-in-SubmitIn.ensures.value at c.submit_open.ensures.answered)

pub returns-in-SubmitOut-clause-answered : goal.returns-in-SubmitOut-clause-answered
returns-in-SubmitOut-clause-answered c = rw c.in-SubmitOut.is (rw c.out_buffer-buffer.ensures.value at c.submit_open-in-SubmitOut.ensures.answered)

pub returns-in-Pending-clause-answered : goal.returns-in-Pending-clause-answered
returns-in-Pending-clause-answered c = rw c.in-Pending.is (c.pending_open.ensures.answered c.args.host.now)

pub returns-in-Poll-clause-answered : goal.returns-in-Poll-clause-answered
returns-in-Poll-clause-answered c = rw c.in-Poll.is c.poll_open.ensures.answered

pub returns-in-Wait-clause-answered : goal.returns-in-Wait-clause-answered
returns-in-Wait-clause-answered c = rw c.in-Wait.is c.wait_open.ensures.answered

pub returns-in_ok-buffer-in-TransferIn-clause-answered : goal.returns-in_ok-buffer-in-TransferIn-clause-answered
returns-in_ok-buffer-in-TransferIn-clause-answered c = rw c.in-TransferIn.is (rw c.in_ok-buffer-in-TransferIn.ensures.value at c.transfer_open.ensures.answered)

pub returns-in-TransferOut-clause-answered : goal.returns-in-TransferOut-clause-answered
returns-in-TransferOut-clause-answered c = rw c.in-TransferOut.is (rw c.out_buffer-buffer-in-TransferOut.ensures.value at c.transfer_open-in-TransferOut.ensures.answered)

pub returns-in-Cancel-clause-answered : goal.returns-in-Cancel-clause-answered
returns-in-Cancel-clause-answered c = rw c.in-Cancel.is c.cancel_open.ensures.answered

pub returns-in-ClearHalt-clause-answered : goal.returns-in-ClearHalt-clause-answered
returns-in-ClearHalt-clause-answered c = rw c.in-ClearHalt.is c.clear_open.ensures.answered
